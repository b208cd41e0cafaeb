-- How far counting has come: as decoding with these values, of which so many pass the test.
use Rattle.std.proofs.Common.{◌≡◌, ℕ, ◌+◌, ◌-◌, ◌^◌, ◌<◌, ◌≤◌, List, [], ◌++◌, length, take, replicate, min, refl, sym, ap, subst, ◌∙◌, arith, cond}
use Rattle.std.specs.List.{count_by}
use Rattle.std.proofs.lemmas.List.{length-append, length-take, length-replicate, take-replicate, take_min}
use Rattle.std.proofs.lemmas.List.Sums.{count_by-le-length, sum_by-append}
use Rattle.std.proofs.Math.Nat.{sub-zero}
use Rattle.dk_grammar.specs.Runs.{AreFirst, BeginRun, EndShort}
use Rattle.dk_grammar.proofs.Runs.{short_has_none}
use Rattle.dk_hybrid.specs.Runs.{kept_values, passes, Counts, KeepsRun}
use Rattle.dk_hybrid.specs.declared.counting.Test.{Test}
use Rattle.dk_hybrid.specs.declared.run.Run.{Run}
use Rattle.dk_hybrid.proofs.Progress.{Continues, Found, advance, ends, only, stops}

abbrev pub passing_in : Test → List ℕ → ℕ
passing_in test values = count_by (λ value. passes test value) values

pub record CountsOn (width count : ℕ) (test : Test) (bytes : List ℕ) (found left : ℕ) (rest : List ℕ) : Type 0 where
  pub values : List ℕ
  pub goes : Continues width count bytes values rest
  pub counted : found ≡ passing_in test values
  pub total : length values + left ≡ count

pub begin : (width count : ℕ) (test : Test) (bytes : List ℕ) → CountsOn width count test bytes 0 count bytes
begin width count test bytes = record {
  values = [];
  goes = record {
    front = [];
    whole = refl;
    first = λ more tail h. subst (λ n. AreFirst width n more tail) (sub-zero count) h;
    short = λ h. subst (λ n. EndShort width n bytes) (sub-zero count) h;
  };
  counted = refl;
  total = omega arith;
}

pub few : (width count : ℕ) (test : Test) (bytes : List ℕ) (found left : ℕ) (rest : List ℕ) → CountsOn width count test bytes found left rest → found + left ≤ count
few width count test bytes found left rest c = omega (arith, c.counted, c.total, count_by-le-length (λ value. passes test value) c.values)

pub step : (width count : ℕ) (test : Test) (bytes : List ℕ) (found left : ℕ) (rest : List ℕ) (run : Run) (after : List ℕ) (passing seen : ℕ) → 0 < left → count < 2 ^ 64
    → CountsOn width count test bytes found left rest → KeepsRun width rest run after → Counts test left (take left (kept_values width run)) passing seen
    → CountsOn width count test bytes (found + passing) (left - seen) after
step width count test bytes found left rest run after passing seen some fits c keeps counts =
    let more : List ℕ = take left (kept_values width run) in
    let left_is : left ≡ count - length c.values = omega (arith, c.total) in
    record {
      values = c.values ++ more;
      goes =
          advance width count bytes c.values rest run after (c.values ++ more) (omega (arith, c.total, some)) fits c.goes keeps
          (ap (λ n. c.values ++ take n (kept_values width run)) left_is);
      counted = omega (arith, c.counted, counts.found, sum_by-append (λ x. cond (passes test x) 1 0) c.values more);
      total = omega (arith, c.total, length-append c.values more, counts.all, counts.within);
    }

pub counted : (width count : ℕ) (test : Test) (bytes : List ℕ) (found left : ℕ) (rest : List ℕ) → left ≡ 0 → CountsOn width count test bytes found left rest
    → (values front more : List ℕ) → AreFirst width count values front → bytes ≡ front ++ more → found ≡ passing_in test values
counted width count test bytes found left rest none c values front more first whole =
    let f : Found width count bytes c.values (length bytes - length rest) = ends width count bytes c.values rest (omega (arith, c.total, none)) c.goes in
    c.counted ∙ ap (λ (p : List ℕ × ℕ). passing_in test p.0) (only width count bytes c.values (length bytes - length rest) f values front more first whole)

pub too_short : (width count : ℕ) (test : Test) (bytes : List ℕ) (found left : ℕ) (rest : List ℕ) → 0 < left → BeginRun width rest → CountsOn width count test bytes found left rest
    → (values front more : List ℕ) → AreFirst width count values front → bytes ≡ front ++ more → ⊥
too_short width count test bytes found left rest some begun c values front more first whole =
    short_has_none width count values bytes front more (stops width count bytes c.values rest (omega (arith, c.total, some)) begun c.goes) first whole

-- ---- copies

pub take_copies : (most copies seen value : ℕ) → seen ≡ min copies most → take most (replicate copies value) ≡ replicate seen value
take_copies most copies seen value is =
    sym (take_min most (replicate copies value)) ∙ ap (λ n. take n (replicate copies value)) (let long = length-replicate copies value in omega (arith, is, long))
    ∙ take-replicate seen copies value (omega (arith, is))

pub copies_count : (test : Test) (most copies seen value passing : ℕ) → seen ≡ min copies most → passing ≡ passing_in test (replicate seen value)
    → Counts test most (take most (replicate copies value)) passing seen
copies_count test most copies seen value passing is counts =
    let same = take_copies most copies seen value is in
    subst (λ values. Counts test most values passing seen) (sym same) (record {
      found = counts;
      all = sym (length-replicate seen value);
      few = omega (arith, counts, count_by-le-length (λ v. passes test v) (replicate seen value), length-replicate seen value);
      within = omega (arith, is);
    })

pub values_count : (test : Test) (most : ℕ) (values all : List ℕ) (passing seen : ℕ) → values ≡ take most all → passing ≡ passing_in test values → seen ≡ length values
    → Counts test most (take most all) passing seen
values_count test most values all passing seen is counts long =
    subst (λ (vs : List ℕ). Counts test most vs passing seen) is (record {
      found = counts;
      all = long;
      few = omega (arith, counts, long, count_by-le-length (λ v. passes test v) values);
      within = omega (arith, long, ap length is, length-take most all);
    })
