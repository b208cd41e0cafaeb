-- The pages of a chunk are looked at one after another.
use Rattle.std.proofs.Common.{◌≡◌, ℕ, suc, ◌+◌, ◌-◌, ◌<◌, ◌==◌, Bool, true, false, Option, Some, None, ℤ, List, refl, sym, ap, ◌∙◌, arith}
use Rattle.std.proofs.lemmas.Bool.{eqb-true}
use Rattle.dk_pqmodel.specs.FilePages.{ColumnAt}
use Rattle.dk_pqmodel.specs.Pages.{Page, page_at}
use Rattle.dk_pqmodel.specs.Scans.{unread_code, unread_from, values_on_page}

unlike : (n : ℕ) → (n ≡ 0 → ⊥) → (n == 0) ≡ false
unlike n h = by_test (n == 0) refl
  where
    by_test : (b : Bool) → (n == 0) ≡ b → (n == 0) ≡ false
    by_test true e = absurd (h (eqb-true n 0 e))
    by_test false e = e

module _ (before : List ℕ) (column : ColumnAt) (place wanted most i : ℕ) (whole : Option ℤ) (h : i < most) (left : unread_from (most - i) before column place wanted ≡ whole) where
  opened : unread_from (suc (most - (i + 1))) before column place wanted ≡ whole
  opened =
      let e : most - i ≡ suc (most - (i + 1)) = omega arith in
      ap (λ n. unread_from n before column place wanted) (sym e) ∙ left

  pub enough : wanted ≡ 0 → None ≡ whole
  enough none = rw none at opened

  pub ended : (wanted ≡ 0 → ⊥) → page_at before place ≡ None → None ≡ whole
  ended some gone = rw (unlike wanted some, gone) at opened

  pub refused : (page : Page) (code : ℤ) → (wanted ≡ 0 → ⊥) → page_at before place ≡ Some page → unread_code column page ≡ Some code → Some code ≡ whole
  refused page code some there bad = rw (unlike wanted some, there, bad) at opened

  pub goes_on : (page : Page) → (wanted ≡ 0 → ⊥) → page_at before place ≡ Some page → unread_code column page ≡ None
      → unread_from (most - (i + 1)) before column page.next (wanted - values_on_page page.kind page.values) ≡ whole
  goes_on page some there good = rw (unlike wanted some, there, good) at opened
