-- What calls one after the other did to a store.
use Rattle.std.proofs.Common.{◌≡◌, ℕ, ◌≤◌, List, Bool, true, false, ap, subst, arith}
use Rattle.std.specs.Prelude.{Option, Result, Ok, Err}
use Rattle.dk_store.specs.declared.event.Put.{Put}
use Rattle.dk_store.specs.declared.event.Put.TheVariants as puts
use Rattle.dk_store.specs.declared.event.StoreError.{StoreError}
use Rattle.dk_store.specs.Causes.{Rose}
use Rattle.dk_store.specs.Seen.{Seen, Grows, Clashes, StoreWrites, is_taken}
use Rattle.dk_store.specs.Told.{Told}
use Rattle.dk_store.specs.Writing.{PutsNew}
use Rattle.dk_store.proofs.Growing.{grows_by_none, grows_on, puts_new_grows, same_grows}
use Rattle.dk_engine.specs.Effects.{OnlyReads, MayPut}
use Rattle.dk_engine.specs.declared.refusal.Refusal.{Refusal}
use Rattle.dk_engine.specs.declared.refusal.Refusal.TheVariants as refusals

-- a count that rose from a later moment on rose from an earlier one on
rose_from : (before mid now : ℕ) → before ≤ mid → Rose mid now → Rose before now
rose_from before mid now later rose = omega (arith, later, rose)

refusal_is : {X : Type 0} (refusal other : Refusal) → ◌≡◌ {A = Result X Refusal} (Err refusal) (Err other) → refusal ≡ other
refusal_is refusal other is = cc

module _ {X Y : Type 0} (old new : Seen) where
  -- a refusal of a call that only reads, passed on
  pub refused_puts : (refusal : Refusal) → OnlyReads {T = X} old new (Err refusal) → MayPut {T = Y} old new (Err refusal)
  refused_puts refusal reads = record {
    grows = same_grows old.told new.told reads.same;
    clashes_later = let same = reads.clashes_same in omega (arith, same);
    later = reads.later;
    store = λ is. reads.store (ap (λ (r : Refusal). Err r) (refusal_is refusal refusals.Store is));
    taken = λ path is. absurd (reads.taken path (ap (λ (r : Refusal). Err r) (refusal_is refusal (refusals.Taken path) is)));
  }

  -- an answer after such a call
  pub answered_puts : (read : Result X Refusal) (answer : Y) → OnlyReads {T = X} old new read → MayPut {T = Y} old new (Ok answer)
  answered_puts read answer reads = record {
    grows = same_grows old.told new.told reads.same;
    clashes_later = let same = reads.clashes_same in omega (arith, same);
    later = reads.later;
    store = λ is. absurd (let no : ◌≡◌ {A = Result Y Refusal} (Ok answer) (Err refusals.Store) = is in cc);
    taken = λ path is. absurd (let no : ◌≡◌ {A = Result Y Refusal} (Ok answer) (Err (refusals.Taken path)) = is in cc);
  }

module _ {X Y : Type 0} (old mid new : Seen) (first : Result X Refusal) (second : Result Y Refusal) where
  -- a call that may put, after one that only reads
  pub puts_after_reads : OnlyReads {T = X} old mid first → MayPut {T = Y} mid new second → MayPut {T = Y} old new second
  puts_after_reads reads puts = record {
    grows = subst (λ (told : Option (List Told)). Grows told new.told) reads.same puts.grows;
    clashes_later = let same = reads.clashes_same in let later = puts.clashes_later in omega (arith, same, later);
    later = let before = reads.later in let after = puts.later in omega (arith, before, after);
    store = λ is. rose_from old.faults mid.faults new.faults reads.later (puts.store is);
    taken = λ path is. subst (λ (count : ℕ). Rose count new.clashes) reads.clashes_same (puts.taken path is);
  }

  -- and after another that may put
  pub puts_twice : MayPut {T = X} old mid first → MayPut {T = Y} mid new second → MayPut {T = Y} old new second
  puts_twice one two = record {
    grows = grows_on old.told mid.told new.told one.grows two.grows;
    clashes_later = let before = one.clashes_later in let after = two.clashes_later in omega (arith, before, after);
    later = let before = one.later in let after = two.later in omega (arith, before, after);
    store = λ is. rose_from old.faults mid.faults new.faults one.later (two.store is);
    taken = λ path is. rose_from old.clashes mid.clashes new.clashes one.clashes_later (two.taken path is);
  }

-- nothing was done, and memory was refused
pub nothing_put : {Y : Type 0} (seen : Seen) → MayPut {T = Y} seen seen (Err refusals.OutOfMemory)
nothing_put {Y} seen = record {
  grows = grows_by_none seen.told;
  clashes_later = omega arith;
  later = omega arith;
  store = λ is. absurd (let no : ◌≡◌ {A = Result Y Refusal} (Err refusals.OutOfMemory) (Err refusals.Store) = is in cc);
  taken = λ path is. absurd (let no : ◌≡◌ {A = Result Y Refusal} (Err refusals.OutOfMemory) (Err (refusals.Taken path)) = is in cc);
}

-- an answer with no call
pub unmoved_puts : {Y : Type 0} (seen : Seen) (answer : Y) → MayPut {T = Y} seen seen (Ok answer)
unmoved_puts {Y} seen answer = record {
  grows = grows_by_none seen.told;
  clashes_later = omega arith;
  later = omega arith;
  store = λ is. absurd (let no : ◌≡◌ {A = Result Y Refusal} (Ok answer) (Err refusals.Store) = is in cc);
  taken = λ path is. absurd (let no : ◌≡◌ {A = Result Y Refusal} (Ok answer) (Err (refusals.Taken path)) = is in cc);
}

-- ---- a put-if-absent

clashes_later : (clash : Bool) (before now : ℕ) → Clashes clash before now → before ≤ now
clashes_later true before now counts = counts.0
clashes_later false before now same = omega (arith, same)

-- no clash came but with `Exists`
pub made_counts : (put : Put) (before now : ℕ) → put ≡ puts.Made → Clashes (is_taken (Ok put)) before now → now ≡ before
made_counts put before now made counts = subst (λ (p : Put). Clashes (is_taken (Ok p)) before now) made counts

pub failed_counts : (error : StoreError) (before now : ℕ) → Clashes (is_taken (Err error)) before now → now ≡ before
failed_counts error before now counts = counts

pub exists_counts : (put : Put) (before now : ℕ) → put ≡ puts.Exists → Clashes (is_taken (Ok put)) before now → Rose before now
exists_counts put before now exists counts = let both : Clashes true before now = subst (λ (p : Put). Clashes (is_taken (Ok p)) before now) exists counts in both.1

module _ {Y : Type 0} (path bytes : List ℕ) (old new : Seen) (result : Result Put StoreError) (did : PutsNew path bytes old.told result new.told) (writes : StoreWrites (is_taken result) old new result) where
  -- what is answered of it
  pub put_answered : (answer : Y) → MayPut {T = Y} old new (Ok answer)
  put_answered answer = record {
    grows = puts_new_grows path bytes old.told new.told result did;
    clashes_later = clashes_later (is_taken result) old.clashes new.clashes writes.clashes;
    later = writes.later;
    store = λ is. absurd (let no : ◌≡◌ {A = Result Y Refusal} (Ok answer) (Err refusals.Store) = is in cc);
    taken = λ path is. absurd (let no : ◌≡◌ {A = Result Y Refusal} (Ok answer) (Err (refusals.Taken path)) = is in cc);
  }

  pub put_refused : (refusal : Refusal) → (refusal ≡ refusals.Store → Rose old.faults new.faults) → ((taken : List ℕ) → refusal ≡ refusals.Taken taken → Rose old.clashes new.clashes)
      → MayPut {T = Y} old new (Err refusal)
  put_refused refusal failed clashed = record {
    grows = puts_new_grows path bytes old.told new.told result did;
    clashes_later = clashes_later (is_taken result) old.clashes new.clashes writes.clashes;
    later = writes.later;
    store = λ is. failed (refusal_is refusal refusals.Store is);
    taken = λ path is. clashed path (refusal_is refusal (refusals.Taken path) is);
  }
