use Rattle.std.proofs.Common.{◌≡◌, ◌-◌, map}
use Rattle.dk_pages.specs.Entries.{entries_at, entries_then}
use Rattle.dk_pages.proofs.dictionary.Dictionary.read.Given as goal

abbrev pub invariant-loop : goal.invariant-loop
invariant-loop l =
    entries_then (map (λ entry. entry.now) l.entries.items) (entries_at l.kind (l.page.values - l.counter) l.rest) ≡ entries_at l.kind l.page.values l.page.body.now
