use Rattle.std.proofs.Common.{◌<◌, ℕ, List, map, sym, ap, arith, Bor}
use Rattle.std.proofs.lemmas.List.{map-append}
use Rattle.dk_pages.specs.Entries.{all_of, entries_at}
use Rattle.dk_pages.proofs.Taking.{entry_missing, entry_taken}
use Rattle.dk_pages.proofs.dictionary.Dictionary.read.Goals as goal

pub returns-in_default : goal.returns-in_default
returns-in_default c =
    let h : c.loop.counter < c.args.page.now.values = omega arith in
    let done = map (λ (entry : Bor (List ℕ)). entry.now) c.loop.entries.items in
    let whole = entries_at c.args.kind c.args.page.now.values c.args.page.now.body.now in
    let said = c.in_default.ensures in
    ap all_of (entry_missing c.args.kind c.args.page.now.values c.loop.counter done c.loop.rest.now whole h c.loop.invariant (sym (rw c.in_default.is at c.entry_at.ensures)))

pub loop-preserved : goal.loop-preserved
loop-preserved c =
    let h : c.loop.counter < c.args.page.now.values = omega arith in
    let done = map (λ (entry : Bor (List ℕ)). entry.now) c.loop.entries.items in
    let whole = entries_at c.args.kind c.args.page.now.values c.args.page.now.body.now in
    let said = c.in-Some.ensures in
    let items = c.in_ok-push.ensures.items in
    rw (items, map-append) (entry_taken c.args.kind c.args.page.now.values c.loop.counter done c.loop.rest.now whole h c.loop.invariant c.in-Some.entry.now c.in-Some.behind.now (sym said))
