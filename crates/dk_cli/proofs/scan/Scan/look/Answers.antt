use Rattle.std.proofs.lemmas.List.{take_all}
use Rattle.std.proofs.Common.{◌≡◌, ◌++◌, ◌+◌, take, sym, ◌∙◌, rules}
use Rattle.dk_cli.specs.Input.{passed}
use Rattle.dk_cli.specs.Seen.{HasSeen}
use Rattle.dk_cli.proofs.Scans.{goes_on, stops, seen_more, none_of}
use Rattle.dk_cli.proofs.scan.Scan.look.Goals as goal

pub returns-then-is_some-clause-first : goal.returns-then-is_some-clause-first
returns-then-is_some-clause-first c = λ bytes seen.
    let next : HasSeen c.count.new.self (bytes ++ take (c.loop-byte.byte-index + 1) c.args.piece.now) =
    seen_more c.count.new.self bytes c.args.piece.now c.loop-byte.byte-index c.loop-byte-test.true (c.count.ensures.seen (bytes ++ take c.loop-byte.byte-index c.args.piece.now) (c.loop-byte.invariant.seen bytes seen)) in
    let is : c.passed-passed.result ≡ passed c.args.limits (bytes ++ take (c.loop-byte.byte-index + 1) c.args.piece.now) = c.passed-passed.ensures.first _ next in
    is ∙ stops c.args.limits bytes c.args.piece.now c.loop-byte.byte-index _ c.loop-byte-test.true (rw (← is) (sym c.is_some.ensures ∙ c.if-is_some.true)) (c.loop-byte.invariant.first bytes seen)

pub loop-byte-preserved : goal.loop-byte-preserved
loop-byte-preserved c = record {
  within = c.count.ensures.within;
  small = c.passed-passed.ensures.small (none_of c.passed-passed.result (sym c.is_some.ensures ∙ c.if-is_some.false));
  size = search rules;
  seen = λ bytes seen. seen_more c.count.new.self bytes c.args.piece.now c.loop-byte.byte-index c.loop-byte-test.true (c.count.ensures.seen (bytes ++ take c.loop-byte.byte-index c.args.piece.now) (c.loop-byte.invariant.seen bytes seen));
  first = λ bytes seen.
      let next : HasSeen c.count.new.self (bytes ++ take (c.loop-byte.byte-index + 1) c.args.piece.now) =
      seen_more c.count.new.self bytes c.args.piece.now c.loop-byte.byte-index c.loop-byte-test.true (c.count.ensures.seen (bytes ++ take c.loop-byte.byte-index c.args.piece.now) (c.loop-byte.invariant.seen bytes seen)) in
      let is : c.passed-passed.result ≡ passed c.args.limits (bytes ++ take (c.loop-byte.byte-index + 1) c.args.piece.now) = c.passed-passed.ensures.first _ next in
      goes_on c.args.limits bytes c.args.piece.now c.loop-byte.byte-index _ c.loop-byte-test.true (sym is ∙ none_of c.passed-passed.result (sym c.is_some.ensures ∙ c.if-is_some.false)) (c.loop-byte.invariant.first bytes seen);
}

pub returns-clause-seen : goal.returns-clause-seen
returns-clause-seen c = λ _ bytes seen. rw (take_all c.loop-byte.byte-index c.args.piece.now c.loop-byte-test.false) at (c.loop-byte.invariant.seen bytes seen)
