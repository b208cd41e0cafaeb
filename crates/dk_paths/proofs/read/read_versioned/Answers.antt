-- Each known ending is handed on, and a text with none of them names nothing.
use Rattle.std.proofs.Common.{ap, sym, ◌∙◌, ◌++◌, List, ℕ, codes, drop}
use Rattle.dk_paths.specs.Numbers.{version_text}
use Rattle.dk_paths.proofs.Spelled.{no_ending, named_along, apart}
use Rattle.dk_paths.proofs.read.read_versioned.Goals as goal

pub returns-in-Some : goal.returns-in-Some
returns-in-Some c = named_along _ _ c.read_checkpoint.result (ap (λ (text : List ℕ). version_text c.args.version ++ text) (sym c.in-Some.ensures)) c.read_checkpoint.ensures

pub returns-in_default-strip_front : goal.returns-in_default-strip_front
returns-in_default-strip_front c = no_ending c.args.version c.args.rest.now c.requires (record {
  no_commit = apart _ _ c.eq.result c.eq.ensures c.if-eq.false;
  no_checkpoint = c.in_default.ensures;
  no_compacted = λ last below small same. c.in_default-strip_front.ensures (version_text last ++ codes ".compacted.json") same;
})

pub returns-in-None : goal.returns-in-None
returns-in-None c = no_ending c.args.version c.args.rest.now c.requires (record {
  no_commit = apart _ _ c.eq.result c.eq.ensures c.if-eq.false;
  no_checkpoint = c.in_default.ensures;
  no_compacted = λ last below small same. c.in-None.ensures last below small (ap (drop 1) (sym same ∙ c.in-Some-strip_front.ensures));
})
