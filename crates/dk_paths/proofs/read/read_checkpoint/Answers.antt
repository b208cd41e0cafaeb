-- Each known kind is handed on, and a text with none of them names nothing.
use Rattle.std.proofs.Common.{ap, sym, ◌++◌, List, ℕ, codes}
use Rattle.dk_paths.specs.Numbers.{version_text}
use Rattle.dk_paths.proofs.Spelled.{no_kind, no_json_kind, no_format, named_along, apart, together}
use Rattle.dk_paths.proofs.read.read_checkpoint.Goals as goal

pub returns-then-eq : goal.returns-then-eq
returns-then-eq c = (c.requires, ap (λ (kind : List ℕ). version_text c.args.version ++ (codes ".checkpoint." ++ kind)) (sym (together _ _ c.eq.result c.eq.ensures c.if-eq.true)))

pub returns-in-None : goal.returns-in-None
returns-in-None c = no_kind c.args.version c.args.kind.now c.requires
    (no_json_kind c.args.kind.now c.in-Some.id.now (apart _ _ c.eq.result c.eq.ensures c.if-eq.false) c.in-Some.ensures c.in-None.ensures)

pub returns-in-Some-strip_end : goal.returns-in-Some-strip_end
returns-in-Some-strip_end c = named_along _ _ c.read_parquet.result
    (ap (λ (text : List ℕ). version_text c.args.version ++ (codes ".checkpoint." ++ text)) (sym c.in-Some-strip_end.ensures)) c.read_parquet.ensures

pub returns-in-None-strip_end : goal.returns-in-None-strip_end
returns-in-None-strip_end c = no_kind c.args.version c.args.kind.now c.requires
    (no_format c.args.kind.now (apart _ _ c.eq.result c.eq.ensures c.if-eq.false) c.in_default.ensures c.in-None-strip_end.ensures)
