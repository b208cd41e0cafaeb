use Rattle.std.proofs.Common.{sym, subst}
use Rattle.std.proofs.lemmas.Int.{to_z-of_z}
use mir.Syntax.{w64}
use Rattle.dk_lawful.specs.Agree.{Stands}
use Rattle.dk_lawful.proofs.ContentLaws.{classic_stands}
use Rattle.dk_ckwrite.proofs.Pieces.{whole}
use Rattle.dk_ckwrite.proofs.content.classic_actions.Goals as goal

pub returns-clause-content : goal.returns-clause-content
returns-clause-content c =
    whole c.args.state.now c.args.version c.args.cut _ _ _ _ _ _ _ (to_z-of_z w64 c.args.cut c.ranges.cut) c.new-out.ensures.items c.in_ok-push_mark.ensures c.in_ok-push_heads.ensures
    c.in_ok-push_files.ensures c.in_ok-push_tombstones.ensures c.in_ok-push_names.ensures

pub returns-clause-stands : goal.returns-clause-stands
returns-clause-stands c = λ kept. subst (λ actions. Stands actions c.args.state.now c.args.cut) (sym (returns-clause-content c)) (classic_stands c.args.state.now c.args.version c.args.cut kept)
