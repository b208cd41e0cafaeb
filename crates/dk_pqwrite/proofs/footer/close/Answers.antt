use Rattle.std.proofs.Common.{rules, ◌≡◌, ◌++◌, length}
use Rattle.dk_grammar.specs.Plain.{little}
use Rattle.dk_pqmodel.specs.FooterBytes.{magic}
use Rattle.dk_pqwrite.proofs.WholeFooters.{four_parts}
use Rattle.dk_pqwrite.proofs.footer.close.Goals as goal

pub returns-clause-closed : goal.returns-clause-closed
returns-clause-closed c =
    let before = c.args.bytes.now.items in
    let footer = c.args.footer.now in
    let whole : c.extend_from_slice-3.new.self.items ≡ ((before ++ footer) ++ little 4 (length footer)) ++ magic = search rules in
    four_parts before footer (little 4 (length footer)) magic c.extend_from_slice-3.new.self.items whole
