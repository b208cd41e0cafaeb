use Rattle.std.proofs.lemmas.List.{length-map}
use Rattle.dk_pqwrite.proofs.BuildingPages.{dictionary_page}
use Rattle.dk_pqwrite.proofs.Uses.{Key, shown}
use Rattle.std.proofs.Common.{◌≡◌, length, arith}
use Rattle.dk_pqwrite.proofs.page.add_dictionary_page.Goals as goal

pub returns : goal.returns
returns c =
    let texts = c.args.texts.now in
    let many : length (shown texts) ≡ length texts = length-map texts (λ (k : Key). k.now) in
    let size : length c.in_ok-body.body.items ≡ c.len.result = omega (arith, c.len.ensures, c.in_ok-body.body.ok.0) in
    dictionary_page (shown texts) c.in_ok-header.header.items c.in_ok-body.body.items c.args.out.now.items c.extend_from_slice.new.self.items c.extend_from_slice-2.new.self.items
    (omega (arith, many, c.requires.few)) c.requires.small c.in_ok-body.ensures.plain c.in_ok-body.ensures.size (rw (many, size) c.in_ok-header.ensures.spelled)
    c.in_ok-header.ensures.size (rw c.deref.ensures.value at c.in_ok-extend_from_slice.ensures.items) (rw c.deref-2.ensures.value at c.in_ok-extend_from_slice-2.ensures.items)
