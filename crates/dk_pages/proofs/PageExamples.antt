-- Worked pages, by computing the definitions.
use Rattle.std.proofs.Common.{◌≡◌, pos, [], ◌∷◌, Some, None, refl}
use Rattle.dk_pqmodel.specs.declared.page.PageKind.TheVariants.{DataV1}
use Rattle.dk_pqmodel.specs.Pages.{page_at}
use Rattle.dk_pages.specs.Split.{split_of}

-- a data page of four values: a header of 17 bytes and a body of 18
whole_page : page_at
    (0x15 ∷ 0x00 ∷ 0x15 ∷ 0x24 ∷ 0x15 ∷ 0x24 ∷ 0x2c ∷ 0x15 ∷ 0x08 ∷ 0x15 ∷ 0x00 ∷ 0x15 ∷ 0x06 ∷ 0x15 ∷ 0x06 ∷ 0x00 ∷ 0x00
    ∷ 2 ∷ 0 ∷ 0 ∷ 0 ∷ 8 ∷ 0 ∷ 3 ∷ 0 ∷ 0 ∷ 0 ∷ 3 ∷ 0xe4 ∷ 0 ∷ 1 ∷ 0 ∷ 0 ∷ 0 ∷ 0x78 ∷ []) 0
    ≡ Some (record {
      kind = DataV1;
      values = 4;
      encoding = pos 0;
      rep_code = pos 3;
      def_code = pos 3;
      rep_bytes = 0;
      def_bytes = 0;
      body = 2 ∷ 0 ∷ 0 ∷ 0 ∷ 8 ∷ 0 ∷ 3 ∷ 0 ∷ 0 ∷ 0 ∷ 3 ∷ 0xe4 ∷ 0 ∷ 1 ∷ 0 ∷ 0 ∷ 0 ∷ 0x78 ∷ [];
      next = 35;
    })
whole_page = refl

-- without its last byte it is none
short_page : page_at
    (0x15 ∷ 0x00 ∷ 0x15 ∷ 0x24 ∷ 0x15 ∷ 0x24 ∷ 0x2c ∷ 0x15 ∷ 0x08 ∷ 0x15 ∷ 0x00 ∷ 0x15 ∷ 0x06 ∷ 0x15 ∷ 0x06 ∷ 0x00 ∷ 0x00
    ∷ 2 ∷ 0 ∷ 0 ∷ 0 ∷ 8 ∷ 0 ∷ 3 ∷ 0 ∷ 0 ∷ 0 ∷ 3 ∷ 0xe4 ∷ 0 ∷ 1 ∷ 0 ∷ 0 ∷ 0 ∷ []) 0
    ≡ None
short_page = refl

-- its levels lie at the places 21 and 22 and 27 to 29, its values at 30 to 34
parts : split_of 1 3 (record {
  kind = DataV1;
  values = 4;
  encoding = pos 0;
  rep_code = pos 3;
  def_code = pos 3;
  rep_bytes = 0;
  def_bytes = 0;
  body = 2 ∷ 0 ∷ 0 ∷ 0 ∷ 8 ∷ 0 ∷ 3 ∷ 0 ∷ 0 ∷ 0 ∷ 3 ∷ 0xe4 ∷ 0 ∷ 1 ∷ 0 ∷ 0 ∷ 0 ∷ 0x78 ∷ [];
  next = 35;
})
    ≡ Some (record { rep = 8 ∷ 0 ∷ []; def = 3 ∷ 0xe4 ∷ 0 ∷ []; values = 1 ∷ 0 ∷ 0 ∷ 0 ∷ 0x78 ∷ [] })
parts = refl
