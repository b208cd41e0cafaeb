-- A data page is what its parts hold, where its header is one of a data page and its levels are in runs.
use Rattle.std.proofs.Common.{◌≡◌, true, Option, Some, Result, ℤ, List, Bor, map, sym, subst, ◌∙◌}
use Rattle.std.specs.Option.{option_map}
use Rattle.dk_pqmodel.specs.ColumnView.{value_of}
use Rattle.dk_pqmodel.specs.Datum.{Value, Column}
use Rattle.dk_pqmodel.specs.declared.columns.Value as code
use Rattle.dk_pqmodel.specs.FilePages.{ColumnAt, HoldTriples}
use Rattle.dk_pqmodel.specs.declared.fault.PqFault.{PqFault}
use Rattle.dk_pqmodel.specs.Pages.{Page}
use Rattle.dk_pages.specs.Split.{Parts, split_of}
use Rattle.dk_pqread.specs.Meanings.{Finds}
use Rattle.dk_pqread.specs.PageMeaning.{PageHolds, PartsHold, AddsTriples, is_data}
use Rattle.dk_pqmodel.specs.Scans.{is_level_code}
use Rattle.dk_pqread.proofs.Finding.{finds_as}
use Rattle.dk_pqread.proofs.PartLaws.{some_is}

module _ (column : ColumnAt) (dictionary : Option (List Value)) (page : Page) (before : Column) where
  abbrev Added : Column → Type 0
  Added = AddsTriples before (PageHolds column dictionary page)

  pub page_by_parts : {X : Type 0} (view : X → Column) (result : Result X PqFault) (parts : Parts) (code : ℤ) → code ≡ page.encoding → is_data page.kind ≡ true → is_level_code column.rep page.rep_code ≡ true
      → is_level_code column.def page.def_code ≡ true → split_of column.rep column.def page ≡ Some parts → Finds view result (AddsTriples before (PartsHold column dictionary code page.values parts))
      → Finds view result (AddsTriples before (PageHolds column dictionary page))
  page_by_parts view result parts code is kind rep def split h =
      finds_as view result (AddsTriples before (PartsHold column dictionary page.encoding page.values parts)) Added
      (λ after n. (n.0, n.1, record { kind = kind; count = n.2.count; rep_code = rep; def_code = def; parts = parts; split = split; held = n.2.held }))
      (λ after n. (
      let same : n.2.parts ≡ parts = some_is n.2.parts parts (sym n.2.split ∙ split) in
      (n.0, n.1, record { count = n.2.count; held = subst (λ (q : Parts). HoldTriples column dictionary page.encoding q.rep q.def q.values n.0) same n.2.held })))
      (subst (λ z. Finds view result (AddsTriples before (PartsHold column dictionary z page.values parts))) is h)

-- the dictionary that a column is read with, as plain data
abbrev pub dictionary_of : Option (Bor (List code.Value)) → Option (List Value)
dictionary_of dictionary = option_map (λ d. map value_of d.now) dictionary
