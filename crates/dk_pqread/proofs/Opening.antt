-- What is answered before a value is read, from the answers of its parts.
use Rattle.std.proofs.Common.{◌≡◌, None, Result, Err, List, ℕ, subst}
use Rattle.dk_pqmodel.specs.Shape.{Fields}
use Rattle.dk_pqmodel.specs.Footer.{Footer, RowGroup}
use Rattle.dk_pqmodel.specs.FooterBytes.{IsFramed, SpellsFooter, HasFooter}
use Rattle.dk_pqmodel.specs.FilePages.{ColumnAt}
use Rattle.dk_pqmodel.specs.Projection.{first_misfit}
use Rattle.dk_pqmodel.specs.declared.fault.PqFault.{PqFault}
use Rattle.dk_pqmodel.specs.declared.fault.PqFault.TheVariants.{NotParquet, Shape, Compressed, Encoding, Broken, OutOfMemory}
use Rattle.dk_pqmeta.specs.Footers.{AnswersFooter}
use Rattle.dk_pqmodel.specs.Scans.{first_compressed, first_unread}
use Rattle.dk_pqmodel.specs.Faults.{columns_read, IsUnopposed, IsRefused}
use Rattle.dk_pqread.specs.Examining.{LaysFile, Scans}

pub footer_refused : (wanted : Fields) (bytes : List ℕ) (fault : PqFault) → AnswersFooter bytes (Err fault) → IsRefused wanted bytes fault
footer_refused wanted bytes NotParquet h = h
footer_refused wanted bytes Broken h = h
footer_refused wanted bytes OutOfMemory h = tt
footer_refused wanted bytes (Shape c) h = absurd h
footer_refused wanted bytes (Compressed c n) h = absurd h
footer_refused wanted bytes (Encoding c n) h = absurd h

pub lay_refused : (wanted : Fields) (bytes : List ℕ) (footer : Footer) → HasFooter bytes footer → (fault : PqFault) → LaysFile wanted footer.fields (Err fault) → IsRefused wanted bytes fault
lay_refused wanted bytes footer has NotParquet h = absurd h
lay_refused wanted bytes footer has Broken h = absurd h
lay_refused wanted bytes footer has OutOfMemory h = tt
lay_refused wanted bytes footer has (Shape c) h = record { footer = footer; has = has; path = h.0; first = h.1; named = h.2 }
lay_refused wanted bytes footer has (Compressed c n) h = absurd h
lay_refused wanted bytes footer has (Encoding c n) h = absurd h

module _ (wanted : Fields) (bytes before part : List ℕ) (footer : Footer) (framed : IsFramed bytes before part) (spelled : SpellsFooter part footer) (fitting : first_misfit wanted footer.fields ≡ None) where
  pub scan_refused : (fault : PqFault) → Scans before (columns_read wanted footer) footer.groups (Err fault) → IsRefused wanted bytes fault
  scan_refused NotParquet h = absurd h
  scan_refused Broken h = absurd h
  scan_refused OutOfMemory h = tt
  scan_refused (Shape c) h = absurd h
  scan_refused (Compressed c n) h = record { footer = footer; has = (before, part, framed, spelled); fitting = fitting; path = h.0; first = h.1; named = h.2 }
  scan_refused (Encoding c n) h = record {
    before = before;
    part = part;
    framed = framed;
    footer = footer;
    spelled = spelled;
    fitting = fitting;
    plain = h.0;
    path = h.1.0;
    first = h.1.1;
    named = h.1.2;
  }

  pub opened : (first_compressed (columns_read wanted footer) footer.groups ≡ None) × (first_unread before (columns_read wanted footer) footer.groups ≡ None) → IsUnopposed wanted bytes before footer
  opened h = record { part = part; framed = framed; spelled = spelled; fitting = fitting; plain = h.0; read = h.1 }

-- what is scanned, under other names
pub scans_same : {b c : List ℕ} {columns others : List ColumnAt} {groups more : List RowGroup} (result : Result (Unit {0}) PqFault) → b ≡ c → columns ≡ others → groups ≡ more
    → Scans b columns groups result → Scans c others more result
scans_same {b} {c} {columns} {others} {groups} {more} result e f g h =
    subst (λ x. Scans c others x result) g (subst (λ x. Scans c x groups result) f (subst (λ x. Scans x columns groups result) e h))
