-- What a command leaves that only reads: it may be said of one that writes, and no law is broken.
use Rattle.std.proofs.Common.{ℕ, ℤ, List, [], Option, Some, None, refl, sym, subst}
use Rattle.std.proofs.Math.Nat.{le_refl}
use Rattle.dk_store.specs.Told.{Told}
use Rattle.dk_store.specs.Seen.{Seen, Grows}
use Rattle.dk_lawful.specs.Kept.{KeepsLawfulPast}
use Rattle.dk_lawful.proofs.Calls.{same_is_past_each}
use Rattle.dk_cli.specs.declared.status.Status.{Status}
use Rattle.dk_cli.specs.Effects.{ReadsStore, PutsInStore}
use Rattle.dk_cli.specs.Endings.{ShowMayEnd}

grown : (told : Option (List Told)) → Grows told told
grown None = tt
grown (Some events) = ([], refl)

-- reading is no more than putting, where nothing ends as a taken path
pub reads_put : (at : Option ℕ) (old new : Seen) (status : Status) → ShowMayEnd at status → ReadsStore old new status → PutsInStore old new status
reads_put at old new status ends reads = record {
  grows = subst (λ (t : Option (List Told)). Grows old.told t) (sym reads.same) (grown old.told);
  clashes_later = rw reads.clashes_same (le_refl old.clashes);
  later = reads.later;
  store = reads.store;
  taken = λ path is. absurd (subst (ShowMayEnd at) is ends);
}

-- nothing new breaks no law
pub stays_lawful : (cut : Option ℤ) (told : Option (List Told)) → KeepsLawfulPast cut told told
stays_lawful cut None = tt
stays_lawful cut (Some events) = same_is_past_each cut (Some events) (Some events) (record { newer = []; is = refl; lawful = λ horizon lawful. lawful })
