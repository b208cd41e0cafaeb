-- A write that fails when all was written leaves what a torn one may leave.
use Rattle.std.proofs.Common.{◌≡◌, ℕ, ℤ, List, ◌∷◌, length, refl, ap, sym, ◌∙◌, inl, inr}
use Rattle.std.specs.Prelude.{Some, Ok, Err, Result, IsErr, IsErrOf, FitsSigned}
use Rattle.std.specs.Int.{w64}
use Rattle.std.proofs.Math.Seq.{take-length}
use Rattle.dk_store.specs.declared.event.StoreError.{StoreError}
use Rattle.dk_store.specs.declared.event.StoreError.TheVariants as errors
use Rattle.dk_store.specs.Told.{Told, Over}
use Rattle.dk_store.specs.Writing.{PutsOver}

pub torn_whole : (path bytes : List ℕ) (stamp : ℤ) (old new : List Told) (result : Result (Unit {0}) StoreError) → FitsSigned w64 stamp
    → IsErr result
    → (IsErrOf result errors.Failed → new ≡ Over path bytes stamp ∷ old)
    → (IsErrOf result errors.OutOfMemory → new ≡ old)
    → PutsOver path bytes (Some old) result (Some new)
torn_whole path bytes stamp old new (Ok u) fits fails failed memory = cc
torn_whole path bytes stamp old new (Err errors.Failed) fits fails failed memory =
    inr (inl (length bytes, record { stamp = stamp; whole = fits; is = ap Some (failed refl ∙ ap (λ b. Over path b stamp ∷ old) (sym (take-length bytes))) }))
torn_whole path bytes stamp old new (Err errors.OutOfMemory) fits fails failed memory = ap Some (memory refl)
