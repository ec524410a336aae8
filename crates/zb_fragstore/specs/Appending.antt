-- What an append answers and does.
use Rattle.std.specs.Prelude.{◌≡◌, ◌⊎◌, ℕ, ◌+◌, true, Option, None, Some, Result, Err, IfErr}
use Rattle.zb_types.specs.declared.ids.FragId.{FragId}
use Rattle.zb_types.specs.declared.requests.StoreFault.{StoreFault}
use Rattle.zb_types.specs.declared.requests.StoreFault.TheVariants.{Stopped}
use Rattle.zb_fragstore.specs.Seen.{SeenStore, length_of, ChangesLength}
use Rattle.zb_fragstore.specs.Answers.{HasStopped}
use Rattle.zb_fragstore.specs.Seen.{is_share}

-- bytes were put behind a share that ended at this place, or stand there already
abbrev pub HasGrown : FragId → (place len : ℕ) → SeenStore → SeenStore → Type 0
HasGrown id place len old new =
    (new ≡ old) ⊎ ((is_share old id ≡ true) × ((length_of old id ≡ Some place) × ChangesLength id (Some (place + len)) old new))

-- an append is answered by what stands under its name, unless the platter stopped
pub record IsAnswered {T : Type 0} (refusal : Option StoreFault) (result : Result T StoreFault) : Type 0 where
  pub done : refusal ≡ None → IfErr result (λ fault. fault ≡ Stopped)
  pub refused : (fault : StoreFault) → refusal ≡ Some fault → (HasStopped result → ⊥) → result ≡ Err fault
