-- An index that is built of the headers of all slots of an image.
use Rattle.std.proofs.Common.{◌≡◌, ℕ, List, length, Result, Ok, Err, IfOk, IfErr, Option, sym, subst}
use Rattle.zb_types.specs.declared.geometry.Geometry.{Geometry}
use Rattle.zb_slots.specs.declared.header.Header.{Header}
use Rattle.zb_slots.specs.Slots.{Slot}
use Rattle.zb_slots.specs.Showing.{AreShown}
use Rattle.zb_index.specs.declared.build.Built.{Built}
use Rattle.zb_index.specs.Indexed.{IsIndexOf}
use Rattle.zb_index.specs.Seen.{SeenIndex}
use Rattle.zb_slots.specs.Shown.{AreShownBy}
use Rattle.zb_index.specs.Twins.{NoneIsBad, AreOlder, AreFreed}
use Rattle.zb_slots.specs.Slots.{slots_in}
use Rattle.zb_fragstore.specs.declared.faults.OpenFault.{OpenFault}
use Rattle.zb_fragstore.specs.Opening.{IsBuilt, TellsSlots}

module _ (geo : Geometry) (headers : List (Option Header)) (count : length headers ≡ geo.slots) (slots : ℕ → Slot) where
  pub is_built : (index : SeenIndex) (older : List ℕ) → NoneIsBad slots (length headers) → AreOlder slots (length headers) older
      → ((now : ℕ → Slot) → AreFreed (length headers) older slots now → IsIndexOf index (length headers) now) → IsBuilt geo slots index older
  is_built index older good twins follows = record {
    good = subst (NoneIsBad slots) count good;
    twins = subst (λ (n : ℕ). AreOlder slots n older) count twins;
    follows = subst (λ (n : ℕ). (now : ℕ → Slot) → AreFreed n older slots now → IsIndexOf index n now) count follows;
  }

-- and it is that of what the headers of an image show
module _ (geo : Geometry) (image : List ℕ) (headers items : List (Option Header)) (same : headers ≡ items) (shown : AreShown geo image items) where
  shown_here : AreShownBy headers (slots_in geo image)
  shown_here = subst (λ (l : List (Option Header)). AreShownBy l (slots_in geo image)) (sym same) shown.slots

  pub built_here : (r : Result Built OpenFault) → IfOk r (λ built. (slots : ℕ → Slot) → AreShownBy headers slots → IsBuilt geo slots built.index built.older)
      → IfOk r (λ built. IsBuilt geo (slots_in geo image) built.index built.older)
  built_here (Ok built) h = h (slots_in geo image) shown_here
  built_here (Err fault) h = tt

  pub told_here : (r : Result Built OpenFault) → IfErr r (λ fault. (slots : ℕ → Slot) → AreShownBy headers slots → TellsSlots slots geo.slots fault)
      → IfErr r (TellsSlots (slots_in geo image) geo.slots)
  told_here (Ok built) h = tt
  told_here (Err fault) h = h (slots_in geo image) shown_here
