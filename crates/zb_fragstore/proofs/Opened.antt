-- A platter that is opened: what is found on it, and what opening leaves of it.
use Rattle.std.proofs.Common.{◌≡◌, ℕ, ◌<◌, ◌^◌, List, Result, Ok, Err, IfErr, IsErrAnd, Option, None, Some, refl, sym, ◌∙◌, ap, subst}
use Rattle.zb_outside.specs.Meaning.{Meaning}
use Rattle.zb_outside.specs.Runs.{Run, IsSettled, Held}
use Rattle.zb_outside.proofs.Runs.{then_run, weaker_run}
use Rattle.zb_cell.specs.Cell.{value}
use Rattle.zb_types.specs.declared.geometry.Geometry.{Geometry}
use Rattle.zb_types.specs.declared.ids.ServerId.{ServerId}
use Rattle.zb_slots.specs.Reading.{LeftAlone}
use Rattle.zb_slots.proofs.Leaving.{left_by_held, left_then, still_settled}
use Rattle.zb_index.specs.Seen.{SeenIndex}
use Rattle.zb_slots.specs.Slots.{slots_in}
use Rattle.zb_slots.specs.Holding.{map_of, IsLarge}
use Rattle.zb_slot_map.specs.Tidy.{IsSound}
use Rattle.zb_slot_map.specs.Super.{super_text, IsOf}
use Rattle.zb_slot_map.specs.Freeing.{HasOlder, StaysSame, HasFreed, FreeTold}
use Rattle.zb_fragstore.specs.Seen.{SeenStore}
use Rattle.zb_fragstore.specs.Images.{HasFence}
use Rattle.zb_fragstore.specs.Opening.{IsGood, IsOwn, IsUnfit, StaysWhole, IsOpened, IsBuilt, TellsSlots}
use Rattle.zb_fragstore.specs.declared.faults.OpenFault.{OpenFault}
use Rattle.zb_fragstore.specs.declared.faults.OpenFault.TheVariants.{Blank, Damaged, NoMemory, Stopped}

whole_still : (geo : Geometry) (image : List ℕ) → StaysWhole geo image image
whole_still geo image = record { sound = λ s. s; super = refl; size = refl; map = λ id. refl }

-- a platter that was looked at
looked : (geo : Geometry) (p : ℕ) (a b : Meaning) → IsSettled p a.now → LeftAlone p a b → Run p (StaysWhole geo (a.now.seen p)) a b
looked geo p a b settled alone = weaker_run alone.run (λ image may. subst (StaysWhole geo (a.now.seen p)) (sym (settled.only image may)) (whole_still geo (a.now.seen p)))

super_found : (geo : Geometry) (n fence : ℕ) (v : Option (List ℕ)) → IsOf geo n v (Some fence) → v ≡ Some (super_text geo n fence)
super_found geo n fence None h = absurd h
super_found geo n fence (Some payload) h = ap (λ (l : List ℕ). Some l) h

-- why the slots found give no index
tells_unfit : (geo : Geometry) (server : ServerId) (image : List ℕ) (fault : OpenFault) → IsOwn geo server image → TellsSlots (slots_in geo image) geo.slots fault → IsUnfit geo server image fault
tells_unfit geo server image Blank own h = absurd h
tells_unfit geo server image (Damaged slot) own h = (own, h)
tells_unfit geo server image NoMemory own h = own
tells_unfit geo server image Stopped own h = tt

-- a call that held the platter
pub held_run : (geo : Geometry) (p : ℕ) (a b : Meaning) → IsSettled p a.now → Held p a b → Run p (StaysWhole geo (a.now.seen p)) a b
held_run geo p a b settled held = looked geo p a b settled (left_by_held held)

-- an error that is passed on
pub passed : {T E : Type 0} (P : E → Type 0) (r : Result T E) (e : E) → IsErrAnd r (λ x. x ≡ e) → P e → IfErr r P
passed P (Ok x) e is h = tt
passed P (Err x) e is h = subst P (sym is) h

-- what holds of each error
pub on_err : {T E : Type 0} {P : E → Type 0} (r : Result T E) → ((e : E) → P e) → IfErr r P
on_err (Ok x) h = tt
on_err (Err e) h = h e

-- the super cell is found first, and the platter is looked at
module _ (geo : Geometry) (server : ServerId) (fence p : ℕ) (a b : Meaning) (held : Held server.0 a b) (found : IsOf geo server.0 (value (a.now.seen server.0) 0) (Some fence)) (p_is : p ≡ server.0) where
  abbrev image : List ℕ
  image = a.now.seen server.0

  same_seen : b.now.seen p ≡ image
  same_seen = ap b.now.seen p_is ∙ held.seen

  -- and the slots tell why there is no index
  pub unfit_by : (fault : OpenFault) → TellsSlots (slots_in geo (b.now.seen p)) geo.slots fault → IsUnfit geo server image fault
  unfit_by fault tells = tells_unfit geo server image fault (fence, super_found geo server.0 fence (value image 0) found) (subst (λ (i : List ℕ). TellsSlots (slots_in geo i) geo.slots fault) same_seen tells)

  pub left_alone : (c : Meaning) → LeftAlone p b c → LeftAlone server.0 a c
  left_alone c alone = left_then (left_by_held held) (subst (λ (q : ℕ). LeftAlone q b c) p_is alone)

  pub alone_run : (c : Meaning) → IsSettled server.0 a.now → LeftAlone p b c → Run server.0 (StaysWhole geo image) a c
  alone_run c settled alone = looked geo server.0 a c settled (left_then (left_by_held held) (subst (λ (q : ℕ). LeftAlone q b c) p_is alone))

  -- or there is one
  module _ (index : SeenIndex) (older : List ℕ) (built : IsBuilt geo (slots_in geo (b.now.seen p)) index older) where
    built_here : IsBuilt geo (slots_in geo image) index older
    built_here = subst (λ (i : List ℕ). IsBuilt geo (slots_in geo i) index older) same_seen built

    pub good_by : (store : SeenStore) → store.fence ≡ fence → fence < 2 ^ 64 → IsGood geo server image store
    good_by store is fits = record { fits = subst (λ (n : ℕ). n < 2 ^ 64) (sym is) fits; fence = subst (λ (n : ℕ). HasFence geo server n image) (sym is) (super_found geo server.0 fence (value image 0) found); good = built_here.good }

    -- and the older parities are freed
    module _ (c d : Meaning) (freed : List ℕ) (freed_is : freed ≡ older) (alone : LeftAlone p b c) (settled : IsSettled server.0 a.now) (large : IsLarge geo image) where
      all : LeftAlone server.0 a c
      all = left_then (left_by_held held) (subst (λ (q : ℕ). LeftAlone q b c) p_is alone)

      abbrev Clause : {T E : Type 0} → Result T E → ℕ → List ℕ → Type 0
      Clause r q slots = IsSettled q c.now → IsSound geo (c.now.seen q) → HasOlder geo (c.now.seen q) slots → FreeTold geo q slots r c d

      told : {T E : Type 0} (r : Result T E) → Clause r p freed → FreeTold geo server.0 older r c d
      told r clause = subst (λ (q : ℕ). Clause r q older) p_is (subst (Clause r p) freed_is clause) (still_settled settled all)
          (subst (IsSound geo) (sym all.seen) (record { large = large; good = built_here.good }))
          (subst (λ (i : List ℕ). HasOlder geo i older) (sym all.seen) built_here.twins)

      pub free_run : {T E : Type 0} (r : Result T E) → Clause r p freed → Run server.0 (StaysWhole geo image) a d
      free_run r clause = then_run (looked geo server.0 a c settled all) (told r clause).run
          (λ i h. subst (λ (from : List ℕ). StaysWhole geo from i) all.seen h)

      pub opened_by : {T E : Type 0} (u : T) → Clause {E = E} (Ok u) p freed → IsOpened (record { geo = geo; server = server; index = index; fence = fence }) a d
      opened_by {E = E} u clause =
          let h = told {E = E} (Ok u) clause in
          let same : StaysSame geo (c.now.seen server.0) (d.now.seen server.0) = h.run.here (d.now.seen server.0) (d.seen_now server.0) in
          let gone : HasFreed geo older image (d.now.seen server.0) = subst (λ (i : List ℕ). HasFreed geo older i (d.now.seen server.0)) all.seen h.freed in
          record {
            is_open = record {
              kept = record { settled = h.settled; tidy = gone.tidy };
              super = same.super ∙ ap (λ (i : List ℕ). value i 0) all.seen ∙ super_found geo server.0 fence (value image 0) found;
              index = built_here.follows (slots_in geo (d.now.seen server.0)) gone.slots;
            };
            map = λ id. same.map id ∙ ap (λ (i : List ℕ). map_of geo i id) all.seen;
          }
