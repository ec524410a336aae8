-- An open store beside what else is done, and what its platter's images tell.
use Rattle.std.proofs.Common.{◌≡◌, ◌≢◌, inl, inr, ℕ, ◌<◌, ◌^◌, List, [], ◌∷◌, ◌++◌, replicate, Option, None, Some, refl, sym, ◌∙◌, ap, subst, arith}
use Rattle.std.proofs.lemmas.List.{append_cancel_left, append_cancel_right}
use Rattle.byteorder.specs.Endian.{big_bytes, big_number}
use Rattle.byteorder.specs.Numbers.{big_number-reads_back}
use Rattle.zb_outside.specs.Meaning.{Standing}
use Rattle.zb_outside.specs.Runs.{Spares}
use Rattle.zb_cell.specs.Cell.{value}
use Rattle.zb_types.specs.declared.geometry.Geometry.{Geometry}
use Rattle.zb_types.specs.declared.ids.ServerId.{ServerId}
use Rattle.zb_slots.specs.Slots.{slots_in}
use Rattle.zb_index.specs.Indexed.{IsIndexOf}
use Rattle.zb_index.proofs.Held.{free_counted}
use Rattle.zb_slot_map.specs.Tidy.{IsTidy}
use Rattle.zb_slot_map.specs.Super.{super_text, IsOf}
use Rattle.zb_fragstore.specs.Seen.{SeenStore, free_of}
use Rattle.zb_fragstore.specs.Images.{free_on, HasFence}
use Rattle.zb_fragstore.specs.Changing.{IsOpen}
use Rattle.zb_fragstore.specs.Opening.{IsForeign}
use Rattle.zb_fragstore.specs.Laws.{FenceIsOne, ImageIsWhole, OwnImageOpens, FreeIsKnown}
use Rattle.zb_fragstore.specs.declared.faults.OpenFault.TheVariants.{Blank, Damaged, NoMemory, Stopped}

-- a store stays open where a read of its platter gives what it gave, and a crash leaves no more than it might have: this can't
-- stand in a contract, since it speaks of every way to stand
pub open_beside : (store : SeenStore) (s t : Standing) → t.seen store.server.0 ≡ s.seen store.server.0 → ((image : List ℕ) → t.may_leave store.server.0 image → s.may_leave store.server.0 image) → IsOpen store s → IsOpen store t
open_beside store s t seen left was = record {
  kept = record {
    settled = record { only = λ image may. was.kept.settled.only image (left image may) ∙ sym seen };
    tidy = subst (IsTidy store.geo) (sym seen) was.kept.tidy;
  };
  super = ap (λ (image : List ℕ). value image 0) seen ∙ was.super;
  index = subst (λ (image : List ℕ). IsIndexOf store.index store.geo.slots (slots_in store.geo image)) (sym seen) was.index;
}

-- so it does where another platter alone is called
pub open_spared : (store : SeenStore) (p : ℕ) (s t : Standing) → store.server.0 ≢ p → Spares p s t → IsOpen store s → IsOpen store t
open_spared store p s t other spares was = open_beside store s t (spares.seen store.server.0 other) (spares.may_leave store.server.0 other) was

-- the bytes of a number of eight bytes tell it
eight_bytes : (a b : ℕ) → a < 2 ^ 64 → b < 2 ^ 64 → big_bytes 8 a ≡ big_bytes 8 b → a ≡ b
eight_bytes a b p q e =
    sym (big_number-reads_back 8 a [] (omega (arith, p))) ∙ ap (λ (t : List ℕ). big_number 8 (t ++ [])) e ∙ big_number-reads_back 8 b [] (omega (arith, q))

same_some : (s t : List ℕ) → Some s ≡ Some t → s ≡ t
same_some s t e = cc e

-- what stands before the fence
before_fence : Geometry → (server : ℕ) → List ℕ
before_fence geo server =
    (90 ∷ 66 ∷ 82 ∷ 83 ∷ 0 ∷ 0 ∷ 0 ∷ 1 ∷ server ∷ geo.servers ∷ 0 ∷ 0 ∷ []) ++ big_bytes 4 geo.fragment ++ big_bytes 4 geo.block ++ big_bytes 4 geo.slots

fence_bytes : (geo : Geometry) (server a b : ℕ) → super_text geo server a ≡ super_text geo server b → big_bytes 8 a ≡ big_bytes 8 b
unfolding before_fence
fence_bytes geo server a b e =
    append_cancel_left (before_fence geo server) (big_bytes 8 a) (big_bytes 8 b)
    (append_cancel_right (before_fence geo server ++ big_bytes 8 a) (before_fence geo server ++ big_bytes 8 b) (replicate 8 0) e)

pub one_fence : FenceIsOne
one_fence geo server image a b is other p q = eight_bytes a b p q (fence_bytes geo server.0 a b (same_some (super_text geo server.0 a) (super_text geo server.0 b) (sym is ∙ other)))

pub image_whole : ImageIsWhole
image_whole geo server map fence image is = is.sound.large

-- an image with a fence is its server's
not_foreign : (geo : Geometry) (server : ServerId) (fence : ℕ) (image : List ℕ) → fence < 2 ^ 64 → HasFence geo server fence image → IsForeign geo server image → ⊥
not_foreign geo server fence image fits own foreign =
    let none : IsOf geo server.0 (Some (super_text geo server.0 fence)) None = subst (λ (v : Option (List ℕ)). IsOf geo server.0 v None) own foreign in
    none fence fits refl

pub own_image_opens : OwnImageOpens
own_image_opens geo server map fence image Blank is fits unfit = absurd (not_foreign geo server fence image fits is.own unfit)
own_image_opens geo server map fence image (Damaged slot) is fits unfit = absurd (is.sound.good slot unfit.1.within unfit.1.bad)
own_image_opens geo server map fence image NoMemory is fits unfit = inl refl
own_image_opens geo server map fence image Stopped is fits unfit = inr refl

pub free_known : FreeIsKnown
free_known store image is = free_counted store.index store.geo.slots (slots_in store.geo image) is

-- an open store knows how many slots of its platter are free
pub free_is_known : (store : SeenStore) (s : Standing) → IsOpen store s → free_of store ≡ free_on store.geo (s.seen store.server.0)
free_is_known store s is_open = free_known store (s.seen store.server.0) is_open.index
