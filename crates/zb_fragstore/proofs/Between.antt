-- What each moment of a request holds.
use Rattle.std.proofs.Common.{◌≡◌, ◌⊎◌, inl, inr, ⊎_elim, ℕ, List, refl, sym, ◌∙◌, subst}
use Rattle.zb_outside.specs.Meaning.{Standing}
use Rattle.zb_types.specs.declared.requests.Request.{Request}
use Rattle.zb_types.specs.declared.requests.Request.TheVariants as ask
use Rattle.zb_holding.specs.Rules.{map_after}
use Rattle.zb_slot_map.specs.Tidy.{IsTidy}
use Rattle.zb_slot_map.specs.Changing.{FormerOrNext}
use Rattle.zb_slot_map.specs.Super.{super_text, FormerOrFenced}
use Rattle.zb_slot_map.proofs.Changes.{tidy_sound}
use Rattle.zb_fragstore.specs.Seen.{SeenStore}
use Rattle.zb_fragstore.specs.Images.{map_on, HasFence, IsImageOf}
use Rattle.zb_fragstore.specs.Changing.{IsOpen, IsBetween, map_in}

module _ (store : SeenStore) (old : List ℕ) (own : HasFence store.geo store.server store.fence old) where
  -- the former map or the next
  pub between_next : (request : Request) (new : List ℕ) → FormerOrNext store.geo (map_after request (map_on store.geo old)) old new → IsBetween store request old new
  between_next request new h = record {
    map = map_on store.geo new;
    fence = store.fence;
    image = record { own = h.super ∙ own; sound = h.sound; holds = λ id. refl };
    size = h.size;
    map_is = h.map;
    fence_is = inl refl;
  }

  by_fence : (fence : ℕ) (new : List ℕ) → FormerOrFenced store.geo (super_text store.geo store.server.0 fence) old new → (now : ℕ) → HasFence store.geo store.server now new → (now ≡ store.fence) ⊎ (now ≡ fence)
      → IsBetween store (ask.Fence fence) old new
  by_fence fence new h now own_now is = record {
    map = map_on store.geo new;
    fence = now;
    image = record { own = own_now; sound = h.sound; holds = λ id. refl };
    size = h.size;
    map_is = inl h.map;
    fence_is = is;
  }

  -- the former fence or this one
  pub between_fence : (fence : ℕ) (new : List ℕ) → FormerOrFenced store.geo (super_text store.geo store.server.0 fence) old new → IsBetween store (ask.Fence fence) old new
  between_fence fence new h = ⊎_elim
      (λ same. by_fence fence new h store.fence (same ∙ own) (inl refl))
      (λ is. by_fence fence new h fence is (inr refl))
      h.super

  pub between_same : (request : Request) → IsTidy store.geo old → IsBetween store request old old
  between_same request tidy = record {
    map = map_on store.geo old;
    fence = store.fence;
    image = record { own = own; sound = tidy_sound store.geo old tidy; holds = λ id. refl };
    size = refl;
    map_is = inl (λ id. refl);
    fence_is = inl refl;
  }

-- a crash of an open store leaves what stands
pub still_between : (store : SeenStore) (request : Request) (s : Standing) → IsOpen store s → (image : List ℕ) → s.may_leave store.server.0 image → IsBetween store request (s.seen store.server.0) image
still_between store request s is_open image may =
    subst (IsBetween store request (s.seen store.server.0)) (sym (is_open.kept.settled.only image may)) (between_same store (s.seen store.server.0) is_open.super request is_open.kept.tidy)

-- the platter of an open store has the store's map and fence
pub open_image : (store : SeenStore) (s : Standing) → IsOpen store s → IsImageOf store.geo store.server (map_in store s) store.fence (s.seen store.server.0)
open_image store s is_open = record { own = is_open.super; sound = tidy_sound store.geo (s.seen store.server.0) is_open.kept.tidy; holds = λ id. refl }
