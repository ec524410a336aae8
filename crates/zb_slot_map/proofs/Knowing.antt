-- Which slots may change: a free one under a new name, and the one that holds a name.
use Rattle.std.proofs.Common.{◌≡◌, ℕ, ◌<◌, Bool, true, false, if◌then◌else◌, List, Result, Option, None, Some, refl, sym, ◌∙◌, ap, subst, arith}
use Rattle.zb_outside.specs.Meaning.{Meaning, Standing}
use Rattle.zb_types.specs.declared.geometry.Geometry.{Geometry}
use Rattle.zb_types.specs.declared.ids.FragId.{FragId}
use Rattle.zb_holding.specs.Carrying.{same_frag}
use Rattle.zb_holding.specs.Fragments.{Fragment}
use Rattle.zb_slots.specs.Slots.{Slot, Stored, bad_slot, free_slot, full_slot, slot_place, slot_of}
use Rattle.zb_slots.specs.Holding.{named, held, fragment_of}
use Rattle.zb_slots.specs.Laws.{NoneBut}
use Rattle.zb_slots.proofs.Held.{none_holds}
use Rattle.zb_slots.specs.Changing.{IsReady, SlotTold}
use Rattle.zb_slots.specs.Slots.{slots_in}
use Rattle.zb_slots.specs.Holding.{map_of, IsLarge}
use Rattle.zb_slot_map.specs.Tidy.{AreTidy, put}
use Rattle.zb_slot_map.specs.Changing.{IsKept, MapTold, MayChange}
use Rattle.zb_holding.proofs.Keys.{same_frag-is}
use Rattle.zb_index.proofs.Following.{same_full}
use Rattle.zb_index.proofs.Held.{named_full}
use Rattle.zb_slot_map.proofs.Changes.{slot_within, lifted}

pub same_id : (a b : Stored) → full_slot a ≡ full_slot b → b.id ≡ a.id
same_id a b e = sym (ap (λ (s : Stored). s.id) (same_full a b e))

not_held : (found : Option Stored) → fragment_of found ≡ None → found ≡ None
not_held None h = refl
not_held (Some s) h = absurd (cc h)

-- a full slot other than the one of a name
named_by : (s : Stored) (id : FragId) (b : Bool) → same_frag s.id id ≡ b → (s.id ≡ id → ⊥) → (if b then Some s else None) ≡ None
named_by s id true is never = absurd (never (same_frag-is s.id id is))
named_by s id false is never = refl

unnamed : (slot : Slot) (id : FragId) → ((s : Stored) → slot ≡ full_slot s → s.id ≡ id → ⊥) → named id slot ≡ None
unnamed bad_slot id never = refl
unnamed free_slot id never = refl
unnamed (full_slot s) id never = named_by s id (same_frag s.id id) refl (never s refl)

pub not_free : (s : Stored) → free_slot ≡ full_slot s → ⊥
not_free s h = cc h

-- a free slot may hold a fragment under a name that the map lacks
pub may_fill : (n i : ℕ) (s : Stored) (before : ℕ → Slot) → AreTidy n before → i < n → before i ≡ free_slot → fragment_of (held before n s.id) ≡ None → MayChange n i s.id (full_slot s) before
may_fill n i s before tidy lt is_free none = record {
  tidy = tidy;
  within = lt;
  others = λ k lk ne. none_holds n k s.id before (not_held (held before n s.id) none) lk;
  was = λ t h. absurd (not_free t (sym is_free ∙ h));
  is = λ t h. same_id s t h;
  good = λ h. absurd (cc h);
}

module _ (n i : ℕ) (s : Stored) (before : ℕ → Slot) (tidy : AreTidy n before) (lt : i < n) (was : before i ≡ full_slot s) where
  pub no_other : NoneBut n i s.id before
  no_other = λ k lk ne. unnamed (before k) s.id (λ t h e. ne (tidy.once k i t s lk lt h was e))

  -- the slot of a name may hold another fragment under it
  pub may_replace : (t : Stored) → t.id ≡ s.id → MayChange n i s.id (full_slot t) before
  may_replace t e = record {
    tidy = tidy;
    within = lt;
    others = no_other;
    was = λ u h. same_id s u (sym was ∙ h);
    is = λ u h. same_id t u h ∙ e;
    good = λ h. absurd (cc h);
  }

  -- or be free
  pub may_free : MayChange n i s.id free_slot before
  may_free = record {
    tidy = tidy;
    within = lt;
    others = no_other;
    was = λ u h. same_id s u (sym was ∙ h);
    is = λ u h. absurd (not_free u h);
    good = λ h. absurd (cc h);
  }

pub ready_at : (geo : Geometry) (p i place : ℕ) (s : Standing) → place ≡ slot_place geo.fragment i → i < geo.slots → IsKept geo p s → IsReady p place geo.fragment s
ready_at geo p i place s at lt kept = record { settled = kept.settled; within = omega (arith, at, slot_within geo.fragment i geo.slots lt, kept.tidy.large) }

pub slot_at : (geo : Geometry) (i place : ℕ) (image : List ℕ) (this : Slot) → place ≡ slot_place geo.fragment i → slots_in geo image i ≡ this → slot_of geo.servers geo.fragment image place ≡ this
slot_at geo i place image this at is = ap (λ (k : ℕ). slot_of geo.servers geo.fragment image k) at ∙ is

-- what was told of a slot, told of the map
pub told_of_map : {T E : Type 0} {p place : ℕ} {r : Result T E} {a b : Meaning} (geo : Geometry) (i : ℕ) (id : FragId) (this : Slot) (fragment : Option Fragment) → fragment_of (named id this) ≡ fragment → place ≡ slot_place geo.fragment i
    → IsLarge geo (a.now.seen p) → MayChange geo.slots i id this (slots_in geo (a.now.seen p)) → SlotTold geo.servers geo.fragment p place this r a b → MapTold geo p i this (put id fragment (map_of geo (a.now.seen p))) r a b
told_of_map {p = p} {r = r} {a = a} {b = b} geo i id this fragment is at large may told =
    subst (λ (f : Option Fragment). MapTold geo p i this (put id f (map_of geo (a.now.seen p))) r a b) is
    (lifted geo i id this large may (subst (λ (k : ℕ). SlotTold geo.servers geo.fragment p k this r a b) at told))

pub holds_it : (s : Stored) → fragment_of (named s.id (full_slot s)) ≡ Some s.fragment
holds_it s = ap fragment_of (named_full s s.id refl)
