-- What a change of one slot does to a tidy platter.
use Rattle.std.proofs.Common.{◌≡◌, ◌≢◌, inl, inr, ⊎_elim, ℕ, ◌+◌, ◌*◌, ◌<◌, ◌≤◌, Bool, true, false, if◌then◌else◌, List, Result, Option, None, refl, sym, ◌∙◌, ap, arith}
use Rattle.std.proofs.lemmas.Result.{on_ok_weaker}
use Rattle.std.proofs.lemmas.Bool.{cases_eq}
use Rattle.std.proofs.Math.Nat.{mul-le-mul_right}
use Rattle.zb_outside.specs.Meaning.{Meaning}
use Rattle.zb_outside.specs.Ranges.{SameBeside}
use Rattle.zb_outside.proofs.Runs.{weaker_run}
use Rattle.zb_cell.specs.Cell.{bytes_at, value}
use Rattle.zb_cell.proofs.Values.{value_ext}
use Rattle.zb_types.specs.declared.geometry.Geometry.{Geometry}
use Rattle.zb_types.specs.declared.ids.FragId.{FragId}
use Rattle.zb_holding.specs.Carrying.{same_frag}
use Rattle.zb_holding.specs.Fragments.{Fragment}
use Rattle.zb_slots.specs.Slots.{Slot, Stored, full_slot, slot_place}
use Rattle.zb_slots.specs.Holding.{named, held, fragment_of, IsBad, Repeats}
use Rattle.zb_slots.specs.Laws.{SameBut, NoneBut}
use Rattle.zb_slots.proofs.Held.{same_held, others_stay, one_holds}
use Rattle.zb_slots.proofs.Placed.{others_left}
use Rattle.zb_slots.specs.Changing.{FormerOrThis, SlotTold}
use Rattle.zb_slots.specs.Slots.{slots_in}
use Rattle.zb_slots.specs.Holding.{map_of, IsLarge}
use Rattle.zb_slot_map.specs.Tidy.{IsSound, AreTidy, IsTidy, put}
use Rattle.zb_slot_map.specs.Changing.{FormerOrNext, IsChanged, MapTold, MayChange}
use Rattle.zb_holding.proofs.Keys.{same_frag-is}
use Rattle.zb_index.proofs.Held.{named_full}
use Rattle.zb_slot_map.proofs.Names.{only_named}

-- slot i lies within the slots
pub slot_within : (f i slots : ℕ) → i < slots → slot_place f i + (192 + f) ≤ slot_place f slots
slot_within f i slots lt =
    let h : (i + 1) * (192 + f) ≤ slots * (192 + f) = mul-le-mul_right (192 + f) (omega arith) in
    let e : (i + 1) * (192 + f) ≡ i * (192 + f) + (192 + f) = grind arith in
    omega (arith, h, e)

-- tidy slots are good
pub tidy_good : (n : ℕ) (slots : ℕ → Slot) → AreTidy n slots → (j : ℕ) → j < n → IsBad slots n j → ⊥
tidy_good n slots tidy j lt bad = ⊎_elim (λ h. tidy.good j lt h) repeats bad
  where
    repeats : Repeats slots n j → ⊥
    repeats r = omega (arith, r.below, tidy.once r.i j r.former r.stored (omega (arith, r.below, lt)) lt r.there r.here (sym r.same))

pub tidy_sound : (geo : Geometry) (image : List ℕ) → IsTidy geo image → IsSound geo image
tidy_sound geo image tidy = record { large = tidy.large; good = tidy_good geo.slots (slots_in geo image) tidy.slots }

-- where all slots are the same, so are tidiness and the map
pub tidy_same : (n : ℕ) (before now : ℕ → Slot) → ((k : ℕ) → k < n → now k ≡ before k) → AreTidy n before → AreTidy n now
tidy_same n before now same tidy = record {
  good = λ j lt bad. tidy.good j lt (sym (same j lt) ∙ bad);
  once = λ i j a b li lj x y e. tidy.once i j a b li lj (sym (same i li) ∙ x) (sym (same j lj) ∙ y) e;
}

pub map_same : (geo : Geometry) (old new : List ℕ) → ((k : ℕ) → k < geo.slots → slots_in geo new k ≡ slots_in geo old k) → (id : FragId) → map_of geo new id ≡ map_of geo old id
map_same geo old new same id = ap fragment_of (same_held geo.slots id (slots_in geo old) (slots_in geo new) (λ k lt. ap (named id) (same k lt)))

-- slots of which one alone has changed
module _ (n i : ℕ) (id : FragId) (this : Slot) (before now : ℕ → Slot) (may : MayChange n i id this before) (same : SameBut n i before now) (here : now i ≡ this) where
  pub none_but : NoneBut n i id now
  none_but = λ k lt ne. ap (named id) (same k lt ne) ∙ may.others k lt ne

  held_by : (other : FragId) (b : Bool) → same_frag id other ≡ b → fragment_of (held now n other) ≡ (if b then fragment_of (named id this) else fragment_of (held before n other))
  held_by other true is =
      ap (λ (a : FragId). fragment_of (held now n a)) (sym (same_frag-is id other is))
      ∙ ap fragment_of (one_holds n i id now may.within none_but ∙ ap (named id) here)
  held_by other false is =
      ap fragment_of (others_stay n i other before now same (only_named id other (before i) may.was is) (ap (named other) here ∙ only_named id other this may.is is))

  pub held_next : (other : FragId) → fragment_of (held now n other) ≡ put id (fragment_of (named id this)) (λ q. fragment_of (held before n q)) other
  held_next other = held_by other (same_frag id other) refl

  -- no other slot holds the name of this one
  clash : (j : ℕ) → j < n → j ≢ i → (a b : Stored) → now i ≡ full_slot a → now j ≡ full_slot b → a.id ≡ b.id → ⊥
  clash j lt ne a b x y e =
      let mine : a.id ≡ id = may.is a (sym here ∙ x) in
      let none : named id (full_slot b) ≡ None = ap (named id) (sym y) ∙ none_but j lt ne in
      absurd (cc (sym (named_full b id (sym e ∙ mine)) ∙ none))

  pub tidy_next : AreTidy n now
  tidy_next = record {
    good = λ j lt bad. elim (cases_eq j i) [
      | inl is ↦ may.good (sym here ∙ ap now (sym is) ∙ bad)
      | inr not ↦ may.tidy.good j lt (sym (same j lt not) ∙ bad)
    ];
    once = λ j k a b lj lk x y e. elim (cases_eq j i) [
      | inl is ↦ elim (cases_eq k i) [
        | inl also ↦ is ∙ sym also
        | inr not ↦ absurd (clash k lk not a b (ap now (sym is) ∙ x) y e)
      ]
      | inr not ↦ elim (cases_eq k i) [
        | inl also ↦ absurd (clash j lj not b a (ap now (sym also) ∙ y) x (sym e))
        | inr neither ↦ may.tidy.once j k a b lj lk (sym (same j lj not) ∙ x) (sym (same k lk neither) ∙ y) e
      ]
    ];
  }

-- a change within slot i of an image
module _ (geo : Geometry) (i : ℕ) (old new : List ℕ) (o : SameBeside (slot_place geo.fragment i) (192 + geo.fragment) old new) where
  pub others_same : SameBut geo.slots i (slots_in geo old) (slots_in geo new)
  others_same = λ k lt ne. others_left geo.servers geo.fragment i k old new (omega (arith, geo.limits.servers_high)) ne o

  pub super_same : value new 0 ≡ value old 0
  super_same = value_ext (bytes_at new 0) (bytes_at old 0) (λ k lt. o.same (0 + k) (inl (omega arith)))

  pub all_same : slots_in geo new i ≡ slots_in geo old i → (k : ℕ) → k < geo.slots → slots_in geo new k ≡ slots_in geo old k
  all_same here k lt = elim (cases_eq k i) [
    | inl is ↦ ap (slots_in geo new) is ∙ here ∙ sym (ap (slots_in geo old) is)
    | inr not ↦ others_same k lt not
  ]

module _ (geo : Geometry) (i : ℕ) (id : FragId) (this : Slot) (old : List ℕ) (large : IsLarge geo old) (may : MayChange geo.slots i id this (slots_in geo old)) where
  abbrev next : FragId → Option Fragment
  next = put id (fragment_of (named id this)) (map_of geo old)

  pub is_changed : (new : List ℕ) → SameBeside (slot_place geo.fragment i) (192 + geo.fragment) old new → slots_in geo new i ≡ this → IsChanged geo i this next old new
  is_changed new o here = record {
    tidy = record { large = omega (arith, large, o.same_length); slots = tidy_next geo.slots i id this (slots_in geo old) (slots_in geo new) may (others_same geo i old new o) here };
    super = super_same geo i old new o;
    slot = here;
    others = others_same geo i old new o;
    map = held_next geo.slots i id this (slots_in geo old) (slots_in geo new) may (others_same geo i old new o) here;
  }

  pub former_or_next : (new : List ℕ) → FormerOrThis geo.servers geo.fragment (slot_place geo.fragment i) this old new → FormerOrNext geo next old new
  former_or_next new h = ⊎_elim
      (λ same. record {
        sound = tidy_sound geo new (record { large = omega (arith, large, h.outside.same_length); slots = tidy_same geo.slots (slots_in geo old) (slots_in geo new) (all_same geo i old new h.outside same) may.tidy });
        super = super_same geo i old new h.outside;
        size = h.outside.same_length;
        map = inl (map_same geo old new (all_same geo i old new h.outside same));
      })
      (λ here. let is = is_changed new h.outside here in record { sound = tidy_sound geo new is.tidy; super = is.super; size = h.outside.same_length; map = inr is.map })
      h.either

-- a change of a slot is a change of the map
pub lifted : {T E : Type 0} {p : ℕ} {r : Result T E} {a b : Meaning} (geo : Geometry) (i : ℕ) (id : FragId) (this : Slot) → IsLarge geo (a.now.seen p) → MayChange geo.slots i id this (slots_in geo (a.now.seen p))
    → SlotTold geo.servers geo.fragment p (slot_place geo.fragment i) this r a b → MapTold geo p i this (put id (fragment_of (named id this)) (map_of geo (a.now.seen p))) r a b
lifted {p = p} {r = r} {a = a} {b = b} geo i id this large may told = record {
  run = weaker_run told.run (former_or_next geo i id this (a.now.seen p) large may);
  settled = told.settled;
  changed = on_ok_weaker r (λ here. is_changed geo i id this (a.now.seen p) large may (b.now.seen p) (told.run.here (b.now.seen p) (b.seen_now p)).outside here) told.slot;
}
