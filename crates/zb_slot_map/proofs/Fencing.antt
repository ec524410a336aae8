-- What a super cell that is set leaves.
use Rattle.std.proofs.Common.{◌≡◌, ◌⊎◌, inr, ℕ, zero, suc, ◌+◌, ◌<◌, ◌==◌, nat_lt, ◌&&◌, false, List, Result, Ok, Err, IsErr, Option, None, Some, refl, sym, ◌∙◌, ap, subst, arith}
use Rattle.std.proofs.lemmas.Result.{on_ok_weaker}
use Rattle.zb_outside.specs.Meaning.{Meaning}
use Rattle.zb_outside.specs.Ranges.{SameBeside}
use Rattle.zb_outside.specs.Runs.{Run}
use Rattle.zb_outside.proofs.Runs.{weaker_run, then_run}
use Rattle.zb_cell.specs.Cell.{counts, pick, window, value_of, bytes_at, value}
use Rattle.zb_cell.specs.Set.{SetTold}
use Rattle.zb_types.specs.declared.geometry.Geometry.{Geometry}
use Rattle.zb_types.specs.declared.ids.FragId.{FragId}
use Rattle.zb_slots.specs.Slots.{Slot, free_slot, shown, header_in, slot_place, slot_of}
use Rattle.zb_slots.specs.Holding.{named, fragment_of, free_in, free_count}
use Rattle.zb_slots.proofs.Held.{none_held}
use Rattle.zb_slots.proofs.Placed.{slot_ext}
use Rattle.zb_slots.specs.Slots.{slots_in}
use Rattle.zb_slots.specs.Holding.{map_of}
use Rattle.zb_slot_map.specs.Tidy.{AreTidy, IsTidy}
use Rattle.zb_slot_map.specs.Super.{FormerOrFenced, IsFenced, FenceTold, IsFormatted, FormatTold}
use Rattle.zb_slot_map.specs.Zeros.{AreZeros, WipeTold}
use Rattle.zb_slot_map.proofs.Changes.{tidy_sound, tidy_same, map_same}
use Rattle.zb_slot_map.proofs.Knowing.{not_free}
use Rattle.zb_slot_map.proofs.Wiping.{Any}

-- the slots stand behind the super cell
slots_stay : (geo : Geometry) (old new : List ℕ) → SameBeside 0 128 old new → (k : ℕ) → slots_in geo new k ≡ slots_in geo old k
slots_stay geo old new o k =
    slot_ext geo.servers geo.fragment (bytes_at new (slot_place geo.fragment k)) (bytes_at old (slot_place geo.fragment k)) (omega (arith, geo.limits.servers_high))
    (λ i lt. o.same (slot_place geo.fragment k + i) (inr (omega arith)))

module _ (geo : Geometry) (text old new : List ℕ) (tidy : IsTidy geo old) (o : SameBeside 0 128 old new) where
  still_tidy : IsTidy geo new
  still_tidy = record { large = omega (arith, tidy.large, o.same_length); slots = tidy_same geo.slots (slots_in geo old) (slots_in geo new) (λ k lt. slots_stay geo old new o k) tidy.slots }

  still_map : (id : FragId) → map_of geo new id ≡ map_of geo old id
  still_map = map_same geo old new (λ k lt. slots_stay geo old new o k)

  former_or_fenced : (value new 0 ≡ value old 0) ⊎ (value new 0 ≡ Some text) → FormerOrFenced geo text old new
  former_or_fenced either = record { sound = tidy_sound geo new still_tidy; super = either; size = o.same_length; map = still_map }

  is_fenced : value new 0 ≡ Some text → IsFenced geo text old new
  is_fenced is = record { tidy = still_tidy; super = is; slots = λ k lt. slots_stay geo old new o k; map = still_map }

pub fenced : {T E : Type 0} {p : ℕ} {text : List ℕ} {r : Result T E} {a b : Meaning} (geo : Geometry) → IsTidy geo (a.now.seen p) → SetTold p 0 text r a b → FenceTold geo p text r a b
fenced {p = p} {text = text} {r = r} {a = a} {b = b} geo tidy set = record {
  run = weaker_run set.run (λ image h. former_or_fenced geo text (a.now.seen p) image tidy h.outside h.either);
  settled = set.settled;
  fenced = on_ok_weaker r (λ is. is_fenced geo text (a.now.seen p) (b.now.seen p) tidy (set.run.here (b.now.seen p) (b.seen_now p)).outside is) set.value;
}

-- a cell of zeros has no value
zero_counts : (f : ℕ → ℕ) (at : ℕ) → f at ≡ 0 → counts f at ≡ false
zero_counts f at is = ap (λ (n : ℕ). (n == 1) && nat_lt (f (at + 1)) 3) is

zero_value : (f : ℕ → ℕ) → f 0 ≡ 0 → f 64 ≡ 0 → value_of f ≡ None
zero_value f first second = λ i. pick (zero_counts f 0 first i) (f 1) (window f 8 40) (zero_counts f 64 second i) (f 65) (window f 72 40)

zero_slot : (n f place : ℕ) (image : List ℕ) → bytes_at image place 0 ≡ 0 → bytes_at image place 64 ≡ 0 → slot_of n f image place ≡ free_slot
zero_slot n f place image first second = ap (λ (v : Option (List ℕ)). shown n (bytes_at image place) (header_in n f v)) (zero_value (bytes_at image place) first second)

-- where all slots are free
all_free : (n : ℕ) (slots : ℕ → Slot) → ((k : ℕ) → k < n → slots k ≡ free_slot) → free_count slots n ≡ n
all_free zero slots free = refl
all_free (suc n) slots free =
    let rest : free_count slots n ≡ n = all_free n slots (λ k lt. free k (omega arith)) in
    let one : free_in (slots n) ≡ 1 = ap free_in (free n (omega arith)) in
    omega (arith, rest, one)

free_tidy : (n : ℕ) (slots : ℕ → Slot) → ((k : ℕ) → k < n → slots k ≡ free_slot) → AreTidy n slots
free_tidy n slots free = record {
  good = λ j lt bad. absurd (cc (sym (free j lt) ∙ bad));
  once = λ i j a b li lj x y e. absurd (not_free a (sym (free i li) ∙ x));
}

formatted_image : (geo : Geometry) (text old new : List ℕ) → AreZeros (slot_place geo.fragment geo.slots) old → SameBeside 0 128 old new → value new 0 ≡ Some text → IsFormatted geo text new
formatted_image geo text old new was o is =
    let free : (k : ℕ) → k < geo.slots → slots_in geo new k ≡ free_slot = λ k lt. slots_stay geo old new o k ∙ zero_slot geo.servers geo.fragment (slot_place geo.fragment k) old (was.zeros _) (was.zeros _) in
    record {
      tidy = record { large = omega (arith, was.size, o.same_length); slots = free_tidy geo.slots (slots_in geo new) free };
      super = is;
      size = o.same_length ∙ was.size;
      slots = free;
      map = λ id. ap fragment_of (none_held geo.slots id (slots_in geo new) (λ k lt. ap (named id) (free k lt)));
      free = all_free geo.slots (slots_in geo new) free;
    }

pub format_failed : {T E : Type 0} {p : ℕ} {text : List ℕ} {geo : Geometry} (r : Result T E) {a b : Meaning} → IsErr r → Run p Any a b → FormatTold geo p text r a b
format_failed (Ok x) err run = absurd (cc err)
format_failed (Err e) err run = record { run = run; settled = tt; formatted = tt }

pub formatted : {T E U F : Type 0} {x : T} {p size : ℕ} {text : List ℕ} {r : Result U F} {a b c : Meaning} (geo : Geometry) → size ≡ slot_place geo.fragment geo.slots → WipeTold {E = E} p size (Ok x) a b → SetTold p 0 text r b c → FormatTold geo p text r a c
formatted {p = p} {text = text} {r = r} {b = b} {c = c} geo is wipe set = record {
  run = then_run wipe.run set.run (λ i h. tt);
  settled = set.settled;
  formatted = on_ok_weaker r (λ here. formatted_image geo text (b.now.seen p) (c.now.seen p) (subst (λ (n : ℕ). AreZeros n (b.now.seen p)) is wipe.zeros) (set.run.here (c.now.seen p) (c.seen_now p)).outside here) set.value;
}

-- what a cell was set to, told of another answer and by an equal text
pub set_as : {T U E F : Type 0} {p at : ℕ} {v w : List ℕ} (x : T) (y : U) {a b : Meaning} → v ≡ w → SetTold {E = E} p at v (Ok x) a b → SetTold {E = F} p at w (Ok y) a b
set_as {F = F} {p = p} {at = at} x y {a = a} {b = b} same h = subst (λ (t : List ℕ). SetTold {E = F} p at t (Ok y) a b) same (record { run = h.run; settled = h.settled; value = h.value; copy = h.copy })
