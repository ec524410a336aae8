-- Older parities that are freed one behind the other.
use Rattle.std.proofs.Common.{◌≡◌, ◌≢◌, inl, inr, ⊎_elim, ℕ, zero, suc, ◌+◌, ◌<◌, ◌≤◌, List, length, slice_index, [], ◌∷◌, Result, Ok, Err, IsErr, refl, sym, ◌∙◌, ap, subst, arith}
use Rattle.std.specs.List.Sorted.{IsStrictlyIncreasing}
use Rattle.std.proofs.lemmas.Bool.{cases_eq}
use Rattle.std.proofs.lemmas.Bool.Decides.{nat_tests}
use Rattle.zb_outside.specs.Meaning.{Meaning}
use Rattle.zb_outside.specs.Runs.{Run, IsSettled}
use Rattle.zb_outside.proofs.Runs.{started, then_run}
use Rattle.zb_types.specs.declared.geometry.Geometry.{Geometry}
use Rattle.zb_slots.specs.Slots.{free_slot, slot_place}
use Rattle.zb_slots.specs.Holding.{fragment_of}
use Rattle.zb_slots.specs.Changing.{IsReady, FormerOrThis, SlotTold}
use Rattle.zb_slots.specs.Slots.{slots_in}
use Rattle.zb_slot_map.specs.Tidy.{IsSound}
use Rattle.zb_slot_map.proofs.Changes.{slot_within, map_same, others_same, super_same, all_same}
use Rattle.zb_slot_map.proofs.Knowing.{not_free}
use Rattle.zb_index.specs.Free.{once, times}
use Rattle.zb_index.specs.Twins.{IsOlder}
use Rattle.zb_slot_map.specs.Freeing.{HasOlder, StaysSame, HasFreed, FreeTold}
use Rattle.zb_slot_map.proofs.Pairs.{still_good, as_before_or_free, held_same, still_older, was_older, tidy_when_none}

-- a number that is counted in a list stands in it
standing : (xs : List ℕ) (j : ℕ) → 0 < times j xs → (k : ℕ) × (k < length xs) × (slice_index xs k ≡ j)
standing [] j some = absurd (omega arith)
standing (x ∷ xs) j some = elim (cases_eq x j) [
  | inl is ↦ (0, omega arith, is)
  | inr not ↦
      let none : once x j ≡ 0 = grind (arith, nat_tests) in
      let rest = standing xs j (omega (arith, some, none)) in
      (suc rest.0, omega (arith, rest.1), rest.2)
]

one : (x : ℕ) → once x x ≡ 1
one x = grind (arith, nat_tests)

counted : (xs : List ℕ) (k : ℕ) → k < length xs → 0 < times (slice_index xs k) xs
counted [] k lt = absurd (omega arith)
counted (x ∷ xs) zero lt = omega (arith, one x)
counted (x ∷ xs) (suc k) lt = omega (arith, counted xs k (omega arith))

pub same_image : (geo : Geometry) (image : List ℕ) → StaysSame geo image image
same_image geo image = record { sound = λ s. s; super = refl; size = refl; map = λ id. refl }

pub same_then : (geo : Geometry) (a b c : List ℕ) → StaysSame geo a b → StaysSame geo b c → StaysSame geo a c
same_then geo a b c f s = record { sound = λ x. s.sound (f.sound x); super = s.super ∙ f.super; size = s.size ∙ f.size; map = λ id. s.map id ∙ f.map id }

-- a slot with an older parity is written
module _ (geo : Geometry) (j : ℕ) (old : List ℕ) (sound : IsSound geo old) (older : IsOlder (slots_in geo old) geo.slots j) where
  pub free_keeps : (new : List ℕ) → FormerOrThis geo.servers geo.fragment (slot_place geo.fragment j) free_slot old new → StaysSame geo old new
  free_keeps new h = ⊎_elim
      (λ same.
      let all : (k : ℕ) → k < geo.slots → slots_in geo new k ≡ slots_in geo old k = all_same geo j old new h.outside same in
      record {
        sound = λ _. record { large = omega (arith, sound.large, h.outside.same_length); good = still_good (slots_in geo old) (slots_in geo new) geo.slots (λ k lt. inl (all k lt)) sound.good };
        super = super_same geo j old new h.outside;
        size = h.outside.same_length;
        map = map_same geo old new all;
      })
      (λ gone.
      let others = others_same geo j old new h.outside in
      record {
        sound = λ _. record {
          large = omega (arith, sound.large, h.outside.same_length);
          good = still_good (slots_in geo old) (slots_in geo new) geo.slots (as_before_or_free (slots_in geo old) (slots_in geo new) geo.slots j sound.good older others gone) sound.good;
        };
        super = super_same geo j old new h.outside;
        size = h.outside.same_length;
        map = λ id. ap fragment_of (held_same (slots_in geo old) (slots_in geo new) geo.slots j sound.good older others gone id);
      })
      h.either

pub increasing : (xs : List ℕ) → IsStrictlyIncreasing xs → (i k : ℕ) → i < k → k < length xs → slice_index xs i < slice_index xs k
increasing xs order i zero lt within = absurd (omega arith)
increasing xs order i (suc k) lt within =
    let step : slice_index xs k < slice_index xs (suc k) = omega (arith, order k (omega arith), ap (slice_index xs) (add_one k)) in
    elim (cases_eq i k) [
      | inl is ↦ omega (arith, step, ap (slice_index xs) is)
      | inr not ↦ omega (arith, step, increasing xs order i k (omega (arith, not)) (omega arith))
    ]
  where
    add_one : (n : ℕ) → n + 1 ≡ suc n
    add_one n = omega arith

-- the first i of the list are freed
pub record Going (geo : Geometry) (older : List ℕ) (i : ℕ) (old new : List ℕ) : Type 0 where
  pub same : StaysSame geo old new
  pub sound : IsSound geo new
  pub free : (k : ℕ) → k < i → slots_in geo new (slice_index older k) ≡ free_slot
  pub others : (j : ℕ) → j < geo.slots → ((k : ℕ) → k < i → slice_index older k ≢ j) → slots_in geo new j ≡ slots_in geo old j
  pub rest : (k : ℕ) → i ≤ k → k < length older → IsOlder (slots_in geo new) geo.slots (slice_index older k)
  pub back : (j : ℕ) → IsOlder (slots_in geo new) geo.slots j → IsOlder (slots_in geo old) geo.slots j

pub none_freed : (geo : Geometry) (older image : List ℕ) → IsSound geo image → HasOlder geo image older → Going geo older 0 image image
none_freed geo older image sound has = record {
  same = same_image geo image;
  sound = sound;
  free = λ k lt. absurd (omega arith);
  others = λ j lt ne. refl;
  rest = λ k le lt. has.each (slice_index older k) (counted older k lt);
  back = λ j h. h;
}

-- one more is freed
module _ (geo : Geometry) (older : List ℕ) (i : ℕ) (old now new : List ℕ) (has : HasOlder geo old older) (going : Going geo older i old now) (within : i < length older)
    (h : FormerOrThis geo.servers geo.fragment (slot_place geo.fragment (slice_index older i)) free_slot now new) where
  abbrev this : ℕ
  this = slice_index older i

  here : IsOlder (slots_in geo now) geo.slots this
  here = going.rest i (omega arith) within

  pub still_same : StaysSame geo old new
  still_same = same_then geo old now new going.same (free_keeps geo this now going.sound here new h)

  below : (k : ℕ) → k < length older → slice_index older k < geo.slots
  below k lt = (has.each (slice_index older k) (counted older k lt)).within

  pub went : slots_in geo new this ≡ free_slot → Going geo older (i + 1) old new
  went gone =
      let others = others_same geo this now new h.outside in
      let good = going.sound.good in
      record {
        same = still_same;
        sound = (free_keeps geo this now going.sound here new h).sound going.sound;
        free = λ k lt. elim (cases_eq (slice_index older k) this) [
          | inl is ↦ ap (slots_in geo new) is ∙ gone
          | inr not ↦
              let low : k < i = omega (arith, lt, differs k not) in
              others (slice_index older k) (below k (omega (arith, low, within))) not ∙ going.free k low
        ];
        others = λ j lt ne. others j lt (λ e. ne i (omega arith) (sym e)) ∙ going.others j lt (λ k lk. ne k (omega arith));
        rest = λ k le lt. still_older (slots_in geo now) (slots_in geo new) geo.slots this good here others gone (slice_index older k)
            (λ e. absurd (omega (arith, increasing older has.order i k (omega arith) lt, e))) (going.rest k (omega arith) lt);
        back = λ j older_now. going.back j (was_older (slots_in geo now) (slots_in geo new) geo.slots this good here others gone j older_now);
      }
    where
      differs : (k : ℕ) → slice_index older k ≢ this → k ≢ i
      differs k ne e = ne (ap (slice_index older) e)

pub all_freed : (geo : Geometry) (older : List ℕ) (i : ℕ) (old new : List ℕ) → i ≡ length older → HasOlder geo old older → Going geo older i old new → HasFreed geo older old new
all_freed geo older i old new all has going = record {
  tidy = record { large = going.sound.large; slots = tidy_when_none (slots_in geo new) geo.slots going.sound.good (λ j h. not_free h.stored (sym (freed j (has.all j (going.back j h))) ∙ h.full)) };
  slots = record {
    free = λ j lt there. freed j there;
    others = λ j lt none. going.others j lt (λ k lk e. absurd (omega (arith, none, ap (λ (m : ℕ). times m older) e, counted older k (omega (arith, lk, all)))));
  };
}
  where
    freed : (j : ℕ) → 0 < times j older → slots_in geo new j ≡ free_slot
    freed j there = let at = standing older j there in ap (slots_in geo new) (sym at.2) ∙ going.free at.0 (omega (arith, at.1, all))

pub free_failed : {T E : Type 0} {p : ℕ} {geo : Geometry} {older : List ℕ} (r : Result T E) {a b : Meaning} → IsErr r → Run p (StaysSame geo (a.now.seen p)) a b → FreeTold geo p older r a b
free_failed (Ok x) err run = absurd (cc err)
free_failed (Err e) err run = record { run = run; settled = tt; freed = tt }

-- how far the calls have come
pub record IsUnderway (geo : Geometry) (p : ℕ) (older : List ℕ) (i : ℕ) (a b : Meaning) : Type 0 where
  pub run : Run p (StaysSame geo (a.now.seen p)) a b
  pub settled : IsSettled p b.now
  pub going : Going geo older i (a.now.seen p) (b.now.seen p)

pub begun : (geo : Geometry) (p : ℕ) (older : List ℕ) (a : Meaning) → IsSettled p a.now → IsSound geo (a.now.seen p) → HasOlder geo (a.now.seen p) older → IsUnderway geo p older 0 a a
begun geo p older a settled sound has = record {
  run = started p (StaysSame geo (a.now.seen p)) a (λ c h. subst (StaysSame geo (a.now.seen p)) (sym (settled.only c h)) (same_image geo (a.now.seen p)));
  settled = settled;
  going = none_freed geo older (a.now.seen p) sound has;
}

module _ {p : ℕ} {a b : Meaning} (geo : Geometry) (older : List ℕ) (i slot place : ℕ) (has : HasOlder geo (a.now.seen p) older) (way : IsUnderway geo p older i a b) (within : i < length older) (item : slot ≡ slice_index older i) (at : place ≡ slot_place geo.fragment slot) where
  there : place ≡ slot_place geo.fragment (slice_index older i)
  there = at ∙ ap (slot_place geo.fragment) item

  pub ready : IsReady p place geo.fragment b.now
  ready = record {
    settled = way.settled;
    within = omega (arith, there, slot_within geo.fragment (slice_index older i) geo.slots (way.going.rest i (omega arith) within).within, way.going.sound.large);
  }

  moved : {T E : Type 0} {r : Result T E} {c : Meaning} → SlotTold geo.servers geo.fragment p place free_slot r b c → SlotTold geo.servers geo.fragment p (slot_place geo.fragment (slice_index older i)) free_slot r b c
  moved {r = r} {c = c} told = subst (λ (k : ℕ). SlotTold geo.servers geo.fragment p k free_slot r b c) there told

  pub goes_on : {T E : Type 0} {r : Result T E} {c : Meaning} → SlotTold geo.servers geo.fragment p place free_slot r b c → Run p (StaysSame geo (a.now.seen p)) a c
  goes_on told = then_run way.run (moved told).run (λ c h. still_same geo older i (a.now.seen p) (b.now.seen p) c has way.going within h)

  pub one_more : {T E : Type 0} {x : T} {c : Meaning} → SlotTold {E = E} geo.servers geo.fragment p place free_slot (Ok x) b c → IsUnderway geo p older (i + 1) a c
  one_more {c = c} told =
      let here = moved told in
      record {
        run = goes_on told;
        settled = told.settled;
        going = went geo older i (a.now.seen p) (b.now.seen p) (c.now.seen p) has way.going within (here.run.here (c.now.seen p) (c.seen_now p)) here.slot;
      }
