-- What the two writes of a replacement leave of the map.
use Rattle.std.proofs.Common.{◌≡◌, ◌≢◌, inl, inr, ⊎_elim, ℕ, ◌+◌, ◌<◌, List, length, Result, Ok, Err, IsErr, Option, Some, ◌∙◌, subst, arith}
use Rattle.std.proofs.lemmas.Result.{on_ok_weaker}
use Rattle.zb_outside.specs.Meaning.{Meaning}
use Rattle.zb_outside.specs.Ranges.{SameBeside}
use Rattle.zb_outside.specs.Runs.{Run}
use Rattle.zb_outside.proofs.Runs.{weaker_run, then_run}
use Rattle.zb_types.specs.declared.geometry.Geometry.{Geometry}
use Rattle.zb_types.specs.declared.ids.FragId.{FragId}
use Rattle.zb_holding.specs.Fragments.{Fragment}
use Rattle.zb_slots.specs.Slots.{Slot, Stored, free_slot, full_slot, slot_place}
use Rattle.zb_slots.specs.Changing.{IsReady, FormerOrThis, SlotTold}
use Rattle.zb_slots.specs.Slots.{slots_in}
use Rattle.zb_slots.specs.Holding.{map_of, IsLarge}
use Rattle.zb_slot_map.specs.Tidy.{IsSound, put}
use Rattle.zb_slot_map.specs.Changing.{FormerOrNext, IsReplaced, ReplaceTold}
use Rattle.zb_slot_map.proofs.Changes.{slot_within, tidy_sound, tidy_same, map_same, others_same, super_same, all_same}
use Rattle.zb_slot_map.proofs.Replacing.{MayReplace, apart, both_map, both_good, alone_tidy, alone_map}

module _ (geo : Geometry) (i j : ℕ) (s t : Stored) (old : List ℕ) (large : IsLarge geo old) (may : MayReplace geo.slots i j s t (slots_in geo old)) where
  abbrev next : FragId → Option Fragment
  next = put s.id (Some t.fragment) (map_of geo old)

  -- a slot of the new parity, and one of the former
  abbrev At : ℕ → List ℕ → List ℕ → Type 0
  At k = SameBeside (slot_place geo.fragment k) (192 + geo.fragment)

  both : (new : List ℕ) → (same : (k : ℕ) → k < geo.slots → k ≢ j → slots_in geo new k ≡ slots_in geo old k) → slots_in geo new j ≡ full_slot t → length new ≡ length old → IsSound geo new
  both new same here size = record { large = omega (arith, large, size); good = both_good geo.slots i j s t (slots_in geo old) may (slots_in geo new) same here }

  pub first_write : (new : List ℕ) → FormerOrThis geo.servers geo.fragment (slot_place geo.fragment j) (full_slot t) old new → FormerOrNext geo next old new
  first_write new h = ⊎_elim
      (λ same. record {
        sound = tidy_sound geo new (record { large = omega (arith, large, h.outside.same_length); slots = tidy_same geo.slots (slots_in geo old) (slots_in geo new) (all_same geo j old new h.outside same) may.tidy });
        super = super_same geo j old new h.outside;
        size = h.outside.same_length;
        map = inl (map_same geo old new (all_same geo j old new h.outside same));
      })
      (λ here. record {
        sound = both new (others_same geo j old new h.outside) here h.outside.same_length;
        super = super_same geo j old new h.outside;
        size = h.outside.same_length;
        map = inr (both_map geo.slots i j s t (slots_in geo old) may (slots_in geo new) (others_same geo j old new h.outside) here);
      })
      h.either

  module _ (mid new : List ℕ) (o : At j old mid) (here : slots_in geo mid j ≡ full_slot t) (q : At i mid new) where
    size : length new ≡ length old
    size = q.same_length ∙ o.same_length

    others : (k : ℕ) → k < geo.slots → k ≢ i → k ≢ j → slots_in geo new k ≡ slots_in geo old k
    others k lt ni nj = others_same geo i mid new q k lt ni ∙ others_same geo j old mid o k lt nj

    here_still : slots_in geo new j ≡ full_slot t
    here_still = others_same geo i mid new q j may.also (apart geo.slots i j s t (slots_in geo old) may) ∙ here

    pub replaced : slots_in geo new i ≡ free_slot → IsReplaced geo i j (full_slot t) next old new
    replaced gone = record {
      tidy = record { large = omega (arith, large, size); slots = alone_tidy geo.slots i j s t (slots_in geo old) may (slots_in geo new) others gone here_still };
      super = super_same geo i mid new q ∙ super_same geo j old mid o;
      former = gone;
      slot = here_still;
      others = others;
      map = alone_map geo.slots i j s t (slots_in geo old) may (slots_in geo new) others gone here_still;
    }

    pub still_both : slots_in geo new i ≡ slots_in geo mid i → FormerOrNext geo next old new
    still_both same =
        let kept : (k : ℕ) → k < geo.slots → k ≢ j → slots_in geo new k ≡ slots_in geo old k = λ k lt nj. all_same geo i mid new q same k lt ∙ others_same geo j old mid o k lt nj in
        record {
          sound = both new kept here_still size;
          super = super_same geo i mid new q ∙ super_same geo j old mid o;
          size = size;
          map = inr (both_map geo.slots i j s t (slots_in geo old) may (slots_in geo new) kept here_still);
        }

  pub second_write : (mid new : List ℕ) → At j old mid → slots_in geo mid j ≡ full_slot t → FormerOrThis geo.servers geo.fragment (slot_place geo.fragment i) free_slot mid new → FormerOrNext geo next old new
  second_write mid new o here h = ⊎_elim
      (λ same. still_both mid new o here h.outside same)
      (λ gone. let is = replaced mid new o here h.outside gone in record { sound = tidy_sound geo new is.tidy; super = is.super; size = h.outside.same_length ∙ o.same_length; map = inr is.map })
      h.either

pub replace_failed : {T E : Type 0} {p i j : ℕ} {geo : Geometry} {this : Slot} {next : FragId → Option Fragment} (r : Result T E) {a b : Meaning} → IsErr r → Run p (FormerOrNext geo next (a.now.seen p)) a b → ReplaceTold geo p i j this next r a b
replace_failed (Ok x) err run = absurd (cc err)
replace_failed (Err e) err run = record { run = run; settled = tt; replaced = tt }

-- the same told of another place
moved : {T E : Type 0} {p place at : ℕ} (geo : Geometry) (this : Slot) {r : Result T E} {b c : Meaning} → place ≡ at → SlotTold geo.servers geo.fragment p place this r b c → SlotTold geo.servers geo.fragment p at this r b c
moved {p = p} geo this {r = r} {b = b} {c = c} e told = subst (λ (k : ℕ). SlotTold geo.servers geo.fragment p k this r b c) e told

module _ {p : ℕ} {a : Meaning} (geo : Geometry) (i j : ℕ) (s t : Stored) (large : IsLarge geo (a.now.seen p)) (may : MayReplace geo.slots i j s t (slots_in geo (a.now.seen p))) where
  pub to_new : {T E : Type 0} {r : Result T E} {place : ℕ} {b : Meaning} → place ≡ slot_place geo.fragment j → SlotTold geo.servers geo.fragment p place (full_slot t) r a b
      → Run p (FormerOrNext geo (put s.id (Some t.fragment) (map_of geo (a.now.seen p))) (a.now.seen p)) a b
  to_new at told = weaker_run (moved geo (full_slot t) at told).run (first_write geo i j s t (a.now.seen p) large may)

  -- the slot of the former lies within the platter still
  pub ready_again : {T E : Type 0} {x : T} {place back : ℕ} {b : Meaning} → place ≡ slot_place geo.fragment j → back ≡ slot_place geo.fragment i → SlotTold {E = E} geo.servers geo.fragment p place (full_slot t) (Ok x) a b → IsReady p back geo.fragment b.now
  ready_again {b = b} at is told =
      let first = moved geo (full_slot t) at told in
      let size = (first.run.here (b.now.seen p) (b.seen_now p)).outside.same_length in
      record { settled = first.settled; within = omega (arith, is, size, large, slot_within geo.fragment i geo.slots may.within) }

  pub to_alone : {T E U F : Type 0} {x : T} {r : Result U F} {place back : ℕ} {b c : Meaning} → place ≡ slot_place geo.fragment j → back ≡ slot_place geo.fragment i → SlotTold {E = E} geo.servers geo.fragment p place (full_slot t) (Ok x) a b
      → SlotTold geo.servers geo.fragment p back free_slot r b c → ReplaceTold geo p i j (full_slot t) (put s.id (Some t.fragment) (map_of geo (a.now.seen p))) r a c
  to_alone {r = r} {b = b} {c = c} at is told freed =
      let first = moved geo (full_slot t) at told in
      let second = moved geo free_slot is freed in
      let o = (first.run.here (b.now.seen p) (b.seen_now p)).outside in
      record {
        run = then_run (to_new at told) second.run (λ image h. second_write geo i j s t (a.now.seen p) large may (b.now.seen p) image o first.slot h);
        settled = second.settled;
        replaced = on_ok_weaker r (λ gone. replaced geo i j s t (a.now.seen p) large may (b.now.seen p) (c.now.seen p) o first.slot (second.run.here (c.now.seen p) (c.seen_now p)).outside gone) second.slot;
      }
