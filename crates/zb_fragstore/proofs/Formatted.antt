-- A platter that is made anew, and the store on it.
use Rattle.std.proofs.Common.{◌≡◌, ℕ, ◌<◌, List, Result, Ok, Err, IsErr, IfOk, MatchResult, sym, ◌∙◌, ap, subst}
use Rattle.zb_outside.specs.Meaning.{Meaning}
use Rattle.zb_types.specs.declared.memory.Failed.{Failed}
use Rattle.zb_types.specs.declared.geometry.Geometry.{Geometry}
use Rattle.zb_types.specs.declared.ids.ServerId.{ServerId}
use Rattle.zb_slots.specs.Slots.{Slot, free_slot}
use Rattle.zb_index.specs.Indexed.{IsIndexOf}
use Rattle.zb_index.specs.Seen.{SeenIndex}
use Rattle.zb_slots.specs.Slots.{slots_in}
use Rattle.zb_slot_map.specs.Super.{super_text, FormatTold}
use Rattle.zb_fragstore.specs.Answers.{or_stopped}
use Rattle.zb_slot_map.proofs.Changes.{tidy_sound}
use Rattle.zb_fragstore.specs.Changing.{IsOpen}
use Rattle.zb_fragstore.specs.Opening.{Formats}

ok_of : (r : Result (Unit {0}) Failed) (u : Unit {0}) → Ok u ≡ or_stopped r → r ≡ Ok u
ok_of (Ok v) u e = let same : v ≡ u = sym (cc e) in ap (λ (x : Unit {0}). Ok x) same
ok_of (Err f) u e = absurd (cc e)

-- an index of slots that are all free
abbrev pub IsAllFree : Geometry → SeenIndex → Type 0
IsAllFree geo index = (now : ℕ → Slot) → ((j : ℕ) → j < geo.slots → now j ≡ free_slot) → IsIndexOf index geo.slots now

pub map_ok : {T E D : Type 0} (P : T → Type 0) (r : Result T E) (got : Result T D) (x : T) → got ≡ Ok x → MatchResult r (λ y. got ≡ Ok y) (λ _. ⊥) → IfOk r P → P x
map_ok P (Ok y) got x is e h = let both = sym is ∙ e in let same : x ≡ y = cc both in subst P (sym same) h
map_ok P (Err f) got x is e h = absurd e

module _ (geo : Geometry) (server : ServerId) (fence p : ℕ) (a b : Meaning) (r : Result (Unit {0}) Failed) (p_is : p ≡ server.0) (told : FormatTold geo p (super_text geo server.0 fence) r a b) where
  abbrev text : List ℕ
  text = super_text geo server.0 fence

  here : FormatTold geo server.0 text r a b
  here = subst (λ (q : ℕ). FormatTold geo q text r a b) p_is told

  pub format_stopped : {T E : Type 0} (result : Result T E) → IsErr result → Formats geo server fence result a b
  format_stopped (Ok x) err = absurd (cc err)
  format_stopped (Err e) err = record { others = here.run; settled = tt; made = tt }

  module _ (u : Unit {0}) (is : Ok u ≡ or_stopped r) where
    done : FormatTold {E = Failed} geo server.0 text (Ok u) a b
    done = subst (λ (x : Result (Unit {0}) Failed). FormatTold geo server.0 text x a b) (ok_of r u is) here

    pub format_done : {T E : Type 0} (x : T) → Formats {E = E} geo server fence (Ok x) a b
    format_done x = record {
      others = done.run;
      settled = done.settled;
      made = record {
        own = record { own = done.formatted.super; sound = tidy_sound geo (b.now.seen server.0) done.formatted.tidy; holds = done.formatted.map };
        size = done.formatted.size;
        free = done.formatted.free;
      };
    }

    pub format_open : (index : SeenIndex) → IsAllFree geo index → IsOpen (record { geo = geo; server = server; index = index; fence = fence }) b.now
    format_open index is_index = record {
      kept = record { settled = done.settled; tidy = done.formatted.tidy };
      super = done.formatted.super;
      index = is_index (slots_in geo (b.now.seen server.0)) done.formatted.slots;
    }
