-- A change of a platter's map carries a request out.
use Rattle.std.proofs.Common.{◌≡◌, inl, inr, ⊎_elim, ℕ, List, Result, Ok, Err, OnOk, Option, refl, sym, ◌∙◌, subst}
use Rattle.zb_outside.specs.Meaning.{Meaning}
use Rattle.zb_outside.specs.Runs.{Run, IsSettled}
use Rattle.zb_outside.proofs.Runs.{weaker_run}
use Rattle.zb_cell.specs.Cell.{value}
use Rattle.zb_types.specs.declared.memory.Failed.{Failed}
use Rattle.zb_types.specs.declared.geometry.Geometry.{Geometry}
use Rattle.zb_types.specs.declared.ids.FragId.{FragId}
use Rattle.zb_types.specs.declared.requests.Request.{Request}
use Rattle.zb_types.specs.declared.requests.StoreFault.{StoreFault}
use Rattle.zb_holding.specs.Fragments.{Fragment}
use Rattle.zb_index.specs.Indexed.{IsIndexOf}
use Rattle.zb_index.specs.Seen.{SeenIndex}
use Rattle.zb_slots.specs.Slots.{slots_in}
use Rattle.zb_slots.specs.Holding.{map_of}
use Rattle.zb_slot_map.specs.Tidy.{IsTidy}
use Rattle.zb_slot_map.specs.Changing.{FormerOrNext}
use Rattle.zb_fragstore.specs.Seen.{SeenStore}
use Rattle.zb_fragstore.specs.Answers.{or_stopped}
use Rattle.zb_holding.specs.Rules.{map_after}
use Rattle.zb_fragstore.specs.Changing.{map_in, IsOpen, IsBetween, CarriesOut}
use Rattle.zb_fragstore.proofs.Between.{between_next}

-- the next map by another name
pub next_as : {geo : Geometry} {next other : FragId → Option Fragment} {old new : List ℕ} → ((id : FragId) → next id ≡ other id) → FormerOrNext geo next old new → FormerOrNext geo other old new
next_as same h = record { sound = h.sound; super = h.super; size = h.size; map = ⊎_elim (λ was. inl was) (λ is. inr (λ id. is id ∙ same id)) h.map }

-- a changed image that is tidy and has the former super cell
pub record IsNext (geo : Geometry) (next : FragId → Option Fragment) (index : SeenIndex) (old new : List ℕ) : Type 0 where
  pub tidy : IsTidy geo new
  pub super : value new 0 ≡ value old 0
  pub map : (id : FragId) → map_of geo new id ≡ next id
  pub follows : IsIndexOf index geo.slots (slots_in geo new)

-- a store whose index alone has changed
pub carried : {T : Type 0} (request : Request) (old new : SeenStore) (next : FragId → Option Fragment) (r : Result T Failed) (result : Result T StoreFault) (a b : Meaning)
    → result ≡ or_stopped r → new ≡ record old { index = new.index } → IsOpen old a.now
    → ((id : FragId) → next id ≡ map_after request (map_in old a.now) id)
    → Run old.server.0 (FormerOrNext old.geo next (a.now.seen old.server.0)) a b
    → OnOk r (IsSettled old.server.0 b.now)
    → OnOk r (IsNext old.geo next new.index (a.now.seen old.server.0) (b.now.seen old.server.0))
    → CarriesOut request old new result a b
carried {T = T} request old new next r result a b is rest was same run settled done = subst (λ x. CarriesOut request old new x a b) (sym is) (by_case r settled done)
  where
    wide : Run old.server.0 (IsBetween old request (a.now.seen old.server.0)) a b
    wide = weaker_run run (λ image h. between_next old (a.now.seen old.server.0) was.super request image (next_as same h))

    still_open : IsSettled old.server.0 b.now → IsNext old.geo next new.index (a.now.seen old.server.0) (b.now.seen old.server.0) → IsOpen new b.now
    still_open settles is_next = subst (λ store. IsOpen store b.now) (sym rest) (record {
      kept = record { settled = settles; tidy = is_next.tidy };
      super = is_next.super ∙ was.super;
      index = is_next.follows;
    })

    by_case : (x : Result T Failed) → OnOk x (IsSettled old.server.0 b.now) → OnOk x (IsNext old.geo next new.index (a.now.seen old.server.0) (b.now.seen old.server.0)) → CarriesOut request old new (or_stopped x) a b
    by_case (Ok value) settles is_next = record { run = wide; map = λ id. is_next.map id ∙ same id; is_open = λ _. still_open settles is_next; refused = tt }
    by_case (Err failed) settles is_next = record { run = wide; map = tt; is_open = λ no. absurd (no refl); refused = λ other. absurd (other refl) }
