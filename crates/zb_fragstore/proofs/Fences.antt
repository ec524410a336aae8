-- A fence that is set.
use Rattle.std.proofs.Common.{◌≡◌, ℕ, Result, Ok, Err, refl, sym, subst}
use Rattle.zb_outside.specs.Meaning.{Meaning}
use Rattle.zb_index.proofs.Held.{depends}
use Rattle.zb_outside.specs.Runs.{Run, IsSettled}
use Rattle.zb_outside.proofs.Runs.{weaker_run}
use Rattle.zb_types.specs.declared.requests.Request.TheVariants as ask
use Rattle.zb_types.specs.declared.geometry.Geometry.{Geometry}
use Rattle.zb_types.specs.declared.ids.ServerId.{ServerId}
use Rattle.zb_slot_map.specs.Changing.{IsKept}
use Rattle.zb_types.specs.declared.memory.Failed.{Failed}
use Rattle.zb_types.specs.declared.requests.StoreFault.{StoreFault}
use Rattle.zb_slots.specs.Slots.{slots_in}
use Rattle.zb_slot_map.specs.Super.{super_text, FormerOrFenced, FenceTold, IsFenced}
use Rattle.zb_fragstore.specs.Seen.{SeenStore}
use Rattle.zb_fragstore.specs.Answers.{or_stopped}
use Rattle.zb_fragstore.specs.Changing.{IsOpen, IsBetween, CarriesOut}
use Rattle.zb_fragstore.proofs.Between.{between_fence}

module _ (fence : ℕ) (old : SeenStore) (a b : Meaning) (is_open : IsOpen old a.now) where
  abbrev Told : Result (Unit {0}) Failed → Type 0
  Told r = FenceTold old.geo old.server.0 (super_text old.geo old.server.0 fence) r a b

  now_open : IsSettled old.server.0 b.now → IsFenced old.geo (super_text old.geo old.server.0 fence) (a.now.seen old.server.0) (b.now.seen old.server.0) → IsOpen (record old { fence = fence }) b.now
  now_open settled fenced = record {
    kept = record { settled = settled; tidy = fenced.tidy };
    super = fenced.super;
    index = depends old.index old.geo.slots (slots_in old.geo (a.now.seen old.server.0)) (slots_in old.geo (b.now.seen old.server.0)) fenced.slots is_open.index;
  }

  fenced_run : Run old.server.0 (FormerOrFenced old.geo (super_text old.geo old.server.0 fence) (a.now.seen old.server.0)) a b → Run old.server.0 (IsBetween old (ask.Fence fence) (a.now.seen old.server.0)) a b
  fenced_run run = weaker_run run (λ image h. between_fence old (a.now.seen old.server.0) is_open.super fence image h)

  raised : (r : Result (Unit {0}) Failed) → Told r → CarriesOut (ask.Fence fence) old (record old { fence = fence }) (or_stopped r) a b
  raised (Ok u) told = record { run = fenced_run told.run; map = told.fenced.map; is_open = λ _. now_open told.settled told.fenced; refused = tt }
  raised (Err f) told = record { run = fenced_run told.run; map = tt; is_open = λ no. absurd (no refl); refused = λ other. absurd (other refl) }

  abbrev pub FenceClause : Result (Unit {0}) Failed → Geometry → ServerId → (p : ℕ) → Type 0
  FenceClause r geo server p = IsKept geo p a.now → FenceTold geo p (super_text geo server.0 fence) r a b

  pub fence_told : (r : Result (Unit {0}) Failed) (result : Result (Unit {0}) StoreFault) (geo : Geometry) (server : ServerId) (p : ℕ) → result ≡ or_stopped r → geo ≡ old.geo → server ≡ old.server → p ≡ old.server.0
      → FenceClause r geo server p → CarriesOut (ask.Fence fence) old (record old { fence = fence }) result a b
  fence_told r result geo server p is geo_is server_is p_is clause =
      let here : FenceClause r old.geo old.server old.server.0 =
      subst (FenceClause r old.geo old.server) p_is (subst (λ (s : ServerId). FenceClause r old.geo s p) server_is (subst (λ (g : Geometry). FenceClause r g server p) geo_is clause)) in
      subst (λ x. CarriesOut (ask.Fence fence) old (record old { fence = fence }) x a b) (sym is) (raised r (here is_open.kept))
