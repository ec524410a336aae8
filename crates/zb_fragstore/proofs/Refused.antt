-- A call that is refused leaves the store and its platter as they were.
use Rattle.std.proofs.Common.{◌≡◌, ℕ, Result, Ok, Err, IsErr, refl, sym, subst}
use Rattle.zb_outside.specs.Meaning.{Meaning}
use Rattle.zb_outside.proofs.Runs.{started}
use Rattle.zb_types.specs.declared.requests.Request.{Request}
use Rattle.zb_types.specs.declared.requests.Request.TheVariants as ask
use Rattle.zb_types.specs.declared.requests.StoreFault.{StoreFault}
use Rattle.zb_fragstore.specs.Seen.{SeenStore}
use Rattle.zb_fragstore.specs.Changing.{IsOpen, IsBetween, CarriesOut}
use Rattle.zb_fragstore.proofs.Between.{still_between}

pub refused : {T : Type 0} (request : Request) (store : SeenStore) (fault : StoreFault) (w : Meaning) → IsOpen store w.now → CarriesOut {T = T} request store store (Err fault) w w
refused request store fault w is_open = record {
  run = started store.server.0 (IsBetween store request (w.now.seen store.server.0)) w (still_between store request w.now is_open);
  map = tt;
  is_open = λ _. is_open;
  refused = λ _. refl;
}

-- the fence stands already
pub fence_kept : (store : SeenStore) (u : Unit {0}) (w : Meaning) → IsOpen store w.now → CarriesOut (ask.Fence store.fence) store store (Ok u) w w
fence_kept store u w is_open = record {
  run = started store.server.0 (IsBetween store (ask.Fence store.fence) (w.now.seen store.server.0)) w (still_between store (ask.Fence store.fence) w.now is_open);
  map = λ id. refl;
  is_open = λ _. is_open;
  refused = tt;
}

pub refused_by : {T : Type 0} (request : Request) (store : SeenStore) (r : Result T StoreFault) (w : Meaning) → IsErr r → IsOpen store w.now → CarriesOut request store store r w w
refused_by request store (Err fault) w is is_open = refused request store fault w is_open
refused_by request store (Ok x) w is is_open = absurd (cc is)

pub fence_kept_at : (fence : ℕ) (store : SeenStore) (u : Unit {0}) (w : Meaning) → fence ≡ store.fence → IsOpen store w.now → CarriesOut (ask.Fence fence) store store (Ok u) w w
fence_kept_at fence store u w is is_open = subst (λ (n : ℕ). CarriesOut (ask.Fence n) store store (Ok u) w w) (sym is) (fence_kept store u w is_open)
