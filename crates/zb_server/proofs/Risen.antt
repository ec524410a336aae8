-- A platter that came back, and the store that was opened on it.
use Rattle.std.proofs.Common.{◌≢◌, ◌⊎◌, inl, inr, Result, Ok, Err, IfOk, IfErr, refl, ◌∙◌, ap}
use Rattle.zb_outside.specs.Meaning.{Meaning}
use Rattle.zb_outside.specs.Runs.{Run, IsSettled, SparesOthers}
use Rattle.zb_outside.specs.Platters.{RestartTold}
use Rattle.zb_outside.proofs.Runs.{then_run, weaker_run, run_spares, others_then}
use Rattle.zb_types.specs.declared.geometry.Geometry.{Geometry}
use Rattle.zb_types.specs.declared.ids.ServerId.{ServerId}
use Rattle.zb_fragstore.specs.declared.faults.OpenFault.{OpenFault}
use Rattle.zb_fragstore.specs.declared.faults.OpenFault.TheVariants.{Stopped}
use Rattle.zb_fragstore.specs.Reading.{IsLookedAt}
use Rattle.zb_fragstore.specs.Images.{map_on, IsWhole}
use Rattle.zb_fragstore.specs.Seen.{SeenStore, IsStoreOf}
use Rattle.zb_fragstore.specs.Opening.{IsGood, IsUnfit, StaysWhole, IsOpened}
use Rattle.zb_server.specs.Rising.{Reopens, AreWhole, IsOpenOn}

module _ (geo : Geometry) (server : ServerId) (a b : Meaning) where
  restarted : {T E : Type 0} (r : Result T E) → RestartTold server.0 r a b → Run server.0 (a.now.may_leave server.0) a b
  restarted r told = weaker_run told.ticks told.crash

  -- the restart failed
  pub not_back : {T E : Type 0} (r : Result T E) → RestartTold server.0 r a b → Reopens geo server (Err Stopped) a b
  not_back r told = record {
    image = b.now.seen server.0;
    left = told.seen;
    good = tt;
    unfit = tt;
    others = run_spares told.ticks;
    looked = λ other. absurd (other refl);
    run = λ whole. weaker_run (restarted r told) (λ other may. inl may);
    is_open = λ whole. tt;
  }

  -- and then a store was opened, or wasn't
  module _ (c : Meaning) {T E : Type 0} (u : T) (told : RestartTold {T = T} {E = E} server.0 (Ok u) a b)
      (run : IsSettled server.0 b.now → IsWhole geo (b.now.seen server.0) → Run server.0 (StaysWhole geo (b.now.seen server.0)) b c) where
    whole : AreWhole geo server a → IsWhole geo (b.now.seen server.0)
    whole are = are (b.now.seen server.0) told.seen

    back_run : AreWhole geo server a → Run server.0 (λ other. a.now.may_leave server.0 other ⊎ StaysWhole geo (b.now.seen server.0) other) a c
    back_run are = then_run (weaker_run (restarted {E = E} (Ok u) told) (λ other may. inl may)) (run told.ok (whole are)) (λ other h. inr h)

    looked_run : IsLookedAt server.0 b c → Run server.0 (a.now.may_leave server.0) a c
    looked_run alone = then_run (restarted {E = E} (Ok u) told) alone.run told.crash

    spared : SparesOthers server.0 b c → SparesOthers server.0 a c
    spared others = others_then (run_spares told.ticks) others

    opened : (store : SeenStore) → IsStoreOf geo server store → IsOpened store b c → IsOpenOn geo (b.now.seen server.0) c store
    opened store is o = record {
      is_open = o.is_open;
      map = λ id. o.map id ∙ ap (λ (g : Geometry). map_on g (b.now.seen store.server.0) id) is.geo_is ∙ ap (λ (s : ServerId). map_on geo (b.now.seen s.0) id) is.server_is;
    }

    pub back_by : SparesOthers server.0 b c → (result : Result SeenStore OpenFault) → IfOk result (IsStoreOf geo server) → IfOk result (IsGood geo server (b.now.seen server.0)) → IfErr result (IsUnfit geo server (b.now.seen server.0))
        → IfErr result (λ fault. fault ≢ Stopped → IsLookedAt server.0 b c) → (IsSettled server.0 b.now → IsWhole geo (b.now.seen server.0) → IfOk result (λ store. IsOpened store b c)) → Reopens geo server result a c
    back_by others (Ok store) is good unfit alone open_by = record {
      image = b.now.seen server.0;
      left = told.seen;
      good = good;
      unfit = tt;
      others = spared others;
      looked = tt;
      run = back_run;
      is_open = λ are. opened store is (open_by told.ok (whole are));
    }
    back_by others (Err why) is good unfit alone open_by = record {
      image = b.now.seen server.0;
      left = told.seen;
      good = tt;
      unfit = unfit;
      others = spared others;
      looked = λ other. looked_run (alone other);
      run = back_run;
      is_open = λ are. tt;
    }
