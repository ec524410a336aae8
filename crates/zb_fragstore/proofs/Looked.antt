-- A store whose platter was looked at.
use Rattle.std.proofs.Common.{◌≡◌, ◌≢◌, ℕ, List, Result, Ok, Err, OnOk, IfErr, sym, ◌∙◌, ap, subst}
use Rattle.zb_outside.specs.Meaning.{Meaning}
use Rattle.zb_outside.specs.Runs.{Run}
use Rattle.zb_outside.proofs.Runs.{weaker_run, then_run}
use Rattle.zb_types.specs.declared.ids.FragId.{FragId}
use Rattle.zb_types.specs.declared.requests.Request.{Request}
use Rattle.zb_types.specs.declared.requests.StoreFault.{StoreFault}
use Rattle.zb_types.specs.declared.requests.StoreFault.TheVariants.{Stopped}
use Rattle.zb_slots.specs.Holding.{map_of}
use Rattle.zb_slots.specs.Reading.{LeftAlone}
use Rattle.zb_fragstore.specs.Seen.{SeenStore}
use Rattle.zb_holding.specs.Rules.{map_after}
use Rattle.zb_fragstore.specs.Changing.{map_in, IsOpen, IsBetween, CarriesOut}
use Rattle.zb_fragstore.proofs.Beside.{open_beside}
use Rattle.zb_fragstore.proofs.Between.{still_between}

module _ (store : SeenStore) (a b : Meaning) (alone : LeftAlone store.server.0 a b) (was : IsOpen store a.now) where
  pub still_open : IsOpen store b.now
  still_open = open_beside store a.now b.now alone.seen alone.left was

  pub same_map : (id : FragId) → map_in store b.now id ≡ map_in store a.now id
  same_map id = ap (λ (image : List ℕ). map_of store.geo image id) alone.seen

  looked : (request : Request) → Run store.server.0 (IsBetween store request (a.now.seen store.server.0)) a b
  looked request = weaker_run alone.run (still_between store request a.now was)

  -- and then refused
  pub then_refused : {T : Type 0} (request : Request) (fault : StoreFault) → CarriesOut {T = T} request store store (Err fault) a b
  then_refused request fault = record {
    run = looked request;
    map = tt;
    is_open = λ _. still_open;
    refused = λ _. alone.seen;
  }

  -- and then left, since the request changes nothing
  pub then_left : {T : Type 0} (request : Request) (x : T) → ((id : FragId) → map_after request (map_in store a.now) id ≡ map_in store a.now id) → CarriesOut request store store (Ok x) a b
  then_left request x same = record {
    run = looked request;
    map = λ id. same_map id ∙ sym (same id);
    is_open = λ _. still_open;
    refused = tt;
  }

  abbrev p : ℕ
  p = store.server.0

  -- and then changed
  pub then_changed : {T : Type 0} (request : Request) (new : SeenStore) (result : Result T StoreFault) (c : Meaning) → CarriesOut request store new result b c → CarriesOut request store new result a c
  then_changed request new result c change = record {
    run = then_run (looked request)
        (subst (λ (image : List ℕ). Run p (IsBetween store request image) b c) alone.seen change.run) (λ image h. h);
    map = subst (λ (image : List ℕ). OnOk result ((id : FragId) → map_in store c.now id ≡ map_after request (map_of store.geo image) id)) alone.seen change.map;
    is_open = change.is_open;
    refused = subst (λ (image : List ℕ). IfErr result (λ fault. fault ≢ Stopped → c.now.seen p ≡ image)) alone.seen change.refused;
  }
