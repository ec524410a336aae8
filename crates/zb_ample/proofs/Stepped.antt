-- Each step of the one client that has work leaves the clients in turn.
use Rattle.std.proofs.Common.{◌≡◌, ◌≢◌, ℕ, ◌+◌, ◌-◌, ◌*◌, true, Bool, List, sym, ap, ◌∙◌, subst}
use Rattle.std.specs.Prelude.{is_some, slice_get, slice_set}
use Rattle.std.proofs.lemmas.Option.{same_Some}
use Rattle.zb_types.specs.declared.geometry.Geometry.{Geometry}
use Rattle.zb_types.specs.declared.ids.FragId.{FragId}
use Rattle.zb_types.specs.declared.ids.LogId.{LogId}
use Rattle.zb_types.specs.declared.ids.ServerId.{ServerId}
use Rattle.zb_given.specs.Given.{Given}
use Rattle.zb_servers.specs.Standing.{SeenServers, has, maps_of}
use Rattle.zb_work.specs.Steps.{step_of}
use Rattle.zb_client.specs.Seen.{SeenClient}
use Rattle.zb_progress.specs.Fresh.{is_fresh}
use Rattle.zb_system.specs.Nodes.{IsClient, SeenNodes, readied}
use Rattle.zb_finishing.specs.Clients.{IsIdleAt}
use Rattle.zb_finishing.proofs.Places.{set_at, set_is}
use Rattle.zb_ample.specs.Reaching.{IsPaid, LogGoesOn, begun_by}
use Rattle.zb_ample.specs.Taking.{Belongs, SlotsAreTaken}
use Rattle.zb_ample.specs.Turning.{InTurn, LogsAreFilled, ReadsFirst, ServersAreFilled}
use Rattle.zb_ample.proofs.Filled.{begun_grows}
use Rattle.zb_ample.proofs.Moving.{Moves}
use Rattle.zb_ample.proofs.Placing.{belongs_still}

-- a client that has taken memory is paid as before
pub ready_paid : (geo : Geometry) (given : Given) (c : SeenClient) (is : Bool) → IsPaid geo given c → IsPaid geo given (record c { is_ready = is })
ready_paid geo given c is p = record { bytes = p.bytes; half = p.half; within = p.within; paid = p.paid }

module _ {geo : Geometry} {given : Given} {old : SeenNodes} (t : InTurn geo given old) (new : SeenNodes) (i : ℕ) (c d : SeenClient) (is : IsClient old i c)
    (clients_are : new.clients ≡ slice_set old.clients i d) (sizes_are : new.manager.sizes ≡ old.manager.sizes) (slots_are : new.servers.slots ≡ old.servers.slots)
    (generation_is : new.manager.tables.members.generation ≡ old.manager.tables.members.generation) (m : Moves geo given old.manager.tables.members.generation (readied c) d) where
  -- the logs are filled as before
  pub logs_after : LogsAreFilled geo given new
  logs_after = record {
    logs = λ j. set_at (λ (x : SeenClient). x.log.log.0 ≡ j + 1) old new i c d is clients_are j
        (λ same. ap (λ (l : LogId). l.0) m.log_id ∙ t.logs.logs i c is ∙ ap (λ (k : ℕ). k + 1) (sym same)) (λ _. t.logs.logs j);
    rooms = λ j. set_at (λ (x : SeenClient). x.log.room ≡ (geo.servers - 1) * geo.fragment) old new i c d is clients_are j (λ _. m.room ∙ t.logs.rooms i c is) (λ _. t.logs.rooms j);
    go_on = λ j. set_at (λ (x : SeenClient). LogGoesOn new.manager.tables.members.generation x.flushed (step_of x.task)) old new i c d is clients_are j
        (λ _. subst (λ (g : ℕ). LogGoesOn g d.flushed (step_of d.task)) (sym generation_is) m.goes_on)
        (λ _ x at. subst (λ (g : ℕ). LogGoesOn g x.flushed (step_of x.task)) (sym generation_is) (t.logs.go_on j x at));
    paid = λ j. set_at (IsPaid geo given) old new i c d is clients_are j (λ _. m.paid) (λ _. t.logs.paid j);
  }

  -- so is what stood on the servers
  pub belongs_after : (server : ServerId) (id : FragId) → Belongs geo.servers (begun_by old.clients) server id → Belongs geo.servers (begun_by new.clients) server id
  belongs_after server id b =
      subst (λ (cs : List SeenClient). Belongs geo.servers (begun_by cs) server id) (sym clients_are)
      (belongs_still geo.servers (begun_by old.clients) (begun_by (slice_set old.clients i d)) server id (begun_grows old.clients i c d is m.begun) b)

  pub servers_same : new.servers ≡ old.servers → ServersAreFilled geo new
  servers_same same = record {
    belong = λ server id some. belongs_after server id (t.servers.belong server id (ap (λ (s : SeenServers). is_some (maps_of s server id)) (sym same) ∙ some));
    taken = λ server. subst (λ (s : SeenServers). SlotsAreTaken s.slots (has s server)) (sym same) (t.servers.taken server);
  }

  -- and all is in turn
  pub turn_after : i ≡ t.who → ((j : ℕ) → j ≢ t.who → IsIdleAt new j) → is_fresh new.manager.tables d ≡ true → ReadsFirst d → ServersAreFilled geo new → InTurn geo given new
  turn_after who alone fresh reads servers = record {
    sizes = sizes_are ∙ t.sizes;
    slots = slots_are ∙ t.slots;
    who = t.who;
    alone = alone;
    fresh = λ x at. subst (λ (y : SeenClient). is_fresh new.manager.tables y ≡ true)
        (same_Some d x (sym (set_is old new i c d is clients_are) ∙ ap (λ (k : ℕ). slice_get new.clients k) who ∙ at)) fresh;
    reads = λ x at. subst ReadsFirst (same_Some d x (sym (set_is old new i c d is clients_are) ∙ ap (λ (k : ℕ). slice_get new.clients k) who ∙ at)) reads;
    logs = logs_after;
    servers = servers;
  }
