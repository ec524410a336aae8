-- A client takes its next call, or memory.
use Rattle.std.proofs.Common.{◌≡◌, ℕ, ◌≤◌, true, false, Bool, List, [], ◌∷◌, ◌++◌, length, None, refl, sym, ap, ◌∙◌, subst, inl, inr}
use Rattle.std.specs.Prelude.{◌&&◌, if◌then◌else◌, nat_lt, slice_set}
use Rattle.zb_types.specs.Apply.{is_bufferable, is_update}
use Rattle.zb_types.specs.Limits.{most_kept}
use Rattle.zb_types.specs.declared.lines.Outcome.{Outcome}
use Rattle.zb_types.specs.declared.lines.Said.TheVariants as said
use Rattle.zb_tables.specs.Tables.{Tables}
use Rattle.zb_tables.specs.Taking.{Sizes}
use Rattle.zb_manager.specs.Managers.{SeenManager}
use Rattle.zb_servers.specs.Standing.{SeenServers, maps_of, server_at}
use Rattle.zb_servers_laws.specs.Indexed.{AllFitIndex}
use Rattle.zb_given.specs.Given.{Given, script_of}
use Rattle.zb_basis.specs.declared.calls.Numbered.{Numbered}
use Rattle.zb_work.specs.declared.work.Aim.TheVariants.{Read, Update}
use Rattle.zb_work.specs.declared.work.Step.TheVariants.{Lookup}
use Rattle.zb_work.specs.Steps.{new_task, step_of}
use Rattle.zb_client.specs.Hearing.{keeps, takes_first}
use Rattle.zb_client.specs.Seen.{SeenClient, kind_of}
use Rattle.zb_client.specs.Telling.{Heard, line, silent, tells}
use Rattle.zb_client_laws.specs.Sound.{ClientIsSound}
use Rattle.zb_client_laws.proofs.Moves.{ready_sound, taken_sound}
use Rattle.zb_line_laws.specs.Calls.{FitsAfter, TellsOwn, lines_in}
use Rattle.zb_line_laws.proofs.Owning.{taken}
use Rattle.zb_line_laws.proofs.Taking.{taken_fits}
use Rattle.zb_system.specs.Nodes.{IsClient, SeenNodes, readied}
use Rattle.zb_system.specs.Looking.{is_reading, reads_with, tree_for}
use Rattle.zb_system.specs.Sound.{AreSound, ServersAreSound, StaysSound}
use Rattle.zb_system.specs.Steps.{IsReadied, TakesCall}
use Rattle.zb_system.proofs.AnyTree.{any_tree}
use Rattle.zb_system.proofs.FirstReads.{not_fetch, same_looked}
use Rattle.zb_system.proofs.ReadsLeft.{as_looked, none_left, not_reading, reads_step}
use Rattle.zb_system.proofs.Quiet.{StandsStill, World, calls_ready, own_of, quiet_stays, sound_ready, tells_lines}
use Rattle.zb_system.proofs.Telling.{IsSilentOn, taken_silent, tree_same}

-- the servers are sound where nothing of them and the tables has changed
pub servers_same : (old new : SeenNodes) → new.manager.tables ≡ old.manager.tables → new.manager.sizes ≡ old.manager.sizes → new.servers ≡ old.servers → ServersAreSound old → ServersAreSound new
servers_same old new tables sizes servers s = record {
  count = ap (λ (x : SeenServers). length x.servers) servers ∙ s.count ∙ sym (ap (λ (z : Sizes). z.servers) sizes);
  index =
      subst (λ (z : Sizes). AllFitIndex z.servers (maps_of new.servers)) (sym sizes)
      (subst (λ (x : SeenServers). AllFitIndex old.manager.sizes.servers (maps_of x)) (sym servers) s.index);
  fences = λ server.
      subst (λ (t : Tables). (server_at new.servers.servers server).fence ≤ t.members.generation) (sym tables)
      (subst (λ (x : SeenServers). (server_at x.servers server).fence ≤ old.manager.tables.members.generation) (sym servers) (s.fences server));
}

-- nothing of servers and tables has changed
pub still : (old new : SeenNodes) → new.manager.tables ≡ old.manager.tables → new.manager.sizes ≡ old.manager.sizes → new.servers ≡ old.servers → ServersAreSound old → StandsStill old new
still old new tables sizes servers s = record {
  tables = tables;
  sizes = sizes;
  maps = ap maps_of servers;
  slots = ap (λ (x : SeenServers). x.slots) servers;
  servers = servers_same old new tables sizes servers s;
}

module _ {given : Given} {lines : List Outcome} {old : SeenNodes} (s : AreSound given lines old) (new : SeenNodes) (i : ℕ) where
  pub ready_stays : IsReadied old new i → StaysSound s new i []
  ready_stays r =
      quiet_stays s i r.client r.is new
      (still old new r.manager.tables r.manager.sizes r.servers s.servers)
      (record r.client { is_ready = r.ready }) r.clients (record { client = refl; kept = refl; queue = refl; aim = refl })
      (s.reads i) (same_looked given lines r.client (record r.client { is_ready = r.ready }) (s.reads i) (record { client = refl; kept = refl; queue = refl; aim = refl }) refl (s.calls.looked i r.client r.is))
      (ready_sound (World s i r.client r.is) (tree_for given lines (s.reads i)) r.client (s.clients i r.client r.is).0 r.ready)
      (inl refl)
      (as_looked given lines r.client (s.reads i) (s.calls.looked i r.client r.is))

  -- a call is taken
  module _ (c : SeenClient) (is : IsClient old i c) (none : c.task ≡ None) (heard : Heard) (clients_are : new.clients ≡ slice_set old.clients i heard.client) (takes : TakesCall old new (readied c) heard) where
    at_lookup : (d : SeenClient) → step_of d.task ≡ Lookup → is_reading d ≡ false
    at_lookup d e = ap (reads_with d.kept) e ∙ not_fetch d.kept Lookup refl

    kept_rests : (d : SeenClient) (n : ℕ) (few : Bool) → step_of d.task ≡ Lookup → is_reading (if few then tells d (line d n said.Buffered ∷ []) else silent (record d { task = new_task (Update n) })).client ≡ false
    kept_rests d n true e = at_lookup d e
    kept_rests d n false e = not_fetch d.kept Lookup refl

    rests : (queue : List Numbered) → is_reading (takes_first (readied c) queue).client ≡ false
    rests [] = at_lookup c (ap step_of none)
    rests (call ∷ rest) = by (is_update call.call) where
      Kept : SeenClient
      Kept = record (readied c) { kept = c.kept ++ call ∷ []; queue = rest }

      by : (update : Bool) → is_reading (if update then keeps Kept call else silent (record (readied c) { task = new_task Read })).client ≡ false
      by true = kept_rests Kept call.number (is_bufferable call.call && nat_lt (length Kept.kept) most_kept) (ap step_of none)
      by false = not_fetch c.kept Lookup refl

    same_client : (queue : List Numbered) → (takes_first (readied c) queue).client.client ≡ c.client
    same_client [] = refl
    same_client (call ∷ rest) = by (is_update call.call) where
      Kept : SeenClient
      Kept = record (readied c) { kept = c.kept ++ call ∷ []; queue = rest }

      of : (few : Bool) → (if few then tells Kept (line Kept call.number said.Buffered ∷ []) else silent (record Kept { task = new_task (Update call.number) })).client.client ≡ c.client
      of true = refl
      of false = refl

      by : (update : Bool) → (if update then keeps Kept call else silent (record (readied c) { task = new_task Read })).client.client ≡ c.client
      by true = of (is_bufferable call.call && nat_lt (length Kept.kept) most_kept)
      by false = refl

    pub call_stays : StaysSound s new i (lines_in heard.told)
    call_stays =
        let quiet : IsSilentOn given (lines_in heard.told) = subst (λ (h : Heard). IsSilentOn given (lines_in h.told)) (sym takes.heard_is) (taken_silent given (readied c)) in
        let not : is_reading heard.client ≡ false = ap (λ (h : Heard). is_reading h.client) takes.heard_is ∙ rests c.queue in
        let same : heard.client.client ≡ c.client = ap (λ (h : Heard). h.client.client) takes.heard_is ∙ same_client c.queue in
        tells_lines s i c is new (still old new (ap (λ (m : SeenManager). m.tables) takes.same.manager) (ap (λ (m : SeenManager). m.sizes) takes.same.manager) takes.same.servers s.servers)
        heard clients_are same
        (own_of c (readied c) heard refl (subst (TellsOwn (readied c)) (sym takes.heard_is) (taken (readied c))))
        (tree_same (script_of given) lines (lines_in heard.told) quiet.none)
        (subst (FitsAfter given lines) (sym takes.heard_is) (taken_fits given lines (readied c) s.told.fit (calls_ready s i c is) none))
        None not
        (any_tree (World s i c is) (tree_for given lines (s.reads i)) (tree_for given (lines ++ lines_in heard.told) None) heard.client not
        (subst (λ (h : Heard). ClientIsSound (World s i c is) (tree_for given lines (s.reads i)) h.client) (sym takes.heard_is)
        (taken_sound (World s i c is) (tree_for given lines (s.reads i)) (readied c) (sound_ready s i c is) none)))
        (quiet.lookups lines (s.reads i))
        (inr tt)
        (none_left (kind_of c) (s.reads i) lines (lines_in heard.told) (not_reading c (lines_in heard.told) (s.reads i) (ap reads_step none)))
