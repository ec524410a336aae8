-- Clients are in turn at first, and where one of them is given more to do while all are idle.
use Rattle.std.proofs.Common.{◌≡◌, ℕ, zero, suc, ◌+◌, ◌-◌, ◌*◌, ◌≤◌, true, eqb, List, [], ◌∷◌, ◌++◌, append_assoc, append-nil, length, Option, refl, sym, ap, ◌∙◌, subst, arith}
use Rattle.std.specs.Prelude.{is_some, replicate, slice_index_or, slice_set}
use Rattle.std.specs.List.{flat_map}
use Rattle.std.proofs.lemmas.Bool.{cond-true, eq-eqb, true≢false}
use Rattle.std.proofs.lemmas.List.Sums.{sum_by-append, sum_by-cons}
use Rattle.std.proofs.lemmas.Option.{none-some, same_Some}
use Rattle.zb_types.specs.declared.calls.Call.{Call}
use Rattle.zb_types.specs.declared.geometry.Geometry.{Geometry}
use Rattle.zb_types.specs.declared.ids.ServerId.{ServerId}
use Rattle.zb_types.specs.declared.lines.Kind.TheVariants.{Idle}
use Rattle.zb_types.specs.declared.lines.Line.{Line}
use Rattle.zb_types.specs.declared.lines.Line.TheVariants.{Call as CallLine}
use Rattle.zb_types.specs.declared.lines.Outcome.{Outcome}
use Rattle.zb_log.specs.Logs.{SeenLog}
use Rattle.zb_tables.specs.Tables.{Tables}
use Rattle.zb_given.specs.Given.{Given, Item, call_by, calls_of, none_given, with_finish, with_item}
use Rattle.zb_manager.specs.Managers.{sizes_of}
use Rattle.zb_servers.specs.Standing.{SeenServer, SeenServers, empty_server, has, maps_of, server_at, stands_in}
use Rattle.zb_basis.specs.declared.calls.Numbered.{Numbered}
use Rattle.zb_work.specs.declared.work.Aim.TheVariants.{Finish, Read}
use Rattle.zb_work.specs.declared.work.Flushed.{Flushed}
use Rattle.zb_work.specs.declared.work.Step.{Step}
use Rattle.zb_work.specs.declared.work.Step.TheVariants.{Lookup}
use Rattle.zb_work.specs.Steps.{aim_of, new_task, step_of}
use Rattle.zb_client.specs.Seen.{SeenClient, first_client, kind_of, unready}
use Rattle.zb_line_laws.specs.Calls.{queues}
use Rattle.zb_progress.specs.Fresh.{is_fresh}
use Rattle.zb_system.specs.First.{AreFirst, log}
use Rattle.zb_system.specs.Nodes.{IsClient, SeenNodes, with_client}
use Rattle.zb_system.specs.Sound.{AreSound}
use Rattle.zb_system.specs.Steps.{IsReadied}
use Rattle.zb_finishing.specs.Clients.{AllIdle}
use Rattle.zb_finishing.proofs.Places.{kept_at, set_at, set_is, set_others}
use Rattle.zb_finishing.proofs.Resting.{idle_rests}
use Rattle.zb_need.specs.Filling.{HalfFull, stripes_begun}
use Rattle.zb_ample.specs.Reaching.{IsPaid, LogGoesOn, ahead_at, begun_by, load, loads, numbered_loads, reached, reached_at}
use Rattle.zb_ample.specs.Taking.{Belongs, SlotsAreTaken}
use Rattle.zb_ample.specs.Turning.{InTurn, ReadsFirst}
use Rattle.zb_ample.proofs.Filled.{begun_grows}
use Rattle.zb_ample.proofs.Freshly.{lookup_fresh}
use Rattle.zb_ample.proofs.Paying.{loads_both}
use Rattle.zb_ample.proofs.Placing.{belongs_still}
use Rattle.zb_ample.proofs.Slots.{free_is_taken}

-- ---- at first

all_empty : (k j : ℕ) → slice_index_or (replicate k empty_server) j empty_server ≡ empty_server
all_empty zero j = refl
all_empty (suc k) zero = refl
all_empty (suc k) (suc j) = all_empty k j

module _ (geo : Geometry) (n : SeenNodes) (a : AreFirst n) (sizes : n.manager.sizes ≡ sizes_of geo) (slots : n.servers.slots ≡ geo.slots) where
  empty_at : (server : ServerId) → server_at n.servers.servers server ≡ empty_server
  empty_at server = subst (λ (all : List SeenServer). server_at all server ≡ empty_server) (sym a.servers) (all_empty (suc n.manager.sizes.servers) server.0)

  abbrev First : ℕ → SeenClient
  First i = first_client n.manager.sizes.servers n.manager.sizes.fragment n.manager.sizes.block (i + 1) (log (i + 1))

  first_paid : (i : ℕ) → IsPaid geo none_given (First i)
  first_paid i = record { bytes = 0; half = omega arith; within = omega arith; paid = omega arith }

  -- nobody has work at first
  pub first_turns : InTurn geo none_given n
  first_turns = record {
    sizes = sizes;
    slots = slots;
    who = 0;
    alone = λ j ne c is. ap kind_of (a.clients j c is);
    fresh = λ c is. subst (λ (d : SeenClient). is_fresh n.manager.tables d ≡ true) (sym (a.clients 0 c is)) (lookup_fresh n.manager.tables (First 0) refl);
    reads = λ c is. subst ReadsFirst (sym (a.clients 0 c is)) (λ e. absurd (none-some Read e));
    logs = record {
      logs = λ i c is. ap (λ (d : SeenClient). d.log.log.0) (a.clients i c is);
      rooms = λ i c is. ap (λ (d : SeenClient). d.log.room) (a.clients i c is) ∙ ap (λ z. (z.servers - 1) * z.fragment) sizes;
      go_on = λ i c is. subst (λ (d : SeenClient). LogGoesOn n.manager.tables.members.generation d.flushed (step_of d.task)) (sym (a.clients i c is)) tt;
      paid = λ i c is. subst (IsPaid geo none_given) (sym (a.clients i c is)) (first_paid i);
    };
    servers = record {
      belong = λ server id some. absurd (true≢false (sym some ∙ ap (λ (s : SeenServer). is_some (stands_in s.entries id)) (empty_at server)));
      taken = λ server. free_is_taken n.servers.slots (has n.servers server) (let none = ap (λ (s : SeenServer). length s.entries) (empty_at server) in omega (arith, none));
    };
  }

-- ---- what a client was given

given_more : (items : List Item) (line : Line) (place client : ℕ)
    → flat_map (λ (item : Item). call_by client item.line) (items ++ record { line = line; at = place } ∷ []) ≡ flat_map (λ (item : Item). call_by client item.line) items ++ call_by client line
given_more [] line place client = append-nil (call_by client line)
given_more (item ∷ items) line place client =
    ap (λ (cs : List Call). call_by client item.line ++ cs) (given_more items line place client)
    ∙ sym (append_assoc (call_by client item.line) (flat_map (λ (it : Item). call_by client it.line) items) (call_by client line))

pub calls_more : (given : Given) (line : Line) (place client : ℕ) → calls_of (with_item given line place) client ≡ calls_of given client ++ call_by client line
calls_more given line place client = given_more given.items line place client

module _ (geo : Geometry) where
  loads_more : (given : Given) (line : Line) (place client : ℕ) → loads geo (calls_of (with_item given line place) client) ≡ loads geo (calls_of given client) + loads geo (call_by client line)
  loads_more given line place client = ap (loads geo) (calls_more given line place client) ∙ sum_by-append (load geo) (calls_of given client) (call_by client line)

  -- what was paid is still where more is given
  paid_more : (given : Given) (line : Line) (place : ℕ) (c : SeenClient) → IsPaid geo given c → IsPaid geo (with_item given line place) c
  paid_more given line place c p = record {
    bytes = p.bytes;
    half = p.half;
    within = p.within;
    paid = let paid = p.paid in let more = loads_more given line place c.client in omega (arith, paid, more);
  }

  -- also of the client that is given the call
  paid_call : (given : Given) (place : ℕ) (c : SeenClient) (call : Call) → step_of c.task ≡ Lookup → IsPaid geo given c → IsPaid geo (with_item given (CallLine true c.client call) place) (queues given c call)
  paid_call given place c call at p = record {
    bytes = p.bytes;
    half = p.half;
    within = p.within;
    paid =
        let new : Numbered = record { number = suc (length (calls_of given c.client)); call = call } in
        let paid = p.paid in
        let more = loads_more given (CallLine true c.client call) place c.client in
        let own : loads geo (call_by c.client (CallLine true c.client call)) ≡ load geo call =
        ap (loads geo) (cond-true (eqb c.client c.client) (call ∷ []) [] (eq-eqb c.client c.client refl)) ∙ one call in
        let before = ap (λ (st : Step). numbered_loads geo (ahead_at c.kept c.queue st)) at in
        let now = ap (λ (st : Step). numbered_loads geo (ahead_at c.kept (c.queue ++ new ∷ []) st)) at in
        let a = loads_both geo c.kept c.queue in
        let b = loads_both geo c.kept (c.queue ++ new ∷ []) in
        let e = loads_both geo c.queue (new ∷ []) in
        let f = last new in
        omega (arith, paid, more, own, before, now, a, b, e, f);
  } where
    one : (call : Call) → loads geo (call ∷ []) ≡ load geo call
    one call = sum_by-cons (load geo) call [] ∙ omega arith

    last : (k : Numbered) → numbered_loads geo (k ∷ []) ≡ load geo k.call
    last k = sum_by-cons (λ (x : Numbered). load geo x.call) k [] ∙ omega arith

module _ {geo : Geometry} {given : Given} {n : SeenNodes} (t : InTurn geo given n) (i : ℕ) (c d : SeenClient) (is : IsClient n i c)
    (log_is : d.log ≡ c.log) (flushed : d.flushed ≡ c.flushed) (idle : kind_of c ≡ Idle) (at : step_of d.task ≡ Lookup) (reads : ReadsFirst d) where
  abbrev Now : SeenNodes
  Now = with_client n i d

  was_at : step_of c.task ≡ Lookup
  was_at = ap step_of (idle_rests c idle).0

  begun_same : stripes_begun (reached c) ≤ stripes_begun (reached d)
  begun_same =
      let here = ap (reached_at c.log) was_at in
      let there = ap (reached_at d.log) at in
      let same = ap stripes_begun (here ∙ ap (λ (l : SeenLog). l.next) (sym log_is) ∙ sym there) in
      omega (arith, same)

  -- one that was idle has work now, and the others are idle
  pub work_turns : (more : Given) → AllIdle n → ((j : ℕ) (x : SeenClient) → IsClient n j x → IsPaid geo more x) → IsPaid geo more d → InTurn geo more Now
  work_turns more all_idle others own = record {
    sizes = t.sizes;
    slots = t.slots;
    who = i;
    alone = λ j ne x there. all_idle j x (sym (set_others n Now i d refl j ne) ∙ there);
    fresh = λ x there. subst (λ (y : SeenClient). is_fresh n.manager.tables y ≡ true) (same_Some d x (sym (set_is n Now i c d is refl) ∙ there)) (lookup_fresh n.manager.tables d at);
    reads = λ x there. subst ReadsFirst (same_Some d x (sym (set_is n Now i c d is refl) ∙ there)) reads;
    logs = record {
      logs = λ j. set_at (λ (x : SeenClient). x.log.log.0 ≡ j + 1) n Now i c d is refl j (λ same. ap (λ (l : SeenLog). l.log.0) log_is ∙ t.logs.logs i c is ∙ ap (λ (k : ℕ). k + 1) (sym same)) (λ _. t.logs.logs j);
      rooms = λ j. set_at (λ (x : SeenClient). x.log.room ≡ (geo.servers - 1) * geo.fragment) n Now i c d is refl j (λ _. ap (λ (l : SeenLog). l.room) log_is ∙ t.logs.rooms i c is) (λ _. t.logs.rooms j);
      go_on = λ j. set_at (λ (x : SeenClient). LogGoesOn n.manager.tables.members.generation x.flushed (step_of x.task)) n Now i c d is refl j
          (λ _. subst (LogGoesOn n.manager.tables.members.generation d.flushed) (sym at)
          (subst (λ (f : Option Flushed). LogGoesOn n.manager.tables.members.generation f Lookup) (sym flushed) (subst (LogGoesOn n.manager.tables.members.generation c.flushed) was_at (t.logs.go_on i c is))))
          (λ _. t.logs.go_on j);
      paid = λ j. set_at (IsPaid geo more) n Now i c d is refl j (λ _. own) (λ _. others j);
    };
    servers = record {
      belong = λ server id some. belongs_still geo.servers (begun_by n.clients) (begun_by (slice_set n.clients i d)) server id (begun_grows n.clients i c d is begun_same) (t.servers.belong server id some);
      taken = t.servers.taken;
    };
  }

-- a call is given to one of the clients, all of which are idle
pub call_turns : {geo : Geometry} {given : Given} {lines : List Outcome} {n : SeenNodes} (s : AreSound given lines n) (t : InTurn geo given n) (i : ℕ) (c : SeenClient) (call : Call) (place : ℕ) → IsClient n i c → AllIdle n
    → InTurn geo (with_item given (CallLine true (i + 1) call) place) (with_client n i (queues given c call))
call_turns {geo = geo} {given = given} {n = n} s t i c call place is idle =
    let own : c.client ≡ i + 1 = (s.clients i c is).1 in
    let at : step_of c.task ≡ Lookup = ap step_of (idle_rests c (idle i c is)).0 in
    work_turns t i c (queues given c call) is refl refl (idle i c is) at (λ e. absurd (none-some Read (sym (ap aim_of (idle_rests c (idle i c is)).0) ∙ e))) (with_item given (CallLine true (i + 1) call) place) idle
    (λ j x there. paid_more geo given (CallLine true (i + 1) call) place x (t.logs.paid j x there))
    (subst (λ (k : ℕ). IsPaid geo (with_item given (CallLine true k call) place) (queues given c call)) own (paid_call geo given place c call at (t.logs.paid i c is)))

-- one of them begins to commit all that it keeps
pub flush_turns : {geo : Geometry} {given : Given} {n : SeenNodes} (t : InTurn geo given n) (i : ℕ) (c : SeenClient) → IsClient n i c → AllIdle n
    → InTurn geo given (with_client n i (record (unready c) { task = new_task Finish }))
flush_turns {geo = geo} {given = given} t i c is idle =
    let at : step_of c.task ≡ Lookup = ap step_of (idle_rests c (idle i c is)).0 in
    let p = t.logs.paid i c is in
    work_turns t i c (record (unready c) { task = new_task Finish }) is refl refl (idle i c is) refl (λ e. absurd (cc e)) given idle t.logs.paid
    (record {
      bytes = p.bytes;
      half = subst (λ (st : Step). HalfFull c.log.room (reached_at c.log st) p.bytes) at p.half;
      within = subst (λ (st : Step). (reached_at c.log st).offset ≤ c.log.room) at p.within;
      paid = subst (λ (st : Step). p.bytes + numbered_loads geo (ahead_at c.kept c.queue st) ≤ loads geo (calls_of given c.client)) at p.paid;
    })

-- a finish is given
pub finish_turns : {geo : Geometry} {given : Given} {n : SeenNodes} (t : InTurn geo given n) (place : ℕ) → InTurn geo (with_finish given place) n
finish_turns t place = record {
  sizes = t.sizes;
  slots = t.slots;
  who = t.who;
  alone = t.alone;
  fresh = t.fresh;
  reads = t.reads;
  logs = record { logs = t.logs.logs; rooms = t.logs.rooms; go_on = t.logs.go_on; paid = λ i c is. let p = t.logs.paid i c is in record { bytes = p.bytes; half = p.half; within = p.within; paid = p.paid } };
  servers = t.servers;
}

-- memory is taken for a step
pub ready_turns : {geo : Geometry} {given : Given} {old : SeenNodes} (t : InTurn geo given old) (new : SeenNodes) (i : ℕ) → IsReadied old new i → InTurn geo given new
ready_turns {geo = geo} {given = given} {old = old} t new i r = record {
  sizes = r.manager.sizes ∙ t.sizes;
  slots = ap (λ (x : SeenServers). x.slots) r.servers ∙ t.slots;
  who = t.who;
  alone = λ j ne. at (λ (x : SeenClient). kind_of x ≡ Idle) (λ idle. idle) j (t.alone j ne);
  fresh = subst (λ (tables : Tables). (c : SeenClient) → IsClient new t.who c → is_fresh tables c ≡ true) (sym r.manager.tables)
      (at (λ (x : SeenClient). is_fresh old.manager.tables x ≡ true) (λ now. now) t.who t.fresh);
  reads = at ReadsFirst (λ first. first) t.who t.reads;
  logs = record {
    logs = λ j. at (λ (x : SeenClient). x.log.log.0 ≡ j + 1) (λ e. e) j (t.logs.logs j);
    rooms = λ j. at (λ (x : SeenClient). x.log.room ≡ (geo.servers - 1) * geo.fragment) (λ e. e) j (t.logs.rooms j);
    go_on = λ j. subst (λ (tables : Tables). (c : SeenClient) → IsClient new j c → LogGoesOn tables.members.generation c.flushed (step_of c.task)) (sym r.manager.tables)
        (at (λ (x : SeenClient). LogGoesOn old.manager.tables.members.generation x.flushed (step_of x.task)) (λ e. e) j (t.logs.go_on j));
    paid = λ j. at (IsPaid geo given) (λ p. record { bytes = p.bytes; half = p.half; within = p.within; paid = p.paid }) j (t.logs.paid j);
  };
  servers = record {
    belong = λ server id some.
        subst (λ (cs : List SeenClient). Belongs geo.servers (begun_by cs) server id) (sym r.clients)
        (belongs_still geo.servers (begun_by old.clients) (begun_by (slice_set old.clients i (record r.client { is_ready = r.ready }))) server id
        (begun_grows old.clients i r.client (record r.client { is_ready = r.ready }) r.is (omega arith))
        (t.servers.belong server id (ap (λ (x : SeenServers). is_some (maps_of x server id)) (sym r.servers) ∙ some)));
    taken = λ server. subst (λ (x : SeenServers). SlotsAreTaken x.slots (has x server)) (sym r.servers) (t.servers.taken server);
  };
} where
  at : (P : SeenClient → Type 0) → (P r.client → P (record r.client { is_ready = r.ready })) → (j : ℕ) → ((c : SeenClient) → IsClient old j c → P c) → (c : SeenClient) → IsClient new j c → P c
  at P still j was = kept_at P old new i r.client (record r.client { is_ready = r.ready }) r.is r.clients still j was
