-- How the report of a course goes on.
use Rattle.std.proofs.Common.{◌≡◌, ◌≢◌, ℕ, ◌-◌, ◌≤◌, ◌<◌, true, false, List, [], ◌++◌, append-nil, length, Option, Some, None, refl, sym, ap, ◌∙◌, subst, arith, inl, inr}
use Rattle.std.specs.Prelude.{◌⊎◌, slice_get, IsTrue}
use Rattle.std.specs.List.{AllByRecursion}
use Rattle.std.proofs.lemmas.Bool.{cases_eq}
use Rattle.zb_types.specs.Limits.{within}
use Rattle.zb_types.specs.declared.calls.Call.{Call}
use Rattle.zb_types.specs.declared.geometry.Geometry.{Geometry}
use Rattle.zb_types.specs.declared.lines.Kind.TheVariants as kind
use Rattle.zb_types.specs.declared.lines.Line.TheVariants.{Call as CallLine}
use Rattle.zb_types.specs.declared.lines.Outcome.{Outcome}
use Rattle.zb_claims.specs.Text.{report_text}
use Rattle.zb_given.specs.Calls.{LookedUp}
use Rattle.zb_given.specs.Given.{Given, none_given, with_finish, with_item}
use Rattle.zb_forming_laws.specs.Resting.{IsShort}
use Rattle.zb_client.specs.declared.steps.Told.{Told}
use Rattle.zb_client.specs.Seen.{SeenClient, kind_of}
use Rattle.zb_line_laws.specs.Calls.{IsFinishing, lines_in}
use Rattle.zb_ledger.specs.Keeps.{KeepsHistory}
use Rattle.zb_system.specs.Looking.{HasLookedUp, is_reading}
use Rattle.zb_system.specs.Nodes.{IsClient, SeenNodes, with_client}
use Rattle.zb_system.specs.Sound.{AreSound, StaysSound}
use Rattle.zb_system.specs.Steps.{HasStepped}
use Rattle.zb_system.proofs.FirstReads.{not_looked}
use Rattle.zb_system.proofs.Inside.{ready_stays}
use Rattle.zb_system.proofs.ReadsLeft.{lookup_unread}
use Rattle.zb_nodes.specs.declared.answers.Halt.{Halt}
use Rattle.zb_finishing.specs.Clients.{AllIdle, SizesStay}
use Rattle.zb_finishing.specs.Telling.{MayTell}
use Rattle.zb_ample.proofs.Told.{lines_in_turn}
use Rattle.zb_finishing.proofs.Alone.{idle_seen}
use Rattle.zb_finishing.proofs.Said.{stepped_may}
use Rattle.zb_finishing.proofs.Sized.{ready_sized, set_sized, step_sized}
use Rattle.zb_course.specs.Seen.{SeenCourse, lines_behind}
use Rattle.zb_course.specs.Sound.{Goes, GoesWell, GoesWith, IsSettled, IsSoundWith, most_calls}
use Rattle.zb_course.specs.Steps.{Finishes, HasAnswered, HasHalted as HasHaltedStep, HasMoved, HasWaited, IsFirstCourse, StepIs, TakesCall, TellsRest, TellsWaiting}
use Rattle.zb_course.specs.declared.lines.Untold.{Untold}
use Rattle.zb_course.specs.declared.step.Step.{Step}
use Rattle.zb_course.specs.declared.step.Step.TheVariants as step
use Rattle.zb_course.proofs.Giving.{begins, commits_all, finish_begins, same_reads, takes}
use Rattle.zb_course.proofs.Going.{is_looking}
use Rattle.zb_course.proofs.Stepping.{answers_so, behind_so, moves_so, numbered, rest_told, set_here, waited_so}
use Rattle.zb_running.specs.Reports.{ComesInTurn, HasReport, IsOfSystem, IsReported, MayWait}
use Rattle.zb_running.specs.Telling.{GivesMore, HasHalted, HasTold, TellsMore}
use Rattle.zb_running.proofs.InTurns.{call_in_order, finish_in_order, first_in_turn, flush_in_order, ready_in_order, rest_in_order, still_in_order, told_in_order, waits_in_order}
use Rattle.zb_running.proofs.OfSystems.{clients_are, servers_are, with_call, with_end, with_none, with_told, within_both, within_high, within_low}

-- ---- it begins

pub first_report : (geo : Geometry) (c : SeenCourse) → IsFirstCourse geo c → HasReport geo none_given [] c
first_report geo c f = record {
  system = record { sizes = f.sizes; slots = f.slots; calls = tt; count = sym f.calls; valid = tt; space = tt };
  turns = first_in_turn geo c f;
  settled = begins geo c f;
}

-- ---- more is given

-- a client among the nodes is another now
set_same : (old new : SeenNodes) (i : ℕ) (d : SeenClient) → new ≡ with_client old i d → SizesStay old new
set_same old new i d is = set_sized old new i d (ap (λ (n : SeenNodes). n.clients) is) (ap (λ (n : SeenNodes). n.manager.sizes) is) (ap (λ (n : SeenNodes). n.servers.slots) is)

module _ {geo : Geometry} {given : Given} {lines : List Outcome} {old : SeenCourse} (r : HasReport geo given lines old) where
  -- as many clients as the system has
  pub sized : length old.nodes.clients ≡ geo.clients
  sized = r.settled.sound.count ∙ clients_are r.system

  pub in_system : (client : ℕ) → client ≤ length old.nodes.clients → client ≤ geo.clients
  in_system client last = let many = sized in omega (arith, last, many)

  own_of : (client : ℕ) → client ≤ geo.clients → client ≤ old.ledger.clients
  own_of client high = omega (arith, high, sized, r.settled.well.clients)

  pub call_given : (new : SeenCourse) (client : ℕ) (call : Call) → IsTrue (within 1 geo.clients client) → IsShort call → old.calls < most_calls → TakesCall old new client call
      → GivesMore r (with_item given (CallLine true client call) (length lines)) new
  call_given new client call own short few t =
      let g : GoesWith r.settled (with_item given (CallLine true client call) (length lines)) new =
      takes r.settled new client (within_low geo.clients client own) (omega (arith, within_high geo.clients client own, sized)) call short few t in
      record {
        report = record {
          system = with_call r.system new client (length lines) call own (set_same old.nodes new.nodes (client - 1) _ t.nodes.new_is) t.calls;
          turns = call_in_order r.settled r.turns new client call (within_low geo.clients client own) t;
          settled = g.settled;
        };
        reads = g.reads;
      }

  pub finish_given : GivesMore r (with_finish given (length lines)) old
  finish_given =
      let g : GoesWith r.settled (with_finish given (length lines)) old = finish_begins r.settled in
      record { report = record { system = with_end r.system (length lines); turns = finish_in_order r.turns; settled = g.settled }; reads = g.reads }

  pub flush_given : (new : SeenCourse) (client : ℕ) → 1 ≤ client → client ≤ geo.clients → AllIdle old.nodes → IsFinishing given lines → Finishes old new client → GivesMore r given new
  flush_given new client low high idle finishing f =
      let seen = idle_seen old.nodes (client - 1) (let many = sized in omega (arith, low, high, many)) (idle (client - 1)) in
      let g : GoesWith r.settled given new = commits_all r.settled new client low seen finishing f in
      record {
        report = record { system = with_none r.system new (set_same old.nodes new.nodes (client - 1) _ f.nodes.new_is) f.calls; turns = flush_in_order r.settled r.turns new client idle f; settled = g.settled };
        reads = g.reads;
      }

-- ---- no step is made

-- sound nodes, with these reads at work
record StillReads (given : Given) (lines : List Outcome) (reads : ℕ → Option LookedUp) (n : SeenNodes) : Type 0 where
  sound : AreSound given lines n
  same : (i : ℕ) → sound.reads i ≡ reads i

module _ {given : Given} {lines : List Outcome} {old : SeenCourse} (s : IsSettled given lines old) (new : SeenCourse) (client : ℕ) (low : 1 ≤ client) (h : HasWaited old new client) where
  abbrev Before : SeenClient
  Before = h.nodes.client

  abbrev Ready : SeenClient
  Ready = record h.nodes.client { is_ready = h.nodes.ready }

  q : StaysSound s.sound new.nodes (client - 1) []
  q = ready_stays s.sound new.nodes (client - 1) h.nodes

  there : IsClient new.nodes (client - 1) Ready
  there = ap (λ (cs : List SeenClient). slice_get cs (client - 1)) h.nodes.clients ∙ set_here old.nodes.clients (client - 1) Before Ready h.nodes.is

  had : HasLookedUp given lines Before (s.sound.reads (client - 1))
  had = s.sound.calls.looked (client - 1) Before h.nodes.is

  has : HasLookedUp given (lines ++ []) Ready (q.sound.reads (client - 1))
  has = q.sound.calls.looked (client - 1) Ready there

  gone : (read : Option LookedUp) → read ≡ None → HasLookedUp given (lines ++ []) Ready read → is_reading Before ≡ false
  gone None e is = is
  gone (Some read) e is = absurd (cc e)

  read_same : q.sound.reads (client - 1) ≡ s.sound.reads (client - 1)
  read_same = by (is_looking (kind_of Before)) where
    by : (kind_of Before ≡ kind.Lookup) ⊎ (kind_of Before ≢ kind.Lookup) → q.sound.reads (client - 1) ≡ s.sound.reads (client - 1)
    by (inl e) =
        lookup_unread given (lines ++ []) Ready (q.sound.reads (client - 1)) has e
        ∙ sym (lookup_unread given lines Before (s.sound.reads (client - 1)) had e)
    by (inr ne) = of ((q.read Before h.nodes.is).goes_on ne) where
      of : (q.sound.reads (client - 1) ≡ s.sound.reads (client - 1)) ⊎ (q.sound.reads (client - 1) ≡ None) → q.sound.reads (client - 1) ≡ s.sound.reads (client - 1)
      of (inl same) = same
      of (inr none) = none ∙ sym (not_looked given lines Before (s.sound.reads (client - 1)) had (gone (q.sound.reads (client - 1)) none has))

  all_same : (j : ℕ) → q.sound.reads j ≡ s.sound.reads j
  all_same j = by (cases_eq j (client - 1)) where
    by : (j ≡ client - 1) ⊎ (j ≢ client - 1) → q.sound.reads j ≡ s.sound.reads j
    by (inl e) = subst (λ (k : ℕ). q.sound.reads k ≡ s.sound.reads k) (sym e) read_same
    by (inr ne) = q.others j ne

  still : StillReads given lines s.sound.reads new.nodes
  still = subst (λ (l : List Outcome). StillReads given l s.sound.reads new.nodes) (append-nil lines) (record { sound = q.sound; same = all_same })

  pub waited_with : GoesWith s given new
  waited_with = record {
    settled = record {
      sound = still.sound;
      keeps = subst (KeepsHistory given lines still.sound.reads) (sym h.ledger) (same_reads given lines s.sound.reads still.sound.reads old.ledger still.same s.keeps);
      well = (waited_so s new client low h).settled.well;
      unfinished = h.unfinished ∙ s.unfinished;
      told = h.untold ∙ s.told;
    };
    reads = still.same;
  }

-- ---- a step is made

silent_text : (old new : SeenCourse) → new.text ≡ old.text → new.text ≡ old.text ++ report_text []
silent_text old new same = same ∙ sym (append-nil old.text)

module _ {geo : Geometry} {given : Given} {lines : List Outcome} {old : SeenCourse} (r : HasReport geo given lines old) (new : SeenCourse) (client : ℕ) where
  -- it tells these lines
  told_of : (more : List Outcome) (g : Goes r.settled new client more) → IsOfSystem geo given (lines ++ more) new → ComesInTurn geo given (lines ++ more) new → new.text ≡ old.text ++ report_text more → HasTold r new client
  told_of more g system turns text = record {
    place = g.place;
    client_is = g.client_is;
    more = more;
    report = record { system = system; turns = turns; settled = g.settled };
    tells = g.tells;
    others = g.others;
    text = text;
  }

  -- nothing
  told_none : (g : Goes r.settled new client []) → SizesStay old.nodes new.nodes → ComesInTurn geo given (lines ++ []) new → new.calls ≡ old.calls → new.text ≡ old.text → HasTold r new client
  told_none g same turns calls text =
      told_of [] g (subst (λ (l : List Outcome). IsOfSystem geo given l new) (sym (append-nil lines)) (with_none r.system new same calls)) turns (silent_text old new text)

  module _ (own : IsTrue (within 1 geo.clients client)) where
    low : 1 ≤ client
    low = within_low geo.clients client own

    inside : client ≤ old.ledger.clients
    inside = own_of r client (within_high geo.clients client own)

    -- the lines of a step may be told
    may_tell : (told : Told) → HasStepped old.nodes new.nodes (client - 1) told → AllByRecursion (MayTell geo.servers client) (lines_in told)
    may_tell told h =
        subst (λ (n : ℕ). AllByRecursion (MayTell n client) (lines_in told)) (servers_are r.system)
        (subst (λ (n : ℕ). AllByRecursion (MayTell old.nodes.manager.sizes.servers n) (lines_in told)) (sym (numbered client low))
        (stepped_may new.nodes (client - 1) told r.settled.sound h))

    waited : HasWaited old new client → HasTold r new client
    waited h = told_none (waited_so r.settled new client low h) (ready_sized old.nodes new.nodes (client - 1) h.nodes)
        (subst (λ (l : List Outcome). ComesInTurn geo given l new) (sym (append-nil lines)) (ready_in_order r.settled r.turns new (client - 1) h.nodes h.untold)) h.calls h.text

    moved : HasMoved old new client → HasTold r new client
    moved m = told_none (moves_so r.settled new client low inside m) (step_sized old.nodes new.nodes (client - 1) m.told m.stepped)
        (subst (λ (more : List Outcome). ComesInTurn geo given (lines ++ more) new) m.silent (told_in_order r.settled r.turns new (client - 1) m.told m.stepped (m.untold ∙ r.settled.told))) m.calls m.text

    answered : HasAnswered old new client → HasTold r new client
    answered a =
        let g : Goes r.settled new client (lines_in a.told) = answers_so r.settled new client low inside a in
        told_of (lines_in a.told) g
        (with_told r.system new client (lines_in a.told) (step_sized old.nodes new.nodes (client - 1) a.told a.stepped) a.tells.calls r.settled.well.calls own
        (may_tell a.told a.stepped) a.tells.values g.settled.sound.told.fit)
        (told_in_order r.settled r.turns new (client - 1) a.told a.stepped a.tells.told)
        a.tells.text

    pub step_told : (did : Step) → StepIs old new client did → HasTold r new client
    step_told step.Idle h = waited h
    step_told (step.Blocked holder) h = waited h
    step_told step.Moved m = moved m
    step_told step.Answered a = answered a

  pub wait_given : 1 ≤ client → HasWaited old new client → GivesMore r given new
  wait_given low h =
      let g : GoesWith r.settled given new = waited_with r.settled new client low h in
      record {
        report = record {
          system = with_none r.system new (ready_sized old.nodes new.nodes (client - 1) h.nodes) h.calls;
          turns = ready_in_order r.settled r.turns new (client - 1) h.nodes h.untold;
          settled = g.settled;
        };
        reads = g.reads;
      }

-- ---- lines that wait

pub none_waits : {geo : Geometry} {given : Given} {lines : List Outcome} {c : SeenCourse} → HasReport geo given lines c → IsReported geo given lines c
none_waits {geo} {given} {lines} {c} r = record {
  system = r.system;
  turns = r.turns;
  sound = subst (IsSoundWith given lines c) (sym r.settled.told) r.settled;
  waits = subst (MayWait geo.servers) (sym r.settled.told) tt;
}

pub settles_so : {geo : Geometry} {given : Given} {lines : List Outcome} {c : SeenCourse} → IsReported geo given lines c → c.untold ≡ None → HasReport geo given lines c
settles_so {geo} {given} {lines} {c} r e = record { system = r.system; turns = r.turns; settled = subst (IsSoundWith given lines c) e r.sound }

pub halts_so : {geo : Geometry} {given : Given} {lines : List Outcome} {old : SeenCourse} (r : HasReport geo given lines old) (new : SeenCourse) (client : ℕ) (why : Halt)
    → IsTrue (within 1 geo.clients client) → HasHaltedStep old new client why → HasHalted geo given lines old new
halts_so {geo} {given} {lines} {old} r new client why own (inl h) = record {
  report = none_waits (wait_given r new client (within_low geo.clients client own) h.0).report;
  text = h.0.text;
}
halts_so {geo} {given} {lines} {old} r new client why own (inr b) = record {
  report = record {
    system = with_none r.system new (step_sized old.nodes new.nodes (client - 1) b.0.told b.0.stepped) b.0.calls;
    turns = waits_in_order r.settled r.turns new (client - 1) b.0.told b.0.stepped (record { client = client; lines = lines_in b.0.told }) refl b.0.untold;
    sound = behind_so r.settled new client (within_low geo.clients client own) (own_of r client (within_high geo.clients client own)) b.0;
    waits = subst (MayWait geo.servers) (sym b.0.untold) (may_tell r new client own b.0.told b.0.stepped);
  };
  text = b.0.text;
}

-- they are told
module _ {geo : Geometry} {given : Given} {lines : List Outcome} {old : SeenCourse} (system : IsOfSystem geo given lines old) (turns : ComesInTurn geo given lines old) (new : SeenCourse) where
  rest_of : (u : Option Untold) → old.untold ≡ u → IsSoundWith given lines old u → MayWait geo.servers u → TellsWaiting old new u → IsSettled given (lines ++ lines_behind u) new → TellsMore geo given lines old new
  rest_of None none s may same settled = record {
    more = [];
    report = record {
      system = subst (λ (c : SeenCourse). IsOfSystem geo given (lines ++ []) c) (sym same) (subst (λ (l : List Outcome). IsOfSystem geo given l old) (sym (append-nil lines)) system);
      turns = subst (λ (c : SeenCourse). ComesInTurn geo given (lines ++ []) c) (sym same) (subst (λ (l : List Outcome). ComesInTurn geo given l old) (sym (append-nil lines)) turns);
      settled = settled;
    };
    text = silent_text old new (ap (λ (c : SeenCourse). c.text) same);
  }
  rest_of (Some untold) some w may t settled = record {
    more = untold.lines;
    report = record {
      system = with_told system new untold.client untold.lines stays t.1.calls w.well.calls (within_both geo.clients untold.client low high) may t.1.values w.sound.told.fit;
      turns = subst (λ (o : Option Untold). ComesInTurn geo given (lines ++ lines_behind o) new) some
          (rest_in_order (λ turn. lines_in_turn given lines (lines_behind old.untold) w.fit turns.finished turn) turns new t.0 t.1.told);
      settled = settled;
    };
    text = t.1.text;
  } where
    stays : SizesStay old.nodes new.nodes
    stays = record {
      sizes = ap (λ (n : SeenNodes). n.manager.sizes) t.0;
      slots = ap (λ (n : SeenNodes). n.servers.slots) t.0;
      clients = ap (λ (n : SeenNodes). length n.clients) t.0;
    }

    low : 1 ≤ untold.client
    low = omega (arith, w.client)

    high : untold.client ≤ geo.clients
    high = omega (arith, w.own, w.well.clients, w.sound.count, clients_are system)

pub rest_so : {geo : Geometry} {given : Given} {lines : List Outcome} {old : SeenCourse} (new : SeenCourse) → IsReported geo given lines old → TellsRest old new → TellsMore geo given lines old new
rest_so {geo} {given} {lines} {old} new r t = rest_of r.system r.turns new old.untold refl r.sound r.waits t (rest_told given lines old new r.sound t)

-- ---- text is handed over

abbrev handed : SeenCourse → SeenCourse
handed c = record c { text = [] }

well_still : (c : SeenCourse) → GoesWell c → GoesWell (handed c)
well_still c w = record { works = w.works; clients = w.clients; few = w.few; calls = w.calls }

with_still : (given : Given) (lines : List Outcome) (c : SeenCourse) (u : Option Untold) → IsSoundWith given lines c u → IsSoundWith given lines (handed c) u
with_still given lines c None s = record { sound = s.sound; keeps = s.keeps; well = well_still c s.well; unfinished = s.unfinished; told = s.told }
with_still given lines c (Some untold) w = record {
  place = w.place;
  client = w.client;
  own = w.own;
  some = w.some;
  fit = w.fit;
  before = w.before;
  keeps = w.keeps;
  counted = w.counted;
  sound = w.sound;
  tells = w.tells;
  others = w.others;
  well = well_still c w.well;
  unfinished = w.unfinished;
}

module _ {geo : Geometry} {given : Given} {lines : List Outcome} (c : SeenCourse) where
  system_still : IsOfSystem geo given lines c → IsOfSystem geo given lines (handed c)
  system_still p = record { sizes = p.sizes; slots = p.slots; calls = p.calls; count = p.count; valid = p.valid; space = p.space }

  pub prints : (r : HasReport geo given lines c) → GivesMore r given (handed c)
  prints r = record {
    report = record {
      system = system_still r.system;
      turns = still_in_order c r.turns;
      settled = record { sound = r.settled.sound; keeps = r.settled.keeps; well = well_still c r.settled.well; unfinished = r.settled.unfinished; told = r.settled.told };
    };
    reads = λ i. refl;
  }

  pub still_prints : IsReported geo given lines c → IsReported geo given lines (handed c)
  still_prints r = record { system = system_still r.system; turns = still_in_order c r.turns; sound = with_still given lines c c.untold r.sound; waits = r.waits }
