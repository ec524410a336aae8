-- Reports stay in turn.
use Rattle.std.proofs.Common.{◌≡◌, ℕ, suc, ◌+◌, ◌-◌, ◌≤◌, true, List, [], ◌∷◌, ◌++◌, length, length-append, Option, Some, None, refl, sym, ap, ◌∙◌, subst, arith}
use Rattle.std.specs.Prelude.{map}
use Rattle.std.specs.List.{AllByRecursion}
use Rattle.std.proofs.lemmas.List.Sums.{sum_by-cons}
use Rattle.zb_types.specs.declared.calls.Call.{Call}
use Rattle.zb_types.specs.declared.geometry.Geometry.{Geometry}
use Rattle.zb_types.specs.declared.lines.Line.TheVariants.{Call as CallLine}
use Rattle.zb_types.specs.declared.lines.Outcome.{Outcome}
use Rattle.zb_headline.specs.Complete.{is_replied}
use Rattle.zb_headline.specs.Need.{need_of, space_needed}
use Rattle.zb_given.specs.Given.{Given, Item, calls_of, none_given, with_finish, with_item}
use Rattle.zb_client.specs.declared.steps.Told.{Told}
use Rattle.zb_client.specs.Seen.{unready}
use Rattle.zb_line_laws.specs.Calls.{lines_in, queues}
use Rattle.zb_progress.specs.Fresh.{MayRise}
use Rattle.zb_progress.proofs.Rising.{may-rise}
use Rattle.zb_system.specs.Nodes.{with_client}
use Rattle.zb_system.specs.Steps.{HasStepped, IsReadied}
use Rattle.zb_ledger.specs.Seen.{count_of}
use Rattle.zb_finishing.specs.Clients.{AllIdle}
use Rattle.zb_ample.specs.Turning.{AreInTurn, InTurn}
use Rattle.zb_ample.proofs.Giving.{call_turns, finish_turns, first_turns, flush_turns, ready_turns}
use Rattle.zb_ample.proofs.Steps.{stepped_turns}
use Rattle.zb_ample.proofs.Told.{call_in_turn, finish_in_turn, lines_in_turn, told_idle}
use Rattle.zb_course.specs.Seen.{SeenCourse, lines_behind}
use Rattle.zb_course.specs.Sound.{IsSettled}
use Rattle.zb_course.specs.Steps.{Finishes, IsFirstCourse, TakesCall}
use Rattle.zb_course.specs.declared.lines.Untold.{Untold}
use Rattle.zb_course.proofs.Stepping.{numbered}
use Rattle.zb_running.specs.Reports.{ComesInTurn}
use Rattle.zb_running.proofs.OfSystems.{both}

abbrev Replied : List Outcome → Type 0
Replied lines = AllByRecursion (λ line. is_replied line ≡ true) lines

-- no line waits
quiet : (o : Option Untold) → o ≡ None → Replied (lines_behind o)
quiet o e = subst (λ (x : Option Untold). Replied (lines_behind x)) (sym e) tt

-- ---- it begins

pub first_in_turn : (geo : Geometry) (c : SeenCourse) → IsFirstCourse geo c → ComesInTurn geo none_given [] c
first_in_turn geo c f = record {
  finished = tt;
  ample = λ turn enough. record { replied = tt; waiting = quiet c.untold f.told; turn = first_turns geo c.nodes f.first f.sizes f.slots };
}

-- ---- more is given

needs_less : (geo : Geometry) (items : List Item) (x : Item) → space_needed geo (map (λ (item : Item). item.line) items) ≤ space_needed geo (map (λ (item : Item). item.line) (items ++ x ∷ []))
needs_less geo [] x = omega arith
needs_less geo (item ∷ items) x =
    let rest = needs_less geo items x in
    omega (
      arith,
      rest,
      sum_by-cons (λ (n : ℕ). n) (need_of geo item.line) (map (need_of geo) (map (λ (it : Item). it.line) items)),
      sum_by-cons (λ (n : ℕ). n) (need_of geo item.line) (map (need_of geo) (map (λ (it : Item). it.line) (items ++ x ∷ []))),
    )

module _ {geo : Geometry} {given : Given} {lines : List Outcome} {old : SeenCourse} (s : IsSettled given lines old) (t : ComesInTurn geo given lines old) (new : SeenCourse) where
  -- the call has the next number of its client
  nodes_are : (client : ℕ) (call : Call) → 1 ≤ client → (k : TakesCall old new client call) → new.nodes ≡ with_client old.nodes (client - 1) (queues given k.nodes.client call)
  nodes_are client call low k =
      let one : client ≡ client - 1 + 1 = numbered client low in
      let count : suc (count_of old.ledger client) ≡ suc (length (calls_of given k.nodes.client.client)) =
      ap suc (s.keeps.counts client ∙ ap (λ (n : ℕ). length (calls_of given n)) (one ∙ sym (s.sound.clients (client - 1) k.nodes.client k.nodes.is).1)) in
      k.nodes.new_is ∙ ap (λ (n : ℕ). with_client old.nodes (client - 1) (record (unready k.nodes.client) { queue = k.nodes.client.queue ++ record { number = n; call = call } ∷ [] })) count

  pub call_in_order : (client : ℕ) (call : Call) → 1 ≤ client → TakesCall old new client call → ComesInTurn geo (with_item given (CallLine true client call) (length lines)) lines new
  call_in_order client call low k = record {
    finished = t.finished;
    ample = λ turn enough.
        let one : client ≡ client - 1 + 1 = numbered client low in
        let so = call_in_turn s.sound (client - 1) k.nodes.client k.nodes.is call (length lines) refl
        (subst (λ (n : ℕ). AreInTurn (with_item given (CallLine true n call) (length lines)) lines) one turn) in
        let less = needs_less geo given.items (record { line = CallLine true client call; at = length lines }) in
        let a = t.ample so.0 (omega (arith, less, enough)) in
        let idle = told_idle s.sound a.turn so.1.0 so.1.1 in
        record {
          replied = a.replied;
          waiting = quiet new.untold (k.untold ∙ s.told);
          turn =
              subst (λ (n : ℕ). InTurn geo (with_item given (CallLine true n call) (length lines)) new.nodes) (sym one)
              (subst (InTurn geo (with_item given (CallLine true (client - 1 + 1) call) (length lines))) (sym (nodes_are client call low k))
              (call_turns s.sound a.turn (client - 1) k.nodes.client call (length lines) k.nodes.is idle));
        };
  }

  pub flush_in_order : (client : ℕ) → AllIdle old.nodes → Finishes old new client → ComesInTurn geo given lines new
  flush_in_order client idle f = record {
    finished = t.finished;
    ample = λ turn enough.
        let a = t.ample turn enough in
        record {
          replied = a.replied;
          waiting = quiet new.untold (f.untold ∙ s.told);
          turn = subst (InTurn geo given) (sym f.nodes.new_is) (flush_turns a.turn (client - 1) f.nodes.client f.nodes.is idle);
        };
  }

  -- memory is taken
  pub ready_in_order : (i : ℕ) → IsReadied old.nodes new.nodes i → new.untold ≡ old.untold → ComesInTurn geo given lines new
  ready_in_order i r untold = record {
    finished = t.finished;
    ample = λ turn enough.
        let a = t.ample turn enough in
        record { replied = a.replied; waiting = quiet new.untold (untold ∙ s.told); turn = ready_turns a.turn new.nodes i r };
  }

  -- ---- a step is made

  -- no number is near its last value
  rising : MayRise old.nodes.manager.tables
  rising =
      let few = s.well.few in
      let calls = s.well.calls in
      let sized : old.ledger.clients ≡ old.nodes.manager.sizes.clients = sym s.well.clients ∙ s.sound.count in
      let limit = s.sound.stands.limits.clients_high in
      may-rise old.nodes.manager.tables.next_entry old.nodes.manager.tables s.sound.rose (omega (arith, few, calls, sized, limit))

  later : (more : List Outcome) → AllByRecursion (λ at. at ≤ length (lines ++ more)) given.finishes
  later more = longer given.finishes t.finished where
    longer : (finishes : List ℕ) → AllByRecursion (λ at. at ≤ length lines) finishes → AllByRecursion (λ at. at ≤ length (lines ++ more)) finishes
    longer [] all = tt
    longer (at ∷ finishes) all = (let low = all.0 in let long = length-append lines more in omega (arith, low, long), longer finishes all.1)

  module _ (i : ℕ) (what : Told) (h : HasStepped old.nodes new.nodes i what) where
    before : AreInTurn given (lines ++ lines_in what) → AreInTurn given lines
    before turn = lines_in_turn given lines (lines_in what) s.sound.told.fit t.finished turn

    -- its lines are told
    pub told_in_order : new.untold ≡ None → ComesInTurn geo given (lines ++ lines_in what) new
    told_in_order none = record {
      finished = later (lines_in what);
      ample = λ turn enough.
          let a = t.ample (before turn) enough in
          let stepped = stepped_turns s.sound geo a.turn rising enough new.nodes i what h in
          record { replied = both (λ line. is_replied line ≡ true) lines (lines_in what) a.replied stepped.1; waiting = quiet new.untold none; turn = stepped.0 };
    }

    -- or wait
    pub waits_in_order : (untold : Untold) → untold.lines ≡ lines_in what → new.untold ≡ Some untold → ComesInTurn geo given lines new
    waits_in_order untold own some = record {
      finished = t.finished;
      ample = λ turn enough.
          let a = t.ample turn enough in
          let stepped = stepped_turns s.sound geo a.turn rising enough new.nodes i what h in
          record { replied = a.replied; waiting = subst (λ (o : Option Untold). Replied (lines_behind o)) (sym some) (subst Replied (sym own) stepped.1); turn = stepped.0 };
    }

-- ---- a finish is given

pub finish_in_order : {geo : Geometry} {given : Given} {lines : List Outcome} {c : SeenCourse} → ComesInTurn geo given lines c → ComesInTurn geo (with_finish given (length lines)) lines c
finish_in_order {geo} {given} {lines} {c} t = record {
  finished = one_more given.finishes t.finished;
  ample = λ turn enough.
      let a = t.ample (finish_in_turn given lines (length lines) turn) enough in
      record { replied = a.replied; waiting = a.waiting; turn = finish_turns a.turn (length lines) };
} where
  one_more : (finishes : List ℕ) → AllByRecursion (λ at. at ≤ length lines) finishes → AllByRecursion (λ at. at ≤ length lines) (finishes ++ length lines ∷ [])
  one_more [] all = (omega arith, tt)
  one_more (at ∷ finishes) all = (all.0, one_more finishes all.1)

-- ---- lines that wait are told

pub rest_in_order : {geo : Geometry} {given : Given} {lines : List Outcome} {old : SeenCourse} (fit : AreInTurn given (lines ++ lines_behind old.untold) → AreInTurn given lines) → ComesInTurn geo given lines old → (new : SeenCourse)
    → new.nodes ≡ old.nodes → new.untold ≡ None → ComesInTurn geo given (lines ++ lines_behind old.untold) new
rest_in_order {geo} {given} {lines} {old} before t new nodes none = record {
  finished = longer given.finishes t.finished;
  ample = λ turn enough.
      let a = t.ample (before turn) enough in
      record {
        replied = both (λ line. is_replied line ≡ true) lines (lines_behind old.untold) a.replied a.waiting;
        waiting = quiet new.untold none;
        turn = subst (InTurn geo given) (sym nodes) a.turn;
      };
} where
  longer : (finishes : List ℕ) → AllByRecursion (λ at. at ≤ length lines) finishes → AllByRecursion (λ at. at ≤ length (lines ++ lines_behind old.untold)) finishes
  longer [] all = tt
  longer (at ∷ finishes) all = (let low = all.0 in let long = length-append lines (lines_behind old.untold) in omega (arith, low, long), longer finishes all.1)

-- text that is handed over makes no difference
pub still_in_order : {geo : Geometry} {given : Given} {lines : List Outcome} (c : SeenCourse) → ComesInTurn geo given lines c → ComesInTurn geo given lines (record c { text = [] })
still_in_order c t = record { finished = t.finished; ample = λ turn enough. let a = t.ample turn enough in record { replied = a.replied; waiting = a.waiting; turn = a.turn } }
