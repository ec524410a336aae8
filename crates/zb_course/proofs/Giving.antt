-- A course begins, and more is given to it.
use Rattle.std.proofs.Common.{◌≡◌, ℕ, suc, ◌+◌, ◌-◌, ◌≤◌, ◌<◌, true, false, Bool, List, [], ◌∷◌, ◌++◌, length, Option, Some, None, refl, sym, ap, ◌∙◌, subst, inl, arith}
use Rattle.std.specs.Prelude.{option_map, slice_get, if◌then◌else◌}
use Rattle.std.proofs.lemmas.Option.{same_Some}
use Rattle.zb_types.specs.declared.calls.Call.{Call}
use Rattle.zb_types.specs.declared.geometry.Geometry.{Geometry}
use Rattle.zb_types.specs.declared.lines.Kind.TheVariants as kind
use Rattle.zb_types.specs.declared.lines.Line.TheVariants.{Call as CallLine}
use Rattle.zb_types.specs.declared.lines.Outcome.{Outcome}
use Rattle.zb_claims.specs.Points.{call_of, has_final, tree_at}
use Rattle.zb_given.specs.Given.{Given, calls_of, none_given, script_of, with_finish, with_item}
use Rattle.zb_given.specs.Calls.{LookedUp}
use Rattle.zb_given.proofs.Staying.{names_own}
use Rattle.zb_forming_laws.specs.Resting.{IsShort}
use Rattle.zb_basis.specs.declared.calls.Numbered.{Numbered}
use Rattle.zb_work.specs.declared.work.Aim.TheVariants.{Finish}
use Rattle.zb_work.specs.declared.work.Step.{Step}
use Rattle.zb_work.specs.declared.work.Step.TheVariants as step
use Rattle.zb_work.specs.declared.work.Task.{Task}
use Rattle.zb_work.specs.Steps.{kind_of_step, new_task}
use Rattle.zb_client.specs.Seen.{SeenClient, kind_of, kind_of_task, unready}
use Rattle.zb_line_laws.specs.Calls.{IsFinishing, queues}
use Rattle.zb_ledger.specs.Seen.{SeenLedger, call_at, called, count_of}
use Rattle.zb_ledger.specs.Keeps.{KeepsHistory, waits}
use Rattle.zb_ledger.proofs.Giving.{keeps_call, keeps_finish, keeps_first}
use Rattle.zb_tables.specs.Taking.{Sizes}
use Rattle.zb_system.specs.Nodes.{IsClient, SeenNodes, around, with_client}
use Rattle.zb_system.specs.Looking.{is_reading, tree_for}
use Rattle.zb_system.proofs.AnyTree.{any_tree}
use Rattle.zb_client_laws.specs.Around.{Around}
use Rattle.zb_system.specs.Sound.{AreSound, StaysWith}
use Rattle.zb_system.proofs.Giving.{call_stays_sound, finish_stays_sound, finishes_stay_sound}
use Rattle.zb_system.proofs.Joining.{set_length}
use Rattle.zb_system.proofs.Starting.{first_are_sound}
use Rattle.zb_ending.specs.Entries.{entries_ahead}
use Rattle.zb_ending.specs.Holding.{HolderWorks}
use Rattle.zb_ending.proofs.Ahead.{call_ahead, finish_ahead, first_few}
use Rattle.zb_ending.proofs.Busy.{none_holds}
use Rattle.zb_ending.proofs.Keeping.{call_given, finish_given}
use Rattle.zb_nodes.specs.Seen.{kind_at}
use Rattle.zb_course.specs.Seen.{SeenCourse}
use Rattle.zb_course.specs.Steps.{Finishes, IsFirstCourse, TakesCall}
use Rattle.zb_course.specs.Sound.{GoesWith, IsSettled, most_calls}
use Rattle.zb_course.proofs.Going.{with_reads}
use Rattle.zb_course.proofs.Stepping.{numbered}

-- an idle client has no work
rests : (t : Option Task) (queue : List Numbered) → kind_of_task t queue ≡ kind.Idle → t ≡ None
rests None queue e = refl
rests (Some task) queue e = absurd (busy task.step e) where
  busy : (s : Step) → kind_of_step s ≡ kind.Idle → ⊥
  busy step.Lookup e = absurd (cc e)
  busy (step.Fetch basis at ptr plan) e = absurd (cc e)
  busy (step.Store basis formed) e = absurd (cc e)
  busy (step.Mark server generation) e = absurd (cc e)
  busy (step.Commit basis sealed) e = absurd (cc e)

-- no call stands behind the last
past : (calls : List Call) → slice_get calls (length calls) ≡ None
past [] = refl
past (call ∷ calls) = past calls

-- the same reads at work
pub same_reads : (given : Given) (lines : List Outcome) (old new : ℕ → Option LookedUp) (ledger : SeenLedger) → ((i : ℕ) → new i ≡ old i) → KeepsHistory given lines old ledger → KeepsHistory given lines new ledger
same_reads given lines old new ledger same k = with_reads given lines old new ledger (λ i. inl (same i)) k

-- a new course
module _ (geo : Geometry) (c : SeenCourse) (f : IsFirstCourse geo c) where
  clients_are : c.nodes.manager.sizes.clients ≡ c.ledger.clients
  clients_are = ap (λ (z : Sizes). z.clients) f.sizes ∙ sym (ap (λ (l : SeenLedger). l.clients) f.ledger)

  abbrev s : AreSound none_given [] c.nodes
  s = first_are_sound c.nodes f.first

  abbrev W : Around
  W = around c.nodes s.contents (tree_at (script_of none_given) [])

  none_reads : (i : ℕ) (d : SeenClient) → IsClient c.nodes i d → is_reading d ≡ false
  none_reads i d is = ap is_reading (f.first.clients i d is)

  -- no read is at work
  abbrev at_rest : AreSound none_given [] c.nodes
  at_rest = record {
    contents = s.contents;
    reads = λ i. None;
    stands = s.stands;
    clients = λ i d is. (any_tree W (tree_for none_given [] (s.reads i)) (tree_for none_given [] None) d (none_reads i d is) (s.clients i d is).0, (s.clients i d is).1);
    count = s.count;
    calls = record { calls = s.calls.calls; looked = λ i d is. none_reads i d is };
    servers = s.servers;
    told = s.told;
    rose = s.rose;
  }

  pub begins : IsSettled none_given [] c
  begins = record {
    sound = at_rest;
    keeps = subst (KeepsHistory none_given [] (λ i. None)) (sym f.ledger) (keeps_first geo.clients);
    well = record {
      works = none_holds c.nodes f.first.holder;
      clients = f.first.count ∙ clients_are;
      few = omega (arith, first_few c.nodes f.first, clients_are);
      calls = omega (arith, f.calls);
    };
    unfinished = f.unfinished;
    told = f.told;
  }

-- a call is given
module _ {given : Given} {lines : List Outcome} {old : SeenCourse} (s : IsSettled given lines old) (new : SeenCourse) (client : ℕ) (low : 1 ≤ client) where
  abbrev i : ℕ
  i = client - 1

  client_is : client ≡ i + 1
  client_is = numbered client low

  module _ (last : client ≤ length old.nodes.clients) (call : Call) (short : IsShort call) (few : old.calls < most_calls) (t : TakesCall old new client call) where
    abbrev c : SeenClient
    c = t.nodes.client

    abbrev More : Given
    More = with_item given (CallLine true client call) (length lines)

    count_is : suc (count_of old.ledger client) ≡ suc (length (calls_of given c.client))
    count_is = ap suc (s.keeps.counts client ∙ ap (λ (n : ℕ). length (calls_of given n)) (client_is ∙ sym (s.sound.clients i c t.nodes.is).1))

    nodes_are : new.nodes ≡ with_client old.nodes i (queues given c call)
    nodes_are = t.nodes.new_is ∙ ap (λ (n : ℕ). with_client old.nodes i (record (unready c) { queue = c.queue ++ record { number = n; call = call } ∷ [] })) count_is

    abbrev g : StaysWith s.sound More new.nodes
    g =
        subst (λ (n : ℕ). StaysWith s.sound (with_item given (CallLine true n call) (length lines)) new.nodes) (sym client_is)
        (subst (StaysWith s.sound (with_item given (CallLine true (i + 1) call) (length lines))) (sym nodes_are)
        (call_stays_sound given lines old.nodes i c call s.sound t.nodes.is short))

    keeps : KeepsHistory More lines g.sound.reads new.ledger
    keeps =
        subst (KeepsHistory More lines g.sound.reads) (sym t.ledger)
        (same_reads More lines s.sound.reads g.sound.reads (called old.ledger client call) g.reads
        (keeps_call given lines s.sound.reads old.ledger client call (omega (arith, last, s.well.clients)) s.sound.told.fit s.keeps))

    abbrev settled : IsSettled More lines new
    settled = record {
      sound = g.sound;
      keeps = keeps;
      well = record {
        works = subst HolderWorks (sym nodes_are) (call_given given old.nodes i c call s.well.works t.nodes.is);
        clients = ap (λ (n : SeenNodes). length n.clients) nodes_are ∙ set_length old.nodes.clients i (queues given c call) ∙ s.well.clients ∙ sym (ap (λ (l : SeenLedger). l.clients) t.ledger);
        few = omega (arith, s.well.few, ap entries_ahead nodes_are ∙ call_ahead given old.nodes i c call t.nodes.is, ap (λ (l : SeenLedger). l.clients) t.ledger, t.calls);
        calls = omega (arith, few, t.calls);
      };
      unfinished = t.unfinished ∙ s.unfinished;
      told = t.untold ∙ s.told;
    }

    pub takes : GoesWith s (with_item given (CallLine true client call) (length lines)) new
    takes = record { settled = settled; reads = g.reads }

  -- a client begins to commit all that it keeps
  module _ (idle : kind_at old.nodes i ≡ Some kind.Idle) (finishing : IsFinishing given lines) (f : Finishes old new client) where
    abbrev d : SeenClient
    d = f.nodes.client

    none : d.task ≡ None
    none = rests d.task d.queue (same_Some (kind_of d) kind.Idle (sym (ap (option_map kind_of) f.nodes.is) ∙ idle))

    abbrev h : StaysWith s.sound given new.nodes
    h = subst (StaysWith s.sound given) (sym f.nodes.new_is) (finishes_stay_sound given lines old.nodes i d s.sound f.nodes.is none finishing)

    abbrev settled_then : IsSettled given lines new
    settled_then = record {
      sound = h.sound;
      keeps = subst (KeepsHistory given lines h.sound.reads) (sym f.ledger) (same_reads given lines s.sound.reads h.sound.reads old.ledger h.reads s.keeps);
      well = record {
        works = subst HolderWorks (sym f.nodes.new_is) (finish_given old.nodes i d s.well.works f.nodes.is none);
        clients = ap (λ (n : SeenNodes). length n.clients) f.nodes.new_is ∙ set_length old.nodes.clients i (record (unready d) { task = new_task Finish }) ∙ s.well.clients ∙ sym (ap (λ (l : SeenLedger). l.clients) f.ledger);
        few = omega (arith, s.well.few, ap entries_ahead f.nodes.new_is ∙ finish_ahead old.nodes i d f.nodes.is, ap (λ (l : SeenLedger). l.clients) f.ledger, f.calls);
        calls = omega (arith, s.well.calls, f.calls);
      };
      unfinished = f.unfinished ∙ s.unfinished;
      told = f.untold ∙ s.told;
    }

    pub commits_all : GoesWith s given new
    commits_all = record { settled = settled_then; reads = h.reads }

-- a finish begins
pub finish_begins : {given : Given} {lines : List Outcome} {c : SeenCourse} (s : IsSettled given lines c) → GoesWith s (with_finish given (length lines)) c
finish_begins {given} {lines} {c} s =
    let g : StaysWith s.sound (with_finish given (length lines)) c.nodes = finish_stays_sound given lines c.nodes s.sound in
    record {
      settled = record {
        sound = g.sound;
        keeps = same_reads (with_finish given (length lines)) lines s.sound.reads g.sound.reads c.ledger g.reads (keeps_finish given lines s.sound.reads c.ledger (length lines) s.keeps);
        well = s.well;
        unfinished = s.unfinished;
        told = s.told;
      };
      reads = g.reads;
    }

-- a next call has a number that no call has
pub next_is_new : (given : Given) (lines : List Outcome) (c : SeenCourse) (client : ℕ) → IsSettled given lines c → call_at c.ledger.waiting client (suc (count_of c.ledger client)) ≡ None
next_is_new given lines c client s =
    s.keeps.waiting client (suc (count_of c.ledger client))
    ∙ ap (λ (n : ℕ). waits given lines client (suc n)) (s.keeps.counts client)
    ∙ by (has_final lines client (suc (length (calls_of given client)))) where
      none : call_of (script_of given) client (suc (length (calls_of given client))) ≡ None
      none = names_own given client (length (calls_of given client)) ∙ past (calls_of given client)

      by : (b : Bool) → (if b then None else call_of (script_of given) client (suc (length (calls_of given client)))) ≡ None
      by true = refl
      by false = none
