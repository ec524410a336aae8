-- What happens inside a client.
use Rattle.std.proofs.Common.{◌≡◌, ℕ, Bool, false, List, [], ◌∷◌, ◌++◌, length, Option, None, refl, sym, ap, subst, arith}
use Rattle.std.specs.Prelude.{◌&&◌, nat_lt}
use Rattle.std.proofs.lemmas.Bool.{cond_both}
use Rattle.zb_types.specs.Apply.{is_bufferable, is_update}
use Rattle.zb_types.specs.Limits.{most_kept}
use Rattle.zb_types.specs.Tree.{Tree}
use Rattle.zb_types.specs.declared.ids.LogId.{LogId}
use Rattle.zb_types.specs.declared.lines.Said.TheVariants as said
use Rattle.zb_log.proofs.Parting.{none_given}
use Rattle.zb_sound.specs.LastFlush.{NothingFrom, Phase, anew}
use Rattle.zb_sound.specs.LogsCurrent.{LogIsCurrent}
use Rattle.zb_sound.proofs.Placed.{none_last}
use Rattle.zb_basis.specs.declared.basis.Basis.{Basis}
use Rattle.zb_basis.specs.declared.calls.Numbered.{Numbered}
use Rattle.zb_basis.proofs.Each.{each-append}
use Rattle.zb_forming_laws.specs.Resting.{AreShort, IsShort}
use Rattle.zb_work.specs.declared.work.Aim.{Aim}
use Rattle.zb_work.specs.declared.work.Aim.TheVariants.{Update, Read}
use Rattle.zb_work.specs.declared.work.Step.{Step}
use Rattle.zb_work.specs.declared.work.Step.TheVariants as step
use Rattle.zb_work.specs.declared.work.Task.{Task}
use Rattle.zb_work.specs.Steps.{new_task, step_of}
use Rattle.zb_client.specs.Seen.{SeenClient, first_client}
use Rattle.zb_client.specs.Hearing.{keeps, takes_call, takes_first}
use Rattle.zb_client.specs.Telling.{Heard, line, silent, tells}
use Rattle.zb_client_laws.specs.Around.{Around, IsAround}
use Rattle.zb_client_laws.specs.Current.{FirstIsCurrent, WorkIsCurrent}
use Rattle.zb_client_laws.specs.Logging.{HasPhase, LogIsAtWork, RestsAt}
use Rattle.zb_client_laws.specs.Sound.{ClientIsSound, StepIsCurrent}

pub first_sound : (slots : ℕ) (w : Around) (seen : Tree) (client : ℕ) (log : LogId) → IsAround slots w
    → LogIsCurrent w.tables log client 0 None w.tables.members.generation 0 0 → NothingFrom w.st.maps log 0
    → ClientIsSound w seen (first_client w.z.servers w.z.fragment w.z.block client log)
first_sound slots w seen client log a current nothing = record {
  sizes = record { servers = refl; fragment = refl; block = refl };
  settled = refl;
  short = tt;
  short_queue = tt;
  log = record {
    last = None;
    generation = w.tables.members.generation;
    at = 0;
    front = 0;
    phase = anew;
    current = current;
    flush = record { nothing = nothing; reached = none_last 0; stands = tt };
    has = (omega arith, none_given (first_client w.z.servers w.z.fragment w.z.block client log).log (let l = a.limits.servers_low in omega arith) refl refl);
  };
  step = tt;
  cached = tt;
}

-- ---- a call more in the queue

first_on : (w : Around) (seen : Tree) (queue more : List Numbered) (basis : Basis)
    → FirstIsCurrent w.z.block w.contents w.tables seen queue basis → FirstIsCurrent w.z.block w.contents w.tables seen (queue ++ more) basis
first_on w seen [] more basis f = absurd f
first_on w seen (read ∷ rest) more basis f = f

work_on : (w : Around) (seen : Tree) (kept queue more : List Numbered) (basis : Basis)
    → WorkIsCurrent w.z.block w.contents w.tables seen kept queue basis → WorkIsCurrent w.z.block w.contents w.tables seen kept (queue ++ more) basis
work_on w seen [] queue more basis h = first_on w seen queue more basis h
work_on w seen (first ∷ others) queue more basis h = h

-- ---- a client whose log stays as it is

-- the client with other calls and other work
abbrev pub changed : SeenClient → List Numbered → List Numbered → Option Task → Bool → SeenClient
changed c kept queue task is = record c { kept = kept; queue = queue; task = task; is_ready = is }

module _ (w : Around) (seen : Tree) (c : SeenClient) (s : ClientIsSound w seen c) where
  -- what stands of its log, where it has that so
  pub log_as : (kept queue : List Numbered) (task : Option Task) (is : Bool)
      → HasPhase (changed c kept queue task is) (step_of task) s.log.generation s.log.at s.log.front s.log.phase → LogIsAtWork w (changed c kept queue task is)
  log_as kept queue task is has = record {
    last = s.log.last;
    generation = s.log.generation;
    at = s.log.at;
    front = s.log.front;
    phase = s.log.phase;
    current = s.log.current;
    flush = s.log.flush;
    has = has;
  }

  pub sound_as : (kept queue : List Numbered) (task : Option Task) (is : Bool) → AreShort kept → AreShort queue
      → HasPhase (changed c kept queue task is) (step_of task) s.log.generation s.log.at s.log.front s.log.phase
      → StepIsCurrent w seen (changed c kept queue task is) (step_of task) → ClientIsSound w seen (changed c kept queue task is)
  sound_as kept queue task is short short_queue has current = record {
    sizes = record { servers = s.sizes.servers; fragment = s.sizes.fragment; block = s.sizes.block };
    settled = s.settled;
    short = short;
    short_queue = short_queue;
    log = log_as kept queue task is has;
    step = current;
    cached = s.cached;
  }

  phase_as : (queue : List Numbered) (is : Bool) (st : Step) (g a f : ℕ) (p : Phase) → HasPhase c st g a f p → HasPhase (changed c c.kept queue c.task is) st g a f p
  phase_as queue is step.Lookup g a f p h = h
  phase_as queue is (step.Fetch basis at ptr plan) g a f p h = h
  phase_as queue is (step.Store basis formed) g a f p h = h
  phase_as queue is (step.Mark server generation) g a f p h = h
  phase_as queue is (step.Commit basis sealed) g a f p h = h

  step_on : (more : List Numbered) (is : Bool) (st : Step) → StepIsCurrent w seen c st → StepIsCurrent w seen (changed c c.kept (c.queue ++ more) c.task is) st
  step_on more is step.Lookup h = h
  step_on more is (step.Fetch basis at ptr plan) h = (work_on w seen c.kept c.queue more basis h.0, h.1)
  step_on more is (step.Store basis formed) h = h
  step_on more is (step.Mark server generation) h = h
  step_on more is (step.Commit basis sealed) h = h

  step_as : (is : Bool) (st : Step) → StepIsCurrent w seen c st → StepIsCurrent w seen (changed c c.kept c.queue c.task is) st
  step_as is step.Lookup h = h
  step_as is (step.Fetch basis at ptr plan) h = h
  step_as is (step.Store basis formed) h = h
  step_as is (step.Mark server generation) h = h
  step_as is (step.Commit basis sealed) h = h

  pub push_sound : (call : Numbered) → IsShort call.call → ClientIsSound w seen (changed c c.kept (c.queue ++ call ∷ []) c.task false)
  push_sound call short =
      sound_as c.kept (c.queue ++ call ∷ []) c.task false s.short (each-append (λ k. IsShort k.call) c.queue (call ∷ []) s.short_queue (short, tt))
      (phase_as (c.queue ++ call ∷ []) false (step_of c.task) s.log.generation s.log.at s.log.front s.log.phase s.log.has)
      (step_on (call ∷ []) false (step_of c.task) s.step)

  pub ready_sound : (is : Bool) → ClientIsSound w seen (changed c c.kept c.queue c.task is)
  ready_sound is =
      sound_as c.kept c.queue c.task is s.short s.short_queue
      (phase_as c.queue is (step_of c.task) s.log.generation s.log.at s.log.front s.log.phase s.log.has) (step_as is (step_of c.task) s.step)

  -- with other work, which begins with a lookup, where the log rests
  pub rested : (kept queue : List Numbered) (task : Option Task) (is : Bool) → RestsAt c.log c.flushed s.log.generation s.log.at s.log.front s.log.phase
      → step_of task ≡ step.Lookup → AreShort kept → AreShort queue → ClientIsSound w seen (changed c kept queue task is)
  rested kept queue task is rests e short short_queue =
      sound_as kept queue task is short short_queue
      (subst (λ (st : Step). HasPhase (changed c kept queue task is) st s.log.generation s.log.at s.log.front s.log.phase) (sym e) rests)
      (subst (λ (st : Step). StepIsCurrent w seen (changed c kept queue task is) st) (sym e) tt)

  module _ (none : c.task ≡ None) where
    pub rests_none : RestsAt c.log c.flushed s.log.generation s.log.at s.log.front s.log.phase
    rests_none = subst (λ (t : Option Task). HasPhase c (step_of t) s.log.generation s.log.at s.log.front s.log.phase) none s.log.has

    pub begin_sound : (aim : Aim) → ClientIsSound w seen (changed c c.kept c.queue (new_task aim) false)
    begin_sound aim = rested c.kept c.queue (new_task aim) false rests_none refl s.short s.short_queue

    taken : (queue : List Numbered) → AreShort queue → ClientIsSound w seen (takes_first c queue).client
    taken [] short = ready_sound false
    taken (call ∷ rest) short =
        let kept = c.kept ++ call ∷ [] in
        let longer : AreShort kept = each-append (λ k. IsShort k.call) c.kept (call ∷ []) s.short (short.0, tt) in
        let with : SeenClient = record c { kept = kept; queue = rest } in
        cond_both (is_update call.call) (keeps with call) (silent (record c { task = new_task Read })) (λ (h : Heard). ClientIsSound w seen h.client)
        (λ _. cond_both (is_bufferable call.call && nat_lt (length kept) most_kept) (tells with (line with call.number said.Buffered ∷ [])) (silent (record with { task = new_task (Update call.number) }))
        (λ (h : Heard). ClientIsSound w seen h.client)
        (λ _. rested kept rest c.task false rests_none (ap step_of none) longer short.1)
        (λ _. rested kept rest (new_task (Update call.number)) false rests_none refl longer short.1))
        (λ _. begin_sound Read)

    pub taken_sound : ClientIsSound w seen (takes_call c).client
    taken_sound = taken c.queue s.short_queue
