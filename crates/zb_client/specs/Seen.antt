-- What contracts see of a client.
use Rattle.std.specs.Prelude.{◌≡◌, ℕ, ◌+◌, ◌-◌, ◌*◌, ◌^◌, ◌≤◌, min, Bool, true, false, nat_lt, ◌==◌, if◌then◌else◌, List, [], ◌∷◌, length, drop, All, Option, Some, None, IfSome}
use Rattle.zb_types.specs.declared.ids.LogId.{LogId}
use Rattle.zb_types.specs.declared.lines.Outcome.{Outcome}
use Rattle.zb_types.specs.declared.lines.Kind.{Kind}
use Rattle.zb_types.specs.declared.lines.Kind.TheVariants as kind
use Rattle.zb_types.specs.Apply.{is_update}
use Rattle.zb_log.specs.Places.{place}
use Rattle.zb_log.specs.Logs.{SeenLog}
use Rattle.zb_cache.specs.Entries.{SeenCache}
use Rattle.zb_basis.specs.declared.calls.Numbered.{Numbered}
use Rattle.zb_work.specs.declared.work.Task.{Task}
use Rattle.zb_work.specs.declared.work.Step.{Step}
use Rattle.zb_work.specs.declared.work.Flushed.{Flushed}
use Rattle.zb_work.specs.Steps.{kind_of_step, with_step, aim_of, next_task}
use Rattle.zb_work.specs.Fitting.{TaskFits}
pub use Rattle.zb_steps.specs.Desks.{most_cached, IsLogOf, HasGiven}

-- The sizes of the system, the client's number, its log, the number of its next batch, the calls that it keeps and
-- that are queued, its work, its last flush, how many of the first kept calls are in doubt, the blocks that it fetched
-- last, and whether it has the memory for the step that stands.
pub record SeenClient : Type 0 where
  pub servers : ℕ
  pub fragment : ℕ
  pub block : ℕ
  pub client : ℕ
  pub log : SeenLog
  pub batch : ℕ
  pub kept : List Numbered
  pub queue : List Numbered
  pub task : Option Task
  pub flushed : Option Flushed
  pub doubted : ℕ
  pub cache : SeenCache
  pub is_ready : Bool

-- the kind of the next step, where calls are queued
abbrev pub kind_of_task : Option Task → List Numbered → Kind
kind_of_task (Some task) queue = kind_of_step task.step
kind_of_task None [] = kind.Idle
kind_of_task None (call ∷ calls) = kind.Call

-- the kind of the next step
abbrev pub kind_of : SeenClient → Kind
kind_of c = kind_of_task c.task c.queue

-- the memory for the next step is no longer there
abbrev pub unready : SeenClient → SeenClient
unready c = record c { is_ready = false }

-- the same work, at this step
abbrev pub at_step : SeenClient → Step → SeenClient
at_step c step = record c { task = with_step step c.task }

-- the number of the batch in doubt
abbrev pub in_doubt : SeenClient → Option ℕ
in_doubt c = if c.doubted == 0 then None else Some c.batch

-- a client that keeps nothing, and whose log begins at stripe 0
abbrev pub first_client : ℕ → ℕ → ℕ → ℕ → LogId → SeenClient
first_client servers fragment block client log = record {
  servers = servers;
  fragment = fragment;
  block = block;
  client = client;
  log = record { log = log; servers = servers; fragment = fragment; room = (servers - 1) * fragment; block = block; next = place 0 0; parity = [] };
  batch = 1;
  kept = [];
  queue = [];
  task = None;
  flushed = None;
  doubted = 0;
  cache = record { entries = []; room = most_cached };
  is_ready = false;
}

-- the first so many kept calls are committed, and the next batch or the read is at work
abbrev pub leaves : SeenClient → ℕ → SeenClient
leaves c n = record c {
  kept = drop n c.kept;
  batch = min (c.batch + 1) (2 ^ 64 - 1);
  task = next_task (aim_of c.task) (nat_lt 0 (length (drop n c.kept)));
}

-- the doubt is over: the batch in doubt was committed, or its calls stay kept
abbrev pub settled : SeenClient → Bool → SeenClient
settled c true = record (unready (leaves c c.doubted)) { doubted = 0 }
settled c false = record (unready c) { doubted = 0 }

-- What is true of each client: it keeps updates, those in doubt among them; its work is for them, and while a batch is in
-- doubt it is no further than at a lookup.
pub record IsKept (n f b : ℕ) (log : SeenLog) (kept queue : List Numbered) (task : Option Task) (doubted : ℕ) : Type 0 where
  pub updates : All (λ call. is_update call.call ≡ true) kept
  pub in_doubt : doubted ≤ length kept
  pub work : TaskFits n f b log kept queue doubted task

-- there is room for a line of each kept call and one more
pub record HasRoom (kept : ℕ) (spare : Option (List Outcome)) (room : Option ℕ) : Type 0 where
  pub empty : IfSome spare (λ lines. lines ≡ [])
  pub lines : IfSome room (λ n. kept + 1 ≤ n)
