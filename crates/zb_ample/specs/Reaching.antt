-- How far the clients' logs have come, and of which calls they have nothing yet.
use Rattle.std.specs.Prelude.{◌≡◌, ℕ, ◌+◌, ◌≤◌, true, if◌then◌else◌, List, ◌++◌, length, drop, map, Option, IfSome}
use Rattle.std.specs.List.{sum_by}
use Rattle.zb_types.specs.declared.calls.Call.{Call}
use Rattle.zb_types.specs.declared.geometry.Geometry.{Geometry}
use Rattle.zb_types.specs.Apply.{is_update}
use Rattle.zb_headline.specs.Need.{weight}
use Rattle.zb_log.specs.declared.places.Place.{Place}
use Rattle.zb_log.specs.Logs.{SeenLog}
use Rattle.zb_need.specs.Filling.{HalfFull, stripes_begun}
use Rattle.zb_given.specs.Given.{Given, calls_of}
use Rattle.zb_basis.specs.declared.calls.Numbered.{Numbered}
use Rattle.zb_basis.specs.Runs.{run_of}
use Rattle.zb_work.specs.declared.work.Flushed.{Flushed}
use Rattle.zb_work.specs.declared.work.Step.{Step}
use Rattle.zb_work.specs.declared.work.Step.TheVariants.{Lookup, Fetch, Store, Mark, Commit}
use Rattle.zb_work.specs.Steps.{step_of}
use Rattle.zb_client.specs.Seen.{SeenClient}

-- how far a log has come at this step: behind the batch that is being stored, or else where the log goes on
abbrev pub reached_at : SeenLog → Step → Place
reached_at log Lookup = log.next
reached_at log (Fetch basis at ptr plan) = log.next
reached_at log (Store basis formed) = formed.sealed.placed.next
reached_at log (Mark server generation) = log.next
reached_at log (Commit basis sealed) = log.next

-- how far it has come
abbrev pub reached : SeenClient → Place
reached c = reached_at c.log (step_of c.task)

-- how many stripes each client's log has begun
abbrev pub begun_by : List SeenClient → List ℕ
begun_by clients = map (λ c. stripes_begun (reached c)) clients

-- the kept calls behind those of the next batch
abbrev pub behind_run : List Numbered → List Numbered
behind_run kept = drop (length (run_of kept)) kept

-- the calls that the log has nothing of at this step: once a batch is being stored, those behind it
abbrev pub ahead_at : List Numbered → List Numbered → Step → List Numbered
ahead_at kept queue Lookup = kept ++ queue
ahead_at kept queue (Fetch basis at ptr plan) = kept ++ queue
ahead_at kept queue (Store basis formed) = behind_run kept ++ queue
ahead_at kept queue (Mark server generation) = kept ++ queue
ahead_at kept queue (Commit basis sealed) = behind_run kept ++ queue

-- the calls of a client that its log has nothing of
abbrev pub ahead : SeenClient → List Numbered
ahead c = ahead_at c.kept c.queue (step_of c.task)

-- what a call may add to a log, where it is an update
abbrev pub load : Geometry → Call → ℕ
load geo call = if is_update call then weight geo call else 0

-- what some calls may add
abbrev pub loads : Geometry → List Call → ℕ
loads geo calls = sum_by (load geo) calls

-- what these of a client may add
abbrev pub numbered_loads : Geometry → List Numbered → ℕ
numbered_loads geo calls = sum_by (λ k. load geo k.call) calls

-- So many bytes fill half of what a client's log has come to, and they are at most what the client's updates weigh without those
-- that are ahead.
pub record IsPaid (geo : Geometry) (given : Given) (c : SeenClient) : Type 0 where
  pub bytes : ℕ
  pub half : HalfFull c.log.room (reached c) bytes
  pub within : (reached c).offset ≤ c.log.room
  pub paid : bytes + numbered_loads geo (ahead c) ≤ loads geo (calls_of given c.client)

-- but for a flush that is under way, the last one has reached its end, in this generation
abbrev pub LogGoesOn : ℕ → Option Flushed → Step → Type 0
LogGoesOn generation flushed Lookup = IfSome flushed (λ last. (last.ended ≡ true) × (last.generation ≡ generation))
LogGoesOn generation flushed (Fetch basis at ptr plan) = IfSome flushed (λ last. (last.ended ≡ true) × (last.generation ≡ generation))
LogGoesOn generation flushed (Store basis formed) = Unit {0}
LogGoesOn generation flushed (Mark server of) = IfSome flushed (λ last. (last.ended ≡ true) × (last.generation ≡ generation))
LogGoesOn generation flushed (Commit basis sealed) = IfSome flushed (λ last. (last.ended ≡ true) × (last.generation ≡ generation))
