-- Whether what a batch looked up is at the versions that the tables have now.
use Rattle.std.specs.Prelude.{ℕ, ◌+◌, ◌*◌, ◌≤◌, ◌<◌, Bool, true, false, ◌==◌, ◌&&◌, List, [], ◌∷◌, map, Option, Some, None}
use Rattle.std.specs.List.{AllByRecursion}
use Rattle.zb_types.specs.declared.tables.CommitFault.{CommitFault}
use Rattle.zb_types.specs.declared.tables.CommitFault.TheVariants.{Regen, Stale, Worn, NoMemory, Stopped}
use Rattle.zb_types.specs.declared.tables.Found.{Found}
use Rattle.zb_types.specs.Limits.{most_kept}
use Rattle.zb_tables.specs.Tables.{EachFile, Tables, last_value}
use Rattle.zb_basis.specs.declared.asks.Ask.{Ask}
use Rattle.zb_basis.specs.declared.calls.Numbered.{Numbered}
use Rattle.zb_basis.specs.Looking.{asks_of}
use Rattle.zb_basis.specs.Runs.{run_of}
use Rattle.zb_work.specs.declared.work.Step.{Step}
use Rattle.zb_work.specs.declared.work.Step.TheVariants.{Lookup, Fetch, Store, Mark, Commit}
use Rattle.zb_work.specs.Steps.{step_of}
use Rattle.zb_client.specs.Seen.{SeenClient}
use Rattle.zb_client_laws.specs.Effects.{founds}

-- the versions of what was found
abbrev pub versions_of : List Found → List ℕ
versions_of found = map (λ f. f.version) found

-- are these the same numbers, in order?
abbrev pub same_numbers : List ℕ → List ℕ → Bool
same_numbers [] [] = true
same_numbers (x ∷ xs) (y ∷ ys) = x == y && same_numbers xs ys
same_numbers xs ys = false

-- what the work at this step has looked up, none before it has
abbrev pub found_by : Step → Option (List Found)
found_by Lookup = None
found_by (Fetch basis at ptr plan) = Some basis.found
found_by (Store basis formed) = Some basis.found
found_by (Mark server generation) = None
found_by (Commit basis sealed) = Some basis.found

-- does what was found for what was asked, if anything was, have the versions that the tables have now?
abbrev pub is_now : Tables → List Ask → Option (List Found) → Bool
is_now t asks None = true
is_now t asks (Some found) = same_numbers (versions_of found) (versions_of (founds t asks))

-- is it so with the next batch of these kept calls? A read, which no version refuses, is fresh throughout
abbrev pub is_fresh_at : Tables → ℕ → List Numbered → Step → Bool
is_fresh_at t b [] step = true
is_fresh_at t b (first ∷ others) step = is_now t (asks_of b (run_of (first ∷ others))) (found_by step)

-- is what the client's work rests on at the versions that the tables have now?
abbrev pub is_fresh : Tables → SeenClient → Bool
is_fresh t c = is_fresh_at t c.block c.kept (step_of c.task)

-- no number of the tables is near its last value: a batch may raise each version by eight, and each log has a next batch, as
-- the journal has a next entry
pub record MayRise (t : Tables) : Type 0 where
  pub versions : EachFile (λ file. file.version + most_kept ≤ last_value) t.files
  pub batches : AllByRecursion (λ e. e.1.batch < last_value) t.logs
  pub entry : t.next_entry < last_value

-- At most so many entries have raised the numbers of the tables, by one each, and by eight at most the version of a file.
pub record RoseBy (entries : ℕ) (t : Tables) : Type 0 where
  pub versions : EachFile (λ file. file.version ≤ most_kept * entries) t.files
  pub batches : AllByRecursion (λ e. e.1.batch ≤ entries) t.logs
  pub entry : t.next_entry ≤ entries

-- a batch is behind a version
abbrev pub IsStale : CommitFault → Type 0
IsStale (Stale fid seen now) = Unit {0}
IsStale (Regen seen now) = ⊥
IsStale (Worn field) = ⊥
IsStale NoMemory = ⊥
IsStale Stopped = ⊥
