-- What may answer the wish that stands, by the work.
use Rattle.std.proofs.Common.{◌≡◌, ℕ, List, [], ◌∷◌, Option, Some, None, refl}
use Rattle.zb_types.specs.declared.requests.Response.{Response}
use Rattle.zb_types.specs.declared.tables.Found.{Found}
use Rattle.zb_basis.specs.Looking.{room_of}
use Rattle.zb_work.specs.declared.work.Task.{Task}
use Rattle.zb_work.specs.declared.work.Step.{Step}
use Rattle.zb_work.specs.declared.work.Step.TheVariants.{Lookup, Fetch, Store, Mark, Commit}
use Rattle.zb_work.specs.Steps.{step_of}
use Rattle.zb_work.specs.Fitting.{FoundFor, wanted_for}
use Rattle.zb_client.specs.declared.steps.Answer.TheVariants as answer
use Rattle.zb_client.specs.declared.steps.Lookup.{Lookup as LookupOf}
use Rattle.zb_client.specs.declared.steps.Lookup.TheVariants.{Files, Names}
use Rattle.zb_client.specs.Seen.{SeenClient}
use Rattle.zb_client.specs.Telling.{Heard}
use Rattle.zb_client.specs.Wishing.{lookup_of}
use Rattle.zb_client.specs.Answering.{AnswersLookup, AnswersStep, AnswersTask, CanServe}
use Rattle.zb_client.specs.Hearing.{HearsStep, HearsTask, GoesOn, asks, looked_up}
use Rattle.zb_client.specs.Working.{HearsServer}

-- what was found is for the lookup that stands
pub record IsFound (c : SeenClient) (task : Option Task) (found : List Found) : Type 0 where
  pub looks : step_of task ≡ Lookup
  pub is_for : FoundFor c.block (room_of c.servers c.fragment) c.kept c.queue found
  pub settled : c.doubted ≡ 0

found_by : (c : SeenClient) (lookup : LookupOf) (task : Task) (found : List Found) → task.step ≡ Lookup → AnswersLookup c lookup (answer.Found found) → IsFound c (Some task) found
found_by c (Files hold asks) task found s h = record { looks = s; is_for = h.0; settled = h.1 }
found_by c (Names call) task found s h = absurd h

found_step : (c : SeenClient) (task : Task) (step : Step) (found : List Found) → task.step ≡ step → AnswersStep c task.tries step (answer.Found found) → IsFound c (Some task) found
found_step c task Lookup found s h = found_by c (lookup_of c task.tries c.kept) task found s h
found_step c task (Fetch basis at ptr plan) found s h = absurd h
found_step c task (Store basis formed) found s h = absurd h
found_step c task (Mark server generation) found s h = absurd h
found_step c task (Commit basis sealed) found s h = absurd h

pub found_answers : (c : SeenClient) (task : Option Task) (found : List Found) → AnswersTask c task (answer.Found found) → IsFound c task found
found_answers c None found h = absurd h
found_answers c (Some task) found h = found_step c task task.step found refl h

hears_found : (c : SeenClient) (tries : ℕ) (step : Step) (found : List Found) (heard : Heard) → AnswersStep c tries step (answer.Found found)
    → GoesOn (asks c (wanted_for c.block c.kept c.queue found)) (looked_up c found) heard → HearsStep c step (answer.Found found) heard
hears_found c tries Lookup found heard a h = h
hears_found c tries (Fetch basis at ptr plan) found heard a h = absurd a
hears_found c tries (Store basis formed) found heard a h = absurd a
hears_found c tries (Mark server generation) found heard a h = absurd a
hears_found c tries (Commit basis sealed) found heard a h = absurd a

pub found_hears : (c : SeenClient) (task : Option Task) (found : List Found) (heard : Heard) → AnswersTask c task (answer.Found found)
    → GoesOn (asks c (wanted_for c.block c.kept c.queue found)) (looked_up c found) heard → HearsTask c task (answer.Found found) heard
found_hears c None found heard a h = absurd a
found_hears c (Some task) found heard a h = hears_found c task.tries task.step found heard a h

serves_step : (c : SeenClient) (tries : ℕ) (step : Step) (response : Response) (serving : ℕ) → AnswersStep c tries step (answer.Server response serving) → CanServe step response
serves_step c tries Lookup response serving h = never (lookup_of c tries c.kept) h
  where
    never : (lookup : LookupOf) → AnswersLookup c lookup (answer.Server response serving) → CanServe Lookup response
    never (Files hold asks) a = absurd a
    never (Names call) a = absurd a
serves_step c tries (Fetch basis at ptr plan) response serving h = h
serves_step c tries (Store basis formed) response serving h = h
serves_step c tries (Mark server generation) response serving h = absurd h
serves_step c tries (Commit basis sealed) response serving h = absurd h

-- the response is one to the request that stands
pub server_answers : (c : SeenClient) (task : Option Task) (response : Response) (serving : ℕ) → AnswersTask c task (answer.Server response serving) → CanServe (step_of task) response
server_answers c None response serving h = absurd h
server_answers c (Some task) response serving h = serves_step c task.tries task.step response serving h

hears_server : (c : SeenClient) (step : Step) (response : Response) (serving : ℕ) (heard : Heard) → CanServe step response → HearsServer c step response serving heard → HearsStep c step (answer.Server response serving) heard
hears_server c Lookup response serving heard a h = absurd a
hears_server c (Fetch basis at ptr plan) response serving heard a h = h
hears_server c (Store basis formed) response serving heard a h = h
hears_server c (Mark server generation) response serving heard a h = absurd a
hears_server c (Commit basis sealed) response serving heard a h = absurd a

pub server_hears : (c : SeenClient) (task : Option Task) (response : Response) (serving : ℕ) (heard : Heard) → AnswersTask c task (answer.Server response serving) → HearsServer c (step_of task) response serving heard
    → HearsTask c task (answer.Server response serving) heard
server_hears c None response serving heard a h = absurd a
server_hears c (Some task) response serving heard a h = hears_server c task.step response serving heard (serves_step c task.tries task.step response serving a) h
