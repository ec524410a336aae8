-- A client's row of the step table, where its step is known.
use Rattle.std.proofs.Common.{◌≡◌, ℕ, Option, Some, Result, Ok, Err, sym, subst}
use Rattle.std.specs.Prelude.{IfErr, OnErr}
use Rattle.zb_types.specs.declared.requests.Response.{Response}
use Rattle.zb_types.specs.declared.requests.Response.TheVariants as told
use Rattle.zb_types.specs.declared.requests.StoreFault.TheVariants as fault
use Rattle.zb_holding.specs.Rules.{Holdings, IsAnswer}
use Rattle.zb_types.specs.declared.requests.Request.{Request}
use Rattle.zb_work.specs.declared.work.Step.{Step}
use Rattle.zb_work.specs.declared.work.Task.{Task}
use Rattle.zb_client.specs.declared.steps.Answer.{Answer}
use Rattle.zb_client.specs.Answering.{Answers, AnswersStep, AnswersTask, HasMemory}
use Rattle.zb_client.specs.Hearing.{Hears, HearsStep, HearsTask}
use Rattle.zb_client.specs.Seen.{SeenClient}
use Rattle.zb_client.specs.Telling.{Heard}
use Rattle.zb_client_laws.specs.Known.{IsKnown}
use Rattle.zb_servers_laws.proofs.WriteAnswers.{IsUp, is_up}
use Rattle.zb_system.specs.Nodes.{SeenNodes, readied}
use Rattle.zb_system.specs.Steps.{Does, DoesStep}

module _ (c : SeenClient) (task : Task) (step : Step) (is : c.task ≡ Some task) (at : task.step ≡ step) where
  -- what may be answered
  pub answers_at : (a : Answer) → AnswersStep c task.tries step a → Answers c a
  answers_at a may = subst (λ (t : Option Task). AnswersTask c t a) (sym is) (subst (λ (s : Step). AnswersStep c task.tries s a) (sym at) may)

  -- what an answer makes of it
  pub hears_at : (a : Answer) (heard : Heard) → Hears c a heard → HearsStep c step a heard
  hears_at a heard hears = subst (λ (s : Step). HearsStep c s a heard) at (subst (λ (t : Option Task). HearsTask c t a heard) is hears)

  -- what it does among the nodes
  pub does_at : (old new : SeenNodes) (heard : Heard) → DoesStep old new c task step heard → Does old new c c.task heard
  does_at old new heard does = subst (λ (t : Option Task). Does old new c t heard) (sym is) (subst (λ (s : Step). DoesStep old new c task s heard) (sym at) does)

-- a server that is up and has memory doesn't want it
up_has_memory : (response : Response) → IsUp response → HasMemory response
up_has_memory (told.Refused fault.NoMemory) up = up
up_has_memory (told.Refused fault.NoFragment) up = tt
up_has_memory (told.Refused fault.Exists) up = tt
up_has_memory (told.Refused (fault.Offset len)) up = tt
up_has_memory (told.Refused (fault.Short len)) up = tt
up_has_memory (told.Refused (fault.NoSlot free)) up = tt
up_has_memory (told.Refused (fault.OldGeneration now)) up = tt
up_has_memory (told.Refused fault.Stopped) up = tt
up_has_memory told.Done up = tt
up_has_memory (told.Bytes bytes) up = tt
up_has_memory (told.Parity lengths bytes) up = tt
up_has_memory (told.Ids ids) up = tt
up_has_memory told.Down up = tt
up_has_memory told.Blank up = tt

-- an answer by the rules has memory
pub answer_has_memory : (has : Holdings) (generation : ℕ) (request : Request) (response : Response) → IsAnswer has generation request response → HasMemory response
answer_has_memory has generation request response answer = up_has_memory response (is_up has generation request response answer)

-- what is so anyway
pub on_err_too : {T E P : Type 0} (r : Result T E) → P → OnErr r P
on_err_too (Ok x) p = tt
on_err_too (Err e) p = p
