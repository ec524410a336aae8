-- How a client's work goes on, told as what the client hears.
use Rattle.std.proofs.Common.{◌≡◌, ℕ, Bool, true, false, List, [], ◌∷◌, Option, Some, None, refl, ap, sym, subst, ◌∙◌}
use Rattle.std.specs.Prelude.{◌||◌, if◌then◌else◌}
use Rattle.std.specs.Bool.{MatchBool}
use Rattle.zb_types.specs.declared.ids.Ptr.{Ptr}
use Rattle.zb_types.specs.declared.ids.ServerId.{ServerId}
use Rattle.zb_types.specs.declared.nodes.Cause.{Cause}
use Rattle.zb_types.specs.declared.nodes.Cause.TheVariants.{Unreachable}
use Rattle.zb_types.specs.declared.lines.Said.{Said}
use Rattle.zb_types.specs.declared.lines.Said.TheVariants as said
use Rattle.zb_types.specs.declared.requests.Response.{Response}
use Rattle.zb_types.specs.declared.tables.Found.{Found}
use Rattle.zb_stripe.specs.declared.read_plan.Got.{Got}
use Rattle.zb_stripe.specs.declared.read_plan.Got.TheVariants as got
use Rattle.zb_stripe.specs.declared.write_plan.Fed.{Fed}
use Rattle.zb_stripe.specs.declared.write_plan.Fed.TheVariants as fed
use Rattle.zb_stripe.specs.Reading.{Reading, fed as read_fed}
use Rattle.zb_stripe.specs.Feeding.{fed_by}
use Rattle.zb_log.specs.Logs.{SeenLog}
use Rattle.zb_basis.specs.declared.calls.Numbered.{Numbered}
use Rattle.zb_basis.specs.declared.basis.Basis.{Basis}
use Rattle.zb_basis.specs.declared.basis.Formed.{Formed}
use Rattle.zb_basis.specs.Runs.{run_of}
use Rattle.zb_basis.specs.Forming.{IsFormed}
use Rattle.zb_work.specs.declared.work.Task.{Task}
use Rattle.zb_work.specs.declared.work.Aim.{Aim}
use Rattle.zb_work.specs.declared.work.Aim.TheVariants.{Update, Read, Finish}
use Rattle.zb_work.specs.declared.work.Step.{Step}
use Rattle.zb_work.specs.declared.work.Step.TheVariants.{Lookup, Fetch, Store, Mark, Commit}
use Rattle.zb_work.specs.Steps.{with_step, step_of, first_members}
use Rattle.zb_work.specs.Blocks.{next_missing}
use Rattle.zb_work.specs.Fitting.{StepFits}
use Rattle.zb_steps.specs.declared.next.Next.{Next}
use Rattle.zb_steps.specs.declared.next.Next.TheVariants as next
use Rattle.zb_steps.specs.Going as going
use Rattle.zb_steps.specs.Going.{Onward, NextFits}
use Rattle.zb_steps.specs.Serving.{CanServe, unreached, flushes, stores_on}
use Rattle.zb_steps.specs.Serving as given
use Rattle.zb_client.specs.Seen.{SeenClient, at_step}
use Rattle.zb_client.specs.Telling.{Heard, silent, looks_anew, gives_up, gives_up_aim, answers_first, answers_read}
use Rattle.zb_client.specs.Hearing.{log_for, RepliesFirst, HasAll, GoesOnAt, GoesOn, HearsGot, CannotGo, WearsGot, caches, notes, goes_on_storing, hears_unreachable, is_whole, with_block, serves}
use Rattle.zb_client.specs.Working.{HearsServer, WearsServer, MayGoOn, desk_of, with_desk, goes_so, heard_of}

-- the work goes on as the client's

replies_heard : (c : SeenClient) (basis : Basis) (queue : List Numbered) (on : Onward) → c.queue ≡ queue → going.RepliesFirst (desk_of c) queue basis on → RepliesFirst c basis queue (heard_of c on)
replies_heard c basis [] on q h = absurd h
replies_heard c basis (read ∷ rest) on q h = record { reply = h.reply; right = h.right; is = ap (heard_of c) h.is }

all_heard : (c : SeenClient) (basis : Basis) (kept : List Numbered) (on : Onward) → c.kept ≡ kept → going.HasAll (desk_of c) kept c.queue basis on → HasAll c basis kept (heard_of c on)
all_heard c basis [] on k h = replies_heard c basis c.queue on refl h
all_heard c basis (first ∷ others) on k h = record {
  formed = h.formed;
  is_formed = subst (λ (ks : List Numbered). IsFormed c.servers c.fragment c.block (log_for c basis) c.batch (first_members basis.found) (run_of ks) basis h.formed) (sym k) h.is_formed;
  is = ap (heard_of c) h.is;
}

at_heard : (c : SeenClient) (basis : Basis) (m : Option (ℕ × Ptr)) (on : Onward) → going.GoesOnAt (desk_of c) c.kept c.queue basis m on → GoesOnAt c basis m (heard_of c on)
at_heard c basis None on h = all_heard c basis c.kept on refl h
at_heard c basis (Some m) on h = ap (heard_of c) h

-- with what is there the work goes on
pub goes_heard : (c : SeenClient) (basis : Basis) (on : Onward) → going.GoesOn (desk_of c) c.kept c.queue basis on → GoesOn c basis (heard_of c on)
goes_heard c basis on h = at_heard c basis (next_missing basis.fetched) on h

-- a server's response

lost_heard : (c : SeenClient) (a b : ServerId) (serving : ℕ) (t : Bool)
    → goes_so c (if t then next.Step Lookup else next.Stuck (Unreachable a b)) ≡ (if t then looks_anew c else gives_up c (Unreachable a b))
lost_heard c a b serving true = refl
lost_heard c a b serving false = refl

bytes_heard : (c : SeenClient) (basis : Basis) (at : ℕ) (ptr : Ptr) (bytes : List ℕ) (on : Onward) (t : Bool)
    → MatchBool t (going.GoesOn (going.caches (desk_of c) ptr bytes) c.kept c.queue (with_block basis at ptr bytes) on) (on ≡ going.steps (desk_of c) Lookup)
    → MatchBool t (GoesOn (caches c ptr bytes) (with_block basis at ptr bytes) (heard_of c on)) (heard_of c on ≡ looks_anew c)
bytes_heard c basis at ptr bytes on true h = goes_heard (caches c ptr bytes) (with_block basis at ptr bytes) on h
bytes_heard c basis at ptr bytes on false h = ap (heard_of c) h

got_heard : (c : SeenClient) (basis : Basis) (at : ℕ) (ptr : Ptr) (plan : Reading) (serving : ℕ) (came : Got) (on : Onward) → given.GotGives (desk_of c) c.kept c.queue basis at ptr plan serving came on
    → HearsGot c basis at ptr plan serving came (heard_of c on)
got_heard c basis at ptr plan serving got.More on h = ap (heard_of c) h
got_heard c basis at ptr plan serving (got.Bytes bytes) on h = bytes_heard c basis at ptr bytes on (is_whole ptr bytes) h
got_heard c basis at ptr plan serving (got.Unreachable a b) on h = ap (heard_of c) h ∙ lost_heard c a b serving (serves serving a || serves serving b)
got_heard c basis at ptr plan serving got.Gone on h = ap (heard_of c) h
got_heard c basis at ptr plan serving (got.Old now) on h = ap (heard_of c) h

stored_heard : (c : SeenClient) (basis : Basis) (formed : Formed) (response : Response) (at came : Fed)
    → heard_of c (stores_on (given.notes (desk_of c) formed at) basis formed response came) ≡ goes_on_storing (notes c formed at) basis formed response came
stored_heard c basis formed response at fed.More = refl
stored_heard c basis formed response at fed.Done = refl
stored_heard c basis formed response at (fed.Down server) = refl
stored_heard c basis formed response at (fed.NoSpace server free) = refl
stored_heard c basis formed response at (fed.Old now) = refl
stored_heard c basis formed response at fed.NoMemory = refl

server_heard_at : (c : SeenClient) (step : Step) (response : Response) (serving : ℕ) (on : Onward) → given.ServerGives (desk_of c) c.kept c.queue step response serving on → HearsServer c step response serving (heard_of c on)
server_heard_at c (Fetch basis at ptr plan) response serving on h = got_heard c basis at ptr (read_fed plan response).0 serving (read_fed plan response).1 on h
server_heard_at c (Store basis formed) response serving on h = ap (heard_of c) h ∙ stored_heard c basis formed response (fed_by formed.plan response) (fed_by formed.plan response)
server_heard_at c Lookup response serving on h = absurd h
server_heard_at c (Mark server generation) response serving on h = absurd h
server_heard_at c (Commit basis sealed) response serving on h = absurd h

-- the step that was taken out doesn't matter

abbrev with_task : SeenClient → Option Task → SeenClient
with_task c t = record c { task = t }

step_again : (s x : Step) (t : Option Task) → with_step s (with_step x t) ≡ with_step s t
step_again s x None = refl
step_again s x (Some task) = refl

first_again : (c : SeenClient) (t u : Option Task) (queue : List Numbered) (what : Said) → answers_first (with_task c t) queue what ≡ answers_first (with_task c u) queue what
first_again c t u [] what = refl
first_again c t u (read ∷ rest) what = refl

aim_again : (c : SeenClient) (t u : Option Task) (aim : Aim) (cause : Cause) → gives_up_aim (with_task c t) aim cause ≡ gives_up_aim (with_task c u) aim cause
aim_again c t u (Update number) cause = refl
aim_again c t u Read cause = first_again c t u c.queue (said.Failed cause)
aim_again c t u Finish cause = refl

up_again : (c : SeenClient) (x : Step) (t : Option Task) (cause : Cause) → gives_up (with_task c (with_step x t)) cause ≡ gives_up (with_task c t) cause
up_again c x None cause = refl
up_again c x (Some task) cause = aim_again c (with_step x (Some task)) (Some task) task.aim cause

so_again : (c : SeenClient) (x : Step) (n : Next) → goes_so (with_task c (with_step x c.task)) n ≡ goes_so c n
so_again c x (next.Step step) = ap (λ (t : Option Task). silent (with_task c t)) (step_again step x c.task)
so_again c x (next.Reply reply) = first_again c (with_step x c.task) c.task c.queue (said.Reply reply)
so_again c x (next.Stuck cause) = up_again c x c.task cause

-- the response to the step that was taken out is heard
pub server_heard : (c : SeenClient) (new : Option Task) (step : Step) (response : Response) (serving : ℕ) (on : Onward) (heard : Heard) → new ≡ with_step Lookup c.task → step ≡ step_of c.task
    → given.ServerGives (desk_of c) c.kept c.queue step response serving on → goes_so (with_task (with_desk c on.desk) new) on.next ≡ heard → HearsServer c (step_of c.task) response serving heard
server_heard c new step response serving on heard n s h e =
    let again : heard ≡ heard_of c on = sym e ∙ (ap (λ (t : Option Task). goes_so (with_task (with_desk c on.desk) t) on.next) n ∙ so_again (with_desk c on.desk) Lookup on.next) in
    subst (λ (st : Step). HearsServer c st response serving heard) s (subst (HearsServer c step response serving) (sym again) (server_heard_at c step response serving on h))

back_in : (t : Option Task) → with_step (step_of t) (with_step Lookup t) ≡ t
back_in None = refl
back_in (Some task) = refl

-- the step that was taken out, and put back
pub put_back : (t taken new : Option Task) (step back : Step) → taken ≡ with_step Lookup t → step ≡ step_of t → back ≡ step → new ≡ with_step back taken → new ≡ t
put_back t taken new step back k s b n = n ∙ (ap (λ (u : Option Task). with_step back u) k ∙ (ap (λ (st : Step). with_step st (with_step Lookup t)) (b ∙ s) ∙ back_in t))

got_wears : (c : SeenClient) (basis : Basis) (at : ℕ) (ptr : Ptr) (came : Got) → given.GotWears (desk_of c) c.kept basis at ptr came → WearsGot c basis at ptr came
got_wears c basis at ptr got.More h = absurd h
got_wears c basis at ptr (got.Bytes bytes) h = h
got_wears c basis at ptr (got.Unreachable a b) h = absurd h
got_wears c basis at ptr got.Gone h = absurd h
got_wears c basis at ptr (got.Old now) h = absurd h

wears_at : (c : SeenClient) (step : Step) (response : Response) → given.ServerWears (desk_of c) c.kept step response → WearsServer c step response
wears_at c (Fetch basis at ptr plan) response h = got_wears c basis at ptr (read_fed plan response).1 h
wears_at c (Store basis formed) response h = absurd h
wears_at c Lookup response h = absurd h
wears_at c (Mark server generation) response h = absurd h
wears_at c (Commit basis sealed) response h = absurd h

-- a response with which the batch cannot go
pub server_wears : (c : SeenClient) (step : Step) (response : Response) → step ≡ step_of c.task → given.ServerWears (desk_of c) c.kept step response → WearsServer c (step_of c.task) response
server_wears c step response s h = subst (λ (st : Step). WearsServer c st response) s (wears_at c step response h)

-- while a request stands no batch is in doubt
pub settled_by : (n f b : ℕ) (log : SeenLog) (kept queue : List Numbered) (doubted : ℕ) (step : Step) (response : Response) → StepFits n f b log kept queue doubted step → CanServe step response → doubted ≡ 0
settled_by n f b log kept queue doubted (Fetch basis at ptr plan) response h can = h.0.rests.settled
settled_by n f b log kept queue doubted (Store basis formed) response h can = h.settled
settled_by n f b log kept queue doubted Lookup response h can = absurd can
settled_by n f b log kept queue doubted (Mark server generation) response h can = absurd can
settled_by n f b log kept queue doubted (Commit basis sealed) response h can = absurd can

-- the work may go on so
pub may_go : (c : SeenClient) (n : Next) → c.doubted ≡ 0 → NextFits (desk_of c) c.kept c.queue n → MayGoOn c n
may_go c (next.Step step) d h = subst (λ (k : ℕ). StepFits c.servers c.fragment c.block c.log c.kept c.queue k step) (sym d) h
may_go c (next.Reply reply) d h = tt
may_go c (next.Stuck cause) d h = tt
