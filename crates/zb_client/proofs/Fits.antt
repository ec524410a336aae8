-- What is true of a client's work stays so.
use Rattle.std.proofs.Common.{◌≡◌, ℕ, zero, suc, ◌≤◌, Bool, true, false, List, [], ◌∷◌, ◌++◌, length, Option, refl, sym, subst, ◌∙◌, arith}
use Rattle.zb_types.specs.declared.ids.Ptr.{Ptr}
use Rattle.zb_types.specs.declared.tables.Found.{Found}
use Rattle.zb_log.specs.Logs.{SeenLog}
use Rattle.zb_basis.specs.declared.calls.Numbered.{Numbered}
use Rattle.zb_basis.specs.declared.basis.Basis.{Basis}
use Rattle.zb_basis.specs.Looking.{room_of}
use Rattle.zb_work.specs.declared.work.Task.{Task}
use Rattle.zb_work.specs.declared.work.Step.{Step}
use Rattle.zb_work.specs.declared.work.Step.TheVariants.{Lookup, Fetch, Store, Mark, Commit}
use Rattle.zb_work.specs.Steps.{step_of}
use Rattle.zb_work.specs.Blocks.{AreSlots}
use Rattle.zb_work.specs.Fitting.{FoundFor, wanted_for, Rests, StepFits}
use Rattle.zb_types.specs.declared.calls.Reply.{Reply}
use Rattle.zb_basis.specs.Runs.{is_alone, company, run_of}
use Rattle.zb_client.specs.Answering.{CanCommit}
use Rattle.zb_client.specs.Seen.{IsKept}

found_pushed : (b room : ℕ) (kept queue : List Numbered) (x : Numbered) (found : List Found) → FoundFor b room kept queue found → FoundFor b room kept (queue ++ x ∷ []) found
found_pushed b room [] [] x found h = absurd h
found_pushed b room [] (read ∷ rest) x found h = h
found_pushed b room (first ∷ others) queue x found h = h

wanted_pushed : (b room : ℕ) (kept queue : List Numbered) (x : Numbered) (found : List Found) → FoundFor b room kept queue found → wanted_for b kept (queue ++ x ∷ []) found ≡ wanted_for b kept queue found
wanted_pushed b room [] [] x found h = absurd h
wanted_pushed b room [] (read ∷ rest) x found h = refl
wanted_pushed b room (first ∷ others) queue x found h = refl

rests_pushed : (n f b : ℕ) (kept queue : List Numbered) (x : Numbered) (doubted : ℕ) (basis : Basis) → Rests n f b kept queue doubted basis → Rests n f b kept (queue ++ x ∷ []) doubted basis
rests_pushed n f b kept queue x doubted basis h = record {
  settled = h.settled;
  found = found_pushed b (room_of n f) kept queue x basis.found h.found;
  slots = subst (λ (ws : List Ptr). AreSlots (room_of n f) ws basis.fetched) (sym (wanted_pushed b (room_of n f) kept queue x basis.found h.found)) h.slots;
}

step_pushed : (n f b : ℕ) (log : SeenLog) (kept queue : List Numbered) (x : Numbered) (doubted : ℕ) (step : Step) → StepFits n f b log kept queue doubted step → StepFits n f b log kept (queue ++ x ∷ []) doubted step
step_pushed n f b log kept queue x doubted Lookup h = tt
step_pushed n f b log kept queue x doubted (Fetch basis at ptr plan) h = (record { rests = rests_pushed n f b kept queue x doubted basis h.0.rests; missing = h.0.missing }, h.1)
step_pushed n f b log kept queue x doubted (Store basis formed) h = h
step_pushed n f b log kept queue x doubted (Mark server generation) h = h
step_pushed n f b log kept queue x doubted (Commit basis sealed) h = h

-- a call was queued
pub kept_pushed : (n f b : ℕ) (log : SeenLog) (kept queue new : List Numbered) (x : Numbered) (task : Option Task) (doubted : ℕ) → IsKept n f b log kept queue task doubted → new ≡ queue ++ x ∷ []
    → IsKept n f b log kept new task doubted
kept_pushed n f b log kept queue new x task doubted k e = record {
  updates = k.updates;
  in_doubt = k.in_doubt;
  work = subst (λ (q : List Numbered). StepFits n f b log kept q doubted (step_of task)) (sym e) (step_pushed n f b log kept queue x doubted (step_of task) k.work);
}

company_by : (most : ℕ) (k : Numbered) (ks : List Numbered) (t : Bool) → is_alone k.call ≡ t → length (company most ks) ≤ length ks → length (company (suc most) (k ∷ ks)) ≤ length (k ∷ ks)
company_by most k ks true e h = rw e (omega arith)
company_by most k ks false e h = rw e (omega arith)

company_within : (most : ℕ) (ks : List Numbered) → length (company most ks) ≤ length ks
company_within zero [] = omega arith
company_within (suc most) [] = omega arith
company_within zero (k ∷ ks) = omega arith
company_within (suc most) (k ∷ ks) = company_by most k ks (is_alone k.call) refl (company_within most ks)

run_by : (k : Numbered) (ks : List Numbered) (t : Bool) → is_alone k.call ≡ t → length (company 7 ks) ≤ length ks → length (run_of (k ∷ ks)) ≤ length (k ∷ ks)
run_by k ks true e h = rw e (omega arith)
run_by k ks false e h = rw e (omega arith)

run_within : (ks : List Numbered) → length (run_of ks) ≤ length ks
run_within [] = omega arith
run_within (k ∷ ks) = run_by k ks (is_alone k.call) refl (company_within 7 ks)

-- the replies to a batch are no more than the kept calls, none of which is in doubt
pub record Commits (kept : List Numbered) (doubted : ℕ) (replies : List Reply) : Type 0 where
  pub within : length replies ≤ length kept
  pub settled : doubted ≡ 0

pub commits_all : (n f b : ℕ) (log : SeenLog) (kept queue : List Numbered) (doubted : ℕ) (step : Step) (replies : List Reply) → StepFits n f b log kept queue doubted step → CanCommit step replies → Commits kept doubted replies
commits_all n f b log kept queue doubted Lookup replies h can = absurd can
commits_all n f b log kept queue doubted (Fetch basis at ptr plan) replies h can = absurd can
commits_all n f b log kept queue doubted (Store basis formed) replies h can = absurd can
commits_all n f b log kept queue doubted (Mark server generation) replies h can = absurd can
commits_all n f b log kept queue doubted (Commit basis sealed) replies h can =
    let few = run_within kept in
    record { within = rw (can ∙ h.count) few; settled = h.settled }
