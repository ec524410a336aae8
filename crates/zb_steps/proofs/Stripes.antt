-- The stripes of the requests of a flush.
use Rattle.std.proofs.Common.{◌≡◌, ℕ, false, suc, ◌≤◌, List, [], ◌∷◌, refl, arith}
use Rattle.std.specs.Prelude.{All}
use Rattle.zb_types.specs.declared.ids.ServerId.{ServerId}
use Rattle.zb_types.specs.declared.requests.Request.{Request}
use Rattle.zb_types.specs.declared.requests.Response.{Response}
use Rattle.zb_types.specs.declared.requests.Response.TheVariants as told
use Rattle.zb_stripe.specs.declared.write_plan.Fed.TheVariants as fed
use Rattle.zb_stripe.specs.Feeding.{fed_by, left_after}
use Rattle.zb_log.specs.Placing.{last_stripe}
use Rattle.zb_log.specs.Logs.{SeenLog, AreGiven, ForGiven}
use Rattle.zb_basis.specs.Delivering.{IsAbout}
use Rattle.zb_basis.specs.declared.basis.Formed.{Formed}
use Rattle.zb_work.specs.Fitting.{IsBehind}
use Rattle.zb_basis.specs.declared.calls.Numbered.{Numbered}
use Rattle.zb_steps.specs.Serving.{first_stripe}

abbrev pub AreAbout : ℕ → ℕ → List (ServerId × Request) → Type 0
AreAbout first last plan = All (λ (asked : ServerId × Request). IsAbout first last asked.1) plan

pub left_about : (first last : ℕ) (plan : List (ServerId × Request)) (response : Response) → AreAbout first last plan → AreAbout first last (left_after plan response)
left_about first last [] response h = h
left_about first last (a ∷ rest) told.Done h = λ k x below. h (suc k) x (omega arith)
left_about first last (a ∷ rest) (told.Bytes bytes) h = h
left_about first last (a ∷ rest) (told.Parity lengths bytes) h = h
left_about first last (a ∷ rest) (told.Ids ids) h = h
left_about first last (a ∷ rest) (told.Refused why) h = h
left_about first last (a ∷ rest) told.Down h = h
left_about first last (a ∷ rest) told.Blank h = h

plan_behind : (log : SeenLog) (last g : ℕ) (plan : List (ServerId × Request)) (response : Response) → AreAbout log.next.stripe last plan → last ≤ last_stripe → (fed_by plan response ≡ fed.Done → ⊥)
    → IsBehind log (record { generation = g; stripe = first_stripe plan; ended = false })
plan_behind log last g [] response h l n = absurd (n refl)
plan_behind log last g (a ∷ rest) response h l n =
    let one : IsAbout log.next.stripe last a.1 = h 0 a (omega arith) in
    let above = one.above in
    let below = one.below in
    record {
      lasting = omega arith;
      behind = record { stripe = omega arith; offset = λ same. absurd (omega arith) };
    }

-- a flush of which a request was answered, and that didn't reach its end
pub noted_behind : (log : SeenLog) (last : ℕ) (plan : List (ServerId × Request)) (response : Response) (g stripe : ℕ) (given : List ℕ) → AreGiven log given → ForGiven log (λ given. AreAbout log.next.stripe last plan) → last ≤ last_stripe
    → stripe ≡ first_stripe plan → (fed_by plan response ≡ fed.Done → ⊥) → IsBehind log (record { generation = g; stripe = stripe; ended = false })
noted_behind log last plan response g stripe given are about l e not = rw e (plan_behind log last g plan response (about given are) l not)
