-- What a delivery leaves.
use Rattle.std.specs.Prelude.{◌≡◌, ℕ, ◌+◌, ◌*◌, ◌≤◌, true, List, length, take, None, unwrap_or, All}
use Rattle.zb_types.specs.declared.ids.ServerId.{ServerId}
use Rattle.zb_types.specs.declared.requests.Request.{Request}
use Rattle.zb_holding.specs.Holding.{Maps}
use Rattle.zb_types.specs.declared.requests.Response.{Response}
use Rattle.zb_types.specs.declared.requests.Response.TheVariants as told
use Rattle.zb_holding.specs.Carrying.{carried_all}
use Rattle.zb_stripe.specs.declared.read_plan.Got.{Got}
use Rattle.zb_stripe.specs.declared.read_plan.Got.TheVariants as more
use Rattle.zb_stripe.specs.Reading.{Reading, asked, fed, answered, is_more}
use Rattle.zb_stripe_laws.specs.ReadAtWork.{AnswersFrom, AllAnswer}
use Rattle.zb_types.specs.declared.geometry.Geometry.{Geometry}
use Rattle.zb_stripe.specs.declared.flush.Flush.{Flush}
use Rattle.zb_stripe.specs.declared.flush.FreshFlush.{FreshFlush}
use Rattle.zb_stripe.specs.Fresh.{IsFreshFlush}
use Rattle.zb_stripe_laws.specs.PartAtWork.{MayBegin, StripesDiffer}
use Rattle.zb_plain.specs.Standing.{Entries, entries_of, seen_at}
use Rattle.zb_plain.specs.Answering.{answer_of, MayAsk}

-- the first of some requests were carried out, and no others
pub record IsBegun (before now : Maps) (plan : List (ServerId × Request)) : Type 0 where
  pub i : ℕ
  pub carried : now ≡ carried_all before (take i plan)

-- a request that may be asked of these servers, and that is carried out
pub record IsTaken (servers : List Entries) (asked : ServerId × Request) : Type 0 where
  pub may : MayAsk (length servers) asked
  pub done : answer_of (entries_of servers asked.0) asked.1 ≡ told.Done

-- an answer from these maps led a read on, or ended it
pub record IsFed (maps : Maps) (before now : Reading) (got : Got) : Type 0 where
  pub answer : Response
  pub from : AnswersFrom maps None None (asked before) answer
  pub leads : now ≡ (fed before answer).0
  pub comes : got ≡ (fed before answer).1

-- a read comes to this by answers from these maps: to its end, or it still goes on after all the answers that it may want
pub record ComesTo (maps : Maps) (first : Reading) (got : Got) : Type 0 where
  pub answers : List Response
  pub all : AllAnswer maps None None first answers
  pub end : unwrap_or (answered first answers) more.More ≡ got
  pub enough : is_more got ≡ true → (first.ptr.len + 1) * (first.servers + 2) ≤ length answers

-- what is new of a flush whose stripes differ, and each of whose parts goes on behind what these servers have of its
-- stripe, or begins it
pub record MayWrite (geo : Geometry) (servers : List Entries) (fresh : FreshFlush) : Type 0 where
  pub flush : Flush
  pub is : IsFreshFlush geo.servers geo.fragment flush fresh
  pub differ : StripesDiffer flush.parts
  pub begin : All (MayBegin (seen_at geo servers) flush.log) flush.parts
