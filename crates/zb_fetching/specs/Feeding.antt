-- A read whose server may be down.
use Rattle.std.specs.Prelude.{◌≡◌, if◌then◌else◌, List, Option}
use Rattle.zb_types.specs.declared.ids.ServerId.{ServerId}
use Rattle.zb_types.specs.declared.requests.Request.{Request}
use Rattle.zb_types.specs.declared.requests.Request.TheVariants as ask
use Rattle.zb_types.specs.declared.requests.Response.{Response}
use Rattle.zb_types.specs.declared.requests.Response.TheVariants as told
use Rattle.zb_holding.specs.Holding.{Maps, is_away}
use Rattle.zb_stripe.specs.declared.read_plan.Got.{Got}
use Rattle.zb_stripe.specs.Reading.{Reading, asked, fed}
use Rattle.zb_stripe_laws.specs.ReadAtWork.{AnswersFrom}
use Rattle.zb_plain.specs.Standing.{Entries, entries_of}
use Rattle.zb_plain.specs.Answering.{answer_of}

-- a request for a range of a fragment
abbrev pub IsRetrieve : Request → Type 0
IsRetrieve (ask.Retrieve id place len) = Unit {0}
IsRetrieve request = ⊥

-- what a server answers, where the lost one is down
abbrev pub answer_unless_lost : List Entries → Option ServerId → ServerId → Request → Response
answer_unless_lost servers lost server request =
    if is_away lost server then told.Down else answer_of (entries_of servers server) request

-- an answer from these maps, where the lost server is down, led a read on, or ended it
pub record IsFedUnlessLost (maps : Maps) (lost : Option ServerId) (before now : Reading) (got : Got) : Type 0 where
  pub answer : Response
  pub from : AnswersFrom maps lost lost (asked before) answer
  pub leads : now ≡ (fed before answer).0
  pub comes : got ≡ (fed before answer).1
