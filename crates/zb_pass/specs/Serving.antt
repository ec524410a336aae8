-- What a server may answer to a pass.
use Rattle.zb_types.specs.declared.requests.Response.{Response}
use Rattle.zb_stripe.specs.Reading.{asked, Answers as AnswersRead}
use Rattle.zb_steps.specs.Serving.{HasMemory}
use Rattle.zb_pass.specs.declared.work.Work.{Work}
use Rattle.zb_pass.specs.declared.work.Work.TheVariants.{Fetch, Store, Sweep, Delete}

-- a response to the request that stands
abbrev pub CanServe : Work → Response → Type 0
CanServe (Fetch cleaning plan) response = AnswersRead plan.servers (asked plan) response × HasMemory response
CanServe (Store cleaning formed) response = HasMemory response
CanServe (Sweep sweep after) response = HasMemory response
CanServe (Delete sweep left again) response = HasMemory response
CanServe other response = ⊥
