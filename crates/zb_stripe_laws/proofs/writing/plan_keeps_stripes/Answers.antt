use Rattle.std.proofs.Common.{◌-◌, ◌∷◌, ◌++◌, List, length, take, sym, subst, arith}
use Rattle.std.proofs.lemmas.List.{take_all}
use Rattle.zb_types.specs.declared.ids.ServerId.{ServerId}
use Rattle.zb_types.specs.declared.requests.Request.{Request}
use Rattle.zb_holding.specs.Holding.{StripeHolds, standing, away_at, view_of}
use Rattle.zb_holding.specs.Carrying.{carried_all}
use Rattle.zb_stripe.specs.declared.flush.Part.{Part}
use Rattle.zb_stripe.specs.Writing.{part_requests}
use Rattle.zb_stripe_laws.specs.PartAtWork.{PartAtWork, StripesDiffer}
use Rattle.zb_stripe_laws.proofs.Keeping.{each_law}
use Rattle.zb_stripe_laws.proofs.NotEmpty.{none_empty}
use Rattle.zb_stripe_laws.proofs.Seeing.{holds_seen}
use Rattle.zb_stripe_laws.proofs.Working.{others_leave, parts_at_work, elsewhere_stays, others_elsewhere, at_work_ends, All_requests, long_enough}
use Rattle.zb_stripe_laws.proofs.writing.plan_keeps_stripes.Goals as goal

pub returns-clause-work : goal.returns-clause-work
returns-clause-work c v out class flush before after part is differ begins i =
    let away = others_elsewhere before after part (subst StripesDiffer is differ) in
    subst (λ (ps : List Part). PartAtWork (view_of v.servers v.fragment (carried_all v.maps (take i (All_requests v.servers v.fragment out class flush.log ps))) v.away) out class flush.log part (i - length (All_requests v.servers v.fragment out class flush.log before))) (sym is)
    (parts_at_work v.servers v.fragment out class flush.log v.maps v.away before after part i away.0 away.1 begins)

pub returns-clause-each : goal.returns-clause-each
returns-clause-each c v out class flush before after part end is differ fits le spared h s i =
    let away = others_elsewhere before after part (subst StripesDiffer is differ) in
    let j = i - length (All_requests v.servers v.fragment out class flush.log before) in
    let own = part_requests v.servers v.fragment out class flush.log part in
    subst (λ (ps : List Part). StripeHolds (view_of v.servers v.fragment (carried_all v.maps (take i (All_requests v.servers v.fragment out class flush.log ps))) v.away) flush.log part.stripe end part.bytes) (sym is)
    (holds_seen (v.servers - 1) v.fragment (standing v.servers (carried_all v.maps (take j own)) flush.log part.stripe)
    (standing v.servers (carried_all v.maps (take i (All_requests v.servers v.fragment out class flush.log (before ++ part ∷ after)))) flush.log part.stripe)
    (away_at v.servers v.away flush.log part.stripe) end part.bytes
    (λ k a. others_leave v.servers v.fragment out class flush.log v.maps before after part i k away.0 away.1)
    (each_law v.servers v.fragment out v.away class flush.log part spared fits v.maps end le h s j))

pub returns-clause-whole : goal.returns-clause-whole
returns-clause-whole c v out class flush before after part is differ fits spared begins =
    let away = others_elsewhere before after part (subst StripesDiffer is differ) in
    let first = All_requests v.servers v.fragment out class flush.log before in
    let own = part_requests v.servers v.fragment out class flush.log part in
    let all = All_requests v.servers v.fragment out class flush.log (before ++ part ∷ after) in
    let long = long_enough v.servers v.fragment out class flush.log before after part in
    subst (λ (ps : List Part). StripeHolds (view_of v.servers v.fragment (carried_all v.maps (All_requests v.servers v.fragment out class flush.log ps)) v.away) flush.log part.stripe (length part.bytes) part.bytes) (sym is)
    (subst (λ (rs : List (ServerId × Request)). StripeHolds (view_of v.servers v.fragment (carried_all v.maps rs) v.away) flush.log part.stripe (length part.bytes) part.bytes) (take_all (length all) all (omega arith))
    (at_work_ends v.servers v.fragment out class flush.log part fits (carried_all v.maps (take (length all) all)) v.away (length all - length first) spared (omega arith)
    (parts_at_work v.servers v.fragment out class flush.log v.maps v.away before after part (length all) away.0 away.1 begins)))

pub returns-clause-others : goal.returns-clause-others
returns-clause-others c n f maps out class flush log stripe i k away = elsewhere_stays n f out class flush.log maps log stripe k flush.parts i away

pub returns-clause-none_empty : goal.returns-clause-none_empty
returns-clause-none_empty c n f maps out class flush i s = none_empty n f out class flush.log maps flush.parts i s
