use Rattle.std.proofs.Common.{List, length, sym, subst, arith}
use Rattle.std.proofs.lemmas.List.{take_all}
use Rattle.zb_types.specs.declared.ids.ServerId.{ServerId}
use Rattle.zb_types.specs.declared.requests.Request.{Request}
use Rattle.zb_holding.specs.Carrying.{carried_all}
use Rattle.zb_stripe.specs.Writing.{plan_requests}
use Rattle.zb_plain.specs.Indexed.{FitsIndex, AllFitIndex}
use Rattle.zb_plain.proofs.Indexing.{plan_fits_index, nothing_stands}
use Rattle.zb_plain.proofs.laws.fragments_fit_index.Goals as goal

pub returns-clause-nothing : goal.returns-clause-nothing
returns-clause-nothing c count server id = nothing_stands count server id

pub returns-clause-first : goal.returns-clause-first
returns-clause-first c n count server id = subst (FitsIndex n id) (sym (nothing_stands count server id)) tt

pub returns-clause-kept : goal.returns-clause-kept
returns-clause-kept c n f maps out class flush i fit = plan_fits_index n f maps out class flush i fit

pub returns-clause-whole : goal.returns-clause-whole
returns-clause-whole c n f maps out class flush fit =
    let plan = plan_requests n f out class flush in
    subst (λ (rs : List (ServerId × Request)). AllFitIndex n (carried_all maps rs)) (take_all (length plan) plan (omega arith)) (plan_fits_index n f maps out class flush (length plan) fit)
