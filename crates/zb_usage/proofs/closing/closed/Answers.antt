use Rattle.std.proofs.Common.{◌≡◌, ◌∙◌, List, ap, subst}
use Rattle.std.specs.Prelude.{IfOk, filter}
use Rattle.zb_types.specs.declared.tables.HeldUse.{HeldUse}
use Rattle.zb_types.specs.declared.tables.LogUse.{LogUse}
use Rattle.zb_usage.specs.Uses.{closed}
use Rattle.zb_usage.proofs.Closed.{closed_by_live}
use Rattle.zb_usage.proofs.closing.closed.Goals as goal

pub returns : goal.returns
returns c =
    let status = c.args.status.now in
    let live = c.deref.ensures.value ∙ c.in_ok-logs.ensures ∙ ap (λ (logs : List LogUse). filter (λ l. l.live) logs) c.slice.ensures in
    let same : closed c.deref.result.now c.slice-2.result.now ≡ closed status.logs status.held = (λ i. closed (live i) (c.slice-2.ensures i)) ∙ closed_by_live status.logs status.held in
    subst (λ (all : List HeldUse). IfOk c.closed_beside.result (λ stripes. stripes.items ≡ all)) same c.closed_beside.ensures
