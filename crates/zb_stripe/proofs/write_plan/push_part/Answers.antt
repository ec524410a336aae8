use Rattle.std.proofs.Common.{◌≡◌, ◌++◌, ◌-◌, List, ℕ, ap, ◌∙◌, arith, append_assoc}
use Rattle.zb_types.specs.declared.ids.ServerId.{ServerId}
use Rattle.zb_types.specs.declared.requests.Request.{Request}
use Rattle.zb_stripe.specs.Writing.{share_requests, parity_request}
use Rattle.zb_stripe.proofs.write_plan.push_part.Goals as goal

pub returns : goal.returns
returns c part is =
    let n = c.args.to.geo.servers in
    let f = c.args.to.geo.fragment in
    let end : c.loop-k.k ≡ n - 1 = omega arith in
    let shares = share_requests n f c.args.to.out c.args.to.class c.args.to.log part in
    let last = parity_request n f c.args.to.out c.args.to.class c.args.to.log part in
    c.in_ok-push_parity.ensures part is
    ∙ ap (λ (z : List (ServerId × Request)). z ++ last) (c.loop-k.invariant part is ∙ ap (λ (k : ℕ). c.args.requests.now.items ++ shares k) end)
    ∙ append_assoc c.args.requests.now.items (shares (n - 1)) last
