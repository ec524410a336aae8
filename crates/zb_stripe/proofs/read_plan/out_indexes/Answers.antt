use Rattle.std.proofs.Common.{◌≡◌, ◌∙◌, ℕ, Bool, length, sym, ap, arith}
use Rattle.std.proofs.lemmas.List.FromFn.{map-range_with_len_more, length-map-range_with_len}
use Rattle.zb_holding.specs.Placing.{frag_id, server_of}
use Rattle.zb_holding.specs.Holding.{is_away}
use Rattle.zb_stripe.proofs.read_plan.out_indexes.Goals as goal

pub loop-index-preserved : goal.loop-index-preserved
loop-index-preserved c =
    let lost : ℕ → Bool = λ k. is_away c.args.out (server_of c.args.geo.now.servers (frag_id c.args.ptr.now.log c.args.ptr.now.stripe k)) in
    let more = map-range_with_len_more lost 0 c.loop-index.index c.loop-index.index (omega arith) in
    c.in_ok-push.ensures.items ∙ rw (c.loop-index.invariant, c.is_out.ensures, c.server_of.ensures) (sym more)

pub returns-clause-count : goal.returns-clause-count
returns-clause-count c =
    let lost : ℕ → Bool = λ k. is_away c.args.out (server_of c.args.geo.now.servers (frag_id c.args.ptr.now.log c.args.ptr.now.stripe k)) in
    let at_end : c.loop-index.index ≡ c.args.geo.now.servers = omega (arith, c.loop-index-test.false) in
    ap length c.loop-index.invariant ∙ length-map-range_with_len lost 0 c.loop-index.index ∙ at_end
