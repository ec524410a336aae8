use Rattle.std.proofs.Common.{◌≡◌, ◌++◌, ◌-◌, ◌+◌, List, ℕ, get_or, bit_xor, refl, sym, ap, subst, ◌∙◌, arith}
use Rattle.std.specs.Prelude.{slice_index}
use Rattle.zb_holding.specs.Exclusive.{xor_at}
use Rattle.zb_holding.specs.Placing.{share_of, share_length}
use Rattle.zb_stripe.proofs.Making.{share_put}
use Rattle.zb_stripe.proofs.parity.xor_new.Goals as goal

pub xor_behind-requires : goal.xor_behind-requires
xor_behind-requires c = let long = c.new_of_share.ensures.long in let room = c.requires.long in omega arith

pub loop-k-preserved : goal.loop-k-preserved
loop-k-preserved c before y long =
    let f = c.args.geo.now.fragment in
    let had = c.share-had.ensures in
    let put = c.xor_behind.ensures in
    share_put f before c.args.new.now c.args.begin c.loop-k.k (c.loop-k.k + 1) c.args.into.now c.loop-k.into c.xor_behind.new.into y long refl
    (λ z below. put.front z (omega arith))
    (λ z. ap (λ (m : ℕ). get_or c.xor_behind.new.into (m + z) 0) (sym had) ∙ put.behind z
    ∙ ap (λ (m : ℕ). bit_xor (get_or c.loop-k.into (m + z) 0) (get_or c.new_of_share.result.now z 0)) had
    ∙ ap (λ (xs : List ℕ). bit_xor (get_or c.loop-k.into (share_length f c.args.begin c.loop-k.k + z) 0) (get_or xs z 0)) (c.new_of_share.ensures.new before long))
    (c.loop-k.invariant before y long)

pub returns : goal.returns
returns c before y long =
    let f = c.args.geo.now.fragment in
    let end : c.loop-k.k ≡ c.args.geo.now.servers - 1 = omega arith in
    subst (λ (k : ℕ). bit_xor (slice_index c.loop-k.into y) (xor_at (share_of f before) k y) ≡ bit_xor (slice_index c.args.into.now y) (xor_at (share_of f (before ++ c.args.new.now)) k y))
    end (c.loop-k.invariant before y long)
