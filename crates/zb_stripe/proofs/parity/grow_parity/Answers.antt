use Rattle.std.proofs.Common.{◌≡◌, List, ℕ, length, ap, ◌∙◌, rules, arith}
use Rattle.std.specs.Prelude.{replicate}
use Rattle.std.proofs.lemmas.List.{take_at}
use Rattle.zb_holding.specs.Exclusive.{xored}
use Rattle.zb_stripe.proofs.Making.{grown_is}
use Rattle.zb_stripe.proofs.parity.grow_parity.Goals as goal

pub returns : goal.returns
returns c before long is =
    let n = c.args.geo.now.servers in
    let f = c.args.geo.now.fragment in
    let top = c.share-longest.ensures in
    let zeros : c.deref_mut.result.now ≡ replicate c.share-longest.result 0 = search rules in
    let len1 : length c.xor_into.new.into ≡ c.in_ok-grown.grown.len = search rules in
    let len2 : length c.xor_new.new.into ≡ c.in_ok-grown.grown.len = search rules in
    let put : c.deref_mut-2.result.now ≡ c.xor_into.new.into = c.deref_mut-2.ensures.value ∙ take_at c.xor_into.new.into _ _ len1 in
    let e : c.of.result ≡ c.xor_new.new.into = c.of.ensures ∙ take_at c.xor_new.new.into _ _ len2 in
    let many : c.in_ok-grown.grown.len ≡ c.share-longest.result = search rules in
    e ∙ grown_is n f before c.args.new.now c.args.parity.now c.deref_mut-2.result.now c.xor_new.new.into c.args.begin (omega (arith, c.args.geo.now.limits.servers_low)) long is
    (put ∙ c.xor_into.ensures ∙ ap (λ (z : List ℕ). xored z c.args.parity.now) (zeros ∙ ap (λ (m : ℕ). replicate m 0) top))
    (len2 ∙ many ∙ top) (λ y. c.xor_new.ensures before y long)
