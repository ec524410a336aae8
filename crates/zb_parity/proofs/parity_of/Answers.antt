use Rattle.std.proofs.Common.{◌≡◌, List, ℕ, length, map, get_or, ap, ◌∙◌, rules}
use Rattle.std.specs.Prelude.{replicate}
use Rattle.zb_holding.specs.Exclusive.{greatest}
use Rattle.std.proofs.lemmas.List.{take_at}
use Rattle.zb_parity.proofs.Sharing.{parity_at}
use Rattle.zb_parity.proofs.parity_of.Goals as goal

pub returns-clause-exclusive : goal.returns-clause-exclusive
returns-clause-exclusive c y =
    let zeros : c.deref_mut.result.now ≡ replicate (greatest (map length c.args.shares.now)) 0 = search rules in
    let len : length c.xor_shares.new.into ≡ length c.deref_mut.result.now = search rules in
    let h = parity_at c.args.shares.now c.deref_mut.result.now c.xor_shares.new.into zeros len c.xor_shares.ensures y in
    let e : c.of.result ≡ c.xor_shares.new.into = c.of.ensures ∙ take_at c.xor_shares.new.into _ _ (len ∙ c.deref_mut.ensures.len) in
    ap (λ (z : List ℕ). get_or z y 0) e ∙ h
