use Rattle.std.proofs.Common.{◌≡◌, List, ℕ, length, ap, ◌∙◌, rules}
use Rattle.std.proofs.lemmas.List.{take_at}
use Rattle.zb_holding.specs.Exclusive.{xored}
use Rattle.zb_stripe.proofs.progress.put_in.Goals as goal

pub returns : goal.returns
returns c =
    let old : c.deref_mut.result.now ≡ c.args.sum.now = search rules in
    let len : length c.xor_into.new.into ≡ length c.deref_mut.result.now = search rules in
    let e : c.of.result ≡ c.xor_into.new.into = c.of.ensures ∙ take_at c.xor_into.new.into _ _ (len ∙ c.deref_mut.ensures.len) in
    e ∙ c.xor_into.ensures ∙ ap (λ (z : List ℕ). xored z c.slice-2.result.now) old ∙ ap (xored c.args.sum.now) c.slice-2.ensures
