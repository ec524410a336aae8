use Rattle.std.proofs.Common.{sym, ◌∙◌, ap, arith}
use Rattle.zb_types.specs.Limits.{within}
use Rattle.zb_script.proofs.Decimals.{too_high}
use Rattle.zb_script.proofs.numbers.up_to.Goals as goal

pub returns-else-within : goal.returns-else-within
returns-else-within c =
    too_high c.args.high c.in_ok-n.n (omega arith) c.in_ok-n.ensures.0 c.in_ok-n.ensures.1
    (ap (within 1 c.args.high) (sym c.from-2.ensures) ∙ ap (λ n. within 1 n c.from-2.result) (sym c.from.ensures) ∙ sym c.within.ensures ∙ c.if-within.false)
