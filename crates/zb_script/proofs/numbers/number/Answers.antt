use Rattle.std.proofs.Common.{sym, ◌∙◌, ap}
use Rattle.zb_script.specs.Numbers.{begins_plainly}
use Rattle.zb_script.proofs.Decimals.{not_plain, not_text, parsed}
use Rattle.zb_script.proofs.numbers.number.Goals as goal

pub returns-then-not-begins_plainly : goal.returns-then-not-begins_plainly
returns-then-not-begins_plainly c = not_plain c.args.word.now (sym c.begins_plainly.ensures ∙ c.if-not-begins_plainly.true)

pub returns-in_default : goal.returns-in_default
returns-in_default c = not_text c.args.word.now c.in_default.ensures.cases.0

pub returns : goal.returns
returns c =
    let read = parsed c.in-Ok.text.now c.parse.result (ap begins_plainly c.in-Ok.ensures.cases.0 ∙ sym c.begins_plainly.ensures ∙ c.if-not-begins_plainly.false) c.parse.ensures.value.0 in
    rw (c.ok.ensures.value, ← c.in-Ok.ensures.cases.0) read
