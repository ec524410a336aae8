use Rattle.std.proofs.Common.{sym, ◌∙◌, ap}
use Rattle.zb_types.specs.Limits.{within}
use Rattle.zb_claims.specs.Text.{max_part}
use Rattle.zb_script.proofs.Escapes.{bad_text}
use Rattle.zb_script.proofs.texts.text.Goals as goal

pub returns-else-within : goal.returns-else-within
returns-else-within c =
    let read = rw c.in-Some.is at c.in_ok-bytes.ensures in
    bad_text c.in-Some.bytes.items c.args.word.now c.in-len1-up.len_at_least c.if-quote-ne34.false
    (ap (within 1 max_part) (sym c.in-Some.bytes.ok.0 ∙ sym c.len.ensures) ∙ ap (λ n. within 1 n c.len.result) (sym c.from.ensures) ∙ sym c.within.ensures ∙ c.if-within.false)
    read.0 read.1
