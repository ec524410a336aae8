use Rattle.std.proofs.Common.{◌∙◌, sym}
use Rattle.zb_pass.proofs.Goings.{block_gives, whole_by, with_fits}
use Rattle.zb_pass.proofs.writer.Writer.block_came.Goals as goal

pub ahead_with-requires : goal.ahead_with-requires
ahead_with-requires c =
    with_fits _ _ _ c.args.read.cleaning c.args.read.plan c.args.bytes c.requires.cleaning c.requires.fetching
    (sym (whole_by c.args.read.cleaning.copies c.args.read.plan c.args.bytes c.is_whole.result c.requires.fetching c.is_whole.ensures) ∙ c.if-not-is_whole.false)

pub returns-in-Ok-clause-ok : goal.returns-in-Ok-clause-ok
returns-in-Ok-clause-ok c =
    block_gives c.args.self.now c.args.read.cleaning c.in-Ok.cleaning c.args.read.plan c.args.bytes c.in-Ok.ahead _
    (sym (whole_by c.args.read.cleaning.copies c.args.read.plan c.args.bytes c.is_whole.result c.requires.fetching c.is_whole.ensures) ∙ c.if-not-is_whole.false)
    c.in-Ok.ensures.with c.in-Ok.ensures.ok c.go_on.ensures
