use Rattle.zb_pass.proofs.Moved.{copied_lens, lens_fit}
use Rattle.zb_pass.proofs.writer.Writer.formed.Goals as goal

pub form-requires-clause-fit : goal.form-requires-clause-fit
form-requires-clause-fit c =
    let live = rw (← c.self.view_is) at c.requires.cleaning.live in
    lens_fit _ _ c.args.cleaning.now.target c.args.cleaning.now.copies.live live

pub form-requires-clause-copied : goal.form-requires-clause-copied
form-requires-clause-copied c = copied_lens c.args.cleaning.now.copies.live c.args.cleaning.now.copies.blocks c.requires.cleaning.copied c.requires.all
