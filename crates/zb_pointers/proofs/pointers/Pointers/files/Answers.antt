use Rattle.std.proofs.Common.{◌≤◌, length, ap, ◌∙◌, arith}
use Rattle.zb_pointers.specs.Seen.{files_in}
use Rattle.zb_pointers.proofs.Keeping.{few_files}
use Rattle.zb_pointers.proofs.pointers.Pointers.files.Goals as goal

pub returns-clause-fits : goal.returns-clause-fits
returns-clause-fits c =
    let es = c.self.inside.kept.entries in
    let few : length (files_in es) ≤ length es = few_files es in
    rw (c.of.ensures ∙ ap files_in c.iter.ensures.rest) (omega (arith, c.iter.ensures.fits))
