use Rattle.std.proofs.Common.{ap, ◌∙◌}
use Rattle.zb_types.proofs.KeyedLists.{IsRising-from_ordered, remove_entry-numbers}
use Rattle.zb_types.specs.Keyed.{look}
use Rattle.zb_pointers.specs.Seen.{files_in, rooms_in}
use Rattle.zb_pointers.proofs.Keeping.{files_less, rooms_without_other}
use Rattle.zb_pointers.proofs.pointers.Pointers.drop_file.Goals as goal

pub returns-clause-files : goal.returns-clause-files
returns-clause-files c =
    let es = c.self.inside.kept.entries in
    let rising = IsRising-from_ordered es c.self.invariant.1 in
    rw (← c.self.view_is) (ap files_in (c.remove.ensures.entries ∙ remove_entry-numbers c.args.fid.0 es rising) ∙ files_less es rising c.args.fid.0)

pub returns-clause-others : goal.returns-clause-others
returns-clause-others c =
    let es = c.self.inside.kept.entries in
    let rising = IsRising-from_ordered es c.self.invariant.1 in
    rw (← c.self.view_is) (λ q other. ap (λ ds. look q (rooms_in ds)) (c.remove.ensures.entries ∙ remove_entry-numbers c.args.fid.0 es rising) ∙ rooms_without_other es c.args.fid.0 q other)
