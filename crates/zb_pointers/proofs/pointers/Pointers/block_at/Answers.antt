use Rattle.std.proofs.Common.{Some, None, sym, ap, ◌∙◌}
use Rattle.std.specs.Prelude.{slice_get}
use Rattle.zb_types.proofs.KeyedLists.{IsRising-from_ordered}
use Rattle.zb_pointers.specs.Seen.{blocks_of}
use Rattle.zb_pointers.proofs.Keeping.{file_found}
use Rattle.zb_pointers.proofs.pointers.Pointers.block_at.Goals as goal

pub returns-in-None : goal.returns-in-None
returns-in-None c =
    let es = c.self.inside.kept.entries in
    let rising = IsRising-from_ordered es c.self.invariant.1 in
    rw (← c.self.view_is) (sym (ap (λ f. slice_get (blocks_of f) c.args.i) (file_found es rising c.args.fid.0 None c.in-None.ensures.value)))

pub returns-in-Some : goal.returns-in-Some
returns-in-Some c =
    let es = c.self.inside.kept.entries in
    let rising = IsRising-from_ordered es c.self.invariant.1 in
    rw (← c.self.view_is) (c.at.ensures ∙ sym (ap (λ f. slice_get (blocks_of f) c.args.i) (file_found es rising c.args.fid.0 (Some c.in-Some.kept.now) c.in-Some.ensures.value)))
