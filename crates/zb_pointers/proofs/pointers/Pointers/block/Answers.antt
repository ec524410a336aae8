use Rattle.std.proofs.Common.{Some, None, sym, ap, ◌∙◌}
use Rattle.zb_types.proofs.KeyedLists.{IsRising-from_ordered}
use Rattle.zb_types.specs.Keyed.{look}
use Rattle.zb_pointers.specs.Seen.{blocks_of}
use Rattle.zb_pointers.proofs.Keeping.{file_found}
use Rattle.zb_pointers.proofs.pointers.Pointers.block.Goals as goal

pub returns-in-None : goal.returns-in-None
returns-in-None c =
    let es = c.self.inside.kept.entries in
    let rising = IsRising-from_ordered es c.self.invariant.1 in
    rw (← c.self.view_is) (sym (ap (λ f. look c.args.block (blocks_of f)) (file_found es rising c.args.fid.0 None c.in-None.ensures.value)))

pub returns-in-Some : goal.returns-in-Some
returns-in-Some c =
    let es = c.self.inside.kept.entries in
    let rising = IsRising-from_ordered es c.self.invariant.1 in
    rw (← c.self.view_is) (c.get-in-Some.ensures ∙ sym (ap (λ f. look c.args.block (blocks_of f)) (file_found es rising c.args.fid.0 (Some c.in-Some.kept.now) c.in-Some.ensures.value)))
