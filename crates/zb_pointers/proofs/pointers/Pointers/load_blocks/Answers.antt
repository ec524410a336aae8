use Rattle.std.proofs.Common.{Some, refl, ap, ◌∙◌}
use Rattle.zb_types.specs.declared.ids.Ptr.{Ptr}
use Rattle.zb_types.specs.Keyed.{put}
use Rattle.zb_types.proofs.KeyedLists.{IsRising-from_ordered, insert_entry-numbers}
use Rattle.zb_tables.specs.Tables.{FileState}
use Rattle.zb_pointers.specs.declared.kept.Kept.{Kept}
use Rattle.zb_pointers.specs.Seen.{file_of, files_in}
use Rattle.zb_pointers.proofs.Keeping.{files_kept}
use Rattle.zb_pointers.proofs.pointers.Pointers.load_blocks.Goals as goal

pub returns-clause-ok : goal.returns-clause-ok
returns-clause-ok c =
    let es = c.self.inside.kept.entries in
    let rising = IsRising-from_ordered es c.self.invariant.1 in
    let k = c.args.fid.0 in
    let file : FileState = file_of c.args.head c.args.blocks.now in
    let kept : Kept = record { head = Some c.args.head; blocks = c.in_ok-of.field-0 } in
    let now = c.in_ok-insert.ensures.entries ∙ insert_entry-numbers k kept es in
    rw (← c.self.view_is) (ap files_in now ∙ files_kept es rising k kept file (ap (λ pairs. Some (file_of c.args.head pairs)) c.in_ok-of.ensures))
