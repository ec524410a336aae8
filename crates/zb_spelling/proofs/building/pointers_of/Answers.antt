use Rattle.std.proofs.Common.{rules, ◌≡◌, ℕ, List, ◌∷◌, ◌++◌, [], map, sym, ap, ◌∙◌, subst, append_assoc}
use Rattle.std.specs.List.{AllByRecursion}
use Rattle.std.specs.List.Sorted.{IsStrictlySortedBy}
use Rattle.std.specs.Map.{keys_of}
use Rattle.std.specs.Ordering.{nat_cmp}
use Rattle.zb_types.specs.declared.ids.Ptr.{Ptr}
use Rattle.zb_types.specs.Keyed.{put}
use Rattle.zb_types.proofs.KeyedLists.{IsRising-from_ordered}
use Rattle.zb_pointers.specs.Seen.{file_of}
use Rattle.zb_tables.specs.Tables.{FileState}
use Rattle.zb_spelling.specs.declared.rows.FileRow.{FileRow}
use Rattle.zb_spelling.specs.Reading.{shown_file}
use Rattle.zb_spelling.proofs.Fitting.{put_behind}
use Rattle.zb_spelling.proofs.building.pointers_of.Goals as goal

pub loop-row-preserved : goal.loop-row-preserved
loop-row-preserved c =
    let split : c.loop-row.rest.now ≡ c.in-Some.row.now ∷ c.in-Some.others.now = search rules in
    let row = c.in-Some.row.now in
    let others = map shown_file c.in-Some.others.now in
    let before = c.loop-row.pointers.files in
    let whole : before ++ shown_file row ∷ others ≡ map shown_file c.args.files.now = ap (λ (rs : List FileRow). before ++ map shown_file rs) (sym split) ∙ c.loop-row.invariant.files in
    let rising = IsRising-from_ordered (before ++ shown_file row ∷ others) (subst (λ (fs : List (ℕ × FileState)). IsStrictlySortedBy nat_cmp (keys_of fs)) (sym whole) c.requires.rising) in
    record {
      files = ap (λ (fs : List (ℕ × FileState)). fs ++ others)
          (c.in_ok-load_blocks.ensures.ok ∙ ap (λ (bs : List (ℕ × Ptr)). put row.fid.0 (file_of row.head bs) before) c.deref.ensures.value ∙ put_behind row.fid.0 (file_of row.head row.blocks.items) before others rising)
          ∙ append_assoc before (shown_file row ∷ []) others ∙ whole;
      blocks = (subst (λ (rs : List FileRow). AllByRecursion (λ r. IsStrictlySortedBy nat_cmp (keys_of r.blocks.items)) rs) split c.loop-row.invariant.blocks).1;
      block = search rules;
    }
