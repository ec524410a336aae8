-- A clean leaves what doesn't depend on a file's blocks.
use Rattle.std.proofs.Common.{◌≡◌, Bool, List, [], ◌∷◌, Option, Some, None, refl, sym, ap, ◌∙◌, subst, inl, inr}
use Rattle.std.specs.Prelude.{if◌then◌else◌}
use Rattle.std.proofs.lemmas.Bool.{cases_Bool}
use Rattle.zb_types.specs.Keyed.{look, put, changed}
use Rattle.zb_types.proofs.KeyedLists.{over, changed-replaced, replaced_same, look-changed}
use Rattle.zb_delta.specs.declared.delta.Body.{Body}
use Rattle.zb_delta.specs.declared.delta.Delta.{Delta}
use Rattle.zb_delta.specs.Spelling.{body_of}
use Rattle.zb_tables.specs.Tables.{FileState, head_of}
use Rattle.zb_tables.specs.Fold.{Files, with_blocks, is_movable, moved_in, moved, all_moved}

abbrev SameHeads : Files → Files → Type 0
SameHeads before after = changed head_of after ≡ changed head_of before

one_moved : (files : Files) (d : Body) (o : Option FileState) → look d.fid.0 files ≡ o → SameHeads files (if is_movable d o then moved_in d o files else files)
one_moved files d None e = refl
one_moved files d (Some file) e = elim (cases_Bool (is_movable d (Some file))) as (λ _. SameHeads files (if is_movable d (Some file) then moved_in d (Some file) files else files)) [
  | inr f ↦ subst (λ (z : Bool). SameHeads files (if z then moved_in d (Some file) files else files)) (sym f) refl
  | inl t ↦ subst (λ (z : Bool). SameHeads files (if z then moved_in d (Some file) files else files)) (sym t)
      (changed-replaced head_of d.fid.0 (with_blocks (put d.block d.now file.blocks) file) files
      ∙ replaced_same d.fid.0 (head_of file) (changed head_of files) (look-changed head_of d.fid.0 files ∙ ap (over head_of) e))
]

pub heads_stay : (ds : List Delta) (files : Files) → changed head_of (all_moved ds files) ≡ changed head_of files
heads_stay [] files = refl
heads_stay (d ∷ ds) files = heads_stay ds (moved (body_of d) files) ∙ one_moved files (body_of d) (look (body_of d).fid.0 files) refl
