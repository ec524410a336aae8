-- What updates leave of the tree, from what they leave of names and files.
use Rattle.std.proofs.Common.{◌≡◌, ℕ, ◌+◌, ◌≤◌, Bool, false, not, List, [], ◌∷◌, length, Some, None, is_some, sym, ap, ◌∙◌}
use Rattle.std.specs.Prelude.{nat_lt}
use Rattle.std.proofs.lemmas.Bool.{le-ltb}
use Rattle.zb_types.specs.declared.ids.Fid.{Fid}
use Rattle.zb_types.specs.declared.calls.Call.TheVariants.{Create, Remove, Write, Truncate}
use Rattle.zb_types.specs.declared.calls.Reply.TheVariants.{Made}
use Rattle.zb_types.specs.declared.calls.Refusal.TheVariants.{Gone, TooBig}
use Rattle.zb_types.specs.Keyed.{look, put, replaced, without}
use Rattle.zb_types.specs.Bytes.{written, resized}
use Rattle.zb_types.specs.Names.{Names, drops, name_refusal, name_effect, name_change, name_reply, first, when}
use Rattle.zb_types.specs.Tree.{Tree, files_after, or_none, stored}
use Rattle.zb_types.specs.Apply.{max_file, is_gone, refusal_of, applied}
use Rattle.zb_history.proofs.Effects.{free_tree}

module _ (tree : Tree) (path : List ℕ) (names : Names) (files : List (ℕ × List ℕ)) where
  pub tree_created : (fid : Fid) → name_refusal tree.names (Create path) ≡ None → names ≡ name_effect tree.names (Create path) → Made fid ≡ name_reply tree.names (Create path) → files ≡ put fid.0 [] tree.files
      → record { names = names; files = files } ≡ applied tree (Create path)
  tree_created fid free same number made =
      let next : fid.0 ≡ tree.names.next = cc in
      (λ i. record { names = same i; files = made i }) ∙ ap (λ n. record { names = name_effect tree.names (Create path); files = put n [] tree.files }) next ∙ sym (free_tree tree (Create path) free)

  pub tree_removed : (fid : Fid) → name_refusal tree.names (Remove path) ≡ None → names ≡ name_effect tree.names (Remove path) → drops fid.0 ≡ name_change tree.names (Remove path) → files ≡ without fid.0 tree.files
      → record { names = names; files = files } ≡ applied tree (Remove path)
  tree_removed fid free same change gone =
      (λ i. record { names = same i; files = gone i }) ∙ ap (λ ch. record { names = name_effect tree.names (Remove path); files = files_after [] ch tree.files }) change ∙ sym (free_tree tree (Remove path) free)

-- what is refused of a file by neither test
not_refused : (gone big : Bool) → gone ≡ false → big ≡ false → first (when gone Gone ∷ when big TooBig ∷ []) ≡ None
not_refused gone big a b = (λ i. first (when (a i) Gone ∷ when (b i) TooBig ∷ []))

module _ (tree : Tree) (fid : Fid) (old : List ℕ) (found : look fid.0 tree.files ≡ Some old) (files : List (ℕ × List ℕ)) where
  there : is_gone tree.files fid ≡ false
  there = ap (λ o. not (is_some o)) found

  bytes_there : stored tree.files fid.0 ≡ old
  bytes_there = ap or_none found

  pub tree_written : (offset : ℕ) (bytes : List ℕ) → offset + length bytes ≤ max_file → files ≡ replaced fid.0 (written old offset bytes) tree.files → record { names = tree.names; files = files } ≡ applied tree (Write fid offset bytes)
  tree_written offset bytes fits made =
      let free : refusal_of tree (Write fid offset bytes) ≡ None = not_refused (is_gone tree.files fid) (nat_lt max_file (offset + length bytes)) there (le-ltb max_file (offset + length bytes) fits) in
      ap (λ f. record { names = tree.names; files = f }) made
      ∙ ap (λ b. record { names = tree.names; files = replaced fid.0 (written b offset bytes) tree.files }) (sym bytes_there)
      ∙ sym (free_tree tree (Write fid offset bytes) free)

  pub tree_resized : (size : ℕ) → size ≤ max_file → files ≡ replaced fid.0 (resized old size) tree.files → record { names = tree.names; files = files } ≡ applied tree (Truncate fid size)
  tree_resized size fits made =
      let free : refusal_of tree (Truncate fid size) ≡ None = not_refused (is_gone tree.files fid) (nat_lt max_file size) there (le-ltb max_file size fits) in
      ap (λ f. record { names = tree.names; files = f }) made
      ∙ ap (λ b. record { names = tree.names; files = replaced fid.0 (resized b size) tree.files }) (sym bytes_there)
      ∙ sym (free_tree tree (Truncate fid size) free)
