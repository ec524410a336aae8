-- The length of a file is that which the tables have.
use Rattle.std.proofs.Common.{◌≡◌, ℕ, length, Option, Some, None, refl, sym, ap, ◌∙◌}
use Rattle.std.proofs.lemmas.List.FromFn.{length-map-range_with_len}
use Rattle.zb_types.specs.Keyed.{look}
use Rattle.zb_types.specs.Tree.{or_none, stored}
use Rattle.zb_types.specs.declared.nodes.Members.{Members}
use Rattle.zb_types.proofs.KeyedLists.{over, look-changed}
use Rattle.zb_tables.specs.Tables.{Contents, FileState, Tables, shown_bytes, file_byte, shown_tree}
use Rattle.zb_tables.specs.Finding.{found, found_in}

shown_length : (b : ℕ) (contents : Contents) (members : Members) (o : Option FileState) → (found_in members 0 0 o).length ≡ length (or_none (over (shown_bytes b contents) o))
shown_length b contents members None = refl
shown_length b contents members (Some file) = sym (length-map-range_with_len (file_byte b contents file) 0 file.length)

-- what is found of a file has the length of its bytes, whatever the stripes have
pub found_length : (b : ℕ) (t : Tables) (contents : Contents) (fid : ℕ) → (found t fid 0 0).length ≡ length (stored (shown_tree b t contents).files fid)
found_length b t contents fid =
    shown_length b contents t.members (look fid t.files) ∙ ap (λ o. length (or_none o)) (sym (look-changed (shown_bytes b contents) fid t.files))
