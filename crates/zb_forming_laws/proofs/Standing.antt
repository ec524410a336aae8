-- What stands at pointers by the stripes' contents.
use Rattle.std.proofs.Common.{◌≡◌, ℕ, ◌≤◌, List, [], ◌∷◌, length, drop, Option, Some, None, refl, sym, arith}
use Rattle.std.specs.Prelude.{slice_index}
use Rattle.std.specs.List.{AllByRecursion, AllZip}
use Rattle.std.proofs.lemmas.List.{length-take}
use Rattle.zb_types.specs.declared.ids.Ptr.{Ptr}
use Rattle.zb_tables.specs.Tables.{Contents, block_byte, bytes_at}
use Rattle.zb_sound.specs.LookupsCurrent.{AreFetched}
use Rattle.zb_basis.specs.declared.basis.Fetched.{Fetched}
use Rattle.zb_basis.specs.Operations.{block_bytes}
use Rattle.zb_basis.specs.Forming.{Stand}
use Rattle.zb_basis.proofs.Each.{all-of}
use Rattle.zb_forming_laws.specs.Resting.{pairs_of}

-- the contents give at most as many bytes as a pointer names
pub bytes-short : (contents : Contents) (p : Ptr) → length (bytes_at contents p) ≤ p.len
bytes-short contents p = omega (arith, length-take p.len (drop p.offset (contents p.log p.stripe)))

each-fetched : (contents : Contents) (fetched : List Fetched) → AreFetched contents (pairs_of fetched) → AllByRecursion (λ (f : Fetched). bytes_at contents f.ptr ≡ f.bytes) fetched
each-fetched contents [] all = tt
each-fetched contents (f ∷ fs) all = (sym all.0, each-fetched contents fs all.1)

pub contents-stand : (contents : Contents) (fetched : List Fetched) (ptrs : List Ptr) (blocks : List (List ℕ)) → AreFetched contents (pairs_of fetched)
    → AllZip (λ p block. bytes_at contents p ≡ block) ptrs blocks → Stand (bytes_at contents) fetched ptrs blocks
contents-stand contents fetched ptrs blocks all new = record {
  short = bytes-short contents;
  old = all-of (λ (f : Fetched). bytes_at contents f.ptr ≡ f.bytes) fetched (each-fetched contents fetched all);
  new = new;
}

-- a byte of a block, where it stands anywhere
pub byte-of_block : (contents : Contents) (o : Option Ptr) (y : ℕ) → slice_index (block_bytes (bytes_at contents) o) y ≡ block_byte contents o y
byte-of_block contents None y = refl
byte-of_block contents (Some p) y = refl
