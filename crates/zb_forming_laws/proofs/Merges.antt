-- Blocks that were merged from what stood in a file are those of the written or cut file.
use Rattle.std.proofs.Common.{◌≡◌, ℕ, ◌+◌, ◌-◌, ◌*◌, ◌/◌, ◌%◌, ◌<◌, ◌≤◌, min, max, true, List, length, drop, Option, Some, None, refl, sym, ap, ◌∙◌, subst, arith}
use Rattle.std.specs.Prelude.{IsSome, slice_index}
use Rattle.std.proofs.lemmas.Bool.Decides.{nat_tests}
use Rattle.std.proofs.lemmas.Nat.{div-mul-add, mod-mul-add, div-add-mod', mod_below}
use Rattle.std.proofs.lemmas.List.{length-take, length-drop}
use Rattle.zb_types.specs.declared.ids.Fid.{Fid}
use Rattle.zb_types.specs.declared.ids.Ptr.{Ptr}
use Rattle.zb_types.specs.Keyed.{look}
use Rattle.zb_types.specs.Bytes.{byte_over, written, resized}
use Rattle.zb_delta.specs.declared.delta.Delta.{Delta}
use Rattle.zb_tables.specs.Tables.{Contents, EndsInFile, FileState, block_byte, bytes_at, file_byte, shown_bytes}
use Rattle.zb_tables.specs.Spelled.{AllNew, CutAnew, Merged, new_blocks}
use Rattle.zb_tables.specs.Looking.{SameBlock}
use Rattle.zb_tables.proofs.Blocks.{byte_shown, length-first}
use Rattle.zb_basis.specs.declared.asks.Ask.{Ask}
use Rattle.zb_basis.specs.Looking.{ask_range}
use Rattle.zb_basis.specs.Merging.{part_in, written_block, cut_block}
use Rattle.zb_basis.specs.Operations.{block_bytes, is_longer}
use Rattle.zb_basis.proofs.Merged.{block_byte as block_written, cut_byte as block_cut}
use Rattle.zb_forming_laws.proofs.Anew.{AreNew, IsNew}
use Rattle.zb_forming_laws.proofs.Ranges.{IsAsked, asked-block, asked-within}
use Rattle.zb_forming_laws.proofs.Standing.{bytes-short, byte-of_block}

-- no block is longer than b bytes
abbrev pub AreFit : ℕ → FileState → Type 0
AreFit b file = (k : ℕ) (p : Ptr) → look k file.blocks ≡ Some p → p.len ≤ b

module _ (b : ℕ) (pos : 0 < b) (contents : Contents) (file : FileState) (ends : EndsInFile b file) (fit : AreFit b file) (was : ℕ → Option Ptr) where
  abbrev Old : List ℕ
  Old = shown_bytes b contents file

  abbrev Stood : ℕ → List ℕ
  Stood k = block_bytes (bytes_at contents) (was k)

  length-old : length Old ≡ file.length
  length-old = length-first file.length (file_byte b contents file)

  same_byte : (o q : Option Ptr) (y : ℕ) → SameBlock contents o q → block_byte contents o y ≡ block_byte contents q y
  same_byte None None y s = refl
  same_byte (Some p) (Some q) y s = ap (λ (z : List ℕ). slice_index z y) s.0
  same_byte None (Some q) y s = absurd s
  same_byte (Some p) None y s = absurd s

  -- what stood has the bytes of its block of the file
  stood-byte : (k i : ℕ) → SameBlock contents (was k) (look k file.blocks) → i < b → slice_index (Stood k) i ≡ slice_index Old (k * b + i)
  stood-byte k i same l =
      byte-of_block contents (was k) i ∙ same_byte (was k) (look k file.blocks) i same
      ∙ sym (byte_shown b pos contents file ends (k * b + i) ∙ ap (λ (j : ℕ). block_byte contents (look j file.blocks) ((k * b + i) % b)) (div-mul-add k b i l)
      ∙ ap (block_byte contents (look k file.blocks)) (mod-mul-add k b i l))

  -- it ends within the file, and is no longer than a block
  pub record EndsHere (k : ℕ) : Type 0 where
    pub within : 1 ≤ length (Stood k) → k * b + length (Stood k) ≤ file.length
    pub fits : length (Stood k) ≤ b

  stood-ends : (k : ℕ) → SameBlock contents (was k) (look k file.blocks) → EndsHere k
  stood-ends k same = by (was k) (look k file.blocks) refl refl same where
    by : (o q : Option Ptr) → was k ≡ o → look k file.blocks ≡ q → SameBlock contents o q → EndsHere k
    by None None e f s = record {
      within = λ some. let n = ap (λ (o : Option Ptr). length (block_bytes (bytes_at contents) o)) e in absurd (omega arith);
      fits = let n = ap (λ (o : Option Ptr). length (block_bytes (bytes_at contents) o)) e in omega arith;
    }
    by (Some p) (Some q) e f s =
        let n = ap (λ (o : Option Ptr). length (block_bytes (bytes_at contents) o)) e in
        let few = bytes-short contents p in
        let len = s.1 in
        record { within = λ some. let end = ends k q f in omega arith; fits = let most = fit k q f in omega arith }
    by None (Some q) e f s = absurd s
    by (Some p) None e f s = absurd s

  -- ---- a write

  module _ (fid : Fid) (offset : ℕ) (text : List ℕ) where
    abbrev Wrote : Ask
    Wrote = ask_range b fid offset (offset + length text)

    abbrev Made : ℕ → List ℕ
    Made k = written_block b k (Stood k) offset text

    length-part : (k : ℕ) → length (part_in b k offset text) ≡ min (b - (offset - k * b)) (length text - (k * b - offset))
    length-part k = omega (arith, length-take (b - (offset - k * b)) (drop (k * b - offset) text), length-drop (k * b - offset) text)

    length-made : (k : ℕ) → length (Made k) ≡ max (length (Stood k)) ((offset - k * b) + length (part_in b k offset text))
    length-made k = length-first (max (length (Stood k)) ((offset - k * b) + length (part_in b k offset text))) (byte_over (Stood k) (offset - k * b) (part_in b k offset text))

    module _ (deltas : List Delta) (new : AreNew (IsNew (bytes_at contents) Made) Wrote.first Wrote.count deltas)
        (same : (k : ℕ) → IsAsked Wrote k → SameBlock contents (was k) (look k file.blocks)) where
      asked : (k : ℕ) (p : Ptr) → look k (new_blocks deltas) ≡ Some p → IsAsked Wrote k
      asked k p e = (new.low k p e, new.high k p e)

      pub write-merged : Merged b contents (written Old offset text) deltas
      write-merged = record {
        bytes = λ k p e y l.
            ap (λ (z : List ℕ). slice_index z y) (new.each k p e).bytes_are
            ∙ block_written b (k * b) offset y Old (Stood k) text l (λ i l. stood-byte k i (same k (asked k p e)) l);
        within = λ k p e.
            let len = (new.each k p e).len_is in
            let made = length-made k in
            let part = length-part k in
            let here = asked-within b fid offset (offset + length text) k pos (asked k p e) in
            let low = here.0 in
            let high = here.1 in
            let stood = (stood-ends k (same k (asked k p e))).within in
            let whole = length-first (max (length Old) (offset + length text)) (byte_over Old offset text) in
            grind (arith, length-old, len, made, part, low, high, stood, whole);
      }

      pub write-fit : (k : ℕ) (p : Ptr) → look k (new_blocks deltas) ≡ Some p → p.len ≤ b
      write-fit k p e =
          let len = (new.each k p e).len_is in
          let made = length-made k in
          let part = length-part k in
          let here = (asked-within b fid offset (offset + length text) k pos (asked k p e)).0 in
          let stood = (stood-ends k (same k (asked k p e))).fits in
          omega arith

      pub write-all : AllNew b deltas offset (offset + length text)
      write-all i low high = let is = asked-block b fid offset (offset + length text) i pos low high in new.all (i / b) is.0 is.1

  -- ---- a truncation

  module _ (n : ℕ) where
    abbrev Left : ℕ → List ℕ
    Left k = cut_block b k (Stood k) n

    length-left : (k : ℕ) → length (Left k) ≡ n - k * b
    length-left k = length-first (n - k * b) (slice_index (Stood k))

    -- the new end lies within a block
    abbrev EndsInBlock : Type 0
    EndsInBlock = 0 < n % b

    module _ (count : ℕ) (deltas : List Delta) (new : AreNew (IsNew (bytes_at contents) Left) (n / b) count deltas) (few : count ≤ 1) (some : 0 < count → EndsInBlock)
        (same : EndsInBlock → SameBlock contents (was (n / b)) (look (n / b) file.blocks)) where
      last-block : (k : ℕ) (p : Ptr) → look k (new_blocks deltas) ≡ Some p → (k ≡ n / b) × EndsInBlock
      last-block k p e = let low = new.low k p e in let high = new.high k p e in (omega arith, some (omega arith))

      same-at : (k : ℕ) (p : Ptr) → look k (new_blocks deltas) ≡ Some p → SameBlock contents (was k) (look k file.blocks)
      same-at k p e = let last = last-block k p e in subst (λ (j : ℕ). SameBlock contents (was j) (look j file.blocks)) (sym last.0) (same last.1)

      begins : (k : ℕ) (p : Ptr) → look k (new_blocks deltas) ≡ Some p → (k * b ≤ n) × (n - k * b ≤ b)
      begins k p e =
          let last = (last-block k p e).0 in
          let whole = div-add-mod' n b in
          let rest = mod_below n b pos in
          let start : k * b ≡ n / b * b = ap (λ (j : ℕ). j * b) last in
          (omega arith, omega arith)

      pub cut-merged : Merged b contents (resized Old n) deltas
      cut-merged = record {
        bytes = λ k p e y l.
            ap (λ (z : List ℕ). slice_index z y) (new.each k p e).bytes_are ∙ block_cut b (k * b) n y Old (Stood k) l (λ i l. stood-byte k i (same-at k p e) l);
        within = λ k p e.
            let len = (new.each k p e).len_is in
            let left = length-left k in
            let begin = (begins k p e).0 in
            omega (arith, length-first n (slice_index Old));
      }

      pub cut-fit : (k : ℕ) (p : Ptr) → look k (new_blocks deltas) ≡ Some p → p.len ≤ b
      cut-fit k p e = let len = (new.each k p e).len_is in let left = length-left k in let end = (begins k p e).1 in omega arith

      -- a block that reaches past the new end is the last one, and is longer than its rest
      pub cut-anew : (is_longer b n (was (n / b)) ≡ true → 0 < count) → CutAnew b file n deltas
      cut-anew longer k p e low high =
          let most = fit k p e in
          let whole = div-add-mod' n b in
          let rest = mod_below n b pos in
          let last = last-is k low (omega arith) in
          let start : k * b ≡ n / b * b = ap (λ (j : ℕ). j * b) last in
          let inside : EndsInBlock = omega arith in
          let over : n % b < p.len = omega arith in
          let at : look (n / b) file.blocks ≡ Some p = subst (λ (j : ℕ). look j file.blocks ≡ Some p) last e in
          let count_some = longer (is-longer (was (n / b)) p inside over (subst (SameBlock contents (was (n / b))) at (same inside))) in
          subst (λ (j : ℕ). IsSome (look j (new_blocks deltas))) (sym last) (new.all (n / b) (omega arith) (omega arith)) where
            last-is : (k : ℕ) → k * b < n → n < k * b + b → k ≡ n / b
            last-is k low high =
                let y : n ≡ k * b + (n - k * b) = omega arith in
                sym (ap (λ (m : ℕ). m / b) y ∙ div-mul-add k b (n - k * b) (omega arith))

            is-longer : (o : Option Ptr) (p : Ptr) → 0 < n % b → n % b < p.len → SameBlock contents o (Some p) → is_longer b n o ≡ true
            is-longer None p inside over s = absurd s
            is-longer (Some q) p inside over s = let len = s.1 in grind (arith, nat_tests)
