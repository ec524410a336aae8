-- Blocks that are written whole, and how long blocks are.
use Rattle.std.proofs.Common.{◌≡◌, ℕ, ◌+◌, ◌-◌, ◌*◌, ◌/◌, ◌%◌, ◌<◌, ◌≤◌, min, max, Bool, true, false, List, [], length, map, drop, refl, sym, ap, ◌∙◌, subst, inl, inr, arith, length-take, length-drop}
use Rattle.std.specs.Prelude.{if◌then◌else◌, nat_le, slice_index, Some, None}
use Rattle.std.specs.List.{range_with_len}
use Rattle.std.proofs.lemmas.List.FromFn.{length-map-range_with_len}
use Rattle.std.proofs.lemmas.Bool.{cases_lt, leb-false, leb-true}
use Rattle.std.proofs.lemmas.Bool.Decides.{nat_tests}
use Rattle.std.proofs.Math.Nat.{mul-le-mul_right, mul-le-mul_left, div-mul-le_self}
use Rattle.zb_types.specs.declared.ids.Fid.{Fid}
use Rattle.zb_types.specs.declared.calls.Call.TheVariants.{Write}
use Rattle.zb_types.specs.Apply.{max_file}
use Rattle.zb_types.specs.Bytes.{byte_over, written}
use Rattle.zb_basis.specs.declared.asks.Ask.{Ask}
use Rattle.zb_basis.specs.Looking.{ask_range, ask_to, ask_of}
use Rattle.zb_basis.specs.Merging.{part_in, written_block, cut_block}
use Rattle.zb_forming.specs.Drafts.{write_count}
use Rattle.zb_forming.proofs.Runs.{map-range_same}

over-same : (old part : List ℕ) (i : ℕ) → i < length part → byte_over [] 0 part (0 + i) ≡ byte_over old 0 part (0 + i)
over-same old part i l = grind (arith, nat_tests)

covered : (old part : List ℕ) → length old ≤ length part → written [] 0 part ≡ written old 0 part
covered old part le =
    map-range_same (byte_over [] 0 part) (byte_over old 0 part) 0 0 (max 0 (0 + length part)) (λ i l. over-same old part i (omega (arith, l)))
    ∙ ap (λ (n : ℕ). map (byte_over old 0 part) (range_with_len 0 n)) (omega (arith, le))

length-part : (b k offset : ℕ) (text : List ℕ) → length (part_in b k offset text) ≡ min (b - (offset - k * b)) (length text - (k * b - offset))
length-part b k offset text = omega (arith, length-take (b - (offset - k * b)) (drop (k * b - offset) text), length-drop (k * b - offset) text)

-- where no byte of the old block stays, it makes no difference
pub block-covered : (b k offset : ℕ) (old text : List ℕ) → offset ≤ k * b → k * b + length old ≤ offset + length text → length old ≤ b → written_block b k [] offset text ≡ written_block b k old offset text
block-covered b k offset old text low high fits =
    ap (λ (at : ℕ). written [] at (part_in b k offset text)) none
    ∙ covered old (part_in b k offset text) (omega (arith, length-part b k offset text, low, high, fits))
    ∙ sym (ap (λ (at : ℕ). written old at (part_in b k offset text)) none) where
      none : offset - k * b ≡ 0
      none = omega (arith, low)

length-written : (b k offset : ℕ) (old text : List ℕ) → length (written_block b k old offset text) ≡ max (length old) (offset - k * b + length (part_in b k offset text))
length-written b k offset old text = length-map-range_with_len (byte_over old (offset - k * b) (part_in b k offset text)) 0 (max (length old) (offset - k * b + length (part_in b k offset text)))

length-cut : (b k n : ℕ) (old : List ℕ) → length (cut_block b k old n) ≡ n - k * b
length-cut b k n old = length-map-range_with_len (slice_index old) 0 (n - k * b)

-- a block that is written has from 1 to b bytes
pub written-fits : (b k offset : ℕ) (old text : List ℕ) → 0 < b → length old ≤ b → k * b < offset + length text → offset < k * b + b
    → (1 ≤ length (written_block b k old offset text)) × (length (written_block b k old offset text) ≤ b)
written-fits b k offset old text some fits low high =
    (omega (arith, length-written b k offset old text, length-part b k offset text, low, high, some), omega (arith, length-written b k offset old text, length-part b k offset text, fits, high, some))

-- so has a block that is cut
pub cut-fits : (b n : ℕ) (old : List ℕ) → 0 < b → 0 < n % b → (1 ≤ length (cut_block b (n / b) old n)) × (length (cut_block b (n / b) old n) ≤ b)
cut-fits b n old some rest = (omega (arith, length-cut b (n / b) n old, some, rest), omega (arith, length-cut b (n / b) n old, some))

-- ---- the blocks that are asked for

abbrev range_if : Bool → ℕ → Fid → ℕ → ℕ → Ask
range_if true b fid from to = record { fid = fid; first = 0; count = 0 }
range_if false b fid from to = record { fid = fid; first = from / b; count = (to - 1) / b - from / b + 1 }

range-facts : (b : ℕ) (fid : Fid) (from to k : ℕ) (t : Bool) → 0 < b → nat_le to from ≡ t
    → (range_if t b fid from to).first ≤ k → k < (range_if t b fid from to).first + (range_if t b fid from to).count
    → (k * b < to) × (from < k * b + b)
range-facts b fid from to k true some is low high = absurd (omega (arith, high))
range-facts b fid from to k false some is low high = (before (leb-false to from is), omega (arith, mul-le-mul_right b low, some)) where
  before : from < to → k * b < to
  before l = elim (cases_lt ((to - 1) / b) k) [
    | inl past ↦ omega (arith, mul-le-mul_right {m = k} {n = from / b} b (omega (arith, high, past)), div-mul-le_self from b, l)
    | inr le ↦ omega (arith, mul-le-mul_right {m = k} {n = (to - 1) / b} b le, div-mul-le_self (to - 1) b, l)
  ]

ask-range : (b : ℕ) (fid : Fid) (from to : ℕ) (t : Bool) → nat_le to from ≡ t → ask_range b fid from to ≡ range_if t b fid from to
ask-range b fid from to true is = ap (λ t. if t then record { fid = fid; first = 0; count = 0 } else record { fid = fid; first = from / b; count = (to - 1) / b - from / b + 1 }) is
ask-range b fid from to false is = ap (λ t. if t then record { fid = fid; first = 0; count = 0 } else record { fid = fid; first = from / b; count = (to - 1) / b - from / b + 1 }) is

ask-write : (b : ℕ) (fid : Fid) (offset : ℕ) (text : List ℕ) → nat_le (offset + length text) max_file ≡ true → ask_of b (Write fid offset text) ≡ ask_range b fid offset (offset + length text)
ask-write b fid offset text fits = ap (λ t. ask_to b fid offset (if t then Some (offset + length text) else None)) fits

-- a block that a write touches has a byte of it
pub asked-facts : (b : ℕ) (fid : Fid) (offset : ℕ) (text : List ℕ) (k : ℕ) → 0 < b → nat_le (offset + length text) max_file ≡ true
    → (ask_of b (Write fid offset text)).first ≤ k → k < (ask_of b (Write fid offset text)).first + (ask_of b (Write fid offset text)).count
    → (k * b < offset + length text) × (offset < k * b + b)
asked-facts b fid offset text k some fits low high =
    let e : ask_of b (Write fid offset text) ≡ range_if (nat_le (offset + length text) offset) b fid offset (offset + length text) = ask-write b fid offset text fits ∙ ask-range b fid offset (offset + length text) (nat_le (offset + length text) offset) refl in
    range-facts b fid offset (offset + length text) k (nat_le (offset + length text) offset) some refl
    (subst (λ (ask : Ask). ask.first ≤ k) e low) (subst (λ (ask : Ask). k < ask.first + ask.count) e high)

range-few : (b : ℕ) (fid : Fid) (from to : ℕ) (t : Bool) → 64 ≤ b → to ≤ max_file → nat_le to from ≡ t → (range_if t b fid from to).count ≤ 1048576
range-few b fid from to true low high is = omega arith
range-few b fid from to false low high is =
    omega (arith, mul-le-mul_left {m = 64} {n = b} ((to - 1) / b) low, div-mul-le_self (to - 1) b, leb-false to from is, high)

-- a write touches few blocks
pub write-count : (b : ℕ) (fid : Fid) (offset : ℕ) (text : List ℕ) (done : Bool) → 64 ≤ b → (done ≡ true → nat_le (offset + length text) max_file ≡ true)
    → write_count done (ask_of b (Write fid offset text)).count ≤ 1048576
write-count b fid offset text false low fits = omega arith
write-count b fid offset text true low fits =
    let e : ask_of b (Write fid offset text) ≡ range_if (nat_le (offset + length text) offset) b fid offset (offset + length text) = ask-write b fid offset text (fits refl) ∙ ask-range b fid offset (offset + length text) (nat_le (offset + length text) offset) refl in
    subst (λ (ask : Ask). ask.count ≤ 1048576) (sym e) (range-few b fid offset (offset + length text) (nat_le (offset + length text) offset) low (leb-true (offset + length text) max_file (fits refl)) refl)
