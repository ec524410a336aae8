-- Where blocks stand after operations, and which were touched.
use Rattle.std.proofs.Common.{◌≡◌, ℕ, ◌+◌, ◌-◌, ◌<◌, ◌≤◌, Bool, true, false, List, [], ◌∷◌, ◌++◌, Option, Some, None, refl, sym, ap, ◌∙◌, inl, inr, arith}
use Rattle.std.specs.Prelude.{if◌then◌else◌, ◌==◌, ◌&&◌, ◌||◌, nat_lt, nat_le, slice_get, is_some}
use Rattle.std.proofs.lemmas.Bool.{cases_lt, le-leb, lt-leb}
use Rattle.std.proofs.lemmas.Bool.Decides.{nat_tests}
use Rattle.zb_types.specs.declared.tables.Found.{Found}
use Rattle.zb_forming.specs.declared.draft.Was.{Was}
use Rattle.zb_forming.specs.declared.draft.Was.TheVariants.{Hole, Stored, New}
use Rattle.zb_forming.specs.declared.draft.Change.{Change}
use Rattle.zb_forming.specs.declared.draft.Draft.{Draft}
use Rattle.zb_forming.specs.Drafts.{is_left, hole_if, place_of, moved_by, later, moved_in, change_at, changes_of}
use Rattle.zb_forming.proofs.Runs.{get-range, get-range_past}

-- ---- later places

later-none : (o : Option Was) → later o None ≡ o
later-none None = refl
later-none (Some was) = refl

later-later : (a b c : Option Was) → later (later a b) c ≡ later a (later b c)
later-later None b c = refl
later-later (Some was) b c = refl

pub some-later : (a b : Option Was) → is_some (later a b) ≡ (is_some a || is_some b)
some-later None b = refl
some-later (Some was) b = refl

-- one more operation
pub moved-more : (ds : List Draft) (d : Draft) (g k : ℕ) → moved_in (ds ++ d ∷ []) g k ≡ later (moved_by d g k) (moved_in ds g k)
moved-more [] d g k = sym (later-none (moved_by d g k))
moved-more (x ∷ ds) d g k = ap (λ o. later o (moved_by x g k)) (moved-more ds d g k) ∙ later-later (moved_by d g k) (moved_in ds g k) (moved_by x g k)

-- no operation puts a block where a lookup found it
abbrev pub IsMoved : Option Was → Type 0
IsMoved None = Unit {0}
IsMoved (Some Hole) = Unit {0}
IsMoved (Some (Stored ptr)) = ⊥
IsMoved (Some (New place)) = Unit {0}

moved-later : (a b : Option Was) → IsMoved a → IsMoved b → IsMoved (later a b)
moved-later None b one other = other
moved-later (Some was) b one other = one

moved-place : (o : Option Change) (t : Bool) → IsMoved (place_of o (hole_if t))
moved-place None true = tt
moved-place None false = tt
moved-place (Some change) t = tt

moved-if : (t : Bool) (o : Option Was) → IsMoved o → IsMoved (if t then o else None)
moved-if true o is = is
moved-if false o is = tt

pub is-moved : (ds : List Draft) (g k : ℕ) → IsMoved (moved_in ds g k)
is-moved [] g k = tt
is-moved (d ∷ ds) g k =
    moved-later (moved_in ds g k) (moved_by d g k) (is-moved ds g k)
    (moved-if (d.done && d.fid.0 == g) (place_of (if nat_le d.first k then slice_get d.changes (k - d.first) else None) (hole_if (is_left d.left k)))
    (moved-place (if nat_le d.first k then slice_get d.changes (k - d.first) else None) (is_left d.left k)))

-- ---- the change of a block

pub change-there : (ds : List Draft) (found : Found) (g first start n k : ℕ) → first ≤ k → k < first + n
    → (if nat_le first k then slice_get (changes_of ds found g first start n) (k - first) else None) ≡ Some (change_at ds found g first start k)
change-there ds found g first start n k low high =
    ap (λ t. if t then slice_get (changes_of ds found g first start n) (k - first) else None) (le-leb first k low)
    ∙ get-range (change_at ds found g first start) first n (k - first) k (omega arith) (omega arith)

pub change-none : (ds : List Draft) (found : Found) (g first start n k : ℕ) → (first ≤ k → k < first + n → ⊥)
    → (if nat_le first k then slice_get (changes_of ds found g first start n) (k - first) else None) ≡ None
change-none ds found g first start n k out = elim (cases_lt k first) [
  | inl l ↦ ap (λ t. if t then slice_get (changes_of ds found g first start n) (k - first) else None) (lt-leb first k l)
  | inr low ↦
      ap (λ t. if t then slice_get (changes_of ds found g first start n) (k - first) else None) (le-leb first k low)
      ∙ get-range_past (change_at ds found g first start) first n (k - first) (behind low)
] where
  behind : first ≤ k → n ≤ k - first
  behind low = elim (cases_lt k (first + n)) [ inl high ↦ absurd (out low high) | inr le ↦ omega (arith, le) ]

-- is there a change of block k?
pub change-some : (ds : List Draft) (found : Found) (g first start n k : ℕ)
    → is_some (if nat_le first k then slice_get (changes_of ds found g first start n) (k - first) else None) ≡ (nat_le first k && nat_lt k (first + n))
change-some ds found g first start n k = elim (cases_lt k (first + n)) as (λ _. is_some (if nat_le first k then slice_get (changes_of ds found g first start n) (k - first) else None) ≡ (nat_le first k && nat_lt k (first + n))) [
  | inl high ↦ elim (cases_lt k first) as (λ _. is_some (if nat_le first k then slice_get (changes_of ds found g first start n) (k - first) else None) ≡ (nat_le first k && nat_lt k (first + n))) [
    | inl l ↦ ap is_some (change-none ds found g first start n k (λ low _. omega (arith, low, l))) ∙ grind (arith, nat_tests)
    | inr low ↦ ap is_some (change-there ds found g first start n k low high) ∙ grind (arith, nat_tests)
  ]
  | inr past ↦ ap is_some (change-none ds found g first start n k (λ low high. omega (arith, high, past))) ∙ grind (arith, nat_tests)
]

-- ---- touched blocks

-- these blocks were touched by the operations
abbrev pub Touched : (ℕ → ℕ → Bool) → List Draft → Type 0
Touched touched ds = (g k : ℕ) → touched g k ≡ is_some (moved_in ds g k)

some-place : (o : Option Change) (t : Bool) → is_some (place_of o (hole_if t)) ≡ (is_some o || t)
some-place None true = refl
some-place None false = refl
some-place (Some change) t = refl

some-if : (t : Bool) (o : Option Was) → is_some (if t then o else None) ≡ (t && is_some o)
some-if true o = refl
some-if false o = refl

-- is a block moved by an operation?
pub some-moved : (d : Draft) (g k : ℕ)
    → is_some (moved_by d g k) ≡ ((d.done && d.fid.0 == g) && (is_some (if nat_le d.first k then slice_get d.changes (k - d.first) else None) || is_left d.left k))
some-moved d g k =
    some-if (d.done && d.fid.0 == g) (place_of (if nat_le d.first k then slice_get d.changes (k - d.first) else None) (hole_if (is_left d.left k)))
    ∙ ap (λ t. (d.done && d.fid.0 == g) && t) (some-place (if nat_le d.first k then slice_get d.changes (k - d.first) else None) (is_left d.left k))
