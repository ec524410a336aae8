-- What operations leave of files, where their new blocks have pointers.
use Rattle.std.proofs.Common.{◌≡◌, ℕ, zero, suc, ◌+◌, ◌-◌, ◌<◌, ◌≤◌, Bool, true, false, not, List, [], ◌∷◌, ◌++◌, map, Option, Some, None, refl, sym, ap, ◌∙◌, subst, inl, inr, arith}
use Rattle.std.specs.Prelude.{if◌then◌else◌, ◌==◌, ◌&&◌, nat_le, slice_get, option_map}
use Rattle.std.specs.List.{range_with_len}
use Rattle.std.proofs.lemmas.Option.{same_Some}
use Rattle.std.proofs.lemmas.Bool.{cases_lt, cases_eq, eq-eqb, ne_eqb}
use Rattle.std.proofs.lemmas.Bool.Decides.{nat_tests}
use Rattle.zb_types.specs.declared.ids.Fid.{Fid}
use Rattle.zb_types.specs.declared.ids.Ptr.{Ptr}
use Rattle.zb_types.specs.declared.tables.Found.{Found}
use Rattle.zb_types.specs.Keyed.{look}
use Rattle.zb_types.specs.Apply.{max_file}
use Rattle.zb_delta.specs.declared.delta.Delta.{Delta}
use Rattle.zb_delta.specs.Spelling.{body_of}
use Rattle.zb_basis.specs.Operations.{Changed, version_now, or_found, stands_now, is_done, new_of, or_before, with_file, short_length}
use Rattle.zb_forming.specs.declared.draft.Was.{Was}
use Rattle.zb_forming.specs.declared.draft.Was.TheVariants.{Hole, Stored, New}
use Rattle.zb_forming.specs.declared.draft.Change.{Change}
use Rattle.zb_forming.specs.declared.draft.Draft.{Draft}
use Rattle.zb_forming.specs.Drafts.{is_left, hole_if, place_of, moved_by, later, moved_in, was_found, or_stood, stands, rose_in, version_in, change_at, changes_of}
use Rattle.zb_forming.specs.Ops.{or_no_ptr, ptr_of, delta_of, deltas_made}
use Rattle.zb_forming.proofs.Runs.{map-map_range}
use Rattle.zb_forming.proofs.Moving.{IsMoved, is-moved, moved-more, change-there, change-none}

-- what the operations so far left, where their new blocks have these pointers
pub record Shows (ptrs : List Ptr) (changed : Changed) (ds : List Draft) : Type 0 where
  pub rose : (g : ℕ) → changed.rose g ≡ rose_in ds g
  pub moved : (g k : ℕ) → changed.moved g k ≡ option_map (ptr_of ptrs) (moved_in ds g k)

found-stood : (ptrs : List Ptr) (o : Option Was) (l : Option Ptr) → or_found (option_map (ptr_of ptrs) o) l ≡ ptr_of ptrs (or_stood o (was_found l))
found-stood ptrs None None = refl
found-stood ptrs None (Some ptr) = refl
found-stood ptrs (Some was) l = refl

pub stands-same : (ptrs : List Ptr) (changed : Changed) (ds : List Draft) (found : Found) (fid : Fid) (k : ℕ) → Shows ptrs changed ds → stands_now changed found fid k ≡ ptr_of ptrs (stands ds found fid.0 k)
stands-same ptrs changed ds found fid k shows = ap (λ o. or_found o (look k found.blocks)) (shows.moved fid.0 k) ∙ found-stood ptrs (moved_in ds fid.0 k) (look k found.blocks)

pub version-same : (ptrs : List Ptr) (changed : Changed) (ds : List Draft) (found : Found) (fid : Fid) → Shows ptrs changed ds → version_in ds found fid.0 ≡ version_now changed found fid
version-same ptrs changed ds found fid shows = ap (λ (n : ℕ). if found.version == 0 then 0 else found.version + n) (sym (shows.rose fid.0))

-- a version that may have risen is there where the one that was found is
there-same : (v r : ℕ) → ((if v == 0 then 0 else v + r) == 0) ≡ (v == 0)
there-same zero r = refl
there-same (suc v) r = grind (arith, nat_tests)

pub done-same : (ds : List Draft) (found : Found) (g end : ℕ) → is_done (version_in ds found g) end ≡ is_done found.version end
done-same ds found g end = ap (λ t. not t && nat_le end max_file) (there-same found.version (rose_in ds g))

short-same : (offset n : ℕ) → nat_le (offset + short_length n) max_file ≡ nat_le (offset + n) max_file
short-same offset n = grind (arith, nat_tests)

pub done-short : (ds : List Draft) (found : Found) (g offset n : ℕ) → is_done (version_in ds found g) (offset + short_length n) ≡ is_done found.version (offset + n)
done-short ds found g offset n = done-same ds found g (offset + short_length n) ∙ ap (λ t. not (found.version == 0) && t) (short-same offset n)

-- ---- the new pointer of a block

module _ (h : ℕ → Delta) (blocks : (x : ℕ) → (body_of (h x)).block ≡ x) where
  new-in : (k a n : ℕ) → a ≤ k → k < a + n → new_of k (map h (range_with_len a n)) ≡ Some (body_of (h k)).now
  new-in k a zero low high = absurd (omega (arith, low, high))
  new-in k a (suc n) low high = elim (cases_eq a k) as (λ _. new_of k (map h (range_with_len a (suc n))) ≡ Some (body_of (h k)).now) [
    | inl e ↦
        ap (λ t. if t then Some (body_of (h a)).now else new_of k (map h (range_with_len (a + 1) n))) (ap (λ (x : ℕ). x == k) (blocks a) ∙ eq-eqb a k e)
        ∙ ap (λ (x : ℕ). Some (body_of (h x)).now) e
    | inr other ↦
        ap (λ t. if t then Some (body_of (h a)).now else new_of k (map h (range_with_len (a + 1) n))) (ap (λ (x : ℕ). x == k) (blocks a) ∙ ne_eqb a k other)
        ∙ new-in k (a + 1) n (omega (arith, low, other)) (omega (arith, high))
  ]

  new-out : (k a n : ℕ) → (a ≤ k → k < a + n → ⊥) → new_of k (map h (range_with_len a n)) ≡ None
  new-out k a zero out = refl
  new-out k a (suc n) out =
      ap (λ t. if t then Some (body_of (h a)).now else new_of k (map h (range_with_len (a + 1) n))) (ap (λ (x : ℕ). x == k) (blocks a) ∙ ne_eqb a k (λ e. out (omega (arith, e)) (omega (arith, e))))
      ∙ new-out k (a + 1) n (λ low high. out (omega (arith, low)) (omega (arith, high)))

-- the pointer of a new block
abbrev pub ptr_at : List Ptr → Change → Ptr
ptr_at ptrs change = or_no_ptr (slice_get ptrs change.place)

pub new-changes : (ptrs : List Ptr) (fid : Fid) (version : ℕ) (ds : List Draft) (found : Found) (g first start n k : ℕ)
    → new_of k (deltas_made ptrs fid version (changes_of ds found g first start n))
    ≡ option_map (ptr_at ptrs) (if nat_le first k then slice_get (changes_of ds found g first start n) (k - first) else None)
new-changes ptrs fid version ds found g first start n k =
    ap (new_of k) (map-map_range (delta_of ptrs fid version) (change_at ds found g first start) first n)
    ∙ elim (cases_lt k first) as (λ _. new_of k (map h (range_with_len first n)) ≡ option_map (ptr_at ptrs) (if nat_le first k then slice_get (changes_of ds found g first start n) (k - first) else None)) [
      | inl l ↦ none (λ low high. omega (arith, low, l))
      | inr low ↦ elim (cases_lt k (first + n)) as (λ _. new_of k (map h (range_with_len first n)) ≡ option_map (ptr_at ptrs) (if nat_le first k then slice_get (changes_of ds found g first start n) (k - first) else None)) [
        | inl high ↦ new-in h (λ x. refl) k first n low high ∙ sym (ap (option_map (ptr_at ptrs)) (change-there ds found g first start n k low high))
        | inr past ↦ none (λ low high. omega (arith, high, past))
      ]
    ] where
      h : ℕ → Delta
      h x = delta_of ptrs fid version (change_at ds found g first start x)

      none : (first ≤ k → k < first + n → ⊥) → new_of k (map h (range_with_len first n)) ≡ option_map (ptr_at ptrs) (if nat_le first k then slice_get (changes_of ds found g first start n) (k - first) else None)
      none out = new-out h (λ x. refl) k first n out ∙ sym (ap (option_map (ptr_at ptrs)) (change-none ds found g first start n k out))

-- ---- one more operation

rose-swap : (x d : Bool) (n : ℕ) → (if x then (if d then n + 1 else n) + 1 else (if d then n + 1 else n)) ≡ (if d then (if x then n + 1 else n) + 1 else (if x then n + 1 else n))
rose-swap true true n = refl
rose-swap true false n = refl
rose-swap false true n = refl
rose-swap false false n = refl

rose-more : (ds : List Draft) (d : Draft) (g : ℕ) → rose_in (ds ++ d ∷ []) g ≡ (if d.done && d.fid.0 == g then rose_in ds g + 1 else rose_in ds g)
rose-more [] d g = refl
rose-more (x ∷ ds) d g = ap (λ (n : ℕ). if x.done && x.fid.0 == g then n + 1 else n) (rose-more ds d g) ∙ rose-swap (x.done && x.fid.0 == g) (d.done && d.fid.0 == g) (rose_in ds g)

place-moved : (ptrs : List Ptr) (c : Option Change) (left : Bool) (o : Option Was)
    → or_before (option_map (ptr_at ptrs) c) (if left then Some None else option_map (ptr_of ptrs) o) ≡ option_map (ptr_of ptrs) (later (place_of c (hole_if left)) o)
place-moved ptrs None true o = refl
place-moved ptrs None false o = refl
place-moved ptrs (Some change) left o = refl

and-false : (t : Bool) → (t && false) ≡ false
and-false true = refl
and-false false = refl

moved-here : (d : Draft) (g k : ℕ) → d.done ≡ true → g ≡ d.fid.0 → moved_by d g k ≡ place_of (if nat_le d.first k then slice_get d.changes (k - d.first) else None) (hole_if (is_left d.left k))
moved-here d g k done e =
    (λ i. if done i && eq-eqb d.fid.0 g (sym e) i then place_of (if nat_le d.first k then slice_get d.changes (k - d.first) else None) (hole_if (is_left d.left k)) else None)

moved-other : (d : Draft) (g k : ℕ) → (g ≡ d.fid.0 → ⊥) → moved_by d g k ≡ None
moved-other d g k other =
    ap (λ t. if t then place_of (if nat_le d.first k then slice_get d.changes (k - d.first) else None) (hole_if (is_left d.left k)) else None)
    (ap (λ t. d.done && t) (ne_eqb d.fid.0 g (λ e. other (sym e))) ∙ and-false d.done)

moved-undone : (d : Draft) (g k : ℕ) → d.done ≡ false → moved_by d g k ≡ None
moved-undone d g k undone = ap (λ t. if t && d.fid.0 == g then place_of (if nat_le d.first k then slice_get d.changes (k - d.first) else None) (hole_if (is_left d.left k)) else None) undone

-- the file after an operation that is carried out
abbrev pub after_file : Changed → Fid → List Delta → (ℕ → Bool) → Changed
after_file changed fid deltas left = with_file changed fid (λ k. or_before (new_of k deltas) (if left k then Some None else changed.moved fid.0 k))

pub shows-done : (ptrs : List Ptr) (changed : Changed) (ds : List Draft) (d : Draft) (deltas : List Delta)
    → Shows ptrs changed ds → d.done ≡ true
    → ((k : ℕ) → new_of k deltas ≡ option_map (ptr_at ptrs) (if nat_le d.first k then slice_get d.changes (k - d.first) else None))
    → Shows ptrs (after_file changed d.fid deltas (is_left d.left)) (ds ++ d ∷ [])
shows-done ptrs changed ds d deltas shows done new = record {
  rose = λ g. rose g ∙ sym (rose-more ds d g);
  moved = λ g k. moved g k ∙ sym (ap (option_map (ptr_of ptrs)) (moved-more ds d g k));
} where
  rose : (g : ℕ) → (if g == d.fid.0 then changed.rose g + 1 else changed.rose g) ≡ (if d.done && d.fid.0 == g then rose_in ds g + 1 else rose_in ds g)
  rose g =
      (λ i. if eq-swap g d.fid.0 i then shows.rose g i + 1 else shows.rose g i)
      ∙ ap (λ t. if t && d.fid.0 == g then rose_in ds g + 1 else rose_in ds g) (sym done) where
        eq-swap : (a b : ℕ) → a == b ≡ b == a
        eq-swap a b = grind (arith, nat_tests)

  moved : (g k : ℕ) → (if g == d.fid.0 then or_before (new_of k deltas) (if is_left d.left k then Some None else changed.moved d.fid.0 k) else changed.moved g k) ≡ option_map (ptr_of ptrs) (later (moved_by d g k) (moved_in ds g k))
  moved g k = elim (cases_eq g d.fid.0) as (λ _. (if g == d.fid.0 then or_before (new_of k deltas) (if is_left d.left k then Some None else changed.moved d.fid.0 k) else changed.moved g k) ≡ option_map (ptr_of ptrs) (later (moved_by d g k) (moved_in ds g k))) [
    | inl e ↦
        ap (λ t. if t then or_before (new_of k deltas) (if is_left d.left k then Some None else changed.moved d.fid.0 k) else changed.moved g k) (eq-eqb g d.fid.0 e)
        ∙ (λ i. or_before (new k i) (if is_left d.left k then Some None else shows.moved d.fid.0 k i))
        ∙ place-moved ptrs (if nat_le d.first k then slice_get d.changes (k - d.first) else None) (is_left d.left k) (moved_in ds d.fid.0 k)
        ∙ (λ i. option_map (ptr_of ptrs) (later (sym (moved-here d g k done e) i) (moved_in ds (sym e i) k)))
    | inr other ↦
        ap (λ t. if t then or_before (new_of k deltas) (if is_left d.left k then Some None else changed.moved d.fid.0 k) else changed.moved g k) (ne_eqb g d.fid.0 other)
        ∙ shows.moved g k
        ∙ ap (λ o. option_map (ptr_of ptrs) (later o (moved_in ds g k))) (sym (moved-other d g k other))
  ]

-- an operation that isn't carried out leaves the files
pub shows-undone : (ptrs : List Ptr) (changed : Changed) (ds : List Draft) (d : Draft) → Shows ptrs changed ds → d.done ≡ false → Shows ptrs changed (ds ++ d ∷ [])
shows-undone ptrs changed ds d shows undone = record {
  rose = λ g. shows.rose g ∙ sym (rose-more ds d g ∙ ap (λ t. if t && d.fid.0 == g then rose_in ds g + 1 else rose_in ds g) undone);
  moved = λ g k. shows.moved g k ∙ sym (ap (option_map (ptr_of ptrs)) (moved-more ds d g k ∙ ap (λ o. later o (moved_in ds g k)) (moved-undone d g k undone)));
}

-- ---- places of new blocks

-- each place of a new block is below so many
abbrev pub Bounded : List Draft → ℕ → Type 0
Bounded ds n = (g k place : ℕ) → moved_in ds g k ≡ Some (New place) → place < n

later-bound : (a b : Option Was) (n m place : ℕ) → n ≤ m → (a ≡ Some (New place) → place < m) → (b ≡ Some (New place) → place < n) → later a b ≡ Some (New place) → place < m
later-bound None b n m place le one other e = omega (arith, le, other e)
later-bound (Some was) b n m place le one other e = one e

place-bound : (c : Option Change) (t : Bool) (place : ℕ) → place_of c (hole_if t) ≡ Some (New place) → (change : Change) × (c ≡ Some change) × (change.place ≡ place)
place-bound None true place e = absurd cc
place-bound None false place e = absurd cc
place-bound (Some change) t place e = (change, refl, cc)

if-place : (t : Bool) (o : Option Was) (place : ℕ) → (if t then o else None) ≡ Some (New place) → o ≡ Some (New place)
if-place true o place e = e
if-place false o place e = absurd cc

pub bound-more : (ds : List Draft) (d : Draft) (n m : ℕ) → n ≤ m → Bounded ds n
    → ((k : ℕ) (change : Change) → (if nat_le d.first k then slice_get d.changes (k - d.first) else None) ≡ Some change → change.place < m)
    → Bounded (ds ++ d ∷ []) m
bound-more ds d n m le bound new g k place e =
    later-bound (moved_by d g k) (moved_in ds g k) n m place le one (bound g k place) (sym (moved-more ds d g k) ∙ e) where
      one : moved_by d g k ≡ Some (New place) → place < m
      one is =
          let p = place-bound (if nat_le d.first k then slice_get d.changes (k - d.first) else None) (is_left d.left k) place (if-place (d.done && d.fid.0 == g) (place_of (if nat_le d.first k then slice_get d.changes (k - d.first) else None) (hole_if (is_left d.left k))) place is) in
          subst (λ (x : ℕ). x < m) p.2 (new k p.0 p.1)

-- the places of some changes
pub changes-bound : (ds : List Draft) (found : Found) (g first start n k : ℕ) (change : Change)
    → (if nat_le first k then slice_get (changes_of ds found g first start n) (k - first) else None) ≡ Some change → change.place < start + n
changes-bound ds found g first start n k change e = elim (cases_lt k first) [
  | inl l ↦ absurd (none (change-none ds found g first start n k (λ low high. omega (arith, low, l))))
  | inr low ↦ elim (cases_lt k (first + n)) [
    | inl high ↦ omega (arith, there low high)
    | inr past ↦ absurd (none (change-none ds found g first start n k (λ low high. omega (arith, high, past))))
  ]
] where
  none : (if nat_le first k then slice_get (changes_of ds found g first start n) (k - first) else None) ≡ None → ⊥
  none is = cc

  there : first ≤ k → k < first + n → change.place < start + n
  there low high = subst (λ (c : Change). c.place < start + n) (same_Some _ _ (sym (change-there ds found g first start n k low high) ∙ e)) (omega (arith, low, high))

-- where a block stands by what it was moved to and where it was found
stood-new : (o : Option Was) (l : Option Ptr) (place : ℕ) → or_stood o (was_found l) ≡ New place → o ≡ Some (New place)
stood-new None None place e = absurd cc
stood-new None (Some ptr) place e = absurd cc
stood-new (Some was) l place e = ap Some e

pub stands-new : (ds : List Draft) (found : Found) (g k place n : ℕ) → Bounded ds n → stands ds found g k ≡ New place → place < n
stands-new ds found g k place n bound e = bound g k place (stood-new (moved_in ds g k) (look k found.blocks) place e)

stood-stored : (o : Option Was) (l : Option Ptr) (ptr : Ptr) → IsMoved o → or_stood o (was_found l) ≡ Stored ptr → l ≡ Some ptr
stood-stored None None ptr is e = absurd cc
stood-stored None (Some p) ptr is e = cc
stood-stored (Some Hole) l ptr is e = absurd cc
stood-stored (Some (Stored p)) l ptr is e = absurd is
stood-stored (Some (New place)) l ptr is e = absurd cc

pub stands-stored : (ds : List Draft) (found : Found) (g k : ℕ) (ptr : Ptr) → stands ds found g k ≡ Stored ptr → look k found.blocks ≡ Some ptr
stands-stored ds found g k ptr e = stood-stored (moved_in ds g k) (look k found.blocks) ptr (is-moved ds g k) e
