-- Touched blocks, one operation after the other.
use Rattle.std.proofs.Common.{◌≡◌, ℕ, ◌+◌, ◌-◌, ◌/◌, Bool, true, false, List, [], ◌∷◌, ◌++◌, length, Option, Some, None, refl, sym, ap, ◌∙◌, inl, inr, arith}
use Rattle.std.specs.Prelude.{if◌then◌else◌, ◌==◌, ◌&&◌, ◌||◌, nat_lt, nat_le, slice_get, is_some}
use Rattle.std.proofs.lemmas.Bool.{cases_eq, ne_eqb}
use Rattle.std.proofs.lemmas.Bool.Decides.{nat_tests}
use Rattle.zb_types.specs.declared.ids.Fid.{Fid}
use Rattle.zb_types.specs.declared.ids.Ptr.{Ptr}
use Rattle.zb_types.specs.declared.calls.Call.{Call}
use Rattle.zb_types.specs.declared.calls.Call.TheVariants.{Create, Mkdir, Remove, Rename, Write, Truncate, Sync, Read, List as ListOf, Stat, Find}
use Rattle.zb_types.specs.declared.tables.Found.{Found}
use Rattle.zb_types.specs.Keyed.{look}
use Rattle.zb_basis.specs.Looking.{ask_of}
use Rattle.zb_basis.specs.Operations.{blocks_in, is_done, is_longer}
use Rattle.zb_basis.specs.Wanting.{touches, is_asked}
use Rattle.zb_forming.specs.declared.draft.Was.{Was}
use Rattle.zb_forming.specs.declared.draft.Draft.{Draft}
use Rattle.zb_forming.specs.declared.draft.Drafts.{Drafts}
use Rattle.zb_forming.specs.Drafts.{is_left, moved_by, moved_in, was_found, or_stood, stands, cut_count, write_count, length_at, is_cut, draft_of}
use Rattle.zb_forming.proofs.Moving.{moved-more, some-later, some-moved, change-some, Touched}

or-false : (t : Bool) → (t || false) ≡ t
or-false true = refl
or-false false = refl

or-true : (t : Bool) → (t || true) ≡ true
or-true true = refl
or-true false = refl

and-false : (t : Bool) → (t && false) ≡ false
and-false true = refl
and-false false = refl

or-swap : (a b : Bool) → (a || b) ≡ (b || a)
or-swap true b = sym (or-true b)
or-swap false b = sym (or-false b)

eq-swap : (a b : ℕ) → a == b ≡ b == a
eq-swap a b = grind (arith, nat_tests)

-- a write
write-test : (done asked : Bool) (g f first count k : ℕ) → asked ≡ (nat_le first k && nat_lt k (first + count))
    → (g == f && (done && asked)) ≡ ((done && f == g) && ((nat_le first k && nat_lt k (first + write_count done count)) || false))
write-test true asked g f first count k e = (λ i. eq-swap g f i && e i) ∙ ap (λ t. f == g && t) (sym (or-false (nat_le first k && nat_lt k (first + count))))
write-test false asked g f first count k e = and-false (g == f)

-- a truncation
one-test : (c : Bool) (q k : ℕ) → (nat_le q k && nat_lt k (q + (if c then 1 else 0))) ≡ (k == q && c)
one-test true q k = grind (arith, nat_tests)
one-test false q k = grind (arith, nat_tests)

cut-test : (t done c l left : Bool) (g f q k : ℕ) → (g ≡ f → k ≡ q → t ≡ false → c ≡ l)
    → (t || (g == f && (done && (left || (k == q && l))))) ≡ (((done && f == g) && ((nat_le q k && nat_lt k (q + (if done && c then 1 else 0))) || left)) || t)
cut-test true done c l left g f q k same = sym (or-true ((done && f == g) && ((nat_le q k && nat_lt k (q + (if done && c then 1 else 0))) || left)))
cut-test false false c l left g f q k same = and-false (g == f)
cut-test false true c l left g f q k same =
    cut-inner c l left g f q k (λ p r. same p r refl) ∙ ap (λ t. f == g && (t || left)) (sym (one-test c q k)) ∙ sym (or-false (f == g && ((nat_le q k && nat_lt k (q + (if c then 1 else 0))) || left))) where
      cut-inner : (c l left : Bool) (g f q k : ℕ) → (g ≡ f → k ≡ q → c ≡ l) → (g == f && (left || (k == q && l))) ≡ (f == g && ((k == q && c) || left))
      cut-inner c l left g f q k same = elim (cases_eq g f) as (λ _. (g == f && (left || (k == q && l))) ≡ (f == g && ((k == q && c) || left))) [
        | inl p ↦
            (λ i. eq-swap g f i && or-swap left (k == q && l) i)
            ∙ ap (λ t. f == g && (t || left)) (inner_k p)
        | inr other ↦ ap (λ t. t && (left || (k == q && l))) (ne_eqb g f other) ∙ sym (ap (λ t. t && ((k == q && c) || left)) (eq-swap f g ∙ ne_eqb g f other))
      ] where
        inner_k : g ≡ f → (k == q && l) ≡ (k == q && c)
        inner_k p = elim (cases_eq k q) as (λ _. (k == q && l) ≡ (k == q && c)) [
          | inl r ↦ ap (λ t. k == q && t) (sym (same p r))
          | inr other ↦ ap (λ t. t && l) (ne_eqb k q other) ∙ sym (ap (λ t. t && c) (ne_eqb k q other))
        ]

longer-found : (b n : ℕ) (blocks : List (List ℕ)) (o : Option Ptr) → is_cut b n (length_at blocks (was_found o)) ≡ is_longer b n o
longer-found b n blocks None = grind (arith, nat_tests)
longer-found b n blocks (Some ptr) = refl

none-of : (o : Option Was) → is_some o ≡ false → o ≡ None
none-of None e = refl
none-of (Some was) e = absurd cc

module _ (b : ℕ) (s : Drafts) (call : Call) (found : Found) where
  abbrev D : Draft
  D = draft_of b s call found

  -- what an operation adds to what is moved
  moves-more : (touched : ℕ → ℕ → Bool) (g k : ℕ) (more : Bool) → touched g k ≡ is_some (moved_in s.drafts g k) → (touched g k || more) ≡ (is_some (moved_by D g k) || touched g k)
      → (touched g k || more) ≡ is_some (moved_in (s.drafts ++ D ∷ []) g k)
  moves-more touched g k more t e = e ∙ ap (λ x. is_some (moved_by D g k) || x) t ∙ sym (ap is_some (moved-more s.drafts D g k) ∙ some-later (moved_by D g k) (moved_in s.drafts g k))

-- is the write carried out?
abbrev write_done : Found → ℕ → List ℕ → Bool
write_done found offset text = is_done found.version (offset + length text)

module _ (b : ℕ) (s : Drafts) (found : Found) (touched : ℕ → ℕ → Bool) (is : Touched touched s.drafts) where
  touched-write : (fid : Fid) (offset : ℕ) (text : List ℕ) → Touched (λ g k. touched g k || touches b (Write fid offset text) found g k) (s.drafts ++ draft_of b s (Write fid offset text) found ∷ [])
  touched-write fid offset text g k =
      moves-more b s (Write fid offset text) found touched g k (touches b (Write fid offset text) found g k) (is g k)
      (or-swap (touched g k) (touches b (Write fid offset text) found g k)
      ∙ ap (λ t. t || touched g k)
      (write-test (write_done found offset text) (is_asked (ask_of b (Write fid offset text)) k) g fid.0 (ask_of b (Write fid offset text)).first (ask_of b (Write fid offset text)).count k refl
      ∙ sym (some-moved (draft_of b s (Write fid offset text) found) g k
      ∙ ap (λ t. (write_done found offset text && fid.0 == g) && (t || false))
      (change-some s.drafts found fid.0 (ask_of b (Write fid offset text)).first (length s.blocks) (write_count (write_done found offset text) (ask_of b (Write fid offset text)).count) k))))

  abbrev longer : Fid → ℕ → Bool
  longer fid n = is_cut b n (length_at s.blocks (stands s.drafts found fid.0 (n / b)))

  same-longer : (fid : Fid) (n g k : ℕ) → g ≡ fid.0 → k ≡ n / b → touched g k ≡ false → longer fid n ≡ is_longer b n (look k found.blocks)
  same-longer fid n g k p r t =
      ap (λ o. is_cut b n (length_at s.blocks (or_stood o (was_found (look (n / b) found.blocks))))) (none-of (moved_in s.drafts fid.0 (n / b)) none)
      ∙ longer-found b n s.blocks (look (n / b) found.blocks) ∙ ap (λ (i : ℕ). is_longer b n (look i found.blocks)) (sym r) where
        none : is_some (moved_in s.drafts fid.0 (n / b)) ≡ false
        none = sym ((λ i. is_some (moved_in s.drafts (p i) (r i)))) ∙ (sym (is g k) ∙ t)

  touched-cut : (fid : Fid) (n : ℕ) → Touched (λ g k. touched g k || touches b (Truncate fid n) found g k) (s.drafts ++ draft_of b s (Truncate fid n) found ∷ [])
  touched-cut fid n g k =
      moves-more b s (Truncate fid n) found touched g k (touches b (Truncate fid n) found g k) (is g k)
      (cut-test (touched g k) (is_done found.version n) (longer fid n) (is_longer b n (look k found.blocks)) (nat_le (blocks_in b n) k) g fid.0 (n / b) k (same-longer fid n g k)
      ∙ sym (ap (λ t. t || touched g k)
      (some-moved (draft_of b s (Truncate fid n) found) g k
      ∙ ap (λ t. (is_done found.version n && fid.0 == g) && (t || nat_le (blocks_in b n) k))
      (change-some s.drafts found fid.0 (n / b) (length s.blocks) (cut_count b n (is_done found.version n) (length_at s.blocks (stands s.drafts found fid.0 (n / b)))) k))))

  touched-none : (d : Draft) → d.done ≡ false → Touched (λ g k. touched g k || false) (s.drafts ++ d ∷ [])
  touched-none d undone g k =
      or-false (touched g k) ∙ is g k
      ∙ sym (ap is_some (moved-more s.drafts d g k) ∙ some-later (moved_by d g k) (moved_in s.drafts g k)
      ∙ ap (λ t. t || is_some (moved_in s.drafts g k)) (some-moved d g k ∙ ap (λ t. (t && d.fid.0 == g) && (is_some (if nat_le d.first k then slice_get d.changes (k - d.first) else None) || is_left d.left k)) undone))

  -- one more operation touches what its call touches
  pub touched-more : (call : Call) → Touched (λ g k. touched g k || touches b call found g k) (s.drafts ++ draft_of b s call found ∷ [])
  touched-more (Write fid offset text) = touched-write fid offset text
  touched-more (Truncate fid n) = touched-cut fid n
  touched-more (Create path) = touched-none (draft_of b s (Create path) found) refl
  touched-more (Mkdir path) = touched-none (draft_of b s (Mkdir path) found) refl
  touched-more (Remove path) = touched-none (draft_of b s (Remove path) found) refl
  touched-more (Rename path to) = touched-none (draft_of b s (Rename path to) found) refl
  touched-more Sync = touched-none (draft_of b s Sync found) refl
  touched-more (Read fid offset len) = touched-none (draft_of b s (Read fid offset len) found) refl
  touched-more (ListOf path) = touched-none (draft_of b s (ListOf path) found) refl
  touched-more (Stat path) = touched-none (draft_of b s (Stat path) found) refl
  touched-more (Find path) = touched-none (draft_of b s (Find path) found) refl
