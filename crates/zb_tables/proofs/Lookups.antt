-- Blocks of a lookup that stay current.
use Rattle.std.proofs.Common.{◌≡◌, ℕ, Bool, true, List, [], ◌∷◌, Option, Some, None, refl, sym, ap, ◌∙◌, subst, inl, inr, arith}
use Rattle.std.specs.Prelude.{if◌then◌else◌, is_some, IsSomeAnd, IfSome}
use Rattle.std.proofs.lemmas.Bool.{cases_eq, cases_Bool, cases_order, false≢true}
use Rattle.std.proofs.lemmas.Option.{none-some, same_Some}
use Rattle.zb_types.specs.declared.ids.Ptr.{Ptr}
use Rattle.zb_types.specs.declared.tables.HeldUse.{HeldUse}
use Rattle.zb_types.specs.Keyed.{look, put, replaced}
use Rattle.zb_types.proofs.KeyedLists.{look-put_same, look-put_other, look-replaced_same, look-replaced_other, over, look-changed}
use Rattle.zb_delta.specs.declared.delta.Delta.{Delta}
use Rattle.zb_delta.specs.Spelling.{body_of}
use Rattle.zb_tables.specs.Tables.{FileState, Contents, IsCommitted, SameIn, head_of}
use Rattle.zb_tables.specs.Fold.{Files, below, same_place, set_all, with_blocks, is_movable, moved_in, moved, all_moved}
use Rattle.zb_tables.specs.Looking.{SameBlock}
use Rattle.zb_tables.specs.Pointing.{IsCopy, AllCopies}
use Rattle.zb_tables.specs.Leaving.{HasCopies}
use Rattle.zb_tables.proofs.Below.{look-kept, look-cut}
use Rattle.zb_tables.proofs.Cleans.{same_ptr_is}
use Rattle.zb_tables.proofs.Growing.{same_bytes}
use Rattle.zb_tables.proofs.Heads.{heads_stay}

module _ (contents : Contents) where
  abbrev Same : Option Ptr → Option Ptr → Type 0
  Same o q = SameBlock contents o q

  pub block_same : (o : Option Ptr) → Same o o
  block_same None = tt
  block_same (Some p) = (refl, refl)

  block_is : (o q : Option Ptr) → o ≡ q → Same o q
  block_is o q e = subst (Same o) e (block_same o)

  pub block_then : (o p q : Option Ptr) → Same o p → Same p q → Same o q
  block_then None None None one other = tt
  block_then (Some o) (Some p) (Some q) one other = (one.0 ∙ other.0, one.1 ∙ other.1)
  block_then None None (Some q) one other = absurd other
  block_then None (Some p) q one other = absurd one
  block_then (Some o) None q one other = absurd one
  block_then (Some o) (Some p) None one other = absurd other

  -- ---- new pointers put on both sides

  put_same : (k block : ℕ) (now : Ptr) (xs ys : List (ℕ × Ptr)) → Same (look k xs) (look k ys) → Same (look k (put block now xs)) (look k (put block now ys))
  put_same k block now xs ys same = elim (cases_eq block k) as (λ _. Same (look k (put block now xs)) (look k (put block now ys))) [
    | inl here ↦ subst (λ (j : ℕ). Same (look j (put block now xs)) (look j (put block now ys))) here (block_is _ _ (look-put_same block now xs ∙ sym (look-put_same block now ys)))
    | inr other ↦ subst (Same (look k (put block now xs))) (sym (look-put_other k block now ys other)) (subst (λ (o : Option Ptr). Same o (look k ys)) (sym (look-put_other k block now xs other)) same)
  ]

  pub set_same : (k : ℕ) (ds : List Delta) (xs ys : List (ℕ × Ptr)) → Same (look k xs) (look k ys) → Same (look k (set_all ds xs)) (look k (set_all ds ys))
  set_same k [] xs ys same = same
  set_same k (d ∷ ds) xs ys same = set_same k ds (put (body_of d).block (body_of d).now xs) (put (body_of d).block (body_of d).now ys) (put_same k (body_of d).block (body_of d).now xs ys same)

  below_same : (n k : ℕ) (xs ys : List (ℕ × Ptr)) → Same (look k xs) (look k ys) → Same (look k (below n xs)) (look k (below n ys))
  below_same n k xs ys same = elim (cases_order k n) as (λ _. Same (look k (below n xs)) (look k (below n ys))) [
    | inl here ↦ block_is _ _ (look-cut n k xs (omega (arith, here)) ∙ sym (look-cut n k ys (omega (arith, here))))
    | inr apart ↦ elim apart as (λ _. Same (look k (below n xs)) (look k (below n ys))) [
      | inl low ↦ subst (Same (look k (below n xs))) (sym (look-kept n k ys low)) (subst (λ (o : Option Ptr). Same o (look k ys)) (sym (look-kept n k xs low)) same)
      | inr high ↦ block_is _ _ (look-cut n k xs (omega (arith, high)) ∙ sym (look-cut n k ys (omega (arith, high))))
    ]
  ]

  pub cut_same : (n k : ℕ) (ds : List Delta) (xs ys : List (ℕ × Ptr)) → Same (look k xs) (look k ys) → Same (look k (set_all ds (below n xs))) (look k (set_all ds (below n ys)))
  cut_same n k ds xs ys same = set_same k ds (below n xs) (below n ys) (below_same n k xs ys same)

  -- ---- blocks moved to copies

  pub copies_refl : (file : FileState) → HasCopies contents file file
  copies_refl file = record { version = refl; length = refl; blocks = λ k. block_same (look k file.blocks) }

  copies_then : (a b c : FileState) → HasCopies contents a b → HasCopies contents b c → HasCopies contents a c
  copies_then a b c f g = record {
    version = g.version ∙ f.version;
    length = g.length ∙ f.length;
    blocks = λ k. block_then (look k a.blocks) (look k b.blocks) (look k c.blocks) (f.blocks k) (g.blocks k);
  }

  place_is : (o : Option Ptr) (was : Ptr) → same_place o (Some was) ≡ true → o ≡ Some was
  place_is None was e = absurd (false≢true e)
  place_is (Some p) was e = ap Some (same_ptr_is 0 contents p was e)

  copied_block : (k block : ℕ) (now was : Ptr) (blocks : List (ℕ × Ptr)) → look block blocks ≡ Some was → Same (Some was) (Some now) → Same (look k blocks) (look k (put block now blocks))
  copied_block k block now was blocks there copy = elim (cases_eq block k) as (λ _. Same (look k blocks) (look k (put block now blocks))) [
    | inl here ↦ subst (λ (j : ℕ). Same (look j blocks) (look j (put block now blocks))) here (
        subst (Same (look block blocks)) (sym (look-put_same block now blocks)) (subst (λ (o : Option Ptr). Same o (Some now)) (sym there) copy))
    | inr other ↦ block_is _ _ (sym (look-put_other k block now blocks other))
  ]

  copied : (file : FileState) (d : Delta) → IsCopy contents d → same_place (look (body_of d).block file.blocks) (body_of d).was ≡ true
      → HasCopies contents file (with_blocks (put (body_of d).block (body_of d).now file.blocks) file)
  copied file d copy still =
      let there = place_is (look (body_of d).block file.blocks) copy.was (ap (same_place (look (body_of d).block file.blocks)) (sym copy.is) ∙ still) in
      record {
        version = refl;
        length = refl;
        blocks = λ k. copied_block k (body_of d).block (body_of d).now copy.was file.blocks there (sym copy.bytes, sym copy.len);
      }

  module _ (n : ℕ) (old : FileState) where
    abbrev Left : Files → Type 0
    Left files = IsSomeAnd (look n files) (HasCopies contents old)

    left_is : (files : Files) (file : FileState) → look n files ≡ Some file → HasCopies contents old file → Left files
    left_is files file at has = subst (λ (o : Option FileState). IsSomeAnd o (HasCopies contents old)) (sym at) has

    left_replaced : (files : Files) (fid : ℕ) (file new : FileState) → look fid files ≡ Some file → look n files ≡ Some old → HasCopies contents file new → Left (replaced fid new files)
    left_replaced files fid file new there at has = elim (cases_eq fid n) as (λ _. Left (replaced fid new files)) [
      | inl here ↦
          let now : look n files ≡ Some file = subst (λ (j : ℕ). look j files ≡ Some file) here there in
          let was : file ≡ old = same_Some file old (sym now ∙ at) in
          let set : look n (replaced fid new files) ≡ Some new = subst (λ (j : ℕ). look j (replaced fid new files) ≡ Some new) here (look-replaced_same fid new files (ap is_some there)) in
          left_is (replaced fid new files) new set (subst (λ (f : FileState). HasCopies contents f new) was has)
      | inr other ↦ left_is (replaced fid new files) old (look-replaced_other n fid new files other ∙ at) (copies_refl old)
    ]

    one_left : (files : Files) (d : Delta) → IsCopy contents d → look n files ≡ Some old → (o : Option FileState) → look (body_of d).fid.0 files ≡ o
        → Left (if is_movable (body_of d) o then moved_in (body_of d) o files else files)
    one_left files d copy at None e = left_is files old at (copies_refl old)
    one_left files d copy at (Some file) e = elim (cases_Bool (is_movable (body_of d) (Some file))) as (λ _. Left (if is_movable (body_of d) (Some file) then moved_in (body_of d) (Some file) files else files)) [
      | inr f ↦ subst (λ (z : Bool). Left (if z then moved_in (body_of d) (Some file) files else files)) (sym f) (left_is files old at (copies_refl old))
      | inl t ↦ subst (λ (z : Bool). Left (if z then moved_in (body_of d) (Some file) files else files)) (sym t)
          (left_replaced files (body_of d).fid.0 file (with_blocks (put (body_of d).block (body_of d).now file.blocks) file) e at (copied file d copy t))
    ]

  some_then : (a b : FileState) (o : Option FileState) → HasCopies contents a b → IsSomeAnd o (HasCopies contents b) → IsSomeAnd o (HasCopies contents a)
  some_then a b None f g = absurd g
  some_then a b (Some c) f g = copies_then a b c f g

  what_is : (o : Option FileState) (P : FileState → Type 0) → IsSomeAnd o P → (file : FileState) × (o ≡ Some file) × P file
  what_is None P is = absurd is
  what_is (Some file) P is = (file, refl, is)

  pub clean_left : (ds : List Delta) (files : Files) (n : ℕ) (old : FileState) → AllCopies contents ds → look n files ≡ Some old → IsSomeAnd (look n (all_moved ds files)) (HasCopies contents old)
  clean_left [] files n old copies at = left_is n old files old at (copies_refl old)
  clean_left (d ∷ ds) files n old copies at =
      let first = what_is (look n (moved (body_of d) files)) (HasCopies contents old) (one_left n old files d copies.0 at (look (body_of d).fid.0 files) refl) in
      some_then old first.0 (look n (all_moved ds (moved (body_of d) files))) first.2 (clean_left ds (moved (body_of d) files) n first.0 copies.1 first.1)

  pub clean_same : (k : ℕ) (found : List (ℕ × Ptr)) (old new : FileState) → HasCopies contents old new → Same (look k found) (look k old.blocks) → Same (look k found) (look k new.blocks)
  clean_same k found old new has same = block_then (look k found) (look k old.blocks) (look k new.blocks) same (has.blocks k)

-- a file that isn't there isn't made
pub clean_none : (ds : List Delta) (files : Files) (n : ℕ) → look n files ≡ None → look n (all_moved ds files) ≡ None
clean_none ds files n none = no_head (look n (all_moved ds files)) (sym (look-changed head_of n (all_moved ds files)) ∙ ap (look n) (heads_stay ds files) ∙ look-changed head_of n files ∙ ap (over head_of) none) where
  no_head : (o : Option FileState) → over head_of o ≡ None → o ≡ None
  no_head None e = refl
  no_head (Some file) e = absurd (none-some (head_of file) (sym e))

-- ---- contents that grow

pub block_grows : (held : List HeldUse) (one other : Contents) (o q : Option Ptr) → SameIn held one other → IfSome o (IsCommitted held) → IfSome q (IsCommitted held) → SameBlock one o q → SameBlock other o q
block_grows held one other None None same p r is = tt
block_grows held one other (Some o) (Some q) same p r is = (sym (same_bytes held one other same o p) ∙ is.0 ∙ same_bytes held one other same q r, is.1)
block_grows held one other None (Some q) same p r is = absurd is
block_grows held one other (Some o) None same p r is = absurd is
