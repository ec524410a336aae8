-- The deltas that move blocks, and the batch of them.
use Rattle.std.proofs.Common.{◌≡◌, ℕ, zero, suc, ◌≤◌, List, [], ◌∷◌, ◌++◌, length, map, drop, Some, None, refl, sym, ap, subst, ◌∙◌, arith}
use Rattle.std.specs.Prelude.{All, slice_get}
use Rattle.std.specs.List.{AllByRecursion}
use Rattle.std.proofs.lemmas.List.{append-nil, length-map}
use Rattle.std.proofs.lemmas.Option.{same_Some}
use Rattle.zb_types.specs.declared.ids.LogId.{LogId}
use Rattle.zb_types.specs.declared.ids.Ptr.{Ptr}
use Rattle.zb_types.specs.declared.nodes.Members.{Members}
use Rattle.zb_numbers.specs.Numbers.{IsBelow}
use Rattle.zb_delta.specs.declared.delta.Body.{Body}
use Rattle.zb_delta.specs.declared.delta.Delta.{Delta}
use Rattle.zb_log.specs.declared.placed.Placed.{Placed}
use Rattle.zb_log.specs.Logs.{SeenLog, IsPlaced}
use Rattle.zb_batch.specs.declared.batch.Batch.{Batch}
use Rattle.zb_batch.specs.Batches.{IsBatch, IsCleanDelta, IsSpellable}
use Rattle.zb_batch.specs.Shapes.{HaveSameShape, Shape, cleans}
use Rattle.zb_batch.specs.Spelling.{meta_length}
use Rattle.zb_basis.specs.declared.basis.Formed.{Formed}
use Rattle.zb_basis.specs.Forming.{IsLaid}
use Rattle.zb_basis.proofs.Each.{all-of}
use Rattle.zb_forming.proofs.Joining.{ptrs-lens}
use Rattle.zb_pass.specs.declared.work.Copies.{Copies}
use Rattle.zb_pass.specs.declared.work.Target.{Target}
use Rattle.zb_pass.specs.Copying.{AreCopied, IsLive}
use Rattle.zb_pass.specs.Moving.{clean_batch, moves, old_lengths, old_ptrs}
use Rattle.zb_pass.specs.Forming.{drafted, IsFormed}
use Rattle.zb_pass.specs.Making.{IsMade}

pub moves_none : (live : List Body) → moves live [] ≡ []
moves_none [] = refl
moves_none (body ∷ bodies) = refl

-- what was made so far is all, once no pointer or no block is left
none_of : (ptrs : List Ptr) → length ptrs ≡ 0 → ptrs ≡ []
none_of [] e = refl
none_of (ptr ∷ ptrs) e = absurd (omega (arith, e))

pub made_all : (made : List Delta) (bodies : List Body) (ptrs : List Ptr) (all : List Delta) → made ++ moves bodies ptrs ≡ all → length ptrs ≡ 0 → made ≡ all
made_all made bodies ptrs all e none = sym (append-nil made) ∙ (ap (λ (ds : List Delta). made ++ ds) (sym (ap (moves bodies) (none_of ptrs none) ∙ moves_none bodies)) ∙ e)

drop_none : (k : ℕ) (bodies : List Body) → length bodies ≤ k → drop k bodies ≡ []
drop_none zero [] l = refl
drop_none zero (body ∷ bodies) l = absurd (omega (arith, l))
drop_none (suc k) [] l = refl
drop_none (suc k) (body ∷ bodies) l = drop_none k bodies (omega (arith, l))

pub made_each : (made : List Delta) (bodies : List Body) (ptrs : List Ptr) (all : List Delta) (k : ℕ) → made ++ moves (drop k bodies) ptrs ≡ all → length bodies ≤ k → made ≡ all
made_each made bodies ptrs all k e l = sym (append-nil made) ∙ (ap (λ (ds : List Delta). made ++ ds) (sym (ap (λ (bs : List Body). moves bs ptrs) (drop_none k bodies l))) ∙ e)

moves_count : (live : List Body) (ptrs : List Ptr) → length ptrs ≡ length live → length (moves live ptrs) ≡ length live
moves_count [] ptrs e = refl
moves_count (body ∷ bodies) [] e = absurd (omega (arith, e))
moves_count (body ∷ bodies) (ptr ∷ ptrs) e = ap suc (moves_count bodies ptrs (omega (arith, e)))

moves_clean : (live : List Body) (ptrs : List Ptr) → AllByRecursion IsCleanDelta (moves live ptrs)
moves_clean [] ptrs = tt
moves_clean (body ∷ bodies) [] = tt
moves_clean (body ∷ bodies) (ptr ∷ ptrs) = (tt, moves_clean bodies ptrs)

-- the batch's length is the same for all pointers
abbrev pub ShapeLaw : Type 0
ShapeLaw = (batch other : Batch) → HaveSameShape batch other → meta_length batch ≡ meta_length other

draft_count : (live : List Body) → length (moves live (old_ptrs live)) ≡ length live
draft_count live = moves_count live (old_ptrs live) (length-map live (λ (body : Body). body.now))

same_length : ShapeLaw → (id : LogId) (number : ℕ) (live : List Body) (ptrs : List Ptr) → length ptrs ≡ length live
    → meta_length (drafted id number live) ≡ meta_length (clean_batch id number (moves live ptrs))
same_length law id number live ptrs e =
    law (drafted id number live) (clean_batch id number (moves live ptrs)) (ap (λ (n : ℕ). let s : List Shape = cleans n ∷ [] in s) (draft_count live ∙ sym (moves_count live ptrs e)))

pub spelled_again : ShapeLaw → (id : LogId) (number : ℕ) (live : List Body) (ptrs : List Ptr) → length ptrs ≡ length live → IsSpellable (drafted id number live)
    → IsSpellable (clean_batch id number (moves live ptrs))
spelled_again law id number live ptrs e s = record {
  shaped = (moves_clean live ptrs, tt);
  company = refl;
  short = subst (IsBelow 4) (same_length law id number live ptrs e) s.short;
}

-- as many pointers as blocks
pub ptrs_count : (ptrs : List Ptr) (live : List Body) → map (λ (p : Ptr). p.len) ptrs ≡ old_lengths live → length ptrs ≡ length live
ptrs_count ptrs live e = sym (length-map ptrs (λ (p : Ptr). p.len)) ∙ (ap length e ∙ length-map live (λ (body : Body). body.now.len))

pub laid_lens : (log : SeenLog) (meta : ℕ) (live : List Body) (placed : Placed) → IsLaid log meta (old_lengths live) placed → map (λ (p : Ptr). p.len) placed.ptrs ≡ old_lengths live
laid_lens log meta live placed laid = ptrs-lens log.log placed.pieces placed.ptrs (old_lengths live) laid.ptrs

pub laid_count : (log : SeenLog) (meta : ℕ) (live : List Body) (placed : Placed) → IsLaid log meta (old_lengths live) placed → length placed.ptrs ≡ length live
laid_count log meta live placed laid = ptrs_count placed.ptrs live (laid_lens log meta live placed laid)

-- the meta part of the batch has the length that was placed
pub meta_is : ShapeLaw → (log : SeenLog) (id : LogId) (number meta : ℕ) (live : List Body) (placed : Placed) (batch : Batch) → IsLaid log meta (old_lengths live) placed
    → meta ≡ meta_length (drafted id number live) → batch ≡ clean_batch id number (moves live placed.ptrs) → meta ≡ meta_length batch
meta_is law log id number meta live placed batch laid m b = m ∙ (same_length law id number live placed.ptrs (laid_count log meta live placed laid) ∙ ap meta_length (sym b))

pub placed_is : (log : SeenLog) (meta other : ℕ) (live : List Body) (blocks : List (List ℕ)) (placed : Placed) → IsLaid log meta (old_lengths live) placed → meta ≡ other → map length blocks ≡ old_lengths live
    → IsPlaced log other (map length blocks) placed
placed_is log meta other live blocks placed laid m c =
    subst (λ (k : ℕ). IsPlaced log k (map length blocks) placed) m (subst (λ (ns : List ℕ). IsPlaced log meta ns placed) (sym c) laid.exact)

-- the batch that was placed and sealed is the one of these copies
pub formed_is : ShapeLaw → (n f : ℕ) (log : SeenLog) (id : LogId) (number meta : ℕ) (members : Members) (copies : Copies) (batch : Batch) (placed : Placed) (formed : Formed) → log.log ≡ id
    → meta ≡ meta_length (drafted id number copies.live) → IsSpellable (drafted id number copies.live) → map length copies.blocks ≡ old_lengths copies.live
    → batch ≡ clean_batch id number (moves copies.live placed.ptrs) → IsLaid log meta (old_lengths copies.live) placed → (1 ≤ batch.number → IsBatch batch)
    → IsMade n f log members batch placed copies.blocks formed → IsFormed n f log number members copies formed
formed_is law n f log id number meta members copies batch placed formed same m spelled c b laid whole is_made = record {
  seen = is_made.same_members;
  moves = record {
    batch_is = there ∙ (λ i. clean_batch (sym same i) number (moves copies.live (sym is_made.same_place i).ptrs));
    lens = ap (λ (p : Placed). map (λ (q : Ptr). q.len) p.ptrs) is_made.same_place ∙ laid_lens log meta copies.live placed laid;
  };
  spelled = subst IsSpellable (sym there) (spelled_again law id number copies.live placed.ptrs (laid_count log meta copies.live placed laid) spelled);
  whole = λ low. subst IsBatch (sym is_made.same_batch) (whole (subst (λ (x : Batch). 1 ≤ x.number) (sym b) low));
  laid =
      subst (λ (p : Placed). IsLaid log (meta_length formed.sealed.batch) (map length copies.blocks) p) (sym is_made.same_place)
      (subst (λ (ns : List ℕ). IsLaid log (meta_length formed.sealed.batch) ns placed) (sym c)
      (subst (λ (k : ℕ). IsLaid log k (old_lengths copies.live) placed) (meta_is law log id number meta copies.live placed batch laid m b ∙ ap meta_length (sym is_made.same_batch)) laid));
  is_sealed = is_made.is_sealed;
  log_is = is_made.log_is;
  room = is_made.room;
  ahead = is_made.ahead;
  stored = is_made.stored;
} where
  there : formed.sealed.batch ≡ clean_batch id number (moves copies.live placed.ptrs)
  there = is_made.same_batch ∙ b

-- ---- the blocks

-- all blocks have come: they are as long as their pointers say
pub copied_lens : (live : List Body) (blocks : List (List ℕ)) → AreCopied live blocks → slice_get live (length blocks) ≡ None → map length blocks ≡ old_lengths live
copied_lens [] [] h e = refl
copied_lens (body ∷ live) [] h e = absurd cc
copied_lens [] (block ∷ blocks) h e = absurd h
copied_lens (body ∷ live) (block ∷ blocks) h e = λ i. h.0 i ∷ copied_lens live blocks h.1 e i

pub copied_all : (live : List Body) (blocks : List (List ℕ)) → AreCopied live blocks → slice_get live (length blocks) ≡ None → length blocks ≡ length live
copied_all [] [] h e = refl
copied_all (body ∷ live) [] h e = absurd cc
copied_all [] (block ∷ blocks) h e = absurd h
copied_all (body ∷ live) (block ∷ blocks) h e = ap suc (copied_all live blocks h.1 e)

lens_each : (room most : ℕ) (target : Target) (live : List Body) → AllByRecursion (IsLive room most target) live → AllByRecursion (λ (n : ℕ). (1 ≤ n) × (n ≤ most)) (old_lengths live)
lens_each room most target [] h = tt
lens_each room most target (body ∷ live) h = ((omega (arith, h.0.block.some), h.0.block.fits), lens_each room most target live h.1)

-- blocks may be placed
pub lens_fit : (room most : ℕ) (target : Target) (live : List Body) → AllByRecursion (IsLive room most target) live → All (λ (n : ℕ). (1 ≤ n) × (n ≤ most)) (old_lengths live)
lens_fit room most target live h = all-of (λ (n : ℕ). (1 ≤ n) × (n ≤ most)) (old_lengths live) (lens_each room most target live h)

-- what is true of each is true of the one at a place
pub each_at : {A : Type 0} (P : A → Type 0) (xs : List A) (k : ℕ) (x : A) → AllByRecursion P xs → slice_get xs k ≡ Some x → P x
each_at P [] k x h e = absurd cc
each_at P (y ∷ ys) zero x h e = subst P (same_Some y x e) h.0
each_at P (y ∷ ys) (suc k) x h e = each_at P ys k x h.1 e

-- one more block has come
pub copied_more : (live : List Body) (blocks : List (List ℕ)) (body : Body) (bytes : List ℕ) → AreCopied live blocks → slice_get live (length blocks) ≡ Some body → length bytes ≡ body.now.len
    → AreCopied live (blocks ++ bytes ∷ [])
copied_more [] [] body bytes h e l = absurd cc
copied_more (x ∷ live) [] body bytes h e l = (l ∙ ap (λ (b : Body). b.now.len) (sym (same_Some x body e)), tt)
copied_more [] (block ∷ blocks) body bytes h e l = absurd h
copied_more (x ∷ live) (block ∷ blocks) body bytes h e l = (h.0, copied_more live blocks body bytes h.1 e l)
