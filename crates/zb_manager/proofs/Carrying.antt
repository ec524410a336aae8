-- Moves by the cleaner that are carried out, and where they put blocks.
use Rattle.std.proofs.Common.{◌≡◌, ℕ, Bool, true, false, cond, eqb, ◌&&◌, List, [], ◌∷◌, ◌++◌, length, suc, ◌≤◌, Option, Some, None, refl, sym, ap, ◌∙◌, subst, inl, inr, arith}
use Rattle.std.specs.Prelude.{if◌then◌else◌, ◌==◌, is_some}
use Rattle.std.specs.Map.{lookup}
use Rattle.std.specs.BTreeMap.{is_at}
use Rattle.std.specs.Ordering.{nat_cmp, ordering_then, is_eq}
use Rattle.std.specs.Cmp.{tied_then}
use Rattle.std.proofs.lemmas.Bool.{cases_Bool, cases_eq, eq-eqb, ne_eqb, false≢true}
use Rattle.std.proofs.lemmas.Bool.Decides.{nat_tests}
use Rattle.std.proofs.lemmas.List.{append_assoc}
use Rattle.zb_types.specs.declared.ids.Ptr.{Ptr}
use Rattle.zb_types.specs.Keyed.{look, put, replaced}
use Rattle.zb_types.proofs.KeyedLists.{look-put, look-replaced_same, look-replaced_other}
use Rattle.zb_delta.specs.declared.delta.Body.{Body}
use Rattle.zb_delta.specs.declared.delta.Delta.{Delta}
use Rattle.zb_delta.specs.Spelling.{body_of}
use Rattle.zb_tables.specs.Tables.{FileState}
use Rattle.zb_tables.specs.Fold.{Files, with_blocks, is_movable, moved_in, moved, all_moved}
use Rattle.zb_pointers.specs.Seen.{blocks_of, seen_head}
use Rattle.zb_manager.specs.declared.cleaning.Cleaning.{Cleaning}
use Rattle.zb_manager.specs.Works.{one_movable, movable_of}
use Rattle.zb_manager.specs.Cleanings.{Places, is_place, place_in, or_else, block_at, LeadsTo, TakesMove}

-- ---- a file and a block as a key

nat_is_eq : (x y : ℕ) → eqb x y ≡ is_eq (nat_cmp x y)
nat_is_eq x y = grind (arith, nat_tests)

place_at : (a b : ℕ × ℕ) → is_at (λ (q : ℕ × ℕ). ordering_then (nat_cmp a.0 q.0) (nat_cmp a.1 q.1)) b ≡ is_place a b
place_at a b = sym (tied_then (nat_cmp a.0 b.0) (nat_cmp a.1 b.1)) ∙ (λ i. sym (nat_is_eq a.0 b.0) i && sym (nat_is_eq a.1 b.1) i)

-- what stands under a place is what the ordered map has there
pub found_at : (places : Places) (a : ℕ × ℕ) → lookup (is_at (λ (q : ℕ × ℕ). ordering_then (nat_cmp a.0 q.0) (nat_cmp a.1 q.1))) places ≡ place_in places a
found_at places a = ap (λ test. lookup test places) (λ i q. place_at a q i)

-- the ordered map has a pointer under a place
pub put_at : (old new : Places) (a : ℕ × ℕ) (value : Option Ptr)
    → ((q : ℕ × ℕ) → lookup (is_at (λ (r : ℕ × ℕ). ordering_then (nat_cmp q.0 r.0) (nat_cmp q.1 r.1))) new
    ≡ cond (is_at (λ (r : ℕ × ℕ). ordering_then (nat_cmp a.0 r.0) (nat_cmp a.1 r.1)) q) value (lookup (is_at (λ (r : ℕ × ℕ). ordering_then (nat_cmp q.0 r.0) (nat_cmp q.1 r.1))) old))
    → (q : ℕ × ℕ) → place_in new q ≡ (if is_place a q then value else place_in old q)
put_at old new a value at q = sym (found_at new q) ∙ at q ∙ (λ i. cond (place_at a q i) value (found_at old q i))

append_none : (ds : List Delta) → ds ++ [] ≡ ds
append_none [] = refl
append_none (e ∷ es) = ap (λ rest. e ∷ rest) (append_none es)

-- ---- one move

-- a move that is carried out puts a block of a file that is there
record IsMoved (body : Body) (files : Files) : Type 0 where
  file : FileState
  there : look body.fid.0 files ≡ Some file
  is : moved body files ≡ replaced body.fid.0 (with_blocks (put body.block body.now file.blocks) file) files

is_moved : (body : Body) (files : Files) (o : Option FileState) → look body.fid.0 files ≡ o → is_movable body o ≡ true → IsMoved body files
is_moved body files None e movable = absurd (false≢true movable)
is_moved body files (Some file) e movable = record {
  file = file;
  there = e;
  is =
      ap (λ (o : Option FileState). if is_movable body o then moved_in body o files else files) e
      ∙ ap (λ t. if t then replaced body.fid.0 (with_blocks (put body.block body.now file.blocks) file) files else files) movable;
}

-- one that isn't changes nothing
pub not_moved : (body : Body) (files : Files) → is_movable body (look body.fid.0 files) ≡ false → moved body files ≡ files
not_moved body files stays = ap (λ t. if t then moved_in body (look body.fid.0 files) files else files) stays

module _ (body : Body) (files : Files) (m : IsMoved body files) where
  abbrev changed_file : FileState
  changed_file = with_blocks (put body.block body.now m.file.blocks) m.file

  moved_head : (q : ℕ) → seen_head (look q (moved body files)) ≡ seen_head (look q files)
  moved_head q = elim (cases_eq body.fid.0 q) as (λ _. seen_head (look q (moved body files)) ≡ seen_head (look q files)) [
    | inl e ↦
        subst (λ (j : ℕ). seen_head (look j (moved body files)) ≡ seen_head (look j files)) e
        (ap (λ fs. seen_head (look body.fid.0 fs)) m.is ∙ ap seen_head (look-replaced_same body.fid.0 changed_file files (ap is_some m.there)) ∙ sym (ap seen_head m.there))
    | inr other ↦ ap (λ fs. seen_head (look q fs)) m.is ∙ ap seen_head (look-replaced_other q body.fid.0 changed_file files other)
  ]

  moved_block : (q n : ℕ) → look n (blocks_of (look q (moved body files))) ≡ (if body.fid.0 == q && body.block == n then Some body.now else look n (blocks_of (look q files)))
  moved_block q n = elim (cases_eq body.fid.0 q) as (λ _. look n (blocks_of (look q (moved body files))) ≡ (if body.fid.0 == q && body.block == n then Some body.now else look n (blocks_of (look q files)))) [
    | inl e ↦
        subst (λ (j : ℕ). look n (blocks_of (look j (moved body files))) ≡ (if body.fid.0 == j && body.block == n then Some body.now else look n (blocks_of (look j files)))) e
        (ap (λ fs. look n (blocks_of (look body.fid.0 fs))) m.is
        ∙ ap (λ o. look n (blocks_of o)) (look-replaced_same body.fid.0 changed_file files (ap is_some m.there))
        ∙ look-put n body.block body.now m.file.blocks
        ∙ sym (ap (λ t. if t && body.block == n then Some body.now else look n (blocks_of (look body.fid.0 files))) (eq-eqb body.fid.0 body.fid.0 refl)
        ∙ ap (λ o. if body.block == n then Some body.now else look n (blocks_of o)) m.there))
    | inr other ↦
        ap (λ fs. look n (blocks_of (look q fs))) m.is ∙ ap (λ o. look n (blocks_of o)) (look-replaced_other q body.fid.0 changed_file files other)
        ∙ sym (ap (λ t. if t && body.block == n then Some body.now else look n (blocks_of (look q files))) (ne_eqb body.fid.0 q other))
  ]

if_or_else : (t : Bool) (ptr : Ptr) (o other : Option Ptr) → (if t then Some ptr else or_else o other) ≡ or_else (if t then Some ptr else o) other
if_or_else true ptr o other = refl
if_or_else false ptr o other = refl

pub leads_first : (files : Files) (places : Places) → places ≡ [] → LeadsTo places files files
leads_first files places none = record { heads = λ fid. refl; blocks = λ place. ap (λ ps. or_else (place_in ps place) (block_at files place)) (sym none) }

module _ (old new : Cleaning) (files now : Files) (d : Delta) (leads : LeadsTo old.places.entries files now) where
  abbrev B : Body
  B = body_of d

  -- a delta that isn't carried out
  pub takes_none : is_movable B (look B.fid.0 now) ≡ false → new.places.entries ≡ old.places.entries → new.moves ≡ old.moves → TakesMove old new files now d
  takes_none stays places moves = record {
    leads = subst (λ (ps : Places). LeadsTo ps files (moved B now)) (sym places) (subst (LeadsTo old.places.entries files) (sym (not_moved B now stays)) leads);
    moves = moves ∙ sym (ap (λ t. old.moves ++ (if t then d ∷ [] else [])) stays ∙ append_none old.moves);
  }

  -- a delta that is carried out
  pub takes_one : is_movable B (look B.fid.0 now) ≡ true
      → ((q : ℕ × ℕ) → place_in new.places.entries q ≡ (if is_place (B.fid.0, B.block) q then Some B.now else place_in old.places.entries q))
      → new.moves ≡ old.moves ++ d ∷ [] → TakesMove old new files now d
  takes_one movable places moves = record {
    leads = record {
      heads = λ q. moved_head B now here q ∙ leads.heads q;
      blocks = λ p.
          moved_block B now here p.0 p.1 ∙ ap (λ o. if is_place (B.fid.0, B.block) p then Some B.now else o) (leads.blocks p)
          ∙ if_or_else (is_place (B.fid.0, B.block) p) B.now (place_in old.places.entries p) (block_at files p)
          ∙ sym (ap (λ o. or_else o (block_at files p)) (places p));
    };
    moves = moves ∙ sym (ap (λ t. old.moves ++ (if t then d ∷ [] else [])) movable);
  } where
    here : IsMoved B now
    here = is_moved B now (look B.fid.0 now) refl movable

-- ---- all moves

-- the moves that are left do the rest
pub record Cleans (files : Files) (rest all : List Delta) (cleaning : Cleaning) : Type 0 where
  pub now : Files
  pub leads : LeadsTo cleaning.places.entries files now
  pub moves : cleaning.moves ++ movable_of rest now ≡ movable_of all files

pub cleans_first : (files : Files) (all : List Delta) (cleaning : Cleaning) → cleaning.places.entries ≡ [] → cleaning.moves ≡ [] → Cleans files all all cleaning
cleans_first files all cleaning places moves = record { now = files; leads = leads_first files cleaning.places.entries places; moves = ap (λ ds. ds ++ movable_of all files) moves }

pub cleans_on : (files : Files) (d : Delta) (rest all : List Delta) (old new : Cleaning) (c : Cleans files (d ∷ rest) all old) → TakesMove old new files c.now d → Cleans files rest all new
cleans_on files d rest all old new c takes = record {
  now = moved (body_of d) c.now;
  leads = takes.leads;
  moves =
      ap (λ ds. ds ++ movable_of rest (moved (body_of d) c.now)) takes.moves
      ∙ append_assoc old.moves (one_movable d c.now) (movable_of rest (moved (body_of d) c.now)) ∙ c.moves;
}

pub cleans_last : (files : Files) (all : List Delta) (cleaning : Cleaning) → Cleans files [] all cleaning → cleaning.moves ≡ movable_of all files
cleans_last files all cleaning c = sym (append_none cleaning.moves) ∙ c.moves

-- those that are carried out do what all do
pub movable_moves : (ds : List Delta) (files : Files) → all_moved (movable_of ds files) files ≡ all_moved ds files
movable_moves [] files = refl
movable_moves (d ∷ ds) files = elim (cases_Bool (is_movable (body_of d) (look (body_of d).fid.0 files))) [
  | inl movable ↦
      ap (λ t. all_moved ((if t then d ∷ [] else []) ++ movable_of ds (moved (body_of d) files)) files) movable ∙ movable_moves ds (moved (body_of d) files)
  | inr stays ↦
      ap (λ t. all_moved ((if t then d ∷ [] else []) ++ movable_of ds (moved (body_of d) files)) files) stays
      ∙ ap (all_moved (movable_of ds (moved (body_of d) files))) (sym (not_moved (body_of d) files stays)) ∙ movable_moves ds (moved (body_of d) files)
]

one_at_most : (t : Bool) (d : Delta) (ds : List Delta) (n : ℕ) → length ds ≤ n → length ((if t then d ∷ [] else []) ++ ds) ≤ suc n
one_at_most true d ds n le = omega (arith, le)
one_at_most false d ds n le = omega (arith, le)

-- no more than all are carried out
pub movable_few : (ds : List Delta) (files : Files) → length (movable_of ds files) ≤ length ds
movable_few [] files = omega arith
movable_few (d ∷ ds) files =
    one_at_most (is_movable (body_of d) (look (body_of d).fid.0 files)) d (movable_of ds (moved (body_of d) files)) (length ds) (movable_few ds (moved (body_of d) files))
