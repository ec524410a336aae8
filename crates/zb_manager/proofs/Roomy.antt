-- Room for each of some steps or moves, made one behind the other.
use Rattle.std.proofs.Common.{◌≡◌, ℕ, zero, suc, ◌+◌, ◌<◌, ◌≤◌, Bool, true, List, [], ◌∷◌, length, get_or, Option, refl, sym, ap, ◌∙◌, subst, inl, inr, arith}
use Rattle.std.specs.Prelude.{IsSomeAnd, if◌then◌else◌, ◌==◌}
use Rattle.std.proofs.lemmas.Bool.{cases_eq, cases_Bool, ne_eqb, eq-eqb}
use Rattle.zb_delta.specs.declared.delta.Delta.{Delta}
use Rattle.zb_delta.specs.Spelling.{body_of}
use Rattle.zb_pointers.specs.Seen.{SeenPointers, HasRoom, KeepsRoom, SameRooms}
use Rattle.zb_manager.specs.declared.work.Step.{Step}
use Rattle.zb_manager.specs.declared.work.Step.TheVariants.{Raise, Shorten}
use Rattle.zb_manager.specs.Works.{HasRoomFor, fid_of, fresh_in, is_fresh, moves_by, moves_new, needed, needed_by, one_if}
use Rattle.zb_manager.proofs.Rooms.{less_room}

-- a call that keeps the room of a file and of the others keeps the room of each
pub keeps_each : (fid q n : ℕ) (old new : SeenPointers) → KeepsRoom fid old new → SameRooms fid old new → HasRoom old q n → HasRoom new q n
keeps_each fid q n old new keeps same has = elim (cases_eq q fid) as (λ _. HasRoom new q n) [
  | inl e ↦ subst (λ (k : ℕ). HasRoom new k n) (sym e) (keeps n (subst (λ (k : ℕ). HasRoom old k n) e has))
  | inr ne ↦ subst (λ (o : Option ℕ). IsSomeAnd o (λ room. n ≤ room)) (sym (same q ne)) has
]

-- each of the first i steps has the room of its file
pub record StepsRoom (start now : SeenPointers) (steps : List Step) (i : ℕ) : Type 0 where
  pub files : now.files ≡ start.files
  pub block : now.block ≡ start.block
  pub room : (j : ℕ) (d : Step) → j < i → HasRoom now (fid_of (get_or steps j d)) (needed (fid_of (get_or steps j d)) steps)

-- a step of a file that needs room
record OfFile (fid : ℕ) (steps : List Step) : Type 0 where
  pub at : ℕ
  pub step : Step
  pub within : at < length steps
  pub is : fid_of (get_or steps at step) ≡ fid

other_step : (fid : ℕ) (s : Step) → (fid_of s ≡ fid → ⊥) → needed_by fid s ≡ 0
other_step fid (Raise g end deltas) ne = ap (λ (b : Bool). if b then length deltas else 0) (ne_eqb g.0 fid ne)
other_step fid (Shorten g size deltas) ne = ap (λ (b : Bool). if b then length deltas else 0) (ne_eqb g.0 fid ne)

find_step : (fid : ℕ) (steps : List Step) → (needed fid steps ≡ 0 → ⊥) → OfFile fid steps
find_step fid [] some = absurd (some refl)
find_step fid (s ∷ ss) some = elim (cases_eq (fid_of s) fid) as (λ _. OfFile fid (s ∷ ss)) [
  | inl e ↦ record { at = 0; step = s; within = omega arith; is = e }
  | inr ne ↦
      let none = other_step fid s ne in
      let more = find_step fid ss (λ z. some (omega arith)) in
      record { at = suc more.at; step = more.step; within = omega (arith, more.within); is = more.is }
]

pub steps_room : (start now : SeenPointers) (steps : List Step) (i : ℕ) → StepsRoom start now steps i → length steps ≤ i → (fid : ℕ) → HasRoomFor now fid (needed fid steps)
steps_room start now steps i r le fid some =
    let found = find_step fid steps some in
    let lt = found.within in
    subst (λ (k : ℕ). HasRoom now k (needed k steps)) found.is (r.room found.at found.step (omega arith))

-- one more step has it
pub step_room : (start now new : SeenPointers) (steps : List Step) (i fid : ℕ) (d : Step) → StepsRoom start now steps i → i < length steps → fid ≡ fid_of (get_or steps i d)
    → new.files ≡ now.files → new.block ≡ now.block → KeepsRoom fid now new → SameRooms fid now new → HasRoom new fid (needed fid steps) → StepsRoom start new steps (i + 1)
step_room start now new steps i fid d r lt is files block keeps same has = record {
  files = files ∙ r.files;
  block = block ∙ r.block;
  room = λ j e l. elim (cases_eq j i) as (λ _. HasRoom new (fid_of (get_or steps j e)) (needed (fid_of (get_or steps j e)) steps)) [
    | inl here ↦
        subst (λ (k : ℕ). HasRoom new k (needed k steps)) (is ∙ same_at steps i d e lt ∙ sym (ap (λ (k : ℕ). fid_of (get_or steps k e)) here)) has
    | inr ne ↦ keeps_each fid (fid_of (get_or steps j e)) (needed (fid_of (get_or steps j e)) steps) now new keeps same (r.room j e (omega arith))
  ];
} where
  same_at : (ss : List Step) (k : ℕ) (d e : Step) → k < length ss → fid_of (get_or ss k d) ≡ fid_of (get_or ss k e)
  same_at [] k d e l = absurd (omega arith)
  same_at (s ∷ ss) zero d e l = refl
  same_at (s ∷ ss) (suc k) d e l = same_at ss k d e (omega arith)

-- Moves.

-- each of the first i moves that puts a block where none stood has the room of all of them
pub record MovesRoom (start now : SeenPointers) (total : ℕ) (deltas : List Delta) (i : ℕ) : Type 0 where
  pub files : now.files ≡ start.files
  pub block : now.block ≡ start.block
  pub room : (j : ℕ) (d : Delta) → j < i → is_fresh (get_or deltas j d) ≡ true → HasRoom now (body_of (get_or deltas j d)).fid.0 total

record Fresh (fid : ℕ) (deltas : List Delta) : Type 0 where
  pub at : ℕ
  pub delta : Delta
  pub within : at < length deltas
  pub is : (body_of (get_or deltas at delta)).fid.0 ≡ fid
  pub fresh : is_fresh (get_or deltas at delta) ≡ true

by_one : (fid : ℕ) (d : Delta) → (moves_by fid d ≡ 0 → ⊥) → ((body_of d).fid.0 ≡ fid) × (is_fresh d ≡ true)
by_one fid d some = elim (cases_eq (body_of d).fid.0 fid) as (λ _. ((body_of d).fid.0 ≡ fid) × (is_fresh d ≡ true)) [
  | inl e ↦ (
    e,
    elim (cases_Bool (is_fresh d)) as (λ _. is_fresh d ≡ true) [
      | inl t ↦ t
      | inr f ↦ absurd (some (ap (λ (b : Bool). if b then one_if (is_fresh d) else 0) (eq-eqb (body_of d).fid.0 fid e) ∙ ap one_if f))
    ],
  )
  | inr ne ↦ absurd (some (ap (λ (b : Bool). if b then one_if (is_fresh d) else 0) (ne_eqb (body_of d).fid.0 fid ne)))
]

find_fresh : (fid : ℕ) (deltas : List Delta) → (moves_new fid deltas ≡ 0 → ⊥) → Fresh fid deltas
find_fresh fid [] some = absurd (some refl)
find_fresh fid (d ∷ ds) some = elim (cases_eq (moves_by fid d) 0) as (λ _. Fresh fid (d ∷ ds)) [
  | inl none ↦
      let more = find_fresh fid ds (λ z. some (omega arith)) in
      record { at = suc more.at; delta = more.delta; within = omega (arith, more.within); is = more.is; fresh = more.fresh }
  | inr ne ↦ let both = by_one fid d ne in record { at = 0; delta = d; within = omega arith; is = both.0; fresh = both.1 }
]

by_within : (fid : ℕ) (d : Delta) → moves_by fid d ≤ one_if (is_fresh d)
by_within fid d = elim (cases_Bool ((body_of d).fid.0 == fid)) as (λ _. moves_by fid d ≤ one_if (is_fresh d)) [
  | inl t ↦ let e = ap (λ (b : Bool). if b then one_if (is_fresh d) else 0) t in omega arith
  | inr f ↦ let e = ap (λ (b : Bool). if b then one_if (is_fresh d) else 0) f in omega arith
]

new_within : (fid : ℕ) (deltas : List Delta) → moves_new fid deltas ≤ fresh_in deltas
new_within fid [] = omega arith
new_within fid (d ∷ ds) = omega (arith, by_within fid d, new_within fid ds)

pub moves_room : (start now : SeenPointers) (total : ℕ) (deltas : List Delta) (i : ℕ) → MovesRoom start now total deltas i → total ≡ fresh_in deltas → length deltas ≤ i
    → (fid : ℕ) → HasRoomFor now fid (moves_new fid deltas)
moves_room start now total deltas i r is le fid some =
    let found = find_fresh fid deltas some in
    let lt = found.within in
    let enough = new_within fid deltas in
    less_room now fid total (moves_new fid deltas) (omega arith) (subst (λ (k : ℕ). HasRoom now k total) found.is (r.room found.at found.delta (omega arith) found.fresh))

same_delta : (ds : List Delta) (k : ℕ) (d e : Delta) → k < length ds → get_or ds k d ≡ get_or ds k e
same_delta [] k d e l = absurd (omega arith)
same_delta (x ∷ xs) zero d e l = refl
same_delta (x ∷ xs) (suc k) d e l = same_delta xs k d e (omega arith)

-- one more move has it, if it needs any
pub move_next : (start now new : SeenPointers) (total : ℕ) (deltas : List Delta) (i : ℕ) (d : Delta) → MovesRoom start now total deltas i → i < length deltas
    → new.files ≡ now.files → new.block ≡ now.block → ((fid n : ℕ) → HasRoom now fid n → HasRoom new fid n)
    → (is_fresh (get_or deltas i d) ≡ true → HasRoom new (body_of (get_or deltas i d)).fid.0 total) → MovesRoom start new total deltas (i + 1)
move_next start now new total deltas i d r lt files block kept has = record {
  files = files ∙ r.files;
  block = block ∙ r.block;
  room = λ j e l fresh. elim (cases_eq j i) as (λ _. HasRoom new (body_of (get_or deltas j e)).fid.0 total) [
    | inl here ↦
        let same : get_or deltas i d ≡ get_or deltas j e = same_delta deltas i d e lt ∙ sym (ap (λ (k : ℕ). get_or deltas k e) here) in
        subst (λ (x : Delta). HasRoom new (body_of x).fid.0 total) same (has (ap is_fresh same ∙ fresh))
    | inr ne ↦ kept (body_of (get_or deltas j e)).fid.0 total (r.room j e (omega arith) fresh)
  ];
}
