-- What entries leave of the logs.
use Rattle.std.proofs.Common.{◌≡◌, ◌⊎◌, ℕ, zero, suc, ◌≤◌, Bool, true, false, eqb, List, [], ◌∷◌, length, Option, Some, None, refl, sym, ap, ◌∙◌, inl, inr, arith}
use Rattle.std.specs.Prelude.{◌==◌, ◌||◌, if◌then◌else◌, filter, is_some, IsSome}
use Rattle.std.specs.List.{AllByRecursion, list_any, slice_get}
use Rattle.std.proofs.lemmas.Bool.{cases_Bool, cases_eq, cond_both, eqb-true, false≢true}
use Rattle.std.proofs.lemmas.Bool.Decides.{nat_tests}
use Rattle.std.proofs.lemmas.Option.{none-some, same_Some}
use Rattle.zb_types.specs.declared.ids.LogId.{LogId}
use Rattle.zb_types.specs.declared.ids.Piece.{Piece}
use Rattle.zb_types.specs.declared.calls.Reply.{Reply}
use Rattle.zb_types.specs.declared.nodes.State.{State}
use Rattle.zb_types.specs.declared.nodes.State.TheVariants.{Whole, Out, Mending}
use Rattle.zb_types.specs.declared.tables.HeldUse.{HeldUse}
use Rattle.zb_types.specs.Keyed.{look, changed}
use Rattle.zb_types.proofs.KeyedLists.{KeysAbove, IsRising, IsRising-changed, look-below, look-replaced_same, look-replaced_other, over, look-changed}
use Rattle.zb_tables.specs.Tables.{LogState}
use Rattle.zb_tables.specs.Fold.{kept_logs, ended, following, marked, all_marked, last_of, with_batch}

abbrev Logs : Type 0
Logs = List (ℕ × LogState)

-- ---- a list under numbers, of which some pairs are kept

module _ {A : Type 0} (keep : ℕ × A → Bool) where
  pub look-filter_kept : (k : ℕ) (a : A) (es : List (ℕ × A)) → look k es ≡ Some a → keep (k, a) ≡ true → look k (filter keep es) ≡ Some a
  look-filter_kept k a [] at kept = absurd (none-some a at)
  look-filter_kept k a (e ∷ es) at kept = elim (cases_eq e.0 k) as (λ _. look k (filter keep (e ∷ es)) ≡ Some a) [
    | inl here ↦
        let value : e.1 ≡ a = grind (arith, nat_tests, same_Some e.1 a) in
        let whole : keep e ≡ true = ap (λ (n : ℕ). keep (n, e.1)) here ∙ ap (λ (v : A). keep (k, v)) value ∙ kept in
        grind (arith, nat_tests)
    | inr other ↦ grind (arith, nat_tests, look-filter_kept k a es)
  ]

  pub above_kept : (k : ℕ) (es : List (ℕ × A)) → KeysAbove k es → KeysAbove k (filter keep es)
  above_kept k [] above = tt
  above_kept k (e ∷ es) above = cond_both (keep e) (e ∷ filter keep es) (filter keep es) (KeysAbove k) (λ t. (above.0, above_kept k es above.1)) (λ f. above_kept k es above.1)

  pub look-filter_from : (k : ℕ) (a : A) (es : List (ℕ × A)) → IsRising es → look k (filter keep es) ≡ Some a → look k es ≡ Some a
  look-filter_from k a [] rising at = at
  look-filter_from k a (e ∷ es) rising at = elim (cases_eq e.0 k) as (λ _. look k (e ∷ es) ≡ Some a) [
    | inl here ↦ grind (arith, nat_tests, look-below k e.0 (filter keep es) (omega arith) (above_kept e.0 es rising.0))
    | inr other ↦ grind (arith, nat_tests, look-filter_from k a es rising.1)
  ]

-- ---- a commit

with_this : (log : LogId) (number : ℕ) (pieces : List Piece) (replies : List Reply) (logs : Logs) (l : LogState) → look log.0 logs ≡ Some l
    → look log.0 (with_batch log number pieces replies logs (Some l)) ≡ Some (record l { batch = number; replies = replies; last = last_of l.last pieces })
with_this log number pieces replies logs l at = look-replaced_same log.0 (record l { batch = number; replies = replies; last = last_of l.last pieces }) logs (ap is_some at)

pub commit_log : (log : LogId) (number : ℕ) (pieces : List Piece) (replies : List Reply) (logs : Logs) (l : LogState) → look log.0 logs ≡ Some l
    → look log.0 (with_batch log number pieces replies logs (look log.0 logs)) ≡ Some (record l { batch = number; replies = replies; last = last_of l.last pieces })
commit_log log number pieces replies logs l at = ap (λ (o : Option LogState). look log.0 (with_batch log number pieces replies logs o)) at ∙ with_this log number pieces replies logs l at

pub commit_other : (log : LogId) (number : ℕ) (pieces : List Piece) (replies : List Reply) (logs : Logs) (o : Option LogState) (k : ℕ) → (log.0 ≡ k → ⊥)
    → look k (with_batch log number pieces replies logs o) ≡ look k logs
commit_other log number pieces replies logs None k other = refl
commit_other log number pieces replies logs (Some l) k other = look-replaced_other k log.0 (record l { batch = number; replies = replies; last = last_of l.last pieces }) logs other

-- ---- an attach

-- a live log is kept
pub live_kept : (held : List HeldUse) (k : ℕ) (l : LogState) (logs : Logs) → look k logs ≡ Some l → l.live ≡ true → look k (kept_logs held logs) ≡ Some l
live_kept held k l logs at live = look-filter_kept (λ e. e.1.live || list_any (λ h. h.log.0 == e.0) held) k l logs at (ap (λ (b : Bool). b || list_any (λ h. h.log.0 == k) held) live)

-- what is kept of a list in order was there
pub kept_from : (held : List HeldUse) (k : ℕ) (l : LogState) (logs : Logs) → IsRising logs → look k (kept_logs held logs) ≡ Some l → look k logs ≡ Some l
kept_from held k l logs rising at = look-filter_from (λ e. e.1.live || list_any (λ h. h.log.0 == e.0) held) k l logs rising at

-- what lives after its owner's logs have ended is another's, and was so
lives_on : (owner : ℕ) (m l : LogState) → ended owner m ≡ l → l.live ≡ true → (m ≡ l) × (l.owner ≡ owner → ⊥)
lives_on owner m l e live = elim (cases_Bool (eqb m.owner owner)) as (λ _. (m ≡ l) × (l.owner ≡ owner → ⊥)) [
  | inl t ↦
      let dead : false ≡ l.live = sym (ap (λ (b : Bool). (if b then record m { live = false } else m).live) t) ∙ ap (λ (x : LogState). x.live) e in
      absurd (false≢true (dead ∙ live))
  | inr f ↦
      let is : m ≡ l = sym (ap (λ (b : Bool). if b then record m { live = false } else m) f) ∙ e in
      (is, λ mine. let own : m.owner ≡ owner = ap (λ (x : LogState). x.owner) is ∙ mine in grind (arith, nat_tests))
]

not_ended : (owner : ℕ) (l : LogState) → (l.owner ≡ owner → ⊥) → ended owner l ≡ l
not_ended owner l other = elim (cases_Bool (eqb l.owner owner)) as (λ _. ended owner l ≡ l) [
  | inl t ↦ absurd (other (eqb-true l.owner owner t))
  | inr f ↦ ap (λ (b : Bool). if b then record l { live = false } else l) f
]

pub attach_other : (held : List HeldUse) (owner : ℕ) (k : ℕ) (l : LogState) (logs : Logs) → look k logs ≡ Some l → l.live ≡ true → (l.owner ≡ owner → ⊥)
    → look k (kept_logs held (changed (ended owner) logs)) ≡ Some l
attach_other held owner k l logs at live other =
    live_kept held k l (changed (ended owner) logs) (look-changed (ended owner) k logs ∙ ap (over (ended owner)) at ∙ ap Some (not_ended owner l other)) live

-- each log that lives after an attach is another's
pub attach_ends : (held : List HeldUse) (owner : ℕ) (k : ℕ) (l : LogState) (logs : Logs) → look k (kept_logs held (changed (ended owner) logs)) ≡ Some l → l.live ≡ true → l.owner ≡ owner → ⊥
attach_ends held owner k l [] at live mine = none-some l at
attach_ends held owner k l (e ∷ es) at live mine =
    let rest : Logs = kept_logs held (changed (ended owner) es) in
    let first : Bool → Logs = λ b. if b then (e.0, ended owner e.1) ∷ rest else rest in
    let keeps : Bool = (ended owner e.1).live || list_any (λ h. h.log.0 == e.0) held in
    elim (cases_Bool keeps) as (λ _. ⊥) [
      | inr out ↦ attach_ends held owner k l es (sym (ap (λ (b : Bool). look k (first b)) out) ∙ at) live mine
      | inl in_it ↦
          let here : (if eqb e.0 k then Some (ended owner e.1) else look k rest) ≡ Some l = sym (ap (λ (b : Bool). look k (first b)) in_it) ∙ at in
          elim (cases_Bool (eqb e.0 k)) as (λ _. ⊥) [
            | inl t ↦ (lives_on owner e.1 l (same_Some (ended owner e.1) l (sym (ap (λ (b : Bool). if b then Some (ended owner e.1) else look k rest) t) ∙ here)) live).1 mine
            | inr f ↦ attach_ends held owner k l es (sym (ap (λ (b : Bool). if b then Some (ended owner e.1) else look k rest) f) ∙ here) live mine
          ]
    ]

was_live : (owner : ℕ) (l : LogState) (o : Option LogState) → over (ended owner) o ≡ Some l → l.live ≡ true → o ≡ Some l
was_live owner l None e live = absurd (none-some l e)
was_live owner l (Some m) e live = ap Some (lives_on owner m l (same_Some (ended owner m) l e) live).0

-- and it lived before
pub attach_before : (held : List HeldUse) (owner : ℕ) (k : ℕ) (l : LogState) (logs : Logs) → IsRising logs → look k (kept_logs held (changed (ended owner) logs)) ≡ Some l → l.live ≡ true → look k logs ≡ Some l
attach_before held owner k l logs rising at live =
    was_live owner l (look k logs) (sym (look-changed (ended owner) k logs) ∙ kept_from held k l (changed (ended owner) logs) (IsRising-changed (ended owner) logs rising) at) live

-- ---- a mark

marks : (state : State) (logs : Logs) → (state ≡ Whole → ⊥) → all_marked state logs ≡ changed marked logs
marks Whole logs some = absurd (some refl)
marks (Out a) logs some = refl
marks (Mending a) logs some = refl

look-marked : (k : ℕ) (l : LogState) (logs : Logs) → look k logs ≡ Some l → look k (changed marked logs) ≡ Some (marked l)
look-marked k l logs at = look-changed marked k logs ∙ ap (over marked) at

pub mark_live : (state : State) (logs : Logs) (k : ℕ) (l : LogState) → (state ≡ Whole → ⊥) → look k logs ≡ Some l → l.live ≡ true → look k (all_marked state logs) ≡ Some (record l { mark = following l.last })
mark_live state logs k l some at live = ap (look k) (marks state logs some) ∙ look-marked k l logs at ∙ ap (λ (b : Bool). Some (if b then record l { mark = following l.last } else l)) live

dead_marked : (logs : Logs) (k : ℕ) (l : LogState) → look k logs ≡ Some l → l.live ≡ false → look k (changed marked logs) ≡ Some l
dead_marked logs k l at dead = look-marked k l logs at ∙ ap (λ (b : Bool). Some (if b then record l { mark = following l.last } else l)) dead

pub mark_dead : (state : State) (logs : Logs) (k : ℕ) (l : LogState) → look k logs ≡ Some l → l.live ≡ false → look k (all_marked state logs) ≡ Some l
mark_dead Whole logs k l at dead = at
mark_dead (Out a) logs k l at dead = dead_marked logs k l at dead
mark_dead (Mending a) logs k l at dead = dead_marked logs k l at dead

pub mark_none : (state : State) (logs : Logs) (k : ℕ) → look k logs ≡ None → look k (all_marked state logs) ≡ None
mark_none Whole logs k at = at
mark_none (Out a) logs k at = look-changed marked k logs ∙ ap (over marked) at
mark_none (Mending a) logs k at = look-changed marked k logs ∙ ap (over marked) at

-- ---- the last stripe

-- one of the pieces is in the stripe
abbrev pub HasStripe : List Piece → ℕ → Type 0
HasStripe pieces n = (i : ℕ) × (p : Piece) × (slice_get pieces i ≡ Some p) × (p.stripe ≡ n)

pub last_some : (pieces : List Piece) (stripe : ℕ) → is_some (last_of (Some stripe) pieces) ≡ true
last_some [] stripe = refl
last_some (p ∷ ps) stripe = last_some ps _

pub last_former : (pieces : List Piece) (n stripe : ℕ) → last_of (Some stripe) pieces ≡ Some n → stripe ≤ n
last_former [] n stripe e = let s = same_Some stripe n e in omega (arith, s)
last_former (p ∷ ps) n stripe e = let rest = last_former ps n _ e in omega (arith, rest)

-- the first piece's stripe is at most the last one
first_piece : (p : Piece) (ps : List Piece) (n : ℕ) (last : Option ℕ) → last_of last (p ∷ ps) ≡ Some n → p.stripe ≤ n
first_piece p ps n None e = let rest = last_former ps n _ e in omega (arith, rest)
first_piece p ps n (Some stripe) e = let rest = last_former ps n _ e in omega (arith, rest)

pub last_pieces : (pieces : List Piece) (n : ℕ) (last : Option ℕ) → last_of last pieces ≡ Some n → AllByRecursion (λ p. p.stripe ≤ n) pieces
last_pieces [] n last e = tt
last_pieces (p ∷ ps) n last e = (first_piece p ps n last e, last_pieces ps n _ e)

behind : (p : Piece) (ps : List Piece) (n : ℕ) → HasStripe ps n → HasStripe (p ∷ ps) n
behind p ps n has = (suc has.0, has.1, has.2, has.3)

from_first : (last : Option ℕ) (p : Piece) (ps : List Piece) (n : ℕ) → last_of last (p ∷ []) ≡ Some n → (last ≡ Some n) ⊎ HasStripe (p ∷ ps) n
from_first None p ps n e = inr (zero, p, refl, let top = same_Some _ n e in omega (arith, top))
from_first (Some stripe) p ps n e = elim (cases_eq stripe n) as (λ _. (Some stripe ≡ Some n) ⊎ HasStripe (p ∷ ps) n) [
  | inl same ↦ inl (ap Some same)
  | inr other ↦ inr (zero, p, refl, let top = same_Some _ n e in omega (arith, top, other))
]

pub last_one : (pieces : List Piece) (n : ℕ) (last : Option ℕ) → last_of last pieces ≡ Some n → (last ≡ Some n) ⊎ HasStripe pieces n
last_one [] n last e = inl e
last_one (p ∷ ps) n last e = elim (last_one ps n _ e) as (λ _. (last ≡ Some n) ⊎ HasStripe (p ∷ ps) n) [
  | inr has ↦ inr (behind p ps n has)
  | inl top ↦ from_first last p ps n top
]

pub last_is : (last : Option ℕ) (pieces : List Piece) → (IsSome last) ⊎ (1 ≤ length pieces) → IsSome (last_of last pieces)
last_is (Some stripe) pieces some = last_some pieces stripe
last_is None (p ∷ ps) some = last_some ps _
last_is None [] (inl none) = none
last_is None [] (inr few) = absurd (omega (arith, few))
