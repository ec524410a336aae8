-- Slots that hold one name: which of them is bad, and which the name stands for.
use Rattle.std.proofs.Common.{◌≡◌, ◌≢◌, ℕ, zero, suc, ◌+◌, ◌<◌, Bool, true, false, Option, Some, None, List, length, get_or, refl, sym, ap, ◌∙◌, subst, inl, inr, arith}
use Rattle.std.specs.Prelude.{if◌then◌else◌, ◌==◌}
use Rattle.std.specs.Map.{lookup}
use Rattle.std.proofs.lemmas.Bool.{cases_Bool, cases_eq, cases_lt, cases_order, cond-true, cond-false, eq-eqb, ne_eqb}
use Rattle.std.proofs.lemmas.Option.{none-some, slice_get-get_or}
use Rattle.zb_cell.specs.Cell.{following}
use Rattle.zb_types.specs.declared.ids.FragId.{FragId}
use Rattle.zb_holding.specs.Carrying.{same_frag}
use Rattle.zb_slots.specs.Slots.{Slot, Stored, full_slot}
use Rattle.zb_slots.specs.Holding.{named, newer, held}
use Rattle.zb_slots.proofs.Held.{one_holds}
use Rattle.zb_index.specs.declared.spot.Spot.{Spot}
use Rattle.zb_index.specs.declared.holders.Holder.{Holder}
use Rattle.zb_index.specs.declared.holders.Holders.{Holders}
use Rattle.zb_index.specs.declared.holders.Holders.TheVariants.{One, Two, More}
use Rattle.zb_index.specs.Gathering.{holder_at, IsHeldBy, HoldsAs, IsOne, AreTwo, AreMore, AreHolders, AreGathered, Gathered, IsNewestAt, TellsNewest}
use Rattle.zb_slots.specs.declared.header.Header.{Header}
use Rattle.zb_slots.specs.Shown.{Says, AreShownBy}
use Rattle.zb_index.specs.Twins.{NoneIsBad}
use Rattle.zb_index.proofs.Following.{same_full}
use Rattle.zb_index.proofs.Held.{named_full}
use Rattle.zb_holding.proofs.Keys.{same_frag-is}

-- where no slot is bad, two slots of one name have different turns
pub turns_differ : (n i j : ℕ) (slots : ℕ → Slot) (a b : Stored) → NoneIsBad slots n → i < n → j < n → i ≢ j → slots i ≡ full_slot a → slots j ≡ full_slot b → a.id ≡ b.id → a.turn ≢ b.turn
turns_differ n i j slots a b good ilt jlt ne there here same e = elim (cases_order i j) [
  | inl equal ↦ ne equal
  | inr (inl less) ↦ good j jlt (inr (record { i = i; former = a; stored = b; below = less; there = there; here = here; same = sym same; not_two = λ two. two.turns e }))
  | inr (inr more) ↦ good i ilt (inr (record { i = j; former = b; stored = a; below = more; there = here; here = there; same = same; not_two = λ two. two.turns (sym e) }))
]

newer_none : (found : Option Stored) → newer found None ≡ found
newer_none None = refl
newer_none (Some stored) = refl

-- what two slots hold
two_held : (n i j : ℕ) (id : FragId) (slots : ℕ → Slot) (a b : Stored) → i < j → j < n → named id (slots i) ≡ Some a → named id (slots j) ≡ Some b
    → ((k : ℕ) → k < n → k ≢ i → k ≢ j → named id (slots k) ≡ None) → held slots n id ≡ newer (Some a) (Some b)
two_held zero i j id slots a b less within there here alone = absurd (omega (arith, within))
two_held (suc n) i j id slots a b less within there here alone = elim (cases_eq j n) [
  | inl last ↦
      let first : held slots n id ≡ Some a = one_holds n i id slots (omega (arith, less, last)) (λ k lt ne. alone k (omega arith) ne (omega (arith, last))) ∙ there in
      (λ k. newer (first k) (named id (slots n))) ∙ (λ k. newer (Some a) ((ap (λ (m : ℕ). named id (slots m)) (sym last) ∙ here) k))
  | inr before ↦
      let rest : held slots n id ≡ newer (Some a) (Some b) = two_held n i j id slots a b less (omega (arith, within, before)) there here (λ k lt ni nj. alone k (omega arith) ni nj) in
      (λ k. newer (rest k) (alone n (omega arith) (λ e. omega (arith, e, less, within)) (λ e. before (sym e)) k)) ∙ newer_none (newer (Some a) (Some b))
]

module _ (n : ℕ) (slots : ℕ → Slot) (id : FragId) where
  named_by : (holder : Holder) (h : HoldsAs n slots id holder) → named id (slots holder.spot.slot) ≡ Some h.stored
  named_by holder h = ap (named id) h.full ∙ named_full h.stored id h.name

  newest_by : (holder : Holder) (h : HoldsAs n slots id holder) → held slots n id ≡ Some h.stored → IsNewestAt n slots id holder.spot
  newest_by holder h is = record {
    stored = h.stored;
    within = h.within;
    full = h.full;
    name = h.name;
    is = ap (λ (x : Holder). x.spot) h.is;
    held = is;
  }

  pub newest_one : (first : Holder) → IsOne n slots id first → IsNewestAt n slots id first.spot
  newest_one first one = newest_by first one.holds (one_holds n first.spot.slot id slots one.holds.within one.alone ∙ named_by first one.holds)

  turn_by : (holder : Holder) (h : HoldsAs n slots id holder) → holder.spot.turn ≡ h.stored.turn
  turn_by holder h = ap (λ (x : Holder). x.spot.turn) h.is

  both_held : (first second : Holder) (two : AreTwo n slots id first second) → held slots n id ≡ newer (Some two.holds.stored) (Some two.too.stored)
  both_held first second two =
      two_held n first.spot.slot second.spot.slot id slots two.holds.stored two.too.stored two.order two.too.within
      (named_by first two.holds) (named_by second two.too) two.alone

  pub newest_second : (first second : Holder) → AreTwo n slots id first second → second.spot.turn ≡ following first.spot.turn → IsNewestAt n slots id second.spot
  newest_second first second two e =
      let a = two.holds.stored in
      let b = two.too.stored in
      let turns : b.turn ≡ following a.turn = sym (turn_by second two.too) ∙ e ∙ ap following (turn_by first two.holds) in
      newest_by second two.too (both_held first second two ∙ cond-true (b.turn == following a.turn) (Some b) (Some a) (eq-eqb b.turn (following a.turn) turns))

  pub newest_first : (first second : Holder) → AreTwo n slots id first second → second.spot.turn ≢ following first.spot.turn → IsNewestAt n slots id first.spot
  newest_first first second two ne =
      let a = two.holds.stored in
      let b = two.too.stored in
      let turns : b.turn ≢ following a.turn = λ e. ne (turn_by second two.too ∙ e ∙ ap following (sym (turn_by first two.holds))) in
      newest_by first two.holds (both_held first second two ∙ cond-false (b.turn == following a.turn) (Some b) (Some a) (ne_eqb b.turn (following a.turn) turns))

  -- where no slot is bad, a name isn't held thrice
  pub never_more : (first : Holder) → AreMore n slots id first → NoneIsBad slots n → ⊥
  never_more first more good =
      let i = first.spot.slot in
      let j = more.second.spot.slot in
      let k = more.third.spot.slot in
      let a = more.holds.stored in
      let b = more.too.stored in
      good j more.too.within (inr (record {
        i = i;
        former = a;
        stored = b;
        below = more.order;
        there = more.holds.full;
        here = more.too.full;
        same = more.too.name ∙ sym more.holds.name;
        not_two = λ two. none-some more.also.stored (sym (two.alone k more.also.within (omega (arith, more.order, more.next)) (omega (arith, more.next)))
            ∙ ap (named a.id) more.also.full ∙ named_full more.also.stored a.id (more.also.name ∙ sym more.holds.name));
      }))

  -- a slot that the newest one isn't is the older
  pub tells_newest : (spot : Spot) (j : ℕ) (stored : Stored) (answer : Bool) → NoneIsBad slots n → IsNewestAt n slots id spot → j < n → slots j ≡ full_slot stored → stored.id ≡ id
      → (answer ≡ true → spot.slot ≡ j) → (answer ≡ false → spot.slot ≢ j) → TellsNewest slots n j stored answer
  tells_newest spot j stored answer good newest lt full name yes_is no_is = record {
    newest = λ b. ap (held slots n) name ∙ newest.held ∙ ap Some (same_full newest.stored stored (sym newest.full ∙ ap slots (yes_is b) ∙ full));
    older = λ b. record {
      stored = stored;
      newest = newest.stored;
      within = lt;
      full = full;
      stands = ap (held slots n) name ∙ newest.held;
      other = turns_differ n spot.slot j slots newest.stored stored good newest.within lt (no_is b) newest.full full (newest.name ∙ sym name);
    };
  }

-- one slot more leaves the holders of a name that it doesn't hold
module _ (n : ℕ) (slots : ℕ → Slot) (id : FragId) where
  still : (holder : Holder) → HoldsAs n slots id holder → HoldsAs (n + 1) slots id holder
  still holder h = record { stored = h.stored; within = omega (arith, h.within); full = h.full; name = h.name; is = h.is }

  over_last : (P : ℕ → Type 0) → ((k : ℕ) → k < n → P k) → P n → (k : ℕ) → k < n + 1 → P k
  over_last P each last k lt = elim (cases_lt k n) [
    | inl less ↦ each k less
    | inr past ↦ let e : n ≡ k = omega (arith, past, lt) in subst P e last
  ]

  pub next_other : (holders : Option Holders) → named id (slots n) ≡ None → AreHolders n slots id holders → AreHolders (n + 1) slots id holders
  next_other None last none = over_last (λ k. named id (slots k) ≡ None) none last
  next_other (Some (One first)) last one = record {
    holds = still first one.holds;
    alone = over_last (λ k. k ≢ first.spot.slot → named id (slots k) ≡ None) one.alone (λ _. last);
  }
  next_other (Some (Two first second)) last two = record {
    holds = still first two.holds;
    too = still second two.too;
    order = two.order;
    alone = over_last (λ k. k ≢ first.spot.slot → k ≢ second.spot.slot → named id (slots k) ≡ None) two.alone (λ _ _. last);
  }
  next_other (Some (More first)) last more = record {
    second = more.second;
    third = more.third;
    holds = still first more.holds;
    too = still more.second more.too;
    also = still more.third more.also;
    order = more.order;
    next = more.next;
    least = more.least;
  }

  holds_last : (holder : Holder) → IsHeldBy n (slots n) id holder → HoldsAs (n + 1) slots id holder
  holds_last holder h =
      let at : holder.spot.slot ≡ n = ap (λ (x : Holder). x.spot.slot) h.is in
      record {
        stored = h.stored;
        within = omega (arith, at);
        full = ap slots at ∙ h.full;
        name = h.name;
        is = h.is ∙ ap (λ k. holder_at k h.stored) (sym at);
      }

  pub next_one : (holder : Holder) → AreHolders n slots id None → IsHeldBy n (slots n) id holder → AreHolders (n + 1) slots id (Some (One holder))
  next_one holder none h =
      let at : holder.spot.slot ≡ n = ap (λ (x : Holder). x.spot.slot) h.is in
      record {
        holds = holds_last holder h;
        alone = over_last (λ k. k ≢ holder.spot.slot → named id (slots k) ≡ None) (λ k lt _. none k lt) (λ ne. absurd (ne (sym at)));
      }

  pub next_two : (first holder : Holder) → IsOne n slots id first → IsHeldBy n (slots n) id holder → AreTwo (n + 1) slots id first holder
  next_two first holder one h =
      let at : holder.spot.slot ≡ n = ap (λ (x : Holder). x.spot.slot) h.is in
      record {
        holds = still first one.holds;
        too = holds_last holder h;
        order = omega (arith, one.holds.within, at);
        alone = over_last (λ k. k ≢ first.spot.slot → k ≢ holder.spot.slot → named id (slots k) ≡ None) (λ k lt ne _. one.alone k lt ne) (λ _ ne. absurd (ne (sym at)));
      }

  pub next_more : (first second holder : Holder) → AreTwo n slots id first second → IsHeldBy n (slots n) id holder → AreMore (n + 1) slots id first
  next_more first second holder two h =
      let at : holder.spot.slot ≡ n = ap (λ (x : Holder). x.spot.slot) h.is in
      record {
        second = second;
        third = holder;
        holds = still first two.holds;
        too = still second two.too;
        also = holds_last holder h;
        order = two.order;
        next = omega (arith, two.too.within, at);
        least = λ k lt. two.alone k (omega (arith, lt, two.holds.within)) (omega (arith, lt)) (omega (arith, lt, two.order));
      }

  pub still_more : (first : Holder) → AreMore n slots id first → AreMore (n + 1) slots id first
  still_more first more = record {
    second = more.second;
    third = more.third;
    holds = still first more.holds;
    too = still more.second more.too;
    also = still more.third more.also;
    order = more.order;
    next = more.next;
    least = more.least;
  }

-- a slot that is bad or free leaves all holders
pub gathered_past : (n : ℕ) (slots : ℕ → Slot) (names : Gathered) → ((id : FragId) → named id (slots n) ≡ None) → AreGathered n slots names → AreGathered (n + 1) slots names
gathered_past n slots names none all id = next_other n slots id (lookup (same_frag id) names) (none id) (all id)

-- a slot that holds a name comes to the holders of that name
pub gathered_next : (n : ℕ) (slots : ℕ → Slot) (old new : Gathered) (id : FragId) (holder : Holder) (holders : Holders)
    → ((q : FragId) → lookup (same_frag q) new ≡ (if same_frag id q then Some holders else lookup (same_frag q) old))
    → IsHeldBy n (slots n) id holder → AreHolders (n + 1) slots id (Some holders) → AreGathered n slots old → AreGathered (n + 1) slots new
gathered_next n slots old new id holder holders put h are all q = elim (cases_Bool (same_frag id q)) [
  | inl same ↦
      let is : lookup (same_frag q) new ≡ Some holders = put q ∙ cond-true (same_frag id q) (Some holders) (lookup (same_frag q) old) same in
      subst (AreHolders (n + 1) slots q) (sym is) (subst (λ (a : FragId). AreHolders (n + 1) slots a (Some holders)) (same_frag-is id q same) are)
  | inr other ↦
      let is : lookup (same_frag q) new ≡ lookup (same_frag q) old = put q ∙ cond-false (same_frag id q) (Some holders) (lookup (same_frag q) old) other in
      let none : named q (slots n) ≡ None = ap (named q) h.full ∙ cond-false (same_frag h.stored.id q) (Some h.stored) None (ap (λ (a : FragId). same_frag a q) h.name ∙ other) in
      subst (AreHolders (n + 1) slots q) (sym is) (next_other n slots q (lookup (same_frag q) old) none (all q))
]

-- a slot that holds a name is one of its holders
pub never_none : (n j : ℕ) (slots : ℕ → Slot) (names : Gathered) (id : FragId) (stored : Stored) → AreGathered n slots names → lookup (same_frag id) names ≡ None
    → j < n → slots j ≡ full_slot stored → stored.id ≡ id → ⊥
never_none n j slots names id stored all none lt full name =
    let nowhere = subst (AreHolders n slots id) none (all id) in
    none-some stored (sym (nowhere j lt) ∙ ap (named id) full ∙ named_full stored id name)

-- the slot of a header is as that says
pub says_at : (headers : List (Option Header)) (slots : ℕ → Slot) → AreShownBy headers slots → (j : ℕ) (d : Option Header) → j < length headers → Says (get_or headers j d) (slots j)
says_at headers slots shown j d lt = shown j (get_or headers j d) (slice_get-get_or headers j d lt)
