-- Calls of clients alone.
use Rattle.std.proofs.Common.{◌≡◌, ℕ, zero, suc, ◌+◌, ◌-◌, ◌≤◌, ◌<◌, true, false, Bool, List, [], ◌∷◌, ◌++◌, length, map, Some, refl, sym, ◌∙◌, subst, arith}
use Rattle.std.specs.Prelude.{nat_le, slice_get, IsTrue}
use Rattle.std.specs.List.{AllByRecursion}
use Rattle.std.proofs.lemmas.Bool.{and_parts, leb-true, ne_eqb}
use Rattle.zb_types.specs.Limits.{within}
use Rattle.zb_types.specs.declared.lines.Line.{Line}
use Rattle.zb_types.specs.declared.lines.Line.TheVariants.{Call as CallLine, Job as JobLine, Steps, StepTo, Event as EventLine}
use Rattle.zb_types.specs.declared.lines.Outcome.{Outcome}
use Rattle.zb_claims.specs.Points.{Subject, asked_of, calls, has_told, is_about}
use Rattle.zb_claims.specs.Runs.{has_ended}
use Rattle.zb_given.specs.Ends.{HaveLastLines, HaveLines, is_call}
use Rattle.zb_given.specs.Given.{Given, Item, script_of}
use Rattle.zb_given.proofs.Ending.{only_calls}
use Rattle.zb_client.specs.Seen.{SeenClient}
use Rattle.zb_system.specs.Nodes.{IsClient, SeenNodes}
use Rattle.zb_system.specs.Sound.{AreSound}
use Rattle.zb_system.proofs.Resting.{has_last, has_lines}
use Rattle.zb_finishing.specs.Clients.{AllIdle, AllKeepNone}
use Rattle.zb_finishing.specs.Giving.{AreCalls, IsCallWithin}

abbrev Calls : ℕ → List Item → Type 0
Calls clients items = AllByRecursion (λ item. IsCallWithin clients item.line) items

-- one call more
pub one_more : (clients : ℕ) (items : List Item) (item : Item) → IsCallWithin clients item.line → Calls clients items → Calls clients (items ++ item ∷ [])
one_more clients [] item is all = (is, tt)
one_more clients (first ∷ items) item is all = (all.0, one_more clients items item is all.1)

call_is : (clients : ℕ) (line : Line) → IsCallWithin clients line → is_call line ≡ true
call_is clients (CallLine plus client call) is = refl
call_is clients (JobLine plus job) is = absurd is
call_is clients (Steps actor count) is = absurd is
call_is clients (StepTo actor kind) is = absurd is
call_is clients (EventLine event) is = absurd is

all_calls : (clients : ℕ) (items : List Item) → Calls clients items → AllByRecursion (λ item. is_call item.line ≡ true) items
all_calls clients [] all = tt
all_calls clients (item ∷ items) all = (call_is clients item.line all.0, all_calls clients items all.1)

-- none of another client
module _ (clients k : ℕ) (out : within 1 clients k ≡ false) where
  off : IsTrue (within 1 clients k) → ⊥
  off e = of (sym out ∙ e) where
    of : false ≡ true → ⊥
    of x = cc x

  other_line : (line : Line) → IsCallWithin clients line → is_about (calls k) line ≡ false
  other_line (CallLine plus client call) is = ne_eqb k client (λ e. off (subst (λ (n : ℕ). IsTrue (within 1 clients n)) (sym e) is))
  other_line (JobLine plus job) is = absurd is
  other_line (Steps actor count) is = absurd is
  other_line (StepTo actor kind) is = absurd is
  other_line (EventLine event) is = absurd is

  none_asked : (items : List Item) → Calls clients items → asked_of (calls k) (map (λ (item : Item). item.line) items) ≡ 0
  none_asked [] all = refl
  none_asked (item ∷ items) all = rw (other_line item.line all.0) (none_asked items all.1)

-- a place of a list has an element
pub there : (cs : List SeenClient) (i : ℕ) → i < length cs → (c : SeenClient) × (slice_get cs i ≡ Some c)
there [] i lt = absurd (omega (arith, lt))
there (c ∷ cs) zero lt = (c, refl)
there (c ∷ cs) (suc i) lt = there cs i (omega (arith, lt))

module _ (given : Given) (lines : List Outcome) (n : SeenNodes) (s : AreSound given lines n) (all : AreCalls n.manager.sizes.clients given) where
  abbrev N : ℕ
  N = n.manager.sizes.clients

  -- each that was given of this subject is so
  abbrev Have : (Subject → ℕ → Bool) → Subject → Type 0
  Have f subject = (m : ℕ) → 1 ≤ m → m ≤ asked_of subject (script_of given) → f subject m ≡ true

  -- with each client's calls it is so, if it is with those of the clients that are there
  module _ (f : Subject → ℕ → Bool) (own : (i : ℕ) (c : SeenClient) → IsClient n i c → Have f (calls (i + 1))) (k : ℕ) where
    inside : 1 ≤ k → k ≤ N → Have f (calls k)
    inside low high =
        subst (λ (m : ℕ). Have f (calls m)) here (own (k - 1) at.0 at.1) where
          here : k - 1 + 1 ≡ k
          here = omega (arith, low)

          count : length n.clients ≡ N
          count = s.count

          at : (c : SeenClient) × IsClient n (k - 1) c
          at = there n.clients (k - 1) (omega (arith, low, high, count))

    each_client : Have f (calls k)
    each_client = by (within 1 N k) refl where
      by : (b : Bool) → within 1 N k ≡ b → Have f (calls k)
      by true e = inside (leb-true 1 k (and_parts (nat_le 1 k) (nat_le k N) e).0) (leb-true k N (and_parts (nat_le 1 k) (nat_le k N) e).1)
      by false e = λ m low high. let none = none_asked N k e given.items all in absurd (omega (arith, low, high, none))

  pub all_have : AllIdle n → (subject : Subject) → HaveLines given lines subject
  all_have idle =
      (only_calls given lines (all_calls N given.items all)).0
      (λ k. each_client (has_told lines) (λ i c is. has_lines given lines n i c s is (idle i c is)) k)

  pub all_have_last : AllIdle n → AllKeepNone n → (subject : Subject) → HaveLastLines given lines subject
  all_have_last idle none =
      (only_calls given lines (all_calls N given.items all)).1
      (λ k. each_client (has_ended lines) (λ i c is. has_last given lines n i c s is (idle i c is) (none i c is)) k)
