-- A report is of the system, and stays so where more is given and told.
use Rattle.std.proofs.Common.{◌≡◌, ℕ, ◌+◌, ◌≤◌, ◌<◌, ◌^◌, true, false, Bool, List, [], ◌∷◌, ◌++◌, length, sym, ap, ◌∙◌, arith}
use Rattle.std.specs.Prelude.{◌==◌, if◌then◌else◌, nat_le, IsTrue}
use Rattle.std.specs.List.{AllByRecursion, flat_map}
use Rattle.std.proofs.lemmas.Bool.{and_from, and_parts, le-leb, leb-true}
use Rattle.std.proofs.lemmas.List.{length-append}
use Rattle.zb_types.specs.Limits.{within}
use Rattle.zb_types.specs.declared.calls.Call.{Call}
use Rattle.zb_types.specs.declared.geometry.Geometry.{Geometry}
use Rattle.zb_types.specs.declared.lines.Line.{Line}
use Rattle.zb_types.specs.declared.lines.Line.TheVariants.{Call as CallLine, Job as JobLine, Steps, StepTo, Event as EventLine}
use Rattle.zb_types.specs.declared.lines.Outcome.{Outcome}
use Rattle.zb_claims.specs.Text.{HasReply, IsOutcome}
use Rattle.zb_headline.specs.Complete.{lacks_space_alone}
use Rattle.zb_given.specs.Given.{FitGiven, Given, Item, call_by, calls_of, with_finish, with_item}
use Rattle.zb_tables.specs.Taking.{Sizes}
use Rattle.zb_finishing.specs.Clients.{SizesStay}
use Rattle.zb_finishing.specs.Telling.{MayTell}
use Rattle.zb_finishing.proofs.Asked.{one_more}
use Rattle.zb_finishing.proofs.Reported.{all_stand, more_name}
use Rattle.zb_finishing.proofs.Said.{all_alone}
use Rattle.zb_course.specs.Seen.{SeenCourse}
use Rattle.zb_course.specs.Sound.{most_calls}
use Rattle.zb_running.specs.Reports.{IsOfSystem}

-- ---- lists

pub both : {A : Type 0} (P : A → Type 0) (xs ys : List A) → AllByRecursion P xs → AllByRecursion P ys → AllByRecursion P (xs ++ ys)
both P [] ys front back = back
both P (x ∷ xs) ys front back = (front.0, both P xs ys front.1 back)

-- a client was given no more calls than there are items
one_by : (client : ℕ) (line : Line) → length (call_by client line) ≤ 1
one_by client (CallLine plus c call) = by (client == c) where
  by : (b : Bool) → length (if b then call ∷ [] else []) ≤ 1
  by true = omega arith
  by false = omega arith
one_by client (JobLine plus job) = omega arith
one_by client (Steps actor count) = omega arith
one_by client (StepTo actor kind) = omega arith
one_by client (EventLine event) = omega arith

few_calls : (client : ℕ) (items : List Item) → length (flat_map (λ (item : Item). call_by client item.line) items) ≤ length items
few_calls client [] = omega arith
few_calls client (item ∷ items) =
    omega (arith, length-append (call_by client item.line) (flat_map (λ (i : Item). call_by client i.line) items), one_by client item.line, few_calls client items)

-- ---- one of so many

pub within_low : (n k : ℕ) → IsTrue (within 1 n k) → 1 ≤ k
within_low n k own = leb-true 1 k (and_parts (nat_le 1 k) (nat_le k n) own).0

pub within_high : (n k : ℕ) → IsTrue (within 1 n k) → k ≤ n
within_high n k own = leb-true k n (and_parts (nat_le 1 k) (nat_le k n) own).1

pub within_both : (n k : ℕ) → 1 ≤ k → k ≤ n → IsTrue (within 1 n k)
within_both n k low high = and_from _ _ (le-leb 1 k low) (le-leb k n high)

-- ---- a report of the system

module _ {geo : Geometry} {given : Given} {lines : List Outcome} {old : SeenCourse} (p : IsOfSystem geo given lines old) where
  pub clients_are : old.nodes.manager.sizes.clients ≡ geo.clients
  clients_are = ap (λ (z : Sizes). z.clients) p.sizes

  pub servers_are : old.nodes.manager.sizes.servers ≡ geo.servers
  servers_are = ap (λ (z : Sizes). z.servers) p.sizes

  -- so it stays where a call of one of the clients is given
  pub with_call : (new : SeenCourse) (client at : ℕ) (call : Call) → IsTrue (within 1 geo.clients client) → SizesStay old.nodes new.nodes → new.calls ≡ old.calls + 1
      → IsOfSystem geo (with_item given (CallLine true client call) at) lines new
  with_call new client at call own same one = record {
    sizes = same.sizes ∙ p.sizes;
    slots = same.slots ∙ p.slots;
    calls = one_more geo.clients given.items (record { line = CallLine true client call; at = at }) own p.calls;
    count =
        let last : Item = record { line = CallLine true client call; at = at } in
        omega (arith, length-append given.items (last ∷ []), p.count, one);
    valid = p.valid;
    space = p.space;
  }

  -- where a finish is
  pub with_end : (at : ℕ) → IsOfSystem geo (with_finish given at) lines old
  with_end at = record { sizes = p.sizes; slots = p.slots; calls = p.calls; count = p.count; valid = p.valid; space = p.space }

  -- where lines are told that may be
  pub with_lines : (new : SeenCourse) (more : List Outcome) → SizesStay old.nodes new.nodes → new.calls ≡ old.calls
      → AllByRecursion (IsOutcome geo) more → AllByRecursion (λ line. lacks_space_alone line ≡ true) more → IsOfSystem geo given (lines ++ more) new
  with_lines new more same calls valid space = record {
    sizes = same.sizes ∙ p.sizes;
    slots = same.slots ∙ p.slots;
    calls = p.calls;
    count = p.count ∙ sym calls;
    valid = both (IsOutcome geo) lines more p.valid valid;
    space = both (λ line. lacks_space_alone line ≡ true) lines more p.space space;
  }

  -- and where nothing is
  pub with_none : (new : SeenCourse) → SizesStay old.nodes new.nodes → new.calls ≡ old.calls → IsOfSystem geo given lines new
  with_none new same calls = record {
    sizes = same.sizes ∙ p.sizes;
    slots = same.slots ∙ p.slots;
    calls = p.calls;
    count = p.count ∙ sym calls;
    valid = p.valid;
    space = p.space;
  }

  -- lines that a step may tell, of calls that were given
  pub with_told : (new : SeenCourse) (client : ℕ) (more : List Outcome) → SizesStay old.nodes new.nodes → new.calls ≡ old.calls → old.calls ≤ most_calls → IsTrue (within 1 geo.clients client)
      → AllByRecursion (MayTell geo.servers client) more → AllByRecursion HasReply more → FitGiven given (lines ++ more) → IsOfSystem geo given (lines ++ more) new
  with_told new client more same calls few own may replies fit =
      with_lines new more same calls
      (all_stand geo given client own below more may (more_name given lines more fit) replies)
      (all_alone geo.servers client more may) where
        below : length (calls_of given client) < 2 ^ 64
        below = omega (arith, few_calls client given.items, p.count, few)
