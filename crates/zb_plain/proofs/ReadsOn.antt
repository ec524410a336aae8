-- A read that goes on asks for more.
use Rattle.std.proofs.Common.{◌≡◌, ℕ, ◌+◌, ◌-◌, ◌<◌, Bool, true, false, cond, List, [], ◌∷◌, ◌++◌, length, Option, Some, None, is_some, Result, Ok, Err, refl, sym, ap, ◌∙◌, subst, arith}
use Rattle.std.specs.Prelude.{nat_lt, OnOk, IfOk}
use Rattle.std.proofs.lemmas.Bool.{cond_both, lt-ltb, false≢true}
use Rattle.std.proofs.lemmas.List.{length-append}
use Rattle.zb_types.specs.declared.ids.ServerId.{ServerId}
use Rattle.zb_types.specs.declared.ids.Ptr.{Ptr}
use Rattle.zb_types.specs.declared.requests.Response.{Response}
use Rattle.zb_types.specs.declared.requests.Response.TheVariants as told
use Rattle.zb_holding.specs.Exclusive.{xored}
use Rattle.zb_holding.specs.Holding.{Maps}
use Rattle.zb_stripe.specs.declared.read_plan.Got.{Got}
use Rattle.zb_stripe.specs.declared.read_plan.Got.TheVariants as got
use Rattle.zb_stripe.specs.declared.progress.Phase.{Phase}
use Rattle.zb_stripe.specs.declared.progress.Phase.TheVariants.{Direct, Lengths, Others}
use Rattle.zb_stripe.specs.Reading.{Reading, pos_of, end_of, index_of, len_of, ask_for, advanced, sought, answered, server_at, is_lost, start, asked, asked_in, two_lost, blocked_in, gained_by, gained, own_gone, own_lost, fed, fed_in, is_more}
use Rattle.zb_stripe_laws.specs.ReadAtWork.{AllAnswer}
use Rattle.zb_plain.specs.Leading.{LeadOn}
use Rattle.zb_plain.specs.Delivering.{IsFed}
use Rattle.zb_plain.proofs.ReadAnswers.{all_and_one, leads_on, comes_to}

-- something is asked
abbrev pub Asks : Reading → Type 0
Asks r = is_some (asked r) ≡ true

-- where bytes are left to read, something is asked
left_asks : (r : Reading) (phase : Phase) → nat_lt (pos_of r) (end_of r) ≡ true → is_some (asked_in r phase) ≡ true
left_asks r Direct left = ap (λ b. is_some (cond b (ask_for r (index_of r) (len_of r)) None)) left
left_asks r Lengths left = refl
left_asks r (Others lengths sum k) left = refl

two_end : (r : Reading) (k : ℕ) → is_more (two_lost r k) ≡ false
two_end r k =
    let a = server_at r (index_of r) in
    let b = server_at r k in
    cond_both (nat_lt a.0 b.0) (got.Unreachable a b) (got.Unreachable b a) (λ g. is_more g ≡ false) (λ _. refl) (λ _. refl)

-- what ends isn't more
not_both : (g : Got) → is_more g ≡ false → is_more g ≡ true → ⊥
not_both g ends more = false≢true (sym ends ∙ more)

gained_asks : (before r : Reading) (blocked : Option ℕ) → is_more (gained_by before r blocked).1 ≡ true → Asks (gained_by before r blocked).0
gained_asks before r None more =
    left_asks r r.phase (only_more (nat_lt (pos_of r) (end_of r)) more)
  where
    only_more : (b : Bool) → is_more (cond b got.More (got.Bytes r.read)) ≡ true → b ≡ true
    only_more true h = refl
    only_more false h = absurd cc
gained_asks before r (Some k) more = absurd (not_both (two_lost r k) (two_end r k) more)

gained_more : (before r : Reading) → is_more (gained before r).1 ≡ true → Asks (gained before r).0
gained_more before r more = gained_asks before r (blocked_in r r.phase) more

gone_asks : (r : Reading) → is_more (own_gone r).1 ≡ true → Asks (own_gone r).0
gone_asks r =
    cond_both {A = Reading × Got} (is_lost r (r.servers - 1)) (r, two_lost r (r.servers - 1)) (own_lost r, got.More) (λ p. is_more p.1 ≡ true → Asks p.0)
    (λ _ more. absurd (not_both (two_lost r (r.servers - 1)) (two_end r (r.servers - 1)) more)) (λ _ more. refl)

lost_asks : (r : Reading) (k : ℕ) → is_more (two_lost r k) ≡ true → Asks r
lost_asks r k more = absurd (not_both (two_lost r k) (two_end r k) more)

fed_asks : (r : Reading) (phase : Phase) (t : Response) → Asks r → is_more (fed_in r phase t).1 ≡ true → Asks (fed_in r phase t).0
fed_asks r Direct told.Done asks more = asks
fed_asks r Direct (told.Bytes bytes) asks more = gained_more r (advanced r bytes) more
fed_asks r Direct (told.Parity lengths bytes) asks more = asks
fed_asks r Direct (told.Ids ids) asks more = asks
fed_asks r Direct (told.Refused fault) asks more = asks
fed_asks r Direct told.Down asks more = gone_asks r more
fed_asks r Direct told.Blank asks more = gone_asks r more
fed_asks r Lengths told.Done asks more = asks
fed_asks r Lengths (told.Bytes bytes) asks more = asks
fed_asks r Lengths (told.Parity lengths bytes) asks more = gained_more r (sought r lengths bytes (r.servers - 1)) more
fed_asks r Lengths (told.Ids ids) asks more = asks
fed_asks r Lengths (told.Refused fault) asks more = asks
fed_asks r Lengths told.Down asks more = asks
fed_asks r Lengths told.Blank asks more = asks
fed_asks r (Others lengths sum k) told.Done asks more = asks
fed_asks r (Others lengths sum k) (told.Bytes bytes) asks more = gained_more r (sought r lengths (xored sum bytes) (r.servers - 1 - (k + 1))) more
fed_asks r (Others lengths sum k) (told.Parity ls bytes) asks more = asks
fed_asks r (Others lengths sum k) (told.Ids ids) asks more = asks
fed_asks r (Others lengths sum k) (told.Refused fault) asks more = asks
fed_asks r (Others lengths sum k) told.Down asks more = asks
fed_asks r (Others lengths sum k) told.Blank asks more = asks

pub more_asks : (r : Reading) (t : Response) → Asks r → is_more (fed r t).1 ≡ true → Asks (fed r t).0
more_asks r t asks more = fed_asks r r.phase t asks more

pub start_asks : (n f : ℕ) (ptr : Ptr) (out : Option ServerId) → 0 < ptr.len → Asks (start n f ptr out)
start_asks n f ptr out some =
    let left : nat_lt (ptr.offset + 0) (ptr.offset + ptr.len) ≡ true = lt-ltb (ptr.offset + 0) (ptr.offset + ptr.len) (omega (arith, some)) in
    left_asks (start n f ptr out) (start n f ptr out).phase left

-- ---- answer by answer

-- these maps have answered a read that goes on, so many times
pub record IsRead (maps : Maps) (first now : Reading) (count : ℕ) : Type 0 where
  pub answers : List Response
  pub all : AllAnswer maps None None first answers
  pub lead : LeadOn first answers now
  pub long : length answers ≡ count
  pub asks : Asks now

pub not_read : (maps : Maps) (first now : Reading) → now ≡ first → Asks first → IsRead maps first now 0
not_read maps first now is asks = record { answers = []; all = tt; lead = is; long = refl; asks = subst Asks (sym is) asks }

module _ (maps : Maps) (first now next : Reading) (g : Got) (count : ℕ) (read : IsRead maps first now count) (one : IsFed maps now next g) where
  pub read_more : is_more g ≡ true → IsRead maps first next (count + 1)
  read_more more =
      let on : is_more (fed now one.answer).1 ≡ true = ap is_more (sym one.comes) ∙ more in
      record {
        answers = read.answers ++ one.answer ∷ [];
        all = all_and_one maps None None first now read.answers one.answer read.all read.lead one.from;
        lead = subst (LeadOn first (read.answers ++ one.answer ∷ [])) (sym one.leads) (leads_on first now read.answers one.answer read.lead on);
        long = length-append read.answers (one.answer ∷ []) ∙ ap (λ (k : ℕ). k + 1) read.long;
        asks = subst Asks (sym one.leads) (more_asks now one.answer read.asks on);
      }

  pub read_ends : is_more g ≡ false → answered first (read.answers ++ one.answer ∷ []) ≡ Some g
  read_ends ends = comes_to first now read.answers one.answer read.lead (ap is_more (sym one.comes) ∙ ends) ∙ ap Some (sym one.comes)

  pub all_answer : AllAnswer maps None None first (read.answers ++ one.answer ∷ [])
  all_answer = all_and_one maps None None first now read.answers one.answer read.all read.lead one.from

pub not_more : (g : Got) → (g ≡ got.More → ⊥) → is_more g ≡ false
not_more got.More other = absurd (other refl)
not_more (got.Bytes bytes) other = refl
not_more (got.Unreachable a b) other = refl
not_more got.Gone other = refl
not_more (got.Old generation) other = refl

pub both_ok : {T E P : Type 0} (r : Result T E) (Q R : T → Type 0) → OnOk r P → IfOk r Q → ((x : T) → P → Q x → R x) → IfOk r R
both_ok (Ok x) Q R p q both = both x p q
both_ok (Err e) Q R p q both = tt
