-- What answers make of a read.
use Rattle.std.proofs.Common.{◌≡◌, ℕ, zero, suc, ◌+◌, ◌-◌, ◌||◌, cond, eqb, leb, List, get_or, refl, sym, ap, ◌∙◌}
use Rattle.zb_types.specs.declared.requests.Response.{Response}
use Rattle.zb_types.specs.declared.requests.Response.TheVariants as told
use Rattle.zb_holding.specs.Exclusive.{xored}
use Rattle.zb_stripe.specs.declared.progress.Phase.{Phase}
use Rattle.zb_stripe.specs.declared.progress.Phase.TheVariants.{Direct, Lengths, Others}
use Rattle.zb_stripe.specs.Reading.{Reading, with_phase, index_of, place_of, sought, gained, fed, fed_in, AnswersIn}

-- a search doesn't look at what is asked now
pub sought_phase : (r : Reading) (lengths sum : List ℕ) (rest : ℕ) → sought (with_phase r Direct) lengths sum rest ≡ sought r lengths sum rest
sought_phase r lengths sum zero = refl
sought_phase r lengths sum (suc rest) =
    ap (λ (z : Reading). cond (eqb (r.servers - 1 - suc rest) (index_of r) || leb (get_or lengths (r.servers - 1 - suc rest) 0) (place_of r)) z (with_phase r (Others lengths sum (r.servers - 1 - suc rest)))) (sought_phase r lengths sum rest)

pub gather_others : (r new : Reading) (response : Response) (lengths sum bytes next : List ℕ) (k : ℕ) → r.phase ≡ Others lengths sum k → response ≡ told.Bytes bytes → next ≡ xored sum bytes
    → new ≡ sought (with_phase r Direct) lengths next (r.servers - 1 - (k + 1)) → gained r new ≡ fed r response
gather_others r new response lengths sum bytes next k e b s n =
    ap (gained r) (n ∙ ap (λ (z : List ℕ). sought (with_phase r Direct) lengths z (r.servers - 1 - (k + 1))) s ∙ sought_phase r lengths (xored sum bytes) (r.servers - 1 - (k + 1)))
    ∙ sym (ap (λ (p : Phase). fed_in r p response) e ∙ ap (fed_in r (Others lengths sum k)) b)

pub gather_lengths : (r new : Reading) (response : Response) (lengths bytes next : List ℕ) → r.phase ≡ Lengths → response ≡ told.Parity lengths bytes → next ≡ bytes
    → new ≡ sought (with_phase r Direct) lengths next (r.servers - 1) → gained r new ≡ fed r response
gather_lengths r new response lengths bytes next e b s n =
    ap (gained r) (n ∙ ap (λ (z : List ℕ). sought (with_phase r Direct) lengths z (r.servers - 1)) s ∙ sought_phase r lengths bytes (r.servers - 1))
    ∙ sym (ap (λ (p : Phase). fed_in r p response) e ∙ ap (fed_in r Lengths) b)

-- a parity answers for lengths alone
pub parity_phase : (r : Reading) (phase : Phase) (lengths bytes : List ℕ) → AnswersIn r phase (told.Parity lengths bytes) → phase ≡ Lengths
parity_phase r Direct lengths bytes a = absurd a
parity_phase r Lengths lengths bytes a = refl
parity_phase r (Others ls sum k) lengths bytes a = absurd a
