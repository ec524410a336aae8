-- What plain servers answer to a read.
use Rattle.std.proofs.Common.{◌≡◌, ℕ, ◌+◌, ◌<◌, true, false, cond, List, [], ◌∷◌, ◌++◌, length, take, drop, Option, Some, None, refl, sym, ap, ◌∙◌, subst, inr, arith}
use Rattle.std.specs.Prelude.{nat_lt, nat_le}
use Rattle.std.proofs.lemmas.Bool.{cond_both, leb-true}
use Rattle.std.proofs.lemmas.List.{length-take-le, length-drop}
use Rattle.zb_types.specs.declared.ids.ServerId.{ServerId}
use Rattle.zb_types.specs.declared.ids.FragId.{FragId}
use Rattle.zb_types.specs.declared.requests.Request.{Request}
use Rattle.zb_types.specs.declared.requests.Request.TheVariants as ask
use Rattle.zb_types.specs.declared.requests.Response.{Response}
use Rattle.zb_types.specs.declared.requests.Response.TheVariants as told
use Rattle.zb_types.specs.declared.requests.StoreFault.TheVariants as fault
use Rattle.zb_holding.specs.Fragments.{Fragment, share_fragment, parity_fragment}
use Rattle.zb_holding.specs.Placing.{server_of}
use Rattle.zb_holding.specs.Holding.{Maps, is_away}
use Rattle.zb_holding.specs.Carrying.{found}
use Rattle.zb_stripe.specs.declared.progress.Phase.{Phase}
use Rattle.zb_stripe.specs.declared.progress.Phase.TheVariants.{Direct, Lengths, Others}
use Rattle.zb_stripe.specs.Reading.{Reading, pos_of, end_of, index_of, len_of, ask_for, asked, asked_in, fed, answered, is_more, Answers, AnswersRetrieve}
use Rattle.zb_stripe_laws.specs.ReadAtWork.{AllAnswer, AnswersFrom}
use Rattle.zb_stripe_laws.proofs.Ranges.{length-parity_range}
use Rattle.zb_plain.specs.Standing.{Entries, entries_of, maps_of}
use Rattle.zb_plain.specs.Answering.{answer_of, MayAsk}
use Rattle.zb_plain.specs.Indexed.{FitsIndex, AllFitIndex}
use Rattle.zb_plain.specs.Leading.{LeadOn}
use Rattle.zb_plain.proofs.Asking.{at_server}
use Rattle.zb_plain.proofs.Ruling.{retrieve_found}

-- nothing is asked, or a fragment of the server that it is placed on
abbrev Retrieves : ℕ → Option (ServerId × Request) → Type 0
Retrieves n None = Unit {0}
Retrieves n (Some (server, ask.Retrieve id place len)) = server ≡ server_of n id
Retrieves n (Some (server, request)) = ⊥

retrieves_in : (r : Reading) (phase : Phase) → Retrieves r.servers (asked_in r phase)
retrieves_in r Direct = cond_both (nat_lt (pos_of r) (end_of r)) (ask_for r (index_of r) (len_of r)) None (Retrieves r.servers) (λ _. refl) (λ _. tt)
retrieves_in r Lengths = refl
retrieves_in r (Others lengths sum k) = refl

retrieves : (r : Reading) (one : ServerId × Request) → asked r ≡ Some one → Retrieves r.servers (Some one)
retrieves r one is = subst (Retrieves r.servers) is (retrieves_in r r.phase)

may_retrieve : (n : ℕ) (one : ServerId × Request) → 0 < n → Retrieves n (Some one) → MayAsk n one
may_retrieve n (server, ask.Store id bytes class) some is = absurd is
may_retrieve n (server, ask.Append id place bytes) some is = absurd is
may_retrieve n (server, ask.Parity id lengths bytes class) some is = absurd is
may_retrieve n (server, ask.Retrieve id place len) some is =
    subst (λ s. MayAsk n (s, ask.Retrieve id place len)) (sym is) (at_server n id (ask.Retrieve id place len) some tt)
may_retrieve n (server, ask.Delete id) some is = absurd is
may_retrieve n (server, ask.Identify after) some is = absurd is
may_retrieve n (server, ask.Fence generation) some is = absurd is

pub read_may_ask : (r : Reading) (one : ServerId × Request) → 0 < r.servers → asked r ≡ Some one → MayAsk r.servers one
read_may_ask r one some is = may_retrieve r.servers one some (retrieves r one is)

found_answers : (n : ℕ) (id : FragId) (place len : ℕ) (o : Option Fragment) → FitsIndex n id o → AnswersRetrieve n id len (found o place len)
found_answers n id place len None fits = tt
found_answers n id place len (Some (share_fragment bytes)) fits =
    cond_both (nat_le (place + len) (length bytes)) (told.Bytes (take len (drop place bytes))) (told.Refused (fault.Short (length bytes))) (AnswersRetrieve n id len)
    (λ e. (fits, let within = leb-true (place + len) (length bytes) e in length-take-le len (drop place bytes) (omega (arith, within, length-drop place bytes)))) (λ _. tt)
found_answers n id place len (Some (parity_fragment lengths bytes)) fits = (fits.0, fits.1, length-parity_range bytes place len)

answers_one : (n : ℕ) (servers : List Entries) (one : ServerId × Request) → AllFitIndex n (maps_of servers) → Retrieves n (Some one)
    → Answers n (Some one) (answer_of (entries_of servers one.0) one.1)
answers_one n servers (server, ask.Store id bytes class) fit is = absurd is
answers_one n servers (server, ask.Append id place bytes) fit is = absurd is
answers_one n servers (server, ask.Parity id lengths bytes class) fit is = absurd is
answers_one n servers (server, ask.Retrieve id place len) fit is =
    subst (AnswersRetrieve n id len) (sym (retrieve_found (entries_of servers server) id place len)) (found_answers n id place len (maps_of servers server id) (fit server id))
answers_one n servers (server, ask.Delete id) fit is = absurd is
answers_one n servers (server, ask.Identify after) fit is = absurd is
answers_one n servers (server, ask.Fence generation) fit is = absurd is

-- the answer is one that a read takes
pub read_takes : (servers : List Entries) (r : Reading) (one : ServerId × Request) → AllFitIndex r.servers (maps_of servers) → asked r ≡ Some one
    → Answers r.servers (asked r) (answer_of (entries_of servers one.0) one.1)
read_takes servers r one fit is =
    subst (λ o. Answers r.servers o (answer_of (entries_of servers one.0) one.1)) (sym is) (answers_one r.servers servers one fit (retrieves r one is))

from_one : (n : ℕ) (servers : List Entries) (x z : Option ServerId) (one : ServerId × Request) → is_away x one.0 ≡ false → Retrieves n (Some one)
    → AnswersFrom (maps_of servers) x z (Some one) (answer_of (entries_of servers one.0) one.1)
from_one n servers x z (server, ask.Store id bytes class) looked is = absurd is
from_one n servers x z (server, ask.Append id place bytes) looked is = absurd is
from_one n servers x z (server, ask.Parity id lengths bytes class) looked is = absurd is
from_one n servers x z (server, ask.Retrieve id place len) looked is = inr (looked, retrieve_found (entries_of servers server) id place len)
from_one n servers x z (server, ask.Delete id) looked is = absurd is
from_one n servers x z (server, ask.Identify after) looked is = absurd is
from_one n servers x z (server, ask.Fence generation) looked is = absurd is

-- it is what the servers' maps have
pub read_answers_from : (servers : List Entries) (x z : Option ServerId) (r : Reading) (one : ServerId × Request) → is_away x one.0 ≡ false → asked r ≡ Some one
    → AnswersFrom (maps_of servers) x z (asked r) (answer_of (entries_of servers one.0) one.1)
read_answers_from servers x z r one looked is =
    subst (λ o. AnswersFrom (maps_of servers) x z o (answer_of (entries_of servers one.0) one.1)) (sym is) (from_one r.servers servers x z one looked (retrieves r one is))

-- ---- one answer more

pub all_and_one : (maps : Maps) (x z : Option ServerId) (first last : Reading) (ts : List Response) (t : Response) → AllAnswer maps x z first ts → LeadOn first ts last
    → AnswersFrom maps x z (asked last) t → AllAnswer maps x z first (ts ++ t ∷ [])
all_and_one maps x z first last [] t all lead one = (subst (λ (r : Reading). AnswersFrom maps x z (asked r) t) lead one, λ _. tt)
all_and_one maps x z first last (s ∷ ts) t all lead one = (all.0, λ more. all_and_one maps x z (fed first s).0 last ts t (all.1 more) lead.1 one)

pub leads_on : (first last : Reading) (ts : List Response) (t : Response) → LeadOn first ts last → is_more (fed last t).1 ≡ true → LeadOn first (ts ++ t ∷ []) (fed last t).0
leads_on first last [] t lead more = (ap (λ (r : Reading). is_more (fed r t).1) (sym lead) ∙ more, ap (λ (r : Reading). (fed r t).0) lead)
leads_on first last (s ∷ ts) t lead more = (lead.0, leads_on (fed first s).0 last ts t lead.1 more)

pub comes_to : (first last : Reading) (ts : List Response) (t : Response) → LeadOn first ts last → is_more (fed last t).1 ≡ false → answered first (ts ++ t ∷ []) ≡ Some (fed last t).1
comes_to first last [] t lead ends =
    ap (λ b. cond b (answered (fed first t).0 []) (Some (fed first t).1)) (ap (λ (r : Reading). is_more (fed r t).1) (sym lead) ∙ ends)
    ∙ ap (λ (r : Reading). Some (fed r t).1) (sym lead)
comes_to first last (s ∷ ts) t lead ends =
    ap (λ b. cond b (answered (fed first s).0 (ts ++ t ∷ [])) (Some (fed first s).1)) lead.0 ∙ comes_to (fed first s).0 last ts t lead.1 ends

pub not_ended : (first last : Reading) (ts : List Response) → LeadOn first ts last → answered first ts ≡ None
not_ended first last [] lead = refl
not_ended first last (s ∷ ts) lead = ap (λ b. cond b (answered (fed first s).0 ts) (Some (fed first s).1)) lead.0 ∙ not_ended (fed first s).0 last ts lead.1
