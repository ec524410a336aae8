-- What a read is answered.
use Rattle.std.proofs.Common.{◌≡◌, ℕ, ◌+◌, ◌<◌, false, length, take, drop, Option, Some, None, refl, sym, ap, ◌∙◌, subst, inr, arith}
use Rattle.std.specs.Prelude.{nat_lt, nat_le}
use Rattle.std.proofs.lemmas.Bool.{cond_both, leb-true, lt-leb}
use Rattle.std.proofs.lemmas.List.{length-take-le, length-drop}
use Rattle.zb_types.specs.declared.ids.ServerId.{ServerId}
use Rattle.zb_types.specs.declared.ids.FragId.{FragId}
use Rattle.zb_types.specs.declared.requests.Request.{Request}
use Rattle.zb_types.specs.declared.requests.Request.TheVariants as ask
use Rattle.zb_types.specs.declared.requests.Response.{Response}
use Rattle.zb_types.specs.declared.requests.Response.TheVariants as told
use Rattle.zb_types.specs.declared.requests.StoreFault.TheVariants as fault
use Rattle.zb_holding.specs.Fragments.{Fragment, share_fragment, parity_fragment}
use Rattle.zb_holding.specs.Placing.{server_of}
use Rattle.zb_holding.specs.Holding.{Maps, is_away}
use Rattle.zb_holding.specs.Carrying.{found}
use Rattle.zb_holding.proofs.Ruled.{retrieve_is_found}
use Rattle.zb_stripe.specs.declared.progress.Phase.{Phase}
use Rattle.zb_stripe.specs.declared.progress.Phase.TheVariants.{Direct, Lengths, Others}
use Rattle.zb_stripe.specs.Reading.{Reading, pos_of, end_of, index_of, len_of, ask_for, asked, asked_in, Answers, AnswersRetrieve}
use Rattle.zb_stripe_laws.specs.ReadAtWork.{AnswersFrom}
use Rattle.zb_stripe_laws.proofs.Ranges.{length-parity_range}
use Rattle.zb_servers.specs.Serving.{MayAsk}
use Rattle.zb_servers_laws.specs.Indexed.{FitsIndex, AllFitIndex}
use Rattle.zb_servers_laws.specs.Answered.{IsAnswered}
use Rattle.zb_servers_laws.proofs.Asking.{at_server}

-- nothing is asked, or a fragment of the server that it is placed on
abbrev Retrieves : ℕ → Option (ServerId × Request) → Type 0
Retrieves n None = Unit {0}
Retrieves n (Some (server, ask.Retrieve id place len)) = server ≡ server_of n id
Retrieves n (Some (server, request)) = ⊥

retrieves_in : (r : Reading) (phase : Phase) → Retrieves r.servers (asked_in r phase)
retrieves_in r Direct = cond_both (nat_lt (pos_of r) (end_of r)) (ask_for r (index_of r) (len_of r)) None (Retrieves r.servers) (λ _. refl) (λ _. tt)
retrieves_in r Lengths = refl
retrieves_in r (Others lengths sum k) = refl

retrieves : (r : Reading) (one : ServerId × Request) → asked r ≡ Some one → Retrieves r.servers (Some one)
retrieves r one is = subst (Retrieves r.servers) is (retrieves_in r r.phase)

may_retrieve : (n : ℕ) (one : ServerId × Request) → 0 < n → Retrieves n (Some one) → MayAsk n one
may_retrieve n (server, ask.Store id bytes class) some is = absurd is
may_retrieve n (server, ask.Append id place bytes) some is = absurd is
may_retrieve n (server, ask.Parity id lengths bytes class) some is = absurd is
may_retrieve n (server, ask.Retrieve id place len) some is =
    subst (λ s. MayAsk n (s, ask.Retrieve id place len)) (sym is) (at_server n id (ask.Retrieve id place len) some tt)
may_retrieve n (server, ask.Delete id) some is = absurd is
may_retrieve n (server, ask.Identify after) some is = absurd is
may_retrieve n (server, ask.Fence generation) some is = absurd is

pub read_may_ask : (r : Reading) (one : ServerId × Request) → 0 < r.servers → asked r ≡ Some one → MayAsk r.servers one
read_may_ask r one some is = may_retrieve r.servers one some (retrieves r one is)

found_answers : (n : ℕ) (id : FragId) (place len : ℕ) (o : Option Fragment) → FitsIndex n id o → AnswersRetrieve n id len (found o place len)
found_answers n id place len None fits = tt
found_answers n id place len (Some (share_fragment bytes)) fits =
    cond_both (nat_le (place + len) (length bytes)) (told.Bytes (take len (drop place bytes))) (told.Refused (fault.Short (length bytes))) (AnswersRetrieve n id len)
    (λ e. (fits, let within = leb-true (place + len) (length bytes) e in length-take-le len (drop place bytes) (omega (arith, within, length-drop place bytes)))) (λ _. tt)
found_answers n id place len (Some (parity_fragment lengths bytes)) fits = (fits.0, fits.1, length-parity_range bytes place len)

-- what is answered is what the maps have
retrieved : (maps : Maps) (generation : ℕ) (server : ServerId) (id : FragId) (place len : ℕ) (response : Response) → IsAnswered maps generation (server, ask.Retrieve id place len) response
    → response ≡ found (maps server id) place len
retrieved maps generation server id place len response a =
    retrieve_is_found a.has generation id place len response (lt-leb _ _ (omega (arith, a.takes))) a.answers ∙ ap (λ o. found o place len) (a.own id)

module _ (n : ℕ) (maps : Maps) (generation : ℕ) where
  answers_one : (one : ServerId × Request) (response : Response) → AllFitIndex n maps → Retrieves n (Some one) → IsAnswered maps generation one response → Answers n (Some one) response
  answers_one (server, ask.Store id bytes class) response fit is a = absurd is
  answers_one (server, ask.Append id place bytes) response fit is a = absurd is
  answers_one (server, ask.Parity id lengths bytes class) response fit is a = absurd is
  answers_one (server, ask.Retrieve id place len) response fit is a =
      subst (AnswersRetrieve n id len) (sym (retrieved maps generation server id place len response a)) (found_answers n id place len (maps server id) (fit server id))
  answers_one (server, ask.Delete id) response fit is a = absurd is
  answers_one (server, ask.Identify after) response fit is a = absurd is
  answers_one (server, ask.Fence fence) response fit is a = absurd is

  from_one : (x z : Option ServerId) (one : ServerId × Request) (response : Response) → is_away x one.0 ≡ false → Retrieves n (Some one) → IsAnswered maps generation one response
      → AnswersFrom maps x z (Some one) response
  from_one x z (server, ask.Store id bytes class) response looked is a = absurd is
  from_one x z (server, ask.Append id place bytes) response looked is a = absurd is
  from_one x z (server, ask.Parity id lengths bytes class) response looked is a = absurd is
  from_one x z (server, ask.Retrieve id place len) response looked is a = inr (looked, retrieved maps generation server id place len response a)
  from_one x z (server, ask.Delete id) response looked is a = absurd is
  from_one x z (server, ask.Identify after) response looked is a = absurd is
  from_one x z (server, ask.Fence fence) response looked is a = absurd is

-- the answer is one that a read takes
pub read_takes : (maps : Maps) (generation : ℕ) (r : Reading) (one : ServerId × Request) (response : Response) → AllFitIndex r.servers maps → asked r ≡ Some one
    → IsAnswered maps generation one response → Answers r.servers (asked r) response
read_takes maps generation r one response fit is a =
    subst (λ o. Answers r.servers o response) (sym is) (answers_one r.servers maps generation one response fit (retrieves r one is) a)

-- it is what the servers' maps have
pub read_answers_from : (maps : Maps) (generation : ℕ) (x z : Option ServerId) (r : Reading) (one : ServerId × Request) (response : Response) → is_away x one.0 ≡ false → asked r ≡ Some one
    → IsAnswered maps generation one response → AnswersFrom maps x z (asked r) response
read_answers_from maps generation x z r one response looked is a =
    subst (λ o. AnswersFrom maps x z o response) (sym is) (from_one r.servers maps generation x z one response looked (retrieves r one is) a)
