-- A read, answer by answer, where one server may be down.
use Rattle.std.proofs.Common.{◌≡◌, ℕ, ◌+◌, true, false, List, [], ◌∷◌, ◌++◌, length, Option, Some, None, Result, Ok, Err, refl, sym, ap, ◌∙◌, subst, inl}
use Rattle.std.specs.Prelude.{nat_lt, nat_le, IfOk, OnErr, take, drop}
use Rattle.std.proofs.lemmas.Bool.{cond_both}
use Rattle.std.proofs.lemmas.List.{length-append}
use Rattle.zb_types.specs.declared.ids.ServerId.{ServerId}
use Rattle.zb_types.specs.declared.requests.Request.{Request}
use Rattle.zb_types.specs.declared.requests.Request.TheVariants as ask
use Rattle.zb_types.specs.declared.requests.Response.{Response}
use Rattle.zb_types.specs.declared.requests.Response.TheVariants as told
use Rattle.zb_types.specs.declared.requests.StoreFault.TheVariants as fault
use Rattle.zb_holding.specs.Fragments.{Fragment, share_fragment, parity_fragment}
use Rattle.zb_holding.specs.Holding.{Maps, is_away}
use Rattle.zb_holding.specs.Carrying.{found}
use Rattle.zb_holding.specs.Rules.{is_done}
use Rattle.zb_stripe.specs.declared.read_plan.Got.{Got}
use Rattle.zb_stripe.specs.declared.progress.Phase.{Phase}
use Rattle.zb_stripe.specs.declared.progress.Phase.TheVariants.{Direct, Lengths, Others}
use Rattle.zb_stripe.specs.Reading.{Reading, pos_of, end_of, index_of, len_of, ask_for, asked, asked_in, fed, answered, is_more, Answers}
use Rattle.zb_stripe_laws.specs.ReadAtWork.{AllAnswer, AnswersFrom}
use Rattle.zb_plain.specs.Standing.{Entries, entries_of, stands_in, maps_of}
use Rattle.zb_plain.specs.Answering.{answer_of}
use Rattle.zb_plain.specs.Indexed.{AllFitIndex}
use Rattle.zb_plain.specs.Leading.{LeadOn}
use Rattle.zb_plain.proofs.ReadAnswers.{read_takes, read_answers_from, all_and_one, leads_on, comes_to}
use Rattle.zb_plain.proofs.ReadsOn.{Asks, more_asks}
use Rattle.zb_plain.proofs.Ruling.{retrieve_found}
use Rattle.zb_fetching.specs.Feeding.{IsRetrieve, answer_unless_lost, IsFedUnlessLost}

-- ---- a retrieve changes nothing

found_only : (o : Option Fragment) (place len : ℕ) → is_done (found o place len) ≡ false
found_only None place len = refl
found_only (Some (share_fragment bytes)) place len =
    cond_both (nat_le (place + len) (length bytes)) (told.Bytes (take len (drop place bytes))) (told.Refused (fault.Short (length bytes))) (λ t. is_done t ≡ false) (λ _. refl) (λ _. refl)
found_only (Some (parity_fragment lengths bytes)) place len = refl

only_asks : (entries : Entries) (request : Request) → IsRetrieve request → is_done (answer_of entries request) ≡ false
only_asks entries (ask.Store id bytes class) is = absurd is
only_asks entries (ask.Append id place bytes) is = absurd is
only_asks entries (ask.Parity id lengths bytes class) is = absurd is
only_asks entries (ask.Retrieve id place len) is = ap is_done (retrieve_found entries id place len) ∙ found_only (stands_in entries id) place len
only_asks entries (ask.Delete id) is = absurd is
only_asks entries (ask.Identify after) is = absurd is
only_asks entries (ask.Fence generation) is = absurd is

pub changes_nothing : {E P : Type 0} (r : Result Response E) (entries : Entries) (request : Request) → IsRetrieve request
    → IfOk r (λ t. t ≡ answer_of entries request) → IfOk r (λ t. is_done t ≡ false → P) → OnErr r P → P
changes_nothing (Ok t) entries request is answer same err = same (ap is_done answer ∙ only_asks entries request is)
changes_nothing (Err e) entries request is answer same err = err

-- ---- what a read asks for

abbrev Retrieves : Option (ServerId × Request) → Type 0
Retrieves None = Unit {0}
Retrieves (Some one) = IsRetrieve one.1

retrieves_in : (r : Reading) (phase : Phase) → Retrieves (asked_in r phase)
retrieves_in r Direct = cond_both (nat_lt (pos_of r) (end_of r)) (ask_for r (index_of r) (len_of r)) None Retrieves (λ _. tt) (λ _. tt)
retrieves_in r Lengths = tt
retrieves_in r (Others lengths sum k) = tt

pub retrieves : (r : Reading) (one : ServerId × Request) → asked r ≡ Some one → IsRetrieve one.1
retrieves r one is = subst Retrieves is (retrieves_in r r.phase)

down_one : (n : ℕ) (one : ServerId × Request) → IsRetrieve one.1 → Answers n (Some one) told.Down
down_one n (server, ask.Store id bytes class) is = absurd is
down_one n (server, ask.Append id place bytes) is = absurd is
down_one n (server, ask.Parity id lengths bytes class) is = absurd is
down_one n (server, ask.Retrieve id place len) is = tt
down_one n (server, ask.Delete id) is = absurd is
down_one n (server, ask.Identify after) is = absurd is
down_one n (server, ask.Fence generation) is = absurd is

down_from : (maps : Maps) (lost : Option ServerId) (one : ServerId × Request) → is_away lost one.0 ≡ true → IsRetrieve one.1 → AnswersFrom maps lost lost (Some one) told.Down
down_from maps lost (server, ask.Store id bytes class) away is = absurd is
down_from maps lost (server, ask.Append id place bytes) away is = absurd is
down_from maps lost (server, ask.Parity id lengths bytes class) away is = absurd is
down_from maps lost (server, ask.Retrieve id place len) away is = inl (away, tt)
down_from maps lost (server, ask.Delete id) away is = absurd is
down_from maps lost (server, ask.Identify after) away is = absurd is
down_from maps lost (server, ask.Fence generation) away is = absurd is

module _ (servers : List Entries) (lost : Option ServerId) (r : Reading) (one : ServerId × Request) (is : asked r ≡ Some one) where
  -- the read takes the answer
  pub takes : AllFitIndex r.servers (maps_of servers) → Answers r.servers (asked r) (answer_unless_lost servers lost one.0 one.1)
  takes fit =
      cond_both (is_away lost one.0) told.Down (answer_of (entries_of servers one.0) one.1) (Answers r.servers (asked r))
      (λ _. subst (λ o. Answers r.servers o told.Down) (sym is) (down_one r.servers one (retrieves r one is))) (λ _. read_takes servers r one fit is)

  -- it is of what the servers keep, or says that the lost one is down
  pub answers_from : AnswersFrom (maps_of servers) lost lost (asked r) (answer_unless_lost servers lost one.0 one.1)
  answers_from =
      cond_both (is_away lost one.0) told.Down (answer_of (entries_of servers one.0) one.1) (AnswersFrom (maps_of servers) lost lost (asked r))
      (λ away. subst (λ o. AnswersFrom (maps_of servers) lost lost o told.Down) (sym is) (down_from (maps_of servers) lost one away (retrieves r one is)))
      (λ looked. read_answers_from servers lost lost r one looked is)

-- ---- answer by answer

-- these maps have answered a read that goes on, so many times
pub record IsRead (maps : Maps) (lost : Option ServerId) (first now : Reading) (count : ℕ) : Type 0 where
  pub answers : List Response
  pub all : AllAnswer maps lost lost first answers
  pub lead : LeadOn first answers now
  pub long : length answers ≡ count
  pub asks : Asks now

module _ (maps : Maps) (lost : Option ServerId) (first now next : Reading) (g : Got) (count : ℕ) (read : IsRead maps lost first now count) (one : IsFedUnlessLost maps lost now next g) where
  pub all_answer : AllAnswer maps lost lost first (read.answers ++ one.answer ∷ [])
  all_answer = all_and_one maps lost lost first now read.answers one.answer read.all read.lead one.from

  pub read_more : is_more g ≡ true → IsRead maps lost first next (count + 1)
  read_more more =
      let on : is_more (fed now one.answer).1 ≡ true = ap is_more (sym one.comes) ∙ more in
      record {
        answers = read.answers ++ one.answer ∷ [];
        all = all_answer;
        lead = subst (LeadOn first (read.answers ++ one.answer ∷ [])) (sym one.leads) (leads_on first now read.answers one.answer read.lead on);
        long = length-append read.answers (one.answer ∷ []) ∙ ap (λ (k : ℕ). k + 1) read.long;
        asks = subst Asks (sym one.leads) (more_asks now one.answer read.asks on);
      }

  pub read_ends : is_more g ≡ false → answered first (read.answers ++ one.answer ∷ []) ≡ Some g
  read_ends ends = comes_to first now read.answers one.answer read.lead (ap is_more (sym one.comes) ∙ ends) ∙ ap Some (sym one.comes)
