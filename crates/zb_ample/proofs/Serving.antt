-- Servers stay filled where one of them has answered.
use Rattle.std.proofs.Common.{◌≡◌, ◌≢◌, ℕ, true, false, Bool, Some, refl, sym, ap, ◌∙◌, subst, arith, inl, inr}
use Rattle.std.specs.Prelude.{◌⊎◌, if◌then◌else◌, is_some}
use Rattle.std.proofs.lemmas.Bool.{cases_eq}
use Rattle.zb_types.specs.declared.ids.FragId.{FragId}
use Rattle.zb_types.specs.declared.ids.ServerId.{ServerId}
use Rattle.zb_types.specs.declared.requests.Request.{Request}
use Rattle.zb_types.specs.declared.requests.Request.TheVariants as ask
use Rattle.zb_types.specs.declared.requests.Response.{Response}
use Rattle.zb_types.specs.declared.requests.Response.TheVariants as told
use Rattle.zb_holding.specs.Rules.{AreSame, Holdings, has_after, is_done}
use Rattle.zb_stripe.specs.Reading.{Answers, AnswersRetrieve}
use Rattle.zb_servers.specs.Standing.{SeenServer, SeenServers, has, holdings_of, maps_of, server_at}
use Rattle.zb_servers_laws.specs.Answered.{IsWrite}
use Rattle.zb_sound.specs.LastFlush.{FindsItsPlace}
use Rattle.zb_system.specs.Steps.{IsServed}
use Rattle.zb_ample.specs.Taking.{SlotsAreTaken}
use Rattle.zb_ample.proofs.Slots.{all_weaker, taken_stays}

-- a read isn't answered as done
retrieve_undone : (n : ℕ) (id : FragId) (len : ℕ) (response : Response) → AnswersRetrieve n id len response → is_done response ≡ false
retrieve_undone n id len told.Done a = absurd a
retrieve_undone n id len (told.Bytes bytes) a = refl
retrieve_undone n id len (told.Parity lengths bytes) a = refl
retrieve_undone n id len (told.Ids ids) a = refl
retrieve_undone n id len (told.Refused fault) a = refl
retrieve_undone n id len told.Down a = refl
retrieve_undone n id len told.Blank a = refl

pub read_undone : (n : ℕ) (one : ServerId × Request) (response : Response) → Answers n (Some one) response → is_done response ≡ false
read_undone n (server, ask.Store id bytes class) response a = absurd a
read_undone n (server, ask.Append id place bytes) response a = absurd a
read_undone n (server, ask.Parity id lengths bytes class) response a = absurd a
read_undone n (server, ask.Retrieve id place len) response a = retrieve_undone n id len response a
read_undone n (server, ask.Delete id) response a = absurd a
read_undone n (server, ask.Identify after) response a = absurd a
read_undone n (server, ask.Fence generation) response a = absurd a

-- a server that has what it had
same_taken : (slots : ℕ) (has now : Holdings) → AreSame now has → SlotsAreTaken slots has → SlotsAreTaken slots now
same_taken slots has now same t = record {
  names = t.names;
  differ = t.differ;
  stand = all_weaker (λ id. is_some (has.map id) ≡ true) (λ id. is_some (now.map id) ≡ true) t.names (λ id some. ap is_some (same.map id) ∙ some) t.stand;
  many = let many = t.many in let free = same.free in omega (arith, many, free);
}

module _ (old new : SeenServers) (one : ServerId × Request) (response : Response) (generation : ℕ) (served : IsServed old new generation one response)
    (taken : (server : ServerId) → SlotsAreTaken old.slots (has old server)) where
  -- where the one that was asked is filled still, all are
  each_taken : SlotsAreTaken old.slots (has new one.0) → (server : ServerId) → SlotsAreTaken new.slots (has new server)
  each_taken own server = by (cases_eq server.0 one.0.0) where
    by : (server.0 ≡ one.0.0) ⊎ (server.0 ≢ one.0.0) → SlotsAreTaken new.slots (has new server)
    by (inl here) =
        subst (λ (n : ℕ). SlotsAreTaken n (has new server)) (sym served.slots)
        (subst (λ (x : ServerId). SlotsAreTaken old.slots (has new x)) (λ k. record { 0 = sym here k }) own)
    by (inr ne) =
        subst (λ (n : ℕ). SlotsAreTaken n (holdings_of n (server_at new.servers server))) (sym served.slots)
        (subst (λ (x : SeenServer). SlotsAreTaken old.slots (holdings_of old.slots x)) (sym (served.others server ne)) (taken server))

  -- nothing has changed
  module _ (undone : is_done response ≡ false) where
    same_one : AreSame (has new one.0) (has old one.0)
    same_one = subst (λ (b : Bool). AreSame (has new one.0) (if b then has_after one.1 (has old one.0) else has old one.0)) undone served.left

    pub undone_taken : (server : ServerId) → SlotsAreTaken new.slots (has new server)
    undone_taken = each_taken (same_taken old.slots (has old one.0) (has new one.0) same_one (taken one.0))

  -- a write was carried out
  module _ (done : is_done response ≡ true) (write : IsWrite one.1) (finds : FindsItsPlace one.1 (maps_of old one.0)) where
    after_one : AreSame (has new one.0) (has_after one.1 (has old one.0))
    after_one = subst (λ (b : Bool). AreSame (has new one.0) (if b then has_after one.1 (has old one.0) else has old one.0)) done served.left

    pub done_taken : (server : ServerId) → SlotsAreTaken new.slots (has new server)
    done_taken = each_taken (taken_stays old.slots (has old one.0) (has new one.0) one.1 write finds after_one (taken one.0))
