-- What a store does with a request, moment by moment.
use Rattle.std.specs.Prelude.{◌≡◌, ◌⊎◌, ℕ, ◌+◌, true, false, if◌then◌else◌, length, Option, Some, None, Result, Ok, Err}
use Rattle.zb_outside.specs.Meaning.{Meaning}
use Rattle.zb_outside.specs.Runs.{Run}
use Rattle.zb_types.specs.declared.ids.FragId.{FragId}
use Rattle.zb_types.specs.declared.requests.Request.{Request}
use Rattle.zb_types.specs.declared.requests.Request.TheVariants as ask
use Rattle.zb_types.specs.declared.requests.Response.{Response}
use Rattle.zb_types.specs.declared.requests.Response.TheVariants as told
use Rattle.zb_types.specs.declared.requests.StoreFault.{StoreFault}
use Rattle.zb_holding.specs.Carrying.{same_frag}
use Rattle.zb_holding.specs.Rules.{Size, share_size, parity_size, MayAnswer, FitsOutline, IsLeft, is_done, fence_after, free_after}
use Rattle.zb_fragstore.specs.Seen.{SeenStore, known, holding, is_there, free_of}
use Rattle.zb_fragstore.specs.Answers.{HasStopped}
use Rattle.zb_fragstore.specs.Changing.{map_in, IsOpen, IsBetween}

-- what is answered: a refusal where there is a fault
abbrev pub said : Result Response StoreFault → Response
said (Ok response) = response
said (Err fault) = told.Refused fault

-- what a call that gives nothing answers
abbrev pub done : Result (Unit {0}) StoreFault → Result Response StoreFault
done (Ok nothing) = Ok told.Done
done (Err fault) = Err fault

-- whatever its platter, a store answers as far as it knows in memory what it has; and its fence and its free slots are as before,
-- or as the request leaves them where it was done
pub record IsKnown (store : SeenStore) (generation : ℕ) (request : Request) (new : SeenStore) (response : Response) : Type 0 where
  pub answer : FitsOutline (known store) generation request response
  pub fence : new.fence ≡ (if is_done response then fence_after request store.fence else store.fence)
  pub free : free_of new ≡ (if is_done response then free_after request (is_there store) (free_of store) else free_of store)

-- these sizes are the former ones but for that of this name
abbrev pub IsSizePut : FragId → Option Size → (old new : FragId → Option Size) → Type 0
IsSizePut id size old new = (q : FragId) → new q ≡ (if same_frag id q then size else old q)

-- the size of each fragment once a request was carried out; an append changes none where its bytes stood there already
abbrev pub AreSizesAfter : Request → (old new : FragId → Option Size) → Type 0
AreSizesAfter (ask.Store id bytes class) old new = IsSizePut id (Some (share_size (length bytes))) old new
AreSizesAfter (ask.Append id place bytes) old new =
    ((q : FragId) → new q ≡ old q) ⊎ ((old id ≡ Some (share_size place)) × IsSizePut id (Some (share_size (place + length bytes))) old new)
AreSizesAfter (ask.Parity id lengths bytes class) old new = IsSizePut id (Some (parity_size (length lengths) (length bytes))) old new
AreSizesAfter (ask.Delete id) old new = IsSizePut id None old new
AreSizesAfter request old new = (q : FragId) → new q ≡ old q

-- the sizes are those that the request leaves where it was done, and else as before
pub record AreSizesLeft (request : Request) (response : Response) (old new : FragId → Option Size) : Type 0 where
  pub done : is_done response ≡ true → AreSizesAfter request old new
  pub same : is_done response ≡ false → (q : FragId) → new q ≡ old q

-- an open store has answered by the rules, and what the answer says was done is done, and nothing else
pub record HasAnswered (store : SeenStore) (generation : ℕ) (request : Request) (new : SeenStore) (response : Response) (a b : Meaning) : Type 0 where
  pub is_open : IsOpen new b.now
  pub answer : MayAnswer (holding store (map_in store a.now)) generation request response
  pub left : IsLeft (holding store (map_in store a.now)) request response (holding new (map_in new b.now))

-- at each moment the platter holds what it held or what the request leaves; and unless it stopped, the store has answered
pub record Answers (store : SeenStore) (generation : ℕ) (request : Request) (new : SeenStore) (result : Result Response StoreFault) (a b : Meaning) : Type 0 where
  pub run : Run store.server.0 (IsBetween store request (a.now.seen store.server.0)) a b
  pub answered : (HasStopped result → ⊥) → HasAnswered store generation request new (said result) a b
