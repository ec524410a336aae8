-- What placing and sealing a batch gives.
use Rattle.std.specs.Prelude.{◌≡◌, ℕ, ◌<◌, ◌≤◌, ◌++◌, true, List, length, All}
use Rattle.std.specs.List.{concat}
use Rattle.zb_types.specs.declared.nodes.Members.{Members}
use Rattle.zb_types.specs.Apply.{is_update}
use Rattle.zb_stripe.specs.Fresh.{HasRoom}
use Rattle.zb_log.specs.declared.placed.Placed.{Placed}
use Rattle.zb_log.specs.Logs.{SeenLog, ForGiven, IsSealed}
use Rattle.zb_log.specs.Sealing.{LiesAhead}
use Rattle.zb_batch.specs.declared.batch.Batch.{Batch}
use Rattle.zb_batch.specs.Spelling.{spelling_of_batch}
use Rattle.zb_basis.specs.declared.calls.Numbered.{Numbered}
use Rattle.zb_basis.specs.declared.basis.Basis.{Basis}
use Rattle.zb_basis.specs.declared.basis.Formed.{Formed}
use Rattle.zb_basis.specs.Runs.{run_of}
use Rattle.zb_basis.specs.Looking.{asks_of, AreFoundFor}
use Rattle.zb_basis.specs.Wanting.{wanted_by, AreFetched}
use Rattle.zb_basis.specs.Forming.{IsStored, writers_out}
use Rattle.zb_forming.specs.declared.draft.Drafts.{Drafts}
use Rattle.zb_forming.specs.Drafts.{drafted, known, no_drafts}

-- what a batch is formed of: calls that form one, what was found and fetched for them, with blocks of b bytes and
-- stripes of this room
pub record IsGiven (b room : ℕ) (calls : List Numbered) (basis : Basis) : Type 0 where
  pub block_low : 64 ≤ b
  pub block_high : b ≤ 4096
  pub run : run_of calls ≡ calls
  pub some : 0 < length calls
  pub updates : All (λ call. is_update call.call ≡ true) calls
  pub found : AreFoundFor b room (asks_of b calls) basis.found
  pub fetched : AreFetched (wanted_by b calls basis.found) basis.fetched

-- the operations of these calls
abbrev pub drafts_of : ℕ → List Numbered → Basis → Drafts
drafts_of b calls basis = drafted b (known basis.fetched) calls basis.found no_drafts

-- the batch that was placed is sealed, and its requests stand
pub record IsMade (n f : ℕ) (log : SeenLog) (members : Members) (batch : Batch) (placed : Placed) (blocks : List (List ℕ)) (formed : Formed) : Type 0 where
  pub same_members : formed.sealed.members ≡ members
  pub same_batch : formed.sealed.batch ≡ batch
  pub same_place : formed.sealed.placed ≡ placed
  pub is_sealed : IsSealed log formed.sealed.placed formed.fresh
  pub log_is : formed.fresh.log ≡ log.log
  pub room : All (HasRoom log.room) formed.fresh.parts
  pub ahead : All (LiesAhead log.next.stripe) formed.fresh.parts
  pub stored : ForGiven log (IsStored n f log formed.sealed.placed (spelling_of_batch formed.sealed.batch ++ concat blocks) blocks (writers_out members.state) formed.fresh formed.plan)
