-- What placing and sealing a batch gives.
use Rattle.std.specs.Prelude.{◌≡◌, ℕ, ◌++◌, List, All}
use Rattle.std.specs.List.{concat}
use Rattle.zb_types.specs.declared.nodes.Members.{Members}
use Rattle.zb_stripe.specs.Fresh.{HasRoom}
use Rattle.zb_log.specs.declared.placed.Placed.{Placed}
use Rattle.zb_log.specs.Logs.{SeenLog, ForGiven, IsSealed}
use Rattle.zb_log.specs.Sealing.{LiesAhead}
use Rattle.zb_batch.specs.declared.batch.Batch.{Batch}
use Rattle.zb_batch.specs.Spelling.{spelling_of_batch}
use Rattle.zb_basis.specs.declared.basis.Formed.{Formed}
use Rattle.zb_basis.specs.Forming.{writers_out}
use Rattle.zb_pass.specs.Forming.{IsStored}

-- the batch that was placed is sealed, and its requests stand
pub record IsMade (n f : ℕ) (log : SeenLog) (members : Members) (batch : Batch) (placed : Placed) (blocks : List (List ℕ)) (formed : Formed) : Type 0 where
  pub same_members : formed.sealed.members ≡ members
  pub same_batch : formed.sealed.batch ≡ batch
  pub same_place : formed.sealed.placed ≡ placed
  pub is_sealed : IsSealed log formed.sealed.placed formed.fresh
  pub log_is : formed.fresh.log ≡ log.log
  pub room : All (HasRoom log.room) formed.fresh.parts
  pub ahead : All (LiesAhead log.next.stripe) formed.fresh.parts
  pub stored : ForGiven log (IsStored n f log formed.sealed.placed (spelling_of_batch formed.sealed.batch ++ concat blocks) blocks (writers_out members.state) formed.fresh formed.plan)
