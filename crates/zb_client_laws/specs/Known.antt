-- What a client's machine knows of itself.
use Rattle.std.specs.Prelude.{◌≡◌, ◌≤◌, true, All, length, IfSome}
use Rattle.zb_types.specs.Apply.{is_update}
use Rattle.zb_tables.specs.Taking.{Sizes}
use Rattle.zb_work.specs.Steps.{aim_of}
use Rattle.zb_work.specs.Fitting.{TaskFits, AimFits, IsBehind}
use Rattle.zb_client.specs.Seen.{SeenClient, IsLogOf, HasGiven}

-- the machine's own invariant
pub record IsKnown (c : SeenClient) : Type 0 where
  pub log : IsLogOf c.servers c.fragment c.block c.log.log c.log
  pub given : HasGiven c.log
  pub behind : IfSome c.flushed (IsBehind c.log)
  pub numbered : 1 ≤ c.batch
  pub updates : All (λ call. is_update call.call ≡ true) c.kept
  pub in_doubt : c.doubted ≤ length c.kept
  pub work : TaskFits c.servers c.fragment c.block c.log c.kept c.queue c.doubted c.task
  pub aim : AimFits c.kept c.queue (aim_of c.task)

-- the machine is made for these sizes
pub record HasSizes (z : Sizes) (c : SeenClient) : Type 0 where
  pub servers : c.servers ≡ z.servers
  pub fragment : c.fragment ≡ z.fragment
  pub block : c.block ≡ z.block
