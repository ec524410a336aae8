-- Steps that tell nothing, and leave a client its calls.
use Rattle.std.proofs.Common.{◌≡◌, Option, Some, None, refl, sym, subst}
use Rattle.zb_log.specs.Logs.{SeenLog}
use Rattle.zb_types.specs.declared.tables.CommitFault.{CommitFault}
use Rattle.zb_types.specs.declared.tables.CommitFault.TheVariants.{NoMemory, Regen, Stale, Stopped, Worn}
use Rattle.zb_work.specs.declared.work.Step.{Step}
use Rattle.zb_work.specs.declared.work.Step.TheVariants as step
use Rattle.zb_work.specs.declared.work.Task.{Task}
use Rattle.zb_work.specs.Steps.{aim_of, with_step}
use Rattle.zb_client.specs.Seen.{SeenClient, at_step}
use Rattle.zb_client.specs.Hearing.{hears_outdated, tried}
use Rattle.zb_client.specs.Telling.{Heard, silent}
use Rattle.zb_client_laws.specs.Effects.{SameCalls, TellsNothing}

pub same_self : (c : SeenClient) → SameCalls c c
same_self c = record { client = refl; kept = refl; queue = refl; aim = refl }

pub aim_same : (st : Step) (t : Option Task) → aim_of (with_step st t) ≡ aim_of t
aim_same st None = refl
aim_same st (Some task) = refl

pub step_told : (c : SeenClient) (st : Step) (heard : Heard) → heard ≡ silent (at_step c st) → TellsNothing c heard
step_told c st heard is = subst (TellsNothing c) (sym is) (record { told = refl; same = record { client = refl; kept = refl; queue = refl; aim = aim_same st c.task } })

pub step_with_log : (c : SeenClient) (log : SeenLog) (st : Step) (heard : Heard) → heard ≡ silent (record (at_step c st) { log = log }) → TellsNothing c heard
step_with_log c log st heard is = subst (TellsNothing c) (sym is) (record { told = refl; same = record { client = refl; kept = refl; queue = refl; aim = aim_same st c.task } })

tried_same : (t : Option Task) → aim_of (with_step step.Lookup (tried t)) ≡ aim_of t
tried_same None = refl
tried_same (Some task) = refl

looks_told : (c : SeenClient) (task : Option Task) → aim_of (with_step step.Lookup task) ≡ aim_of c.task → TellsNothing c (silent (at_step (record c { task = task }) step.Lookup))
looks_told c task aim = record { told = refl; same = record { client = refl; kept = refl; queue = refl; aim = aim } }

pub outdated_told : (c : SeenClient) (fault : CommitFault) → TellsNothing c (hears_outdated c fault)
outdated_told c (Stale fid at now) = looks_told c (tried c.task) (tried_same c.task)
outdated_told c (Regen at now) = looks_told c c.task (aim_same step.Lookup c.task)
outdated_told c (Worn field) = looks_told c c.task (aim_same step.Lookup c.task)
outdated_told c NoMemory = looks_told c c.task (aim_same step.Lookup c.task)
outdated_told c Stopped = looks_told c c.task (aim_same step.Lookup c.task)
