use Rattle.std.specs.Prelude.{true}
use Rattle.zb_types.specs.declared.lines.Line.TheVariants.{Call as CallLine}
use Rattle.zb_finishing.proofs.Asked.{one_more}
use Rattle.zb_finishing.proofs.calls.calls_are_given.Goals as goal

pub returns-clause-first : goal.returns-clause-first
returns-clause-first c clients = tt

pub returns-clause-call : goal.returns-clause-call
returns-clause-call c clients given client at call is all = one_more clients given.items (record { line = CallLine true client call; at = at }) is all

pub returns-clause-finish : goal.returns-clause-finish
returns-clause-finish c clients given at all = all
