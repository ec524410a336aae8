use Rattle.std.proofs.Common.{subst}
use Rattle.std.specs.Str.{IsUtf8}
use Rattle.zb_script.proofs.Names.{IsUtf8-kind}
use Rattle.zb_script.proofs.kinds.read_kind.Goals as goal

pub returns-in_default : goal.returns-in_default
returns-in_default c = λ v h e. c.in_default.ensures.cases.0 (subst IsUtf8 e (IsUtf8-kind v))
