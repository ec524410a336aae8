use Rattle.std.proofs.Common.{subst}
use Rattle.std.specs.Str.{IsUtf8}
use Rattle.zb_script.proofs.Keywords.{IsUtf8-verb}
use Rattle.zb_script.proofs.verbs.read_verb.Goals as goal

pub returns-in_default : goal.returns-in_default
returns-in_default c = λ v h e. c.in_default.ensures.cases.0 (subst IsUtf8 e (IsUtf8-verb v))
