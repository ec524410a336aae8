use Rattle.std.proofs.Common.{◌≡◌, ◌++◌, drop}
use Rattle.zb_usage.specs.Uses.{candidates_of}
use Rattle.zb_usage.specs.Seen.{counted}
use Rattle.zb_usage.proofs.usage.Usage.candidates.Given as goal

abbrev pub invariant-loop-held : goal.invariant-loop-held
invariant-loop-held l = l.list.items ++ candidates_of (counted l.self) (drop l.held-index l.self.stripes) ≡ candidates_of (counted l.self) l.self.stripes
