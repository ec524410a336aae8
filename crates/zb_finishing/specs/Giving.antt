-- Calls alone, each of one of the clients.
use Rattle.std.specs.Prelude.{ℕ, IsTrue}
use Rattle.std.specs.List.{AllByRecursion}
use Rattle.zb_types.specs.declared.lines.Line.{Line}
use Rattle.zb_types.specs.declared.lines.Line.TheVariants.{Call as CallLine}
use Rattle.zb_types.specs.Limits.{within}
use Rattle.zb_given.specs.Given.{Given}

-- a call of one of so many clients
abbrev pub IsCallWithin : ℕ → Line → Type 0
IsCallWithin clients (CallLine plus client call) = IsTrue (within 1 clients client)
IsCallWithin clients other = ⊥

-- nothing was given but calls of these clients
abbrev pub AreCalls : ℕ → Given → Type 0
AreCalls clients given = AllByRecursion (λ item. IsCallWithin clients item.line) given.items
