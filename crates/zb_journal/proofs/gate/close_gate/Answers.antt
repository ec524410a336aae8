use Rattle.std.proofs.Common.{◌≡◌, ◌==◌, ℕ, Bool, true, arith}
use Rattle.std.proofs.lemmas.Bool.Decides.{nat_tests}
use Rattle.zb_outside.proofs.Runs.{others_same}
use Rattle.zb_cell.proofs.Steps.{closed_gate}
use Rattle.zb_journal.proofs.gate.close_gate.Goals as goal

is_one : (b : Bool) (n : ℕ) → b ≡ (n == 1) → b ≡ true → n ≡ 1
is_one b n same is = grind (arith, nat_tests)

pub returns-clause-told : goal.returns-clause-told
returns-clause-told g c told ready =
    closed_gate ready.within (is_one _ _ ready.gate c.if-not-is_open.false) (c.write_synced.ensures.told told ready.settled)

pub returns-then-not-is_open-clause-others : goal.returns-then-not-is_open-clause-others
returns-then-not-is_open-clause-others g c told = others_same 0 (g.B.Bay.meaning c.args.bay.now)
