use Rattle.std.proofs.Common.{◌≡◌, take}
use Rattle.zb_turns.specs.Turns.{all_found}
use Rattle.zb_turns.proofs.looking.find_all.Given as goal

abbrev pub invariant-loop-ask : goal.invariant-loop-ask
invariant-loop-ask l = l.list ≡ all_found l.manager.tables (take l.ask-index l.asks)
