-- Where nothing refuses a call, it has its effect.
use Rattle.std.proofs.Common.{◌≡◌, None, ap}
use Rattle.zb_types.specs.declared.calls.Call.{Call}
use Rattle.zb_types.specs.Tree.{Tree}
use Rattle.zb_types.specs.Apply.{refusal_of, effect, after_refusal, applied}

pub free_tree : (tree : Tree) (call : Call) → refusal_of tree call ≡ None → applied tree call ≡ effect tree call
free_tree tree call free = ap (λ r. after_refusal r tree (effect tree call)) free
