use Rattle.std.proofs.Common.{◌≡◌, ℕ, ◌+◌, ◌∷◌, [], drop, get_or, sym, ap, ◌∙◌, subst, arith}
use Rattle.zb_types.specs.declared.ids.Ptr.{Ptr}
use Rattle.zb_types.proofs.KeyedLists.{IsRising-from_ordered}
use Rattle.zb_tables.specs.Finding.{among}
use Rattle.zb_pointers.specs.Blocks.{IsFirstFrom}
use Rattle.zb_pointers.proofs.Places.{AreLeft, left_first, left_next, left_none, left_past, drop_one, drop_all}
use Rattle.zb_pointers.proofs.blocks.BlockMap.among.Goals as goal
use Rattle.zb_pointers.proofs.blocks.BlockMap.among.Goals.{else-loop-number-test, then-loop-number-test+then-end-from}

abbrev some_pair : ℕ × Ptr
some_pair = (0, record { log = record { 0 = 0 }; stripe = 0; offset = 0; len = 0 })

pub loop-number-init : goal.loop-number-init
loop-number-init c =
    let k = c.args.first in
    let n = c.args.count in
    let pairs = c.self.inside.pairs.items in
    let view = ap (λ s. s.pairs) c.self.view_is in
    let first : IsFirstFrom pairs k c.place.result = subst (λ es. IsFirstFrom es k c.place.result) (sym view) c.place.ensures in
    let rest : c.split_at.result.1.now ≡ drop c.place.result pairs = c.split_at.ensures.back ∙ ap (drop c.place.result) c.deref.ensures.value in
    record {
      end = omega arith;
      left = rw (c.in_ok-list.ensures, rest, ← view) (left_first pairs k n c.place.result (IsRising-from_ordered pairs c.self.invariant) first);
    }

pub loop-number-preserved : goal.loop-number-preserved
loop-number-preserved c =
    let k = c.args.first in
    let n = c.args.count in
    let rest = c.split_at.result.1.now in
    let i = c.loop-number.number-index in
    let all = among k n c.args.self.now.pairs in
    let one = drop_one rest i some_pair c.loop-number-test.true in
    let are : AreLeft k n c.loop-number.list (get_or rest i some_pair ∷ drop (i + 1) rest) all = rw one at c.loop-number.invariant.left in
    record {
      end = c.loop-number.invariant.end;
      left = rw c.in_ok-push.ensures.ok (left_next (get_or rest i some_pair) k n c.loop-number.list (drop (i + 1) rest) all are (omega (arith, c.loop-number.invariant.end)));
    }

pub returns : goal.returns
returns c =
    let k = c.args.first in
    let n = c.args.count in
    let rest = c.split_at.result.1.now in
    let i = c.loop-number.number-index in
    let all = among k n c.args.self.now.pairs in
    elim c.loop-number-test.branch [
      | else-loop-number-test w ↦
          let are : AreLeft k n c.loop-number.list [] all = rw (drop_all rest i w.loop-number-test.false) at c.loop-number.invariant.left in
          left_none k n c.loop-number.list all are
      | then-loop-number-test+then-end-from w ↦
          let are : AreLeft k n c.loop-number.list (get_or rest i some_pair ∷ drop (i + 1) rest) all = rw (drop_one rest i some_pair w.loop-number-test.true) at c.loop-number.invariant.left in
          left_past (get_or rest i some_pair) k n c.loop-number.list (drop (i + 1) rest) all are (omega (arith, c.loop-number.invariant.end))
    ]
