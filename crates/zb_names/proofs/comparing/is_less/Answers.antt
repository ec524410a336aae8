use Rattle.std.proofs.Common.{◌≡◌, sym, ap, ◌∙◌, ◌++◌, length}
use Rattle.std.specs.Ordering.{nat_cmp, is_lt, ordering_then}
use Rattle.std.specs.Cmp.Lexicographic.{slice_cmp}
use Rattle.std.proofs.lemmas.List.{take-append-drop}
use Rattle.zb_names.proofs.TwoParts.{cmp_short, cmp_parts}
use Rattle.zb_names.proofs.comparing.is_less.Goals as goal

pub returns-then-path-head : goal.returns-then-path-head
returns-then-path-head c = c.is_lt.ensures ∙ ap is_lt (c.cmp.ensures ∙ sym (cmp_short c.args.path.now c.args.head.now c.args.tail.now c.if-path-head.true))

pub returns : goal.returns
returns c =
    let front = c.split_at.result.0.now in
    let rest = c.split_at.result.1.now in
    let whole : front ++ rest ≡ c.args.path.now = (λ i. c.split_at.ensures.front i ++ c.split_at.ensures.back i) ∙ take-append-drop (length c.args.head.now) c.args.path.now in
    let parts = cmp_parts front rest c.args.head.now c.args.tail.now c.split_at.ensures.front_len in
    c.is_lt-2.ensures ∙ ap is_lt (c.then.ensures ∙ (λ i. ordering_then (c.cmp-2.ensures i) (c.cmp-3.ensures i)) ∙ sym parts ∙ ap (λ p. slice_cmp nat_cmp p (c.args.head.now ++ c.args.tail.now)) whole)
