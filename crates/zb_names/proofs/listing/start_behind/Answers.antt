use Rattle.std.proofs.Common.{◌++◌, ◌∷◌, [], ap, subst, sym, ◌∙◌, arith}
use Rattle.zb_names.specs.Listing.{IsStartBehind}
use Rattle.zb_names.proofs.Skipping.{child_start, below_start}
use Rattle.zb_names.proofs.listing.start_behind.Goals as goal

pub returns-then-at-text : goal.returns-then-at-text
returns-then-at-text c =
    let made = c.in_ok-push.ensures.items ∙ ap (λ z. z ++ 0 ∷ []) c.in_ok-start.ensures.items in
    subst (IsStartBehind c.args.front c.args.path.now) (sym made)
    (child_start c.args.front c.args.path.now c.split_at.result.1.now c.slash_in-at.result c.split_at.ensures.back c.if-at-text.true c.slash_in-at.ensures.before)

pub returns : goal.returns
returns c =
    let made = c.in_ok-push-2.ensures.items ∙ ap (λ z. z ++ 48 ∷ []) (c.in_ok-start-2.ensures.items ∙ c.split_at-2.ensures.front) in
    subst (IsStartBehind c.args.front c.args.path.now) (sym made)
    (below_start c.args.front c.args.path.now c.split_at.result.1.now c.slash_in-at.result c.split_at.ensures.back c.requires (omega arith) (c.slash_in-at.ensures.found (omega arith)))
