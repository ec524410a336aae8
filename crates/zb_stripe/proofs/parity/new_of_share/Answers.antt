use Rattle.std.proofs.Common.{◌≡◌, ◌<◌, ◌++◌, ◌*◌, ◌+◌, ◌-◌, List, take, drop, ap, subst, ◌∙◌, length, ℕ, arith}
use Rattle.zb_holding.specs.Placing.{share_length, share_of}
use Rattle.zb_stripe.proofs.Making.{none_new, some_new}
use Rattle.zb_stripe.proofs.parity.new_of_share.Goals as goal

pub returns-then-all-had-clause-new : goal.returns-then-all-had-clause-new
returns-then-all-had-clause-new c before long = none_new c.args.geo.now.fragment before c.args.new.now c.args.begin c.args.k long (omega arith)

some : (f : ℕ) (before new : List ℕ) (begin k index had all : ℕ) → length before ≡ begin → index ≡ k → had ≡ share_length f begin k → all ≡ share_length f (begin + length new) k → had < all
    → take (index * f + had - begin + (all - had) - (index * f + had - begin)) (drop (index * f + had - begin) new) ≡ drop (share_length f begin k) (share_of f (before ++ new) k)
some f before new begin k index had all long i h a lt =
    let from : index * f + had - begin ≡ k * f + share_length f begin k - begin = ap (λ (j : ℕ). j * f + had - begin) i ∙ ap (λ (m : ℕ). k * f + m - begin) h in
    ap (λ (m : ℕ). take (index * f + had - begin + (all - m) - (index * f + had - begin)) (drop (index * f + had - begin) new)) h
    ∙ some_new f before new begin k long all (index * f + had - begin) a (subst (λ (m : ℕ). m < all) h lt) from

pub returns-clause-new : goal.returns-clause-new
returns-clause-new c before long =
    some c.args.geo.now.fragment before c.args.new.now c.args.begin c.args.k c.from.result c.share-had.result c.share-all.result long c.from.ensures c.share-had.ensures c.share-all.ensures c.if-all-had.false
