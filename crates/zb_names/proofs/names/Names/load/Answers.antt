use Rattle.std.proofs.Common.{◌≡◌, true, false, length, refl, sym, ap, subst, ◌∙◌, arith}
use Rattle.zb_names.specs.Sound.{IsTree}
use Rattle.zb_names.proofs.Places.{length-listed}
use Rattle.zb_names.proofs.Loads.{hang_test, tree_given, given_rises, given_numbers, given_hangs, sorted_from_rise, keys-listed}
use Rattle.zb_names.proofs.names.Names.load.Goals as goal
use Rattle.zb_names.proofs.names.Names.load.Goals.{then-next-eq0-via-then-next-eq0, then-next-eq0-via-else-next-eq0+then-not-rise}

pub returns-then-next-eq0-clause-exact : goal.returns-then-next-eq0-clause-exact
returns-then-next-eq0-clause-exact c = (
  λ no. absurd cc,
  λ tree. elim c.then-next-eq0.branch [
    | then-next-eq0-via-then-next-eq0 w ↦ absurd (omega (arith, tree.numbered))
    | then-next-eq0-via-else-next-eq0+then-not-rise w ↦ w.if-not-rise.ensures ∙ given_rises c.args.next c.args.list.now tree
  ],
)

pub returns-then-not-are_numbered-clause-exact : goal.returns-then-not-are_numbered-clause-exact
returns-then-not-are_numbered-clause-exact c = (λ no. absurd cc, λ tree. c.if-not-are_numbered.ensures ∙ given_numbers c.args.next c.args.list.now tree)

pub of-requires : goal.of-requires
of-requires c = rw keys-listed (sorted_from_rise _ (sym c.if-not-rise.ensures))

pub returns-then-not-all_hang-clause-exact : goal.returns-then-not-all_hang-clause-exact
returns-then-not-all_hang-clause-exact c =
    let hang : false ≡ hang_test c.args.next c.args.list.now = rw c.in_ok-kept.ensures.same at c.if-not-all_hang.ensures in
    (λ no. absurd cc, λ tree. hang ∙ given_hangs c.args.next c.args.list.now tree)

pub invariant_of-result : goal.invariant_of-result
invariant_of-result c =
    let hang : true ≡ hang_test c.args.next c.args.list.now = rw c.in_ok-kept.ensures.same at c.if-not-all_hang.ensures in
    let tree = tree_given c.args.next c.args.list.now (omega (arith, c.if-next-eq0.false)) (sym c.if-not-rise.ensures) c.in_ok-kept.ensures.paths (sym hang) (sym c.if-not-are_numbered.ensures) in
    record {
      tree = subst (λ s. IsTree c.args.next s) (sym c.in_ok-kept.ensures.same) tree;
      most = c.in_ok-kept.ensures.room;
      fits = omega (arith, ap length c.in_ok-kept.ensures.same, length-listed c.args.list.now, c.in_ok-kept.ensures.fits);
    }

pub returns-clause-exact : goal.returns-clause-exact
returns-clause-exact c =
    let hang : true ≡ hang_test c.args.next c.args.list.now = rw c.in_ok-kept.ensures.same at c.if-not-all_hang.ensures in
    let tree = tree_given c.args.next c.args.list.now (omega (arith, c.if-next-eq0.false)) (sym c.if-not-rise.ensures) c.in_ok-kept.ensures.paths (sym hang) (sym c.if-not-are_numbered.ensures) in
    (λ yes. tree, λ given. refl)
