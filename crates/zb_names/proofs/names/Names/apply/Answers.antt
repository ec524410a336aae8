use Rattle.std.proofs.Common.{◌≡◌, length, sym, ap, subst, ◌∙◌, arith}
use Rattle.zb_types.specs.Names.{Names, with_entries}
use Rattle.zb_names.specs.Sound.{IsTree}
use Rattle.zb_names.specs.Changing.{Changed, HasNoneBelow, staying}
use Rattle.zb_names.proofs.Carrying.{length-with_entries}
use Rattle.zb_names.proofs.Together.{none_below_fresh}
use Rattle.zb_names.proofs.names.Names.apply.Goals as goal

pub put_all-requires-clause-none : goal.put_all-requires-clause-none
put_all-requires-clause-none c =
    let removed = c.remove_gone.ensures.entries ∙ (λ i. staying (c.prepared.view_is i).gone (c.self.view_is i).entries) in
    let tree = subst (λ (n : Names). IsTree n.next n.entries) c.self.view_is c.self.invariant.tree in
    let none = none_below_fresh c.args.prepared c.args.self.now tree c.requires in
    rw removed (subst (λ (d : Changed). HasNoneBelow d.fresh (staying c.args.prepared.gone c.args.self.now.entries)) (sym c.prepared.view_is) none)

pub invariant_of-self : goal.invariant_of-self
invariant_of-self c =
    let new = c.put_all.new.self in
    let change = c.args.prepared in
    let names = c.args.self.now in
    let removed = c.remove_gone.ensures.entries ∙ (λ i. staying (c.prepared.view_is i).gone (c.self.view_is i).entries) in
    let made : new.entries ≡ with_entries change.fresh (staying change.gone names.entries) = c.put_all.ensures.entries ∙ (λ i. with_entries (c.prepared.view_is i).fresh (removed i)) in
    let tree = subst (λ es. IsTree change.next es) (sym made) c.requires.tree in
    let before : length c.self.inside.kept.entries ≡ length names.entries = ap (λ (n : Names). length n.entries) c.self.view_is in
    record {
      tree = subst (λ n. IsTree n new.entries) (sym (ap (λ (d : Changed). d.next) c.prepared.view_is)) tree;
      most = omega (arith, c.self.invariant.most, c.remove_gone.ensures.room, c.put_all.ensures.room);
      fits = omega (arith, ap length made, length-with_entries change.fresh (staying change.gone names.entries), c.requires.room, before, c.self.invariant.most, c.self.invariant.fits, c.remove_gone.ensures.room, c.put_all.ensures.room);
    }
