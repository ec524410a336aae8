use Rattle.std.proofs.Common.{◌≡◌, false, not, length, sym, ap, subst, ◌∙◌, arith}
use Rattle.std.specs.List.{list_any}
use Rattle.std.specs.Str.{bytes_eq}
use Rattle.zb_types.specs.Names.{Names, is_below, others}
use Rattle.zb_names.specs.Sound.{IsTree}
use Rattle.zb_names.proofs.Carrying.{length-filter, sorted-filter}
use Rattle.zb_names.proofs.Trees.{IsTree-others}
use Rattle.zb_names.proofs.names.Names.remove.Goals as goal

pub invariant_of-self : goal.invariant_of-self
invariant_of-self c =
    let path = c.args.path.now in
    let entries = c.self.inside.kept.entries in
    let none : list_any (λ e. is_below path e.0) entries ≡ false = subst (λ (n : Names). list_any (λ e. is_below path e.0) n.entries ≡ false) (sym c.self.view_is) c.in_ok-fid.ensures.none_below in
    let gone : c.remove.new.self.entries ≡ others path entries = c.remove.ensures.entries ∙ ap (λ p. others p entries) c.slice.ensures.same in
    let tree = IsTree-others c.self.inside.next path entries c.self.invariant.tree none (sorted-filter (λ e. not (bytes_eq path e.0)) entries c.self.invariant.tree.rising) in
    record {
      tree = subst (IsTree c.self.inside.next) (sym gone) tree;
      most = omega (arith, c.self.invariant.most, c.remove.ensures.room);
      fits = omega (arith, ap length gone, length-filter (λ e. not (bytes_eq path e.0)) entries, c.self.invariant.fits, c.remove.ensures.room);
    }
