use Rattle.std.proofs.Common.{◌∙◌, sym, map}
use Rattle.zb_spelling.proofs.InOrder.{sorted_from_rise, rise_from_sorted}
use Rattle.zb_spelling.proofs.rising.rise.Goals as goal

pub returns : goal.returns
returns g c = (
  λ yes. sorted_from_rise g.T.Rising.order c.requires (map g.T.Rising.key c.args.items.now) (sym c.step_up.ensures ∙ yes),
  λ sorted. c.step_up.ensures ∙ rise_from_sorted g.T.Rising.order (map g.T.Rising.key c.args.items.now) sorted,
)
