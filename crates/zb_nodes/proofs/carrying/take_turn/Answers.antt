use Rattle.std.proofs.Common.{sym, ap, ◌∙◌}
use Rattle.zb_client.specs.declared.steps.Lookup.TheVariants.{Names}
use Rattle.zb_client.specs.declared.steps.Turn.{Turn}
use Rattle.zb_client.specs.declared.steps.Turn.TheVariants as turn
use Rattle.zb_client.specs.declared.steps.Wish.TheVariants as wish
use Rattle.zb_nodes.proofs.Wishes.{lookup_wished}
use Rattle.zb_nodes.proofs.carrying.take_turn.Goals as goal

pub look_up_names-requires-clause-at : goal.look_up_names-requires-clause-at
look_up_names-requires-clause-at c =
    lookup_wished c.args.client.now (Names c.in-Lookup-Names.call)
    (ap (λ (t : Turn). wish.Turn t) (sym (c.in-Lookup-Names.is ∙ ap turn.Lookup c.in-Lookup-Names.field-0-is)) ∙ c.requires.wish)
