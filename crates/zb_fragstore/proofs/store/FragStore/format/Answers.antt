use Rattle.std.proofs.Common.{refl}
use Rattle.zb_fragstore.proofs.Ranging.{all_free_in_range}
use Rattle.zb_fragstore.proofs.Formatted.{IsAllFree, map_ok, format_done, format_open}
use Rattle.zb_fragstore.proofs.store.FragStore.format.Goals as goal

pub invariant_of-result : goal.invariant_of-result
invariant_of-result g c = all_free_in_range c.args.geo.now c.in_ok-index.index (map_ok (IsAllFree c.args.geo.now) c.empty.result _ c.in_ok-index.index refl c.in_ok-index.ensures.cases c.empty.ensures.index)

pub returns-clause-told : goal.returns-clause-told
returns-clause-told g c tells = format_done c.args.geo.now c.args.server c.args.fence _ _ _ _ c.from.ensures (c.format_at.ensures.told tells) c.in_ok-or_stopped.field-0 c.in_ok-or_stopped.ensures _

pub returns-clause-is_open : goal.returns-clause-is_open
returns-clause-is_open g c tells = format_open c.args.geo.now c.args.server c.args.fence _ _ _ _ c.from.ensures (c.format_at.ensures.told tells) c.in_ok-or_stopped.field-0 c.in_ok-or_stopped.ensures
    c.in_ok-index.index (map_ok (IsAllFree c.args.geo.now) c.empty.result _ c.in_ok-index.index refl c.in_ok-index.ensures.cases c.empty.ensures.index)
