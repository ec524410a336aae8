use Rattle.std.proofs.Common.{ℕ, refl, ap, arith}
use Rattle.zb_slots.specs.Filling.{end_of}
use Rattle.zb_slots.proofs.Shares.{shares, changed}
use Rattle.zb_slots.proofs.slot.store.Goals as goal

pub returns-clause-told : goal.returns-clause-told
returns-clause-told g c told ready is_free =
    let n : ℕ = c.args.geo.now.servers in
    let f : ℕ = c.args.geo.now.fragment in
    let s = (g.B.Bay.meaning c.args.bay.now).now.seen c.args.platter in
    changed _ (λ i h. shares n f c.args.place _ c.args.id c.args.bytes.now s i refl h)
    (c.fill.ensures.told told n f ready (record {
      few = omega (arith, c.args.geo.now.limits.servers_high);
      stands = (c.requires.share, c.requires.room);
      behind = omega arith;
      uncounted = omega (arith, ap end_of is_free);
      within = omega (arith, c.requires.room);
    }))
