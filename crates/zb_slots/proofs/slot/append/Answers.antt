use Rattle.std.proofs.Common.{◌≡◌, ◌+◌, ℕ, length, ap, subst, arith}
use Rattle.zb_slots.specs.declared.header.Header.TheVariants.{Share}
use Rattle.zb_slots.specs.Filling.{end_of, Filled}
use Rattle.zb_slots.proofs.Shares.{appends, changed}
use Rattle.zb_slots.proofs.slot.append.Goals as goal

pub returns-clause-told : goal.returns-clause-told
returns-clause-told g c told ready stands long was =
    let n : ℕ = c.args.geo.now.servers in
    let f : ℕ = c.args.geo.now.fragment in
    let s = (g.B.Bay.meaning c.args.bay.now).now.seen c.args.platter in
    let at : 192 + c.from.result ≡ 192 + length stands = omega (arith, c.from.ensures, long) in
    changed _ (λ i h. appends n f c.args.place (c.args.len + length c.args.bytes.now) c.args.id stands c.args.bytes.now s i was
    (subst (λ (k : ℕ). Filled n f c.args.place k c.args.bytes.now (Share c.args.id (c.args.len + length c.args.bytes.now)) s i) at h) (omega (arith, long)))
    (c.fill.ensures.told told n f ready (record {
      few = omega (arith, c.args.geo.now.limits.servers_high);
      stands = (c.requires.share, c.requires.room);
      behind = omega arith;
      uncounted = omega (arith, ap end_of was, at);
      within = omega (arith, c.requires.room, c.from.ensures);
    }))
