use Rattle.std.proofs.Common.{refl, [], arith}
use Rattle.zb_log.proofs.Parting.{none_given}
use Rattle.zb_log.proofs.log.LogBuf.next_stripe.Goals as goal

pub invariant_of-self : goal.invariant_of-self
invariant_of-self c =
    let s = c.self.invariant in
    record {
      given = [];
      are = none_given _ (omega (arith, c.self.inside.geo.limits.servers_low)) refl c.clear.ensures.items;
      sizes = refl;
      within = omega arith;
      fits = s.fits;
      some = s.some;
      small = s.small;
      lasting = omega (arith, c.requires.lasting);
    }

pub returns-clause-given : goal.returns-clause-given
returns-clause-given c = none_given _ (omega (arith, c.self.inside.geo.limits.servers_low)) refl c.clear.ensures.items
