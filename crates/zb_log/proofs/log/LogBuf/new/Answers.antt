use Rattle.std.proofs.Common.{refl, [], arith, rules}
use Rattle.zb_log.proofs.Parting.{none_given}
use Rattle.zb_log.proofs.log.LogBuf.new.Goals as goal

pub invariant_of-result : goal.invariant_of-result
invariant_of-result c =
    record {
      given = [];
      are = none_given _ (omega (arith, c.args.geo.now.limits.servers_low)) refl c.new.ensures.items;
      sizes = refl;
      within = omega arith;
      fits = search rules;
      some = search rules;
      small = search rules;
      lasting = omega arith;
    }

pub returns-clause-given : goal.returns-clause-given
returns-clause-given c = none_given _ (omega (arith, c.args.geo.now.limits.servers_low)) refl c.new.ensures.items
