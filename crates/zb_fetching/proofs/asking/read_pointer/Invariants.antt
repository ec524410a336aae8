use Rattle.std.proofs.Common.{◌≡◌, None}
use Rattle.zb_stripe.specs.Reading.{start}
use Rattle.zb_plain.specs.Standing.{maps_of}
use Rattle.zb_fetching.proofs.Asked.{IsRead}
use Rattle.zb_fetching.proofs.asking.read_pointer.Given as goal

abbrev pub invariant-answers : goal.invariant-answers
invariant-answers l = record {
  same : l.plain ≡ l.fn.plain;
  servers : l.plan.servers ≡ l.geo.servers;
  read : IsRead (maps_of l.fn.plain) l.lost (start l.geo.servers l.geo.fragment l.ptr None) l.plan l.counter;
}
