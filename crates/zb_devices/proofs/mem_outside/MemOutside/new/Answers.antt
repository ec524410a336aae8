use Rattle.std.proofs.Common.{refl, List, ap, take}
use Rattle.zb_outside.specs.Ranges.{zeros}
use Rattle.zb_devices.specs.Record.{flows, stands}
use Rattle.zb_devices.specs.declared.device.Event.{Event}
use Rattle.zb_devices.proofs.Kept.{kept_first}
use Rattle.zb_devices.proofs.mem_outside.MemOutside.new.Goals as goal

pub invariant_of-result : goal.invariant_of-result
invariant_of-result c = record {
  kept = kept_first _ c.in_ok-plates.ensures.long c.in_ok-plates.ensures.empty c.new-2.ensures.items refl c.new.ensures.items (λ q. zeros 256 q) (λ q. zeros 256 q) refl refl;
}

pub returns-clause-fresh : goal.returns-clause-fresh
returns-clause-fresh c =
    let none = c.new-2.ensures.items in
    record {
      seen = λ p. ap (λ (l : List Event). (stands l p).seen) none;
      may_leave = λ p image h. rw none at h;
      taken = ap (λ (l : List Event). take (flows l).taken c.in_ok-script.script.items) none;
      printed = ap (λ (l : List Event). (flows l).printed) none;
      faults = λ p. ap (λ (l : List Event). (stands l p).faults) none;
      writes = λ p. ap (λ (l : List Event). (stands l p).writes) none;
      read_faults = ap (λ (l : List Event). (flows l).read_faults) none;
      write_faults = ap (λ (l : List Event). (flows l).write_faults) none;
    }
