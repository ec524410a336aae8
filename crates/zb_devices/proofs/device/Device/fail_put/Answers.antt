use Rattle.std.proofs.Common.{refl, ap, arith, List, ◌≡◌, drop}
use Rattle.zb_outside.specs.Counts.{raised}
use Rattle.zb_devices.specs.Record.{stands}
use Rattle.zb_devices.specs.declared.device.Counts.{Counts}
use Rattle.zb_devices.specs.declared.device.Event.{Event}
use Rattle.zb_devices.specs.declared.device.Event.TheVariants.{PutFault}
use Rattle.zb_devices.proofs.Streamed.{fails_stream, steady_frozen}
use Rattle.zb_devices.proofs.device.Device.fail_put.Goals as goal

pub returns-in-Ok-clause-told : goal.returns-in-Ok-clause-told
returns-in-Ok-clause-told c =
    let e = c.in-Ok.ensures in
    record {
      stream = fails_stream c.args.self.now c.note_put_fault.new.self PutFault e.noted (λ q s. refl) (λ f. refl) (λ f. refl) e.faults e.writes e.taken;
      write_faults = e.write_faults;
      read_faults = e.read_faults;
    }

pub returns-clause-told : goal.returns-clause-told
returns-clause-told c =
    let s = c.in-Err.ensures.err in
    let more : c.saturating_add-self.result ≡ raised c.args.self.now.counts.write_faults = omega (arith, c.saturating_add-self.ensures, ap (λ (x : Counts). x.write_faults) s.counts) in
    record {
      stream = record {
        steady = steady_frozen c.args.self.now c.note_put_fault.new.self s;
        left = λ i. drop (s.taken i) (s.script i);
        faults = ap (λ (x : Counts). x.faults) s.counts;
        writes = ap (λ (x : Counts). x.writes) s.counts;
        states = λ p. ap (λ (l : List Event). stands l p) s.events;
      };
      write_faults = more;
      read_faults = ap (λ (x : Counts). x.read_faults) s.counts;
    }
