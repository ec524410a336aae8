use Rattle.std.proofs.Common.{rules, arith, ap, sym}
use Rattle.std.specs.Prelude.{sum_by}
use Rattle.zb_batch.specs.Reading.{op_length}
use Rattle.zb_batch.proofs.Sizes.{length-ops_text}
use Rattle.zb_batch.proofs.batch.Batch.is_spellable.Goals as goal

pub returns : goal.returns
returns c =
    let same = ap (sum_by op_length) c.slice-ops.ensures in (
      (λ fits. record {
        shaped = search rules;
        company = search rules;
        short = omega (arith, length-ops_text c.args.self.now.ops, c.fit_in.ensures.0 fits, same);
      }),
      (λ spelled. c.fit_in.ensures.1 (omega (arith, length-ops_text c.args.self.now.ops, spelled.short, same))),
    )
