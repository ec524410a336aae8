use Rattle.std.proofs.Common.{ap, ◌∙◌}
use Rattle.zb_types.specs.declared.tables.Found.{Found}
use Rattle.zb_turns.proofs.Lengths.{found_length}
use Rattle.zb_turns.proofs.naming.file_length.Goals as goal

pub returns : goal.returns
returns c contents = ap (λ (f : Found). f.length) c.in_ok-lookup.ensures ∙ found_length c.args.manager.now.sizes.block c.args.manager.now.tables contents c.args.fid.0
