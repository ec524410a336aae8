use Rattle.zb_script.proofs.Sizing.{behind_name}
use Rattle.zb_script.proofs.header.named.Goals as goal

pub returns : goal.returns
returns c = behind_name c.args.name.now c.in_ok-behind.field-0.now c.in_ok-behind.ensures.1 _ c.field.ensures
