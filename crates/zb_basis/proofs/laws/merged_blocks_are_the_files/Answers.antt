use Rattle.std.proofs.Common.{◌*◌}
use Rattle.zb_basis.proofs.Merged.{block_byte, cut_byte}
use Rattle.zb_basis.proofs.laws.merged_blocks_are_the_files.Goals as goal

pub returns : goal.returns
returns c = record {
  written = λ b k offset y file old bytes inside same. block_byte b (k * b) offset y file old bytes inside same;
  cut = λ b k n y file old inside same. cut_byte b (k * b) n y file old inside same;
}
