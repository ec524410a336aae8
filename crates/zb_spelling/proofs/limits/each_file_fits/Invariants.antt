use Rattle.std.proofs.Common.{length}
use Rattle.std.specs.List.{AllByRecursion}
use Rattle.zb_spelling.specs.Limits.{FileFits}
use Rattle.zb_spelling.specs.Reading.{shown_file}
use Rattle.zb_spelling.specs.Unspelling.{sizes_of}
use Rattle.zb_spelling.proofs.limits.each_file_fits.Given as goal

abbrev pub invariant-loop-row : goal.invariant-loop-row
invariant-loop-row l = record {
  whole : AllByRecursion (λ row. FileFits (sizes_of l.geo) l.next (shown_file row)) l.rest → AllByRecursion (λ row. FileFits (sizes_of l.geo) l.next (shown_file row)) l.fn.files;
  part : AllByRecursion (λ row. FileFits (sizes_of l.geo) l.next (shown_file row)) l.fn.files → AllByRecursion (λ row. FileFits (sizes_of l.geo) l.next (shown_file row)) l.rest;
}

abbrev pub decreases-loop-row : goal.decreases-loop-row
decreases-loop-row l = length l.rest
