-- What callers see of an outside over files, a reader and a writer.
use Rattle.std.specs.Prelude.{◌≡◌, [], slice_index}
use Rattle.zb_outside.specs.Counts.{Counts, at_last}
use Rattle.zb_devices.specs.declared.file_outside.FileOutside.{FileOutside}

-- where the script comes from
abbrev pub reader_of : {F R W : Type 0} → FileOutside F R W → R
reader_of outside = outside.reader

-- where the report goes to
abbrev pub writer_of : {F R W : Type 0} → FileOutside F R W → W
writer_of outside = outside.writer

-- what is counted of an outside over files; what is left of the script isn't told
abbrev pub counts_of : {F R W : Type 0} → FileOutside F R W → Counts
counts_of outside = record {
  faults = slice_index outside.faults;
  full = λ p. at_last (slice_index outside.faults p);
  writes = slice_index outside.writes;
  streams = record { left = []; read_faults = outside.read_faults; write_faults = outside.write_faults };
}

-- nothing has changed but which files are open
pub record SameButOpen {F R W : Type 0} (old new : FileOutside F R W) : Type 0 where
  pub faults : new.faults ≡ old.faults
  pub writes : new.writes ≡ old.writes
  pub read_faults : new.read_faults ≡ old.read_faults
  pub write_faults : new.write_faults ≡ old.write_faults
