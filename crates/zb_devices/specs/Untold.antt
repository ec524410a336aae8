-- What stands where nothing is told.
use Rattle.std.specs.Prelude.{true, []}
use Rattle.zb_outside.specs.Meaning.{Standing, IsMoment, Meaning}

-- nothing stands anywhere, and a crash may leave anything
abbrev pub untold_now : Standing
untold_now = record {
  seen = λ _. [];
  may_leave = λ _ _. Unit {0};
  taken = [];
  printed = [];
  faults = λ _. 0;
  writes = λ _. 0;
  read_faults = 0;
  write_faults = 0;
}

-- what an outside that tells nothing tells
abbrev pub untold : Meaning
untold = record {
  now = untold_now;
  clock = 0;
  is_recording = true;
  since = λ _ m. IsMoment untold_now m;
  counts_now = λ _ _ _ h. h;
  only_now = λ _ h. h;
  seen_now = λ _. tt;
}
