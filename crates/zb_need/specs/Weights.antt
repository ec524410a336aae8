-- What updates weigh and need together, and the bytes of a batch.
use Rattle.std.specs.Prelude.{ℕ, ◌+◌, ◌-◌, ◌*◌, ◌/◌, List, length, map}
use Rattle.std.specs.List.{sum}
use Rattle.zb_types.specs.declared.geometry.Geometry.{Geometry}
use Rattle.zb_types.specs.declared.calls.Call.{Call}
use Rattle.zb_headline.specs.Need.{weight}
use Rattle.zb_batch.specs.declared.batch.Batch.{Batch}
use Rattle.zb_batch.specs.Spelling.{meta_length}
use Rattle.zb_basis.specs.declared.calls.Numbered.{Numbered}

-- the calls of a batch without their numbers
abbrev pub updates_of : List Numbered → List Call
updates_of calls = map (λ k. k.call) calls

-- the bytes that some updates may add to a log
abbrev pub weights : Geometry → List Call → ℕ
weights geo updates = sum (map (weight geo) updates)

-- the stripes that an update may begin
abbrev pub need : Geometry → Call → ℕ
need geo update = 1 + 2 * weight geo update / ((geo.servers - 1) * geo.fragment)

-- the stripes that some updates may begin
abbrev pub needs : Geometry → List Call → ℕ
needs geo updates = sum (map (need geo) updates)

-- the bytes of a batch with these blocks: its meta part, and each block
abbrev pub bytes_of : Batch → List (List ℕ) → ℕ
bytes_of batch blocks = meta_length batch + sum (map length blocks)
