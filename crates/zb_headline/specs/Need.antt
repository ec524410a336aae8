-- The fragments that a script's updates may need.
use Rattle.std.specs.Prelude.{ℕ, ◌+◌, ◌-◌, ◌*◌, ◌/◌, List, length, if◌then◌else◌, map}
use Rattle.std.specs.List.{sum}
use Rattle.zb_types.specs.declared.geometry.Geometry.{Geometry}
use Rattle.zb_types.specs.declared.calls.Call.{Call}
use Rattle.zb_types.specs.declared.calls.Call.TheVariants.{Create, Mkdir, Remove, Rename, Write, Truncate}
use Rattle.zb_types.specs.declared.lines.Line.{Line}
use Rattle.zb_types.specs.declared.lines.Line.TheVariants.{Call as CallLine}
use Rattle.zb_types.specs.Apply.{is_update}

-- the bytes that an update may add to a log, with what a batch has beside
abbrev pub weight : Geometry → Call → ℕ
weight geo (Create path) = 96 + length path
weight geo (Mkdir path) = 96 + length path
weight geo (Remove path) = 96 + length path
weight geo (Rename path to) = 96 + length path + length to
weight geo (Write fid offset bytes) = 96 + (length bytes / geo.block + 2) * (58 + geo.block)
weight geo (Truncate fid size) = 96 + 58 + geo.block
weight geo call = 96

-- the fragments that a line's update may add to a server
abbrev pub need_of : Geometry → Line → ℕ
need_of geo (CallLine plus client call) = if is_update call then 1 + 2 * weight geo call / ((geo.servers - 1) * geo.fragment) else 0
need_of geo line = 0

-- the fragments that all updates of a script may add to a server
abbrev pub space_needed : Geometry → List Line → ℕ
space_needed geo script = sum (map (need_of geo) script)
