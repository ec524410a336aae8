-- The tables, put together of their parts.
use Rattle.zb_types.specs.Names.{Names}
use Rattle.zb_tables.specs.Tables.{Tables}
use Rattle.zb_pointers.specs.Seen.{SeenPointers}
use Rattle.zb_log_tables.specs.HeldStripes.{SeenHeld}
use Rattle.zb_log_tables.specs.Logs.{SeenLogs}
use Rattle.zb_spelling.specs.declared.parts.Numbers.{Numbers}
use Rattle.zb_spelling.specs.declared.parts.Parts.{Parts}

-- the tables of these parts
abbrev pub put_together : Names → SeenPointers → SeenLogs → SeenHeld → Numbers → Tables
put_together names pointers logs held numbers = record {
  names = names;
  files = pointers.files;
  logs = logs.logs;
  held = held.stripes;
  members = numbers.members;
  next_log = numbers.next_log;
  next_entry = numbers.next_entry;
}

-- the tables of some parts
abbrev pub tables_of : Parts → Tables
tables_of parts = put_together parts.names parts.pointers parts.logs parts.held parts.numbers
