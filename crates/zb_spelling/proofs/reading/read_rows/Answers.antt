use Rattle.std.proofs.Common.{map, refl, sym}
use Rattle.std.proofs.lemmas.List.{map-id}
use Rattle.zb_types.specs.declared.tables.HeldUse.{HeldUse}
use Rattle.zb_names.specs.Shown.{listed}
use Rattle.zb_log_tables.specs.Logs.{states_of}
use Rattle.zb_spelling.specs.Reading.{shown_file, shown_tables}
use Rattle.zb_spelling.proofs.Once.{name_once, file_once, log_once, held_once}
use Rattle.zb_spelling.proofs.Whole.{no_head, no_names, no_files, no_logs, no_held, tables_found}
use Rattle.zb_spelling.proofs.reading.read_rows.Goals as goal

pub returns-in_default : goal.returns-in_default
returns-in_default c = no_head c.args.bytes.now c.in_default.ensures

pub read_list-requires : goal.read_list-requires
read_list-requires c = name_once

pub read_list-requires-2 : goal.read_list-requires-2
read_list-requires-2 c = file_once

pub read_list-requires-3 : goal.read_list-requires-3
read_list-requires-3 c = log_once

pub read_list-requires-4 : goal.read_list-requires-4
read_list-requires-4 c = held_once

pub returns-in_default-2 : goal.returns-in_default-2
returns-in_default-2 c = no_names c.in-Some.head c.args.bytes.now c.in-Some.rest.now c.in-Some.ensures (rw c.in_default-2.is at c.in_ok-names.ensures)

pub returns-in_default-3 : goal.returns-in_default-3
returns-in_default-3 c =
    no_files c.in-Some.head c.args.bytes.now c.in-Some.rest.now c.in-Some.ensures (listed c.in-Some-2.names.items) c.in-Some-2.rest.now (rw c.in-Some-2.is at c.in_ok-names.ensures)
    (rw c.in_default-3.is at c.in_ok-files.ensures)

pub returns-in_default-4 : goal.returns-in_default-4
returns-in_default-4 c =
    no_logs c.in-Some.head c.args.bytes.now c.in-Some.rest.now c.in-Some.ensures (listed c.in-Some-2.names.items) c.in-Some-2.rest.now (rw c.in-Some-2.is at c.in_ok-names.ensures)
    (map shown_file c.in-Some-3.files.items) c.in-Some-3.rest.now (rw c.in-Some-3.is at c.in_ok-files.ensures) (rw c.in_default-4.is at c.in_ok-logs.ensures)

pub returns-in_default-5 : goal.returns-in_default-5
returns-in_default-5 c =
    no_held c.in-Some.head c.args.bytes.now c.in-Some.rest.now c.in-Some.ensures (listed c.in-Some-2.names.items) c.in-Some-2.rest.now (rw c.in-Some-2.is at c.in_ok-names.ensures)
    (map shown_file c.in-Some-3.files.items) c.in-Some-3.rest.now (rw c.in-Some-3.is at c.in_ok-files.ensures) (states_of c.in-Some-4.logs.items) c.in-Some-4.rest.now (rw c.in-Some-4.is at c.in_ok-logs.ensures)
    (rw c.in_default-5.is at c.in_ok-held.ensures)

pub returns : goal.returns
returns c =
    tables_found c.in-Some.head c.args.bytes.now c.in-Some.rest.now c.in-Some.ensures (listed c.in-Some-2.names.items) c.in-Some-2.rest.now (rw c.in-Some-2.is at c.in_ok-names.ensures)
    (map shown_file c.in-Some-3.files.items) c.in-Some-3.rest.now (rw c.in-Some-3.is at c.in_ok-files.ensures) (states_of c.in-Some-4.logs.items) c.in-Some-4.rest.now (rw c.in-Some-4.is at c.in_ok-logs.ensures)
    (map (λ (h : HeldUse). h) c.in-Some-5.held.items) c.in-Some-5.rest.now (rw c.in-Some-5.is at c.in_ok-held.ensures)
    (shown_tables (record { head = c.in-Some.head; names = c.in-Some-2.names; files = c.in-Some-3.files; logs = c.in-Some-4.logs; held = c.in-Some-5.held }))
    refl refl refl refl (sym (map-id c.in-Some-5.held.items))
