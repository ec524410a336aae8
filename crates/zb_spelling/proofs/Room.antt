-- The numbers of a checkpoint's tables have room in their bytes.
use Rattle.std.proofs.Common.{◌≡◌, ℕ, ◌^◌, ◌≤◌, ◌<◌, true, List, length, arith}
use Rattle.std.specs.Prelude.{nat_le, nat_lt}
use Rattle.std.specs.List.{AllByRecursion}
use Rattle.std.proofs.lemmas.Bool.{and_parts, ltb-true}
use Rattle.zb_types.specs.declared.ids.Ptr.{Ptr}
use Rattle.zb_types.specs.declared.tables.HeldUse.{HeldUse}
use Rattle.zb_types.specs.Names.{Entry, directory, numbered, last_number}
use Rattle.zb_types.specs.Keyed.{look}
use Rattle.zb_types.specs.Paths.{is_path}
use Rattle.zb_names.specs.Sound.{has_number}
use Rattle.zb_tables.specs.Tables.{FileState, LogState, Tables}
use Rattle.zb_tables.specs.Taking.{IsPointer, Sizes}
use Rattle.zb_tables.specs.Checkpoint.{IsFile, IsHeld, IsLog, IsPlace}
use Rattle.zb_tables.proofs.Alls.{all_keyed, all_map, all_two, some_is}
use Rattle.zb_tables.proofs.Fewness.{few_files, few_logs}
use Rattle.zb_spelling.specs.Unspelling.{HasFewBytes, IsCheckpoint}
use Rattle.zb_spelling.specs.Reading.{IsEntry, IsName, IsBlock, IsFileRow, IsLogRow, IsHeldRow, HasRoom}

entry_fits : (next : ℕ) (entry : Entry) → next ≤ last_number → has_number next entry ≡ true → IsEntry entry
entry_fits next directory le h = tt
entry_fits next (numbered n) le h =
    let parts = and_parts (nat_le 1 n) (nat_lt n next) h in
    let lt = ltb-true n next parts.1 in
    omega (arith, lt, le)

names_fit : (next : ℕ) (es : List (List ℕ × Entry)) → next ≤ last_number → AllByRecursion (λ e. is_path e.0 ≡ true) es → AllByRecursion (λ e. has_number next e.1 ≡ true) es → AllByRecursion IsName es
names_fit next es le paths files = all_two (λ e. is_path e.0 ≡ true) (λ e. has_number next e.1 ≡ true) IsName (λ e p f. (p, entry_fits next e.1 le f)) es paths files

block_fits : (z : Sizes) (k : ℕ × Ptr) → HasFewBytes z → k.0 < 2 ^ 32 → IsPointer z k.1 × IsPlace k.1 → IsBlock k
block_fits z k few number h =
    let within = (h.0).within in
    let some = (h.0).some in
    let log = (h.1).log in
    let stripe = (h.1).stripe in
    (omega (arith, number), record { log = omega (arith, log); stripe = omega (arith, stripe); offset = omega (arith, within, few); len = omega (arith, within, few) })

file_fits : (z : Sizes) (next : ℕ) (e : ℕ × FileState) → HasFewBytes z → next ≤ last_number → IsFile z next e → length (e.1).blocks < 2 ^ 32 → IsFileRow e
file_fits z next e few le f count =
    let numbered = f.numbered.1 in
    let version = f.version.1 in
    let short = f.short in
    record {
      number = omega (arith, numbered, le);
      version = omega (arith, version);
      length = omega (arith, short);
      blocks = (all_two (λ k. k.0 < 2 ^ 32) (λ k. IsPointer z k.1 × IsPlace k.1) IsBlock (λ k a b. block_fits z k few a b) (e.1).blocks f.numbers f.pointers, omega (arith, count));
    }

log_fits : (z : Sizes) (next : ℕ) (held : List HeldUse) (e : ℕ × LogState) → next ≤ last_number → IsLog z next held e → length (e.1).replies < 2 ^ 32 → IsLogRow e
log_fits z next held e le f count =
    let numbered = f.numbered.1 in
    let batch = f.batch in
    let mark = f.mark in
    record {
      number = omega (arith, numbered, le);
      batch = omega (arith, batch);
      last = f.last;
      mark = omega (arith, mark);
      replies = (f.replies, omega (arith, count));
    }

held_fits : (z : Sizes) (next : ℕ) (held : List HeldUse) (logs : List (ℕ × LogState)) (h : HeldUse) → HasFewBytes z → next ≤ last_number → AllByRecursion (IsLog z next held) logs → IsHeld z logs h → IsHeldRow h
held_fits z next held logs h few le all f =
    let found = some_is (look h.log.0 logs) f.log in
    let log = (all_keyed (IsLog z next held) h.log.0 found.0 logs all found.1).numbered.1 in
    let stripe = f.stripe in
    let end = f.end.1 in
    let born = f.born.1 in
    record { log = omega (arith, log, le); stripe = omega (arith, stripe); end = omega (arith, end, few); born = omega (arith, born) }

pub checkpoint_room : (z : Sizes) (t : Tables) → HasFewBytes z → IsCheckpoint z t → HasRoom t
checkpoint_room z t few c =
    let a = c.tables in
    let counts = c.counts in
    let file = a.next_file in
    let log = a.next_log.1 in
    let generation = a.generation.1 in
    let entry = a.next_entry.1 in
    let names = a.few in
    let files = few_files z t a in
    let logs = few_logs z t a in
    let held = counts.held in
    record {
      head = record { file = omega (arith, file); log = omega (arith, log); generation = omega (arith, generation); entry = omega (arith, entry) };
      names = (names_fit t.names.next t.names.entries file (a.names).paths (a.names).files, omega (arith, names));
      files = (all_two (IsFile z t.names.next) (λ e. length (e.1).blocks < 2 ^ 32) IsFileRow (λ e f n. file_fits z t.names.next e few file f n) t.files a.files counts.blocks, omega (arith, files));
      logs = (all_two (IsLog z t.next_log t.held) (λ e. length (e.1).replies < 2 ^ 32) IsLogRow (λ e f n. log_fits z t.next_log t.held e log f n) t.logs a.logs counts.replies, omega (arith, logs, log));
      held = (all_map (IsHeld z t.logs) IsHeldRow (λ h f. held_fits z t.next_log t.held t.logs h few log a.logs f) t.held a.held, omega (arith, held));
    }
