use Rattle.std.proofs.Common.{ℕ, ◌<◌, List, [], ◌∷◌, Some}
use Rattle.std.specs.List.{AllByRecursion}
use Rattle.std.specs.Map.{keys_of}
use Rattle.zb_types.specs.declared.tables.HeldUse.{HeldUse}
use Rattle.zb_tables.specs.Tables.{LogState}
use Rattle.zb_tables.specs.Taking.{Sizes}
use Rattle.zb_tables.specs.Checkpoint.{IsLog}
use Rattle.zb_spelling.specs.Parts.{tables_of}
use Rattle.zb_spelling.specs.Unspelling.{sizes_of}
use Rattle.zb_spelling.proofs.Whole.{few_bytes, read_again}
use Rattle.zb_manager.proofs.manager.Manager.unspell.Goals as goal

-- the numbers of logs are below the next
keys_below : (z : Sizes) (next : ℕ) (held : List HeldUse) (logs : List (ℕ × LogState)) → AllByRecursion (IsLog z next held) logs → AllByRecursion (λ n. n < next) (keys_of logs)
keys_below z next held [] all = tt
keys_below z next held (e ∷ es) all = (all.0.numbered.1, keys_below z next held es all.1)

pub invariant_of-result : goal.invariant_of-result
invariant_of-result c =
    let found = rw c.in-Some.is at c.in_ok-parts.ensures.found in
    let block = rw c.in-Some.is at c.in_ok-parts.ensures.block in
    let parts = c.in-Some.parts in
    let tables = found.0.tables in
    record {
      block = block;
      numbered = keys_below (sizes_of c.args.geo.now) parts.numbers.next_log parts.held.stripes parts.logs.logs tables.logs;
      log = tables.next_log.1;
      entry = tables.next_entry.1;
    }

pub returns-clause-again : goal.returns-clause-again
returns-clause-again c t is e =
    read_again (sizes_of c.args.geo.now) (few_bytes c.args.geo.now) c.args.bytes.now (Some (tables_of c.in-Some.parts)) (rw c.in-Some.is at c.in_ok-parts.ensures.found) t is e
