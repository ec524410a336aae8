use Rattle.std.proofs.Common.{ap, subst, sym, ◌≡◌}
use Rattle.zb_tables.specs.Tables.{Tables, first_tables}
use Rattle.zb_tables.specs.Checkpoint.{AreTables}
use Rattle.zb_tables.proofs.First.{first_are}
use Rattle.zb_spelling.specs.Unspelling.{sizes_of}
use Rattle.zb_replay.proofs.node.ManagerNode.format.Goals as goal

pub returns-clause-told : goal.returns-clause-told
returns-clause-told g c told contents =
    let t = c.in_ok-manager.manager.tables in
    let first : t ≡ first_tables = c.in_ok-manager.ensures.tables in
    c.in_ok-platter.ensures.told told t
    (record { tables = subst (AreTables (sizes_of c.args.geo.now)) (sym first) (first_are (sizes_of c.args.geo.now)); counts = c.in_ok-bytes.ensures.counts })
    (ap (λ (u : Tables). u.next_entry) first) (sym c.in_ok-bytes.ensures.text) contents
