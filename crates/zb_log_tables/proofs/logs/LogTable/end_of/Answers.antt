use Rattle.std.proofs.Common.{◌≡◌, List, length, map, sym, ap, ◌∙◌, subst}
use Rattle.std.specs.Map.{keys_of}
use Rattle.std.proofs.lemmas.List.{length-map}
use Rattle.zb_types.specs.Keyed.{changed}
use Rattle.zb_tables.specs.Fold.{ended}
use Rattle.zb_log_tables.specs.declared.log.Log.{Log}
use Rattle.zb_log_tables.specs.Logs.{AreLogs, SeenLogs, ended_log, states_of}
use Rattle.zb_log_tables.proofs.Changes.{written_back, end_all_changes}
use Rattle.zb_log_tables.proofs.logs.LogTable.end_of.Goals as goal

pub invariant_of-self : goal.invariant_of-self
invariant_of-self c =
    let ls = c.self.inside.logs.items in
    let new = c.end_all.new.logs in
    let is : new ≡ map (ended_log c.args.owner) ls = c.end_all.ensures ∙ ap (map (ended_log c.args.owner)) c.deref_mut.ensures.value in
    let long : length new ≡ length ls = ap length is ∙ length-map ls (ended_log c.args.owner) in
    subst AreLogs (sym (written_back new ls c.self.inside.logs.len (sym c.deref_mut.ensures.len ∙ ap length c.deref_mut.ensures.value) long ∙ is)) ((end_all_changes c.args.owner ls).are c.self.invariant)

pub returns-clause-logs : goal.returns-clause-logs
returns-clause-logs c =
    let ls = c.self.inside.logs.items in
    let new = c.end_all.new.logs in
    let is : new ≡ map (ended_log c.args.owner) ls = c.end_all.ensures ∙ ap (map (ended_log c.args.owner)) c.deref_mut.ensures.value in
    let long : length new ≡ length ls = ap length is ∙ length-map ls (ended_log c.args.owner) in
    ap states_of (written_back new ls c.self.inside.logs.len (sym c.deref_mut.ensures.len ∙ ap length c.deref_mut.ensures.value) long ∙ is) ∙ (end_all_changes c.args.owner ls).states ∙ ap (λ (s : SeenLogs). changed (ended c.args.owner) s.logs) c.self.view_is

pub returns-clause-numbers : goal.returns-clause-numbers
returns-clause-numbers c =
    let ls = c.self.inside.logs.items in
    let new = c.end_all.new.logs in
    let is : new ≡ map (ended_log c.args.owner) ls = c.end_all.ensures ∙ ap (map (ended_log c.args.owner)) c.deref_mut.ensures.value in
    let long : length new ≡ length ls = ap length is ∙ length-map ls (ended_log c.args.owner) in
    ap (λ (zs : List Log). keys_of (states_of zs)) (written_back new ls c.self.inside.logs.len (sym c.deref_mut.ensures.len ∙ ap length c.deref_mut.ensures.value) long ∙ is) ∙ (end_all_changes c.args.owner ls).numbers ∙ ap (λ (s : SeenLogs). keys_of s.logs) c.self.view_is
