use Rattle.std.proofs.Common.{rules, ◌≡◌, ◌<◌, List, sym, ap, ◌∙◌, subst}
use Rattle.std.specs.Prelude.{filter}
use Rattle.std.specs.List.{AllByRecursion}
use Rattle.std.specs.Map.{keys_of}
use Rattle.std.proofs.lemmas.Fn.{filter_same}
use Rattle.zb_tables.specs.Fold.{kept_logs}
use Rattle.zb_log_tables.specs.declared.log.Log.{Log}
use Rattle.zb_log_tables.specs.Logs.{AreLogs, SeenLogs, states_of}
use Rattle.zb_log_tables.proofs.Changes.{is_kept, kept_states, kept_numbers, kept_are}
use Rattle.zb_log_tables.proofs.logs.LogTable.keep.Goals as goal

pub invariant_of-self : goal.invariant_of-self
invariant_of-self c =
    let ls = c.self.inside.logs.items in
    let test = is_kept c.args.held.now.stripes in
    let is : c.retain.new.self.items ≡ filter test ls = filter_same _ test _ (λ x b f' k. search rules) _ _ c.retain.ensures.filtered in
    subst AreLogs (sym is) (kept_are test ls c.self.invariant)

pub returns-clause-logs : goal.returns-clause-logs
returns-clause-logs c =
    let ls = c.self.inside.logs.items in
    let test = is_kept c.args.held.now.stripes in
    let is : c.retain.new.self.items ≡ filter test ls = filter_same _ test _ (λ x b f' k. search rules) _ _ c.retain.ensures.filtered in
    ap states_of is ∙ kept_states c.args.held.now.stripes ls ∙ ap (λ (s : SeenLogs). kept_logs c.args.held.now.stripes s.logs) c.self.view_is

pub returns-clause-numbers : goal.returns-clause-numbers
returns-clause-numbers c n all =
    let ls = c.self.inside.logs.items in
    let test = is_kept c.args.held.now.stripes in
    let is : c.retain.new.self.items ≡ filter test ls = filter_same _ test _ (λ x b f' k. search rules) _ _ c.retain.ensures.filtered in
    subst (λ (zs : List Log). AllByRecursion (λ k. k < n) (keys_of (states_of zs))) (sym is)
    (kept_numbers test n ls (subst (λ (s : SeenLogs). AllByRecursion (λ k. k < n) (keys_of s.logs)) (sym c.self.view_is) all))
