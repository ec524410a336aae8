use Rattle.std.proofs.Common.{◌≡◌, ◌∷◌, ◌++◌, [], ◌≤◌, ◌<◌, List, None, true, sym, subst, ap, ◌∙◌, arith, if◌then◌else◌}
use Rattle.std.specs.Prelude.{is_ok}
use Rattle.std.specs.List.{AllByRecursion}
use Rattle.std.specs.Map.{keys_of}
use Rattle.zb_types.specs.declared.calls.Reply.{Reply}
use Rattle.zb_log_tables.specs.declared.log.Log.{Log}
use Rattle.zb_log_tables.specs.HeldStripes.{room_of}
use Rattle.zb_log_tables.specs.Logs.{SeenLogs, AreLogs, states_of}
use Rattle.zb_log_tables.proofs.LogPlaces.{logs_more, states_more}
use Rattle.zb_log_tables.proofs.logs.LogTable.add.Goals as goal

pub invariant_of-self : goal.invariant_of-self
invariant_of-self c =
    let ls = c.self.inside.logs.items in
    let new : Log = record { number = c.args.log.0; owner = c.args.owner; live = true; batch = 0; replies = c.of.result; last = None; mark = 0 } in
    let room : 1 ≤ room_of c.self.inside.logs = subst (λ (s : SeenLogs). 1 ≤ s.room) (sym c.self.view_is) c.requires.room in
    let ok : is_ok c.push.result ≡ true = c.push.ensures.succeeds (omega arith) in
    let items : c.push.new.self.items ≡ ls ++ new ∷ [] = c.push.ensures.items ∙ ap (λ b. if b then ls ++ new ∷ [] else ls) ok in
    let all : AllByRecursion (λ k. k < c.args.log.0) (keys_of (states_of ls)) = subst (λ (s : SeenLogs). AllByRecursion (λ k. k < c.args.log.0) (keys_of s.logs)) (sym c.self.view_is) c.requires.last in
    subst AreLogs (sym items) (logs_more ls new c.self.invariant all tt)

pub returns : goal.returns
returns c =
    let ls = c.self.inside.logs.items in
    let new : Log = record { number = c.args.log.0; owner = c.args.owner; live = true; batch = 0; replies = c.of.result; last = None; mark = 0 } in
    let room : 1 ≤ room_of c.self.inside.logs = subst (λ (s : SeenLogs). 1 ≤ s.room) (sym c.self.view_is) c.requires.room in
    let ok : is_ok c.push.result ≡ true = c.push.ensures.succeeds (omega arith) in
    let items : c.push.new.self.items ≡ ls ++ new ∷ [] = c.push.ensures.items ∙ ap (λ b. if b then ls ++ new ∷ [] else ls) ok in
    let replies : c.of.result ≡ [] = c.of.ensures ∙ c.new.ensures.items in
    rw (← c.self.view_is) (record { logs = ap states_of items ∙ states_more ls new ∙ ap (λ (rs : List Reply). states_of ls ++ (c.args.log.0, record { owner = c.args.owner; live = true; batch = 0; replies = rs; last = None; mark = 0 }) ∷ []) replies })
