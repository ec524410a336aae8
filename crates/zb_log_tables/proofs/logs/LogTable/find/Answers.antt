use Rattle.std.proofs.Common.{◌≡◌, ◌<◌, length, Some, sym, ap, ◌∙◌, subst, arith}
use Rattle.zb_types.proofs.KeyedLists.{IsRising-from_ordered}
use Rattle.zb_log_tables.specs.Logs.{SeenLogs, IsPlace, state_of, states_of}
use Rattle.zb_log_tables.proofs.LogPlaces.{number_at, length_states, number_of, found_log, absent_log}
use Rattle.zb_log_tables.proofs.logs.LogTable.find.Goals as goal

pub returns-then-i-len : goal.returns-then-i-len
returns-then-i-len c =
    let ls = c.self.inside.logs.items in
    let n = c.args.log.0 in
    let i = c.place-i.result in
    let same = length_states ls in
    let place : IsPlace (states_of ls) n i = subst (λ (s : SeenLogs). IsPlace s.logs n i) (sym c.self.view_is) c.place-i.ensures.place in
    let past = c.if-i-len.true in
    let len = c.len.ensures in
    rw (← c.self.view_is) (sym (absent_log (states_of ls) n i (IsRising-from_ordered (states_of ls) c.self.invariant.rising) place (λ lt e. omega arith)))

pub returns-then-found-log : goal.returns-then-found-log
returns-then-found-log c =
    let ls = c.self.inside.logs.items in
    let n = c.args.log.0 in
    let i = c.place-i.result in
    let same = length_states ls in
    let place : IsPlace (states_of ls) n i = subst (λ (s : SeenLogs). IsPlace s.logs n i) (sym c.self.view_is) c.place-i.ensures.place in
    let lt : i < length ls = omega arith in
    let at : number_at (states_of ls) i ≡ c.index-found.result.now.number = number_of ls i c.index-found.result.now lt ∙ ap (λ l. l.number) (sym c.index-found.ensures) in
    rw (← c.self.view_is) (sym (absent_log (states_of ls) n i (IsRising-from_ordered (states_of ls) c.self.invariant.rising) place (λ less e. c.if-found-log.true (sym at ∙ e))))

pub returns : goal.returns
returns c =
    let ls = c.self.inside.logs.items in
    let n = c.args.log.0 in
    let i = c.place-i.result in
    let place : IsPlace (states_of ls) n i = subst (λ (s : SeenLogs). IsPlace s.logs n i) (sym c.self.view_is) c.place-i.ensures.place in
    let lt : i < length ls = omega arith in
    let at = c.index-found.ensures in
    rw (← c.self.view_is) (ap (λ l. Some (state_of l)) at ∙ sym (found_log ls n i c.index-found.result.now lt place (ap (λ l. l.number) (sym at) ∙ c.if-found-log.false)))
