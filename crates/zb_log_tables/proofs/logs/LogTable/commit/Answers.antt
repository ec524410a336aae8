use Rattle.std.proofs.Common.{◌≡◌, ℕ, ◌<◌, length, get_or, Option, Some, sym, ap, ◌∙◌, subst, arith}
use Rattle.std.proofs.lemmas.List.{get_or_default}
use Rattle.std.specs.List.Sorted.{IsStrictlySortedBy}
use Rattle.std.specs.Ordering.{nat_cmp}
use Rattle.zb_types.proofs.KeyedLists.{IsRising-from_ordered}
use Rattle.zb_types.specs.Keyed.{look, replaced}
use Rattle.zb_tables.specs.Fold.{with_batch}
use Rattle.zb_log_tables.specs.declared.log.Log.{Log}
use Rattle.zb_log_tables.specs.Logs.{SeenLogs, IsPlace, IsLast, state_of, states_of}
use Rattle.zb_log_tables.proofs.LogPlaces.{number_at, length_states, number_of, found_log, absent_log, set_log, set_numbers, set_lasts, last_there, last_fits}
use Rattle.zb_log_tables.proofs.logs.LogTable.commit.Goals as goal

pub returns-then-i-len-clause-logs : goal.returns-then-i-len-clause-logs
returns-then-i-len-clause-logs c =
    let ls = c.self.inside.logs.items in
    let n = c.args.log.0 in
    let i = c.place-i.result in
    let same = length_states ls in
    let place : IsPlace (states_of ls) n i = subst (λ (s : SeenLogs). IsPlace s.logs n i) (sym c.self.view_is) c.place-i.ensures.place in
    let none = absent_log (states_of ls) n i (IsRising-from_ordered (states_of ls) c.self.invariant.rising) place (λ lt e. omega arith) in
    rw (← c.self.view_is) (ap (with_batch c.args.log c.args.number c.args.pieces.now c.args.replies (states_of ls)) (sym none))

pub returns-then-index-log-clause-logs : goal.returns-then-index-log-clause-logs
returns-then-index-log-clause-logs c =
    let ls = c.self.inside.logs.items in
    let n = c.args.log.0 in
    let i = c.place-i.result in
    let same = length_states ls in
    let place : IsPlace (states_of ls) n i = subst (λ (s : SeenLogs). IsPlace s.logs n i) (sym c.self.view_is) c.place-i.ensures.place in
    let lt : i < length ls = omega arith in
    let at : number_at (states_of ls) i ≡ c.index.result.now.number = number_of ls i c.index.result.now lt ∙ ap (λ l. l.number) (sym c.index.ensures) in
    let none = absent_log (states_of ls) n i (IsRising-from_ordered (states_of ls) c.self.invariant.rising) place (λ less e. c.if-index-log.true (sym at ∙ e)) in
    rw (← c.self.view_is) (ap (with_batch c.args.log c.args.number c.args.pieces.now c.args.replies (states_of ls)) (sym none))

pub invariant_of-self : goal.invariant_of-self
invariant_of-self c =
    let ls = c.self.inside.logs.items in
    let i = c.place-i.result in
    let found = c.index_mut-found.result.now in
    let lt : i < length ls = omega arith in
    let at : found ≡ get_or ls i found = c.index_mut-found.ensures.value in
    let new : Log = record { number = found.number; owner = found.owner; live = found.live; batch = c.args.number; replies = c.args.replies; last = c.last_of-found.result; mark = found.mark } in
    let was : IsLast found.last = subst (λ l. IsLast l.last) (sym at) (last_there ls i found lt c.self.invariant.last) in
    let now : IsLast c.last_of-found.result = subst IsLast (sym c.last_of-found.ensures) (last_fits found.last c.args.pieces.now was c.requires) in
    record {
      rising = subst (IsStrictlySortedBy nat_cmp) (sym (set_numbers ls i found new lt (ap (λ l. l.number) (sym at)))) c.self.invariant.rising;
      last = set_lasts ls i new c.self.invariant.last now;
    }

pub returns-clause-logs : goal.returns-clause-logs
returns-clause-logs c =
    let ls = c.self.inside.logs.items in
    let n = c.args.log.0 in
    let i = c.place-i.result in
    let found = c.index_mut-found.result.now in
    let lt : i < length ls = omega arith in
    let at : found ≡ get_or ls i found = c.index_mut-found.ensures.value in
    let place : IsPlace (states_of ls) n i = subst (λ (s : SeenLogs). IsPlace s.logs n i) (sym c.self.view_is) c.place-i.ensures.place in
    let here : c.index.result.now.number ≡ n = c.if-index-log.false in
    let first = c.index.ensures in
    let same : found.number ≡ n = ap (λ l. l.number) (at ∙ sym (get_or_default ls i c.index.result.now found lt) ∙ sym first) ∙ here in
    let number_is : (get_or ls i found).number ≡ n = ap (λ l. l.number) (sym at) ∙ same in
    let new : Log = record { number = found.number; owner = found.owner; live = found.live; batch = c.args.number; replies = c.args.replies; last = c.last_of-found.result; mark = found.mark } in
    let there : look n (states_of ls) ≡ Some (state_of found) = found_log ls n i found lt place number_is ∙ ap (λ l. Some (state_of l)) (sym at) in
    rw (← c.self.view_is)
    (set_log ls n i found new lt place number_is same
    ∙ ap (λ (o : Option ℕ). replaced n (record { owner = found.owner; live = found.live; batch = c.args.number; replies = c.args.replies; last = o; mark = found.mark }) (states_of ls)) c.last_of-found.ensures
    ∙ ap (with_batch c.args.log c.args.number c.args.pieces.now c.args.replies (states_of ls)) (sym there))

pub returns-clause-numbers : goal.returns-clause-numbers
returns-clause-numbers c =
    let ls = c.self.inside.logs.items in
    let i = c.place-i.result in
    let found = c.index_mut-found.result.now in
    let lt : i < length ls = omega arith in
    let at : found ≡ get_or ls i found = c.index_mut-found.ensures.value in
    let new : Log = record { number = found.number; owner = found.owner; live = found.live; batch = c.args.number; replies = c.args.replies; last = c.last_of-found.result; mark = found.mark } in
    rw (← c.self.view_is) (set_numbers ls i found new lt (ap (λ l. l.number) (sym at)))
