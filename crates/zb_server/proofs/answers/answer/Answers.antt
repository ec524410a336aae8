use Rattle.std.proofs.Common.{refl, ap}
use Rattle.zb_types.specs.declared.requests.Request.TheVariants as ask
use Rattle.zb_holding.specs.Rules.{IsServed}
use Rattle.zb_fragstore.specs.Seen.{holding}
use Rattle.zb_fragstore.specs.Changing.{map_in}
use Rattle.zb_fragstore.proofs.Outlined.{refusal_is}
use Rattle.zb_outside.proofs.Runs.{run_spares}
use Rattle.zb_server.proofs.Sized.{share_sized, parity_sized, gone_sized, grown_sized, raised_sized, sizes_left}
use Rattle.zb_server.proofs.Answered.{Said, runs_too, carried, may_answer, served_by, done_by, fence_kept, fence_grown, fence_raised, free_raised, free_less, free_parity}
use Rattle.zb_server.proofs.Behind.{answers_append}
use Rattle.zb_server.proofs.Looking.{retrieved, named, named_known}
use Rattle.zb_server.proofs.Refused.{not_called, refused_look, append_look}
use Rattle.zb_server.proofs.answers.answer.Goals as goal

pub returns-in-Store-clause-told : goal.returns-in-Store-clause-told
returns-in-Store-clause-told g c tells is_open =
    let request = ask.Store c.in-Store.id c.slice.result.now c.in-Store.class in
    let old = c.args.store.now in
    let r = c.store.result in
    let map = map_in old (g.B.Bay.meaning c.args.bay.now).now in
    rw (c.in-Store.is, ← c.slice.ensures, c.done.ensures)
    (carried request c.args.generation old c.store.new.self (g.B.Bay.meaning c.args.bay.now) _ is_open c.store.ensures.system r (c.store.ensures.told tells is_open)
    (fence_kept _ _ _ _ r c.store.ensures.stored, (free_less _ _ r c.store.ensures.free, c.store.ensures.same))
    (λ runs. may_answer request c.args.generation old map (Said r) (refusal_is old _ is_open c.args.generation request) (λ fault e. ap Said (c.store.ensures.refused fault e))
    (λ none. served_by request (IsServed (holding old map) request) r refl tt (c.store.ensures.taken none) runs)))

pub returns-in-Append-clause-told : goal.returns-in-Append-clause-told
returns-in-Append-clause-told g c tells is_open =
    let request = ask.Append c.in-Append.id c.in-Append.place c.slice-in-Append.result.now in
    let old = c.args.store.now in
    let r = c.append.result in
    let map = map_in old (g.B.Bay.meaning c.args.bay.now).now in
    rw (c.in-Append.is, ← c.slice-in-Append.ensures, c.done-in-Append.ensures)
    (carried request c.args.generation old c.append.new.self (g.B.Bay.meaning c.args.bay.now) _ is_open c.append.ensures.system r (c.append.ensures.told tells is_open)
    (fence_grown _ _ _ _ _ r c.append.ensures.grown, (c.append.ensures.free, c.append.ensures.same))
    (answers_append _ _ _ c.args.generation _ (g.B.Bay.meaning c.args.bay.now) r is_open c.append.ensures.refused (c.append.ensures.answer tells is_open)))

pub returns-in-Parity-clause-told : goal.returns-in-Parity-clause-told
returns-in-Parity-clause-told g c tells is_open =
    let request = ask.Parity c.in-Parity.id c.slice-lengths.result.now c.slice-bytes.result.now c.in-Parity.class in
    let old = c.args.store.now in
    let r = c.replace_parity.result in
    let map = map_in old (g.B.Bay.meaning c.args.bay.now).now in
    rw (c.in-Parity.is, ← c.slice-lengths.ensures, ← c.slice-bytes.ensures, c.done-in-Parity.ensures)
    (carried request c.args.generation old c.replace_parity.new.self (g.B.Bay.meaning c.args.bay.now) _ is_open c.replace_parity.ensures.system r (c.replace_parity.ensures.told tells is_open)
    (fence_kept _ _ _ _ r c.replace_parity.ensures.stored, (free_parity _ _ _ r c.replace_parity.ensures.free, c.replace_parity.ensures.same))
    (λ runs. may_answer request c.args.generation old map (Said r) (refusal_is old _ is_open c.args.generation request) (λ fault e. ap Said (c.replace_parity.ensures.refused fault e))
    (λ none. served_by request (IsServed (holding old map) request) r refl tt (c.replace_parity.ensures.taken none) runs)))

pub returns-in-Retrieve-clause-told : goal.returns-in-Retrieve-clause-told
returns-in-Retrieve-clause-told g c tells is_open =
    rw (c.in-Retrieve.is, c.retrieve.ensures.same)
    (retrieved _ _ _ c.args.generation _ c.retrieve.result c.retrieve.ensures.refused c.retrieve.ensures.taken (g.B.Bay.meaning c.args.bay.now) _ is_open (c.retrieve.ensures.told tells) (c.retrieve.ensures.found tells is_open))

pub returns-in-Delete-clause-told : goal.returns-in-Delete-clause-told
returns-in-Delete-clause-told g c tells is_open =
    let request = ask.Delete c.in-Delete.id in
    let old = c.args.store.now in
    let r = c.delete.result in
    let map = map_in old (g.B.Bay.meaning c.args.bay.now).now in
    rw (c.in-Delete.is, c.done-in-Delete.ensures)
    (carried request c.args.generation old c.delete.new.self (g.B.Bay.meaning c.args.bay.now) _ is_open c.delete.ensures.system r (c.delete.ensures.told tells is_open)
    (fence_kept _ _ _ _ r c.delete.ensures.deleted, (c.delete.ensures.free, c.delete.ensures.same))
    (λ runs. may_answer request c.args.generation old map (Said r) (refusal_is old _ is_open c.args.generation request) (λ fault e. ap Said (c.delete.ensures.refused fault e))
    (λ none. done_by request (IsServed (holding old map) request) r refl (c.delete.ensures.taken none) runs)))

pub returns-in-Identify-clause-told : goal.returns-in-Identify-clause-told
returns-in-Identify-clause-told g c tells is_open =
    rw c.in-Identify.is (named c.in-Identify.after c.args.generation _ c.identify.result c.identify.ensures.ids c.identify.ensures.fault (g.B.Bay.meaning c.args.bay.now) is_open)

pub returns-in-Identify-clause-known : goal.returns-in-Identify-clause-known
returns-in-Identify-clause-known g c runs =
    rw c.in-Identify.is (named_known c.in-Identify.after c.args.generation _ c.identify.result c.identify.ensures.ids c.identify.ensures.fault runs)

pub returns-in-Fence-clause-told : goal.returns-in-Fence-clause-told
returns-in-Fence-clause-told g c tells is_open =
    let request = ask.Fence c.in-Fence.generation in
    let old = c.args.store.now in
    let r = c.fence.result in
    let map = map_in old (g.B.Bay.meaning c.args.bay.now).now in
    rw (c.in-Fence.is, c.done-in-Fence.ensures)
    (carried request c.args.generation old c.fence.new.self (g.B.Bay.meaning c.args.bay.now) _ is_open c.fence.ensures.system r (c.fence.ensures.told tells is_open)
    (fence_raised c.in-Fence.generation old c.fence.new.self r c.fence.ensures.raised, (free_raised c.in-Fence.generation old c.fence.new.self r c.fence.ensures.raised, c.fence.ensures.same))
    (λ runs. may_answer request c.args.generation old map (Said r) (refusal_is old _ is_open c.args.generation request) (λ fault e. ap Said (c.fence.ensures.refused fault e))
    (λ none. done_by request (IsServed (holding old map) request) r refl (c.fence.ensures.taken none) runs)))

pub returns-in-Store-clause-looked : goal.returns-in-Store-clause-looked
returns-in-Store-clause-looked g c tells is_open =
    rw c.in-Store.is (refused_look _ g.B.Bay.meaning c.args.bay.now _ (ask.Store c.in-Store.id c.slice.result.now c.in-Store.class) c.args.generation c.args.store.now is_open _ c.store.ensures.refused c.store.ensures.still)

pub returns-in-Append-clause-looked : goal.returns-in-Append-clause-looked
returns-in-Append-clause-looked g c tells is_open =
    rw (c.in-Append.is, ← c.slice-in-Append.ensures) (append_look _ g.B.Bay.meaning c.args.bay.now _ c.in-Append.id c.in-Append.place c.slice-in-Append.result.now c.args.generation c.args.store.now is_open c.append.ensures.still (c.append.ensures.looked tells is_open))

pub returns-in-Parity-clause-looked : goal.returns-in-Parity-clause-looked
returns-in-Parity-clause-looked g c tells is_open =
    rw c.in-Parity.is
    (refused_look _ g.B.Bay.meaning c.args.bay.now _ (ask.Parity c.in-Parity.id c.slice-lengths.result.now c.slice-bytes.result.now c.in-Parity.class) c.args.generation c.args.store.now is_open _ c.replace_parity.ensures.refused c.replace_parity.ensures.still)

pub returns-in-Retrieve-clause-looked : goal.returns-in-Retrieve-clause-looked
returns-in-Retrieve-clause-looked g c tells is_open fault some = c.retrieve.ensures.told tells

pub returns-in-Delete-clause-looked : goal.returns-in-Delete-clause-looked
returns-in-Delete-clause-looked g c tells is_open =
    rw c.in-Delete.is (refused_look _ g.B.Bay.meaning c.args.bay.now _ (ask.Delete c.in-Delete.id) c.args.generation c.args.store.now is_open _ c.delete.ensures.refused c.delete.ensures.still)

pub returns-in-Identify-clause-looked : goal.returns-in-Identify-clause-looked
returns-in-Identify-clause-looked g c tells is_open fault some = not_called c.args.store.now.server.0 (g.B.Bay.meaning c.args.bay.now)

pub returns-in-Fence-clause-looked : goal.returns-in-Fence-clause-looked
returns-in-Fence-clause-looked g c tells is_open =
    rw c.in-Fence.is (refused_look _ g.B.Bay.meaning c.args.bay.now _ (ask.Fence c.in-Fence.generation) c.args.generation c.args.store.now is_open _ c.fence.ensures.refused c.fence.ensures.still)

pub returns-in-Store-clause-sizes : goal.returns-in-Store-clause-sizes
returns-in-Store-clause-sizes g c =
    let fits = rw c.in-Store.is at c.requires in
    rw (c.in-Store.is, ← c.slice.ensures, c.done.ensures)
    (λ runs. sizes_left (ask.Store c.in-Store.id c.slice.result.now c.in-Store.class) _ _ c.store.result (share_sized _ _ c.store.ensures.system c.store.result c.in-Store.id _ fits.0 c.store.ensures.stored) c.store.ensures.same (runs_too c.store.result runs))

pub returns-in-Append-clause-sizes : goal.returns-in-Append-clause-sizes
returns-in-Append-clause-sizes g c =
    rw (c.in-Append.is, ← c.slice-in-Append.ensures, c.done-in-Append.ensures)
    (λ runs. sizes_left (ask.Append c.in-Append.id c.in-Append.place c.slice-in-Append.result.now) _ _ c.append.result (grown_sized _ _ c.append.ensures.system c.append.result c.in-Append.id _ _ c.append.ensures.grown) c.append.ensures.same (runs_too c.append.result runs))

pub returns-in-Parity-clause-sizes : goal.returns-in-Parity-clause-sizes
returns-in-Parity-clause-sizes g c =
    let fits = rw (c.in-Parity.is, ← c.slice-lengths.ensures) at c.requires in
    rw (c.in-Parity.is, ← c.slice-lengths.ensures, ← c.slice-bytes.ensures, c.done-in-Parity.ensures)
    (λ runs. sizes_left (ask.Parity c.in-Parity.id c.slice-lengths.result.now c.slice-bytes.result.now c.in-Parity.class) _ _ c.replace_parity.result
    (parity_sized _ _ c.replace_parity.ensures.system c.replace_parity.result c.in-Parity.id _ _ fits.0 fits.1.0 c.replace_parity.ensures.stored) c.replace_parity.ensures.same (runs_too c.replace_parity.result runs))

pub returns-in-Delete-clause-sizes : goal.returns-in-Delete-clause-sizes
returns-in-Delete-clause-sizes g c =
    rw (c.in-Delete.is, c.done-in-Delete.ensures)
    (λ runs. sizes_left (ask.Delete c.in-Delete.id) _ _ c.delete.result (gone_sized _ _ c.delete.ensures.system c.delete.result c.in-Delete.id c.delete.ensures.deleted) c.delete.ensures.same (runs_too c.delete.result runs))

pub returns-in-Fence-clause-sizes : goal.returns-in-Fence-clause-sizes
returns-in-Fence-clause-sizes g c =
    rw (c.in-Fence.is, c.done-in-Fence.ensures)
    (λ runs. sizes_left (ask.Fence c.in-Fence.generation) c.args.store.now c.fence.new.self c.fence.result (raised_sized c.in-Fence.generation c.args.store.now c.fence.new.self c.fence.result c.fence.ensures.raised) c.fence.ensures.same (runs_too c.fence.result runs))

pub returns-in-Retrieve-clause-sizes : goal.returns-in-Retrieve-clause-sizes
returns-in-Retrieve-clause-sizes g c =
    rw (c.in-Retrieve.is, c.retrieve.ensures.same) (λ runs. record { done = λ e q. refl; same = λ e q. refl })

pub returns-in-Identify-clause-sizes : goal.returns-in-Identify-clause-sizes
returns-in-Identify-clause-sizes g c =
    rw c.in-Identify.is (λ runs. record { done = λ e q. refl; same = λ e q. refl })

pub returns-in-Retrieve-clause-others : goal.returns-in-Retrieve-clause-others
returns-in-Retrieve-clause-others g c tells = run_spares (c.retrieve.ensures.told tells).run
