-- A batch that is being stored has few requests left.
use Rattle.std.proofs.Common.{◌≡◌, ℕ, zero, suc, ◌+◌, ◌-◌, ◌*◌, ◌≤◌, List, [], ◌∷◌, length, length-append, Option, refl, ap, ◌∙◌, subst, arith}
use Rattle.std.specs.Prelude.{◌==◌}
use Rattle.std.proofs.lemmas.Bool.{cond_both}
use Rattle.std.proofs.lemmas.Nat.{mul-le}
use Rattle.std.proofs.lemmas.Slice.Zip.{AllZip-long}
use Rattle.zb_types.specs.declared.ids.FragId.{FragId}
use Rattle.zb_types.specs.declared.ids.LogId.{LogId}
use Rattle.zb_types.specs.declared.ids.ServerId.{ServerId}
use Rattle.zb_types.specs.declared.nodes.Class.{Class}
use Rattle.zb_types.specs.declared.nodes.Class.TheVariants.{Client}
use Rattle.zb_types.specs.declared.requests.Request.{Request}
use Rattle.zb_types.specs.declared.requests.Request.TheVariants as ask
use Rattle.zb_types.specs.Tree.{Tree}
use Rattle.zb_holding.specs.Holding.{is_away}
use Rattle.zb_holding.specs.Placing.{frag_id, server_of, share_length}
use Rattle.zb_stripe.specs.declared.flush.Flush.{Flush}
use Rattle.zb_stripe.specs.declared.flush.Part.{Part}
use Rattle.zb_stripe.specs.Writing.{grow, lengths_of, new_bytes, parity_bytes, parity_request, part_requests, plan_requests, share_request, share_requests, unless_out}
use Rattle.zb_stripe_laws.specs.PartAtWork.{StripesDiffer}
use Rattle.zb_stripe_laws.proofs.Plans.{rise_differ}
use Rattle.zb_log.specs.Sealing.{IsPartOf}
use Rattle.zb_tables.specs.Tables.{Contents, LiesIn, SameIn, bytes_at}
use Rattle.zb_tables.specs.Taking.{stripe_room}
use Rattle.zb_sound.specs.Delivering.{allowed}
use Rattle.zb_sound.specs.LastFlush.{LastFlush, Phase}
use Rattle.zb_sound.specs.LookupsCurrent.{AreFetched}
use Rattle.zb_sound.proofs.Flushing.{parts_same}
use Rattle.zb_sound.proofs.Strays.{copies_grown}
use Rattle.zb_basis.specs.declared.basis.Basis.{Basis}
use Rattle.zb_basis.specs.declared.basis.Formed.{Formed}
use Rattle.zb_basis.specs.Forming.{writers_out}
use Rattle.zb_basis.specs.Runs.{run_of}
use Rattle.zb_basis.proofs.Each.{each-weaker}
use Rattle.zb_forming_laws.specs.Flushing.{contents_with}
use Rattle.zb_forming_laws.specs.Resting.{pairs_of}
use Rattle.zb_forming_laws.proofs.Fewness.{pieces-few}
use Rattle.zb_work.specs.Blocks.{there}
use Rattle.zb_work.specs.declared.work.Step.{Step}
use Rattle.zb_work.specs.declared.work.Step.TheVariants as step
use Rattle.zb_work.specs.Steps.{first_members, step_of}
use Rattle.zb_client.specs.Seen.{SeenClient}
use Rattle.zb_client_laws.specs.Around.{Around, IsAround}
use Rattle.zb_client_laws.specs.Logging.{HasPhase, IsDelivering, delivers, flush_of}
use Rattle.zb_client_laws.specs.Sound.{ClientIsSound, StepIsCurrent}
use Rattle.zb_client_laws.proofs.Blocks.{all_there}
use Rattle.zb_client_laws.proofs.Lasting.{short_run}
use Rattle.zb_progress.specs.Left.{most_requests}

abbrev Requests : Type 0
Requests = List (ServerId × Request)

-- ---- the requests of a flush: at most one to each server for each part

module _ (n f : ℕ) (out : Option ServerId) (class : Class) (log : LogId) where
  out-few : (id : FragId) (request : Request) → length (unless_out n out id request) ≤ 1
  out-few id request = cond_both (is_away out (server_of n id)) [] ((server_of n id, request) ∷ []) (λ (rs : Requests). length rs ≤ 1) (λ _. omega arith) (λ _. omega arith)

  share-few : (part : Part) (k : ℕ) → length (share_request n f out class log part k) ≤ 1
  share-few part k =
      let request = grow (frag_id log part.stripe k) class (share_length f part.begin k) (new_bytes f part k) in
      let one = out-few (frag_id log part.stripe k) request in
      cond_both (length (new_bytes f part k) == 0) [] (unless_out n out (frag_id log part.stripe k) request) (λ (rs : Requests). length rs ≤ 1) (λ _. omega arith) (λ _. one)

  shares-few : (part : Part) (m : ℕ) → length (share_requests n f out class log part m) ≤ m
  shares-few part zero = omega arith
  shares-few part (suc k) =
      let before = shares-few part k in
      let one = share-few part k in
      let all = length-append (share_requests n f out class log part k) (share_request n f out class log part k) in
      omega arith

  part-few : 1 ≤ n → (part : Part) → length (part_requests n f out class log part) ≤ n
  part-few some part =
      let shares = shares-few part (n - 1) in
      let parity = out-few (frag_id log part.stripe (n - 1)) (ask.Parity (frag_id log part.stripe (n - 1)) (lengths_of n f part) (parity_bytes n f part) class) in
      let all = length-append (share_requests n f out class log part (n - 1)) (parity_request n f out class log part) in
      omega arith

  parts-few : 1 ≤ n → (parts : List Part) → length (plan_requests n f out class (record { log = log; parts = parts })) ≤ length parts * n
  parts-few some [] = omega arith
  parts-few some (part ∷ parts) =
      let first = part-few some part in
      let rest = parts-few some parts in
      let all = length-append (part_requests n f out class log part) (plan_requests n f out class (record { log = log; parts = parts })) in
      let more : length (part ∷ parts) * n ≡ n + length parts * n = grind arith in
      omega (arith, first, rest, all, more)

-- ---- a batch that is being stored

module _ (slots : ℕ) (w : Around) (a : IsAround slots w) (seen : Tree) (c : SeenClient) (s : ClientIsSound w seen c) (basis : Basis) (formed : Formed)
    (e : step_of c.task ≡ step.Store basis formed) (room : c.log.room ≡ stripe_room w.z) (size : c.log.block ≡ w.z.block) where
  abbrev DeliveringIn : ℕ → ℕ → ℕ → Type 0
  DeliveringIn n f b = IsDelivering n f b c.log c.batch (run_of c.kept) basis formed s.log.generation s.log.at s.log.front s.log.phase

  delivering : DeliveringIn w.z.servers w.z.fragment w.z.block
  delivering =
      subst (λ (n : ℕ). DeliveringIn n w.z.fragment w.z.block) s.sizes.servers
      (subst (λ (f : ℕ). DeliveringIn c.servers f w.z.block) s.sizes.fragment
      (subst (λ (b : ℕ). DeliveringIn c.servers c.fragment b) s.sizes.block
      (subst (λ (st : Step). HasPhase c st s.log.generation s.log.at s.log.front s.log.phase) e s.log.has)))

  current : StepIsCurrent w seen c (step.Store basis formed)
  current = subst (λ (st : Step). StepIsCurrent w seen c st) e s.step

  abbrev Stored : Flush
  Stored = flush_of delivering.was

  abbrev Out : Option ServerId
  Out = writers_out (first_members basis.found).state

  standing : LastFlush w.z w.contents w.st w.tables.held (allowed w.tables.members) c.log.log s.log.front (delivers delivering.was formed.plan)
  standing = subst (λ (p : Phase). LastFlush w.z w.contents w.st w.tables.held (allowed w.tables.members) c.log.log s.log.front p) delivering.phase_is s.log.flush

  abbrev New : Contents
  New = contents_with w.contents c.log delivering.was.given delivering.was.whole delivering.was.is.blocks

  differ : StripesDiffer Stored.parts
  differ = rise_differ Stored.parts standing.stands.rise

  same : SameIn w.tables.held w.contents New
  same = parts_same w.contents c.log.log w.z w.tables.held Stored.parts standing.stands.works.fits differ

  fetched : AreFetched New (pairs_of basis.fetched)
  fetched =
      subst (AreFetched New) (all_there basis.fetched current.1)
      (each-weaker (λ e. (e.1 ≡ bytes_at New e.0) × LiesIn w.tables.held e.0) (λ e. e.1 ≡ bytes_at New e.0) (there basis.fetched) (λ e h. h.0)
      (copies_grown w.contents New w.tables.held (there basis.fetched) same current.0.rests.fetched))

  pub requests-few : length formed.plan ≤ most_requests w.z
  requests-few =
      let was = delivering.was in
      let pieces = pieces-few w.z slots c.log c.batch (first_members basis.found) (run_of c.kept) basis was.whole was.given w.contents a.limits was.is was.are room size
      (short_run c.kept s.short) fetched c.kept refl in
      let stored = was.is.stored was.given was.are in
      let long = AllZip-long IsPartOf was.whole.sealed.placed.pieces Stored.parts stored.pieces in
      let low = a.limits.servers_low in
      let most = parts-few w.z.servers w.z.fragment Out Client Stored.log (omega arith) Stored.parts in
      let all = ap (λ (rs : Requests). length rs) standing.stands.all ∙ length-append standing.stands.done formed.plan in
      let wide = mul-le (length Stored.parts) w.z.servers 4093 w.z.servers (omega (arith, long, pieces)) (omega arith) in
      omega (arith, most, all, wide)
