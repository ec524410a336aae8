-- A formed batch of short calls has as many pieces as a commit may name.
use Rattle.std.proofs.Common.{◌≡◌, ◌⊎◌, ℕ, ◌+◌, ◌-◌, ◌*◌, ◌/◌, ◌%◌, ◌<◌, ◌≤◌, true, List, [], ◌∷◌, length, map, sym, ap, subst, inl, inr, arith}
use Rattle.std.specs.Prelude.{Option, Some, None, IsSomeAnd}
use Rattle.std.specs.List.{AllByRecursion, sum}
use Rattle.std.proofs.lemmas.Bool.{cases_lt, cond_both, false≢true}
use Rattle.std.proofs.lemmas.List.{length-map}
use Rattle.std.proofs.lemmas.Nat.{div-add-mod', mul-le}
use Rattle.zb_types.specs.declared.ids.LogId.{LogId}
use Rattle.zb_types.specs.declared.ids.Ptr.{Ptr}
use Rattle.zb_types.specs.declared.nodes.Members.{Members}
use Rattle.zb_types.specs.declared.calls.Call.{Call}
use Rattle.zb_types.specs.declared.calls.Call.TheVariants.{Create, Mkdir, Remove, Rename, Write, Truncate, Sync, Read, List as ListOf, Stat, Find}
use Rattle.zb_types.specs.declared.tables.Found.{Found}
use Rattle.zb_types.specs.Keyed.{look}
use Rattle.zb_types.specs.Limits.{InLimits, most_kept}
use Rattle.zb_log.specs.Logs.{AreGiven, SeenLog}
use Rattle.zb_batch.specs.declared.batch.Op.{Op}
use Rattle.zb_batch.specs.declared.batch.Op.TheVariants as op
use Rattle.zb_batch.specs.Batches.{IsShaped}
use Rattle.zb_batch.specs.Spelling.{ops_text}
use Rattle.zb_batch.proofs.Sizes.{length-ops_text}
use Rattle.zb_tables.specs.Tables.{Contents, LogState, Tables, bytes_at}
use Rattle.zb_tables.specs.Taking.{MayCommit, Sizes, stripe_room}
use Rattle.zb_sound.specs.LookupsCurrent.{AreFetched}
use Rattle.zb_basis.specs.declared.calls.Numbered.{Numbered}
use Rattle.zb_basis.specs.declared.basis.Basis.{Basis}
use Rattle.zb_basis.specs.declared.basis.Formed.{Formed}
use Rattle.zb_basis.specs.Forming.{IsFormed}
use Rattle.zb_basis.specs.Runs.{company, is_alone, run_of}
use Rattle.zb_basis.specs.Operations.{Bytes, Changed, new_ptrs, unchanged, OpIs as OpMeans, OpsAre as OpsMean}
use Rattle.zb_basis.proofs.Each.{each-of}
use Rattle.zb_forming_laws.specs.Flushing.{contents_with}
use Rattle.zb_forming_laws.specs.Resting.{AreShort, pairs_of}
use Rattle.zb_forming_laws.proofs.Standing.{contents-stand}
use Rattle.zb_forming_laws.proofs.Updating.{RunIs, run-is}
use Rattle.zb_forming_laws.proofs.Finding.{blocks-stand, pieces-fit, pointers-fit, some-piece}
use Rattle.zb_forming_laws.proofs.Counting.{IsFew, company-few, each-few, each-short, few-stripes, name-few, ops-few, sum-most}

module _ (b : ℕ) (bytes : Bytes) where
  -- a call that stands alone makes an operation on names
  alone-few : (changed : Changed) (number : ℕ) (call : Call) (found : Found) (o : Op) → is_alone call ≡ true → OpMeans b bytes changed number call found o → IsShaped o → IsFew o
  alone-few changed number (Create path) found (op.Name m what) alone is shaped = name-few m what shaped
  alone-few changed number (Create path) found o alone is shaped = absurd is
  alone-few changed number (Mkdir path) found (op.Name m what) alone is shaped = name-few m what shaped
  alone-few changed number (Mkdir path) found o alone is shaped = absurd is
  alone-few changed number (Remove path) found (op.Name m what) alone is shaped = name-few m what shaped
  alone-few changed number (Remove path) found o alone is shaped = absurd is
  alone-few changed number (Rename path to) found (op.Name m what) alone is shaped = name-few m what shaped
  alone-few changed number (Rename path to) found o alone is shaped = absurd is
  alone-few changed number (Read fid offset len) found (op.Name m what) alone is shaped = name-few m what shaped
  alone-few changed number (Read fid offset len) found o alone is shaped = absurd is
  alone-few changed number (ListOf path) found (op.Name m what) alone is shaped = name-few m what shaped
  alone-few changed number (ListOf path) found o alone is shaped = absurd is
  alone-few changed number (Stat path) found (op.Name m what) alone is shaped = name-few m what shaped
  alone-few changed number (Stat path) found o alone is shaped = absurd is
  alone-few changed number (Find path) found (op.Name m what) alone is shaped = name-few m what shaped
  alone-few changed number (Find path) found o alone is shaped = absurd is
  alone-few changed number (Write fid offset text) found o alone is shaped = absurd (false≢true alone)
  alone-few changed number (Truncate fid size) found o alone is shaped = absurd (false≢true alone)
  alone-few changed number Sync found o alone is shaped = absurd (false≢true alone)

  one-few : (call : Numbered) (founds : List Found) (os : List Op) (changed : Changed) → is_alone call.call ≡ true → OpsMean b bytes changed (call ∷ []) founds os → AllByRecursion IsShaped os → AllByRecursion IsFew os
  one-few call (found ∷ []) (o ∷ []) changed alone are shaped = (alone-few changed call.number call.call found o alone are.0 shaped.0, tt)
  one-few call [] os changed alone are shaped = absurd are
  one-few call (found ∷ founds) [] changed alone are shaped = absurd are
  one-few call (found ∷ []) (o ∷ other ∷ os) changed alone are shaped = absurd are.1
  one-few call (found ∷ other ∷ founds) (o ∷ os) changed alone are shaped = absurd are.1

run-few : (kept : List Numbered) → length (run_of kept) ≤ 8
run-few [] = omega arith
run-few (call ∷ calls) = cond_both (is_alone call.call) (call ∷ []) (company most_kept (call ∷ calls)) (λ (cs : List Numbered). length cs ≤ 8) (λ _. omega arith) (λ _. company-few most_kept (call ∷ calls))

block-fits : (fragment block : ℕ) → 256 ≤ fragment → fragment % block ≡ 0 → block ≤ fragment
block-fits fragment block some whole = by (cases_lt 0 (fragment / block)) where
  by : (0 < fragment / block) ⊎ (fragment / block ≤ 0) → block ≤ fragment
  by (inl l) = let all = div-add-mod' fragment block in let least = mul-le 1 block (fragment / block) block (omega arith) (omega arith) in omega arith
  by (inr none) =
      let all = div-add-mod' fragment block in
      let zero_is : fragment / block ≡ 0 = omega arith in
      let gone : fragment / block * block ≡ 0 * block = ap (λ (m : ℕ). m * block) zero_is in
      absurd (omega arith)

module _ (z : Sizes) (slots : ℕ) (log : SeenLog) (number : ℕ) (members : Members) (calls : List Numbered) (basis : Basis) (formed : Formed) (given : List ℕ) (contents : Contents)
    (limits : InLimits z.servers z.clients z.fragment z.block slots) (is : IsFormed z.servers z.fragment z.block log number members calls basis formed) (are : AreGiven log given)
    (room : log.room ≡ stripe_room z) (size : log.block ≡ z.block) (short : AreShort calls) (fetched : AreFetched (contents_with contents log given formed is.blocks) (pairs_of basis.fetched)) where
  abbrev New : Contents
  New = contents_with contents log given formed is.blocks

  abbrev Ops : List Op
  Ops = formed.sealed.batch.ops

  means : OpsMean z.block (bytes_at New) unchanged calls basis.found Ops
  means = is.is_batch.of_calls (bytes_at New)
      (contents-stand New basis.fetched formed.sealed.placed.ptrs is.blocks fetched (blocks-stand z.servers z.fragment z.block log number members calls basis formed is given are contents))

  few-by : RunIs calls → AllByRecursion IsFew Ops
  few-by (inl one) = one-few z.block (bytes_at New) one.0 basis.found Ops unchanged one.2 (subst (λ (cs : List Numbered). OpsMean z.block (bytes_at New) unchanged cs basis.found Ops) one.1 means) is.spelled.shaped
  few-by (inr together) = ops-few z.block limits.block_low (bytes_at New) calls basis.found Ops unchanged means together short

  blocks-most : length (new_ptrs Ops) ≤ 66 * length Ops → sum (map length is.blocks) ≤ 66 * length Ops * log.block
  blocks-most few =
      let most = sum-most log.block (map length is.blocks) (each-of (λ (n : ℕ). (1 ≤ n) × (n ≤ log.block)) (map length is.blocks) is.laid.exact.lens) in
      let same = ap length is.is_batch.lens in
      let ptrs = length-map formed.sealed.placed.ptrs (λ (p : Ptr). p.len) in
      let new = ap length is.is_batch.new in
      let more = mul-le (length (map length is.blocks)) log.block (66 * length Ops) log.block (omega arith) (omega arith) in
      omega arith

  pub pieces-few : (kept : List Numbered) → calls ≡ run_of kept → length formed.sealed.placed.pieces ≤ 4093
  pieces-few kept run =
      let few = few-by (subst RunIs (sym run) (run-is kept)) in
      let blocks = blocks-most (each-few Ops few) in
      let bytes = each-short Ops few in
      let text = length-ops_text Ops in
      let count = is.is_batch.count in
      let most = run-few kept in
      let same = ap length run in
      let fits = block-fits z.fragment z.block limits.fragment_low limits.whole in
      let servers = limits.servers_low in
      let low = limits.block_low in
      let wide = mul-le 2 z.fragment (z.servers - 1) z.fragment (omega arith) (omega arith) in
      let lies = is.laid.few.stripes in
      let pieces = is.laid.few.pieces in
      let stripes = few-stripes log.block log.room (formed.sealed.placed.next.stripe - log.next.stripe) (32 + length (ops_text Ops)) (sum (map length is.blocks)) (length Ops) (omega arith) (omega arith) (omega arith) (omega arith) blocks lies in
      omega arith

  -- a commit finds the batch as it has to
  pub may-commit : (kept : List Numbered) → calls ≡ run_of kept → (t : Tables) → IsSomeAnd (look log.log.0 t.logs) (λ l. (l.live ≡ true) × (number ≡ l.batch + 1)) → MayCommit z t formed.sealed.batch formed.sealed.placed.pieces
  may-commit kept run t next = record {
    spelled = is.whole (at_least (look log.log.0 t.logs) next);
    pointers = pointers-fit z log number members calls basis formed is room size;
    some = some-piece z.servers z.fragment z.block log number members calls basis formed is given are;
    few = pieces-few kept run;
    within = pieces-fit z.servers z.fragment z.block log number members calls basis formed is given are z room;
    next = subst (λ (m : ℕ). IsSomeAnd (look formed.sealed.batch.log.0 t.logs) (λ l. (l.live ≡ true) × (m ≡ l.batch + 1))) (sym is.is_batch.numbered)
        (subst (λ (l : LogId). IsSomeAnd (look l.0 t.logs) (λ l. (l.live ≡ true) × (number ≡ l.batch + 1))) (sym is.is_batch.of_log) next);
  } where
    at_least : (o : Option LogState) → IsSomeAnd o (λ l. (l.live ≡ true) × (number ≡ l.batch + 1)) → 1 ≤ number
    at_least None n = absurd n
    at_least (Some l) n = let m = n.1 in omega arith
