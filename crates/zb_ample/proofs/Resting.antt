-- Steps of a client that leave its log where it is.
use Rattle.std.proofs.Common.{◌≡◌, ℕ, ◌≤◌, ◌&&◌, true, false, Bool, List, [], ◌∷◌, ◌++◌, append_assoc, length, take, drop, Option, Some, None, refl, sym, ap, ◌∙◌, subst, arith, inl, inr}
use Rattle.std.specs.Prelude.{◌⊎◌, IfSome, if◌then◌else◌, nat_lt}
use Rattle.std.specs.Bool.{MatchBool}
use Rattle.std.proofs.lemmas.Bool.{true≢false}
use Rattle.std.proofs.lemmas.List.Sums.{sum_by-cons, sum_by-take-le}
use Rattle.zb_types.specs.declared.geometry.Geometry.{Geometry}
use Rattle.zb_types.specs.declared.ids.Ptr.{Ptr}
use Rattle.zb_types.specs.declared.lines.Said.{Said}
use Rattle.zb_types.specs.declared.lines.Said.TheVariants as said
use Rattle.zb_types.specs.declared.nodes.Cause.{Cause}
use Rattle.zb_types.specs.declared.nodes.Cause.TheVariants.{Unreachable}
use Rattle.zb_types.specs.Apply.{is_bufferable, is_update}
use Rattle.zb_types.specs.Limits.{most_kept}
use Rattle.zb_stripe.specs.declared.read_plan.Got.{Got}
use Rattle.zb_stripe.specs.declared.read_plan.Got.TheVariants as got
use Rattle.zb_stripe.specs.Reading.{Reading, start}
use Rattle.zb_log.specs.Logs.{SeenLog}
use Rattle.zb_basis.specs.declared.basis.Basis.{Basis}
use Rattle.zb_basis.specs.declared.calls.Numbered.{Numbered}
use Rattle.zb_basis.specs.Forming.{readers_out}
use Rattle.zb_work.specs.declared.work.Aim.{Aim}
use Rattle.zb_work.specs.declared.work.Aim.TheVariants.{Finish, Read, Update}
use Rattle.zb_work.specs.declared.work.Flushed.{Flushed}
use Rattle.zb_work.specs.declared.work.Step.{Step}
use Rattle.zb_work.specs.declared.work.Step.TheVariants.{Commit, Fetch, Lookup, Mark, Store}
use Rattle.zb_work.specs.declared.work.Task.{Task}
use Rattle.zb_work.specs.Steps.{aim_of, first_members, new_task, next_task, step_of, with_step}
use Rattle.zb_client.specs.Hearing.{Forms, GoesOn, GoesOnAt, HasAll, HearsGot, RepliesFirst, caches, is_whole, keeps, takes_first, with_block}
use Rattle.zb_client.specs.Seen.{SeenClient, at_step, leaves}
use Rattle.zb_client.specs.Telling.{Heard, answers_first, gives_up, gives_up_aim, gives_up_for, line, looks_anew, silent, tells}
use Rattle.zb_ample.specs.Reaching.{LogGoesOn, ahead_at, load, numbered_loads, reached_at}
use Rattle.zb_ample.proofs.Paying.{loads_both}

-- no batch is stored at this step, nor is a server to be marked
abbrev pub is_resting : Step → Bool
is_resting Lookup = true
is_resting (Fetch basis at ptr plan) = true
is_resting (Store basis formed) = false
is_resting (Mark server of) = false
is_resting (Commit basis sealed) = false

-- the last flush, if there is one, has reached its end
abbrev pub HasEnded : ℕ → Option Flushed → Type 0
HasEnded generation flushed = IfSome flushed (λ last. (last.ended ≡ true) × (last.generation ≡ generation))

pub resting_reached : (log : SeenLog) (st : Step) → is_resting st ≡ true → reached_at log st ≡ log.next
resting_reached log Lookup e = refl
resting_reached log (Fetch basis at ptr plan) e = refl
resting_reached log (Store basis formed) e = absurd (true≢false (sym e))
resting_reached log (Mark server of) e = refl
resting_reached log (Commit basis sealed) e = refl

pub resting_ahead : (kept queue : List Numbered) (st : Step) → is_resting st ≡ true → ahead_at kept queue st ≡ kept ++ queue
resting_ahead kept queue Lookup e = refl
resting_ahead kept queue (Fetch basis at ptr plan) e = refl
resting_ahead kept queue (Store basis formed) e = absurd (true≢false (sym e))
resting_ahead kept queue (Mark server of) e = refl
resting_ahead kept queue (Commit basis sealed) e = absurd (true≢false (sym e))

pub resting_ended : (generation : ℕ) (flushed : Option Flushed) (st : Step) → is_resting st ≡ true → LogGoesOn generation flushed st → HasEnded generation flushed
resting_ended generation flushed Lookup e ended = ended
resting_ended generation flushed (Fetch basis at ptr plan) e ended = ended
resting_ended generation flushed (Store basis formed) e ended = absurd (true≢false (sym e))
resting_ended generation flushed (Mark server of) e ended = ended
resting_ended generation flushed (Commit basis sealed) e ended = ended

pub resting_goes : (generation : ℕ) (flushed : Option Flushed) (st : Step) → HasEnded generation flushed → LogGoesOn generation flushed st
resting_goes generation flushed Lookup ended = ended
resting_goes generation flushed (Fetch basis at ptr plan) ended = ended
resting_goes generation flushed (Store basis formed) ended = tt
resting_goes generation flushed (Mark server of) ended = ended
resting_goes generation flushed (Commit basis sealed) ended = ended

at_new : (st : Step) (task : Option Task) → is_resting st ≡ true → is_resting (step_of (with_step st task)) ≡ true
at_new st None e = refl
at_new st (Some task) e = e

module _ (geo : Geometry) where
  abbrev Both : SeenClient → ℕ
  Both c = numbered_loads geo (c.kept ++ c.queue)

  -- the log is where it was, and no call more is ahead; no batch is stored
  pub record Rests (c d : SeenClient) : Type 0 where
    pub log : d.log ≡ c.log
    pub client : d.client ≡ c.client
    pub flushed : d.flushed ≡ c.flushed
    pub step : is_resting (step_of d.task) ≡ true
    pub less : Both d ≤ Both c

  -- ---- a read is answered

  answered_less : (c : SeenClient) (queue : List Numbered) → c.queue ≡ queue → (read : Numbered) (rest : List Numbered) → queue ≡ read ∷ rest → numbered_loads geo (c.kept ++ rest) ≤ Both c
  answered_less c queue e read rest is =
      let whole = loads_both geo c.kept c.queue in
      let part = loads_both geo c.kept rest in
      let all = ap (numbered_loads geo) (e ∙ is) in
      omega (arith, whole, part, all, sum_by-cons (λ (k : Numbered). load geo k.call) read rest)

  pub answers_rest : (c : SeenClient) (queue : List Numbered) (what : Said) → c.queue ≡ queue → Rests c (answers_first c queue what).client
  answers_rest c [] what e = record { log = refl; client = refl; flushed = refl; step = refl; less = omega arith }
  answers_rest c (read ∷ rest) what e = record { log = refl; client = refl; flushed = refl; step = refl; less = answered_less c (read ∷ rest) e read rest refl }

  -- ---- the work is given up

  ended_less : (c : SeenClient) → numbered_loads geo (take c.doubted c.kept ++ c.queue) ≤ Both c
  ended_less c =
      let whole = loads_both geo c.kept c.queue in
      let part = loads_both geo (take c.doubted c.kept) c.queue in
      let few = sum_by-take-le (λ (k : Numbered). load geo k.call) c.kept c.doubted in
      omega (arith, whole, part, few)

  aim_rests : (c : SeenClient) (aim : Aim) (cause : Cause) → Rests c (gives_up_aim c aim cause).client
  aim_rests c (Update number) cause = record { log = refl; client = refl; flushed = refl; step = refl; less = omega arith }
  aim_rests c Read cause = answers_rest c c.queue (said.Failed cause) refl
  aim_rests c Finish cause = record { log = refl; client = refl; flushed = refl; step = refl; less = ended_less c }

  up_rests : (c : SeenClient) (task : Option Task) (cause : Cause) → c.task ≡ task → Rests c (gives_up_for c task cause).client
  up_rests c None cause e = record { log = refl; client = refl; flushed = refl; step = ap (λ (t : Option Task). is_resting (step_of t)) e; less = omega arith }
  up_rests c (Some task) cause e = aim_rests c task.aim cause

  -- ---- a call is taken

  module _ (c : SeenClient) (none : c.task ≡ None) where
    at_none : is_resting (step_of c.task) ≡ true
    at_none = ap (λ (t : Option Task). is_resting (step_of t)) none

    module _ (call : Numbered) (rest : List Numbered) (e : c.queue ≡ call ∷ rest) where
      abbrev Kept : SeenClient
      Kept = record c { kept = c.kept ++ call ∷ []; queue = rest }

      moved : Both Kept ≡ Both c
      moved = ap (numbered_loads geo) (append_assoc c.kept (call ∷ []) rest ∙ ap (λ (q : List Numbered). c.kept ++ q) (sym e))

      kept_by : (few : Bool) → Rests c (if few then tells Kept (line Kept call.number said.Buffered ∷ []) else silent (record Kept { task = new_task (Update call.number) })).client
      kept_by true = record { log = refl; client = refl; flushed = refl; step = at_none; less = let m = moved in omega (arith, m) }
      kept_by false = record { log = refl; client = refl; flushed = refl; step = refl; less = let m = moved in omega (arith, m) }

      taken_by : (update : Bool) → Rests c (if update then keeps Kept call else silent (record c { task = new_task Read })).client
      taken_by true = kept_by (is_bufferable call.call && nat_lt (length Kept.kept) most_kept)
      taken_by false = record { log = refl; client = refl; flushed = refl; step = refl; less = omega arith }

    pub taken_rests : (queue : List Numbered) → c.queue ≡ queue → Rests c (takes_first c queue).client
    taken_rests [] e = record { log = refl; client = refl; flushed = refl; step = at_none; less = omega arith }
    taken_rests (call ∷ rest) e = taken_by call rest e (is_update call.call)

  -- ---- the work goes on with what is there

  step_rests : (c : SeenClient) (st : Step) → is_resting st ≡ true → Rests c (silent (at_step c st)).client
  step_rests c st e = record { log = refl; client = refl; flushed = refl; step = at_new st c.task e; less = omega arith }

  -- it rests, or the next batch of the kept calls is formed
  pub record RestsOrForms (c : SeenClient) (basis : Basis) (heard : Heard) : Type 0 where
    pub either : Rests c heard.client ⊎ Forms c basis heard

  replied : (c : SeenClient) (basis : Basis) (queue : List Numbered) (heard : Heard) → RepliesFirst c basis queue heard → Rests c heard.client
  replied c basis [] heard h = absurd h
  replied c basis (read ∷ rest) heard h = subst (λ (x : Heard). Rests c x.client) (sym h.is) (answers_rest c c.queue (said.Reply h.reply) refl)

  has_all : (c : SeenClient) (basis : Basis) (kept : List Numbered) (heard : Heard) → HasAll c basis kept heard → RestsOrForms c basis heard
  has_all c basis [] heard h = record { either = inl (replied c basis c.queue heard h) }
  has_all c basis (first ∷ others) heard h = record { either = inr h }

  goes_at : (c : SeenClient) (basis : Basis) (missing : Option (ℕ × Ptr)) (heard : Heard) → GoesOnAt c basis missing heard → RestsOrForms c basis heard
  goes_at c basis None heard h = has_all c basis c.kept heard h
  goes_at c basis (Some (at, ptr)) heard h =
      record { either = inl (subst (λ (x : Heard). Rests c x.client) (sym h) (step_rests c (Fetch basis at ptr (start c.servers c.fragment ptr (readers_out (first_members basis.found).state))) refl)) }

  pub goes_on : (c : SeenClient) (basis : Basis) (heard : Heard) → GoesOn c basis heard → RestsOrForms c basis heard
  goes_on c basis heard h = goes_at c basis _ heard h

  -- ---- a block is read

  anew : (c : SeenClient) (heard : Heard) → heard ≡ looks_anew c → Rests c heard.client
  anew c heard e = subst (λ (x : Heard). Rests c x.client) (sym e) (step_rests c Lookup refl)

  unreached : (c : SeenClient) (again : Bool) (cause : Cause) → Rests c (if again then looks_anew c else gives_up c cause).client
  unreached c true cause = step_rests c Lookup refl
  unreached c false cause = up_rests c c.task cause refl

  whole_or : (c : SeenClient) (basis : Basis) (at : ℕ) (ptr : Ptr) (bytes : List ℕ) (whole : Bool) (heard : Heard)
      → MatchBool whole (GoesOn (caches c ptr bytes) (with_block basis at ptr bytes) heard) (heard ≡ looks_anew c)
      → Rests c heard.client ⊎ Forms (caches c ptr bytes) (with_block basis at ptr bytes) heard
  whole_or c basis at ptr bytes true heard h = by (goes_on (caches c ptr bytes) (with_block basis at ptr bytes) heard h).either where
    by : Rests (caches c ptr bytes) heard.client ⊎ Forms (caches c ptr bytes) (with_block basis at ptr bytes) heard → Rests c heard.client ⊎ Forms (caches c ptr bytes) (with_block basis at ptr bytes) heard
    by (inl r) = inl (record { log = r.log; client = r.client; flushed = r.flushed; step = r.step; less = r.less })
    by (inr f) = inr f
  whole_or c basis at ptr bytes false heard h = inl (anew c heard h)

  -- the batch is formed once these bytes have come
  pub record FormsWith (c : SeenClient) (basis : Basis) (heard : Heard) : Type 0 where
    pub at : ℕ
    pub ptr : Ptr
    pub bytes : List ℕ
    pub forms : Forms (caches c ptr bytes) (with_block basis at ptr bytes) heard

  pub got_rests : (c : SeenClient) (basis : Basis) (at : ℕ) (ptr : Ptr) (plan : Reading) (serving : ℕ) (came : Got) (heard : Heard) → HearsGot c basis at ptr plan serving came heard
      → Rests c heard.client ⊎ FormsWith c basis heard
  got_rests c basis at ptr plan serving got.More heard h = inl (subst (λ (x : Heard). Rests c x.client) (sym h) (step_rests c (Fetch basis at ptr plan) refl))
  got_rests c basis at ptr plan serving (got.Bytes bytes) heard h = by (whole_or c basis at ptr bytes (is_whole ptr bytes) heard h) where
    by : Rests c heard.client ⊎ Forms (caches c ptr bytes) (with_block basis at ptr bytes) heard → Rests c heard.client ⊎ FormsWith c basis heard
    by (inl r) = inl r
    by (inr f) = inr (record { at = at; ptr = ptr; bytes = bytes; forms = f })
  got_rests c basis at ptr plan serving (got.Unreachable a b) heard h =
      inl (subst (λ (x : Heard). Rests c x.client) (sym h) (unreached c _ (Unreachable a b)))
  got_rests c basis at ptr plan serving got.Gone heard h = inl (anew c heard h)
  got_rests c basis at ptr plan serving (got.Old now) heard h = inl (anew c heard h)

  -- ---- a batch is committed, or outdated

  pub leaving_rests : (c : SeenClient) (n : ℕ) → is_resting (step_of (leaves c n).task) ≡ true
  leaving_rests c n = by (aim_of c.task) (nat_lt 0 (length (drop n c.kept))) where
    by : (aim : Option Aim) (some : Bool) → is_resting (step_of (next_task aim some)) ≡ true
    by None true = refl
    by None false = refl
    by (Some (Update number)) true = refl
    by (Some (Update number)) false = refl
    by (Some Read) true = refl
    by (Some Read) false = refl
    by (Some Finish) true = refl
    by (Some Finish) false = refl
