-- A read is answered, and work that can't go on is given up.
use Rattle.std.proofs.Common.{◌≡◌, ℕ, suc, ◌+◌, true, false, List, [], ◌∷◌, ◌++◌, length, Option, Some, refl, sym, ap, ◌∙◌, subst, arith, None}
use Rattle.std.specs.Prelude.{take}
use Rattle.zb_types.specs.Apply.{is_update, reply_to}
use Rattle.zb_types.specs.declared.calls.Call.{Call}
use Rattle.zb_types.specs.declared.calls.Reply.{Reply}
use Rattle.zb_types.specs.declared.nodes.Cause.{Cause}
use Rattle.zb_types.specs.declared.lines.Outcome.{Outcome}
use Rattle.zb_types.specs.declared.lines.Outcome.TheVariants.{Call as OfCall}
use Rattle.zb_types.specs.declared.lines.Said.{Said}
use Rattle.zb_types.specs.declared.lines.Said.TheVariants as said
use Rattle.zb_claims.specs.Points.{call_of, is_final}
use Rattle.zb_claims.specs.Fits.{is_update_in}
use Rattle.zb_given.specs.Adds.{FitWith}
use Rattle.zb_given.specs.Batches.{AllUnfinished, unfinished_lines as lines_of}
use Rattle.zb_given.specs.Calls.{IsLookedUp, IsOpen, MayReply, tree_seen}
use Rattle.zb_given.specs.Given.{FitGiven, Given, calls_of, place_of, script_of}
use Rattle.zb_given.specs.Queues.{CallsStand, EndsNext, IsKeptFor}
use Rattle.zb_given.proofs.Adding.{adds_failed, adds_kept, adds_read}
use Rattle.zb_given.proofs.Batching.{ends_all, given_call}
use Rattle.zb_given.proofs.Crashing.{no_crash}
use Rattle.zb_given.proofs.Standing.{all_among, ends_queued, keeps_for, last_among}
use Rattle.zb_basis.specs.declared.calls.Numbered.{Numbered}
use Rattle.zb_work.specs.declared.work.Aim.{Aim}
use Rattle.zb_work.specs.declared.work.Aim.TheVariants.{Update, Read, Finish}
use Rattle.zb_work.specs.declared.work.Task.{Task}
use Rattle.zb_work.specs.Fitting.{AimFits}
use Rattle.zb_work.specs.Steps.{aim_of}
use Rattle.zb_client.specs.Seen.{SeenClient}
use Rattle.zb_client.specs.Telling.{answers_first, answers_read, ends_all as all_ended, gives_up, gives_up_aim, gives_up_for, unfinished_lines}
use Rattle.zb_line_laws.proofs.Taking.{no_work}
use Rattle.zb_line_laws.specs.Calls.{AimHas, AreGivenBehind, FitsAfter, HasItsCalls, IsCalm, numbers_of}

take-none : (xs : List Numbered) → take 0 xs ≡ []
take-none [] = refl
take-none (x ∷ xs) = refl

lines_same : (client : ℕ) (cause : Cause) (calls : List Numbered) → unfinished_lines client cause calls ≡ lines_of client cause (numbers_of calls)
lines_same client cause [] = refl
lines_same client cause (k ∷ ks) = ap (λ (ls : List Outcome). OfCall client k.number (said.Unfinished cause) ∷ ls) (lines_same client cause ks)

module _ (given : Given) (lines : List Outcome) (c : SeenClient) (fit : FitGiven given lines) (h : HasItsCalls given lines c) where
  abbrev Nums : List ℕ
  Nums = numbers_of c.kept

  -- a read is answered
  module _ (lined_is : h.lined ≡ h.taken) (read : Numbered) (rest : List Numbered) (queue : c.queue ≡ read ∷ rest) where
    stand : CallsStand given lines c.client Nums h.taken h.taken
    stand = subst (λ (n : ℕ). CallsStand given lines c.client Nums h.taken n) lined_is h.stand

    behind : AreGivenBehind given c.client h.taken (read ∷ rest)
    behind = subst (AreGivenBehind given c.client h.taken) queue h.queue

    all : h.taken + length (read ∷ rest) ≡ length (calls_of given c.client)
    all = subst (λ (q : List Numbered). h.taken + length q ≡ length (calls_of given c.client)) queue h.all

    number_is : read.number ≡ suc h.taken
    number_is = let e = behind.0 in omega (arith, e)

    given_next : call_of (script_of given) c.client (suc h.taken) ≡ Some read.call
    given_next = subst (λ (n : ℕ). call_of (script_of given) c.client n ≡ Some read.call) number_is behind.1

    ends : EndsNext given lines c.client Nums h.taken read.call
    ends = ends_queued given lines c.client Nums h.taken read.call given_next stand

    has : (what : Said) → is_final what ≡ true → HasItsCalls given (lines ++ OfCall c.client read.number what ∷ []) (answers_first c (read ∷ rest) what).client
    has what final = record {
      taken = suc h.taken;
      lined = suc h.taken;
      stand = subst (λ (n : ℕ). CallsStand given (lines ++ OfCall c.client n what ∷ []) c.client Nums (suc h.taken) (suc h.taken)) (sym number_is) (ends.stand what final);
      kept = h.kept;
      queue = subst (λ (n : ℕ). AreGivenBehind given c.client n rest) (let e : h.taken + 1 ≡ suc h.taken = omega arith in e) behind.2;
      all = let e : h.taken + suc (length rest) ≡ length (calls_of given c.client) = all in omega (arith, e);
      work = refl;
      finishing = λ e. absurd (no_work e);
    }

    answered : (what : Said) → FitWith given lines c.client read.number what → is_final what ≡ true → FitsAfter given lines (answers_read c what)
    answered what fits final = subst (λ (q : List Numbered). FitsAfter given lines (answers_first c q what)) (sym queue) (fits, has what final)

    pub replied : (at : ℕ) (reply : Reply) → c.kept ≡ [] → IsCalm lines → IsLookedUp given lines c.client (record { number = read.number; at = at }) read.call
        → reply ≡ reply_to (tree_seen given lines (record { number = read.number; at = at })) read.call → FitsAfter given lines (answers_read c (said.Reply reply))
    replied at reply none calm looked same =
        let may : MayReply given lines c.client (suc h.taken) = record { earlier = ends.earlier (ap numbers_of none); manager = no_crash (script_of given) lines (place_of given c.client (suc h.taken)) calm } in
        answered (said.Reply reply)
        (adds_read given lines c.client (record { number = read.number; at = at }) read.call reply fit looked (subst (MayReply given lines c.client) (sym number_is) may) same)
        refl

    pub failed : (cause : Cause) → is_update read.call ≡ false → FitsAfter given lines (answers_read c (said.Failed cause))
    failed cause is =
        answered (said.Failed cause)
        (adds_failed given lines c.client read.number read.call cause fit (subst (λ (n : ℕ). IsOpen given lines c.client n read.call) (sym number_is) ends.is_open) is)
        refl

  -- the commit that an update began can't go on
  module _ (number : ℕ) (aim : aim_of c.task ≡ Some (Update number)) where
    work : (number ≡ h.taken) × (h.taken ≡ h.lined + 1)
    work = subst (λ (a : Option Aim). AimHas a h.taken h.lined) aim h.work

    taken_is : h.taken ≡ suc h.lined
    taken_is = let e = work.1 in omega (arith, e)

    number_of : number ≡ suc h.lined
    number_of = work.0 ∙ taken_is

    open_stand : CallsStand given lines c.client Nums (suc h.lined) h.lined
    open_stand = subst (λ (n : ℕ). CallsStand given lines c.client Nums n h.lined) taken_is h.stand

    last : (call : Call) × (call_of (script_of given) c.client (suc h.lined) ≡ Some call)
    last =
        given_call given c.client (suc h.lined) (call_of (script_of given) c.client (suc h.lined)) refl
        (all_among (λ n. is_update_in (call_of (script_of given) c.client n) ≡ true) (suc h.lined) Nums (last_among given lines c.client Nums h.lined open_stand) open_stand.updates)

    stays : IsKeptFor given lines c.client Nums h.lined last.0
    stays = keeps_for given lines c.client Nums h.lined last.0 last.1 open_stand

    pub kept : (cause : Cause) → FitsAfter given lines (gives_up_aim c (Update number) cause)
    kept cause = subst (λ (n : ℕ). FitsAfter given lines (gives_up_aim c (Update n) cause)) (sym number_of) (
      adds_kept given lines c.client (suc h.lined) last.0 cause fit stays.is_open stays.fits,
      record {
        taken = suc h.lined;
        lined = suc h.lined;
        stand = stays.stand cause;
        kept = h.kept;
        queue = subst (λ (n : ℕ). AreGivenBehind given c.client n c.queue) taken_is h.queue;
        all = subst (λ (n : ℕ). n + length c.queue ≡ length (calls_of given c.client)) taken_is h.all;
        work = refl;
        finishing = λ e. absurd (no_work e);
      },
    )

  -- a finish can't go on
  module _ (finishes : aim_of c.task ≡ Some Finish) (cause : Cause) where
    all_lined : h.lined ≡ h.taken
    all_lined = subst (λ (a : Option Aim). AimHas a h.taken h.lined) finishes h.work

    ended : AllUnfinished given lines c.client cause Nums h.taken
    ended = ends_all given lines c.client cause Nums h.taken fit (subst (λ (n : ℕ). CallsStand given lines c.client Nums h.taken n) all_lined h.stand) (h.finishing finishes)

    abbrev Left : List Numbered → List Outcome → Type 0
    Left kept more = FitGiven given (lines ++ more) × HasItsCalls given (lines ++ more) (record (all_ended c cause).client { kept = kept })

    left : Left [] (lines_of c.client cause Nums)
    left = (
      ended.fits,
      record {
        taken = h.taken;
        lined = h.taken;
        stand = ended.stand;
        kept = tt;
        queue = h.queue;
        all = h.all;
        work = refl;
        finishing = λ e. absurd (no_work e);
      },
    )

    pub finished : c.doubted ≡ 0 → FitsAfter given lines (all_ended c cause)
    finished settled =
        subst (λ (kept : List Numbered). Left kept (unfinished_lines c.client cause c.kept)) (sym (ap (λ (n : ℕ). take n c.kept) settled ∙ take-none c.kept))
        (subst (Left []) (sym (lines_same c.client cause c.kept)) left)

-- where nothing is kept, no commit is at work
all_have : (aim : Option Aim) (calls queue : List Numbered) (taken lined : ℕ) → calls ≡ [] → AimFits calls queue aim → AimHas aim taken lined → lined ≡ taken
all_have None calls queue taken lined none fits h = h
all_have (Some (Update number)) [] queue taken lined none fits h = absurd (cc fits)
all_have (Some (Update number)) (k ∷ ks) queue taken lined none fits h = absurd (cc none)
all_have (Some Read) calls queue taken lined none fits h = h
all_have (Some Finish) calls queue taken lined none fits h = h

pub read_replied : (given : Given) (lines : List Outcome) (c : SeenClient) (read : Numbered) (rest : List Numbered) (at : ℕ) (reply : Reply)
    → FitGiven given lines → HasItsCalls given lines c → IsCalm lines → AimFits c.kept c.queue (aim_of c.task) → c.queue ≡ read ∷ rest → c.kept ≡ []
    → IsLookedUp given lines c.client (record { number = read.number; at = at }) read.call
    → reply ≡ reply_to (tree_seen given lines (record { number = read.number; at = at })) read.call → FitsAfter given lines (answers_read c (said.Reply reply))
read_replied given lines c read rest at reply fit h calm aim queue none looked same =
    replied given lines c fit h (all_have (aim_of c.task) c.kept c.queue h.taken h.lined none aim h.work) read rest queue at reply none calm looked same

-- ---- the work that is given up

pub given_up_update : (given : Given) (lines : List Outcome) (c : SeenClient) (task : Task) (number : ℕ) (cause : Cause)
    → FitGiven given lines → HasItsCalls given lines c → c.task ≡ Some task → task.aim ≡ Update number → FitsAfter given lines (gives_up c cause)
given_up_update given lines c task number cause fit h is aim =
    subst (λ (t : Option Task). FitsAfter given lines (gives_up_for c t cause)) (sym is)
    (subst (λ (a : Aim). FitsAfter given lines (gives_up_aim c a cause)) (sym aim) (kept given lines c fit h number (ap aim_of is ∙ ap Some aim) cause))

pub given_up_read : (given : Given) (lines : List Outcome) (c : SeenClient) (task : Task) (read : Numbered) (rest : List Numbered) (cause : Cause)
    → FitGiven given lines → HasItsCalls given lines c → c.task ≡ Some task → task.aim ≡ Read → c.queue ≡ read ∷ rest → is_update read.call ≡ false → FitsAfter given lines (gives_up c cause)
given_up_read given lines c task read rest cause fit h is aim queue reads =
    subst (λ (t : Option Task). FitsAfter given lines (gives_up_for c t cause)) (sym is)
    (subst (λ (a : Aim). FitsAfter given lines (gives_up_aim c a cause)) (sym aim) (failed given lines c fit h (subst (λ (a : Option Aim). AimHas a h.taken h.lined) (ap aim_of is ∙ ap Some aim) h.work) read rest queue cause reads))

pub given_up_finish : (given : Given) (lines : List Outcome) (c : SeenClient) (task : Task) (cause : Cause)
    → FitGiven given lines → HasItsCalls given lines c → c.task ≡ Some task → task.aim ≡ Finish → c.doubted ≡ 0 → FitsAfter given lines (gives_up c cause)
given_up_finish given lines c task cause fit h is aim settled =
    subst (λ (t : Option Task). FitsAfter given lines (gives_up_for c t cause)) (sym is)
    (subst (λ (a : Aim). FitsAfter given lines (gives_up_aim c a cause)) (sym aim) (finished given lines c fit h (ap aim_of is ∙ ap Some aim) cause settled))
