-- What stays of a client's calls where more is given, and behind the lines of others.
use Rattle.std.proofs.Common.{◌≡◌, ℕ, suc, ◌+◌, true, false, List, [], ◌∷◌, ◌++◌, append-nil, length, length-append, sym, ap, ◌∙◌, arith, None, nat_le, subst, Option}
use Rattle.std.specs.List.{list_any, AllByRecursion}
use Rattle.std.proofs.lemmas.Grind.{flat_map-append}
use Rattle.zb_types.specs.declared.calls.Call.{Call}
use Rattle.zb_types.specs.declared.lines.Line.{Line}
use Rattle.zb_types.specs.declared.lines.Line.TheVariants.{Call as CallLine}
use Rattle.zb_types.specs.declared.lines.Outcome.{Outcome}
use Rattle.zb_claims.specs.Points.{is_of_client}
use Rattle.zb_given.specs.Given.{Given, Item, call_by, calls_of, with_finish, with_item}
use Rattle.zb_given.specs.Queues.{CallsStand}
use Rattle.zb_given.specs.Stays.{IsFresh}
use Rattle.std.proofs.lemmas.List.Folds.{list_any-append}
use Rattle.zb_laws.proofs.Tests.{or_left}
use Rattle.zb_given.proofs.Batching.{over_longer}
use Rattle.zb_given.proofs.Standing.{stand_finish, stand_given, stand_over}
use Rattle.zb_given.proofs.Staying.{call_stays, next_is_fresh}
use Rattle.zb_basis.specs.declared.calls.Numbered.{Numbered}
use Rattle.zb_client.specs.Seen.{SeenClient, unready}
use Rattle.zb_client_laws.specs.Effects.{SameCalls}
use Rattle.zb_work.specs.declared.work.Aim.{Aim}
use Rattle.zb_work.specs.declared.work.Aim.TheVariants.{Finish}
use Rattle.zb_work.specs.declared.work.Task.{Task}
use Rattle.zb_work.specs.Steps.{aim_of, new_task}
use Rattle.zb_line_laws.specs.Calls.{AimHas, AreGivenBehind, HasItsCalls, IsFinishing, IsGiven, numbers_of, queues}

pub beside : (given : Given) (lines more : List Outcome) (c : SeenClient) → list_any (is_of_client c.client) more ≡ false → HasItsCalls given lines c → HasItsCalls given (lines ++ more) c
beside given lines more c none h = record {
  taken = h.taken;
  lined = h.lined;
  stand = stand_over given lines more c.client (numbers_of c.kept) h.taken h.lined none h.stand;
  kept = h.kept;
  queue = h.queue;
  all = h.all;
  work = h.work;
  finishing = λ e. over_longer lines more given.finishes (h.finishing e);
}

pub finish : (given : Given) (lines : List Outcome) (at : ℕ) (c : SeenClient) → HasItsCalls given lines c → HasItsCalls (with_finish given at) lines c
finish given lines at c h = record {
  taken = h.taken;
  lined = h.lined;
  stand = stand_finish given lines at c.client (numbers_of c.kept) h.taken h.lined h.stand;
  kept = h.kept;
  queue = h.queue;
  all = h.all;
  work = h.work;
  finishing = λ e. list_any-append (λ k. nat_le k (length lines)) given.finishes (at ∷ []) ∙ or_left (list_any (λ k. nat_le k (length lines)) given.finishes) (list_any (λ k. nat_le k (length lines)) (at ∷ [])) (h.finishing e);
}

-- it begins
pub finishes : (given : Given) (lines : List Outcome) (c : SeenClient) → c.task ≡ None → IsFinishing given lines → HasItsCalls given lines c → HasItsCalls given lines (record (unready c) { task = new_task Finish })
finishes given lines c none over h = record {
  taken = h.taken;
  lined = h.lined;
  stand = h.stand;
  kept = h.kept;
  queue = h.queue;
  all = h.all;
  work = subst (λ (t : Option Task). AimHas (aim_of t) h.taken h.lined) none h.work;
  finishing = λ e. over;
}

pub quiet_step : (given : Given) (lines : List Outcome) (c d : SeenClient) → SameCalls c d → HasItsCalls given lines c → HasItsCalls given lines d
quiet_step given lines c d same h = record {
  taken = h.taken;
  lined = h.lined;
  stand =
      subst (λ (n : ℕ). CallsStand given lines n (numbers_of d.kept) h.taken h.lined) (sym same.client)
      (subst (λ (ks : List Numbered). CallsStand given lines c.client (numbers_of ks) h.taken h.lined) (sym same.kept) h.stand);
  kept =
      subst (λ (n : ℕ). AllByRecursion (IsGiven given n) d.kept) (sym same.client)
      (subst (λ (ks : List Numbered). AllByRecursion (IsGiven given c.client) ks) (sym same.kept) h.kept);
  queue =
      subst (λ (n : ℕ). AreGivenBehind given n h.taken d.queue) (sym same.client)
      (subst (λ (ks : List Numbered). AreGivenBehind given c.client h.taken ks) (sym same.queue) h.queue);
  all = ap (λ (ks : List Numbered). h.taken + length ks) same.queue ∙ h.all ∙ ap (λ (n : ℕ). length (calls_of given n)) (sym same.client);
  work = subst (λ (a : Option Aim). AimHas a h.taken h.lined) (sym same.aim) h.work;
  finishing = λ e. h.finishing (sym same.aim ∙ e);
}

module _ (given : Given) (line : Line) (at client : ℕ) where
  abbrev More : Given
  More = with_item given line at

  kept_stay : (calls : List Numbered) → AllByRecursion (IsGiven given client) calls → AllByRecursion (IsGiven More client) calls
  kept_stay [] all = tt
  kept_stay (k ∷ ks) all = ((call_stays given line at client k.number k.call all.0).is, kept_stay ks all.1)

  queue_stays : (n : ℕ) (calls : List Numbered) → AreGivenBehind given client n calls → AreGivenBehind More client n calls
  queue_stays n [] all = tt
  queue_stays n (k ∷ ks) all = (all.0, (call_stays given line at client k.number k.call all.1).is, queue_stays (n + 1) ks all.2)

  own_more : calls_of More client ≡ calls_of given client ++ call_by client line
  own_more =
      flat_map-append (λ (item : Item). call_by client item.line) given.items (record { line = line; at = at } ∷ [])
      ∙ ap (λ (l : List Call). calls_of given client ++ l) (append-nil (call_by client line))

pub others : (given : Given) (lines : List Outcome) (line : Line) (at : ℕ) (c : SeenClient) → call_by c.client line ≡ [] → HasItsCalls given lines c → HasItsCalls (with_item given line at) lines c
others given lines line at c none h = record {
  taken = h.taken;
  lined = h.lined;
  stand = stand_given given lines line at c.client (numbers_of c.kept) h.taken h.lined h.stand;
  kept = kept_stay given line at c.client c.kept h.kept;
  queue = queue_stays given line at c.client h.taken c.queue h.queue;
  all = h.all ∙ ap length (sym (own_more given line at c.client ∙ ap (λ (l : List Call). calls_of given c.client ++ l) none ∙ append-nil (calls_of given c.client)));
  work = h.work;
  finishing = h.finishing;
}

pushed : (given : Given) (client n : ℕ) (calls : List Numbered) (last : Numbered) → AreGivenBehind given client n calls → last.number ≡ suc (n + length calls) → IsGiven given client last → AreGivenBehind given client n (calls ++ last ∷ [])
pushed given client n [] last all number is = ((let e = number in omega (arith, e)), is, tt)
pushed given client n (k ∷ ks) last all number is =
    (all.0, all.1, pushed given client (n + 1) ks last all.2 (let e : last.number ≡ suc (n + suc (length ks)) = number in omega (arith, e)) is)

pub own : (given : Given) (lines : List Outcome) (call : Call) (at : ℕ) (c : SeenClient) → HasItsCalls given lines c → HasItsCalls (with_item given (CallLine true c.client call) at) lines (queues given c call)
own given lines call at c h =
    let line : Line = CallLine true c.client call in
    let fresh : IsFresh given c.client call at = next_is_fresh given c.client call at in
    let last : Numbered = record { number = suc (length (calls_of given c.client)); call = call } in
    record {
      taken = h.taken;
      lined = h.lined;
      stand = stand_given given lines line at c.client (numbers_of c.kept) h.taken h.lined h.stand;
      kept = kept_stay given line at c.client c.kept h.kept;
      queue = pushed (with_item given line at) c.client h.taken c.queue last (queue_stays given line at c.client h.taken c.queue h.queue) (ap suc (sym h.all)) fresh.is;
      all = let a = length-append c.queue (last ∷ []) in let b = ap length fresh.own in let d = length-append (calls_of given c.client) (call ∷ []) in let e = h.all in omega (arith, a, b, d, e);
      work = h.work;
      finishing = h.finishing;
    }
