-- A read at work is of a queued call.
use Rattle.std.proofs.Common.{◌≡◌, ℕ, ◌<◌, ◌&&◌, true, false, Bool, List, [], ◌∷◌, ◌++◌, length, drop, Option, Some, None, refl, sym, ap, ◌∙◌, subst, arith, inl, inr}
use Rattle.std.specs.Prelude.{if◌then◌else◌, nat_lt}
use Rattle.std.proofs.lemmas.Option.{none-some}
use Rattle.zb_types.specs.declared.lines.Said.{Said}
use Rattle.zb_types.specs.declared.lines.Said.TheVariants as said
use Rattle.zb_types.specs.Apply.{is_bufferable, is_update}
use Rattle.zb_types.specs.Limits.{most_kept}
use Rattle.zb_types.specs.Tree.{Tree}
use Rattle.zb_basis.specs.declared.calls.Numbered.{Numbered}
use Rattle.zb_work.specs.declared.work.Aim.{Aim}
use Rattle.zb_work.specs.declared.work.Aim.TheVariants.{Finish, Read, Update}
use Rattle.zb_work.specs.Fitting.{AimFits, BeginsRead}
use Rattle.zb_work.specs.Steps.{aim_of, new_task, next_task}
use Rattle.zb_client.specs.Hearing.{keeps, takes_first}
use Rattle.zb_client.specs.Seen.{SeenClient, leaves}
use Rattle.zb_client.specs.Telling.{Heard, answers_first, line, silent, tells}
use Rattle.zb_client_laws.specs.Effects.{SameCalls, TellsNothing, TellsRight}
use Rattle.zb_ample.specs.Turning.{ReadsFirst}

none_is : (c : SeenClient) → c.task ≡ None → ReadsFirst c
none_is c none e = absurd (none-some Read (sym (ap aim_of none) ∙ e))

-- what the work is for tells it
some_queued : (queue : List Numbered) → BeginsRead queue → 0 < length queue
some_queued [] h = absurd h
some_queued (read ∷ rest) h = omega arith

pub fits_first : (c : SeenClient) → AimFits c.kept c.queue (aim_of c.task) → ReadsFirst c
fits_first c fits e = some_queued c.queue (subst (AimFits c.kept c.queue) e fits)

-- the calls and what the work is for are the same
pub same_first : (c d : SeenClient) → SameCalls c d → ReadsFirst c → ReadsFirst d
same_first c d same first e = subst (λ (q : List Numbered). 0 < length q) (sym same.queue) (first (sym same.aim ∙ e))

answered_first : (c : SeenClient) (queue : List Numbered) (what : Said) → ReadsFirst (answers_first c queue what).client
answered_first c [] what e = absurd (none-some Read e)
answered_first c (read ∷ rest) what e = absurd (none-some Read e)

pub quiet_first : (c : SeenClient) (heard : Heard) → TellsNothing c heard → ReadsFirst c → ReadsFirst heard.client
quiet_first c heard quiet first = same_first c heard.client quiet.same first

pub right_first : (seen : Tree) (c : SeenClient) (heard : Heard) → TellsRight seen c heard → ReadsFirst c → ReadsFirst heard.client
right_first seen c heard (inl quiet) first = quiet_first c heard quiet first
right_first seen c heard (inr (d, answers)) first = subst (λ (h : Heard). ReadsFirst h.client) (sym answers.is) (answered_first d d.queue (said.Reply answers.reply))

-- ---- a call is taken
module _ (c : SeenClient) (none : c.task ≡ None) where
  kept_first : (d : SeenClient) (n : ℕ) → d.task ≡ None → (few : Bool) → ReadsFirst (if few then tells d (line d n said.Buffered ∷ []) else silent (record d { task = new_task (Update n) })).client
  kept_first d n idle true e = absurd (none-some Read (sym (ap aim_of idle) ∙ e))
  kept_first d n idle false e = absurd (cc e)

  pub taken_first : (queue : List Numbered) → c.queue ≡ queue → ReadsFirst (takes_first c queue).client
  taken_first [] e = none_is c none
  taken_first (call ∷ rest) e = by (is_update call.call) where
    Kept : SeenClient
    Kept = record c { kept = c.kept ++ call ∷ []; queue = rest }

    by : (update : Bool) → ReadsFirst (if update then keeps Kept call else silent (record c { task = new_task Read })).client
    by true = kept_first Kept call.number none (is_bufferable call.call && nat_lt (length Kept.kept) most_kept)
    by false = λ _. subst (λ (q : List Numbered). 0 < length q) (sym e) (omega arith)

-- ---- a batch is committed
pub leaves_first : (c : SeenClient) (n : ℕ) → ReadsFirst c → ReadsFirst (record (leaves c n) { is_ready = false })
leaves_first c n first = by (aim_of c.task) refl (nat_lt 0 (length (drop n c.kept))) where
  by : (aim : Option Aim) → aim_of c.task ≡ aim → (some : Bool) → aim_of (next_task aim some) ≡ Some Read → 0 < length c.queue
  by None e true is = absurd (none-some Read is)
  by None e false is = absurd (none-some Read is)
  by (Some (Update number)) e true is = absurd (cc is)
  by (Some (Update number)) e false is = absurd (none-some Read is)
  by (Some Read) e true is = first e
  by (Some Read) e false is = first e
  by (Some Finish) e true is = absurd (cc is)
  by (Some Finish) e false is = absurd (none-some Read is)
