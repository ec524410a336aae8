-- What the steps of clients in turn tell.
use Rattle.std.proofs.Common.{◌≡◌, ℕ, ◌&&◌, true, false, Bool, List, [], ◌∷◌, ◌++◌, length, refl, sym, subst, inl, inr}
use Rattle.std.specs.Prelude.{if◌then◌else◌, nat_lt}
use Rattle.std.specs.List.{AllByRecursion}
use Rattle.zb_types.specs.declared.calls.Reply.{Reply}
use Rattle.zb_types.specs.declared.lines.Said.TheVariants as said
use Rattle.zb_types.specs.Apply.{is_bufferable, is_update}
use Rattle.zb_types.specs.Limits.{most_kept}
use Rattle.zb_types.specs.Tree.{Tree}
use Rattle.zb_headline.specs.Complete.{is_replied}
use Rattle.zb_tables.specs.Tables.{Tables}
use Rattle.zb_basis.specs.declared.calls.Numbered.{Numbered}
use Rattle.zb_work.specs.declared.work.Aim.TheVariants.{Read, Update}
use Rattle.zb_work.specs.declared.work.Step.TheVariants.{Lookup}
use Rattle.zb_work.specs.Steps.{new_task, step_of}
use Rattle.zb_client.specs.declared.steps.Told.{Told}
use Rattle.zb_client.specs.Hearing.{keeps, takes_first}
use Rattle.zb_client.specs.Seen.{SeenClient}
use Rattle.zb_client.specs.Telling.{Heard, answers_first, line, reply_lines, silent, tells}
use Rattle.zb_client_laws.specs.Effects.{TellsNothing, TellsRight}
use Rattle.zb_line_laws.specs.Calls.{lines_in}
use Rattle.zb_progress.specs.Fresh.{is_fresh}
use Rattle.zb_ample.proofs.Freshly.{lookup_fresh}

-- each line is a reply, or says that a call is buffered
abbrev pub AreReplied : Told → Type 0
AreReplied told = AllByRecursion (λ line. is_replied line ≡ true) (lines_in told)

pub quiet_replied : (c : SeenClient) (heard : Heard) → TellsNothing c heard → AreReplied heard.told
quiet_replied c heard quiet = subst AreReplied (sym quiet.told) tt

answers_replied : (c : SeenClient) (queue : List Numbered) (reply : Reply) → AreReplied (answers_first c queue (said.Reply reply)).told
answers_replied c [] reply = tt
answers_replied c (read ∷ rest) reply = (refl, tt)

pub right_replied : (seen : Tree) (c : SeenClient) (heard : Heard) → TellsRight seen c heard → AreReplied heard.told
right_replied seen c heard (inl quiet) = quiet_replied c heard quiet
right_replied seen c heard (inr (d, answers)) = subst (λ (h : Heard). AreReplied h.told) (sym answers.is) (answers_replied d d.queue answers.reply)

pub commit_replied : (client : ℕ) (calls : List Numbered) (replies : List Reply) → AllByRecursion (λ line. is_replied line ≡ true) (reply_lines client calls replies)
commit_replied client [] replies = tt
commit_replied client (call ∷ calls) [] = tt
commit_replied client (call ∷ calls) (reply ∷ replies) = (refl, commit_replied client calls replies)

-- ---- a call is taken
module _ (c : SeenClient) (none : step_of c.task ≡ Lookup) where
  kept_told : (d : SeenClient) (n : ℕ) (few : Bool) → AreReplied (if few then tells d (line d n said.Buffered ∷ []) else silent (record d { task = new_task (Update n) })).told
  kept_told d n true = (refl, tt)
  kept_told d n false = tt

  pub taken_replied : (queue : List Numbered) → AreReplied (takes_first c queue).told
  taken_replied [] = tt
  taken_replied (call ∷ rest) = by (is_update call.call) where
    Kept : SeenClient
    Kept = record c { kept = c.kept ++ call ∷ []; queue = rest }

    by : (update : Bool) → AreReplied (if update then keeps Kept call else silent (record c { task = new_task Read })).told
    by true = kept_told Kept call.number (is_bufferable call.call && nat_lt (length Kept.kept) most_kept)
    by false = tt

  kept_step : (d : SeenClient) (n : ℕ) (few : Bool) → step_of d.task ≡ Lookup → step_of (if few then tells d (line d n said.Buffered ∷ []) else silent (record d { task = new_task (Update n) })).client.task ≡ Lookup
  kept_step d n true e = e
  kept_step d n false e = refl

  taken_step : (queue : List Numbered) → step_of (takes_first c queue).client.task ≡ Lookup
  taken_step [] = none
  taken_step (call ∷ rest) = by (is_update call.call) where
    Kept : SeenClient
    Kept = record c { kept = c.kept ++ call ∷ []; queue = rest }

    by : (update : Bool) → step_of (if update then keeps Kept call else silent (record c { task = new_task Read })).client.task ≡ Lookup
    by true = kept_step Kept call.number (is_bufferable call.call && nat_lt (length Kept.kept) most_kept) none
    by false = refl

  pub taken_fresh : (t : Tables) (queue : List Numbered) → is_fresh t (takes_first c queue).client ≡ true
  taken_fresh t queue = lookup_fresh t (takes_first c queue).client (taken_step queue)
