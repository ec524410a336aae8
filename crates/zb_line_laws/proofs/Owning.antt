-- The lines that a client tells are its own.
use Rattle.std.proofs.Common.{◌≡◌, ℕ, Bool, true, false, List, [], ◌∷◌, ◌++◌, Option, Some, None, refl, ap, ◌∙◌}
use Rattle.std.specs.Prelude.{◌==◌, ◌||◌, ◌&&◌, if◌then◌else◌, length, nat_lt}
use Rattle.std.specs.List.{list_any, AllByRecursion}
use Rattle.zb_types.specs.Apply.{is_bufferable, is_update}
use Rattle.zb_types.specs.Limits.{most_kept}
use Rattle.zb_types.specs.declared.calls.Reply.{Reply}
use Rattle.zb_types.specs.declared.lines.Outcome.{Outcome}
use Rattle.zb_types.specs.declared.lines.Outcome.TheVariants.{Call as CallLine}
use Rattle.zb_types.specs.declared.lines.Said.{Said}
use Rattle.zb_types.specs.declared.lines.Said.TheVariants as said
use Rattle.zb_types.specs.declared.nodes.Cause.{Cause}
use Rattle.zb_laws.proofs.Tests.{equals}
use Rattle.zb_claims.specs.Points.{is_of_client}
use Rattle.zb_basis.specs.declared.calls.Numbered.{Numbered}
use Rattle.zb_work.specs.declared.work.Aim.{Aim}
use Rattle.zb_work.specs.declared.work.Aim.TheVariants.{Update, Read, Finish}
use Rattle.zb_work.specs.declared.work.Task.{Task}
use Rattle.zb_work.specs.Steps.{new_task}
use Rattle.zb_client.specs.Seen.{SeenClient}
use Rattle.zb_client.specs.Hearing.{commits, keeps, takes_call, takes_first}
use Rattle.zb_client.specs.Telling.{answers_first, answers_read, gives_up, gives_up_aim, gives_up_for, line, reply_lines, silent, tells, unfinished_lines}
use Rattle.zb_line_laws.specs.Calls.{TellsOwn, lines_in}

module _ (c : SeenClient) (other : ℕ) (not_it : (other == c.client) ≡ false) where
  abbrev None_of : List Outcome → Type 0
  None_of lines = list_any (is_of_client other) lines ≡ false

  one : (number : ℕ) (what : Said) → None_of (line c number what ∷ [])
  one number what = ap (λ (b : Bool). b || false) not_it

  all_unfinished : (cause : Cause) (calls : List Numbered) → None_of (unfinished_lines c.client cause calls)
  all_unfinished cause [] = refl
  all_unfinished cause (k ∷ ks) = ap (λ (b : Bool). b || list_any (is_of_client other) (unfinished_lines c.client cause ks)) not_it ∙ all_unfinished cause ks

  all_replied : (calls : List Numbered) (replies : List Reply) → None_of (reply_lines c.client calls replies)
  all_replied (k ∷ ks) (reply ∷ replies) = ap (λ (b : Bool). b || list_any (is_of_client other) (reply_lines c.client ks replies)) not_it ∙ all_replied ks replies
  all_replied [] replies = refl
  all_replied (k ∷ ks) [] = refl

  kept_by : (d : SeenClient) (call : Numbered) (test : Bool) → d.client ≡ c.client
      → None_of (lines_in (if test then tells d (line d call.number said.Buffered ∷ []) else silent (record d { task = new_task (Update call.number) })).told)
  kept_by d call true e = ap (λ (b : Bool). b || false) (ap (λ (n : ℕ). other == n) e ∙ not_it)
  kept_by d call false e = refl

  taken_by : (call : Numbered) (rest : List Numbered) (update : Bool)
      → None_of (lines_in (if update then keeps (record c { kept = c.kept ++ call ∷ []; queue = rest }) call else silent (record c { task = new_task Read })).told)
  taken_by call rest true = kept_by (record c { kept = c.kept ++ call ∷ []; queue = rest }) call (is_bufferable call.call && nat_lt (length (c.kept ++ call ∷ [])) most_kept) refl
  taken_by call rest false = refl

  first_taken : (queue : List Numbered) → None_of (lines_in (takes_first c queue).told)
  first_taken [] = refl
  first_taken (call ∷ rest) = taken_by call rest (is_update call.call)

  first_answered : (queue : List Numbered) (what : Said) → None_of (lines_in (answers_first c queue what).told)
  first_answered [] what = refl
  first_answered (read ∷ rest) what = one read.number what

  aim_given_up : (aim : Aim) (cause : Cause) → None_of (lines_in (gives_up_aim c aim cause).told)
  aim_given_up (Update number) cause = one number (said.Kept cause)
  aim_given_up Read cause = first_answered c.queue (said.Failed cause)
  aim_given_up Finish cause = all_unfinished cause c.kept

  work_given_up : (task : Option Task) (cause : Cause) → None_of (lines_in (gives_up_for c task cause).told)
  work_given_up None cause = refl
  work_given_up (Some task) cause = aim_given_up task.aim cause

-- a line of a call of this client
abbrev IsOwn : ℕ → List Outcome → Type 0
IsOwn client lines = AllByRecursion (λ line. is_of_client client line ≡ true) lines

own_one : (client number : ℕ) (what : Said) → IsOwn client (CallLine client number what ∷ [])
own_one client number what = (equals client, tt)

own_unfinished : (client : ℕ) (cause : Cause) (calls : List Numbered) → IsOwn client (unfinished_lines client cause calls)
own_unfinished client cause [] = tt
own_unfinished client cause (k ∷ ks) = (equals client, own_unfinished client cause ks)

own_replied : (client : ℕ) (calls : List Numbered) (replies : List Reply) → IsOwn client (reply_lines client calls replies)
own_replied client (k ∷ ks) (reply ∷ replies) = (equals client, own_replied client ks replies)
own_replied client [] replies = tt
own_replied client (k ∷ ks) [] = tt

own_kept : (d : SeenClient) (call : Numbered) (test : Bool)
    → IsOwn d.client (lines_in (if test then tells d (line d call.number said.Buffered ∷ []) else silent (record d { task = new_task (Update call.number) })).told)
own_kept d call true = own_one d.client call.number said.Buffered
own_kept d call false = tt

own_taken : (c : SeenClient) (call : Numbered) (rest : List Numbered) (update : Bool)
    → IsOwn c.client (lines_in (if update then keeps (record c { kept = c.kept ++ call ∷ []; queue = rest }) call else silent (record c { task = new_task Read })).told)
own_taken c call rest true = own_kept (record c { kept = c.kept ++ call ∷ []; queue = rest }) call (is_bufferable call.call && nat_lt (length (c.kept ++ call ∷ [])) most_kept)
own_taken c call rest false = tt

own_first : (c : SeenClient) (queue : List Numbered) → IsOwn c.client (lines_in (takes_first c queue).told)
own_first c [] = tt
own_first c (call ∷ rest) = own_taken c call rest (is_update call.call)

own_answered : (c : SeenClient) (queue : List Numbered) (what : Said) → IsOwn c.client (lines_in (answers_first c queue what).told)
own_answered c [] what = tt
own_answered c (read ∷ rest) what = own_one c.client read.number what

own_aim : (c : SeenClient) (aim : Aim) (cause : Cause) → IsOwn c.client (lines_in (gives_up_aim c aim cause).told)
own_aim c (Update number) cause = own_one c.client number (said.Kept cause)
own_aim c Read cause = own_answered c c.queue (said.Failed cause)
own_aim c Finish cause = own_unfinished c.client cause c.kept

own_work : (c : SeenClient) (task : Option Task) (cause : Cause) → IsOwn c.client (lines_in (gives_up_for c task cause).told)
own_work c None cause = tt
own_work c (Some task) cause = own_aim c task.aim cause

pub taken : (c : SeenClient) → TellsOwn c (takes_call c)
taken c = record { own = own_first c c.queue; others = λ other ne. first_taken c other ne c.queue }

pub answered : (c : SeenClient) (what : Said) → TellsOwn c (answers_read c what)
answered c what = record { own = own_answered c c.queue what; others = λ other ne. first_answered c other ne c.queue what }

pub given_up : (c : SeenClient) (cause : Cause) → TellsOwn c (gives_up c cause)
given_up c cause = record { own = own_work c c.task cause; others = λ other ne. work_given_up c other ne c.task cause }

pub replied : (c : SeenClient) (replies : List Reply) → TellsOwn c (commits c replies)
replied c replies = record { own = own_replied c.client c.kept replies; others = λ other ne. all_replied c other ne c.kept replies }
