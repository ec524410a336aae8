-- What the lines of a step do to the history, and of which lookups their replies are.
use Rattle.std.proofs.Common.{◌≡◌, ℕ, true, false, Bool, List, [], ◌∷◌, ◌++◌, append-nil, length, Option, Some, None, refl, sym, ap, ◌∙◌, subst}
use Rattle.std.specs.Prelude.{◌&&◌, nat_lt, if◌then◌else◌}
use Rattle.std.specs.List.{AllByRecursion}
use Rattle.std.proofs.lemmas.Grind.{flat_map-append}
use Rattle.std.proofs.lemmas.List.Folds.{list_any-append}
use Rattle.std.proofs.lemmas.Bool.{false≢true}
use Rattle.std.proofs.lemmas.Option.{same_Some}
use Rattle.zb_types.specs.Apply.{is_bufferable, is_update, reply_to}
use Rattle.zb_types.specs.History.{tree_after}
use Rattle.zb_types.specs.Limits.{most_kept}
use Rattle.zb_types.specs.declared.calls.Call.{Call}
use Rattle.zb_types.specs.declared.calls.Reply.{Reply}
use Rattle.zb_types.specs.declared.history.Did.{Did}
use Rattle.zb_types.specs.declared.lines.Line.{Line}
use Rattle.zb_types.specs.declared.lines.Outcome.{Outcome}
use Rattle.zb_types.specs.declared.lines.Outcome.TheVariants.{Call as OfCall, Clean as OfClean, Rebuild as OfRebuild, Event as OfEvent}
use Rattle.zb_types.specs.declared.lines.Said.TheVariants as said
use Rattle.zb_types.specs.declared.lines.Told.TheVariants as event
use Rattle.zb_types.specs.declared.nodes.Cause.{Cause}
use Rattle.zb_types.specs.declared.nodes.Node.TheVariants.{Manager}
use Rattle.zb_claims.specs.Points.{call_of, crashes, did_if, did_of, dids, is_event, is_of_client, tree_at}
use Rattle.zb_given.specs.Given.{Given, script_of}
use Rattle.zb_given.specs.Calls.{LookedUp}
use Rattle.zb_given.specs.Telling.{AreOfLookups, IsOfLookup, is_number, seen_by}
use Rattle.zb_basis.specs.declared.calls.Numbered.{Numbered}
use Rattle.zb_work.specs.declared.work.Aim.{Aim}
use Rattle.zb_work.specs.declared.work.Aim.TheVariants.{Update, Read, Finish}
use Rattle.zb_work.specs.declared.work.Task.{Task}
use Rattle.zb_work.specs.Steps.{new_task}
use Rattle.zb_client.specs.Seen.{SeenClient}
use Rattle.zb_client.specs.Hearing.{keeps, takes_call, takes_first}
use Rattle.zb_client.specs.Telling.{answers_first, answers_read, gives_up, gives_up_aim, gives_up_for, line, reply_lines, resting, silent, tells, unfinished_lines}
use Rattle.zb_line_laws.specs.Calls.{IsCalm, IsGiven, lines_in}

-- ---- lines of calls are no events

not_crash : (client : ℕ) (line : Outcome) → is_of_client client line ≡ true → is_event (crashes Manager) line ≡ false
not_crash client (OfCall c n s) own = refl
not_crash client (OfClean pass) own = absurd (cc own)
not_crash client (OfRebuild server end) own = absurd (cc own)
not_crash client (OfEvent (event.Crash node) answer) own = absurd (cc own)
not_crash client (OfEvent (event.Arm node) answer) own = absurd (cc own)
not_crash client (OfEvent (event.Up node) answer) own = absurd (cc own)
not_crash client (OfEvent (event.Lose server) answer) own = absurd (cc own)
not_crash client (OfEvent event.Checkpoint answer) own = absurd (cc own)

none_crash : (client : ℕ) (more : List Outcome) → AllByRecursion (λ line. is_of_client client line ≡ true) more → IsCalm more
none_crash client [] own = refl
none_crash client (line ∷ more) own = rw (not_crash client line own.0, none_crash client more own.1) refl

pub calm_more : (client : ℕ) (lines more : List Outcome) → AllByRecursion (λ line. is_of_client client line ≡ true) more → IsCalm lines → IsCalm (lines ++ more)
calm_more client lines more own calm =
    list_any-append (is_event (crashes Manager)) lines more ∙ rw (calm, none_crash client more own) refl

-- ---- the tree of lines that tell of no update

pub tree_same : (script : List Line) (lines more : List Outcome) → dids script more ≡ [] → tree_at script (lines ++ more) ≡ tree_at script lines
tree_same script lines more none =
    ap tree_after (flat_map-append (did_of script) lines more ∙ ap (λ (ds : List Did). dids script lines ++ ds) none ∙ append-nil (dids script lines))

-- no line of these is a reply
pub record IsSilentOn (given : Given) (more : List Outcome) : Type 0 where
  pub none : dids (script_of given) more ≡ []
  pub lookups : (lines : List Outcome) (read : Option LookedUp) → AreOfLookups given lines read more

pub nothing_told : (given : Given) → IsSilentOn given []
nothing_told given = record { none = refl; lookups = λ lines read. tt }

one_silent : (given : Given) (line : Outcome) → did_of (script_of given) line ≡ [] → ((lines : List Outcome) (read : Option LookedUp) → IsOfLookup given lines read line) → IsSilentOn given (line ∷ [])
one_silent given line none of = record { none = ap (λ (ds : List Did). ds ++ []) none; lookups = λ lines read. (of lines read, tt) }

-- ---- a call that is taken

module _ (given : Given) where
  kept_silent : (one other : SeenClient) (n : ℕ) (few : Bool) → IsSilentOn given (lines_in (if few then tells one (line one n said.Buffered ∷ []) else silent other).told)
  kept_silent one other n true = one_silent given (line one n said.Buffered) refl (λ lines read. tt)
  kept_silent one other n false = nothing_told given

  pub taken_silent : (c : SeenClient) → IsSilentOn given (lines_in (takes_call c).told)
  taken_silent c = by c.queue where
    by : (queue : List Numbered) → IsSilentOn given (lines_in (takes_first c queue).told)
    by [] = nothing_told given
    by (call ∷ rest) = of (is_update call.call) where
      Kept : SeenClient
      Kept = record c { kept = c.kept ++ call ∷ []; queue = rest }

      of : (update : Bool) → IsSilentOn given (lines_in (if update then keeps Kept call else silent (record c { task = new_task Read })).told)
      of true = kept_silent Kept (record Kept { task = new_task (Update call.number) }) call.number (is_bufferable call.call && nat_lt (length Kept.kept) most_kept)
      of false = nothing_told given

  -- ---- work that is given up

  unfinished_silent : (client : ℕ) (cause : Cause) (calls : List Numbered) → IsSilentOn given (unfinished_lines client cause calls)
  unfinished_silent client cause [] = nothing_told given
  unfinished_silent client cause (call ∷ calls) =
      let rest = unfinished_silent client cause calls in
      record {
        none = rest.none;
        lookups = λ lines read. (tt, rest.lookups (lines ++ OfCall client call.number (said.Unfinished cause) ∷ []) None);
      }

  failed_silent : (c : SeenClient) (cause : Cause) (queue : List Numbered) → IsSilentOn given (lines_in (answers_first c queue (said.Failed cause)).told)
  failed_silent c cause [] = nothing_told given
  failed_silent c cause (read ∷ rest) = one_silent given (line (record (resting c) { queue = rest }) read.number (said.Failed cause)) refl (λ lines read. tt)

  pub given_up_silent : (c : SeenClient) (cause : Cause) → IsSilentOn given (lines_in (gives_up c cause).told)
  given_up_silent c cause = by c.task where
    of : (aim : Aim) → IsSilentOn given (lines_in (gives_up_aim c aim cause).told)
    of (Update n) = one_silent given (line c n (said.Kept cause)) refl (λ lines read. tt)
    of Read = failed_silent c cause c.queue
    of Finish = unfinished_silent c.client cause c.kept

    by : (task : Option Task) → IsSilentOn given (lines_in (gives_up_for c task cause).told)
    by None = nothing_told given
    by (Some task) = of task.aim

-- ---- a read that is answered

no_did : (client n : ℕ) (reply : Reply) (call : Call) (found : Option Call) → found ≡ Some call → is_update call ≡ false → did_if client n reply found ≡ []
no_did client n reply call None e reads = absurd (cc e)
no_did client n reply call (Some other) e reads = rw (ap is_update (same_Some other call e), reads) refl

module _ (given : Given) (lines : List Outcome) (c : SeenClient) (read : Numbered) (rest : List Numbered) (queue : c.queue ≡ read ∷ rest) (reply : Reply)
    (is : IsGiven given c.client read) (reads : is_update read.call ≡ false) where
  abbrev Answered : List Outcome
  Answered = OfCall c.client read.number (said.Reply reply) ∷ []

  lines_are : lines_in (answers_read c (said.Reply reply)).told ≡ Answered
  lines_are = ap (λ (q : List Numbered). lines_in (answers_first c q (said.Reply reply)).told) queue

  pub answered_none : dids (script_of given) (lines_in (answers_read c (said.Reply reply)).told) ≡ []
  answered_none =
      ap (dids (script_of given)) lines_are
      ∙ ap (λ (ds : List Did). ds ++ []) (no_did c.client read.number reply read.call (call_of (script_of given) c.client read.number) is reads)

  pub answered_looks : (looked : Option LookedUp) → is_number looked read.number ≡ true → reply ≡ reply_to (tree_at (script_of given) (seen_by looked lines)) read.call
      → AreOfLookups given lines looked (lines_in (answers_read c (said.Reply reply)).told)
  answered_looks looked number right =
      subst (AreOfLookups given lines looked) (sym lines_are)
      ((λ call of update. record { number = number; same = right ∙ ap (reply_to (tree_at (script_of given) (seen_by looked lines))) (same_Some read.call call (sym is ∙ of)) }), tt)

-- ---- a batch that is replied to

module _ (given : Given) (client : ℕ) where
  pub replies_look : (kept : List Numbered) (replies : List Reply) (lines : List Outcome) (looked : Option LookedUp) → AllByRecursion (IsGiven given client) kept → AllByRecursion (λ k. is_update k.call ≡ true) kept
      → AreOfLookups given lines looked (reply_lines client kept replies)
  replies_look [] replies lines looked given_all updates = tt
  replies_look (call ∷ calls) [] lines looked given_all updates = tt
  replies_look (call ∷ calls) (reply ∷ replies) lines looked given_all updates = (
    (λ other of reads. absurd (false≢true (sym reads ∙ ap is_update (same_Some other call.call (sym of ∙ given_all.0)) ∙ updates.0))),
    replies_look calls replies (lines ++ OfCall client call.number (said.Reply reply) ∷ []) None given_all.1 updates.1,
  )
