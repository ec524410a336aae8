-- What a world knows of a call that it was given: whether it is open, whether it may have its reply, and where a read of
-- it was looked up.
use Rattle.std.specs.Prelude.{◌≡◌, ℕ, ◌≤◌, ◌<◌, true, false, List, length, take, drop, Option, Some, None}
use Rattle.std.specs.List.{list_any}
use Rattle.zb_types.specs.declared.calls.Call.{Call}
use Rattle.zb_types.specs.declared.lines.Outcome.{Outcome}
use Rattle.zb_types.specs.Apply.{is_update}
use Rattle.zb_types.specs.Tree.{Tree}
use Rattle.zb_claims.specs.Points.{Subject, told_of, asked_of, call_of, has_final, is_of_client, is_before_crash, tree_at}
use Rattle.zb_claims.specs.Fits.{are_ended, is_next}
use Rattle.zb_given.specs.Given.{Given, script_of, place_of, point_of}

-- a call is open: it was given, the call before it has a line, and it has no final one
pub record IsOpen (given : Given) (lines : List Outcome) (client n : ℕ) (call : Call) : Type 0 where
  pub is : call_of (script_of given) client n ≡ Some call
  pub next : is_next lines client n ≡ true
  pub unended : has_final lines client n ≡ false

-- It may have its reply: the client's updates before it have ended, and the file manager isn't down by a crash that was
-- given before it.
pub record MayReply (given : Given) (lines : List Outcome) (client n : ℕ) : Type 0 where
  pub earlier : are_ended (script_of given) lines client n ≡ true
  pub manager : is_before_crash (script_of given) lines (place_of given client n) ≡ true

-- A read at work that was looked up: its number among its client's calls, and its point, how many lines stood at the lookup.
-- A client has one such read at most, and none while it has a batch at work, as when it is blocked.
pub record LookedUp : Type 0 where
  pub number : ℕ
  pub at : ℕ

-- an open read was looked up so, behind its giving and behind its client's last line
pub record IsLookedUp (given : Given) (lines : List Outcome) (client : ℕ) (read : LookedUp) (call : Call) : Type 0 where
  pub is_open : IsOpen given lines client read.number call
  pub is_read : is_update call ≡ false
  pub stood : read.at ≤ length lines
  pub after_given : point_of given client read.number ≤ read.at
  pub after_own : list_any (is_of_client client) (drop read.at lines) ≡ false

-- so it is with a client's read at work, where one was looked up
abbrev pub IsAtWork : Given → List Outcome → ℕ → Option LookedUp → Type 0
IsAtWork given lines client None = Unit {0}
IsAtWork given lines client (Some read) = (call : Call) × IsLookedUp given lines client read call

-- the tree that a read saw which was looked up so
abbrev pub tree_seen : Given → List Outcome → LookedUp → Tree
tree_seen given lines read = tree_at (script_of given) (take read.at lines)

-- a line of this job or event is owed: more were given than have theirs
abbrev pub IsOwed : Given → List Outcome → Subject → Type 0
IsOwed given lines subject = told_of subject lines < asked_of subject (script_of given)
