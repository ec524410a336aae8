-- What is seen of a ledger, and what each of its calls leaves.
use Rattle.std.specs.Prelude.{ℕ, suc, ◌-◌, Bool, not, List, [], ◌∷◌, ◌++◌, length, filter, replicate, slice_index, slice_set, Option, Some, None, ◌==◌, ◌&&◌, if◌then◌else◌}
use Rattle.std.specs.declared.cmp.Ordering.{Ordering}
use Rattle.std.specs.Ordering.{nat_cmp, ordering_then}
use Rattle.std.specs.Map.{lookup}
use Rattle.std.specs.BTreeMap.{insert_entry}
use Rattle.zb_types.specs.declared.calls.Call.{Call}
use Rattle.zb_types.specs.declared.calls.Reply.{Reply}
use Rattle.zb_types.specs.declared.history.Did.{Did}
use Rattle.zb_types.specs.declared.history.Saw.{Saw}
use Rattle.zb_types.specs.declared.lines.Said.{Said}
use Rattle.zb_types.specs.declared.lines.Said.TheVariants.{Reply as Replied, Buffered, Kept, Failed, Dropped, Unfinished}
use Rattle.zb_types.specs.declared.lines.Outcome.{Outcome}
use Rattle.zb_types.specs.declared.lines.Outcome.TheVariants.{Call as OfCall, Clean as OfClean, Rebuild as OfRebuild, Event as OfEvent}
use Rattle.zb_types.specs.Apply.{is_update}
use Rattle.zb_claims.specs.Points.{did_if}

-- calls, each under its client and its number
abbrev pub Calls : Type 0
Calls = List ((ℕ × ℕ) × Call)

-- What a ledger has of the clients, which are numbered from 1: by client how many calls it was given, and how many updates
-- stood where its read was looked up; the calls that have no final line; the history, and for how many lines it has room.
pub record SeenLedger : Type 0 where
  pub clients : ℕ
  pub counts : List ℕ
  pub looked : List ℕ
  pub waiting : Calls
  pub updates : List Did
  pub answered : List Saw
  pub room : ℕ

-- how many calls this client was given
abbrev pub count_of : SeenLedger → ℕ → ℕ
count_of ledger client = slice_index ledger.counts client

-- how many updates stood where its read was looked up
abbrev pub looked_of : SeenLedger → ℕ → ℕ
looked_of ledger client = slice_index ledger.looked client

-- the key of this call
abbrev pub is_key : ℕ → ℕ → ℕ × ℕ → Bool
is_key client n key = client == key.0 && n == key.1

-- by client, and then by number
abbrev pub key_cmp : ℕ × ℕ → ℕ × ℕ → Ordering
key_cmp a b = ordering_then (nat_cmp a.0 b.0) (nat_cmp a.1 b.1)

-- the call that stands under this key
abbrev pub call_at : Calls → ℕ → ℕ → Option Call
call_at waiting client n = lookup (is_key client n) waiting

-- the calls without this one
abbrev pub without_call : Calls → ℕ → ℕ → Calls
without_call waiting client n = filter (λ entry. not (is_key client n entry.0)) waiting

-- nothing was given
abbrev pub first_ledger : ℕ → SeenLedger
first_ledger clients = record { clients = clients; counts = replicate (suc clients) 0; looked = replicate (suc clients) 0; waiting = []; updates = []; answered = []; room = 0 }

-- this client was given one call more, with the next number
abbrev pub called : SeenLedger → ℕ → Call → SeenLedger
called ledger client call = record ledger {
  counts = slice_set ledger.counts client (suc (count_of ledger client));
  waiting = insert_entry key_cmp ledger.waiting (client, suc (count_of ledger client)) call;
}

-- its last call is taken back, which waits
abbrev pub taken_back : SeenLedger → ℕ → SeenLedger
taken_back ledger client = record ledger {
  counts = slice_set ledger.counts client (count_of ledger client - 1);
  waiting = without_call ledger.waiting client (count_of ledger client);
}

-- its read is looked up where all updates stand that were answered
abbrev pub looked_now : SeenLedger → ℕ → SeenLedger
looked_now ledger client = record ledger { looked = slice_set ledger.looked client (length ledger.updates) }

-- the read that is answered with this reply
abbrev pub saw_if : ℕ → ℕ → ℕ → Reply → Option Call → List Saw
saw_if client n seen reply None = []
saw_if client n seen reply (Some call) = if is_update call then [] else record { client = client; number = n; seen = seen; call = call; reply = reply } ∷ []

-- this call has its final line
abbrev pub ended : SeenLedger → ℕ → ℕ → SeenLedger
ended ledger client n = record ledger { waiting = without_call ledger.waiting client n }

-- it was a reply: of an update behind all others, of a read for the updates that stood at its lookup
abbrev pub replied : SeenLedger → ℕ → ℕ → Reply → SeenLedger
replied ledger client n reply = record ledger {
  waiting = without_call ledger.waiting client n;
  updates = ledger.updates ++ did_if client n reply (call_at ledger.waiting client n);
  answered = ledger.answered ++ saw_if client n (looked_of ledger client) reply (call_at ledger.waiting client n);
}

-- this was said of the call
abbrev pub said_of : SeenLedger → ℕ → ℕ → Said → SeenLedger
said_of ledger client n (Replied reply) = replied ledger client n reply
said_of ledger client n Buffered = ledger
said_of ledger client n (Kept cause) = ledger
said_of ledger client n (Failed cause) = ended ledger client n
said_of ledger client n Dropped = ended ledger client n
said_of ledger client n (Unfinished cause) = ended ledger client n

-- what a line leaves of the calls and the history
abbrev pub with_line : SeenLedger → Outcome → SeenLedger
with_line ledger (OfCall client n said) = said_of ledger client n said
with_line ledger (OfClean pass) = ledger
with_line ledger (OfRebuild server end) = ledger
with_line ledger (OfEvent event answer) = ledger

-- so it is with a line that is told: it takes its room
abbrev pub told : SeenLedger → Outcome → SeenLedger
told ledger line = record (with_line ledger line) { room = ledger.room - 1 }

-- lines of this client are told one after the other, and behind each of them its read is looked up
abbrev pub told_all : SeenLedger → ℕ → List Outcome → SeenLedger
told_all ledger client [] = ledger
told_all ledger client (line ∷ lines) = told_all (looked_now (told ledger line) client) client lines
