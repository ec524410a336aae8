-- Worked rows: scripts and reports by lines.
use Rattle.std.specs.Prelude.{ℕ, true, false, List, [], ◌∷◌, ◌++◌, codes, None}
use Rattle.zb_types.specs.declared.ids.Fid.{Fid}
use Rattle.zb_types.specs.declared.calls.Call.TheVariants.{Create, Write, Sync, Read, List as ListOf}
use Rattle.zb_types.specs.declared.calls.Reply.TheVariants.{Done, Made, Bytes, Names}
use Rattle.zb_types.specs.declared.nodes.Cause.TheVariants.{Down}
use Rattle.zb_types.specs.declared.nodes.Node.TheVariants.{Client, Manager}
use Rattle.zb_types.specs.declared.nodes.Event.TheVariants.{Crash as CrashOf, Arm as ArmOf, Up as UpOf, Lose as LoseOf}
use Rattle.zb_types.specs.declared.nodes.EventAnswer.TheVariants.{Done as EventDone, ManagerDown}
use Rattle.zb_types.specs.declared.lines.Kind.TheVariants.{Commit}
use Rattle.zb_types.specs.declared.lines.Line.{Line}
use Rattle.zb_types.specs.declared.lines.Line.TheVariants.{Call as CallLine, StepTo, Event as EventLine}
use Rattle.zb_types.specs.declared.lines.Said.TheVariants.{Reply as Replied, Buffered, Kept, Failed, Dropped}
use Rattle.zb_types.specs.declared.lines.Told.TheVariants.{Crash, Arm, Up, Lose}
use Rattle.zb_types.specs.declared.lines.Outcome.{Outcome}
use Rattle.zb_types.specs.declared.lines.Outcome.TheVariants.{Call as OfCall, Event as OfEvent}

-- a file by its number
abbrev pub fid : ℕ → Fid
fid n = record { 0 = n }

-- a file is made, written and read
abbrev pub hello_script : List Line
hello_script = CallLine false 1 (Create (codes "/a")) ∷ CallLine false 1 (Write (fid 1) 0 (codes "hello")) ∷ CallLine false 1 Sync ∷ CallLine false 1 (Read (fid 1) 0 5) ∷ []

-- what is written is read back
abbrev pub hello_report : List Outcome
hello_report = OfCall 1 1 (Replied (Made (fid 1))) ∷ OfCall 1 2 Buffered ∷ OfCall 1 2 (Replied Done) ∷ OfCall 1 3 (Replied Done) ∷ OfCall 1 4 (Replied (Bytes (codes "hello"))) ∷ []

-- the read answers from the first tree
abbrev pub stale_report : List Outcome
stale_report = OfCall 1 1 (Replied (Made (fid 1))) ∷ OfCall 1 2 Buffered ∷ OfCall 1 2 (Replied Done) ∷ OfCall 1 3 (Replied Done) ∷ OfCall 1 4 (Replied (Bytes [])) ∷ []

-- the sync is answered before the write that it waits for
abbrev pub unordered_report : List Outcome
unordered_report = OfCall 1 1 (Replied (Made (fid 1))) ∷ OfCall 1 2 Buffered ∷ OfCall 1 3 (Replied Done) ∷ []

-- two clients write parts of one block
abbrev pub two_script : List Line
two_script = CallLine false 1 (Create (codes "/a")) ∷ CallLine false 1 (Write (fid 1) 0 (codes "aaaaaa")) ∷ CallLine false 1 Sync
    ∷ CallLine true 1 (Write (fid 1) 0 (codes "X")) ∷ CallLine true 1 Sync ∷ CallLine true 2 (Write (fid 1) 1 (codes "Y")) ∷ CallLine true 2 Sync
    ∷ StepTo (Client 1) Commit ∷ StepTo (Client 2) Commit ∷ CallLine false 1 Sync ∷ CallLine false 2 Sync ∷ CallLine false 1 (Read (fid 1) 0 6) ∷ []

-- both parts stand in the block
abbrev pub two_report : List Outcome
two_report = OfCall 1 1 (Replied (Made (fid 1))) ∷ OfCall 1 2 Buffered ∷ OfCall 1 2 (Replied Done) ∷ OfCall 1 3 (Replied Done)
    ∷ OfCall 1 4 Buffered ∷ OfCall 2 1 Buffered ∷ OfCall 1 4 (Replied Done) ∷ OfCall 1 5 (Replied Done) ∷ OfCall 1 6 (Replied Done)
    ∷ OfCall 2 1 (Replied Done) ∷ OfCall 2 2 (Replied Done) ∷ OfCall 2 3 (Replied Done) ∷ OfCall 1 7 (Replied (Bytes (codes "XYaaaa"))) ∷ []

-- the file manager stops at its second write
abbrev pub armed_script : List Line
armed_script = CallLine false 1 (Create (codes "/a")) ∷ CallLine false 1 (Write (fid 1) 0 (codes "hello")) ∷ EventLine (ArmOf Manager 2) ∷ CallLine false 1 Sync ∷ EventLine (UpOf Manager) ∷ CallLine false 1 (Read (fid 1) 0 5) ∷ []

-- the batch in doubt is answered once the file manager is up
abbrev pub armed_report : List Outcome
armed_report = OfCall 1 1 (Replied (Made (fid 1))) ∷ OfCall 1 2 Buffered ∷ OfEvent (Arm Manager) EventDone ∷ OfCall 1 3 (Kept Down) ∷ OfEvent (Up Manager) EventDone ∷ OfCall 1 2 (Replied Done) ∷ OfCall 1 3 (Replied Done) ∷ OfCall 1 4 (Replied (Bytes (codes "hello"))) ∷ []

-- a client crashes with two kept writes
abbrev pub dropped_script : List Line
dropped_script = CallLine false 1 (Create (codes "/a")) ∷ CallLine false 1 (Write (fid 1) 0 (codes "x")) ∷ CallLine false 1 (Write (fid 1) 1 (codes "y")) ∷ EventLine (CrashOf (Client 1)) ∷ EventLine (UpOf (Client 1)) ∷ CallLine false 1 (Read (fid 1) 0 5) ∷ []

-- both are dropped, and the file is empty
abbrev pub dropped_report : List Outcome
dropped_report = OfCall 1 1 (Replied (Made (fid 1))) ∷ OfCall 1 2 Buffered ∷ OfCall 1 3 Buffered ∷ OfEvent (Crash (Client 1)) EventDone ∷ OfCall 1 2 Dropped ∷ OfCall 1 3 Dropped ∷ OfEvent (Up (Client 1)) EventDone ∷ OfCall 1 4 (Replied (Bytes [])) ∷ []

-- the file manager is down while calls come
abbrev pub down_script : List Line
down_script = EventLine (CrashOf Manager) ∷ CallLine false 1 (Create (codes "/a")) ∷ CallLine false 1 (ListOf None) ∷ EventLine (LoseOf (record { 0 = 1 })) ∷ EventLine (UpOf Manager) ∷ []

-- what needs the file manager waits or fails
abbrev pub down_report : List Outcome
down_report = OfEvent (Crash Manager) EventDone ∷ OfCall 1 1 (Kept Down) ∷ OfCall 1 2 (Failed Down) ∷ OfEvent (Lose (record { 0 = 1 })) ManagerDown ∷ OfEvent (Up Manager) EventDone ∷ OfCall 1 1 (Replied (Made (fid 1))) ∷ []

-- a reply from a tree kept beside the nodes
abbrev pub beside_report : List Outcome
beside_report = OfEvent (Crash Manager) EventDone ∷ OfCall 1 1 (Kept Down) ∷ OfCall 1 2 (Replied (Names [])) ∷ []

-- the eighth kept write starts the commit
abbrev pub put : ℕ → Line
put offset = CallLine false 1 (Write (fid 1) offset (codes "x"))

-- call n is done
abbrev pub done : ℕ → Outcome
done n = OfCall 1 n (Replied Done)

-- call n is kept
abbrev pub buffered : ℕ → Outcome
buffered n = OfCall 1 n Buffered

-- eight writes, one behind the other
abbrev pub eight_script : List Line
eight_script = CallLine false 1 (Create (codes "/a")) ∷ put 0 ∷ put 1 ∷ put 2 ∷ put 3 ∷ put 4 ∷ put 5 ∷ put 6 ∷ put 7 ∷ []

-- seven are kept
abbrev pub seven_lines : List Outcome
seven_lines = OfCall 1 1 (Replied (Made (fid 1))) ∷ buffered 2 ∷ buffered 3 ∷ buffered 4 ∷ buffered 5 ∷ buffered 6 ∷ buffered 7 ∷ buffered 8 ∷ []

-- the eighth is answered with those before it
abbrev pub eight_lines : List Outcome
eight_lines = done 2 ∷ done 3 ∷ done 4 ∷ done 5 ∷ done 6 ∷ done 7 ∷ done 8 ∷ done 9 ∷ []

-- an eighth that is buffered too
abbrev pub too_many_report : List Outcome
too_many_report = seven_lines ++ buffered 9 ∷ []
