-- What a world of one client keeps over one row, by the laws alone.
use Rattle.std.proofs.Common.{true, List, [], ◌∷◌, ◌++◌, refl, subst, arith}
use Rattle.std.specs.Prelude.{codes}
use Rattle.zb_types.specs.declared.calls.Call.{Call}
use Rattle.zb_types.specs.declared.calls.Call.TheVariants.{Create, Write, Sync, Read}
use Rattle.zb_types.specs.declared.calls.Reply.TheVariants.{Done, Made, Bytes}
use Rattle.zb_types.specs.declared.history.Did.{Did}
use Rattle.zb_types.specs.declared.lines.Line.TheVariants.{Call as CallLine}
use Rattle.zb_types.specs.declared.lines.Said.TheVariants.{Reply as Replied, Buffered}
use Rattle.zb_types.specs.declared.lines.Outcome.{Outcome}
use Rattle.zb_types.specs.declared.lines.Outcome.TheVariants.{Call as OfCall}
use Rattle.zb_claims.specs.Rows.{fid, hello_report}
use Rattle.zb_given.specs.Given.{Given, none_given, with_item, FitGiven}
use Rattle.zb_given.specs.Batches.{BatchReplied}
use Rattle.zb_given.specs.Queues.{CallsStand, IsBuffered, EndsNext}
use Rattle.zb_given.specs.Worked.{hello_given, HelloLift}
use Rattle.zb_given.proofs.Small.{no}
use Rattle.zb_given.proofs.MoreGiving.{more_given}
use Rattle.zb_given.proofs.Adding.{adds_buffered, adds_read}
use Rattle.zb_given.proofs.Staying.{looks_up}
use Rattle.zb_given.proofs.Looping.{is_first}
use Rattle.zb_given.proofs.Standing.{stand_first, stand_given, buffers, takes, ends_queued, none_kept_has_last}
use Rattle.zb_given.proofs.Batching.{replies_batch}

abbrev creates : Call
creates = Create (codes "/a")

abbrev writes : Call
writes = Write (fid 1) 0 (codes "hello")

abbrev reads : Call
reads = Read (fid 1) 0 5

-- the file is made
abbrev one_given : Given
one_given = with_item none_given (CallLine true 1 (Create (codes "/a"))) 0

made : BatchReplied one_given [] 1 (record { client = 1; number = 1; call = Create (codes "/a"); reply = Made (fid 1) } ∷ []) [] 1 0
made =
    let fit = (more_given none_given [] (CallLine true 1 (Create (codes "/a"))) 0 (omega arith) is_first.fit).0 in
    let stand = stand_given none_given [] (CallLine true 1 (Create (codes "/a"))) 0 1 [] 0 0 (stand_first 1) in
    replies_batch one_given [] 1 (record { client = 1; number = 1; call = Create (codes "/a"); reply = Made (fid 1) } ∷ []) [] 1 0 fit
    (takes one_given [] 1 [] 0 (Create (codes "/a")) refl refl (λ h. no h) stand) (record { client_is = refl; call_is = refl; manager = refl }, tt) (refl, tt)

abbrev one_line : List Outcome
one_line = OfCall 1 1 (Replied (Made (fid 1))) ∷ []

-- the write is kept
abbrev two_given : Given
two_given = with_item one_given (CallLine true 1 (Write (fid 1) 0 (codes "hello"))) 1

buffered : IsBuffered two_given one_line 1 [] 1 writes
buffered =
    let stand : CallsStand one_given one_line 1 [] 1 1 = subst (CallsStand one_given one_line 1 [] 1) (made.all refl) made.stand in
    buffers two_given one_line 1 [] 1 (Write (fid 1) 0 (codes "hello")) refl refl (omega arith) (stand_given one_given one_line (CallLine true 1 (Write (fid 1) 0 (codes "hello"))) 1 1 [] 1 1 stand)

abbrev two_lines : List Outcome
two_lines = one_line ++ OfCall 1 2 Buffered ∷ []

fit_buffered : FitGiven two_given two_lines
fit_buffered = adds_buffered two_given one_line 1 2 (Write (fid 1) 0 (codes "hello")) (more_given one_given one_line (CallLine true 1 (Write (fid 1) 0 (codes "hello"))) 1 (omega arith) made.fits).0 buffered.is_open buffered.fits

-- the sync commits both
abbrev three_given : Given
three_given = with_item two_given (CallLine true 1 Sync) 2

abbrev both_done : List Did
both_done = record { client = 1; number = 2; call = writes; reply = Done } ∷ record { client = 1; number = 3; call = Sync; reply = Done } ∷ []

synced : BatchReplied three_given two_lines 1 both_done [] 3 2
synced =
    let fit = (more_given two_given two_lines (CallLine true 1 Sync) 2 (omega arith) fit_buffered).0 in
    let stand = stand_given two_given two_lines (CallLine true 1 Sync) 2 1 (2 ∷ []) 2 2 buffered.stand in
    replies_batch three_given two_lines 1 both_done [] 3 2 fit (takes three_given two_lines 1 (2 ∷ []) 2 Sync refl refl (λ h. no h) stand)
    (record { client_is = refl; call_is = refl; manager = refl }, (record { client_is = refl; call_is = refl; manager = refl }, tt)) (refl, (refl, tt))

abbrev four_lines : List Outcome
four_lines = two_lines ++ OfCall 1 2 (Replied Done) ∷ OfCall 1 3 (Replied Done) ∷ []

-- the read is answered at its lookup
fit_reads : FitGiven hello_given four_lines
fit_reads = (more_given three_given four_lines (CallLine true 1 (Read (fid 1) 0 5)) 4 (omega arith) synced.fits).0

answered : EndsNext hello_given four_lines 1 [] 3 reads
answered =
    let stand : CallsStand three_given four_lines 1 [] 3 3 = subst (CallsStand three_given four_lines 1 [] 3) (synced.all refl) synced.stand in
    ends_queued hello_given four_lines 1 [] 3 (Read (fid 1) 0 5) refl (stand_given three_given four_lines (CallLine true 1 (Read (fid 1) 0 5)) 4 1 [] 3 3 stand)

pub hello_lift : HelloLift
hello_lift =
    let looked = looks_up hello_given four_lines 1 4 (Read (fid 1) 0 5) fit_reads answered.is_open refl in
    let stand : CallsStand hello_given hello_report 1 [] 4 4 = answered.stand (Replied (Bytes (codes "hello"))) refl in
    record {
      given_fit = adds_read hello_given four_lines 1 (record { number = 4; at = 4 }) (Read (fid 1) 0 5) (Bytes (codes "hello")) fit_reads looked (record { earlier = answered.earlier refl; manager = refl }) refl;
      stand = stand;
      last = none_kept_has_last hello_given hello_report 1 4 4 refl stand;
    }
