use Rattle.std.proofs.Common.{◌∷◌, [], ◌∙◌, sym, subst, ap, List, refl, arith}
use Rattle.std.specs.Prelude.{slice_get}
use Rattle.zb_types.specs.declared.tables.Found.{Found}
use Rattle.std.specs.Option.{option_copied}
use Rattle.zb_types.specs.declared.calls.Call.{Call}
use Rattle.zb_types.specs.declared.calls.Reply.TheVariants.{Bytes as BytesReply}
use Rattle.zb_basis.specs.Looking.{ask_of, room_of, AreFoundFor}
use Rattle.zb_basis.specs.Wanting.{wanted_by_read, AreFetched}
use Rattle.zb_basis.specs.Reading.{ReplyOf}
use Rattle.zb_forming.specs.Drafts.{known}
use Rattle.zb_forming.specs.Ranges.{bytes_in}
use Rattle.zb_forming.proofs.Parts.{reply-is}
use Rattle.zb_forming.proofs.reading.read_file.Goals as goal

pub returns : goal.returns
returns c =
    λ bytes stand.
    subst (λ (call : Call). ReplyOf c.args.geo.now.block bytes c.args.basis.now.found call (BytesReply c.in_ok-bytes.bytes)) (sym c.in-Read.is)
    (reply-is c.args.geo.now.block (room_of c.args.geo.now.servers c.args.geo.now.fragment) c.in-Read.fid c.in-Read.offset c.in-Read.len c.args.basis.now.found c.in-Some.found.now c.args.basis.now c.in_ok-bytes.bytes (omega arith)
    (subst (λ (call : Call). AreFoundFor c.args.geo.now.block (room_of c.args.geo.now.servers c.args.geo.now.fragment) (ask_of c.args.geo.now.block call ∷ []) c.args.basis.now.found) c.in-Read.is c.requires.found)
    refl (ap (λ (fs : List Found). slice_get fs 0) (sym c.slice.ensures) ∙ sym c.first_found.ensures ∙ ap option_copied c.in-Some.is) c.if-found-eq0.false
    (subst (λ (call : Call). AreFetched (wanted_by_read c.args.geo.now.block call c.args.basis.now.found) c.args.basis.now.fetched) c.in-Read.is c.requires.fetched)
    (c.in_ok-bytes.ensures ∙ (λ i. bytes_in c.args.geo.now.block (known (c.slice-2.ensures i)) c.in-Some.found.now (c.min-from.ensures i) (c.end_in-to.ensures i))) bytes stand)
