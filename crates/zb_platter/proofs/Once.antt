-- An image says one value of the tables.
use Rattle.std.proofs.Common.{◌≡◌, List, [], sym, ◌∙◌, ap, subst}
use Rattle.zb_ckpt.specs.declared.root.Root.{Root}
use Rattle.zb_ckpt.proofs.Once.{says_one as one_root}
use Rattle.zb_journal.specs.Journal.{Says}
use Rattle.zb_journal.proofs.Once.{says_one as one_journal}
use Rattle.zb_entries.specs.declared.entry.Entry.{Entry}
use Rattle.zb_tables.specs.Tables.{Tables}
use Rattle.zb_tables.specs.Replay.{Replays}
use Rattle.zb_tables.proofs.Once.{replays_once}
use Rattle.zb_tables.proofs.Taken.{taken_replays}
use Rattle.zb_spelling.specs.Unspelling.{sizes_of}
use Rattle.zb_spelling.proofs.Whole.{few_bytes, one_spelling}
use Rattle.zb_platter.specs.Laws.{SaysOne, SystemOnce}

pub system_once : SystemOnce
system_once geo system contents bytes image one other h k =
    let root = (one_root image h.root k.root _ _ h.has.checkpoint.says k.has.checkpoint.says).0 in
    sym h.system ∙ ap (λ (r : Root). r.geo) root ∙ k.system

pub says_one : SaysOne
says_one geo contents image one other h k =
    let both = one_root image h.root k.root _ _ h.has.checkpoint.says k.has.checkpoint.says in
    let start : h.platter.tables ≡ k.platter.tables =
    one_spelling (sizes_of h.root.geo) (sizes_of k.root.geo) h.platter.tables k.platter.tables (few_bytes h.root.geo) (few_bytes k.root.geo) h.has.is k.has.is both.1 in
    let journal : h.platter.entries ≡ k.platter.entries =
    (one_journal image k.root.first h.platter.entries k.platter.entries h.place k.place (subst (λ (r : Root). Says image r.first h.platter.entries h.place) both.0 h.has.journal) k.has.journal).0 in
    let mine : Replays geo.block contents k.platter.tables k.platter.entries one =
    subst (λ (t : Tables). Replays geo.block contents t k.platter.entries one) start
    (subst (λ (es : List Entry). Replays geo.block contents h.platter.tables es one) journal (taken_replays (sizes_of geo) contents [] h.platter.entries h.platter.tables one h.taken)) in
    replays_once geo.block contents k.platter.entries k.platter.tables one other mine (taken_replays (sizes_of geo) contents [] k.platter.entries k.platter.tables other k.taken)
