-- The flush of a formed batch, and the stripes' contents with it.
use Rattle.std.specs.Prelude.{ℕ, List, ◌++◌}
use Rattle.std.specs.List.{concat}
use Rattle.zb_stripe.specs.declared.flush.Flush.{Flush}
use Rattle.zb_log.specs.Logs.{SeenLog, flush_of}
use Rattle.zb_batch.specs.Spelling.{spelling_of_batch}
use Rattle.zb_tables.specs.Tables.{Contents}
use Rattle.zb_sound.specs.Delivering.{with_parts}
use Rattle.zb_basis.specs.declared.basis.Formed.{Formed}

-- the flush of a formed batch with these blocks, where its log gave these bytes of its stripe
abbrev pub flush_with : SeenLog → List ℕ → Formed → List (List ℕ) → Flush
flush_with log given formed blocks = flush_of log given formed.sealed.placed (spelling_of_batch formed.sealed.batch ++ concat blocks)

-- the contents of the stripes with it
abbrev pub contents_with : Contents → SeenLog → List ℕ → Formed → List (List ℕ) → Contents
contents_with contents log given formed blocks = with_parts contents log.log (flush_with log given formed blocks).parts
