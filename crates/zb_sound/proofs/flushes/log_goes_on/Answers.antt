use Rattle.std.proofs.Common.{refl}
use Rattle.zb_tables.specs.Tables.{held_at}
use Rattle.zb_sound.proofs.Flushing.{fits_covers, commit_covers, next_fits, next_begins}
use Rattle.zb_sound.proofs.Unheld.{unwritten_not_held}
use Rattle.zb_sound.proofs.flushes.log_goes_on.Goals as goal

pub returns-clause-fits : goal.returns-clause-fits
returns-clause-fits c z contents held log part fit = fits_covers z contents held log part fit

pub returns-clause-committed : goal.returns-clause-committed
returns-clause-committed c z contents held flush born pieces before after part differ fits are is =
    commit_covers z contents held flush differ fits born pieces are part (record { before = before; after = after; is = is })

pub returns-clause-next : goal.returns-clause-next
returns-clause-next c z contents held log former part covers next writable = next_fits z contents held log former part covers next writable

pub returns-clause-begins : goal.returns-clause-begins
returns-clause-begins c v log former part stands next = next_begins v log former part stands next

pub returns-clause-first : goal.returns-clause-first
returns-clause-first c z contents p st tables tree log stripe s two pos none = unwritten_not_held z contents p st tables tree log stripe s two pos none (held_at log stripe tables.held) refl
