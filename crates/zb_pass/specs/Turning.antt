-- The kinds of a pass's work, and what turns of the file manager make of it.
use Rattle.std.specs.Prelude.{ℕ}
use Rattle.zb_types.specs.declared.lines.Ended.{Ended}
use Rattle.zb_types.specs.declared.lines.Kind.{Kind}
use Rattle.zb_types.specs.declared.lines.Kind.TheVariants as kind
use Rattle.zb_types.specs.declared.lines.Pass.{Pass}
use Rattle.zb_types.specs.declared.lines.Pass.TheVariants.{Failed}
use Rattle.zb_types.specs.declared.nodes.Cause.TheVariants.{Down as IsDown}
use Rattle.zb_types.specs.declared.tables.MarkFault.{MarkFault}
use Rattle.zb_types.specs.declared.tables.Status.{Status}
use Rattle.zb_pass.specs.declared.work.Work.{Work}
use Rattle.zb_pass.specs.declared.work.Work.TheVariants.{Lookup, Fetch, Store, Mark, Commit, Retire, Sweep, Delete}
use Rattle.zb_pass.specs.Going.{retires, unmarked}

-- the kind of the work
abbrev pub kind_of_work : Work → Kind
kind_of_work (Lookup cleaning) = kind.Lookup
kind_of_work (Fetch cleaning plan) = kind.Fetch
kind_of_work (Store cleaning formed) = kind.Store
kind_of_work (Mark cleaning server generation) = kind.Mark
kind_of_work (Commit cleaning sealed) = kind.Commit
kind_of_work (Retire target copied rejected) = kind.Retire
kind_of_work (Sweep sweep after) = kind.Sweep
kind_of_work (Delete sweep left again) = kind.Delete

-- the members are looked up anew, behind a mark, or where they have changed before a commit
abbrev pub looks : Work → Work
looks (Mark cleaning server generation) = Lookup cleaning
looks (Commit cleaning sealed) = Lookup cleaning
looks other = other

-- the batch is committed: so many blocks were moved, and so many in vain
abbrev pub committed : ℕ → ℕ → Work → Work
committed copied rejected (Commit cleaning sealed) = Retire cleaning.target copied rejected
committed copied rejected other = other

-- the stripe is retired or kept
abbrev pub retired : Ended → Status → Work → Work
retired end status (Retire target copied rejected) = retires target copied rejected end status
retired end status other = other

-- the server at hand isn't marked as out
abbrev pub refused : MarkFault → Work → Pass
refused fault (Mark cleaning server generation) = unmarked server fault
refused fault other = Failed IsDown
