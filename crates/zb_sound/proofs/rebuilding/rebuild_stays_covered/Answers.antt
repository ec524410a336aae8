use Rattle.std.proofs.Common.{sym, ◌∙◌, refl}
use Rattle.std.proofs.lemmas.Option.{none-some}
use Rattle.zb_sound.proofs.Covering.{beside_covers, commit_covers_rebuild, contents_cover, fewer_cover, flush_covers, restored_covers}
use Rattle.zb_sound.proofs.rebuilding.rebuild_stays_covered.Goals as goal

pub returns-clause-begins : goal.returns-clause-begins
returns-clause-begins c z contents st held log stripe h e none = absurd (none-some h (sym none ∙ e))

pub returns-clause-restored : goal.returns-clause-restored
returns-clause-restored c z contents st held left later log stripe whole less covered = restored_covers z contents st held left covered later log stripe whole less

pub returns-clause-flush : goal.returns-clause-flush
returns-clause-flush c z contents p st tables tree left out class flush requests asked s w is covered =
    flush_covers z contents p st tables tree left out class flush requests asked s w is covered

pub returns-clause-beside : goal.returns-clause-beside
returns-clause-beside c z contents st held left asked away covered = beside_covers z contents st held left covered asked away

pub returns-clause-commit : goal.returns-clause-commit
returns-clause-commit c z contents st held left flush born pieces differ fits stand are covered = commit_covers_rebuild z contents st held left flush born pieces differ fits stand are covered

pub returns-clause-fewer : goal.returns-clause-fewer
returns-clause-fewer c z contents st held less left had covered = fewer_cover z contents st held left covered less had

pub returns-clause-contents : goal.returns-clause-contents
returns-clause-contents c z contents new st held left same covered = contents_cover z contents st held left covered new same

pub returns-clause-ends : goal.returns-clause-ends
returns-clause-ends c z contents st held x covered among log stripe h e = covered log stripe h e refl x among
