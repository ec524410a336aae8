-- Formatted platters stand for the first tree.
use Rattle.std.proofs.Common.{false, [], None, refl}
use Rattle.std.proofs.lemmas.Bool.{false≢true}
use Rattle.std.proofs.lemmas.Option.{none-some}
use Rattle.zb_types.specs.Tree.{first_tree}
use Rattle.zb_tables.specs.Tables.{Contents, first_tables}
use Rattle.zb_tables.specs.Taking.{Sizes}
use Rattle.zb_tables.proofs.First.{first_are}
use Rattle.zb_sound.specs.Standing.{StandFor}

pub first_stands : (z : Sizes) (contents : Contents) → StandFor z contents (record { tables = first_tables; entries = [] }) (record { maps = λ s id. None; blank = λ s. false }) first_tables first_tree
first_stands z contents = record {
  says = record { taken = refl; shows = refl; points = tt; ends = tt; spelled = first_are z };
  agree = record { one_unfit = λ s t a b u v. absurd (false≢true u); agree = λ x may log stripe h e. absurd (none-some h e) };
  none_empty = λ server id. tt;
}
