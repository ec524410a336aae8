-- What stands for a tree does so with each contents that agree on what is committed.
use Rattle.std.proofs.Common.{◌≡◌, List, [], take, Option, sym, ◌∙◌, subst}
use Rattle.zb_types.specs.declared.tables.HeldUse.{HeldUse}
use Rattle.zb_types.specs.Tree.{Tree}
use Rattle.zb_holding.specs.Holding.{View}
use Rattle.zb_tables.specs.Tables.{Tables, end_of, Contents, SameIn}
use Rattle.zb_tables.specs.Replay.{Platter}
use Rattle.zb_tables.specs.Taking.{Sizes}
use Rattle.zb_recovery.specs.Missing.{Servers}
use Rattle.zb_recovery.specs.Agreeing.{ViewAgrees}
use Rattle.zb_tables.proofs.Growing.{same_tree}
use Rattle.zb_sound.specs.Standing.{StandFor, seen}
use Rattle.zb_tables.proofs.Taken.{same_taken, taken_entries}

-- the servers in view hold the one as the other
pub agree_same : (v : View) (contents new : Contents) (held : List HeldUse) → SameIn held contents new → ViewAgrees v contents held → ViewAgrees v new held
agree_same v contents new held same all log stripe h e =
    let s = all log stripe h e in
    let at : take h.end (contents log stripe) ≡ take h.end (new log stripe) = subst (λ (o : Option HeldUse). take (end_of o) (contents log stripe) ≡ take (end_of o) (new log stripe)) e (same log stripe) in
    record { bytes = s.bytes; held = s.held; first = sym at ∙ s.first }

module _ (z : Sizes) (contents new : Contents) (p : Platter) (st : Servers) where
  pub contents_agree : (t : Tables) (tree : Tree) (s : StandFor z contents p st t tree) → SameIn t.held contents new → StandFor z new p st t tree
  contents_agree t tree s same =
      let says = s.says in
      record {
        says = record {
          taken = same_taken z t.held contents new same [] p.entries p.tables t (taken_entries z contents p.entries p.tables t says.taken) says.taken;
          shows = sym (same_tree t.held contents new same z.block t says.points) ∙ says.shows;
          points = says.points;
          ends = says.ends;
          spelled = says.spelled;
        };
        agree = record { one_unfit = s.agree.one_unfit; agree = λ x may. agree_same (seen z st x) contents new t.held same (s.agree.agree x may) };
        none_empty = s.none_empty;
      }
