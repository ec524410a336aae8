-- What stands for a tree recovers to it.
use Rattle.std.proofs.Common.{◌≡◌, ◌⊎◌, ◌≤◌, ◌<◌, List, [], take, Option, Some, None, sym, ap, ◌∙◌, subst, inl, inr, arith}
use Rattle.std.specs.Prelude.{IsSomeAnd}
use Rattle.std.proofs.lemmas.List.{take-take}
use Rattle.zb_types.specs.declared.ids.ServerId.{ServerId}
use Rattle.zb_types.specs.declared.nodes.Members.{Members}
use Rattle.zb_types.specs.declared.tables.HeldUse.{HeldUse}
use Rattle.zb_types.specs.Tree.{Tree}
use Rattle.zb_holding.specs.Holding.{AreBytesOfStripe}
use Rattle.zb_tables.specs.Tables.{Tables, end_of, end_at, Contents, SameIn}
use Rattle.zb_tables.specs.Replay.{Platter, members_after}
use Rattle.zb_tables.specs.Taking.{Sizes}
use Rattle.zb_recovery.specs.Missing.{Servers, MayMiss}
use Rattle.zb_recovery.specs.Agreeing.{cut_to, ViewAgrees, AreContents}
use Rattle.zb_recovery.specs.Recovered.{Recovers}
use Rattle.zb_tables.proofs.Growing.{same_replay, same_tree}
use Rattle.zb_tables.proofs.Replaying.{members_replayed}
use Rattle.zb_recovery.proofs.Once.{recovers_once}
use Rattle.zb_sound.specs.Standing.{StandFor, StandForEither, RecoversEither, seen}
use Rattle.zb_sound.proofs.Missing.{some_may}
use Rattle.zb_tables.proofs.Taken.{taken_replays, taken_entries}

-- cutting at the committed ends leaves what is committed
pub cut_same : (held : List HeldUse) (contents : Contents) → SameIn held contents (cut_to held contents)
cut_same held contents log stripe = sym (take-take (end_at held log stripe) (end_at held log stripe) (contents log stripe) (omega arith))

module _ (z : Sizes) (contents : Contents) (p : Platter) (st : Servers) where
  cut_are : (x : Option ServerId) (held : List HeldUse) → ViewAgrees (seen z st x) contents held → AreContents (seen z st x) held (cut_to held contents)
  cut_are x held all = record {
    there = λ log stripe h e.
        subst (λ (o : Option HeldUse). AreBytesOfStripe (seen z st x) log stripe h.end (take (end_of o) (contents log stripe))) (sym e) (all log stripe h e);
    nowhere = λ log stripe e. ap (λ o. take (end_of o) (contents log stripe)) e;
  }

  pub stands_recovers : (t : Tables) (tree : Tree) (x : Option ServerId) (s : StandFor z contents p st t tree) → MayMiss z.servers (members_after p.tables.members p.entries) st.blank x
      → Recovers z.block p (seen z st x) tree
  stands_recovers t tree x s may =
      let says = s.says in
      let same = cut_same t.held contents in
      let replays = taken_replays z contents [] p.entries p.tables t says.taken in
      record {
        contents = cut_to t.held contents;
        tables = t;
        replays = same_replay t.held contents (cut_to t.held contents) same z.block p.entries p.tables t (taken_entries z contents p.entries p.tables t says.taken) replays;
        are_contents = cut_are x t.held (s.agree.agree x (subst (λ (m : Members). MayMiss z.servers m st.blank x) (sym (members_replayed z.block contents p.entries p.tables t replays)) may));
        shows = sym (same_tree t.held contents (cut_to t.held contents) same z.block t says.points) ∙ says.shows;
      }

  pub either_recovers : (tree : Tree) (under_way : Option Tree) (x : Option ServerId) → StandForEither z contents p st tree under_way
      → MayMiss z.servers (members_after p.tables.members p.entries) st.blank x → RecoversEither z p st x tree under_way
  either_recovers tree under_way x (inl s) may = inl (stands_recovers s.0 tree x s.1 may)
  either_recovers tree None x (inr s) may = absurd s
  either_recovers tree (Some with_batch) x (inr s) may = inr (stands_recovers s.0 with_batch x s.1 may)

  -- what they recover to is one of the two
  pub either_only : 2 ≤ z.servers → 0 < z.fragment → (tree : Tree) (under_way : Option Tree) (x : Option ServerId) (other : Tree) → RecoversEither z p st x tree under_way
      → Recovers z.block p (seen z st x) other → (other ≡ tree) ⊎ IsSomeAnd under_way (λ after. other ≡ after)
  either_only two pos tree under_way x other (inl r) s = inl (recovers_once z.block p (seen z st x) other tree two pos s r)
  either_only two pos tree None x other (inr r) s = absurd r
  either_only two pos tree (Some with_batch) x other (inr r) s = inr (recovers_once z.block p (seen z st x) other with_batch two pos s r)

  one_may : (t : Tables) (tree : Tree) → StandFor z contents p st t tree → (x : Option ServerId) × MayMiss z.servers (members_after p.tables.members p.entries) st.blank x
  one_may t tree s =
      let same = members_replayed z.block contents p.entries p.tables t (taken_replays z contents [] p.entries p.tables t s.says.taken) in
      subst (λ (m : Members). (x : Option ServerId) × MayMiss z.servers m st.blank x) same (some_may z.servers t.members st s.agree.one_unfit)

  pub either_may : (tree : Tree) (under_way : Option Tree) → StandForEither z contents p st tree under_way → (x : Option ServerId) × MayMiss z.servers (members_after p.tables.members p.entries) st.blank x
  either_may tree under_way (inl s) = one_may s.0 tree s.1
  either_may tree None (inr s) = absurd s
  either_may tree (Some with_batch) (inr s) = one_may s.0 with_batch s.1
