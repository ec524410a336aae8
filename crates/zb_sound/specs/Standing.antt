-- What standing platters are for, at one choice of their images.
use Rattle.std.specs.Prelude.{◌≡◌, ◌⊎◌, [], Option, IsSomeAnd}
use Rattle.zb_types.specs.declared.ids.ServerId.{ServerId}
use Rattle.zb_types.specs.Tree.{Tree}
use Rattle.zb_holding.specs.Holding.{View, view_of}
use Rattle.zb_stripe_laws.specs.PartAtWork.{HasNoEmptyShare}
use Rattle.zb_tables.specs.Tables.{Tables, Contents, shown_tree, EachFile, EndsInFile, PointsIn}
use Rattle.zb_tables.specs.Replay.{Platter}
use Rattle.zb_tables.specs.Taking.{Sizes, AreTaken}
use Rattle.zb_tables.specs.Checkpoint.{AreTables}
use Rattle.zb_recovery.specs.Missing.{Servers}
use Rattle.zb_recovery.specs.Agreeing.{ServersAgree}
use Rattle.zb_recovery.specs.Recovered.{Recovers}

-- the view of the servers, where one or none isn't looked at
abbrev pub seen : Sizes → Servers → Option ServerId → View
seen z st x = view_of z.servers z.fragment st.maps x

-- the file manager's platter says these tables, which show this tree
pub record Says (z : Sizes) (contents : Contents) (p : Platter) (tables : Tables) (tree : Tree) : Type 0 where
  -- each entry since the checkpoint could be taken, and they lead to the tables
  pub taken : AreTaken z contents [] p.tables p.entries tables
  pub shows : shown_tree z.block tables contents ≡ tree
  -- each pointer names a byte, and lies in the committed part of a held stripe
  pub points : EachFile (PointsIn tables.held) tables.files
  -- no block reaches past its file's end
  pub ends : EachFile (EndsInFile z.block) tables.files
  -- what the platter's checkpoint says is one
  pub spelled : AreTables z p.tables

-- The file manager's platter and the servers stand for these tables and a tree, whose bytes are those of the stripes'
-- contents.
pub record StandFor (z : Sizes) (contents : Contents) (p : Platter) (st : Servers) (tables : Tables) (tree : Tree) : Type 0 where
  pub says : Says z contents p tables tree
  pub agree : ServersAgree z.servers z.fragment st tables.members contents tables.held
  -- no share that stands is empty, so that a first store finds its name free
  pub none_empty : HasNoEmptyShare st.maps

-- they stand for a tree
abbrev pub StandForTree : Sizes → Contents → Platter → Servers → Tree → Type 0
StandForTree z contents p st tree = (tables : Tables) × StandFor z contents p st tables tree

-- they stand for the tree of the history, or for that with the batch under way
abbrev pub StandForEither : Sizes → Contents → Platter → Servers → Tree → Option Tree → Type 0
StandForEither z contents p st tree under_way = StandForTree z contents p st tree ⊎ IsSomeAnd under_way (StandForTree z contents p st)

-- they recover to the tree of the history, or to that with the batch under way
abbrev pub RecoversEither : Sizes → Platter → Servers → Option ServerId → Tree → Option Tree → Type 0
RecoversEither z p st x tree under_way = Recovers z.block p (seen z st x) tree ⊎ IsSomeAnd under_way (Recovers z.block p (seen z st x))
