-- The bytes of an entry.
use Rattle.std.specs.Prelude.{ℕ, ◌+◌, ◌*◌, ◌<◌, List, [], ◌∷◌, ◌++◌, length}
use Rattle.std.specs.List.{flat_map, AllByRecursion}
use Rattle.zb_types.specs.declared.ids.Piece.{Piece}
use Rattle.zb_types.specs.declared.nodes.State.{State}
use Rattle.zb_types.specs.declared.nodes.State.TheVariants.{Whole, Out, Mending}
use Rattle.zb_entries.specs.declared.entry.Entry.{Entry}
use Rattle.zb_entries.specs.declared.entry.Entry.TheVariants.{Attach, Commit, Mark, Retire}
use Rattle.zb_numbers.specs.Numbers.{number_text, IsBelow}
use Rattle.zb_journal.specs.declared.fields.Fields.{Fields}

-- the pieces of a commit; no other entry has any
abbrev pub pieces_of : Entry → List Piece
pieces_of (Attach owner log) = []
pieces_of (Commit log batch generation pieces) = pieces
pieces_of (Mark members) = []
pieces_of (Retire log stripe) = []

-- an entry has 32 bytes, and 16 for each piece
abbrev pub size_of : Entry → ℕ
size_of entry = 32 + 16 * length (pieces_of entry)

-- 0 for all servers taking part, 1 for one that is out, 2 for one that is mended
abbrev pub state_number : State → ℕ
state_number Whole = 0
state_number (Out server) = 1
state_number (Mending server) = 2

-- the server that a state names, 0 where it names none
abbrev pub server_in : State → ℕ
server_in Whole = 0
server_in (Out server) = server.0
server_in (Mending server) = server.0

-- the numbers of an entry, apart from its own number and its pieces
abbrev pub fields_of : Entry → Fields
fields_of (Attach owner log) = record { kind = 1; count = 0; who = log.0; what = owner; generation = 0 }
fields_of (Commit log batch generation pieces) = record { kind = 2; count = length pieces; who = log.0; what = batch; generation = generation }
fields_of (Mark members) = record { kind = 3; count = 0; who = server_in members.state; what = state_number members.state; generation = members.generation }
fields_of (Retire log stripe) = record { kind = 4; count = 0; who = log.0; what = stripe; generation = 0 }

-- kind, count of pieces, log or server, owner or batch or state or stripe, generation, and the entry's own number
abbrev pub fields_text : Fields → ℕ → List ℕ
fields_text f number = f.kind ∷ (number_text 2 f.count ++ (number_text 4 f.who ++ (number_text 8 f.what ++ (number_text 8 f.generation ++ number_text 8 number))))

-- stripe, offset and length
abbrev pub piece_text : Piece → List ℕ
piece_text p = number_text 8 p.stripe ++ (number_text 4 p.offset ++ number_text 4 p.len)

-- what stands behind the gate of the entry with this number
abbrev pub body_text : ℕ → Entry → List ℕ
body_text number entry = fields_text (fields_of entry) number ++ flat_map piece_text (pieces_of entry)

-- the open gate, and what stands behind it
abbrev pub entry_text : ℕ → Entry → List ℕ
entry_text number entry = 1 ∷ body_text number entry

-- a piece whose numbers have room in their bytes
pub record IsPiece (p : Piece) : Type 0 where
  pub stripe : IsBelow 8 p.stripe
  pub offset : IsBelow 4 p.offset
  pub len : IsBelow 4 p.len

-- numbers that have room in their bytes
pub record IsFields (f : Fields) : Type 0 where
  pub count : IsBelow 2 f.count
  pub who : IsBelow 4 f.who
  pub what : IsBelow 8 f.what
  pub generation : IsBelow 8 f.generation

-- an owner and a server are numbers of one byte
abbrev pub IsNamed : Entry → Type 0
IsNamed (Attach owner log) = owner < 256
IsNamed (Commit log batch generation pieces) = Unit {0}
IsNamed (Mark members) = server_in members.state < 256
IsNamed (Retire log stripe) = Unit {0}

-- an entry whose numbers have room
pub record IsEntry (entry : Entry) : Type 0 where
  pub fields : IsFields (fields_of entry)
  pub pieces : AllByRecursion IsPiece (pieces_of entry)
  pub named : IsNamed entry
