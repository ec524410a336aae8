-- The blocks that are wanted for operations, read off from where their blocks stand.
use Rattle.std.specs.Prelude.{ℕ, ◌+◌, if◌then◌else◌, List, [], ◌∷◌, ◌++◌, length, Option, Some, None}
use Rattle.zb_types.specs.declared.ids.Ptr.{Ptr}
use Rattle.zb_types.specs.declared.calls.Call.{Call}
use Rattle.zb_types.specs.declared.calls.Call.TheVariants.{Write, Truncate}
use Rattle.zb_types.specs.declared.tables.Found.{Found}
use Rattle.zb_basis.specs.declared.calls.Numbered.{Numbered}
use Rattle.zb_basis.specs.Wanting.{has_other}
use Rattle.zb_forming.specs.declared.draft.Was.{Was}
use Rattle.zb_forming.specs.declared.draft.Was.TheVariants.{Hole, Stored, New}
use Rattle.zb_forming.specs.declared.draft.Change.{Change}
use Rattle.zb_forming.specs.declared.draft.Drafts.{Drafts}
use Rattle.zb_forming.specs.Drafts.{draft_of}

-- the pointer as a list of one, where there is one
abbrev pub listed : Option Ptr → List Ptr
listed None = []
listed (Some ptr) = ptr ∷ []

-- a block that was found, and of which a write leaves some byte
abbrev pub wanted_where : ℕ → ℕ → ℕ → ℕ → Was → List Ptr
wanted_where b offset end k Hole = []
wanted_where b offset end k (Stored ptr) = if has_other b offset end k (Some ptr) then ptr ∷ [] else []
wanted_where b offset end k (New place) = []

-- a block that was found
abbrev pub found_where : Was → List Ptr
found_where Hole = []
found_where (Stored ptr) = ptr ∷ []
found_where (New place) = []

-- what is wanted of a block that a call makes anew
abbrev pub wanted_for : ℕ → Call → Change → List Ptr
wanted_for b (Write fid offset text) change = wanted_where b offset (offset + length text) change.block change.was
wanted_for b (Truncate fid n) change = found_where change.was
wanted_for b call change = []

-- what is wanted of the blocks that a call makes anew
abbrev pub wanted_changes : ℕ → Call → List Change → List Ptr
wanted_changes b call [] = []
wanted_changes b call (change ∷ changes) = wanted_for b call change ++ wanted_changes b call changes

-- one more operation, with no block
abbrev pub noted : ℕ → Drafts → Call → Found → Drafts
noted b s call found = record { drafts = s.drafts ++ draft_of b s call found ∷ []; blocks = s.blocks }

-- what is wanted for some calls behind others
abbrev pub wanted_after : ℕ → List Numbered → List Found → Drafts → List Ptr
wanted_after b (call ∷ calls) (found ∷ founds) s =
    wanted_changes b call.call (draft_of b s call.call found).changes ++ wanted_after b calls founds (noted b s call.call found)
wanted_after b calls founds s = []
