-- A call's keyword, and what stands behind it.
use Rattle.std.specs.Prelude.{◌≡◌, ℕ, List, [], ◌∷◌, ◌++◌, Option, Some, None, codes, IsTrue}
use Rattle.std.specs.Fmt.{decimal}
use Rattle.zb_types.specs.declared.calls.Call.{Call}
use Rattle.zb_types.specs.declared.calls.Call.TheVariants.{Create, Mkdir, Remove, Rename, Write, Truncate, Sync, Read, List as ListOf, Stat, Find}
use Rattle.zb_types.specs.Paths.{is_path}
use Rattle.zb_claims.specs.Text.{quoted, IsCall}
use Rattle.zb_script.specs.declared.verbs.Verb.{Verb}
use Rattle.zb_script.specs.declared.verbs.Verb.TheVariants as verbs

-- the bytes of a valid path
abbrev pub IsPath : List ℕ → Type 0
IsPath path = IsTrue (is_path path)

-- a path stands as its bytes
abbrev pub path_text : List ℕ → List ℕ
path_text path = path

-- any keyword
abbrev pub IsVerb : Verb → Type 0
IsVerb verb = Unit {0}

-- the keyword in letters
abbrev pub verb_text : Verb → List ℕ
verb_text verbs.Create = codes "create"
verb_text verbs.Mkdir = codes "mkdir"
verb_text verbs.Remove = codes "remove"
verb_text verbs.Rename = codes "rename"
verb_text verbs.Write = codes "write"
verb_text verbs.Truncate = codes "truncate"
verb_text verbs.Read = codes "read"
verb_text verbs.List = codes "list"
verb_text verbs.Stat = codes "stat"
verb_text verbs.Open = codes "open"

-- the keyword of a call that has more words
abbrev pub verb_of : Call → Option Verb
verb_of (Create path) = Some verbs.Create
verb_of (Mkdir path) = Some verbs.Mkdir
verb_of (Remove path) = Some verbs.Remove
verb_of (Rename path to) = Some verbs.Rename
verb_of (Write fid offset bytes) = Some verbs.Write
verb_of (Truncate fid size) = Some verbs.Truncate
verb_of Sync = None
verb_of (Read fid offset len) = Some verbs.Read
verb_of (ListOf path) = Some verbs.List
verb_of (Stat path) = Some verbs.Stat
verb_of (Find path) = Some verbs.Open

-- what stands behind the keyword's space
abbrev pub after_verb : Call → List ℕ
after_verb (Create path) = path
after_verb (Mkdir path) = path
after_verb (Remove path) = path
after_verb (Rename path to) = path ++ 32 ∷ to
after_verb (Write fid offset bytes) = decimal fid.0 ++ 32 ∷ (decimal offset ++ 32 ∷ quoted bytes)
after_verb (Truncate fid size) = decimal fid.0 ++ 32 ∷ decimal size
after_verb Sync = []
after_verb (Read fid offset len) = decimal fid.0 ++ 32 ∷ (decimal offset ++ 32 ∷ decimal len)
after_verb (ListOf None) = 47 ∷ []
after_verb (ListOf (Some path)) = path
after_verb (Stat path) = path
after_verb (Find path) = path

-- a valid call with this keyword
abbrev pub IsCallOf : Verb → Call → Type 0
IsCallOf verb call = IsCall call × (verb_of call ≡ Some verb)
