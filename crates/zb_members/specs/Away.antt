-- Which servers don't take part.
use Rattle.std.specs.Prelude.{ℕ, ◌+◌, ◌==◌, Bool, false, not, ◌&&◌, ◌||◌, if◌then◌else◌, List, [], ◌∷◌, Option, None, Some}
use Rattle.zb_types.specs.declared.ids.ServerId.{ServerId}
use Rattle.zb_types.specs.declared.nodes.State.{State}
use Rattle.zb_types.specs.declared.nodes.State.TheVariants.{Whole, Out, Mending}

-- this server is out or is mended
abbrev pub names : State → ℕ → Bool
names Whole other = false
names (Out a) other = a.0 == other
names (Mending a) other = a.0 == other

-- the first of these servers, numbered from n on, that isn't this one and is out, is mended, or doesn't serve
abbrev pub first_away : State → (server n : ℕ) → List Bool → Option ServerId
first_away state server n [] = None
first_away state server n (serves ∷ others) =
    if not (n == server) && (names state n || not serves) then Some (record { 0 = n }) else first_away state server (n + 1) others
