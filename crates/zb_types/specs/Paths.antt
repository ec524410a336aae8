-- Names and paths.
use Rattle.std.specs.Prelude.{ℕ, Bool, false, not, ◌&&◌, ◌||◌, ◌==◌, List, [], ◌∷◌, ◌++◌, length, nat_le, nat_lt, if◌then◌else◌}
use Rattle.std.specs.List.{list_all}

-- a printable byte other than a space or a slash
abbrev pub is_name_byte : ℕ → Bool
is_name_byte b = nat_le 33 b && nat_le b 126 && not (b == 47)

-- one dot, or two
abbrev pub is_dots : List ℕ → Bool
is_dots [] = false
is_dots (a ∷ []) = a == 46
is_dots (a ∷ (b ∷ [])) = a == 46 && b == 46
is_dots (a ∷ (b ∷ (c ∷ rest))) = false

-- 1 to 64 such bytes, and no dots
abbrev pub is_name : List ℕ → Bool
is_name name = not (is_dots name || length name == 0 || nat_lt 64 (length name)) && list_all is_name_byte name

-- what stands before the first slash is a name, and so is what stands behind each slash
abbrev pub are_names : List ℕ → List ℕ → Bool
are_names name [] = is_name name
are_names name (b ∷ rest) = if b == 47 then is_name name && are_names [] rest else are_names (name ++ b ∷ []) rest

-- one or more of a slash with a name, at most 1,024 bytes
abbrev pub is_path : List ℕ → Bool
is_path [] = false
is_path (b ∷ rest) = b == 47 && are_names [] rest && nat_le (length rest) 1023
