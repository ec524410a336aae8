-- Bytes below 128 are a text.
use Rattle.std.proofs.Common.{◌≡◌, ℕ, ◌<◌, ltb, true, List, [], ◌∷◌}
use Rattle.std.specs.Str.{IsUtf8}
use Rattle.std.specs.List.{list_all, AllByRecursion}
use Rattle.std.proofs.lemmas.Str.{IsUtf8-from_ascii}
use Rattle.std.proofs.lemmas.Str.Ascii.{IsAscii-from_all}
use Rattle.std.proofs.lemmas.List.Elements.{All-from_recursion}
use Rattle.std.proofs.lemmas.Bool.{and_parts, ltb-true}

ascii_bytes : (bytes : List ℕ) → list_all (λ b. ltb b 128) bytes ≡ true → AllByRecursion (λ b. b < 128) bytes
ascii_bytes [] h = tt
ascii_bytes (b ∷ bytes) h = let p = and_parts _ _ h in (ltb-true b 128 p.0, ascii_bytes bytes p.1)

pub ascii_text : (bytes : List ℕ) → list_all (λ b. ltb b 128) bytes ≡ true → IsUtf8 bytes
ascii_text bytes h = IsUtf8-from_ascii bytes (IsAscii-from_all bytes (All-from_recursion (λ b. b < 128) bytes (ascii_bytes bytes h)))
