-- The limits of a system's sizes.
use Rattle.std.specs.Prelude.{◌≡◌, ℕ, ◌≤◌, ◌*◌, ◌%◌, Bool, ◌&&◌, ◌==◌, nat_le, nat_lt, if◌then◌else◌, Option, Some, None}

-- each size is within its limits, and a fragment is a whole number of blocks
pub record InLimits (servers clients fragment block slots : ℕ) : Type 0 where
  pub servers_low : 3 ≤ servers
  pub servers_high : servers ≤ 16
  pub clients_low : 1 ≤ clients
  pub clients_high : clients ≤ 8
  pub fragment_low : 256 ≤ fragment
  pub fragment_high : fragment ≤ 65536
  pub whole : fragment % block ≡ 0
  pub block_low : 64 ≤ block
  pub block_high : block ≤ 4096
  pub slots_low : 8 ≤ slots
  pub space : slots * fragment ≤ 67108864

-- from the low to the high, both included
abbrev pub within : ℕ → ℕ → ℕ → Bool
within low high n = nat_le low n && nat_le n high

-- this size is named where its test fails, else the first that the others name
abbrev pub unless : Bool → ℕ → Option ℕ → Option ℕ
unless holds field others = if holds then others else Some field

-- the first size that is out of its limits: servers, clients, fragment, block, slots
abbrev pub first_bad : ℕ → ℕ → ℕ → ℕ → ℕ → Option ℕ
first_bad servers clients fragment block slots =
    unless (within 3 16 servers) 1 (
    unless (within 1 8 clients) 2 (
    unless (within 256 65536 fragment && nat_lt 0 block && fragment % block == 0) 3 (
    unless (within 64 4096 block) 4 (
    unless (nat_le 8 slots && nat_le (slots * fragment) 67108864) 5 None))))

-- the most calls that a client keeps
abbrev pub most_kept : ℕ
most_kept = 8
