-- The 40 bytes of the root cell.
use Rattle.std.specs.Prelude.{◌==◌, ◌&&◌, ◌<◌, ◌≤◌, ◌^◌, ℕ, nat_le, nat_lt, is_none, List, ◌∷◌, ◌++◌, Option, None}
use Rattle.byteorder.specs.Endian.{big_bytes}
use Rattle.zb_types.specs.Limits.{first_bad, unless, within}
use Rattle.zb_ckpt.specs.declared.numbers.Numbers.{Numbers}
use Rattle.zb_ckpt.specs.declared.root.Root.{Root}

-- the numbers one behind the other, the highest byte of each first
abbrev pub payload_text : Numbers → List ℕ
payload_text n =
    big_bytes 4 n.head ++ (big_bytes 4 n.format ++ (n.slot ∷ n.servers ∷ n.clients ∷ n.zero ∷ (big_bytes 4 n.fragment ++ (big_bytes 4 n.block
    ++ (big_bytes 4 n.slots ++ (big_bytes 8 n.length ++ big_bytes 8 n.first))))))

-- the four letters ZBRM as a number
abbrev pub letters : ℕ
letters = 1514295885

-- the first wrong field: the letters, the format, the slot, the sizes of the system, the length, the number of the first entry
abbrev pub first_wrong : Numbers → Option ℕ
first_wrong n =
    unless (n.head == letters) 1 (
    unless (n.format == 1) 2 (
    unless (nat_lt n.slot 2) 3 (
    unless (is_none (first_bad n.servers n.clients n.fragment n.block n.slots) && n.zero == 0) 4 (
    unless (nat_le n.length (2 ^ 40)) 5 (
    unless (within 1 (2 ^ 48) n.first) 6 None)))))

-- numbers that have room in their bytes
pub record HaveRoom (n : Numbers) : Type 0 where
  pub head : n.head < 2 ^ 32
  pub format : n.format < 2 ^ 32
  pub fragment : n.fragment < 2 ^ 32
  pub block : n.block < 2 ^ 32
  pub slots : n.slots < 2 ^ 32
  pub length : n.length < 2 ^ 64
  pub first : n.first < 2 ^ 64

-- the numbers of a root
abbrev pub numbers_of : Root → Numbers
numbers_of r = record {
  head = letters;
  format = 1;
  slot = r.slot;
  servers = r.geo.servers;
  clients = r.geo.clients;
  zero = 0;
  fragment = r.geo.fragment;
  block = r.geo.block;
  slots = r.geo.slots;
  length = r.length;
  first = r.first;
}

-- the payload of a root
abbrev pub root_text : Root → List ℕ
root_text r = payload_text (numbers_of r)

-- one of two slots, a checkpoint of at most 2^40 bytes, and a number of an entry
pub record IsRoot (r : Root) : Type 0 where
  pub slot : r.slot < 2
  pub size : r.length ≤ 2 ^ 40
  pub low : 1 ≤ r.first
  pub high : r.first ≤ 2 ^ 48
