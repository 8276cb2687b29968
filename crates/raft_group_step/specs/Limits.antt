-- How large numbers, commands, requests, memberships and snapshots may be, and the tests of it.
use Rattle.std.specs.Prelude.{ℕ, ◌^◌, Bool, nat_le, nat_lt, List, length}

-- terms, places, moments and request numbers are below this
abbrev pub number_limit : ℕ
number_limit = 2 ^ 62

-- a command has at most so many bytes
abbrev pub command_limit : ℕ
command_limit = 65536

-- at most so many entries go in one request
abbrev pub entries_in_request : ℕ
entries_in_request = 64

-- a membership has at most so many voter groups
abbrev pub voter_group_limit : ℕ
voter_group_limit = 8

-- a voter group has at most so many voters
abbrev pub voter_limit : ℕ
voter_limit = 64

-- a membership has at most so many nodes
abbrev pub node_limit : ℕ
node_limit = 128

-- an address has at most so many bytes
abbrev pub address_limit : ℕ
address_limit = 255

-- a snapshot has at most so many bytes of the machine
abbrev pub snapshot_limit : ℕ
snapshot_limit = 16777216

-- ---- tests

abbrev pub is_low : ℕ → Bool
is_low n = nat_lt n number_limit

abbrev pub is_short_command : List ℕ → Bool
is_short_command command = nat_le (length command) command_limit

abbrev pub are_few_groups : List (List ℕ) → Bool
are_few_groups groups = nat_le (length groups) voter_group_limit

-- so many voters may be in a group
abbrev pub are_few_voters : ℕ → Bool
are_few_voters count = nat_le count voter_limit

-- so many nodes may be in a membership
abbrev pub are_few_nodes : ℕ → Bool
are_few_nodes count = nat_le count node_limit

abbrev pub is_short_address : List ℕ → Bool
is_short_address address = nat_le (length address) address_limit
