-- Lists of the rows.
use Rattle.std.specs.Prelude.{ℕ, zero, suc, List, [], ◌∷◌, ◌++◌, codes}
use Rattle.raft_values.specs.LogId.{log_id_of}
use Rattle.raft_state.specs.declared.entry.EntryPayload.TheVariants.{Blank, Normal}
use Rattle.raft_group_step.specs.Values.{Entry, EntryPayload}
use Rattle.raft_wire.specs.declared.kv.KvCommand.TheVariants.{Put}
use Rattle.raft_wire.specs.Kv.{spelled_command}
use Rattle.raft_kv.specs.Rows.{behind, drop_apple, get_apple, key_of, put_apple, put_b}
use Rattle.raft_kv_reading.specs.Values.{Key}

-- the entry of one leader at a place
abbrev pub entry_at : ℕ → EntryPayload → Entry
entry_at place payload = record { log_id = log_id_of 1 1 place; payload = payload }

abbrev pub apple : Key
apple = codes "apple"

abbrev pub letter_b : Key
letter_b = codes "b"

-- a second put of the key
abbrev pub put_green : List ℕ
put_green = 1 ∷ (behind 5 (codes "apple") ++ behind 5 (codes "green"))

abbrev pub get_b : List ℕ
get_b = 2 ∷ behind 1 (codes "b")

-- a get before any put; puts of two keys, one of them put again; a get; a drop, and gets behind it;
-- a put; and bytes that are no command
abbrev pub two_keys : List Entry
two_keys =
    entry_at 0 (Normal get_apple) ∷ entry_at 1 (Normal put_apple) ∷ entry_at 2 (Normal put_b)
    ∷ entry_at 3 (Normal put_green) ∷ entry_at 4 (Normal get_apple) ∷ entry_at 5 Blank
    ∷ entry_at 6 (Normal drop_apple) ∷ entry_at 7 (Normal get_apple) ∷ entry_at 8 (Normal get_b)
    ∷ entry_at 9 (Normal put_apple) ∷ entry_at 10 (Normal (9 ∷ codes "apple")) ∷ []

-- puts of so many keys, each with the value of the byte 1
unfoldable pub puts_below : ℕ → List Entry
puts_below zero = []
puts_below (suc n) =
    puts_below n ++ entry_at n (Normal (spelled_command (Put (key_of n) (1 ∷ [])))) ∷ []

-- a command behind puts of 4,096 keys
abbrev pub behind_full : List ℕ → List Entry
behind_full bytes = puts_below 4096 ++ entry_at 4096 (Normal bytes) ∷ []

-- a put of one of these keys
abbrev pub put_seven : List ℕ
put_seven = spelled_command (Put (key_of 7) (codes "red"))
