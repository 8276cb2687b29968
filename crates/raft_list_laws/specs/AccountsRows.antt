-- Accounts of three voters, each of two leaders with three entries.
use Rattle.std.specs.Prelude.{ℕ, ◌==◌, ◌&&◌, nat_le, true, List, [], ◌∷◌}
use Rattle.std.specs.List.{list_any}
use Rattle.raft_values.specs.LogId.{log_id_of}
use Rattle.raft_values.specs.Vote.{vote_of}
use Rattle.raft_state.specs.declared.entry.EntryPayload.TheVariants.{Blank}
use Rattle.raft_group_step.specs.Values.{Entry, entry_of}
use Rattle.raft_laws.specs.GroupWorld.{Led}
use Rattle.raft_laws.specs.Example.{three}
use Rattle.raft_list_laws.specs.Accounts.{Accounts}

-- an entry of the leader of this term, which is the node with the same number
abbrev pub written : ℕ → ℕ → Entry
written term place = entry_of (log_id_of term term place) Blank

abbrev pub first_two : List Entry
first_two = written 0 0 ∷ written 1 1 ∷ []

-- what the first leader has
abbrev pub first_list : List Entry
first_list = written 0 0 ∷ written 1 1 ∷ written 1 2 ∷ []

-- what the second one has, which took over two entries
abbrev pub second_list : List Entry
second_list = written 0 0 ∷ written 1 1 ∷ written 2 2 ∷ []

-- each leader had this list last, and these nodes have accepted up to these places
abbrev pub accounts_with : List Entry → List (ℕ × ℕ) → Accounts
accounts_with list accepted =
    record {
      voters = three ∷ [];
      latest = λ vote. list;
      reached = λ vote place node. list_any (λ (x : ℕ × ℕ). x.0 == node && nat_le place x.1) accepted;
      list = [];
    }

abbrev pub second_note : Led
second_note = record { node = 2; vote = vote_of 2 2 true; list = second_list }
