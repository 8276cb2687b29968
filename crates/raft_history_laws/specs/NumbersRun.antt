-- The numbers in worked runs.
use Rattle.std.specs.Prelude.{ℕ, List, map}
use Rattle.raft_group_step.specs.StoredGroup.{StoredGroup}
use Rattle.raft_group_step.specs.Message.{Message}
use Rattle.raft_group_step.specs.Refusal.{next_ids, numbers_of, numbers_of_entries}
use Rattle.raft_laws.specs.GroupWorld.{GroupWorld}
use Rattle.raft_laws.specs.LawRuns.{state_after}
use Rattle.raft_laws.specs.Origins.{Events}

-- the numbers of each message
abbrev pub numbers_in : GroupWorld → List (List ℕ)
numbers_in w = map (λ (m : Message). numbers_of m.body) w.messages

abbrev pub logged_in : StoredGroup → ℕ × List ℕ
logged_in st = (st.vote.leader_id.term, numbers_of_entries st.log)

-- the term of a node's vote and the numbers in its log, on three nodes
abbrev pub logged_after : Events → ℕ → ℕ × List ℕ
logged_after es n = logged_in (state_after es n).stored

-- the numbers of its next requests
abbrev pub next_after : Events → ℕ → List ℕ
next_after es n = next_ids (state_after es n).role
