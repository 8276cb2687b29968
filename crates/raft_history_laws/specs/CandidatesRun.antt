-- Who has granted the votes of candidates in worked runs.
use Rattle.std.specs.Prelude.{ℕ, List, [], ◌∷◌, ◌++◌, Option, Some, None}
use Rattle.raft_group_step.specs.GroupState.{Role, Follower, Candidate, Leader}
use Rattle.raft_laws.specs.declared.world_event.WorldEvent.{WorldEvent}
use Rattle.raft_laws.specs.declared.world_event.WorldEvent.TheVariants.{Deliver}
use Rattle.raft_laws.specs.Example.{to_their_end}
use Rattle.raft_laws.specs.LawRuns.{state_after}
use Rattle.raft_laws.specs.ThreeNodes.{set_up}

abbrev pub granters_in : Role → Option (List ℕ)
granters_in Follower = None
granters_in (Candidate granters) = Some granters
granters_in (Leader lead) = None

-- the granters of a node that stands for election, on three nodes
abbrev pub granters_after : List WorldEvent → ℕ → Option (List ℕ)
granters_after es n = granters_in (state_after (to_their_end es) n).role

-- node 2 grants its vote to node 1
abbrev pub until_granted : List WorldEvent
until_granted = set_up ++ Deliver 0 0 ∷ []

-- and node 1 hears of it
abbrev pub until_elected : List WorldEvent
until_elected = until_granted ++ Deliver 2 0 ∷ []
