-- The tokens that wait in worked runs.
use Rattle.std.specs.Prelude.{ℕ, List, [], ◌∷◌, ◌++◌}
use Rattle.raft_values.specs.declared.vote.Vote.{Vote}
use Rattle.raft_group_step.specs.GroupState.{GroupState, Role, Untold}
use Rattle.raft_group_step.specs.declared.group_call.GroupCall.TheVariants.{Propose}
use Rattle.raft_laws.specs.declared.world_event.WorldEvent.TheVariants.{Ask}
use Rattle.raft_laws.specs.Origins.{Events}
use Rattle.raft_laws.specs.Example.{add, to_their_end}
use Rattle.raft_laws.specs.ThreeNodes.{until_proposed}
use Rattle.raft_laws.specs.LawRuns.{state_after}
use Rattle.raft_history_laws.specs.LeaderListsRun.{leads_on_behind_a_stop}

abbrev pub token : ℕ → ℕ → Untold
token number place = record { token = number; place = place }

-- a second command is asked for before the first one is accepted
abbrev pub proposed_twice : Events
proposed_twice = to_their_end (until_proposed ++ Ask 1 (Propose (add 7) 2) 0 ∷ [])

abbrev pub waiting_after : Events → ℕ → List Untold
waiting_after es n = (state_after es n).untold

-- node 1 with a command that nobody has accepted yet
abbrev pub proposing : GroupState
proposing = state_after (to_their_end until_proposed) 1

-- node 1, opened behind a stop, with two commands of its lead before
abbrev pub reopened : GroupState
reopened = state_after leads_on_behind_a_stop 1

-- the same state under another vote, or in another role
abbrev pub under_vote : Vote ℕ → GroupState → GroupState
under_vote vote s = record s { stored = record s.stored { vote = vote } }

abbrev pub with_role : Role → GroupState → GroupState
with_role role s = record s { role = role }
