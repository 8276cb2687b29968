-- The tokens of worked runs, with the numbers of their events, and how they end.
use Rattle.std.specs.Prelude.{ℕ, List, [], ◌∷◌, ◌++◌}
use Rattle.raft_group_step.specs.declared.group_call.GroupCall.TheVariants.{Propose}
use Rattle.raft_laws.specs.declared.world_event.WorldEvent.TheVariants.{Ask, Deliver}
use Rattle.raft_laws.specs.GroupWorld.{Up, new_world}
use Rattle.raft_laws.specs.Origins.{Events}
use Rattle.raft_laws.specs.Example.{add, three, to_their_end}
use Rattle.raft_laws.specs.ThreeNodes.{until_proposed}
use Rattle.raft_laws.specs.OneVoter.{one, stopped_proposal}
use Rattle.raft_history_laws.specs.NotedIdsRun.{asked_follower}
use Rattle.raft_history_laws.specs.TokenEnds.{EndsAt, IsBrought, Numbered, ledger_of, that_ended, that_wait}
use Rattle.raft_history_laws.specs.WaitingTokensRun.{proposing, token}

-- the token of the event with this number, for a place
abbrev pub of_event : (number value place : ℕ) → Numbered
of_event number value place = record { number = number; untold = token value place }

abbrev pub ledger_after : Events → ℕ → List Numbered
ledger_after es n = ledger_of es (new_world three) n

-- two commands have the same token
abbrev pub equal_tokens : Events
equal_tokens = to_their_end (until_proposed ++ Ask 1 (Propose (add 7) 1) 0 ∷ [])

-- the first of them is accepted and told
abbrev pub first_told : Events
first_told = equal_tokens ++ to_their_end (Deliver 8 0 ∷ Deliver 9 0 ∷ [])

-- the token of the command of event 8 ends in the event with this number
abbrev pub CommandEndsAt : Events → ℕ → Type 0
CommandEndsAt es at = EndsAt es (new_world three) 1 (of_event 8 1 2) at

-- a proposal of one voter that stops ends in its own event
abbrev pub StoppedEndsAt : ℕ → ℕ → Type 0
StoppedEndsAt k at = EndsAt (stopped_proposal k) (new_world one) 1 (of_event 2 1 2) at

-- a follower was asked for a command
abbrev pub BroughtToFollower : ℕ → Type 0
BroughtToFollower place = IsBrought asked_follower (new_world three) 11 2 (token 9 place)

abbrev pub both : List Numbered
both = of_event 8 1 2 ∷ of_event 9 2 3 ∷ []

-- of two tokens, those for whose place a token waits at the leader of one command, and the other ones
abbrev pub waiting_of_both : List Numbered
waiting_of_both = that_wait (Up proposing) both

abbrev pub ended_of_both : List Numbered
ended_of_both = that_ended (Up proposing) both
