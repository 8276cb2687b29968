-- Candidates of worked rows.
use Rattle.std.specs.Prelude.{ℕ, Bool, true, false, List, [], ◌∷◌, None}
use Rattle.raft_values.specs.declared.vote.Vote.{Vote}
use Rattle.raft_values.specs.Vote.{vote_of}
use Rattle.raft_group_step.specs.Values.{Membership}
use Rattle.raft_group_step.specs.Message.{VoteReply}
use Rattle.raft_group_step.specs.GroupState.{Candidate, GroupState, is_leader}
use Rattle.raft_group_step.specs.GroupEvent.{GroupEvent, Receive}
use Rattle.raft_group_step.specs.GroupStep.{group_step}
use Rattle.raft_group_step.specs.StepExample.{leads_three}

-- node 2 of three has asked for this vote, and these have granted it
abbrev pub candidate : List ℕ → GroupState
candidate granters =
    let s = leads_three None
    in record s {
      stored = record s.stored { vote = vote_of 2 2 false };
      role = Candidate granters;
    }

-- a node says whether it grants this vote
abbrev pub says : ℕ → Vote ℕ → Bool → GroupEvent
says peer vote granted =
    Receive peer
    (record { sender = peer; addressee = 2; body = VoteReply vote granted None })
    0

-- whether node 2 leads after the reply
abbrev pub leads_after : List ℕ → ℕ → Vote ℕ → Bool
leads_after granters peer vote =
    is_leader (group_step 2 (candidate granters) (says peer vote true)).state.role

abbrev pub two_voters : Membership
two_voters = record { configs = (1 ∷ 2 ∷ []) ∷ []; nodes = (1, []) ∷ (2, []) ∷ [] }
