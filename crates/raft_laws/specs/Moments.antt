-- The last moment that a group was handed, after each kind of event.
use Rattle.std.specs.Prelude.{◌≡◌, ℕ, max, None}
use Rattle.raft_group_step.specs.Message.{Message}
use Rattle.raft_group_step.specs.GroupState.{GroupState}
use Rattle.raft_group_step.specs.GroupEvent.{GroupCall, Call, Receive, Open}
use Rattle.raft_group_step.specs.Refusal.{refusal_of}
use Rattle.raft_group_step.specs.GroupStep.{group_step}

-- a call that isn't refused leaves its moment, or the last one where that is later
abbrev pub MomentsOfCalls : Type 0
MomentsOfCalls =
    (own : ℕ) (s : GroupState) (call : GroupCall) (now : ℕ)
    → refusal_of own s (Call call now) ≡ None
    → (group_step own s (Call call now)).state.now ≡ max s.now now

-- so does a message
abbrev pub MomentsOfMessages : Type 0
MomentsOfMessages =
    (own : ℕ) (s : GroupState) (peer : ℕ) (m : Message) (now : ℕ)
    → refusal_of own s (Receive peer m now) ≡ None
    → (group_step own s (Receive peer m now)).state.now ≡ max s.now now

-- moments begin anew with an opening
abbrev pub MomentsOfOpenings : Type 0
MomentsOfOpenings = (own : ℕ) (s : GroupState) → (group_step own s Open).state.now ≡ 0
