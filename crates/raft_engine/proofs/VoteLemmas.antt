-- A candidate is answered, whether its vote is granted or not.
use Rattle.std.specs.Prelude.{◌≡◌, ℕ, Bool, true, false, if◌then◌else◌, refl}
use Rattle.raft_values.specs.declared.vote.Vote.{Vote}
use Rattle.raft_group_step.specs.StepResult.{StepResult, take_over}
use Rattle.raft_group_step.specs.VoteRequest.{judged, reply_vote}

pub judged_by : (own peer : ℕ) (vote : Vote ℕ) (granted : Bool) (r : StepResult) → reply_vote own peer granted (if granted then take_over vote r else r) ≡ judged own peer vote granted r
judged_by own peer vote true r = refl
judged_by own peer vote false r = refl
