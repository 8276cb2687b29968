-- The words at the end of an event go on from what was done before.
use Rattle.std.specs.Prelude.{◌≡◌, ℕ, ◌++◌, None}
use Rattle.raft_group_step.specs.StepResult.{StepResult, unchanged}
use Rattle.raft_group_step.specs.Opening.{resume_lead}
use Rattle.raft_group_step.specs.GroupStep.{finished}

-- the same result behind what was stored, sent and told before
abbrev pub behind : StepResult → StepResult → StepResult
behind before r =
    record r {
      commands = before.commands ++ r.commands;
      messages = before.messages ++ r.messages;
      told = before.told ++ r.told;
      unknown = before.unknown ++ r.unknown;
    }

-- what an opening does at its end depends on the state alone. So code that has stored some of it before gives the same, where
-- it goes on from the state that this left
abbrev pub OpeningsGoOn : Type 0
OpeningsGoOn =
    (own : ℕ) (r : StepResult) → r.refused ≡ None
    → finished own None (resume_lead own r) ≡ behind r (finished own None (resume_lead own (unchanged r.state)))
