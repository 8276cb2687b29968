-- What is told of keys, wherever a cluster's history leads.
use Rattle.std.specs.Prelude.{◌≡◌, ℕ, List, [], ◌∷◌, slice_get, Some, Contains}
use Rattle.raft_group_step.specs.declared.group_call.GroupCall.TheVariants.{Propose}
use Rattle.raft_group_step.specs.GroupEvent.{GroupCall}
use Rattle.raft_laws.specs.OneList.{AreNodeIds}
use Rattle.raft_laws.specs.Settled.{group_list}
use Rattle.raft_laws.specs.Stop.{token_of_call}
use Rattle.raft_machines.specs.declared.telling.Told.{Told}
use Rattle.raft_headline.specs.ClusterEvent.{Ask, Recorded}
use Rattle.raft_headline.specs.Machines.{Replicas, new_replicas}
use Rattle.raft_headline.specs.Replaying.{ReplaysFor}
use Rattle.raft_headline.specs.Told.{said_by}
use Rattle.raft_wire.specs.declared.kv.KvCommand.{KvCommand}
use Rattle.raft_wire.specs.declared.kv.KvCommand.TheVariants.{Get}
use Rattle.raft_wire.specs.Kv.{spelled_command, FitsCommand, IsKey}
use Rattle.raft_kv.specs.Machine.{answer_of, kv}
use Rattle.raft_kv_reading.specs.Values.{Key, command_on, value_before}
use Rattle.raft_kv_reading.specs.Answers.{TellsValue}

-- an event of the history told this of the group
pub record IsTold (h : ℕ) (history : List Recorded) (told : Told) : Type 0 where
  pub number : ℕ
  pub event : Recorded
  pub stands : slice_get history number ≡ Some event
  pub has : Contains (said_by h event.event event.outcome).told told

-- each told answer tells the value that its command's key has before the told place of the group's
-- list
abbrev pub ToldAnswersTellValues : Type 0
ToldAnswersTellValues =
    (ids : List ℕ) → AreNodeIds ids → (h : ℕ) (history : List Recorded) (end : Replicas)
    → ReplaysFor kv h (new_replicas kv ids) history end
    → (told : Told) → IsTold h history told
    → TellsValue (group_list end.world) told.place told.answer

-- whoever came to the group with this token asked for this command
abbrev pub IsTokenOf : ℕ → List Recorded → ℕ → KvCommand → Type 0
IsTokenOf h history token command =
    (number node now : ℕ) (event : Recorded) (call : GroupCall)
    → slice_get history number ≡ Some event → event.event ≡ Ask node h call now
    → token_of_call call ≡ token ∷ []
    → call ≡ Propose (spelled_command command) token

-- a client that gave its token to one command, and is told it, is told the place of this command
abbrev pub ToldCommandsStand : Type 0
ToldCommandsStand =
    (ids : List ℕ) → AreNodeIds ids → (h : ℕ) (history : List Recorded) (end : Replicas)
    → ReplaysFor kv h (new_replicas kv ids) history end
    → (told : Told) → IsTold h history told
    → (command : KvCommand) → FitsCommand command → IsTokenOf h history told.token command
    → command_on (group_list end.world) told.place ≡ Some command

-- so a told get answers the value that its key has in the puts and drops of the list before it
abbrev pub ToldGetsTellValues : Type 0
ToldGetsTellValues =
    (ids : List ℕ) → AreNodeIds ids → (h : ℕ) (history : List Recorded) (end : Replicas)
    → ReplaysFor kv h (new_replicas kv ids) history end
    → (told : Told) → IsTold h history told
    → (key : Key) → IsKey key → IsTokenOf h history told.token (Get key)
    → told.answer ≡ answer_of (value_before (group_list end.world) told.place key)
