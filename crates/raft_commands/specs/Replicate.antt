-- What a request to a peer brings.
use Rattle.std.specs.Prelude.{Bool, true, false}
use Rattle.raft_group_step.specs.declared.request_id.RequestId.{RequestId}
use Rattle.raft_group_step.specs.declared.request_id.RequestId.TheVariants.{HeartBeat}
use Rattle.raft_commands.specs.declared.replicate.Data.{Data}
use Rattle.raft_commands.specs.declared.replicate.Data.TheVariants.{Heartbeat, Logs, Snapshot}

module _ {C D R K N : Type 0} where
  -- the request that brings it; a heartbeat has no number
  abbrev pub request_of : Data C D R K N → RequestId
  request_of Heartbeat = HeartBeat
  request_of (Logs logs) = logs.request_id
  request_of (Snapshot snapshot) = snapshot.request_id

  -- it is more than a heartbeat
  abbrev pub has_payload : Data C D R K N → Bool
  has_payload Heartbeat = false
  has_payload (Logs logs) = true
  has_payload (Snapshot snapshot) = true
