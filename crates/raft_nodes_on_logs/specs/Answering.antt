-- What a node over a log answers, in a cluster's words.
use Rattle.std.specs.Prelude.{List, [], Option, Some, None, map}
use Rattle.raft_cluster_events.specs.declared.node.NodeOutcome.{NodeOutcome}
use Rattle.raft_cluster_events.specs.declared.outcome.NodeError.{NodeError}
use Rattle.raft_cluster_events.specs.declared.outcome.NodeError.TheVariants as error
use Rattle.raft_cluster_events.specs.declared.outcome.NodeRefusal.TheVariants as refusal
use Rattle.raft_cluster_events.specs.declared.outcome.Stop.{Stop}
use Rattle.raft_cluster_events.specs.declared.outcome.StopCause.{StopCause}
use Rattle.raft_cluster_events.specs.declared.outcome.StopCause.TheVariants as stop_cause
use Rattle.raft_framed_groups.specs.declared.frames.GroupFrame.{GroupFrame}
use Rattle.raft_machines.specs.declared.telling.UnknownTokens.{UnknownTokens}
use Rattle.raft_node.specs.declared.outcome.Outcome.{Outcome}
use Rattle.raft_node_faults.specs.declared.fault.Cause.{Cause}
use Rattle.raft_node_faults.specs.declared.fault.Cause.TheVariants as cause
use Rattle.raft_node_faults.specs.declared.fault.Fault.{Fault}
use Rattle.raft_node_faults.specs.declared.fault.Fault.TheVariants as fault
use Rattle.raft_node_logs.specs.Stopping.{quiet_stop}
use Rattle.raft_sent_frames.specs.declared.frame.NodeFrame.{NodeFrame}
use Rattle.raft_store.specs.declared.fault.StoreFault.{StoreFault}
use Rattle.raft_store.specs.declared.fault.StoreFault.TheVariants as store_fault
use Rattle.raft_store.specs.declared.fault.StoreRefusal.TheVariants as store_refusal
use Rattle.raft_wire.specs.declared.error.FrameError.TheVariants as frame_error
use Rattle.raft_wire.specs.declared.error.FrameFault.TheVariants as frame_fault

-- ---- what an event did

abbrev pub node_frame : GroupFrame → NodeFrame
node_frame frame = record { peer = frame.addressee; bytes = frame.bytes.items; accepts = frame.accepts }

abbrev pub node_outcome : Outcome → NodeOutcome
node_outcome o = record { group = o.group; frames = map node_frame o.frames.items; told = o.told.items; unknown = o.unknown.items }

-- ---- why it stopped

-- by the cause that a fault of its log is
module _ {F : Type 0} (log_cause : F → StopCause) where
  abbrev pub cause_of_store : StoreFault F → StopCause
  cause_of_store (store_fault.Log met) = log_cause met
  cause_of_store (store_fault.Refused store_refusal.Memory) = stop_cause.Memory
  cause_of_store (store_fault.Refused store_refusal.TooLong) = stop_cause.TooLong
  -- a machine's snapshot past the limit
  cause_of_store (store_fault.Refused (store_refusal.Value frame_fault.TooLong)) = stop_cause.TooLong
  cause_of_store (store_fault.Refused other) = stop_cause.Other

  -- an event whose frame is too long has the machine's snapshot in it
  abbrev pub cause_of : Cause (StoreFault F) → StopCause
  cause_of cause.Memory = stop_cause.Memory
  cause_of cause.Unjudged = stop_cause.Memory
  cause_of (cause.Storage met) = cause_of_store met
  cause_of (cause.Frame frame_error.Memory) = stop_cause.Memory
  cause_of (cause.Frame other) = stop_cause.TooLong

  -- all that waited is named, as it was
  abbrev pub stop_of : Cause (StoreFault F) → List UnknownTokens → Stop
  stop_of why unknown = record { cause = cause_of why; unsaid = None; unknown = unknown }

  -- ---- why it isn't done

  abbrev pub error_of : Fault (StoreFault F) → NodeError
  error_of (fault.NotLeader leader) = error.Refused (refusal.NotLeader leader)
  error_of fault.UnknownGroup = error.Refused refusal.UnknownGroup
  error_of fault.GroupExists = error.Refused refusal.GroupExists
  error_of fault.NotAllowed = error.Refused refusal.NotAllowed
  error_of fault.NotVoter = error.Refused refusal.NotVoter
  error_of (fault.Membership why) = error.Refused (refusal.Membership why)
  error_of fault.VoterChange = error.Refused refusal.VoterChange
  error_of fault.InProgress = error.Refused refusal.InProgress
  error_of fault.CommandTooLong = error.Refused refusal.CommandTooLong
  error_of fault.NumberAtEnd = error.Refused refusal.NumberAtEnd
  error_of fault.Failed = error.Refused refusal.Failed
  error_of fault.WrongParty = error.Refused refusal.WrongParty
  error_of fault.TooMuchForBatch = error.Refused refusal.TooMuchForBatch
  error_of fault.BreaksCondition = error.Refused refusal.BreaksCondition
  error_of (fault.Frame why) = error.Refused refusal.Frame
  error_of (fault.Stopped why unknown) = error.Stopped (stop_of why unknown.items)

  -- the stop that a fault is; one that is none is a stop of another cause
  abbrev pub stop_in : Fault (StoreFault F) → Stop
  stop_in (fault.Stopped why unknown) = stop_of why unknown.items
  stop_in other = quiet_stop stop_cause.Other
