-- The text of what a node answers.
use Rattle.std.specs.Prelude.{◌≡◌, None, ℕ, List, [], ◌++◌, codes, drop, map}
use Rattle.std.specs.Fmt.{decimal}
use Rattle.std.specs.List.{flat_map}
use Rattle.hex.specs.Hex.{encode_lower}
use Rattle.raft_cluster_events.specs.declared.outcome.EventOutcome.TheVariants.{Done}
use Rattle.raft_cluster_events.specs.declared.outcome.GroupOutcome.{GroupOutcome}
use Rattle.raft_cluster_events.specs.declared.outcome.StopCause.TheVariants.{Other}
use Rattle.raft_cluster_script.specs.Answers.{outcome_text, stop_text as cluster_stop_text}
use Rattle.raft_framed_groups.specs.declared.frames.GroupFrame.{GroupFrame}
use Rattle.raft_machines.specs.declared.telling.Told.{Told}
use Rattle.raft_machines.specs.declared.telling.UnknownTokens.{UnknownTokens}
use Rattle.raft_node.specs.declared.outcome.Outcome.{Outcome}
use Rattle.raft_node_faults.specs.Fault.{name_of, number_of}
use Rattle.raft_node_faults.specs.declared.fault.Fault.{Fault}
use Rattle.raft_node_faults.specs.declared.fault.Fault.TheVariants as fault
use Rattle.raft_node_script.specs.Home.{label_of}
use Rattle.raft_node_script.specs.declared.home.HomeRefusal.{HomeRefusal}
use Rattle.raft_node_status.specs.Queues.{queues_text}
use Rattle.raft_node_status.specs.Text.{status_text}
use Rattle.raft_node_status.specs.declared.queues.LogStatus.{LogStatus}
use Rattle.raft_node_status.specs.declared.status.GroupStatus.{GroupStatus}
use Rattle.raft_script_answers.specs.Answer.{done_text as cluster_done_text, newline, refused_text}
use Rattle.raft_script_answers.specs.declared.refusal.Refusal.TheVariants as shown

-- a frame that leaves, with its bytes
abbrev pub frame_text : GroupFrame → List ℕ
frame_text frame = codes " >" ++ decimal frame.addressee ++ codes ":" ++ encode_lower frame.bytes.items

abbrev pub frames_text : List GroupFrame → List ℕ
frames_text frames = flat_map frame_text frames

-- the frames of all outcomes
abbrev pub sent_text : List Outcome → List ℕ
sent_text outcomes = flat_map (λ (o : Outcome). frames_text o.frames.items) outcomes

-- an outcome as a cluster's, which numbers its frames: here they are left out
abbrev pub without_frames : Outcome → GroupOutcome
without_frames o = record { group = o.group; sent = []; told = o.told.items; unknown = o.unknown.items }

-- what is behind the `ok` of a cluster's answer
abbrev pub told_text : (Told → List ℕ) → List Outcome → List ℕ
told_text shows outcomes = drop 2 (outcome_text shows (Done (map without_frames outcomes)))

-- the frames in place of a cluster's
abbrev pub done_text : (Told → List ℕ) → List Outcome → List ℕ
done_text shows outcomes = codes "ok" ++ sent_text outcomes ++ told_text shows outcomes

-- the groups that hold old files back
abbrev pub cleaned_text : List ℕ → List ℕ
cleaned_text groups = cluster_done_text [] [] [] groups

-- a stop, with the tokens that stay unknown
abbrev pub stop_text : List UnknownTokens → List ℕ
stop_text unknown = cluster_stop_text (record { cause = Other; unsaid = None; unknown = unknown })

-- a refusal by its number and name
abbrev pub named_text : {F : Type 0} → Fault F → List ℕ
named_text why = codes "refused " ++ decimal (number_of why) ++ codes " " ++ name_of why ++ newline

abbrev pub fault_text : {F : Type 0} → Fault F → List ℕ
fault_text (fault.Stopped cause unknown) = stop_text unknown.items
fault_text (fault.NotLeader leader) = refused_text (shown.NotLeader leader) []
fault_text why = named_text why

-- two lines on one, the first without its newline
abbrev pub IsOneLineOf : List ℕ → List ℕ → List ℕ → Type 0
IsOneLineOf first second text =
    (line : List ℕ) × (first ≡ line ++ newline) × (text ≡ line ++ codes "; " ++ second)

-- what the node knows of a group, and the files of its storage
abbrev pub known_text : GroupStatus → LogStatus → List ℕ
known_text told log = status_text told ++ queues_text log ++ newline

-- a storage that isn't opened
abbrev pub unopened_text : HomeRefusal → List ℕ
unopened_text why = codes "refused " ++ label_of why ++ newline
