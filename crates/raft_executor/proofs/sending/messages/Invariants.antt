-- What is sent, with what the commands that are left send, is what the queue sends.
use Rattle.std.proofs.Common.{◌≡◌, List, [], ◌∷◌, ◌++◌, length, None}
use Rattle.raft_group_step.specs.Message.{Message}
use Rattle.raft_group_step.specs.StoredGroup.{StoredGroup}
use Rattle.raft_engine.specs.Commands.{sent_by}
use Rattle.raft_group_storage.specs.Keeping.{KeepsAll}
use Rattle.raft_executor.specs.Said.{SaysAll}
use Rattle.raft_executor.proofs.sending.messages.Given as goal

abbrev pub invariant-loop-command : goal.invariant-loop-command
invariant-loop-command g l =
    (g.S.GroupStorage.is_well l.fn.storage → g.S.GroupStorage.is_well l.storage)
    × (KeepsAll (g.S.GroupStorage.shows l.fn.storage) (g.S.GroupStorage.shows l.storage))
    × ((s : StoredGroup) → g.S.GroupStorage.is_well l.fn.storage → g.S.GroupStorage.shows l.fn.storage l.group (s ∷ []) → l.sender.vote ≡ s.vote
    → (said : List Message) × (SaysAll g.S.GroupStorage.stands l.all.items said)
    × (said ++ sent_by l.sender.own s l.sender.committed l.left ≡ sent_by l.sender.own s l.sender.committed l.queue.queue))
    × g.S.GroupStorage.meets l.fn.storage l.storage None

abbrev pub decreases-loop-command : goal.decreases-loop-command
decreases-loop-command g l = length l.left
