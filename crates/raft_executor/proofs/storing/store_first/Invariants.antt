-- What is stored, with what is left of the first ones, is what the queue stores.
use Rattle.std.proofs.Common.{length, None}
use Rattle.std.specs.Option.{option_copied}
use Rattle.raft_group_step.specs.StoredGroup.{Snapshot}
use Rattle.raft_engine.specs.Commands.{stored_by}
use Rattle.raft_group_storage.specs.Keeping.{KeepsOthers}
use Rattle.raft_executor.specs.Stored.{IsGiven, first_of, queue_has_snapshot}
use Rattle.raft_executor.proofs.StoringLemmas.{IsStoredSoFar}
use Rattle.raft_executor.proofs.storing.store_first.Given as goal

abbrev pub invariant-loop-command : goal.invariant-loop-command
invariant-loop-command g l =
    (g.S.GroupStorage.is_well l.fn.storage → g.S.GroupStorage.is_well l.storage)
    × (KeepsOthers (g.S.GroupStorage.shows l.fn.storage) (g.S.GroupStorage.shows l.storage) l.group)
    × ((x : Snapshot) → IsGiven g.S.GroupStorage.stands (queue_has_snapshot l.queue.queue) (option_copied l.snapshot) x → g.S.GroupStorage.is_well l.fn.storage
    → (IsGiven g.S.GroupStorage.stands (queue_has_snapshot l.left) (option_copied l.snapshot) x)
    × (IsStoredSoFar (first_of l.fn.limit (stored_by x l.queue.queue)) l.room (stored_by x l.left) (g.S.GroupStorage.shows l.fn.storage) (g.S.GroupStorage.shows l.storage) l.group))
    × g.S.GroupStorage.meets l.fn.storage l.storage None

abbrev pub decreases-loop-command : goal.decreases-loop-command
decreases-loop-command g l = length l.left
