-- The entries that were looked at don't pass, so the others alone count.
use Rattle.std.proofs.Common.{◌≡◌, ◌-◌, take, length}
use Rattle.std.specs.Option.{option_copied}
use Rattle.raft_laws.specs.Settled.{count_to_last, is_accepted_by_quorum}
use Rattle.raft_world.specs.Settled.{world_of}
use Rattle.raft_world.proofs.settled.settled_or_known.Given as goal

abbrev pub invariant-loop-back : goal.invariant-loop-back
invariant-loop-back l =
    let passes = is_accepted_by_quorum (world_of l.messages (option_copied l.setup) l.led) l.note.vote in
    count_to_last passes 0 0 (take (length l.note.list.items - l.back) l.note.list.items) ≡ count_to_last passes 0 0 l.note.list.items
