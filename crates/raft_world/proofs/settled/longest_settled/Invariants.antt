-- The longest part so far goes on to the longest of all.
use Rattle.std.proofs.Common.{◌≡◌, drop, map}
use Rattle.std.specs.Prelude.{fold}
use Rattle.std.specs.Option.{option_copied}
use Rattle.raft_laws.specs.Settled.{group_list, longer, settled_part}
use Rattle.raft_world.specs.Settled.{led_of, world_of}
use Rattle.raft_world.proofs.settled.longest_settled.Given as goal

abbrev pub invariant-loop-note : goal.invariant-loop-note
invariant-loop-note l =
    let w = world_of l.messages (option_copied l.setup) l.led in
    group_list w ≡ fold longer l.longest (map (settled_part w) (map led_of (drop l.note-index l.led)))
