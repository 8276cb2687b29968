use Rattle.std.specs.Prelude.{ℕ, List, map, take}
use Rattle.raft_laws.specs.GroupWorld.{GroupWorld, Recorded}
use Rattle.raft_laws.specs.GroupRun.{group_run}
use Rattle.raft_laws.specs.OneList.{IsGroupHistory}
use Rattle.raft_world.specs.World.{HasMarked, IsWorldOf, planned_of}
use Rattle.raft_world.proofs.world.World.run_marked.Given as goal

abbrev pub invariant-loop-i : goal.invariant-loop-i
invariant-loop-i l = (ids : List ℕ) (rs : List Recorded) (g : GroupWorld) → IsGroupHistory ids rs g → IsWorldOf l.fn.self g → (IsWorldOf l.self (group_run (map planned_of (take l.i l.events)) g)) × HasMarked l.fn.marks.items g (map planned_of (take l.i l.events)) l.marks.items
