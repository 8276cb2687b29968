use Rattle.std.specs.Prelude.{Vec, map, take}
use Rattle.std.proofs.Common.{subst}
use Rattle.std.specs.declared.alloc.Global.{Global}
use Rattle.raft_world.specs.World.{HasMarked, planned_of}
use Rattle.raft_world.specs.declared.world.Mark.{Mark}
use Rattle.raft_world.proofs.GroupLemmas.{run_with_marks, with_marks}
use Rattle.raft_world.proofs.world.World.run.Goals as goal

pub returns-clause-run : goal.returns-clause-run
returns-clause-run c = λ ids rs g history h.
    run_with_marks ids rs g c.args.events.now c.run_marked-count.result c.run_marked-count.new.self _ (c.run_marked-count.ensures.run ids rs g history (with_marks c.args.self.now g _ h))

pub returns-clause-marks : goal.returns-clause-marks
returns-clause-marks c = λ ids rs g history h.
    subst (λ (marks : Vec Mark Global). HasMarked marks.items g (map planned_of (take c.run_marked-count.result c.args.events.now)) c.run_marked-count.new.marks.items) c.replace-marks.ensures.value
    (c.run_marked-count.ensures.marks ids rs g history (with_marks c.args.self.now g _ h))
