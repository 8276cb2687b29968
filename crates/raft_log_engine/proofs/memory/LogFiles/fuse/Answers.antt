-- A fuse changes what is left of it alone.
use Rattle.raft_log_disk.specs.MemorySystem.{disk_in, meter_in}
use Rattle.raft_log_engine.proofs.Crashes.{are_fused}
use Rattle.raft_log_engine.proofs.memory.LogFiles.fuse.Goals as goal

pub returns-clause-fused : goal.returns-clause-fused
returns-clause-fused c =
    let e = c.fuse.ensures in
    are_fused disk_in meter_in c.args.self.now.files c.fuse.new.self c.args.first_refused e.disk e.calls e.refusals e.lacks e.reads e.faulty
