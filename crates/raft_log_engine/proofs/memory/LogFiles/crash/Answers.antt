-- A crash leaves the image that is chosen.
use Rattle.raft_log_disk.specs.MemorySystem.{disk_in, meter_in}
use Rattle.raft_log_engine.proofs.Crashes.{are_crashed, refused_so}
use Rattle.raft_log_engine.proofs.Logs.{crashes}
use Rattle.raft_log_engine.proofs.memory.LogFiles.crash.Goals as goal

pub returns-clause-crashed : goal.returns-clause-crashed
returns-clause-crashed c = crashes _ _ _ _ c.crash.ensures.image c.crash.ensures.genuine c.crash.ensures.crashed

pub returns-clause-chosen : goal.returns-clause-chosen
returns-clause-chosen c =
    let e = c.crash.ensures in
    are_crashed disk_in meter_in c.crash.result c.args.choice.now c.args.self.now.files c.crash.new.self e.image e.genuine e.crashed e.meter

pub returns-clause-why : goal.returns-clause-why
returns-clause-why c =
    let e = c.crash.ensures in
    refused_so c.args.choice.now (disk_in c.args.self.now.files) c.crash.result e.not_an_image e.is_an_image e.by_chance
