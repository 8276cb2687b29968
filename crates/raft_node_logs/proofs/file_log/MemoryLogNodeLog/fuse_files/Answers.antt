-- What is found of files goes by their settings and by what is on the disk.
use Rattle.raft_node_logs.proofs.Files.{finds_same}
use Rattle.raft_node_logs.proofs.file_log.MemoryLogNodeLog.fuse_files.Goals as goal

pub returns : goal.returns
returns c =
    let e = c.fuse.ensures in
    record {
      fused = record { settings = e.settings; files = e.fused };
      same = finds_same c.args.files.now c.fuse.new.self e.fused.same e.settings;
    }
