-- What a sync leaves, refused or not.
use Rattle.std.specs.Prelude.{◌≡◌, []}
use Rattle.raft_log_disk.specs.Disk.{Disk}
use Rattle.raft_log_pipe.specs.Pipe.{Holds, Numbered}
use Rattle.raft_log_pipes.specs.declared.pipes.DualPipes.{DualPipes}
use Rattle.raft_log_pipes.specs.Pipes.{ArePipes, IsAsBefore}

-- What is on the disk stays there, in the same files
pub record IsStill (d : Disk) (p : DualPipes) (e : Disk) (q : DualPipes) : Type 0 where
  pub pipes : ArePipes p d → ArePipes q e
  pub same : (q.append.active ≡ p.append.active) × (q.append.older ≡ p.append.older)
  pub paths : q.append.paths ≡ p.append.paths
  pub names : e.names ≡ d.names
  pub other : IsAsBefore p.rewrite d q.rewrite e
  pub holds : (bs : Numbered) → Holds p.append d bs [] → Holds q.append e bs []
