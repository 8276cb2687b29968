-- What a cleaning leaves of both pipes beside their batches.
use Rattle.std.specs.Prelude.{◌≡◌, ◌⊎◌, ◌<◌, ℕ, []}
use Rattle.raft_log_disk.specs.Disk.{Disk}
use Rattle.raft_log_disk.specs.Image.{Image, IsImage}
use Rattle.raft_log_pipe.specs.declared.pipe.SinglePipe.{SinglePipe}
use Rattle.raft_log_pipe.specs.Alone.{IsAlone, IsNearlyAlone, StandsAt, directories_of_pipe}
use Rattle.raft_log_pipe.specs.Kept.{KeepsSettings}
use Rattle.raft_log_pipe.specs.Pipe.{first_of}
use Rattle.raft_log_pipe.specs.Torn.{IsTornAtEnd}
use Rattle.raft_log_pipes.specs.declared.pipes.DualPipes.{DualPipes}
use Rattle.raft_log_recovery.specs.Crashed.{HasLastingHole}

-- A pipe keeps its settings and its directories, and its files are the last ones of its queue if they were.
pub record KeepsPipe (old : SinglePipe) (d : Disk) (new : SinglePipe) (e : Disk) : Type 0 where
  pub set : KeepsSettings old new
  pub paths : new.paths ≡ old.paths
  pub alone : IsAlone old d → IsAlone new e

-- Both do
abbrev pub KeepBoth : Disk → DualPipes → Disk → DualPipes → Type 0
KeepBoth d p e q = KeepsPipe p.append d q.append e × KeepsPipe p.rewrite d q.rewrite e

-- No file of the rewrite queue went: its first number is as it was
abbrev pub KeepsRewrites : DualPipes → DualPipes → Type 0
KeepsRewrites p q = first_of q.rewrite ≡ first_of p.rewrite

-- Both do, and no file of the append queue went
pub record KeepsAppends (d : Disk) (p : DualPipes) (e : Disk) (q : DualPipes) : Type 0 where
  pub append : KeepsPipe p.append d q.append e
  pub rewrite : KeepsPipe p.rewrite d q.rewrite e
  pub first : first_of q.append ≡ first_of p.append

-- Both do, and no file of either queue went
pub record KeepsPipes (d : Disk) (p : DualPipes) (e : Disk) (q : DualPipes) : Type 0 where
  pub append : KeepsPipe p.append d q.append e
  pub rewrite : KeepsPipe p.rewrite d q.rewrite e
  pub first : first_of q.append ≡ first_of p.append
  pub rewrites : KeepsRewrites p q

-- Behind a refusal a pipe has its settings and its directories. If its files were the last ones of its queue, a crash leaves no
-- batches of files behind them, and at most the newest of all torn
pub record LeavesPipe (old : SinglePipe) (d : Disk) (new : SinglePipe) (e : Disk) : Type 0 where
  pub set : KeepsSettings old new
  pub paths : new.paths ≡ old.paths
  pub nearly : IsAlone old d → IsNearlyAlone new e
  pub torn : IsAlone old d → IsTornAtEnd new e

-- So do both
pub record LeavesPipes (d : Disk) (p : DualPipes) (e : Disk) (q : DualPipes) : Type 0 where
  pub append : LeavesPipe p.append d q.append e
  pub rewrite : LeavesPipe p.rewrite d q.rewrite e

-- ---- files that were to go, and stand still

-- Before the files of a pipe others stand, of which the first has no bytes, and no crash leaves it any
pub record HasHoleBefore (p : SinglePipe) (d : Disk) : Type 0 where
  pub seq : ℕ
  pub place : ℕ
  pub fd : ℕ
  pub stands : StandsAt d.names (directories_of_pipe p) p.queue seq place fd
  pub before : seq < first_of p
  pub between : (n : ℕ) → seq < n → n < first_of p → (at : ℕ) × (gd : ℕ) × StandsAt d.names (directories_of_pipe p) p.queue n at gd
  pub none : (d.file fd).bytes ≡ []
  pub lasting : (image : Image) → IsImage d image → image fd ≡ []

-- Behind a refusal a pipe has its settings and its directories. A file that was to go may stand there still, though the pipe doesn't
-- have it any more: this other pipe has all that stand. If the files of before were the last ones of the queue, a crash leaves no
-- batches of files behind those, and at most the newest of all torn; a hole of theirs is one of the new pipe, or stands before its files
pub record StandsFor (old : SinglePipe) (d : Disk) (new : SinglePipe) (e : Disk) (standing : SinglePipe) : Type 0 where
  pub set : KeepsSettings old new
  pub paths : (new.paths ≡ old.paths) × (standing.paths ≡ old.paths)
  pub nearly : IsAlone old d → IsNearlyAlone standing e
  pub torn : IsAlone old d → IsTornAtEnd standing e
  pub holes : IsAlone old d → HasLastingHole standing e → HasLastingHole new e ⊎ HasHoleBefore new e
