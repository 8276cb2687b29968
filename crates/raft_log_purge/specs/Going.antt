-- Which files of the append queue may go.
use Rattle.std.specs.Prelude.{◌≡◌, ◌≤◌, ℕ, Option, IfSome}
use Rattle.raft_log_covers.specs.Kept.{Traces}
use Rattle.raft_log_covers.specs.Trace.{greater}
use Rattle.raft_log_disk.specs.Cause.{Meter, Rises}
use Rattle.raft_log_files.specs.declared.error.Error.{Error}
use Rattle.raft_log_pipe.specs.declared.pipe.SinglePipe.{SinglePipe}
use Rattle.raft_log_pipe.specs.Caused.{IsCaused}
use Rattle.raft_log_pipe.specs.Pipe.{first_of}
use Rattle.raft_log_traces.specs.Files.{KeepsFrom}

-- The files before this one may go: no group keeps one of them, and whoever else keeps files keeps none of them.
pub record MayGoBefore (traces : Traces) (kept : Option ℕ) (seq : ℕ) : Type 0 where
  pub groups : (group : ℕ) → KeepsFrom seq (traces group)
  pub barrier : IfSome kept (λ file. seq ≤ file)

-- The first file that is needed, where this one is written: all before it may go, and up to before no later one may they.
pub record IsFirstNeeded (traces : Traces) (kept : Option ℕ) (active seq : ℕ) : Type 0 where
  pub may_go : MayGoBefore traces kept seq
  pub within : seq ≤ active
  pub last : (n : ℕ) → MayGoBefore traces kept n → n ≤ active → n ≤ seq

-- The files of a queue are gone up to before the first one that is needed, and no others are.
abbrev pub GoesToNeeded : Traces → Option ℕ → SinglePipe → SinglePipe → Type 0
GoesToNeeded traces kept old new = (seq : ℕ) × IsFirstNeeded traces kept new.active.seq seq × (first_of new ≡ greater (first_of old) seq)

-- Why files don't go: a call was refused, memory is missing, or a file that is to go isn't there. The queue has a file of the number.
abbrev pub IsGoingFault : Meter → Meter → Error → Type 0
IsGoingFault old new e = IsCaused (Rises 1 old new) ⊥ ⊥ (Unit {0}) e
