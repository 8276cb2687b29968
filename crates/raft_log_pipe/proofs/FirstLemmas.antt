-- The number of the first file, where no file goes.
use Rattle.std.proofs.Common.{◌≡◌, ◌+◌, ◌-◌, [], ◌∷◌, ◌++◌, length, ap, arith, length-append}
use Rattle.raft_log_pipe.specs.declared.pipe.SinglePipe.{SinglePipe}
use Rattle.raft_log_pipe.specs.Pipe.{first_of}

-- the pipe has the same files
pub same_first : (p q : SinglePipe) → (q.active ≡ p.active) × (q.older ≡ p.older) → first_of q ≡ first_of p
same_first p q same i = (same.0 i).seq - length (same.1 i).items

-- a new file goes on
pub begun_first : (p q : SinglePipe) → (q.active.seq ≡ p.active.seq + 1) × (q.older.items ≡ p.older.items ++ p.active ∷ []) → first_of q ≡ first_of p
begun_first p q next = omega (arith, next.0, ap length next.1, length-append p.older.items (p.active ∷ []))
