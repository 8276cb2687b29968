use Rattle.std.proofs.Common.{◌∷◌, Option, sym, subst, arith}
use Rattle.raft_log_disk.specs.Text.{Text}
use Rattle.raft_log_pipe.specs.Alone.{IsOnce}
use Rattle.raft_log_recovery.specs.Scan.{spilled}
use Rattle.raft_log_recovery.proofs.laws.one_directory_is_enough.Goals as goal

pub returns : goal.returns
returns c = λ settings names queue none. subst (λ (o : Option Text). IsOnce names (settings.dir ∷ spilled settings.dir o) queue) (sym none) (record {
  apart = λ i j a b same. omega (arith, a, b);
  once = λ seq i j fd gd a b. omega (arith, a.1, b.1);
})
