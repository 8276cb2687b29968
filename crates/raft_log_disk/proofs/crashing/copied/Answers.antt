use Rattle.std.proofs.Common.{arith, subst, sym}
use Rattle.raft_log_disk.specs.Disk.{AreBytes}
use Rattle.raft_log_disk.proofs.RecoverableLemmas.{bytes_by_each}
use Rattle.raft_log_disk.proofs.crashing.copied.Goals as goal

pub returns-clause-fits : goal.returns-clause-fits
returns-clause-fits c = subst AreBytes (sym c.in_ok-copy.ensures.items) (bytes_by_each c.args.bytes.now (λ i lt. omega (arith, c.type_inv.bytes i)))
