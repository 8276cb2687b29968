use Rattle.std.proofs.Common.{◌++◌, List, ap, refl, ◌∙◌}
use Rattle.std.proofs.lemmas.List.{take_all}
use Rattle.raft_log_disk.specs.declared.memory_file.Written.{Written}
use Rattle.raft_log_disk.specs.Changes.{spans_of}
use Rattle.raft_log_disk.proofs.EndLemmas.{not_ok}
use Rattle.raft_log_disk.proofs.MemoryLemmas.{spans_copied}
use Rattle.raft_log_disk.proofs.crashing.copy_writes.Goals as goal

pub returns-in_err-bytes : goal.returns-in_err-bytes
returns-in_err-bytes c = not_ok _ _ c.from_residual.result c.from_residual.ensures.1

pub returns-in_err-push : goal.returns-in_err-push
returns-in_err-push c = not_ok _ _ c.from_residual-in_err-push.result c.from_residual-in_err-push.ensures.1

pub loop-write-preserved : goal.loop-write-preserved
loop-write-preserved c = spans_copied _ _ _ _ _ c.write-item.result _ c.loop-write.invariant c.loop-write-test.true c.write-item.is refl (c.in_ok-bytes.ensures.items ∙ c.deref.ensures.value) c.in_ok-push.ensures.items

pub returns : goal.returns
returns c = c.loop-write.invariant ∙ ap (λ (l : List Written). spans_of c.args.to.now.items ++ spans_of l) (take_all c.loop-write.write-index c.args.from.now c.loop-write-test.false)
