-- What a call on one queue leaves of the other.
use Rattle.std.proofs.Common.{◌≡◌, refl, sym, subst, ◌∙◌}
use Rattle.std.specs.Prelude.{Result, Ok, Err, OnOk}
use Rattle.raft_log_records.specs.declared.file_id.LogQueue.{LogQueue}
use Rattle.raft_log_records.specs.declared.file_id.LogQueue.TheVariants.{Append, Rewrite}
use Rattle.raft_log_disk.specs.Disk.{Disk, IsNamed}
use Rattle.raft_log_pipe.specs.declared.pipe.SinglePipe.{SinglePipe}
use Rattle.raft_log_pipe.specs.Others.{KeepsOthers}
use Rattle.raft_log_pipe.specs.Pipe.{IsPipe}
use Rattle.raft_log_pipe.proofs.OthersLemmas.{alone_beside, pipe_beside, pipe_holds_beside}
use Rattle.raft_log_pipes.specs.declared.pipes.DualPipes.{DualPipes}
use Rattle.raft_log_pipes.specs.Pipes.{ArePipes, IsAsBefore}

-- the queues are two
pub not_append : (queue : LogQueue) → queue ≡ Rewrite → queue ≡ Append → ⊥
not_append queue one two = let same : Append ≡ Rewrite = sym two ∙ one in absurd cc

pub not_rewrite : (queue : LogQueue) → queue ≡ Append → queue ≡ Rewrite → ⊥
not_rewrite queue one two = let same : Append ≡ Rewrite = sym one ∙ two in absurd cc

-- files of one queue changed
pub keeps_as : (own queue : LogQueue) (d e : Disk) → own ≡ queue → KeepsOthers own d e → KeepsOthers queue d e
keeps_as own queue d e is keeps = subst (λ (q : LogQueue). KeepsOthers q d e) is keeps

-- a pipe of the other queue is as before
pub beside : (queue : LogQueue) (p : SinglePipe) (d e : Disk) → (p.queue ≡ queue → ⊥) → IsNamed d → IsNamed e → KeepsOthers queue d e → IsAsBefore p d p e
beside queue p d e apart old new keeps = record {
  same = refl;
  usable = pipe_beside queue p d e apart keeps;
  holds = pipe_holds_beside queue p d e apart keeps;
  alone = alone_beside queue p d e apart keeps old new;
}

-- where the append queue's pipe can be used still, both can
pub both_append : (p q : DualPipes) (d e : Disk) → q.rewrite ≡ p.rewrite → IsAsBefore p.rewrite d p.rewrite e → ArePipes p d → IsPipe q.append e → ArePipes q e
both_append p q d e is other pipes usable = record {
  append = usable;
  rewrite = subst (λ (pipe : SinglePipe). IsPipe pipe e) (sym is) (other.usable pipes.rewrite);
}

-- and where that of the rewrite queue can
pub both_rewrite : (p q : DualPipes) (d e : Disk) → q.append ≡ p.append → IsAsBefore p.append d p.append e → ArePipes p d → IsPipe q.rewrite e → ArePipes q e
both_rewrite p q d e is other pipes usable = record {
  append = subst (λ (pipe : SinglePipe). IsPipe pipe e) (sym is) (other.usable pipes.append);
  rewrite = usable;
}

pub on_ok : {T E : Type 0} (A B : Type 0) (r : Result T E) → (A → B) → OnOk r A → OnOk r B
on_ok A B (Ok x) f a = f a
on_ok A B (Err e) f a = tt

-- of both queues
pub each_queue : (P : LogQueue → Type 0) → P Append → P Rewrite → (queue : LogQueue) → P queue
each_queue P one two Append = one
each_queue P one two Rewrite = two
