use Rattle.std.proofs.Common.{List, ℕ, inr, subst, sym}
use Rattle.std.specs.Prelude.{Vec}
use Rattle.std.specs.declared.alloc.Global.{Global}
use Rattle.raft_log_traces.specs.Before.{IsBefore}
use Rattle.raft_log_traces.proofs.NameLemmas.{file_left, key_added}
use Rattle.raft_log_traces.proofs.before.keys_in_files_before.Goals as goal

pub loop-key-init : goal.loop-key-init
loop-key-init c = λ k b. inr (subst (λ (left : List (Vec ℕ Global × ℕ)). IsBefore c.args.file (file_left k left)) (sym c.into_iter-key-iterator.ensures.into_iter_gives.0) b)

pub loop-key-preserved : goal.loop-key-preserved
loop-key-preserved c = λ k b.
    key_added c.args.file c.loop-key.names.items c.push.new.self.items c.as_slice.result c.in-Some.key.now c.in-Some.at.now c.loop-key.key-iterator c.next.new.self k c.in-Some.ensures.steps c.in_ok-push.ensures.items c.as_slice.ensures.value
    (c.loop-key.invariant k b)
