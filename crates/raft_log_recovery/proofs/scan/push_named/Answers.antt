use Rattle.std.proofs.Common.{◌++◌, List, ap, ◌∙◌, sym, string_bytes}
use Rattle.raft_log_recovery.specs.declared.scan.FileName.{FileName}
use Rattle.raft_log_recovery.proofs.ScanLemmas.{named_more, push_step}
use Rattle.raft_log_recovery.proofs.scan.push_named.Goals as goal

pub loop-name-preserved : goal.loop-name-preserved
loop-name-preserved c =
    let more = named_more string_bytes c.args.kind c.args.path_id c.args.names.now c.loop-name.name-index c.name-item.result c.as_str.result.now c.seq_of.result c.loop-name-test.true c.name-item.is c.as_str.ensures.value c.seq_of.ensures in
    push_step c.args.found.now.items c.loop-name.found.items _ _ _ c.in_ok-push_seq.ensures c.loop-name.invariant ∙ ap (λ (l : List FileName). c.args.found.now.items ++ l) (sym more)
