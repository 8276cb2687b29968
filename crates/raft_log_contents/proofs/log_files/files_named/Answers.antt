use Rattle.std.proofs.Common.{string_bytes}
use Rattle.raft_log_items.proofs.FoundLemmas.{named_more}
use Rattle.raft_log_contents.proofs.log_files.files_named.Goals as goal

pub loop-name-preserved : goal.loop-name-preserved
loop-name-preserved c =
    named_more string_bytes c.args.queue c.args.directory.now c.args.names.now c.loop-name.name-index c.name-item.result c.as_str.result.now _ _ c.loop-name-test.true c.name-item.is c.as_str.ensures.value
    c.loop-name.invariant c.in_ok-push_file.ensures
