use Rattle.std.proofs.Common.{ℕ}
use Rattle.raft_log_traces.proofs.FileLemmas.{IsListed}
use Rattle.raft_log_traces.proofs.files.groups_before.Given as goal

abbrev pub invariant-loop-raft_group_id : goal.invariant-loop-raft_group_id
invariant-loop-raft_group_id l = (group : ℕ) → IsListed l.file l.traces l.ids.items l.raft_group_id-iterator group
