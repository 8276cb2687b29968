use Rattle.raft_log_traces.specs.GroupTraces.{traces_in}
use Rattle.raft_log_traces.proofs.FileLemmas.{each_kept}
use Rattle.raft_log_traces.proofs.group_traces.GroupTraces.min_file_seq.Goals as goal

pub returns : goal.returns
unfolding traces_in
returns c = record {
  kept = each_kept c.args.self.now.traces c.least_of_traces.result c.least_of_traces.ensures.kept;
  least = λ n h. c.least_of_traces.ensures.least n h;
}
