use Rattle.std.proofs.Common.{refl, sym}
use Rattle.raft_log_traces.proofs.KeyLemmas.{key_updated}
use Rattle.raft_log_traces.proofs.group_trace.GroupTrace.set_key_rewritten.Goals as goal

pub returns : goal.returns
returns c = record {
  low = refl;
  next = refl;
  top = refl;
  since = refl;
  tail = refl;
  entry_file = λ i. refl;
  key_file = λ k. sym (key_updated c.args.key.now c.args.self.now.keys c.remove.new.self _ c.remove.ensures.updates k);
  cleaned = refl;
  deleted = λ k. refl;
}
