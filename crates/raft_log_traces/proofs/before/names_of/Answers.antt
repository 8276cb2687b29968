use Rattle.raft_log_traces.proofs.NameLemmas.{names_more}
use Rattle.raft_log_traces.proofs.before.names_of.Goals as goal

pub loop-name-preserved : goal.loop-name-preserved
loop-name-preserved c =
    names_more c.loop-name.names.items c.push.new.self.items c.as_slice.result c.in-Some.name.now c.loop-name.name-iterator c.next.new.self _ c.in_ok-push.ensures.items c.as_slice.ensures.value c.in-Some.ensures.steps c.loop-name.invariant
