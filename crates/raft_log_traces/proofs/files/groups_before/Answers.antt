use Rattle.raft_log_traces.specs.Traces.{trace_of, trace_in}
use Rattle.raft_log_traces.proofs.FileLemmas.{kept_at, group_passed, group_added}
use Rattle.raft_log_traces.proofs.files.groups_before.Goals as goal

pub loop-raft_group_id-preserved-then-not-is_before : goal.loop-raft_group_id-preserved-then-not-is_before
unfolding trace_in
loop-raft_group_id-preserved-then-not-is_before c = λ group.
    let at = c.loop-raft_group_id in
    group_passed c.args.file c.args.traces.now at.ids.items c.in-Some.raft_group_id.now c.in-Some.trace.now at.raft_group_id-iterator c.next.new.self group c.in-Some.ensures.steps
    (kept_at c.args.file c.least_file.result (trace_of c.in-Some.trace.now) c.least_file.ensures.kept c.if-not-is_before.ensures.no) (at.invariant group)

pub loop-raft_group_id-preserved : goal.loop-raft_group_id-preserved
loop-raft_group_id-preserved c = λ group.
    let at = c.loop-raft_group_id in
    group_added c.args.file c.args.traces.now at.ids.items c.push.new.self.items c.in-Some.raft_group_id.now c.in-Some.trace.now at.raft_group_id-iterator c.next.new.self group c.in-Some.ensures.steps c.in_ok-push.ensures.items
    (at.invariant group)
