-- Files go up to before the first one that is needed.
use Rattle.raft_log_traces.specs.GroupTraces.{traces_in}
use Rattle.raft_log_purge.proofs.CausedLemmas.{going_cause, in_span}
use Rattle.raft_log_purge.proofs.GoingLemmas.{goes_to}
use Rattle.raft_log_purge.proofs.going.let_go.Goals as goal

pub returns-clause-gone : goal.returns-clause-gone
returns-clause-gone g c =
    let span = c.file_span-first in
    let kept = c.first_kept-kept in
    goes_to (traces_in c.args.traces.now) c.args.barrier c.args.pipes.now.append c.purge_to.new.self.append span.result.0 span.result.1 kept.result c.at_least.result c.purge_to.result
    span.ensures.first span.ensures.last c.purge_to.ensures.call.same (record { may_go = kept.ensures.may_go; within = kept.ensures.active; last = kept.ensures.last }) c.at_least.ensures.is c.purge_to.ensures.call.ok

pub returns-clause-cause : goal.returns-clause-cause
returns-clause-cause g c =
    let span = c.file_span-first in
    let kept = c.first_kept-kept in
    let p = c.args.pipes.now.append in
    going_cause p (g.F.FileSystem.disk c.args.files.now) c.at_least.result (g.F.FileSystem.meter c.args.files.now) (g.F.FileSystem.meter c.purge_to.new.files) c.purge_to.result
    (in_span p span.result.0 span.result.1 kept.result c.at_least.result span.ensures.first span.ensures.last kept.ensures.active c.at_least.ensures.from c.at_least.ensures.other) c.purge_to.ensures.cause
