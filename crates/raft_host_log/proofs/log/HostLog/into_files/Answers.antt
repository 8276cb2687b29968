-- The files as they read are one of their images.
use Rattle.std.proofs.Common.{inr, subst, sym}
use Rattle.raft_log_host.specs.Mirror.{OnHost, host_disk}
use Rattle.raft_log_engine.specs.Log.{MayBeFound, main_directory}
use Rattle.raft_log_engine.specs.Reopened.{OpensInTail}
use Rattle.raft_host_log.proofs.AsRead.{found_as_read}
use denote.Param.Send.{sendable}
use Rattle.raft_log_host.proofs.Sent.{files_sent, files_shared}
use Rattle.raft_host_log.proofs.log.HostLog.into_files.Goals as goal

pub returns-clause-as_read : goal.returns-clause-as_read
returns-clause-as_read c =
    rw (← c.self.view_is) (λ content genuine found. inr (subst (λ (m : OnHost). MayBeFound c.self.inside.settings (host_disk m) content) c.abandon.ensures.files (found_as_read c.self.inside.settings c.abandon.result content genuine found)))

pub returns-clause-opens_in_tail : goal.returns-clause-opens_in_tail
returns-clause-opens_in_tail c =
    let m = c.self.inside in
    rw (← c.self.view_is) (subst (λ (f : OnHost). OpensInTail (main_directory m.settings) (host_disk f) m.engine.pipes) (sym c.abandon.ensures.files) c.self.invariant.in_tail)

pub abandon-requires-send-F : goal.abandon-requires-send-F
abandon-requires-send-F c κs = search (sendable, files_sent)

pub abandon-requires-sync-F : goal.abandon-requires-sync-F
abandon-requires-sync-F c κs = search (sendable, files_shared)
