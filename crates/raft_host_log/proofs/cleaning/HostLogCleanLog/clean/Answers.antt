-- A cleaning keeps what the log says of its files; a refused one stops it.
use Rattle.std.proofs.Common.{true, sym, ◌∙◌}
use Rattle.std.proofs.lemmas.Bool.{false≢true}
use Rattle.raft_log_host.specs.Mirror.{host_disk}
use Rattle.raft_log_engine.proofs.Reopened.{same_directories}
use Rattle.raft_log_engine.proofs.Logs.{is_cleaned, written_in_main}
use denote.Param.Send.{sendable}
use Rattle.raft_log_host.proofs.Sent.{files_sent, files_shared}
use Rattle.raft_host_log.proofs.cleaning.HostLogCleanLog.clean.Goals as goal

pub invariant_of-self : goal.invariant_of-self
invariant_of-self c =
    let inv = c.self.invariant in
    record {
      directories = same_directories c.self.inside.engine.pipes.append c.purge_expired_files.new.self.pipes.append c.in-Ok.ensures.paths ∙ inv.directories;
      sound = λ fresh. c.in-Ok.ensures.sound (inv.sound fresh);
      alone = λ fresh. c.in-Ok.ensures.alone (inv.alone fresh);
      in_tail = written_in_main host_disk c.self.inside.settings c.self.inside.engine c.purge_expired_files.new.self inv.directories c.in-Ok.ensures.paths
          (c.in-Ok.ensures.opens_in_tail (inv.sound c.if-self.false).goes_on (inv.alone c.if-self.false));
    }

pub invariant_of-self-in-Err : goal.invariant_of-self-in-Err
invariant_of-self-in-Err c =
    let inv = c.self.invariant in
    record {
      directories = same_directories c.self.inside.engine.pipes.append c.purge_expired_files.new.self.pipes.append c.in-Err.ensures.paths ∙ inv.directories;
      sound = λ fresh. absurd (false≢true (sym fresh));
      alone = λ fresh. absurd (false≢true (sym fresh));
      in_tail = written_in_main host_disk c.self.inside.settings c.self.inside.engine c.purge_expired_files.new.self inv.directories c.in-Err.ensures.paths
          (c.in-Err.ensures.opens_in_tail (inv.sound c.if-self.false).goes_on (inv.alone c.if-self.false));
    }

pub returns-in-Ok-clause-kept : goal.returns-in-Ok-clause-kept
returns-in-Ok-clause-kept c = rw (← c.self.view_is) (λ on. (on, c.in-Ok.ensures.answers))

pub returns-in-Ok-clause-left : goal.returns-in-Ok-clause-left
returns-in-Ok-clause-left c =
    let inv = c.self.invariant in
    rw (← c.self.view_is) (is_cleaned host_disk c.self.inside.settings c.self.inside.engine c.purge_expired_files.new.self inv.directories c.in-Ok.ensures.paths c.self.inside.has_failed c.self.inside.has_failed c.if-self.false
    (λ on. c.in-Ok.ensures.answers) (c.in-Ok.ensures.opens_still (inv.sound c.if-self.false) (inv.alone c.if-self.false)))

pub returns-in-Err-clause-left : goal.returns-in-Err-clause-left
returns-in-Err-clause-left c =
    let inv = c.self.invariant in
    rw (← c.self.view_is) (is_cleaned host_disk c.self.inside.settings c.self.inside.engine c.purge_expired_files.new.self inv.directories c.in-Err.ensures.paths c.self.inside.has_failed true c.if-self.false
    (λ on. absurd (false≢true (sym on))) (c.in-Err.ensures.opens_still (inv.sound c.if-self.false) (inv.alone c.if-self.false)))

pub purge_expired_files-requires-send-F : goal.purge_expired_files-requires-send-F
purge_expired_files-requires-send-F c κs = search (sendable, files_sent)

pub purge_expired_files-requires-sync-F : goal.purge_expired_files-requires-sync-F
purge_expired_files-requires-sync-F c κs = search (sendable, files_shared)
