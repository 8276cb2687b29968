-- Files that were closed open as what the log answered, whatever a crash leaves of them.
use Rattle.std.proofs.Common.{List, inl, subst}
use Rattle.raft_log_host.specs.Mirror.{host_disk}
use Rattle.raft_log_disk.specs.Text.{Text}
use Rattle.raft_log_engine.specs.Reopened.{OpensInTail}
use Rattle.raft_log_engine.proofs.Logs.{found_closed}
use Rattle.raft_host_log.proofs.AsRead.{found_as_read}
use denote.Param.Send.{sendable}
use Rattle.raft_log_host.proofs.Sent.{files_sent, files_shared}
use Rattle.raft_host_log.proofs.log.HostLog.close.Goals as goal

pub returns-in-Ok-clause-opens : goal.returns-in-Ok-clause-opens
returns-in-Ok-clause-opens c =
    let inv = c.self.invariant in
    let going = c.if-self.false in
    let m = c.self.inside in
    rw (← c.self.view_is) (λ image d content sound crashed found.
    found_closed host_disk m.settings m.engine (host_disk c.in-Ok.files) inv.directories (c.in-Ok.ensures.opens (inv.sound going) (inv.alone going)) content (record { image = image; left = d; crashed = crashed; found = found }))

pub returns-in-Ok-clause-crashed : goal.returns-in-Ok-clause-crashed
returns-in-Ok-clause-crashed c =
    let inv = c.self.invariant in
    let going = c.if-self.false in
    let m = c.self.inside in
    rw (← c.self.view_is) (λ image d content crashed found.
    inl (going, found_closed host_disk m.settings m.engine (host_disk c.in-Ok.files) inv.directories (c.in-Ok.ensures.opens (inv.sound going) (inv.alone going)) content (record { image = image; left = d; crashed = crashed; found = found })))

pub returns-in-Ok-clause-as_read : goal.returns-in-Ok-clause-as_read
returns-in-Ok-clause-as_read c =
    let inv = c.self.invariant in
    let going = c.if-self.false in
    let m = c.self.inside in
    rw (← c.self.view_is) (λ content genuine found.
    inl (going, found_closed host_disk m.settings m.engine (host_disk c.in-Ok.files) inv.directories (c.in-Ok.ensures.opens (inv.sound going) (inv.alone going)) content (found_as_read m.settings c.in-Ok.files content genuine found)))

pub returns-in-Err-clause-opens : goal.returns-in-Err-clause-opens
returns-in-Err-clause-opens c =
    let inv = c.self.invariant in
    let going = c.if-self.false in
    let m = c.self.inside in
    rw (← c.self.view_is) (λ image d content sound crashed found.
    found_closed host_disk m.settings m.engine (host_disk c.in-Err.refused.files) inv.directories (c.in-Err.ensures.opens (inv.sound going) (inv.alone going)) content (record { image = image; left = d; crashed = crashed; found = found }))

pub returns-in-Err-clause-crashed : goal.returns-in-Err-clause-crashed
returns-in-Err-clause-crashed c =
    let inv = c.self.invariant in
    let going = c.if-self.false in
    let m = c.self.inside in
    rw (← c.self.view_is) (λ image d content crashed found.
    inl (going, found_closed host_disk m.settings m.engine (host_disk c.in-Err.refused.files) inv.directories (c.in-Err.ensures.opens (inv.sound going) (inv.alone going)) content (record { image = image; left = d; crashed = crashed; found = found })))

pub returns-in-Err-clause-as_read : goal.returns-in-Err-clause-as_read
returns-in-Err-clause-as_read c =
    let inv = c.self.invariant in
    let going = c.if-self.false in
    let m = c.self.inside in
    rw (← c.self.view_is) (λ content genuine found.
    inl (going, found_closed host_disk m.settings m.engine (host_disk c.in-Err.refused.files) inv.directories (c.in-Err.ensures.opens (inv.sound going) (inv.alone going)) content (found_as_read m.settings c.in-Err.refused.files content genuine found)))

pub returns-in-Err-clause-cause : goal.returns-in-Err-clause-cause
returns-in-Err-clause-cause c = rw (← c.self.view_is) (λ going. c.in-Err.ensures.cause)

pub returns-in-Ok-clause-opens_in_tail : goal.returns-in-Ok-clause-opens_in_tail
returns-in-Ok-clause-opens_in_tail c =
    let inv = c.self.invariant in
    let going = c.if-self.false in
    let m = c.self.inside in
    rw (← c.self.view_is) (subst (λ (l : List Text). OpensInTail l (host_disk c.in-Ok.files) m.engine.pipes) inv.directories
    (c.in-Ok.ensures.opens_in_tail (inv.sound going).goes_on (inv.alone going)))

pub returns-in-Err-clause-opens_in_tail : goal.returns-in-Err-clause-opens_in_tail
returns-in-Err-clause-opens_in_tail c =
    let inv = c.self.invariant in
    let going = c.if-self.false in
    let m = c.self.inside in
    rw (← c.self.view_is) (subst (λ (l : List Text). OpensInTail l (host_disk c.in-Err.refused.files) m.engine.pipes) inv.directories
    (c.in-Err.ensures.opens_in_tail (inv.sound going).goes_on (inv.alone going)))

pub close-requires-send-F : goal.close-requires-send-F
close-requires-send-F c κs = search (sendable, files_sent)

pub close-requires-sync-F : goal.close-requires-sync-F
close-requires-sync-F c κs = search (sendable, files_shared)
