-- A write keeps what the log says of its files; a refused one stops it.
use Rattle.std.proofs.Common.{◌∙◌, inl, refl, sym}
use Rattle.std.proofs.lemmas.Bool.{false≢true}
use Rattle.raft_log_host.specs.Mirror.{host_disk, host_meter}
use Rattle.raft_log_engine.proofs.Fitting.{fit_write}
use Rattle.raft_log_engine.proofs.Reopened.{same_directories}
use Rattle.raft_log_engine.proofs.Logs.{is_refused, is_written, refused_others, written_in_main, written_others}
use denote.Param.Send.{sendable}
use Rattle.raft_log_host.proofs.Sent.{files_sent, files_shared}
use Rattle.raft_host_log.proofs.log.HostLogContentLog.write.Goals as goal

pub invariant_of-self : goal.invariant_of-self
invariant_of-self c = record {
  directories = same_directories c.self.inside.engine.pipes.append c.write.new.self.pipes.append c.in-Ok.ensures.paths ∙ c.self.invariant.directories;
  sound = λ fresh. c.in-Ok.ensures.sound (c.self.invariant.sound fresh) refl;
  alone = λ fresh. c.in-Ok.ensures.alone (c.self.invariant.alone fresh);
  in_tail = written_in_main host_disk c.self.inside.settings c.self.inside.engine c.write.new.self c.self.invariant.directories c.in-Ok.ensures.paths
      (c.in-Ok.ensures.opens_in_tail (c.self.invariant.sound c.if-self.false).goes_on (c.self.invariant.alone c.if-self.false));
}

pub invariant_of-self-in-Err : goal.invariant_of-self-in-Err
invariant_of-self-in-Err c = record {
  directories = same_directories c.self.inside.engine.pipes.append c.write.new.self.pipes.append c.in-Err.ensures.paths ∙ c.self.invariant.directories;
  sound = λ fresh. absurd (false≢true (sym fresh));
  alone = λ fresh. absurd (false≢true (sym fresh));
  in_tail = written_in_main host_disk c.self.inside.settings c.self.inside.engine c.write.new.self c.self.invariant.directories c.in-Err.ensures.paths
      (c.in-Err.ensures.opens_in_tail (c.self.invariant.sound c.if-self.false).goes_on (c.self.invariant.alone c.if-self.false));
}

pub returns-in-Ok-clause-ok : goal.returns-in-Ok-clause-ok
returns-in-Ok-clause-ok c =
    rw (← c.self.view_is) (λ on takes. is_written host_disk c.self.inside.settings c.self.inside.engine c.write.new.self c.args.batch.now.items c.self.invariant.directories c.in-Ok.ensures.paths c.self.inside.has_failed c.in-Ok.ensures.answers
    (c.in-Ok.ensures.opens (c.self.invariant.alone c.if-self.false) refl))

pub returns-in-Ok-clause-others : goal.returns-in-Ok-clause-others
returns-in-Ok-clause-others c =
    rw (← c.self.view_is) (written_others host_disk c.self.inside.settings c.self.inside.engine c.write.new.self c.args.batch.now.items c.self.invariant.directories c.in-Ok.ensures.paths c.self.inside.has_failed c.if-self.false c.in-Ok.ensures.answers
    (c.in-Ok.ensures.opens (c.self.invariant.alone c.if-self.false) refl))

pub returns-in-Ok-clause-others_answered : goal.returns-in-Ok-clause-others_answered
returns-in-Ok-clause-others_answered c =
    rw (← c.self.view_is) (λ on. (on, (c.in-Ok.ensures.others_answered (c.in-Ok.ensures.sound (c.self.invariant.sound c.if-self.false) refl)).1))

pub returns-in-Err-clause-err : goal.returns-in-Err-clause-err
returns-in-Err-clause-err c =
    rw (← c.self.view_is) (λ on takes. is_refused host_disk c.self.inside.settings c.self.inside.engine c.write.new.self c.args.batch.now.items c.self.invariant.directories c.in-Err.ensures.paths
    (c.in-Err.ensures.opens_either (c.self.invariant.sound c.if-self.false) (c.self.invariant.alone c.if-self.false)))

pub returns-in-Err-clause-others : goal.returns-in-Err-clause-others
returns-in-Err-clause-others c =
    rw (← c.self.view_is) (refused_others host_disk c.self.inside.settings c.self.inside.engine c.write.new.self c.args.batch.now.items c.self.invariant.directories c.in-Err.ensures.paths c.self.inside.has_failed c.if-self.false
    (c.in-Err.ensures.opens_either (c.self.invariant.sound c.if-self.false) (c.self.invariant.alone c.if-self.false)))

pub write-requires-send-F : goal.write-requires-send-F
write-requires-send-F c κs = search (sendable, files_sent)

pub write-requires-sync-F : goal.write-requires-sync-F
write-requires-sync-F c κs = search (sendable, files_shared)

pub returns-in-Ok-clause-met : goal.returns-in-Ok-clause-met
returns-in-Ok-clause-met c =
    let e = c.in-Ok.ensures in
    rw (← c.self.view_is) (record { later = e.later; sound = λ none going. going; cause = tt; stores = λ none. inl (e.spends refl) })

pub returns-in-Err-clause-fits : goal.returns-in-Err-clause-fits
returns-in-Err-clause-fits c =
    rw (← c.self.view_is) (λ on plain takes. fit_write host_disk c.self.inside.engine (host_meter c.self.inside.engine.files) (host_meter c.write.new.self.files) c.args.batch.now.items c.in-Err.fault c.in-Err.ensures.cause plain takes)
