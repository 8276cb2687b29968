-- The append queue is cleaned behind the rewrite queue.
use Rattle.raft_log_disk.proofs.RefusalLemmas.{no_more_then}
use Rattle.raft_log_cleaner.proofs.Calls.{cleans_refused}
use Rattle.raft_log_cleaner.proofs.Going.{when_err}
use Rattle.raft_log_cleaner.specs.Told.{is_among}
use Rattle.raft_log_traces.specs.GroupTraces.{traces_in}
use Rattle.raft_log_cleaner.proofs.Caused.{cause_then}
use Rattle.raft_log_cleaning.specs.Told.{is_named}
use Rattle.std.proofs.Common.{sym, ◌∙◌}
use Rattle.std.proofs.lemmas.Result.{on_ok_weaker}
use Rattle.raft_log_cleaning.proofs.Behind.{all_there, barrier_both, cleaned_anew, cleans_both, gone_both, keeps_both, stands_both, there_before}
use Rattle.raft_log_cleaning.proofs.expired.purge_both.Goals as goal

pub purge_appends-requires-after_bounds : goal.purge_appends-requires-after_bounds
purge_appends-requires-after_bounds g c κs within = (c.requires.can.0, c.in_ok-many.ensures.cleans.ok c.requires.can.0 c.requires.can.1)

pub returns-in_err-many-clause-cleans : goal.returns-in_err-many-clause-cleans
returns-in_err-many-clause-cleans g c = cleans_refused _ c.from_residual.result c.in_err-many.field-0.0 c.from_residual.ensures.1 c.in_err-many.ensures.cleans

pub returns-in_err-many-clause-stands : goal.returns-in_err-many-clause-stands
returns-in_err-many-clause-stands g c = when_err c.from_residual.result c.in_err-many.ensures.stands

pub returns : goal.returns
returns g c =
    let d = g.F.FileSystem.disk c.args.files.now in
    let e = g.F.FileSystem.disk c.write_and_tell.new.files in
    let f = g.F.FileSystem.disk c.purge_appends.new.files in
    let p = c.args.pipes.now in
    let q = c.write_and_tell.new.pipes in
    let r = c.purge_appends.new.pipes in
    let log = c.args.log.now in
    let mid = c.write_and_tell.new.log in
    let one = c.in_ok-many.ensures in
    let two = c.purge_appends.ensures in
    let result = c.purge_appends.result in
    let same = there_before d e p q log mid c.requires.can.0 c.requires.can.1 (one.cleans.ok c.requires.can.0 c.requires.can.1) in
    record {
      cleans = cleans_both d e p q log mid one.cleans.ok one.both f r c.purge_appends.new.log result two.cleans;
      both = keeps_both d e p q log mid one.cleans.ok one.both f r result two.both;
      stands = stands_both d e p q log mid one.cleans.ok one.both f r result two.stands;
      barrier = barrier_both result c.args.barrier p q r one.anew.append two.barrier;
      gone = gone_both result (traces_in c.purge_appends.new.log.traces) c.args.barrier c.args.manager.now.purge_threshold p q r one.append two.gone;
      rising = two.rising;
      there = all_there result log mid is_among same (two.there (λ group is. sym (same group) ∙ one.told.there group is));
      anew = cleaned_anew result d e f p q r log mid c.purge_appends.new.log c.args.manager.now c.purge_appends.new.manager.reports (is_named c.in_ok-many.many) one.cleans.ok one.anew one.append one.begins_again one.told two.cleans two.told;
      replaced = on_ok_weaker result (λ held. held ∙ one.anew.rewrite) two.held;
      threshold = two.threshold;
      later = no_more_then one.later two.later;
      cause = cause_then one.later (g.F.FileSystem.meter c.purge_appends.new.files) result two.cause;
    }
