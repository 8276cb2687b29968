-- The append files go behind the rewrite queue written anew.
use Rattle.std.proofs.Common.{◌∙◌}
use Rattle.std.proofs.lemmas.Result.{on_ok_weaker}
use Rattle.raft_log_disk.proofs.RefusalLemmas.{no_more_then}
use Rattle.raft_log_cleaner.proofs.Caused.{cause_then}
use Rattle.raft_log_cleaning.proofs.Behind.{barrier_both, cleans_both, counted_behind, keeps_both, purged_behind, stands_both}
use Rattle.raft_log_cleaning.proofs.cleaning.purge_stale.Goals as goal

pub clean_all-requires-after_bounds : goal.clean_all-requires-after_bounds
clean_all-requires-after_bounds g c κs within = (c.requires.can.0, c.in_default.ensures.cleans.ok c.requires.can.0 c.requires.can.1)

pub returns-in-Err-clause-cleans : goal.returns-in-Err-clause-cleans
returns-in-Err-clause-cleans g c = record { ok = λ content can. tt; err = λ content can. c.in-Err.ensures.cleans.err content can }

pub returns : goal.returns
returns g c =
    let d = g.F.FileSystem.disk c.args.files.now in
    let e = g.F.FileSystem.disk c.write_anew.new.files in
    let f = g.F.FileSystem.disk c.clean_all.new.files in
    let p = c.args.pipes.now in
    let q = c.write_anew.new.pipes in
    let r = c.clean_all.new.pipes in
    let log = c.args.log.now in
    let mid = c.write_anew.new.log in
    let one = c.in_default.ensures in
    let two = c.clean_all.ensures in
    let result = c.clean_all.result in
    record {
      cleans = cleans_both d e p q log mid one.cleans.ok one.both f r c.clean_all.new.log result two.cleans;
      both = keeps_both d e p q log mid one.cleans.ok one.both f r result two.both;
      stands = stands_both d e p q log mid one.cleans.ok one.both f r result two.stands;
      barrier = barrier_both result c.args.barrier p q r one.anew.append two.barrier;
      purged = purged_behind result d e f p q r log mid c.clean_all.new.log c.args.barrier one.cleans.ok one.anew one.append one.begins_again two.cleans two.gone;
      replaced = on_ok_weaker result (λ held. held ∙ one.anew.rewrite) two.held;
      count = counted_behind result p q r one.append two.count;
      later = no_more_then one.later two.later;
      cause = cause_then one.later (g.F.FileSystem.meter c.clean_all.new.files) result two.cause;
    }
