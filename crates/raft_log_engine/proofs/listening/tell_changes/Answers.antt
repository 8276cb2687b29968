-- They heard of four things, one after the other.
use Rattle.std.proofs.Common.{◌++◌}
use Rattle.raft_log_records.specs.declared.file_id.LogQueue.TheVariants.{Append, Rewrite}
use Rattle.raft_log_pipe.specs.Pipe.{first_of}
use Rattle.raft_log_purge.specs.Heard.{files_behind, last_gone}
use Rattle.raft_log_purge.proofs.HeardLemmas.{hear_more}
use Rattle.raft_log_engine.proofs.HearingLemmas.{behind_same, gone_same}
use Rattle.raft_log_engine.proofs.listening.tell_changes.Goals as goal

pub returns : goal.returns
returns g c =
    let hears = g.L.EventListener.hears in
    let p = c.args.pipes.now in
    let olds = c.args.listeners.now in
    let begun = c.tell_begun.new.listeners in
    let begun_too = c.tell_begun-2.new.listeners in
    let gone = c.tell_last.new.listeners in
    let gone_too = c.tell_last-2.new.listeners in
    let appends = files_behind Append c.args.appends.1 p.append.active.seq in
    let rewrites = files_behind Rewrite c.args.rewrites.1 p.rewrite.active.seq in
    let no_rewrites = last_gone Rewrite c.args.rewrites.0 (first_of p.rewrite) in
    let no_appends = last_gone Append c.args.appends.0 (first_of p.append) in
    record {
      told = hear_more hears (appends ++ rewrites) (no_rewrites ++ no_appends) olds begun_too gone_too
          (hear_more hears appends rewrites olds begun begun_too
          (behind_same hears Append c.args.appends.1 c.file_span-first_append.result.1 p.append.active.seq olds begun c.file_span-first_append.ensures.last c.tell_begun.ensures.told)
          (behind_same hears Rewrite c.args.rewrites.1 c.file_span-first_rewrite.result.1 p.rewrite.active.seq begun begun_too c.file_span-first_rewrite.ensures.last c.tell_begun-2.ensures.told))
          (hear_more hears no_rewrites no_appends begun_too gone gone_too
          (gone_same hears Rewrite c.args.rewrites.0 c.file_span-first_rewrite.result.0 (first_of p.rewrite) begun_too gone c.file_span-first_rewrite.ensures.first c.tell_last.ensures.told)
          (gone_same hears Append c.args.appends.0 c.file_span-first_append.result.0 (first_of p.append) gone gone_too c.file_span-first_append.ensures.first c.tell_last-2.ensures.told));
    }
