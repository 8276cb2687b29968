-- They heard of the files of both queues, one after the other.
use Rattle.raft_log_records.specs.declared.file_id.LogQueue.TheVariants.{Append, Rewrite}
use Rattle.raft_log_pipe.specs.Pipe.{first_of}
use Rattle.raft_log_purge.specs.Heard.{files_within}
use Rattle.raft_log_purge.proofs.HeardLemmas.{hear_more}
use Rattle.raft_log_engine.proofs.HearingLemmas.{within_same}
use Rattle.raft_log_engine.proofs.engine.Engine.tell_files.Goals as goal

pub returns : goal.returns
returns g c =
    let hears = g.L.EventListener.hears in
    let p = c.self.inside.pipes in
    let olds = c.args.listeners.now in
    let mids = c.tell_each.new.listeners in
    let news = c.tell_each-2.new.listeners in
    let appends = c.file_span-first.result in
    let rewrites = c.file_span-first-2.result in
    rw (← c.self.view_is) (record {
      told = hear_more hears (files_within Append (first_of p.append) p.append.active.seq) (files_within Rewrite (first_of p.rewrite) p.rewrite.active.seq) olds mids news
          (within_same hears Append appends.0 appends.1 (first_of p.append) p.append.active.seq olds mids c.file_span-first.ensures.first c.file_span-first.ensures.last c.tell_each.ensures.told)
          (within_same hears Rewrite rewrites.0 rewrites.1 (first_of p.rewrite) p.rewrite.active.seq mids news c.file_span-first-2.ensures.first c.file_span-first-2.ensures.last c.tell_each-2.ensures.told);
    })
