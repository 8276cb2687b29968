-- A sync where a write wasn't synced.
use Rattle.std.proofs.Common.{refl, sym, ◌∙◌}
use Rattle.std.proofs.lemmas.Bool.{false≢true}
use Rattle.raft_log_disk.proofs.RefusalLemmas.{no_more_same}
use Rattle.raft_log_engine.proofs.Cleaned.{still_same, synced_holds}
use Rattle.raft_log_engine.proofs.cleaning.sync_unsynced.Goals as goal

pub returns-then-not-wrote_unsynced-clause-still : goal.returns-then-not-wrote_unsynced-clause-still
returns-then-not-wrote_unsynced-clause-still g c = still_same (g.F.FileSystem.disk c.args.files.now) c.args.pipes.now

pub returns-then-not-wrote_unsynced-clause-synced : goal.returns-then-not-wrote_unsynced-clause-synced
returns-then-not-wrote_unsynced-clause-synced g c = λ wrote. absurd (false≢true (sym c.if-not-wrote_unsynced.true ∙ wrote))

pub returns-then-not-wrote_unsynced-clause-set : goal.returns-then-not-wrote_unsynced-clause-set
returns-then-not-wrote_unsynced-clause-set g c = ((refl, refl, refl), (refl, refl, refl))

pub returns-then-not-wrote_unsynced-clause-later : goal.returns-then-not-wrote_unsynced-clause-later
returns-then-not-wrote_unsynced-clause-later g c = no_more_same _ _

pub returns-clause-still : goal.returns-clause-still
returns-clause-still g c =
    let call = c.sync.ensures.call in
    record {
      pipes = c.sync.ensures.both;
      same = call.same;
      paths = call.paths;
      names = call.names;
      other = c.sync.ensures.other;
      holds = synced_holds c.args.pipes.now.append c.sync.new.self.append (g.F.FileSystem.disk c.args.files.now) (g.F.FileSystem.disk c.sync.new.files) c.sync.result call.ok call.err;
    }

pub returns-clause-synced : goal.returns-clause-synced
returns-clause-synced g c = λ wrote. c.sync.ensures.call.ok

pub returns-clause-needed : goal.returns-clause-needed
returns-clause-needed g c = λ none. absurd (false≢true (sym none ∙ c.if-not-wrote_unsynced.false))
