-- A read changes nothing of what is shown.
use Rattle.raft_store.proofs.Storing.{still_shown}
use Rattle.raft_store.proofs.store.Store.fetch.Goals as goal

pub returns-in-Ok-clause-kept : goal.returns-in-Ok-clause-kept
returns-in-Ok-clause-kept g c = λ rules. still_shown rules (g.L.ContentLog.is_sound c.args.self.now.log) (g.L.ContentLog.is_sound c.fetch_entries_to.new.self) (g.L.ContentLog.answers c.args.self.now.log) (g.L.ContentLog.answers c.fetch_entries_to.new.self) (g.L.ContentLog.leaves c.args.self.now.log) (g.L.ContentLog.leaves c.fetch_entries_to.new.self) c.args.self.now.recent c.in-Ok.ensures.kept c.in-Ok.ensures.left

pub returns-in-Err-clause-kept : goal.returns-in-Err-clause-kept
returns-in-Err-clause-kept g c = λ rules. still_shown rules (g.L.ContentLog.is_sound c.args.self.now.log) (g.L.ContentLog.is_sound c.fetch_entries_to.new.self) (g.L.ContentLog.answers c.args.self.now.log) (g.L.ContentLog.answers c.fetch_entries_to.new.self) (g.L.ContentLog.leaves c.args.self.now.log) (g.L.ContentLog.leaves c.fetch_entries_to.new.self) c.args.self.now.recent c.in-Err.ensures.kept c.in-Err.ensures.left
