use Rattle.raft_store.proofs.Calls.{reading_meets}
use Rattle.raft_store.proofs.group_storage.StoreGroupStorage.entries_between.Goals as goal

pub returns-clause-met : goal.returns-clause-met
returns-clause-met g c =
    let L = g.L.ContentLog in
    let old = c.args.self.now in
    let new = c.entries_between-made.new.self in
    let made = c.entries_between-made.ensures in
    reading_meets L.is_sound L.answers L.leaves L.is_misuse old.log new.log old.recent new.recent (L.meets old.log new.log) new.refused c.noted_after-self.result new.failed_cleaning c.args.group c.entries_between-made.result made.met c.noted_after-self.ensures made.well made.kept made.cause
