use Rattle.std.proofs.Common.{◌∙◌}
use Rattle.raft_group_step.specs.StoredGroup.{CutFrom}
use Rattle.raft_store.specs.Batches.{ShowsBy}
use Rattle.raft_store.proofs.Calls.{stored_one, storing_fails, storing_meets}
use Rattle.raft_store.proofs.group_storage.StoreGroupStorage.cut_from.Goals as goal

pub returns-clause-ok : goal.returns-clause-ok
returns-clause-ok g c = λ well. c.cut_from-made.ensures.ok g.M.StateMachine.rules well.0

pub returns-clause-err : goal.returns-clause-err
returns-clause-err g c = λ well.
    let L = g.L.ContentLog in
    let rules = g.M.StateMachine.rules in
    let old = c.args.self.now in
    let new = c.cut_from-made.new.self in
    let made = c.cut_from-made.ensures in
    storing_fails L.is_misuse rules new.refused c.noted_after-self.result (made.refused ∙ well.1) new.failed_cleaning (made.cleaning ∙ well.2) (ShowsBy rules L.is_sound L.answers L.leaves old.log old.recent) (ShowsBy rules L.is_sound L.answers L.leaves new.log new.recent)
    c.args.group (CutFrom c.args.place) c.cut_from-made.result c.noted_after-self.ensures (made.err rules well.0) (λ s shown is. made.takes rules s well.0 shown is)

pub returns-clause-met : goal.returns-clause-met
returns-clause-met g c =
    let L = g.L.ContentLog in
    let old = c.args.self.now in
    let new = c.cut_from-made.new.self in
    let made = c.cut_from-made.ensures in
    storing_meets L.is_sound L.answers L.leaves L.is_misuse old.log new.log old.recent new.recent (L.meets old.log new.log) new.refused c.noted_after-self.result new.failed_cleaning c.args.group c.cut_from-made.result made.met c.noted_after-self.ensures made.well made.others
    (λ rules s sound shown. stored_one L.is_sound L.answers L.leaves L.is_misuse old.log new.log old.recent new.recent rules c.args.group (CutFrom c.args.place) s c.cut_from-made.result (made.ok rules sound) shown) made.fits
