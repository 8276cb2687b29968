-- Whatever a snapshot's bytes restore, its group is shown as one part still: for a machine that they restore nothing of.
use Rattle.std.proofs.Common.{◌∙◌}
use Rattle.raft_group_step.specs.StoredGroup.{SetSnapshot}
use Rattle.raft_store.specs.Batches.{ShowsBy}
use Rattle.raft_store.proofs.Blank.{blank_rules, covered, shows_blank, stands_blank}
use Rattle.raft_store.proofs.Calls.{stored_one, storing_fails, storing_meets}
use Rattle.raft_store.proofs.Storable.{storable_fits}
use Rattle.raft_store.proofs.group_storage.StoreGroupStorage.set_snapshot.Goals as goal

pub returns-clause-err : goal.returns-clause-err
returns-clause-err g c = λ x well stands.
    let L = g.L.ContentLog in
    let rules = g.M.StateMachine.rules in
    let old = c.args.self.now in
    let new = c.set_snapshot-made.new.self in
    let made = c.set_snapshot-made.ensures in
    storing_fails L.is_misuse rules new.refused c.noted_after-self.result (made.refused ∙ well.1) new.failed_cleaning (made.cleaning ∙ well.2) (ShowsBy rules L.is_sound L.answers L.leaves old.log old.recent) (ShowsBy rules L.is_sound L.answers L.leaves new.log new.recent)
    c.args.group (SetSnapshot x) c.set_snapshot-made.result c.noted_after-self.ensures (made.err rules x well.0 stands) (λ s shown is. made.takes rules s x well.0 stands shown (storable_fits rules c.args.snapshot.now x stands is))

pub returns-clause-met : goal.returns-clause-met
returns-clause-met g c =
    let L = g.L.ContentLog in
    let old = c.args.self.now in
    let new = c.set_snapshot-made.new.self in
    let made = c.set_snapshot-made.ensures in
    let x = covered c.args.snapshot.now in
    let stands = stands_blank c.args.snapshot.now in
    let bytes = c.args.snapshot.now.bytes in
    storing_meets L.is_sound L.answers L.leaves L.is_misuse old.log new.log old.recent new.recent (L.meets old.log new.log) new.refused c.noted_after-self.result new.failed_cleaning c.args.group c.set_snapshot-made.result made.met c.noted_after-self.ensures made.well made.others
    (λ rules s sound shown. stored_one L.is_sound L.answers L.leaves L.is_misuse old.log new.log old.recent new.recent (blank_rules bytes) c.args.group (SetSnapshot x) s c.set_snapshot-made.result (made.ok (blank_rules bytes) x sound stands)
    (shows_blank bytes rules (L.is_sound old.log) (L.answers old.log) (L.leaves old.log) old.recent c.args.group s shown))
    (λ rules s sound shown. made.fits (blank_rules bytes) s x sound stands (shows_blank bytes rules (L.is_sound old.log) (L.answers old.log) (L.leaves old.log) old.recent c.args.group s shown))
