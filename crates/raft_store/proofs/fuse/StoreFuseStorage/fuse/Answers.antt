-- A fuse changes nothing of what is shown.
use Rattle.raft_store.proofs.Storing.{still_shown}
use Rattle.raft_store.proofs.fuse.StoreFuseStorage.fuse.Goals as goal

pub returns-clause-kept : goal.returns-clause-kept
returns-clause-kept g c =
    let e = c.fuse.ensures in
    still_shown g.M.StateMachine.rules _ _ _ _ _ _ _ (λ sound. (e.sound.0 sound, e.answers)) (λ left may. (e.leaves left).0 may)
