-- The copies are the first entries of the snapshot's list and of the log behind it.
use Rattle.raft_stored_group.proofs.SnapshotLemmas.{snapshot_made}
use Rattle.raft_stored_group.proofs.stored_group.StoredGroup.snapshot_up_to.Goals as goal

pub returns : goal.returns
returns c =
    let made = snapshot_made c.args.self.now c.args.id c.snapshot_entries-start.result.now c.log_from.result.now c.new-entries.result.items c.push_up_to.new.to.items c.push_up_to-2.new.to.items
    c.snapshot_entries-start.ensures c.log_from.ensures c.new-entries.ensures.items c.in_ok-push_up_to.ensures c.in_ok-push_up_to-2.ensures in
    cc (made, c.in_ok-membership.ensures, c.last_membership.ensures, c.new.ensures)
