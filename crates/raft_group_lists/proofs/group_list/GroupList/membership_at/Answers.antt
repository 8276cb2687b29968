use Rattle.std.proofs.Common.{sym, subst}
use Rattle.raft_group_lists.specs.Notes.{AreJoined}
use Rattle.raft_group_lists.proofs.group_list.GroupList.membership_at.Goals as goal

pub membership_to-requires-clause-joined : goal.membership_to-requires-clause-joined
membership_to-requires-clause-joined c = subst AreJoined (sym c.as_slice.ensures.value) c.self.invariant.0.joined
