-- One id, or none, rises.
use Rattle.std.proofs.Common.{rules}
use Rattle.raft_group_storage.specs.declared.only_group.TheConstants.{ONLY_GROUP}
use Rattle.raft_group_storage.proofs.Naming.{rises-none, rises-one}
use Rattle.raft_group_storage.proofs.only_group.StoredGroupGroupStorage.groups.Goals as goal

pub returns-in_ok-from_slice-clause-rising : goal.returns-in_ok-from_slice-clause-rising
returns-in_ok-from_slice-clause-rising c = λ well. rises-one _ ONLY_GROUP (search rules)

pub returns-else-is_present-clause-rising : goal.returns-else-is_present-clause-rising
returns-else-is_present-clause-rising c = λ well. rises-none _ (search rules)
