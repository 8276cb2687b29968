use Rattle.std.proofs.Common.{◌≡◌, drop}
use Rattle.raft_log_ids.specs.LogIdList.{ids_of}
use Rattle.raft_list_facts.specs.Leads.{before_own}
use Rattle.raft_list_facts.proofs.leading.base_among.Given as goal

abbrev pub invariant-loop-at : goal.invariant-loop-at
invariant-loop-at l =
    before_own l.leader l.fn.first (ids_of l.keys) ≡ before_own l.leader l.before (ids_of (drop l.at l.keys))
