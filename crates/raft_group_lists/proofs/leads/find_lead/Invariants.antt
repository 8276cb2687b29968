-- The vote isn't noted from there on.
use Rattle.std.proofs.Common.{◌≡◌, ◌≤◌, drop, length}
use Rattle.std.specs.Prelude.{None}
use Rattle.raft_group_lists.specs.Notes.{lead_in}
use Rattle.raft_group_lists.proofs.leads.find_lead.Given as goal

abbrev pub invariant-loop-left : goal.invariant-loop-left
invariant-loop-left l = (l.left ≤ length l.leads) × (lead_in (drop l.left l.leads) l.vote ≡ None)

abbrev pub decreases-loop-left : goal.decreases-loop-left
decreases-loop-left l = l.left
