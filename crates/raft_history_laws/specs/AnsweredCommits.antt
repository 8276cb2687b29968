-- A leader commits at once what a quorum has answered in its lead, and no token waits there.
use Rattle.std.specs.Prelude.{◌≡◌, ℕ, true, false, List, Contains}
use Rattle.raft_group_step.specs.Values.{Entry, is_written_by}
use Rattle.raft_group_step.specs.GroupState.{GroupState, Lead, Leader, Untold}
use Rattle.raft_group_step.specs.StepResult.{is_within}
use Rattle.raft_laws.specs.GroupWorld.{GroupWorld, Recorded, Up, new_world}
use Rattle.raft_laws.specs.GroupRun.{group_run}
use Rattle.raft_laws.specs.OneList.{AreNodeIds, IsGroupHistory}
use Rattle.raft_laws.specs.Origins.{Events}
use Rattle.raft_step_laws.specs.Commits.{CommitsAll, has_quorum_at}
use Rattle.raft_history_laws.specs.KnownPeers.{has_answered_quorum}
use Rattle.raft_history_laws.specs.Leads.{leads_of}

-- each node that leads has committed what, as it knows, a quorum has accepted of its own
abbrev pub LeadersCommitAtOnce : Type 0
LeadersCommitAtOnce =
    (ids : List ℕ) (rs : List Recorded) (end : GroupWorld) → IsGroupHistory ids rs end
    → (n : ℕ) (s : GroupState) (lead : Lead) → end.nodes n ≡ Up s → s.role ≡ Leader lead → CommitsAll n s lead

-- and none of its tokens waits for a place that a quorum has accepted
abbrev pub WaitingLackQuorums : Type 0
WaitingLackQuorums =
    (ids : List ℕ) (rs : List Recorded) (end : GroupWorld) → IsGroupHistory ids rs end
    → (n : ℕ) (s : GroupState) (lead : Lead) → end.nodes n ≡ Up s → s.role ≡ Leader lead
    → (x : Untold) → Contains s.untold x → has_quorum_at n s.stored lead x.place ≡ false

-- so too by the replies that came in this lead: each entry of its own up to which they make a quorum is committed
abbrev pub AnsweredAreCommitted : Type 0
AnsweredAreCommitted =
    (ids : List ℕ) → AreNodeIds ids → (es : Events) (n : ℕ) (s : GroupState) (lead : Lead)
    → (group_run es (new_world ids)).nodes n ≡ Up s → s.role ≡ Leader lead
    → (e : Entry) → Contains s.stored.log e → is_written_by s.stored.vote.leader_id e ≡ true
    → has_answered_quorum n s lead (leads_of es (new_world ids) n) e.log_id.index ≡ true
    → is_within e.log_id.index s.committed ≡ true

-- and no token waits where they do
abbrev pub WaitingLackAnswers : Type 0
WaitingLackAnswers =
    (ids : List ℕ) → AreNodeIds ids → (es : Events) (n : ℕ) (s : GroupState) (lead : Lead)
    → (group_run es (new_world ids)).nodes n ≡ Up s → s.role ≡ Leader lead
    → (x : Untold) → Contains s.untold x
    → has_answered_quorum n s lead (leads_of es (new_world ids) n) x.place ≡ false
