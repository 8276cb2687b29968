-- A candidate that a quorum granted leads in that event.
use Rattle.std.specs.Prelude.{◌≡◌, ℕ, ◌&&◌, if◌then◌else◌, Bool, true, false, List, [], ◌∷◌, ◌++◌, None}
use Rattle.raft_quorums.specs.Quorum.{is_quorum}
use Rattle.raft_group_step.specs.Values.{has_id, vote_eq}
use Rattle.raft_group_step.specs.StoredGroup.{StoredGroup}
use Rattle.raft_group_step.specs.Message.{MessageBody, VoteRequest, VoteReply, AppendRequest, AppendReply, SnapshotRequest, SnapshotReply}
use Rattle.raft_group_step.specs.GroupState.{GroupState, Role, Follower, Candidate, Leader, is_candidate, is_leader}
use Rattle.raft_group_step.specs.declared.group_call.GroupCall.TheVariants.{Initialize, Elect, Propose, ChangeMembership, Heartbeat, Lost, TriggerSnapshot, TriggerPurge}
use Rattle.raft_group_step.specs.GroupEvent.{GroupCall, GroupEvent, AddGroup, Call, Receive, Open}
use Rattle.raft_group_step.specs.Lead.{configs_in_force}
use Rattle.raft_group_step.specs.Refusal.{refusal_of}
use Rattle.raft_group_step.specs.GroupStep.{group_step}

-- ---- the grants that count

-- the message grants the vote that the node asks for
abbrev pub is_grant_for : StoredGroup → MessageBody → Bool
is_grant_for s (VoteRequest vote last) = false
is_grant_for s (VoteReply vote granted last) = granted && vote_eq vote s.vote
is_grant_for s (AppendRequest m) = false
is_grant_for s (AppendReply m) = false
is_grant_for s (SnapshotRequest vote id snapshot) = false
is_grant_for s (SnapshotReply m) = false

-- the node stands for election
abbrev pub stands_in_call : GroupCall → Bool
stands_in_call (Initialize m) = true
stands_in_call Elect = true
stands_in_call (Propose command token) = false
stands_in_call (ChangeMembership change token) = false
stands_in_call Heartbeat = false
stands_in_call (Lost peer) = false
stands_in_call TriggerSnapshot = false
stands_in_call (TriggerPurge place) = false

-- a grant counts: the node's own as it stands for election, or one that comes to a candidate
abbrev pub counts_a_grant : GroupState → GroupEvent → Bool
counts_a_grant s AddGroup = false
counts_a_grant s (Call call now) = stands_in_call call
counts_a_grant s (Receive peer m now) = is_candidate s.role && is_grant_for s.stored m.body
counts_a_grant s Open = false

abbrev pub granters_of : Role → List ℕ
granters_of Follower = []
granters_of (Candidate granters) = granters
granters_of (Leader lead) = []

abbrev pub with_granter : ℕ → List ℕ → List ℕ
with_granter n granters = if has_id granters n then granters else granters ++ n ∷ []

-- who has granted a candidate's vote after an event: first the node itself, then each node that said so, once
abbrev pub granters_after : ℕ → GroupState → GroupEvent → List ℕ
granters_after own s AddGroup = granters_of s.role
granters_after own s (Call call now) =
    if stands_in_call call then own ∷ [] else granters_of s.role
granters_after own s (Receive peer m now) =
    if is_grant_for s.stored m.body then with_granter peer (granters_of s.role)
    else granters_of s.role
granters_after own s Open = []

-- a candidate's granters are those whose grants counted since it stood for election
abbrev pub GrantersReplay : Type 0
GrantersReplay =
    (own : ℕ) (s : GroupState) (e : GroupEvent) → refusal_of own s e ≡ None
    → (granters : List ℕ) → (group_step own s e).state.role ≡ Candidate granters
    → granters ≡ granters_after own s e

-- ---- whom a quorum granted

abbrev pub configs_in_call : StoredGroup → GroupCall → List (List ℕ)
configs_in_call s (Initialize m) = m.configs
configs_in_call s Elect = configs_in_force s
configs_in_call s (Propose command token) = configs_in_force s
configs_in_call s (ChangeMembership change token) = configs_in_force s
configs_in_call s Heartbeat = configs_in_force s
configs_in_call s (Lost peer) = configs_in_force s
configs_in_call s TriggerSnapshot = configs_in_force s
configs_in_call s (TriggerPurge place) = configs_in_force s

-- the voter groups that a candidate counts by: those in force, or, where the group is set up, the first ones
abbrev pub configs_counted : GroupState → GroupEvent → List (List ℕ)
configs_counted s AddGroup = configs_in_force s.stored
configs_counted s (Call call now) = configs_in_call s.stored call
configs_counted s (Receive peer m now) = configs_in_force s.stored
configs_counted s Open = configs_in_force s.stored

-- where the grant that an event counts makes a quorum, the node leads as the event is over
abbrev pub GrantedCandidatesLead : Type 0
GrantedCandidatesLead =
    (own : ℕ) (s : GroupState) (e : GroupEvent) → refusal_of own s e ≡ None
    → counts_a_grant s e ≡ true
    → is_quorum (configs_counted s e) (has_id (granters_after own s e)) ≡ true
    → is_leader (group_step own s e).state.role ≡ true

-- a candidate's granters are no quorum
abbrev pub LacksAQuorum : GroupState → Type 0
LacksAQuorum s =
    (granters : List ℕ) → s.role ≡ Candidate granters
    → is_quorum (configs_in_force s.stored) (has_id granters) ≡ false

-- so it is after each step, where the voter groups in force stay while a candidate stands
abbrev pub CandidatesLack : Type 0
CandidatesLack =
    (own : ℕ) (s : GroupState) (e : GroupEvent) → LacksAQuorum s
    → (is_candidate s.role ≡ true → configs_in_force (group_step own s e).state.stored ≡ configs_in_force s.stored)
    → LacksAQuorum (group_step own s e).state
