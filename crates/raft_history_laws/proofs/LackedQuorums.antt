-- The granters of a candidate are no quorum, along every history.
use Rattle.std.specs.Prelude.{◌≡◌, ℕ, ◌<◌, ◌^◌, Bool, true, false, List, ◌++◌, length, refl}
use Rattle.std.proofs.Common.{sym, ◌∙◌, subst, ⊎_elim}
use Rattle.raft_group_step.specs.Values.{Membership}
use Rattle.raft_group_step.specs.StoredGroup.{StoredGroup, held}
use Rattle.raft_group_step.specs.GroupState.{GroupState, Role, Follower, Candidate, Leader, is_candidate, no_group, state_of}
use Rattle.raft_group_step.specs.GroupEvent.{GroupEvent, Open}
use Rattle.raft_group_step.specs.StepResult.{StepResult}
use Rattle.raft_group_step.specs.Lead.{configs_in_force}
use Rattle.raft_group_step.specs.GroupStep.{group_step, step_unless}
use Rattle.raft_laws.specs.BallotWorld.{BallotEvent, ballot_start}
use Rattle.raft_laws.specs.BallotRanks.{ballot_group}
use Rattle.raft_laws.specs.GroupWorld.{NodeState, Absent, Up, Down, state_or}
use Rattle.raft_laws.specs.NodeEvent.{Comes, Restarts, after_step}
use Rattle.raft_laws.specs.GroupRun.{stop_at}
use Rattle.raft_laws.proofs.BallotSettling.{run_append}
use Rattle.raft_laws.proofs.Standing.{RoleFits}
use Rattle.raft_laws.proofs.StepDispatch.{begins, step_fits}
use Rattle.raft_laws.proofs.StepFits.{EventFits, NodeFits, StepEnd, world_after}
use Rattle.raft_laws.proofs.TrackElections.{configs_are}
use Rattle.raft_step_laws.specs.Elections.{LacksAQuorum}
use Rattle.raft_step_laws.proofs.Electing.{candidates_lack}
use Rattle.raft_history_laws.specs.Candidates.{CandidatesLackQuorums}
use Rattle.raft_history_laws.proofs.AlongNodes.{NodesKeep, along_nodes}

-- a candidate has the voter groups of the group in force
stands_by : (m : Membership) (some : 0 < length m.configs) (own : ℕ) (before : List BallotEvent) (s : GroupState) (granters : List ℕ) → NodeFits m (world_after m before) own s → s.role ≡ Candidate granters → configs_in_force s.stored ≡ m.configs
stands_by m some own before s granters fits e =
    let role : RoleFits own (world_after m before) s.stored.vote (held s.stored) (Candidate granters) =
    subst (RoleFits own (world_after m before) s.stored.vote (held s.stored)) e fits.role
    in
    configs_are {some = some} (begins m some own before s s fits refl refl refl) role.1

candidate_is : (role : Role) → is_candidate role ≡ true → (granters : List ℕ) × (role ≡ Candidate granters)
candidate_is Follower e = absurd (let f : false ≡ true = e in cc)
candidate_is (Candidate granters) e = (granters, refl)
candidate_is (Leader lead) e = absurd (let f : false ≡ true = e in cc)

comes_lack : (m : Membership) (some : 0 < length m.configs) (own : ℕ) (small : own < 2 ^ 64) (before : List BallotEvent) (s : GroupState) (e : GroupEvent) → NodeFits m (world_after m before) own s → EventFits m (world_after m before) e → LacksAQuorum s → LacksAQuorum (group_step own s e).state
comes_lack m some own small before s e fits event_fits h granters is =
    let r = group_step own s e in
    let end : StepEnd m own before s.stored r = step_fits m some own small before s e fits event_fits in
    let after : List BallotEvent = before ++ end.later.events in
    let now : NodeFits m (world_after m after) own r.state =
    subst (λ b. NodeFits m b own r.state) (sym (run_append (ballot_group m) some before end.later.events (ballot_start (ballot_group m)))) end.node
    in
    let new = stands_by m some own after r.state granters now is in
    candidates_lack own s e h
    (λ stood.
    let c = candidate_is s.role stood in
    new ∙ sym (stands_by m some own before s c.0 fits c.1))
    granters is

-- ---- each event at a node

abbrev NodeLacks : ℕ → NodeState → Type 0
NodeLacks n Absent = Unit {0}
NodeLacks n (Up s) = LacksAQuorum s
NodeLacks n (Down stored) = Unit {0}

stops_lack : (n : ℕ) (stopped : Bool) (k : ℕ) (s : GroupState) (r : StepResult) → LacksAQuorum r.state → NodeLacks n (after_step (stop_at stopped k) s r)
stops_lack n true k s r h = tt
stops_lack n false k s r h = h

-- what doesn't stand lacks nothing
follower_lacks : (st : StoredGroup) → LacksAQuorum (state_of st)
follower_lacks st granters is = absurd (let f : Follower ≡ Candidate granters = is in cc)

nodes_lack : NodesKeep NodeLacks
nodes_lack m some before n e stopped k Absent fits may h = tt
nodes_lack m some before n (Comes e) stopped k (Up s) fits may h =
    stops_lack n stopped k s (group_step n s e)
    (⊎_elim
    (λ event_fits. comes_lack m some n fits.0 before s e fits.1 event_fits h)
    (λ no. subst (λ o. LacksAQuorum (step_unless o n s e).state) (sym no.1) h)
    may)
nodes_lack m some before n Restarts stopped k (Up s) fits may h = h
nodes_lack m some before n other stopped k (Up s) fits may h = tt
nodes_lack m some before n Restarts stopped k (Down stored) fits may h =
    stops_lack n stopped k (state_of stored) (group_step n (state_of stored) Open)
    (candidates_lack n (state_of stored) Open (follower_lacks stored) (λ e. absurd (let f : false ≡ true = e in cc)))
nodes_lack m some before n other stopped k (Down stored) fits may h = tt

start_lacks : (n : ℕ) (b : Bool) → NodeLacks n (state_or b (Up (state_of no_group)) Absent)
start_lacks n true = follower_lacks no_group
start_lacks n false = tt

pub candidates_lack_quorums : CandidatesLackQuorums
candidates_lack_quorums ids rs end h n s up =
    subst (NodeLacks n) up (along_nodes NodeLacks nodes_lack ids h.node_ids start_lacks rs end h.replays n)
