-- A leader has committed what a quorum has accepted of its own, along every history, and no token waits there.
use Rattle.std.specs.Prelude.{◌≡◌, ℕ, ◌-◌, ◌<◌, Bool, true, false, List, ◌++◌, length, slice_get, Option, Some, None, refl}
use Rattle.std.proofs.Common.{sym, ap, ◌∙◌, subst, arith, ⊎_elim}
use Rattle.raft_group_step.specs.Values.{Membership, is_written_by}
use Rattle.raft_group_step.specs.StoredGroup.{StoredGroup, entry_at, first_place, held}
use Rattle.raft_group_step.specs.GroupState.{GroupState, Lead, Role, Follower, Candidate, Leader, Untold, is_leader, no_group, state_of}
use Rattle.raft_group_step.specs.GroupEvent.{GroupEvent, Open}
use Rattle.raft_group_step.specs.StepResult.{RefusalReason, StepResult, is_within}
use Rattle.raft_group_step.specs.Lead.{configs_in_force}
use Rattle.raft_group_step.specs.Refusal.{refusal_of}
use Rattle.raft_group_step.specs.GroupStep.{event_step, group_step, step_unless}
use Rattle.raft_group_step.proofs.EntryPlaces.{entry_within}
use Rattle.raft_laws.specs.BallotWorld.{BallotEvent, BallotWorld, ballot_start}
use Rattle.raft_laws.specs.BallotRanks.{ballot_group}
use Rattle.raft_laws.specs.GroupWorld.{NodeState, Absent, Up, Down, state_or}
use Rattle.raft_laws.specs.NodeEvent.{Comes, Restarts, after_step}
use Rattle.raft_laws.specs.GroupRun.{stop_at}
use Rattle.raft_laws.specs.VotesRise.{stored_of}
use Rattle.raft_laws.proofs.BallotSettling.{run_append}
use Rattle.raft_laws.proofs.Counts.{at_contains}
use Rattle.raft_laws.proofs.HeldLists.{at_node}
use Rattle.raft_laws.proofs.Shapes.{joined_at, joined_held}
use Rattle.raft_laws.proofs.Standing.{RoleFits, UpFits}
use Rattle.raft_laws.proofs.StepDispatch.{begins, event_ends, opening_fits, step_fits}
use Rattle.raft_laws.proofs.StepFits.{EventFits, NodeFits, StepEnd, world_after}
use Rattle.raft_laws.proofs.StepOpening.{opening_ends}
use Rattle.raft_laws.proofs.TrackElections.{Ends, configs_are}
use Rattle.raft_laws.proofs.VoteRanks.{leader_eq_from}
use Rattle.raft_laws.proofs.WorldStart.{founded}
use Rattle.raft_laws.proofs.FreshEntries.{without_is}
use Rattle.raft_step_laws.specs.Commits.{CommitsAll, PurgeKeepsVoters, has_quorum_at}
use Rattle.raft_step_laws.specs.Fitting.{IsCommittedWithin}
use Rattle.raft_step_laws.proofs.Committing.{commits_at_once}
use Rattle.raft_step_laws.proofs.FitWords.{entry_place}
use Rattle.raft_step_laws.proofs.Sending.{finished_adds}
use Rattle.raft_history_laws.specs.AnsweredCommits.{LeadersCommitAtOnce, WaitingLackQuorums}
use Rattle.raft_history_laws.specs.WaitingTokens.{IsWaiting}
use Rattle.raft_history_laws.proofs.AlongNodes.{NodesKeepGiven, along_given}
use Rattle.raft_history_laws.proofs.FittingWorlds.{FitsAt, all_fits, comes_within, is_within_log, stored_parts_fit}
use Rattle.raft_history_laws.proofs.WaitingTokens.{waits_own}

-- ---- a leader has the voter groups of the group in force

led_by_voters : {m : Membership} {some : 0 < length m.configs} {own : ℕ} {before : List BallotEvent} {base : StoredGroup} {w : BallotWorld} (r : StepResult) → Ends m some own before base w r → (role : Role) → r.state.role ≡ role → is_leader role ≡ true → configs_in_force r.state.stored ≡ m.configs
led_by_voters r e Follower is t = absurd (let f : false ≡ true = t in cc)
led_by_voters r e (Candidate granters) is t = absurd (let f : false ≡ true = t in cc)
led_by_voters {m} {some} {own} {before} {base} {w} r e (Leader lead) is t =
    let role : RoleFits own e.world r.state.stored.vote (held r.state.stored) (Leader lead) =
    subst (RoleFits own e.world r.state.stored.vote (held r.state.stored)) is e.role
    in
    configs_are {some = some} e.tracks role.1

pub leads_by_voters : (m : Membership) (some : 0 < length m.configs) (own : ℕ) (before : List BallotEvent) (s : GroupState) (lead : Lead) → NodeFits m (world_after m before) own s → s.role ≡ Leader lead → configs_in_force s.stored ≡ m.configs
leads_by_voters m some own before s lead fits e =
    let role : RoleFits own (world_after m before) s.stored.vote (held s.stored) (Leader lead) =
    subst (RoleFits own (world_after m before) s.stored.vote (held s.stored)) e fits.role
    in
    configs_are {some = some} (begins m some own before s s fits refl refl refl) role.1

-- what fits as the step is over
pub node_then : (m : Membership) (some : 0 < length m.configs) (own : ℕ) (before : List BallotEvent) (base : StoredGroup) (r : StepResult) (end : StepEnd m own before base r) → NodeFits m (world_after m (before ++ end.later.events)) own r.state
node_then m some own before base r end =
    subst (λ b. NodeFits m b own r.state) (sym (run_append (ballot_group m) some before end.later.events (ballot_start (ballot_group m)))) end.node

-- ---- each event at a node

module _ (m : Membership) (some : 0 < length m.configs) (own : ℕ) (before : List BallotEvent) (s : GroupState) (e : GroupEvent) (passed : refusal_of own s e ≡ None) (base : StoredGroup) (w : BallotWorld) (own_part : Ends m some own before base w (event_step own s e)) (end : StepEnd m own before base (group_step own s e)) where
  leads_in_part : (lead : Lead) → (group_step own s e).state.role ≡ Leader lead → is_leader (event_step own s e).state.role ≡ true
  leads_in_part lead is =
      sym (finished_adds own s.committed (event_step own s e)).leads
      ∙ ap (λ o. is_leader (step_unless o own s e).state.role) (sym passed)
      ∙ ap is_leader is

  keeps_voters : (lead : Lead) → (group_step own s e).state.role ≡ Leader lead → PurgeKeepsVoters own s e
  keeps_voters lead is =
      leads_by_voters m some own (before ++ end.later.events) (group_step own s e).state lead (node_then m some own before base (group_step own s e) end) is
      ∙ sym (led_by_voters {some = some} (event_step own s e) own_part (event_step own s e).state.role refl (leads_in_part lead is))

abbrev AllCommitted : ℕ → GroupState → Type 0
AllCommitted own s = (lead : Lead) → s.role ≡ Leader lead → CommitsAll own s lead

abbrev NodeCommits : ℕ → NodeState → Type 0
NodeCommits n Absent = Unit {0}
NodeCommits n (Up s) = AllCommitted n s
NodeCommits n (Down stored) = Unit {0}

follower_commits : (n : ℕ) (st : StoredGroup) → AllCommitted n (state_of st)
follower_commits n st lead is = absurd (let f : Follower ≡ Leader lead = is in cc)

stops_commit : (n : ℕ) (stopped : Bool) (k : ℕ) (s : GroupState) (r : StepResult) → AllCommitted n r.state → NodeCommits n (after_step (stop_at stopped k) s r)
stops_commit n true k s r h = tt
stops_commit n false k s r h = h

nodes_commit : NodesKeepGiven FitsAt NodeCommits
nodes_commit m some before n e stopped k Absent fits may given h = tt
nodes_commit m some before n (Comes e) stopped k (Up s) fits may given h =
    stops_commit n stopped k s (group_step n s e)
    (⊎_elim
    (λ event_fits. go event_fits (refusal_of n s e) refl)
    (λ no. subst (λ o. AllCommitted n (step_unless o n s e).state) (sym no.1) h)
    may)
  where
    go : EventFits m (world_after m before) e → (o : Option RefusalReason) → refusal_of n s e ≡ o → AllCommitted n (group_step n s e).state
    go event_fits (Some why) refused = subst (λ o. AllCommitted n (step_unless o n s e).state) (sym refused) h
    go event_fits None passed =
        λ lead is.
        let part = event_ends m some n before fits.0 s e fits.1 event_fits passed in
        let end = step_fits m some n fits.0 before s e fits.1 event_fits in
        let voters = keeps_voters m some n before s e passed s.stored (world_after m before) part.0 end lead is in
        commits_at_once n s e given.0 (comes_within m some before n s fits.1 e) given.1 passed voters lead is
nodes_commit m some before n Restarts stopped k (Up s) fits may given h = h
nodes_commit m some before n other stopped k (Up s) fits may given h = tt
nodes_commit m some before n Restarts stopped k (Down st) fits may given h =
    let s = state_of st in
    let part = opening_ends m some n before st fits.1.down fits.1.lead in
    let end = opening_fits m some n fits.0 before st fits.1 in
    stops_commit n stopped k s (group_step n s Open)
    (λ lead is. commits_at_once n s Open given.0 tt tt refl (keeps_voters m some n before s Open refl st (world_after m before) part end lead is) lead is)
nodes_commit m some before n other stopped k (Down st) fits may given h = tt

start_commits : (n : ℕ) (b : Bool) → NodeCommits n (state_or b (Up (state_of no_group)) Absent)
start_commits n true = follower_commits n no_group
start_commits n false = tt

pub leaders_commit : LeadersCommitAtOnce
leaders_commit ids rs end h n s lead up leads =
    let commits : AllCommitted n s = subst (NodeCommits n) up (along_given FitsAt NodeCommits nodes_commit ids h.node_ids (all_fits ids h.node_ids) start_commits rs end h.replays n) in
    commits lead leads

-- ---- no token waits for what is committed

pub waiting_entry : {m : Membership} (b : BallotWorld) (own : ℕ) (s : GroupState) (x : Untold) → UpFits m (b.node own) s → IsCommittedWithin s → (i : IsWaiting s x) → entry_at s.stored x.place ≡ Some i.entry
waiting_entry b own s x u within i =
    let begins = within.begins in
    let above = without_is s.committed x.place i.above in
    joined_at s.stored u.list u.joined x.place (omega arith)
    ∙ ap (λ l. slice_get l x.place) (sym (joined_held s.stored u.list u.joined))
    ∙ i.stands

pub waiting_lack : WaitingLackQuorums
waiting_lack ids rs end h n s lead up leads x there = go (has_quorum_at n s.stored lead x.place) refl
  where
    go : (b : Bool) → has_quorum_at n s.stored lead x.place ≡ b → has_quorum_at n s.stored lead x.place ≡ false
    go false q = q
    go true q =
        let f = founded ids h.node_ids rs end h.replays in
        let fits = at_node f.membership (world_after f.membership f.is.matches.before) end f.is.matches.fits n (Up s) up in
        let within = is_within_log f.membership f.some f.is.matches.before n s fits.1.up in
        let i = (waits_own ids rs end h n s up).0 x there in
        let stored = stored_parts_fit ids rs end h n s.stored (ap stored_of up) in
        let at = waiting_entry (world_after f.membership f.is.matches.before) n s x fits.1.up within i in
        let place = entry_place s.stored stored x.place i.entry at in
        let inside = at_contains s.stored.log i.entry (x.place - first_place s.stored) (entry_within s.stored x.place i.entry at).2 in
        let written : is_written_by s.stored.vote.leader_id i.entry ≡ true = leader_eq_from i.entry.log_id.leader_id s.stored.vote.leader_id i.own in
        let committed =
        leaders_commit ids rs end h n s lead up leads i.entry inside written (ap (has_quorum_at n s.stored lead) place ∙ q)
        in
        absurd (let no : true ≡ false = sym committed ∙ ap (λ k. is_within k s.committed) place ∙ i.above in cc)
