-- The membership in force is of few nodes at each node of a group, wherever a history leads.
use Rattle.std.specs.Prelude.{◌≡◌, ℕ, ◌≤◌, Bool, true, false, List, [], ◌∷◌, length, Option, Some, None, option_and_then, refl}
use Rattle.std.proofs.Common.{sym, subst, arith}
use Rattle.std.proofs.lemmas.List.{length-map}
use Rattle.raft_values.specs.declared.log_id.LogId.{LogId}
use Rattle.raft_state.specs.declared.entry.EntryPayload.TheVariants.{Blank, Normal, Membership as Members}
use Rattle.raft_group_step.specs.Limits.{node_limit}
use Rattle.raft_group_step.specs.Values.{Entry, EntryPayload, LoggedMembership, Membership, has_id, last_membership, membership_after}
use Rattle.raft_group_step.specs.StoredGroup.{StoredGroup, Snapshot, membership_in_force, prefix_of}
use Rattle.raft_group_step.specs.GroupState.{no_group, state_of}
use Rattle.raft_group_step.specs.Lead.{ids_of}
use Rattle.raft_laws.specs.GroupWorld.{GroupWorld, NodeState, Absent, Up, Down, Recorded, new_world, state_or}
use Rattle.raft_laws.specs.BallotWorld.{BallotWorld}
use Rattle.raft_laws.specs.GroupRun.{group_run}
use Rattle.raft_laws.specs.OneList.{IsGroupHistory}
use Rattle.raft_laws.specs.Origins.{Events}
use Rattle.raft_laws.specs.VotesRise.{stored_of}
use Rattle.raft_laws.specs.FewMembers.{MembersAreFew}
use Rattle.raft_laws.proofs.BallotAgreement.{same_some}
use Rattle.raft_laws.proofs.HeldLists.{machine}
use Rattle.raft_laws.proofs.Runs.{replays-run}
use Rattle.raft_laws.proofs.Standing.{SnapshotFits}
use Rattle.raft_laws.proofs.StepEntries.{Each, StoredEach}
use Rattle.raft_laws.proofs.WorldEntries.{EntriesFit, NodeEach, ran_each}
use Rattle.raft_laws.proofs.WorldFits.{NodeStateFits}
use Rattle.raft_laws.proofs.WorldStart.{founded}
use Rattle.raft_laws.proofs.WrittenMembers.{IsFew, IsFewEntry, written_few}

-- ---- each entry that a run leaves anywhere

-- a blank entry has no membership
blank : (id : LogId ℕ) → Unit {0}
blank id = tt

abbrev AllFew : GroupWorld → Type 0
AllFew w = EntriesFit IsFewEntry blank w

run_few : (es : Events) (w : GroupWorld) → AllFew w → AllFew (group_run es w)
run_few [] w h = h
run_few (x ∷ es) w h =
    run_few es _
    (ran_each IsFewEntry blank w x.0 x.1 h (λ n call now s ask up same taken goes. written_few n s now call taken))

new_few : (b : Bool) → NodeEach IsFewEntry blank (state_or b (Up (state_of no_group)) Absent)
new_few true = (tt, tt)
new_few false = tt

start_few : (ids : List ℕ) → AllFew (new_world ids)
start_few ids = record { nodes = λ n. new_few (has_id ids n); messages = tt; led = tt }

-- ---- and so the last membership of what a node has

-- the membership, if there is one, is of few nodes
abbrev IsFewOption : Option LoggedMembership → Type 0
IsFewOption None = Unit {0}
IsFewOption (Some m) = IsFew m.membership

after_few : (before : Option LoggedMembership) (id : LogId ℕ) (p : EntryPayload) → IsFewOption before → IsFewEntry (record { log_id = id; payload = p }) → IsFewOption (membership_after before id p)
after_few before id Blank h k = h
after_few before id (Normal command) h k = h
after_few before id (Members m) h k = k

last_few : (before : Option LoggedMembership) (es : List Entry) → IsFewOption before → Each IsFewEntry es → IsFewOption (last_membership before es)
last_few before [] h k = h
last_few before (e ∷ es) h k =
    last_few (membership_after before e.log_id e.payload) es (after_few before e.log_id e.payload h k.0) k.1

-- a snapshot's membership is the last one of its list
snapshot_few : (o : Option Snapshot) → ((x : Snapshot) → o ≡ Some x → SnapshotFits x) → Each IsFewEntry (prefix_of o) → IsFewOption (option_and_then (λ (x : Snapshot). x.membership) o)
snapshot_few None f h = tt
snapshot_few (Some x) f h = subst IsFewOption (sym (f x refl).membership) (last_few None x.«prefix» tt h)

ids_few : (o : Option LoggedMembership) → IsFewOption o → length (ids_of o) ≤ node_limit
ids_few None h = omega arith
ids_few (Some m) h = let size = length-map m.membership.nodes (λ x. x.0) in omega (arith, h)

pub stored_few : (st : StoredGroup) → ((x : Snapshot) → st.snapshot ≡ Some x → SnapshotFits x) → StoredEach IsFewEntry st → length (ids_of (membership_in_force st)) ≤ node_limit
stored_few st f h =
    ids_few (membership_in_force st)
    (last_few (option_and_then (λ (x : Snapshot). x.membership) st.snapshot) st.log (snapshot_few st.snapshot f h.1) h.0)

-- ---- a node at a history's end

-- each snapshot that is stored fits its list
abbrev SnapshotsFit : StoredGroup → Type 0
SnapshotsFit st = (x : Snapshot) → st.snapshot ≡ Some x → SnapshotFits x

node_snapshots : (m : Membership) (b : BallotWorld) (n : ℕ) (x : NodeState) (st : StoredGroup) → NodeStateFits m b n x → stored_of x ≡ Some st → SnapshotsFit st
node_snapshots m b n Absent st fits e = absurd (let no : None ≡ Some st = e in cc)
node_snapshots m b n (Up s) st fits e = subst SnapshotsFit (same_some e) fits.1.up.fits.snapshot
node_snapshots m b n (Down stored) st fits e = subst SnapshotsFit (same_some e) fits.1.down.fits.snapshot

history_snapshots : (ids : List ℕ) (rs : List Recorded) (end : GroupWorld) → IsGroupHistory ids rs end → (n : ℕ) (st : StoredGroup) → stored_of (end.nodes n) ≡ Some st → SnapshotsFit st
history_snapshots ids rs end h n st e =
    let f = founded ids h.node_ids rs end h.replays in
    node_snapshots f.membership (machine f.membership f.some end f.is) n (end.nodes n) st (f.is.matches.fits.nodes n) e

entries_few : (x : NodeState) (st : StoredGroup) → NodeEach IsFewEntry blank x → stored_of x ≡ Some st → StoredEach IsFewEntry st
entries_few Absent st h e = absurd (let no : None ≡ Some st = e in cc)
entries_few (Up s) st h e = subst (StoredEach IsFewEntry) (same_some e) h
entries_few (Down stored) st h e = subst (StoredEach IsFewEntry) (same_some e) h

history_few : (ids : List ℕ) (rs : List Recorded) (end : GroupWorld) → IsGroupHistory ids rs end → AllFew end
history_few ids rs end h =
    let run = replays-run rs (new_world ids) end h.replays in
    subst AllFew run.same_end (run_few run.events (new_world ids) (start_few ids))

pub stored_entries_few : (ids : List ℕ) (rs : List Recorded) (end : GroupWorld) → IsGroupHistory ids rs end → (n : ℕ) (st : StoredGroup) → stored_of (end.nodes n) ≡ Some st → StoredEach IsFewEntry st
stored_entries_few ids rs end h n st e = entries_few (end.nodes n) st ((history_few ids rs end h).nodes n) e

pub members_few : MembersAreFew
members_few ids rs end h n st e =
    stored_few st (history_snapshots ids rs end h n st e) (stored_entries_few ids rs end h n st e)
