-- Where no membership of the log goes or comes, the one in force stays, and a leader counts by it already.
use Rattle.std.specs.Prelude.{◌≡◌, ℕ, zero, suc, ◌+◌, ◌-◌, ◌<◌, ◌≤◌, List, [], ◌∷◌, drop, length, Option, Some, None, option_and_then, refl}
use Rattle.std.proofs.Common.{sym, ap, ap₂, ◌∙◌, subst, arith}
use Rattle.raft_values.specs.declared.log_id.LogId.{LogId}
use Rattle.raft_state.specs.declared.entry.EntryPayload.TheVariants.{Blank, Normal, Membership as Members}
use Rattle.raft_group_step.specs.Values.{Entry, EntryPayload, LoggedMembership, Membership}
use Rattle.raft_group_step.specs.StoredGroup.{StoredGroup, Snapshot, RemoveUpTo, SetSnapshot, after_storing, first_place, membership_in_force}
use Rattle.raft_group_step.specs.GroupState.{Role, Follower, Candidate, Leader}
use Rattle.raft_known_state.specs.KnownState.{EffectiveMembership, KnownState, Knows, effective_of, last_else, memberships_in, with_membership_of}
use Rattle.raft_known_state.proofs.KnownStateLemmas.{last_in}
use Rattle.raft_leaders.specs.Candidate.{CandidateValue}
use Rattle.raft_leaders.specs.Leader.{LeaderValue}
use Rattle.raft_engine.specs.Leading.{CountsBy, CountsOn}
use Rattle.raft_engine.specs.Standing.{PlaysRole}

-- ---- the membership in force

effective_same : (a b : Option LoggedMembership) → effective_of a ≡ effective_of b → a ≡ b
effective_same None None h = refl
effective_same None (Some b) h = let no : None ≡ Some b.log_id = ap (λ (m : EffectiveMembership). m.log_id) h in cc
effective_same (Some a) None h = let no : Some a.log_id ≡ None = ap (λ (m : EffectiveMembership). m.log_id) h in cc
effective_same (Some a) (Some b) h =
    let both : Some a.log_id ≡ Some b.log_id = ap (λ (m : EffectiveMembership). m.log_id) h in
    let ids : a.log_id ≡ b.log_id = cc in
    let made : LogId ℕ → Membership → LoggedMembership = λ id m. record { log_id = id; membership = m } in
    ap Some (ap₂ made ids (ap (λ (m : EffectiveMembership). m.membership) h))

-- the snapshot's membership
abbrev of_snapshot : StoredGroup → Option LoggedMembership
of_snapshot s = option_and_then (λ (y : Snapshot). y.membership) s.snapshot

force_same : (s' s : StoredGroup) → last_else (effective_of (of_snapshot s')) (memberships_in s'.log) ≡ last_else (effective_of (of_snapshot s)) (memberships_in s.log) → membership_in_force s' ≡ membership_in_force s
force_same s' s h = effective_same (membership_in_force s') (membership_in_force s) (last_in s'.log (of_snapshot s') ∙ h ∙ sym (last_in s.log (of_snapshot s)))

-- ---- a purge

no_more : (es : List Entry) (n : ℕ) → length (memberships_in (drop n es)) ≤ length (memberships_in es)
no_more [] zero = omega arith
no_more [] (suc n) = omega arith
no_more (e ∷ es) zero = omega arith
no_more (e ∷ es) (suc n) = here e.payload (no_more es n)
  where
    here : (x : EntryPayload) → length (memberships_in (drop n es)) ≤ length (memberships_in es) → length (memberships_in (drop n es)) ≤ length (with_membership_of e.log_id x (memberships_in es))
    here Blank l = l
    here (Normal command) l = l
    here (Members m) l = omega arith

-- as many memberships are the same ones
as_many : (es : List Entry) (n : ℕ) → length (memberships_in (drop n es)) ≡ length (memberships_in es) → memberships_in (drop n es) ≡ memberships_in es
as_many [] zero h = refl
as_many [] (suc n) h = refl
as_many (e ∷ es) zero h = refl
as_many (e ∷ es) (suc n) h = here e.payload (as_many es n) (no_more es n) h
  where
    here : (x : EntryPayload) → (length (memberships_in (drop n es)) ≡ length (memberships_in es) → memberships_in (drop n es) ≡ memberships_in es)
        → length (memberships_in (drop n es)) ≤ length (memberships_in es)
        → length (memberships_in (drop n es)) ≡ length (with_membership_of e.log_id x (memberships_in es)) → memberships_in (drop n es) ≡ with_membership_of e.log_id x (memberships_in es)
    here Blank same l k = same k
    here (Normal command) same l k = same k
    here (Members m) same l k = absurd (omega arith)

-- a purge that leaves as many memberships leaves the one in force
pub purge_keeps_force : (k k' : KnownState) (s : StoredGroup) (upto : LogId ℕ) → Knows k s → Knows k' (after_storing (RemoveUpTo upto) s) → length k'.memberships ≡ length k.memberships
    → membership_in_force (after_storing (RemoveUpTo upto) s) ≡ membership_in_force s
purge_keeps_force k k' s upto knows left many =
    let items = as_many s.log (upto.index + 1 - first_place s) (ap length (sym left.memberships) ∙ many ∙ ap length knows.memberships) in
    force_same (after_storing (RemoveUpTo upto) s) s (ap (last_else (effective_of (of_snapshot s))) items)

-- ---- a snapshot

last_of_some : (a b : EffectiveMembership) (ms : List EffectiveMembership) → 0 < length ms → last_else a ms ≡ last_else b ms
last_of_some a b [] l = absurd (omega arith)
last_of_some a b (m ∷ ms) l = refl

-- where the log has a membership, a snapshot leaves the one in force
pub snapshot_keeps_force : (k : KnownState) (s : StoredGroup) (x : Snapshot) → Knows k s → 0 < length k.memberships → membership_in_force (after_storing (SetSnapshot x) s) ≡ membership_in_force s
snapshot_keeps_force k s x knows some =
    let there : 0 < length (memberships_in s.log) = subst (λ (ms : List EffectiveMembership). 0 < length ms) knows.memberships some in
    force_same (after_storing (SetSnapshot x) s) s (last_of_some (effective_of x.membership) (effective_of (of_snapshot s)) (memberships_in s.log) there)

-- ---- a leader

abbrev LeaderOf : Type 0
LeaderOf = LeaderValue ℕ EffectiveMembership

-- a leader keeps something of each member, and so of each where the membership in force stays
pub counts_still : (own : ℕ) (l : Option LeaderOf) (c : Option (CandidateValue ℕ EffectiveMembership)) (s s' : StoredGroup) (role : Role) → PlaysRole own l c s role
    → membership_in_force s' ≡ membership_in_force s → CountsOn (membership_in_force s') l l
counts_still own None c s s' role h same = tt
counts_still own (Some l) c s s' Follower h same = absurd h
counts_still own (Some l) c s s' (Candidate granters) h same = absurd h
counts_still own (Some l) None s s' (Leader lead) h same =
    let by : CountsBy (membership_in_force s) l l = record { members = h.members; peers = λ n. refl; rest = refl } in
    subst (λ m. CountsBy m l l) (sym same) by
counts_still own (Some l) (Some c) s s' (Leader lead) h same = absurd h
