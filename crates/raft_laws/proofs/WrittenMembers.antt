-- An entry that a call writes has a membership of few nodes, or none, since a call with a greater one is refused.
use Rattle.std.specs.Prelude.{◌≡◌, ℕ, ◌≤◌, ◌==◌, ◌&&◌, not, nat_le, true, List, length, Option, Some, None}
use Rattle.std.specs.List.{list_all}
use Rattle.std.proofs.Common.{subst, leb-true}
use Rattle.std.proofs.lemmas.Bool.{and_parts}
use Rattle.raft_state.specs.declared.entry.EntryPayload.TheVariants.{Blank, Normal, Membership as Members}
use Rattle.raft_group_step.specs.Limits.{address_limit, node_limit, voter_group_limit, voter_limit}
use Rattle.raft_group_step.specs.Values.{after_change, ChangeMembers, Entry, EntryPayload, is_valid, is_within_limits, LoggedMembership, Membership}
use Rattle.raft_group_step.specs.StoredGroup.{StoredGroup, membership_in_force}
use Rattle.raft_group_step.specs.GroupState.{GroupState}
use Rattle.raft_group_step.specs.declared.group_call.GroupCall.TheVariants.{Initialize, Elect, Propose, ChangeMembership, Heartbeat, Lost, TriggerSnapshot, TriggerPurge}
use Rattle.raft_group_step.specs.GroupEvent.{GroupCall, Call}
use Rattle.raft_group_step.specs.StepResult.{MembershipRefused}
use Rattle.raft_group_step.specs.Refusal.{is_first_membership, reasons_of, reasons_of_call, reasons_of_change, refusal_of}
use Rattle.raft_group_step.proofs.Refusals.{unless_none}
use Rattle.raft_laws.specs.Origins.{changed_entry, entry_of_call}
use Rattle.raft_laws.proofs.BallotAgreement.{same_some}
use Rattle.raft_laws.proofs.StepCalls.{NoReason, no_reason}

-- the membership has no more nodes than one may have
abbrev pub IsFew : Membership → Type 0
IsFew m = length m.nodes ≤ node_limit

abbrev pub IsFewPayload : EntryPayload → Type 0
IsFewPayload Blank = Unit {0}
IsFewPayload (Normal command) = Unit {0}
IsFewPayload (Members m) = IsFew m

-- the entry's membership, if it has one, is of few nodes
abbrev pub IsFewEntry : Entry → Type 0
IsFewEntry e = IsFewPayload e.payload

few_within : (m : Membership) → is_within_limits m ≡ true → IsFew m
few_within m t =
    let groups = nat_le (length m.configs) voter_group_limit && list_all (λ group. nat_le (length group) voter_limit) m.configs in
    let addresses = list_all (λ (x : ℕ × List ℕ). nat_le (length x.1) address_limit) m.nodes in
    let most = and_parts (groups && nat_le (length m.nodes) node_limit) addresses t in
    leb-true (length m.nodes) node_limit (and_parts groups (nat_le (length m.nodes) node_limit) most.0).1

first_few : (m : Membership) → is_first_membership m ≡ true → IsFew m
first_few m t =
    let limits = and_parts (is_valid m && is_within_limits m) (not (length m.configs == 0)) t in
    few_within m (and_parts (is_valid m) (is_within_limits m) limits.0).1

-- what isn't there is nothing
none_few : (e : Entry) → None ≡ Some e → IsFewEntry e
none_few e q = absurd (let f : None ≡ Some e = q in cc)

changed_few : (st : StoredGroup) (o : Option LoggedMembership) (change : ChangeMembers) → NoReason (reasons_of_change o change) → (e : Entry) → changed_entry st o change ≡ Some e → IsFewEntry e
changed_few st None change passed e q = none_few e q
changed_few st (Some m) change passed e q =
    let new = after_change m.membership change in
    let allowed = unless_none (is_valid new && is_within_limits new) MembershipRefused passed.0 in
    subst IsFewEntry (same_some q) (few_within new (and_parts (is_valid new) (is_within_limits new) allowed).1)

by_call : (own : ℕ) (s : GroupState) (now : ℕ) (call : GroupCall) → NoReason (reasons_of_call own s now call) → (e : Entry) → entry_of_call s.stored call ≡ Some e → IsFewEntry e
by_call own s now (Initialize m) passed e q =
    subst IsFewEntry (same_some q) (first_few m (unless_none (is_first_membership m) MembershipRefused passed.0))
by_call own s now Elect passed e q = none_few e q
by_call own s now (Propose command token) passed e q = subst IsFewEntry (same_some q) tt
by_call own s now (ChangeMembership change token) passed e q =
    changed_few s.stored (membership_in_force s.stored) change passed.1.1.1 e q
by_call own s now Heartbeat passed e q = none_few e q
by_call own s now (Lost peer) passed e q = none_few e q
by_call own s now TriggerSnapshot passed e q = none_few e q
by_call own s now (TriggerPurge place) passed e q = none_few e q

-- a call that isn't refused writes no membership with more nodes
pub written_few : (own : ℕ) (s : GroupState) (now : ℕ) (call : GroupCall) → refusal_of own s (Call call now) ≡ None → (e : Entry) → entry_of_call s.stored call ≡ Some e → IsFewEntry e
written_few own s now call passed e q =
    let p = no_reason (reasons_of own s (Call call now)) passed in by_call own s now call p.1 e q
