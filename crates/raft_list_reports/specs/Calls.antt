-- What a call asks of its group, by what is noted of it.
use Rattle.std.specs.Prelude.{◌≡◌, ◌⊎◌, ℕ, false, Option, Some, None, MatchOption, option_map}
use Rattle.raft_values.specs.declared.vote.Vote.{Vote}
use Rattle.raft_values.specs.LogId.{log_id_of}
use Rattle.raft_state.specs.declared.entry.EntryPayload.TheVariants.{Normal, Membership as Members}
use Rattle.raft_group_step.specs.Values.{ChangeMembers, EntryPayload, Membership, after_change, is_valid}
use Rattle.raft_group_step.specs.declared.group_call.GroupCall.TheVariants.{Initialize, Elect, Propose, ChangeMembership, Heartbeat, Lost, TriggerSnapshot, TriggerPurge}
use Rattle.raft_group_step.specs.GroupEvent.{GroupCall}
use Rattle.raft_group_lists.specs.Notes.{HasNoId, IsNotedAt, Notes, accounts_of, membership_in}
use Rattle.raft_list_steps.specs.declared.report.SetUp.{SetUp}

-- ---- a set-up

-- the set-up that is asked for is told, with its voters, where none is noted yet
abbrev pub IsFirstSetUp : Notes → Option Membership → Option SetUp → Type 0
IsFirstSetUp s asked said =
    MatchOption said
    ((asked ≡ None) ⊎ ((at : ℕ) × IsNotedAt s.noted (log_id_of 0 0 0) at))
    (λ x. (asked ≡ Some x.membership) × (x.voters ≡ x.membership.configs) × HasNoId s.noted (log_id_of 0 0 0))

-- ---- what a call writes

-- the membership behind the change, if there is one before it
abbrev pub changed_of : Option Membership → ChangeMembers → Option EntryPayload
changed_of old change = option_map (λ (m : Membership). Members (after_change m change)) old

-- what a call writes at a leader whose list has this membership in force
abbrev pub payload_of : Option Membership → GroupCall → Option EntryPayload
payload_of old (Initialize membership) = None
payload_of old Elect = None
payload_of old (Propose command token) = Some (Normal command)
payload_of old (ChangeMembership change token) = changed_of old change
payload_of old Heartbeat = None
payload_of old (Lost peer) = None
payload_of old TriggerSnapshot = None
payload_of old (TriggerPurge place) = None

-- the call's change makes no valid membership of the one in force: it is refused
abbrev pub IsInvalid : Option Membership → GroupCall → Type 0
IsInvalid old (Initialize membership) = ⊥
IsInvalid old Elect = ⊥
IsInvalid old (Propose command token) = ⊥
IsInvalid old (ChangeMembership change token) = (m : Membership) × (old ≡ Some m) × (is_valid (after_change m change) ≡ false)
IsInvalid old Heartbeat = ⊥
IsInvalid old (Lost peer) = ⊥
IsInvalid old TriggerSnapshot = ⊥
IsInvalid old (TriggerPurge place) = ⊥

-- this is what the call writes behind the list that the vote's leader was noted with last
abbrev pub IsWrittenBy : Notes → Vote ℕ → GroupCall → Option EntryPayload → Type 0
IsWrittenBy s vote call written =
    let old = membership_in ((accounts_of s).latest vote) in (written ≡ payload_of old call) ⊎ ((written ≡ None) × IsInvalid old call)
