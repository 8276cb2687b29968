-- A leader commits at once what a quorum accepted.
use Rattle.std.specs.Prelude.{◌≡◌, ℕ, ◌==◌, ◌||◌, nat_le, Bool, true, false, Option, Some, None, Contains}
use Rattle.raft_values.specs.declared.log_id.LogId.{LogId}
use Rattle.raft_quorums.specs.Quorum.{is_quorum}
use Rattle.raft_group_step.specs.Values.{Entry, is_written_by}
use Rattle.raft_group_step.specs.StoredGroup.{StoredGroup, entry_at}
use Rattle.raft_group_step.specs.GroupState.{GroupState, Lead, Leader, Untold}
use Rattle.raft_group_step.specs.GroupEvent.{GroupEvent}
use Rattle.raft_group_step.specs.StepResult.{is_within}
use Rattle.raft_group_step.specs.Lead.{configs_in_force, peer_of}
use Rattle.raft_group_step.specs.Refusal.{refusal_of}
use Rattle.raft_group_step.specs.GroupStep.{event_step, group_step}
use Rattle.raft_step_laws.specs.Fitting.{ComesWithin, FitsEvent, FitsStored}
use Rattle.raft_step_laws.specs.Tokens.{HasItsOwnVote, OpensWithNone, WaitsAbove, WaitsLeading}

-- what was accepted reaches the place
abbrev pub reaches : Option (LogId ℕ) → ℕ → Bool
reaches None place = false
reaches (Some id) place = nat_le place id.index

-- the leader itself, and the peers that have accepted its entries up to the place, are a quorum
abbrev pub has_quorum_at : ℕ → StoredGroup → Lead → ℕ → Bool
has_quorum_at own s lead place =
    is_quorum (configs_in_force s) (λ n. n == own || reaches (peer_of lead n).matched place)

-- what goes at the event's end leaves the voter groups in force
abbrev pub PurgeKeepsVoters : ℕ → GroupState → GroupEvent → Type 0
PurgeKeepsVoters own s e =
    configs_in_force (group_step own s e).state.stored ≡ configs_in_force (event_step own s e).state.stored

-- each of a leader's own entries that is in its log, and up to which a quorum has accepted, is committed
abbrev pub CommitsAll : ℕ → GroupState → Lead → Type 0
CommitsAll own s lead =
    (x : Entry) → Contains s.stored.log x → is_written_by s.stored.vote.leader_id x ≡ true
    → has_quorum_at own s.stored lead x.log_id.index ≡ true
    → is_within x.log_id.index s.committed ≡ true

-- so it is after each event that isn't refused
abbrev pub CommitsAtOnce : Type 0
CommitsAtOnce =
    (own : ℕ) (s : GroupState) (e : GroupEvent) → FitsStored s.stored → ComesWithin s e → FitsEvent e
    → refusal_of own s e ≡ None → PurgeKeepsVoters own s e
    → (lead : Lead) → (group_step own s e).state.role ≡ Leader lead
    → CommitsAll own (group_step own s e).state lead

-- no token waits for an entry of the leader's own that a quorum has accepted
abbrev pub NoneWaitsAccepted : ℕ → GroupState → Lead → Type 0
NoneWaitsAccepted own s lead =
    (t : Untold) → Contains s.untold t
    → (x : Entry) → entry_at s.stored t.place ≡ Some x → is_written_by s.stored.vote.leader_id x ≡ true
    → has_quorum_at own s.stored lead t.place ≡ false

-- so it is after each event that isn't refused, too: a token is told in the event that completes the quorum
abbrev pub TokensAreToldAtOnce : Type 0
TokensAreToldAtOnce =
    (own : ℕ) (s : GroupState) (e : GroupEvent) → FitsStored s.stored → ComesWithin s e → FitsEvent e
    → HasItsOwnVote own s → WaitsLeading s → OpensWithNone s e → WaitsAbove s
    → refusal_of own s e ≡ None → PurgeKeepsVoters own s e
    → (lead : Lead) → (group_step own s e).state.role ≡ Leader lead
    → NoneWaitsAccepted own (group_step own s e).state lead
