-- Which state and step of the group an engine stands for.
use Rattle.std.specs.Prelude.{◌≡◌, ℕ, ◌+◌, ◌≤◌, ◌<◌, Bool, true, false, List, [], ◌∷◌, Option, Some, None}
use Rattle.raft_values.specs.declared.log_id.LogId.{LogId}
use Rattle.raft_values.specs.LogId.{place_of, next_place}
use Rattle.raft_membership.specs.declared.effective_membership.EffectiveMembership.{EffectiveMembership as EffectiveMembershipOf}
use Rattle.raft_progress.specs.declared.inflight.Inflight.{Inflight}
use Rattle.raft_progress.specs.declared.inflight.Inflight.TheVariants.{None as Nothing, Logs, Snapshot as SnapshotInFlight}
use Rattle.raft_progress.specs.declared.progress_entry.ProgressEntry.{ProgressEntry}
use Rattle.raft_progress.specs.Parts.{has_value}
use Rattle.raft_group_step.specs.Values.{has_id}
use Rattle.raft_group_step.specs.StoredGroup.{StoredGroup, Snapshot, first_place, end_place, snapshot_last, membership_in_force, last_id}
use Rattle.raft_group_step.specs.Peer.{PeerState, Outstanding}
use Rattle.raft_group_step.specs.GroupState.{GroupState, Role, Follower, Candidate, Leader, Lead, is_leader}
use Rattle.raft_group_step.specs.StepResult.{StepResult}
use Rattle.raft_group_step.specs.Lead.{peer_of, ids_of}
use Rattle.raft_group_step.specs.Frames.{committed_id}
use Rattle.raft_group_step.specs.Refusal.{is_voter_in}
use Rattle.raft_known_state.specs.KnownState.{Knows, IsPlaced, entry_ids}
use Rattle.raft_commands.specs.Config.{config_of}
use Rattle.raft_leaders.specs.Candidate.{CandidateValue}
use Rattle.raft_leaders.specs.Leader.{LeaderValue, peer_at}
use Rattle.raft_leaders.specs.Accepted.{WroteNoneBelow}
use Rattle.raft_engine.specs.Numbering.{NumbersFollow}
use Rattle.raft_engine.specs.Committing.{Moves, moves_in}
use Rattle.raft_engine.specs.Answering.{NeedsNoOther}
use Rattle.raft_engine.specs.ServerStates.{part_in}
use Rattle.raft_engine.specs.Ordering.{AllRest, Basis}
use Rattle.raft_engine.specs.Turns.{MayLead, Turn, Turns, turn_of, turns_in}
use Rattle.std.specs.List.{All}
use Rattle.raft_engine.specs.declared.engine.Engine.{Engine as EngineOf}
use Rattle.raft_engine.specs.Commands.{stored_by, sent_by}
use Rattle.std.specs.Prelude.{nat_eq}

abbrev pub EffectiveMembership : Type 0
EffectiveMembership = EffectiveMembershipOf ℕ (List ℕ)

-- the request that a leader waits for
abbrev pub outstanding_of : Inflight ℕ → Option Outstanding
outstanding_of Nothing = None
outstanding_of (Logs id range) =
    Some (record { id = id; previous = range.prev; last = range.last; has_snapshot = false })
outstanding_of (SnapshotInFlight id last) =
    Some (record { id = id; previous = None; last = last; has_snapshot = true })

-- what is known of a peer
abbrev pub peer_state : ℕ → ProgressEntry ℕ → PeerState
peer_state n entry =
    record {
      peer = n;
      matched = entry.matching;
      search = entry.searching_end;
      next_id = entry.curr_inflight_id + 1;
      outstanding = outstanding_of entry.inflight;
    }

-- the peers stand by rising id
abbrev pub IsBelowPeer : ℕ → List PeerState → Type 0
IsBelowPeer n [] = Unit {0}
IsBelowPeer n (p ∷ ps) = n < p.peer

abbrev pub PeersRise : List PeerState → Type 0
PeersRise [] = Unit {0}
PeersRise (p ∷ ps) = IsBelowPeer p.peer ps × PeersRise ps

-- a candidate under an own vote that isn't committed, with those that granted it
pub record Stands (own : ℕ) (c : CandidateValue ℕ EffectiveMembership) (s : StoredGroup) (granters : List ℕ) : Type 0 where
  pub vote : c.vote ≡ s.vote
  pub is_own : s.vote.leader_id.node_id ≡ own
  pub uncommitted : s.vote.committed ≡ false
  -- all that granted, voters or not: who is a voter may change
  pub granted : c.granted_by ≡ granters

-- a leader under an own committed vote, with what it knows of each peer
pub record Leads (own : ℕ) (l : LeaderValue ℕ EffectiveMembership) (s : StoredGroup) (lead : Lead) : Type 0 where
  pub vote : l.vote ≡ s.vote
  pub is_own : s.vote.leader_id.node_id ≡ own
  pub committed : s.vote.committed ≡ true
  pub last : l.last_log_id ≡ last_id s
  pub began : l.began ≡ lead.began
  -- its first entry stands in the log or is the next one, and it wrote none of the log below
  pub first : l.noop_log_id.index ≤ end_place s
  pub wrote : WroteNoneBelow l.vote.leader_id l.noop_log_id.index (entry_ids s.log)
  pub peers : (n : ℕ) → peer_of lead n ≡ peer_state n (peer_at nat_eq l n)
  pub rising : PeersRise lead.peers
  pub members : (n : ℕ) → has_id (ids_of (membership_in_force s)) n ≡ true → has_value nat_eq l.progress n ≡ true

-- the part that the node plays
abbrev pub PlaysRole : ℕ → Option (LeaderValue ℕ EffectiveMembership) → Option (CandidateValue ℕ EffectiveMembership) → StoredGroup → Role → Type 0
PlaysRole own None None s Follower = Unit {0}
PlaysRole own None (Some c) s Follower = ⊥
PlaysRole own (Some l) c s Follower = ⊥
PlaysRole own None None s (Candidate granters) = ⊥
PlaysRole own None (Some c) s (Candidate granters) = Stands own c s granters
PlaysRole own (Some l) c s (Candidate granters) = ⊥
PlaysRole own None c s (Leader lead) = ⊥
PlaysRole own (Some l) None s (Leader lead) = Leads own l s lead
PlaysRole own (Some l) (Some c) s (Leader lead) = ⊥

-- what is purged lies within the snapshot, that within what is committed, and that within the log
pub record IsInOrder (s : GroupState) : Type 0 where
  pub placed : IsPlaced s.stored
  pub purged : first_place s.stored ≤ next_place (snapshot_last s.stored)
  pub snapshot : next_place (snapshot_last s.stored) ≤ next_place (committed_id s)
  pub committed : place_of (committed_id s) ≡ s.committed
  pub applied : s.applied ≡ s.committed
  pub within : next_place (committed_id s) ≤ end_place s.stored

-- an engine of a group with numbered nodes, whose addresses and data are bytes
abbrev pub Engine : Type 0 → Type 0 → Type 0
Engine C R = EngineOf C (List ℕ) R ℕ (List ℕ)

-- what the words of a step don't decide: the snapshot that a command of its queue stores, whether a node told of a log that is
-- greater than the own one, and as the step began the last number of a command of the state machine, what was stored and
-- committed, and whether a lead was told of
pub record Given : Type 0 where
  pub snapshot : Snapshot
  pub seen_greater_log : Bool
  pub last_sm_seq : ℕ
  pub stored_before : StoredGroup
  pub committed_before : Option (LogId ℕ)
  pub turn_before : Turn

-- what was stored and committed as the step began
abbrev pub basis_before : Given → Basis
basis_before x = record { stored = x.stored_before; committed = x.committed_before }

module _ {C R : Type 0} where
  -- a snapshot, and what the engine knows as a step begins
  abbrev pub given : Snapshot → Engine C R → GroupState → Given
  given x e s =
      record {
        snapshot = x;
        seen_greater_log = e.seen_greater_log;
        last_sm_seq = e.output.last_sm_seq;
        stored_before = s.stored;
        committed_before = e.state.state.committed;
        turn_before = turn_of (is_leader s.role);
      }

  -- the same as a node starts: a lead may begin under the vote that is stored
  abbrev pub given_at_start : Snapshot → Engine C R → GroupState → Given
  given_at_start x e s = record (given x e s) { turn_before = MayLead }

  -- what is stored by the step's state, and committed as far as the engine knows
  abbrev pub basis_of : Engine C R → GroupState → Basis
  basis_of e s = record { stored = s.stored; committed = e.state.state.committed }

  -- the engine of this node stands for the group's state
  pub record IsStateOf (own : ℕ) (e : Engine C R) (s : GroupState) : Type 0 where
    pub config : e.config ≡ config_of own
    pub knows : Knows e.state s.stored
    pub renewed : e.state.state.vote.utime ≡ s.renewed
    pub committed : e.state.state.committed ≡ committed_id s
    pub wish : place_of e.state.wish ≡ s.wish
    pub role : PlaysRole own e.leader e.candidate s.stored s.role
    pub order : IsInOrder s

  -- the engine and its queue stand for the step so far, whatever is stored later
  pub record IsStepOf (x : Given) (own : ℕ) (e : Engine C R) (r : StepResult) : Type 0 where
    pub state : IsStateOf own e r.state
    pub stores : stored_by x.snapshot e.output.queue ≡ r.commands
    pub sends : (s : StoredGroup) (upto : Option (LogId ℕ)) → sent_by own s upto e.output.queue ≡ r.messages
    pub seen : e.seen_greater_log ≡ x.seen_greater_log
    pub numbers : NumbersFollow x.last_sm_seq e.output
    pub moves : Moves x.committed_before (moves_in e.output.queue) e.state.state.committed
    pub at_once : All NeedsNoOther e.output.queue
    pub rests : AllRest own x.snapshot (basis_before x) e.output.queue (basis_of e r.state)
    pub turns : Turns x.turn_before (turns_in e.output.queue) (is_leader r.state.role)

  -- the same once the event is over: what is sent has what is stored and committed then, and the part is noted that the node
  -- plays: it leads, stands for election, follows as a voter, or else learns
  pub record IsWholeStepOf (x : Given) (own : ℕ) (e : Engine C R) (r : StepResult) : Type 0 where
    pub state : IsStateOf own e r.state
    pub stores : stored_by x.snapshot e.output.queue ≡ r.commands
    pub sends : sent_by own r.state.stored (committed_id r.state) e.output.queue ≡ r.messages
    pub seen : e.seen_greater_log ≡ x.seen_greater_log
    pub numbers : NumbersFollow x.last_sm_seq e.output
    pub moves : Moves x.committed_before (moves_in e.output.queue) e.state.state.committed
    pub at_once : All NeedsNoOther e.output.queue
    pub part : e.state.state.server_state ≡ part_in r.state.role (is_voter_in (membership_in_force r.state.stored) own)
    pub rests : AllRest own x.snapshot (basis_before x) e.output.queue (basis_of e r.state)
    pub turns : Turns x.turn_before (turns_in e.output.queue) (is_leader r.state.role)
