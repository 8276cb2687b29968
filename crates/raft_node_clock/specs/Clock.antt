-- The clock of one group at a node.
use Rattle.std.specs.Prelude.{◌≡◌, ◌⊎◌, ℕ, true, false, if◌then◌else◌, List, [], Option, None}
use Rattle.raft_values.specs.declared.log_id.LogId.{LogId}
use Rattle.raft_group_step.specs.StoredGroup.{membership_in_force}
use Rattle.raft_group_step.specs.GroupState.{GroupState}
use Rattle.raft_group_step.specs.Lead.{configs_in_force, other_ids}
use Rattle.raft_group_step.specs.Refusal.{is_voter_in}
use Rattle.raft_engine.specs.ServerStates.{part_in}
use Rattle.raft_timers.specs.declared.view.GroupView.{GroupView}
use Rattle.raft_timers.specs.declared.wanted.Wanted.{Wanted}
use Rattle.raft_timers.specs.Clock.{Clock}
use Rattle.raft_timers.specs.Election.{is_election_due}
use Rattle.raft_timers.specs.Lead.{is_heartbeat_due, lacks_quorum}
use Rattle.raft_timers.specs.Policy.{is_snapshot_due, purge_place}
use Rattle.raft_timers.specs.Request.{lost_peers}
use Rattle.raft_timers.specs.Timers.{answered, moment, ticked, with_peers}
use Rattle.raft_node_clock.specs.declared.heard.Heard.{Heard}
use Rattle.raft_node_clock.specs.Heard.{all_noted, has_moved, heard_at, heard_of}
use Rattle.raft_node_clock.specs.Quorum.{IsLatestQuorum}
use Rattle.raft_node_clock.specs.View.{view_in, waiting_in}

pub record ClockOfGroup : Type 0 where
  pub group : ℕ
  pub heard : List Heard
  pub timers : Clock

-- the group's other members are these from now on
abbrev pub with_members : List ℕ → ClockOfGroup → ClockOfGroup
with_members peers c =
    record { group = c.group; heard = heard_of c.heard peers; timers = with_peers peers c.timers }

-- a frame of the peer was taken, which is known to have this now: where that moved, it was an answer
abbrev pub heard_from : ℕ → Option (LogId ℕ) → ℕ → ClockOfGroup → ClockOfGroup
heard_from peer matched now c =
    record {
      group = c.group;
      heard = all_noted peer matched now c.heard;
      timers = if has_moved peer matched c.heard then answered peer c.timers else c.timers;
    }

-- ---- what is due

pub record IsNothing (w : Wanted) : Type 0 where
  pub elect : w.elect ≡ false
  pub heartbeat : w.heartbeat ≡ false
  pub lost : w.lost.items ≡ []
  pub snapshot : w.snapshot ≡ false
  pub purge : w.purge ≡ None
  pub no_quorum : w.no_quorum ≡ false

-- what the timers ask for that are shown this
pub record IsWanted (c : Clock) (view : GroupView) (waiting : List ℕ) (now : ℕ) (w : Wanted) : Type 0 where
  pub elect : w.elect ≡ is_election_due c.election view (moment c now)
  pub heartbeat : w.heartbeat ≡ is_heartbeat_due c.lead view (moment c now)
  pub lost : w.lost.items ≡ lost_peers waiting (moment c now) c.requests
  pub snapshot : w.snapshot ≡ is_snapshot_due c.config.settings view
  pub purge : w.purge ≡ purge_place c.config.settings view
  pub no_quorum : w.no_quorum ≡ lacks_quorum c.config.settings c.lead view (moment c now)

-- the view of a node in this state of the group, where a quorum was heard of last then
abbrev pub shown : ℕ → Option ℕ → Option ℕ → GroupState → GroupView
shown own place quorum s = view_in (part_in s.role (is_voter_in (membership_in_force s.stored) own)) place quorum s

-- a clock with the members of the membership in force asks for this, and is ticked then
pub record AsksOf (own : ℕ) (place : Option ℕ) (s : GroupState) (now : ℕ) (c new : ClockOfGroup) (w : Wanted) : Type 0 where
  pub quorum : Option ℕ
  pub is_latest : IsLatestQuorum (configs_in_force s.stored) (heard_at own now c.heard) quorum
  pub wanted : IsWanted c.timers (shown own place quorum s) (waiting_in s (other_ids own s.stored)) now w
  pub after : new ≡ record c { timers = ticked (shown own place quorum s) (waiting_in s (other_ids own s.stored)) now c.timers }

abbrev pub IsDue : ℕ → Option ℕ → GroupState → ℕ → ClockOfGroup → ClockOfGroup → Wanted → Type 0
IsDue own place s now old new w = AsksOf own place s now (with_members (other_ids own s.stored) old) new w

-- where memory is refused, the clock is as it was, or has these members
abbrev pub IsKept : List ℕ → ClockOfGroup → ClockOfGroup → Type 0
IsKept peers old new = (new ≡ old) ⊎ (new ≡ with_members peers old)
