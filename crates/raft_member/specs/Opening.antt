-- What a member that is down is opened with.
use Rattle.std.specs.Prelude.{◌≡◌, ◌≤◌, ℕ, if◌then◌else◌, Option, Some, None}
use Rattle.raft_values.specs.declared.log_id.LogId.{LogId}
use Rattle.raft_values.specs.LogId.{next_place}
use Rattle.raft_group_step.specs.StoredGroup.{Snapshot, StoredGroup, end_place, first_place, id_at, snapshot_last}
use Rattle.raft_group_step.specs.GroupStep.{finished}
use Rattle.raft_group_step.specs.StepResult.{unchanged}
use Rattle.raft_group_step.specs.GroupState.{GroupState}
use Rattle.raft_group_step.specs.Opening.{is_joined_to, resume_lead}
use Rattle.raft_engine.specs.Events.{IsReady}
use Rattle.raft_engine.specs.Opening.{given_at_opening}
use Rattle.raft_engine.specs.Standing.{IsWholeStepOf}
use Rattle.raft_known_state.specs.KnownState.{IsPlaced, KnownState, Knows}
use Rattle.raft_laws.specs.Opened.{opened}
use Rattle.raft_member.specs.Member.{Engine}

-- what was stored is in order once it is opened, and as an engine asks
pub record IsOpenable (own : ℕ) (kept : StoredGroup) : Type 0 where
  pub placed : IsPlaced (opened kept).state.stored
  pub purged : first_place (opened kept).state.stored ≤ next_place (snapshot_last (opened kept).state.stored)
  pub snapshot : (last : LogId ℕ) → snapshot_last kept ≡ Some last → id_at (opened kept).state.stored last.index ≡ Some last
  pub reaches : next_place (snapshot_last (opened kept).state.stored) ≤ end_place (opened kept).state.stored
  pub ready : IsReady own (opened kept).state

-- what is known is what is stored, and nothing is committed yet
pub record Loads (k : KnownState) (stored : StoredGroup) : Type 0 where
  pub knows : Knows k stored
  pub renewed : k.state.vote.utime ≡ None
  pub committed : k.state.committed ≡ None
  pub wish : k.wish ≡ None

-- there is such a known state
abbrev pub IsFresh : StoredGroup → Option KnownState → Type 0
IsFresh stored None = ⊥
IsFresh stored (Some k) = Loads k stored

-- there is an engine, and it has started from the state
abbrev pub HasStarted : Snapshot → ℕ → GroupState → Option Engine → Type 0
HasStarted x own s None = ⊥
HasStarted x own s (Some e) = IsWholeStepOf (given_at_opening x s) own e (finished own None (resume_lead own (unchanged s)))

-- the snapshot's last log id, where the log doesn't belong to it
abbrev pub stale_from : StoredGroup → Option (LogId ℕ) → Option (LogId ℕ)
stale_from s None = None
stale_from s (Some last) = if is_joined_to s last then None else Some last

abbrev pub stale_end : StoredGroup → Option (LogId ℕ)
stale_end s = stale_from s (snapshot_last s)
