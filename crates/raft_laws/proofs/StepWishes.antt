-- What a leader is still to purge lies within its snapshot's list, after each kind of event.
use Rattle.std.specs.Prelude.{◌≡◌, ℕ, ◌+◌, ◌<◌, ◌≤◌, Bool, false, length, Option, Some, None, option_map}
use Rattle.raft_values.specs.declared.vote.Vote.{Vote}
use Rattle.raft_group_step.specs.Values.{ChangeMembers, LoggedMembership}
use Rattle.raft_group_step.specs.StoredGroup.{Snapshot, prefix_of}
use Rattle.raft_group_step.specs.Message.{AppendFields, ReplyFields}
use Rattle.raft_group_step.specs.GroupState.{Role}
use Rattle.raft_group_step.specs.StepResult.{StepResult, step_down, take_over, is_within}
use Rattle.raft_group_step.specs.Lead.{commit_as_leader, purge_as_wished}
use Rattle.raft_group_step.specs.Frames.{with_frames}
use Rattle.raft_group_step.specs.Elect.{elect_step}
use Rattle.raft_group_step.specs.VoteRequest.{judged}
use Rattle.raft_group_step.specs.VoteReply.{counted}
use Rattle.raft_group_step.specs.AppendRequest.{heard}
use Rattle.raft_group_step.specs.SnapshotRequest.{offered}
use Rattle.raft_group_step.specs.Reply.{reply_step}
use Rattle.raft_group_step.specs.MembershipStep.{append_changed}
use Rattle.raft_group_step.specs.Heartbeat.{beat_as}
use Rattle.raft_group_step.specs.Lost.{lost_as}
use Rattle.raft_group_step.specs.PurgeTrigger.{purge_within}
use Rattle.raft_laws.proofs.StepFits.{WishFits}
use Rattle.raft_laws.proofs.StepReach as reached

abbrev size_of : Option Snapshot → ℕ
size_of o = length (prefix_of o)

abbrev pub Wished : StepResult → Type 0
Wished r = WishFits r.state

-- there is no wish
pub no_wish : (r : StepResult) → r.state.wish ≡ None → Wished r
no_wish = reached.no_wish size_of

pub down_wish : (r : StepResult) → Wished (step_down r)
down_wish = reached.down_wish size_of

pub take_over_wish : (v : Vote ℕ) (r : StepResult) → Wished r → Wished (take_over v r)
take_over_wish = reached.take_over_wish size_of

pub elect_wish : (own : ℕ) (r : StepResult) → Wished (elect_step own r)
elect_wish = reached.elect_wish size_of

pub judged_wish : (own peer : ℕ) (v : Vote ℕ) (b : Bool) (r : StepResult) → Wished r → Wished (judged own peer v b r)
judged_wish = reached.judged_wish size_of

pub counted_wish : (peer : ℕ) (b : Bool) (v : Vote ℕ) (r : StepResult) → Wished r → Wished (counted peer b v r)
counted_wish = reached.counted_wish size_of

pub heard_wish : (own peer : ℕ) (a : AppendFields) (b : Bool) (r : StepResult) → Wished r → Wished (heard own peer a b r)
heard_wish = reached.heard_wish size_of

pub reply_wish : (peer : ℕ) (reply : ReplyFields) (r : StepResult) → Wished r → Wished (reply_step peer reply r)
reply_wish = reached.reply_wish size_of

-- the snapshot goes on for at least as long as the one before
pub longer_wish : (r : StepResult) (o : Option Snapshot) → length (prefix_of r.state.stored.snapshot) ≤ length (prefix_of o) → Wished r → (place : ℕ) → r.state.wish ≡ Some place → place < length (prefix_of o)
longer_wish = reached.longer_wish size_of

-- a snapshot that is installed goes past what is committed
pub offered_wish : (own peer : ℕ) (v : Vote ℕ) (id : ℕ) (x : Snapshot) (b : Bool) (r : StepResult) → (is_within x.last.index r.state.committed ≡ false → length (prefix_of r.state.stored.snapshot) ≤ length x.«prefix») → Wished r → Wished (offered own peer v id x b r)
offered_wish = reached.offered_wish size_of

pub changed_wish : (o : Option LoggedMembership) (change : ChangeMembers) (token : ℕ) (r : StepResult) → Wished r → Wished (append_changed o change token r)
changed_wish = reached.changed_wish size_of

pub beat_wish : (own : ℕ) (role : Role) (r : StepResult) → Wished r → Wished (beat_as own role r)
beat_wish = reached.beat_wish size_of

pub lost_wish : (peer : ℕ) (role : Role) (r : StepResult) → Wished r → Wished (lost_as peer role r)
lost_wish = reached.lost_wish size_of

pub purge_within_wish : (place : ℕ) (o : Option Snapshot) (r : StepResult) → r.state.stored.snapshot ≡ o → ((x : Snapshot) → o ≡ Some x → length x.«prefix» ≡ x.last.index + 1) → Wished r → Wished (purge_within place (option_map (λ (x : Snapshot). x.last) o) r)
purge_within_wish = reached.purge_within_wish size_of

pub committed_wish : (own : ℕ) (r : StepResult) → Wished r → Wished (commit_as_leader own r.state.role r)
committed_wish = reached.committed_wish size_of

pub purged_wish : (r : StepResult) → Wished r → Wished (purge_as_wished r.state.role r.state.wish r)
purged_wish = reached.purged_wish size_of

pub frames_wish : (own : ℕ) (before : Option ℕ) (r : StepResult) → Wished r → Wished (with_frames own before r)
frames_wish = reached.frames_wish size_of
