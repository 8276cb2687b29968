-- One step keeps places low, and what a leader is still to purge within the snapshot, at any state in order.
use Rattle.std.specs.Prelude.{◌≡◌, ℕ, ◌<◌, ◌≤◌, ◌&&◌, ◌==◌, nat_lt, [], ◌∷◌, Option, Some, None, option_map, refl}
use Rattle.std.proofs.Common.{◌∙◌, arith}
use Rattle.std.proofs.lemmas.Bool.{ltb-false}
use Rattle.raft_values.specs.declared.log_id.LogId.{LogId}
use Rattle.raft_values.specs.LogId.{log_id_of, next_place}
use Rattle.raft_state.specs.declared.entry.EntryPayload.TheVariants.{Membership as Members}
use Rattle.raft_group_step.specs.Values.{Entry, entry_of}
use Rattle.raft_group_step.specs.StoredGroup.{StoredGroup, Snapshot, PutEntries, entry_at, id_of, membership_in_force, snapshot_last}
use Rattle.raft_group_step.specs.Message.{MessageBody, VoteRequest, VoteReply, AppendRequest, AppendReply, SnapshotRequest, SnapshotReply}
use Rattle.raft_group_step.specs.GroupState.{GroupState, state_of}
use Rattle.raft_group_step.specs.declared.group_call.GroupCall.TheVariants.{Initialize, Elect, Propose, ChangeMembership, Heartbeat, Lost, TriggerSnapshot, TriggerPurge}
use Rattle.raft_group_step.specs.GroupEvent.{GroupCall, GroupEvent, AddGroup, Call, Receive, Open}
use Rattle.raft_group_step.specs.StepResult.{RefusalReason, StepResult, store, unchanged}
use Rattle.raft_group_step.specs.VoteRequest.{may_grant}
use Rattle.raft_group_step.specs.Lead.{commit_as_leader, purge_as_wished}
use Rattle.raft_group_step.specs.Opening.{drop_stale_log, is_joined_to, opening_step, resume_lead}
use Rattle.raft_group_step.specs.Refusal.{refusal_of}
use Rattle.raft_group_step.specs.SnapshotRequest.{place_above}
use Rattle.raft_group_step.specs.SnapshotTrigger.{snapshot_at, snapshot_of_applied, store_snapshot_at}
use Rattle.raft_group_step.specs.GroupStep.{begun, call_step, event_step, finished, group_step, message_step, step_unless}
use Rattle.raft_group_step.proofs.Words.{either, either_by}
use Rattle.raft_laws.proofs.FreshEntries.{without_is}
use Rattle.raft_laws.proofs.StepReach as reached

-- where the snapshot ends
abbrev reach : Option Snapshot → ℕ
reach x = next_place (option_map (λ (y : Snapshot). y.last) x)

abbrev Wished : StepResult → Type 0
Wished r = reached.StaysReached reach r

-- what is still to be purged lies within the snapshot
abbrev pub IsCovered : GroupState → Type 0
IsCovered s = (place : ℕ) → s.wish ≡ Some place → place < next_place (snapshot_last s.stored)

-- the snapshot lies within what is committed, and the entry at the applied place is that of the place
pub record IsSteady (s : GroupState) : Type 0 where
  pub snapshot : next_place (snapshot_last s.stored) ≤ place_above s.committed
  pub stands : (place : ℕ) (e : Entry) → s.applied ≡ Some place → entry_at s.stored place ≡ Some e → e.log_id.index ≡ place

module _ (s : GroupState) (steady : IsSteady s) (covered : IsCovered s) where
  stored_wish : (now place : ℕ) (o : Option Entry) → next_place (snapshot_last s.stored) ≤ place → ((e : Entry) → o ≡ Some e → e.log_id.index ≡ place)
      → Wished (store_snapshot_at (id_of o) (begun now s))
  stored_wish now place None past at = covered
  stored_wish now place (Some e) past at =
      let here : e.log_id.index ≡ place = at e refl in
      reached.longer_wish reach (begun now s) (Some (snapshot_at s.stored e.log_id)) (omega arith) covered

  snapshot_wish : (now : ℕ) (o : Option ℕ) → s.applied ≡ o → Wished (snapshot_of_applied o (begun now s))
  snapshot_wish now None e = covered
  snapshot_wish now (Some place) e =
      either_by Wished (nat_lt place (next_place (snapshot_last s.stored))) _ _
      (λ b. covered)
      (λ b. stored_wish now place (entry_at s.stored place) (ltb-false place (next_place (snapshot_last s.stored)) b) (λ x f. steady.stands place x e f))

  call_wish : (own now : ℕ) (call : GroupCall) → Wished (call_step own call (begun now s))
  call_wish own now (Initialize m) = reached.elect_wish reach own (store (PutEntries 0 (entry_of (log_id_of 0 0 0) (Members m) ∷ [])) (begun now s))
  call_wish own now Elect = reached.elect_wish reach own (begun now s)
  call_wish own now (Propose command token) = covered
  call_wish own now (ChangeMembership change token) = reached.changed_wish reach (membership_in_force s.stored) change token (begun now s) covered
  call_wish own now Heartbeat = reached.beat_wish reach own s.role (begun now s) covered
  call_wish own now (Lost peer) = reached.lost_wish reach peer s.role (begun now s) covered
  call_wish own now TriggerSnapshot = snapshot_wish now s.applied refl
  call_wish own now (TriggerPurge place) = reached.purge_within_wish reach place s.stored.snapshot (begun now s) refl (λ x e. refl) covered

  message_wish : (own peer now : ℕ) (body : MessageBody) → Wished (message_step own peer body (begun now s))
  message_wish own peer now (VoteRequest v last) = reached.judged_wish reach own peer v (may_grant (begun now s).state v last) (begun now s) covered
  message_wish own peer now (VoteReply v granted last) = reached.counted_wish reach peer _ v (begun now s) covered
  message_wish own peer now (AppendRequest m) = reached.heard_wish reach own peer m _ (begun now s) covered
  message_wish own peer now (AppendReply m) = reached.reply_wish reach peer m (begun now s) covered
  message_wish own peer now (SnapshotRequest v id x) =
      reached.offered_wish reach own peer v id x _ (begun now s)
      (λ e.
      let past : place_above s.committed ≤ x.last.index = without_is s.committed x.last.index e in
      let within = steady.snapshot in omega arith)
      covered
  message_wish own peer now (SnapshotReply m) = reached.reply_wish reach peer m (begun now s) covered

resumed : (own : ℕ) (r : StepResult) → (resume_lead own r).state.wish ≡ r.state.wish
resumed own r =
    either (λ q. q.state.wish ≡ r.state.wish) (r.state.stored.vote.committed && (r.state.stored.vote.leader_id.node_id == own)) _ _ refl refl

dropped : (o : Option (LogId ℕ)) (r : StepResult) → (drop_stale_log o r).state.wish ≡ r.state.wish
dropped None r = refl
dropped (Some last) r = either (λ q. q.state.wish ≡ r.state.wish) (is_joined_to r.state.stored last) _ _ refl refl

opened_wish : (own : ℕ) (st : StoredGroup) → Wished (opening_step own st)
opened_wish own st =
    reached.no_wish reach (opening_step own st) (resumed own _ ∙ dropped (snapshot_last st) (unchanged (state_of st)))

event_wish : (own : ℕ) (s : GroupState) (e : GroupEvent) → IsSteady s → IsCovered s → Wished (event_step own s e)
event_wish own s AddGroup steady covered = covered
event_wish own s (Call call now) steady covered = call_wish s steady covered own now call
event_wish own s (Receive peer m now) steady covered = message_wish s steady covered own peer now m.body
event_wish own s Open steady covered = opened_wish own s.stored

finished_wish : (own : ℕ) (before : Option ℕ) (r : StepResult) → Wished r → Wished (finished own before r)
finished_wish own before r h =
    let one = commit_as_leader own r.state.role r in
    reached.frames_wish reach own before (purge_as_wished one.state.role one.state.wish one)
    (reached.purged_wish reach one (reached.committed_wish reach own r h))

unless_refused : (own : ℕ) (s : GroupState) (e : GroupEvent) (why : Option RefusalReason) → IsSteady s → IsCovered s → IsCovered (step_unless why own s e).state
unless_refused own s e (Some why) steady covered = covered
unless_refused own s e None steady covered = finished_wish own s.committed (event_step own s e) (event_wish own s e steady covered)

-- each step leaves what is still to be purged within the snapshot
pub step_covered : (own : ℕ) (s : GroupState) (e : GroupEvent) → IsSteady s → IsCovered s → IsCovered (group_step own s e).state
step_covered own s e steady covered = unless_refused own s e (refusal_of own s e) steady covered
