-- Events that come to a member.
use Rattle.std.specs.Prelude.{◌≡◌, ◌<◌, ◌≤◌, ◌^◌, ◌==◌, ◌&&◌, ◌++◌, not, ℕ, max, List, [], ◌∷◌, Option, Some, None, Result, Ok, Err, refl}
use Rattle.std.proofs.Common.{sym, ap, ◌∙◌, arith}
use Rattle.std.proofs.lemmas.Bool.{eqb-true}
use Rattle.raft_quorums.specs.QuorumLaws.{and_left, and_right}
use Rattle.raft_group_step.specs.StoredGroup.{Snapshot, StoredGroup, end_place}
use Rattle.raft_group_step.specs.GroupState.{GroupState}
use Rattle.raft_group_step.specs.GroupEvent.{GroupCall, GroupEvent, Call, Receive}
use Rattle.raft_group_step.specs.GroupStep.{group_step, step_unless}
use Rattle.raft_group_step.specs.Message.{Message, MessageBody}
use Rattle.raft_group_step.specs.Refusal.{is_right_party, is_sound, next_blank, numbers_of, range_reason, refusal_of, unknown_group, unless}
use Rattle.raft_group_step.specs.StepResult.{BreaksCondition, RefusalReason, StepResult, WrongParty, refused_step}
use Rattle.raft_group_step.proofs.Refusals.{unless_none as passes}
use Rattle.raft_engine.proofs.EventLemmas.{no_first_reason}
use Rattle.raft_engine.specs.Events.{HasTaken, MayTake, given_after, received}
use Rattle.raft_executor.proofs.StoringLemmas.{fails_first}
use Rattle.raft_group_storage.specs.Keeping.{Fails, FailsAnyhow}
use Rattle.raft_laws.proofs.StepMoments.{moments_of_calls, moments_of_messages}
use Rattle.raft_laws.proofs.StepOrder.{step-keeps}
use Rattle.raft_member.specs.Member.{Engine, HasEnded, HasStopped, IsDown, IsIdle, IsLawful, IsUp}
use Rattle.raft_member.specs.Running.{EndsTo, HasHalted, HasRun, IsRun, RunsTo, left_by}
use Rattle.raft_member.specs.declared.member.Member.{Member}
use Rattle.raft_member.specs.declared.member.Ended.{Ended}
use Rattle.raft_member.specs.declared.member.Ended.TheVariants as ended
use Rattle.raft_member.proofs.RunLemmas.{More, run_without_snapshot, shown_first}

-- ---- events that aren't refused

module _ (shown : List StoredGroup → Type 0) (fails : Fails) (own : ℕ) (s : GroupState) (event : GroupEvent) where
  pub stopped_as_halted : (m : Member) → refusal_of own s event ≡ None → HasHalted shown fails s.stored (group_step own s event) m → HasStopped shown fails own s event m
  stopped_as_halted m accepted h = record { taken = accepted; number = h.number; no_engine = h.no_engine; stored = h.stored; failed = h.failed }

-- there is room behind the log
pub has_room_behind : (own : ℕ) (s : GroupState) → IsLawful own s → end_place s.stored < 2 ^ 64
has_room_behind own s lawful = let low : end_place s.stored ≤ 2 ^ 62 = lawful.ready.places in omega arith

-- an engine that waits may take such an event
pub may_take : (own : ℕ) (e : Engine) (s : GroupState) (event : GroupEvent) → IsIdle own e s → IsLawful own s → refusal_of own s event ≡ None → MayTake own e s event
may_take own e s event idle lawful accepted = record {
  stands = idle.stands;
  empty = idle.empty;
  ready = lawful.ready;
  accepted = accepted;
}

-- nothing was stored yet
pub halted_at_once : (is_well : Type 0) (shown : List StoredGroup → Type 0) (fails : Fails) (old : StoredGroup) (r : StepResult) → More is_well shown
    → FailsAnyhow fails → (m : Member) → m.engine ≡ None → shown (old ∷ []) → HasHalted shown fails old r m
halted_at_once is_well shown fails old r more anyhow m none stored = record {
  number = 0;
  no_engine = none;
  stored = shown_first is_well shown more _ _ _ refl stored;
  failed = fails_first fails _ _ anyhow;
}

module _ {X : Type 0} (stands : X → Snapshot → Type 0) (is_well : Type 0) (shown : List StoredGroup → Type 0) (own : ℕ) (s : GroupState) (event : GroupEvent) where
  -- an event that isn't refused ends as its step does
  pub ended_as_run : (stop : Option ℕ) (m : Member) (end : Ended X) → refusal_of own s event ≡ None
      → HasRun stands is_well shown s.stored (group_step own s event) stop m end → HasEnded stands is_well shown own s event stop m end
  ended_as_run stop m (ended.Done sent) accepted h = (h.0, accepted, h.1, h.2)
  ended_as_run stop m (ended.Refused why) accepted h = absurd h
  ended_as_run stop m ended.Stopped accepted h = (accepted, h)
  ended_as_run stop m ended.Skipped accepted h = absurd h

  -- so does its call
  pub ends_as_runs : {F : Type 0} (stop : Option ℕ) (e : Engine) (m : Member) (r : Result (Ended X) F) → refusal_of own s event ≡ None
      → RunsTo stands is_well shown s.stored (group_step own s event) stop e m r → EndsTo stands is_well shown own s event stop e m r
  ends_as_runs stop e m (Ok end) accepted h = ended_as_run stop (left_by end e m) end accepted h
  ends_as_runs stop e m (Err refused) accepted h = h

-- ---- what the engine has done of an event

module _ {X : Type 0} (stands : X → Snapshot → Type 0) where
  -- the engine has done a call, whatever the snapshot
  pub run_of_call : (before : Engine) (own at moment : ℕ) (e : Engine) (s : GroupState) (call : GroupCall) → moment ≡ max s.now at → refusal_of own s (Call call at) ≡ None
      → ((x : Snapshot) → HasTaken x own before e s (Call call at)) → IsRun stands own e s.stored (group_step own s (Call call at)) None moment
  run_of_call before own at moment e s call is accepted h =
      run_without_snapshot stands own e s.stored (group_step own s (Call call at)) moment h (step-keeps own s (Call call at)).stored
      (is ∙ sym (moments_of_calls own s call at accepted))

  -- the engine was handed a message, whatever the snapshot
  pub run_of_message : (before : Engine) (own peer at moment : ℕ) (e : Engine) (s : GroupState) (body : MessageBody) → moment ≡ max s.now at → refusal_of own s (received own peer body at) ≡ None
      → ((x : Snapshot) → HasTaken x own before e s (received own peer body at)) → IsRun stands own e s.stored (group_step own s (received own peer body at)) None moment
  run_of_message before own peer at moment e s body is accepted h =
      run_without_snapshot stands own e s.stored (group_step own s (received own peer body at)) moment h (step-keeps own s (received own peer body at)).stored
      (is ∙ sym (moments_of_messages own s peer (record { sender = peer; addressee = own; body = body }) at accepted))

  -- the engine has done a call with the snapshot that is given
  pub run_of_call_with : (before : Engine) (own at moment : ℕ) (e : Engine) (s : GroupState) (call : GroupCall) (given : X) (x : Snapshot)
      → stands given x → moment ≡ max s.now at → refusal_of own s (Call call at) ≡ None
      → HasTaken x own before e s (Call call at) → IsRun stands own e s.stored (group_step own s (Call call at)) (Some given) moment
  run_of_call_with before own at moment e s call given x said is accepted h = record {
    taken = given_after x before s (Call call at);
    step = h;
    is_given = λ has. said;
    stored = (step-keeps own s (Call call at)).stored;
    moment = is ∙ sym (moments_of_calls own s call at accepted);
  }

  -- the engine was handed a message with the snapshot that is given
  pub run_of_message_with : (before : Engine) (own peer at moment : ℕ) (e : Engine) (s : GroupState) (body : MessageBody) (given : X) (x : Snapshot)
      → stands given x → moment ≡ max s.now at → refusal_of own s (received own peer body at) ≡ None
      → HasTaken x own before e s (received own peer body at) → IsRun stands own e s.stored (group_step own s (received own peer body at)) (Some given) moment
  run_of_message_with before own peer at moment e s body given x said is accepted h = record {
    taken = given_after x before s (received own peer body at);
    step = h;
    is_given = λ has. said;
    stored = (step-keeps own s (received own peer body at)).stored;
    moment = is ∙ sym (moments_of_messages own s peer (record { sender = peer; addressee = own; body = body }) at accepted);
  }

-- ---- messages that aren't refused

-- such a message is from the peer and for the node
pub is_received : (own peer at : ℕ) (s : GroupState) (m : Message) → refusal_of own s (Receive peer m at) ≡ None → Receive peer m at ≡ received own peer m.body at
is_received own peer at s m h =
    let sound = unless (is_sound own peer s.stored m.body) BreaksCondition in
    let range = range_reason s (at ∷ numbers_of m.body ++ next_blank s) in
    let right = passes (is_right_party own peer m) WrongParty (no_first_reason (unless (is_right_party own peer m) WrongParty) (unknown_group s ∷ range ∷ sound ∷ []) h).0 in
    let sender : m.sender ≡ peer = eqb-true m.sender peer (and_left (m.sender == peer) (not (m.sender == own)) (and_left (m.sender == peer && not (m.sender == own)) (m.addressee == own) right)) in
    let addressee : m.addressee ≡ own = eqb-true m.addressee own (and_right (m.sender == peer && not (m.sender == own)) (m.addressee == own) right) in
    ap (λ n. Receive peer (record { sender = n; addressee = m.addressee; body = m.body }) at) sender
    ∙ ap (λ n. Receive peer (record { sender = peer; addressee = n; body = m.body }) at) addressee

-- ---- events that are refused

-- a refused event changes nothing
pub refused_state : (own : ℕ) (s : GroupState) (event : GroupEvent) (why : RefusalReason) → refusal_of own s event ≡ Some why → group_step own s event ≡ refused_step s why
refused_state own s event why e = ap (λ reason. step_unless reason own s event) e

-- the member is up again with the engine that was taken out
pub up_again : (is_well : Type 0) (shown : List StoredGroup → Type 0) (m : Member) (e : Engine) (s : GroupState) → IsDown is_well shown m s.stored
    → m.moment ≡ s.now → IsIdle m.id e s → IsUp is_well shown (record m { engine = Some e }) s
up_again is_well shown m e s down moment idle = record {
  engine = e;
  has_engine = refl;
  idle = idle;
  well = down.well;
  stored = down.stored;
  present = down.present;
  moment = moment;
}
