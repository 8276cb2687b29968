-- A message that isn't refused, and what the node may finish after it.
use Rattle.std.specs.Prelude.{◌≡◌, ◌≢◌, ℕ, ◌==◌, ◌&&◌, not, Bool, true, false, if◌then◌else◌, [], ◌∷◌, ◌++◌, Option, None, refl}
use Rattle.std.proofs.Common.{sym, ◌∙◌, subst, eq-eqb, eqb-true}
use Rattle.std.proofs.lemmas.Bool.{and_parts, not-true}
use Rattle.raft_values.specs.declared.vote.Vote.{Vote}
use Rattle.raft_values.specs.declared.log_id.LogId.{LogId}
use Rattle.raft_group_step.specs.Values.{vote_lt}
use Rattle.raft_group_step.specs.StoredGroup.{Snapshot, membership_in_force}
use Rattle.raft_group_step.specs.GroupState.{GroupState, Role, Follower, Candidate, Leader}
use Rattle.raft_group_step.specs.Message.{AppendFields, AppendRequest, MessageBody, SnapshotRequest}
use Rattle.raft_group_step.specs.StepResult.{StepResult, BreaksCondition, WrongParty, is_within, renew, step_down, store_vote, take_over}
use Rattle.raft_group_step.specs.VoteRequest.{judged, may_grant, vote_request_step}
use Rattle.raft_group_step.specs.AppendRequest.{append_request_step, heard, is_held}
use Rattle.raft_group_step.specs.SnapshotRequest.{offered, snapshot_request_step}
use Rattle.raft_group_step.specs.Refusal.{do_follow, has_known_snapshot, keep_voters, is_of_leader, is_right_party, is_sound, next_blank, numbers_of, range_reason, refusal_of, unknown_group, unless}
use Rattle.raft_group_step.specs.GroupStep.{begun}
use Rattle.raft_group_step.proofs.Words.{installing_keeps_role, joined_keeps_role}
use Rattle.raft_group_step.proofs.Refusals.{unless_none as passes}
use Rattle.raft_engine.specs.Events.{CanFinish, IsReady, received}
use Rattle.raft_engine.specs.Following.{IsVoteOfAnother}
use Rattle.raft_engine.specs.Standing.{Engine, Given, IsStepOf}
use Rattle.raft_engine.proofs.EventLemmas.{no_first_reason}
use Rattle.raft_engine.proofs.OtherVotes.{follows_after}
use Rattle.raft_engine.proofs.RoomLemmas.{can_finish_when_ready, room_kept}

-- ---- a message that isn't refused

-- its numbers are in range, and it is sound
pub record IsAccepted (own peer : ℕ) (body : MessageBody) (at : ℕ) (s : GroupState) : Type 0 where
  pub right : is_right_party own peer (record { sender = peer; addressee = own; body = body }) ≡ true
  pub range : range_reason s (at ∷ numbers_of body ++ next_blank s) ≡ None
  pub sound : is_sound own peer s.stored body ≡ true

pub is_accepted : (own peer : ℕ) (body : MessageBody) (at : ℕ) (s : GroupState) → refusal_of own s (received own peer body at) ≡ None → IsAccepted own peer body at s
is_accepted own peer body at s e =
    let party = unless (is_right_party own peer (record { sender = peer; addressee = own; body = body })) WrongParty in
    let range = range_reason s (at ∷ numbers_of body ++ next_blank s) in
    let sound = unless (is_sound own peer s.stored body) BreaksCondition in
    let a = no_first_reason party (unknown_group s ∷ range ∷ sound ∷ []) e in
    let b = no_first_reason (unknown_group s) (range ∷ sound ∷ []) a.1 in
    let c = no_first_reason range (sound ∷ []) b.1 in
    let d = no_first_reason sound [] c.1 in
    record { right = passes _ WrongParty a.0; range = c.0; sound = passes _ BreaksCondition d.0 }

-- the sender is another node
pub is_another : (own peer : ℕ) (body : MessageBody) → is_right_party own peer (record { sender = peer; addressee = own; body = body }) ≡ true → peer ≢ own
is_another own peer body h =
    let tests = and_parts (peer == peer && not (peer == own)) (own == own) h in
    let other : (peer == own) ≡ false = not-true (peer == own) (and_parts (peer == peer) (not (peer == own)) tests.0).1 in
    λ e. absurd (let no : true ≡ false = sym (eq-eqb peer own e) ∙ other in cc)

-- and a leader's vote is its
pub of_another : (own peer : ℕ) (vote : Vote ℕ) → peer ≢ own → is_of_leader peer vote ≡ true → IsVoteOfAnother own vote
of_another own peer vote another h =
    let both = and_parts vote.committed (vote.leader_id.node_id == peer) h in
    record { committed = both.0; anothers = λ e. another (sym (eqb-true vote.leader_id.node_id peer both.1) ∙ e) }

-- what a leader sends has its vote, and entries that follow one another
pub sound_append : (own peer : ℕ) (m : AppendFields) (at : ℕ) (s : GroupState) → refusal_of own s (received own peer (AppendRequest m) at) ≡ None
    → IsVoteOfAnother own m.vote × (do_follow m.vote m.previous m.entries ≡ true)
sound_append own peer m at s e =
    let accepted = is_accepted own peer (AppendRequest m) at s e in
    let another = is_another own peer (AppendRequest m) accepted.right in
    let a = and_parts (is_of_leader peer m.vote && do_follow m.vote m.previous m.entries) (keep_voters (membership_in_force s.stored) m.entries) accepted.sound in
    let b = and_parts (is_of_leader peer m.vote) (do_follow m.vote m.previous m.entries) a.0 in
    (of_another own peer m.vote another b.0, b.1)

pub sound_snapshot : (own peer : ℕ) (vote : Vote ℕ) (id : ℕ) (x : Snapshot) (at : ℕ) (s : GroupState) → refusal_of own s (received own peer (SnapshotRequest vote id x) at) ≡ None
    → IsVoteOfAnother own vote
sound_snapshot own peer vote id x at s e =
    let accepted = is_accepted own peer (SnapshotRequest vote id x) at s e in
    let another = is_another own peer (SnapshotRequest vote id x) accepted.right in
    let a = and_parts (is_of_leader peer vote) (has_known_snapshot (membership_in_force s.stored) x.membership) accepted.sound in
    of_another own peer vote another a.0

-- ---- the words on a follower's log leave the role

-- the node can finish what it has begun
abbrev Finishes : ℕ → StepResult → Type 0
Finishes own r = CanFinish own r.state r.state.role

-- ---- who follows can finish, and so can who could before, with the same stored and wished for

pub followers_finish : (own : ℕ) (s : GroupState) → s.role ≡ Follower → CanFinish own s s.role
followers_finish own s e = subst (CanFinish own s) (sym e) tt

pub finishes_so : (own : ℕ) (s s' : GroupState) (role : Role) → s'.stored ≡ s.stored → s'.wish ≡ s.wish → CanFinish own s role → CanFinish own s' role
finishes_so own s s' Follower stored wish h = tt
finishes_so own s s' (Candidate granters) stored wish h = tt
finishes_so own s s' (Leader lead) stored wish h = room_kept own s s' lead stored wish h

-- as an event begins that isn't refused
pub begins_to_finish : (own peer : ℕ) (body : MessageBody) (at : ℕ) (s : GroupState) → IsReady own s → refusal_of own s (received own peer body at) ≡ None
    → Finishes own (begun at s)
begins_to_finish own peer body at s ready e =
    let accepted = is_accepted own peer body at s e in
    finishes_so own s (begun at s).state s.role refl refl (can_finish_when_ready own s (at ∷ numbers_of body ++ next_blank s) ready accepted.range)

module _ (own peer : ℕ) (r : StepResult) (can : Finishes own r) where
  taken_finishes : (vote : Vote ℕ) → Finishes own (take_over vote r)
  taken_finishes vote =
      elim (vote_lt r.state.stored.vote vote) as (λ b. Finishes own (if b then store_vote vote (step_down r) else renew r)) [
        | true ↦ tt
        | false ↦ finishes_so own r.state (renew r).state r.state.role refl refl can
      ]

  -- after a candidate's request
  pub vote_request_finishes : (vote : Vote ℕ) (last : Option (LogId ℕ)) → Finishes own (vote_request_step own peer vote last r)
  vote_request_finishes vote last =
      elim (may_grant r.state vote last) as (λ b. Finishes own (judged own peer vote b r)) [
        | true ↦ taken_finishes vote
        | false ↦ can
      ]

  module _ {C R : Type 0} (x : Given) (e : Engine C R) (step : IsStepOf x own e r) where
    -- after a leader's entries
    pub append_request_finishes : (m : AppendFields) → IsVoteOfAnother own m.vote → Finishes own (append_request_step own peer m r)
    append_request_finishes m another = by_test (vote_lt m.vote r.state.stored.vote) refl
      where
        by_test : (b : Bool) → vote_lt m.vote r.state.stored.vote ≡ b → Finishes own (heard own peer m b r)
        by_test true f = can
        by_test false f =
            let taken = take_over m.vote r in
            followers_finish own (heard own peer m false r).state
            (joined_keeps_role own peer m (is_held taken.state.stored taken.state.committed m.previous) taken ∙ follows_after x own e r m.vote step another f)

    -- after a leader's snapshot
    pub snapshot_request_finishes : (vote : Vote ℕ) (id : ℕ) → IsVoteOfAnother own vote → Finishes own (snapshot_request_step own peer vote id x.snapshot r)
    snapshot_request_finishes vote id another = by_test (vote_lt vote r.state.stored.vote) refl
      where
        by_test : (b : Bool) → vote_lt vote r.state.stored.vote ≡ b → Finishes own (offered own peer vote id x.snapshot b r)
        by_test true f = can
        by_test false f =
            let taken = take_over vote r in
            followers_finish own (offered own peer vote id x.snapshot false r).state
            (installing_keeps_role (is_within x.snapshot.last.index taken.state.committed) x.snapshot taken ∙ follows_after x own e r vote step another f)
