-- Messages that say what a step sends, and what a frame's message says.
use Rattle.std.specs.Prelude.{◌≡◌, ℕ, suc, false, List, [], ◌∷◌, None, All, refl}
use Rattle.std.proofs.Common.{sym, ap, subst, ◌∙◌, arith}
use Rattle.std.proofs.lemmas.List.Elements.{All-cons, All-nil}
use Rattle.raft_group_step.specs.StoredGroup.{Snapshot}
use Rattle.raft_group_step.specs.Message.{Message, MessageBody}
use Rattle.raft_group_step.specs.GroupEvent.{Receive}
use Rattle.raft_group_step.specs.Refusal.{refusal_of}
use Rattle.raft_messages.specs.Messages.{body_as, message_as}
use Rattle.raft_messages.specs.declared.memberships.SnapshotBytes.{SnapshotBytes}
use Rattle.raft_messages.specs.declared.message.Message.{Message as Sent}
use Rattle.raft_messages.specs.declared.message.MessageBody.{MessageBody as Body}
use Rattle.raft_messages.specs.declared.message.MessageBody.TheVariants as body
use Rattle.raft_executor.specs.Said.{Says, SaysAll, SaysBody}
use Rattle.raft_step_laws.specs.Fitting.{IsBodyBounded, IsLoggedBounded, IsSnapshotBounded}
use Rattle.raft_step_laws.proofs.FitSteps.{steps_fit}
use Rattle.raft_wire.proofs.Fronts.{fits_within}
use Rattle.raft_frame_laws.specs.StepFrames.{BringsFewBytes, FewBytesHaveFrames, FramesFitSteps, HasFrame, MembershipsStand, StepsHaveFrames, brings_snapshot}
use Rattle.raft_wire.specs.Frames.{fault_of_frame}
use Rattle.raft_frame_laws.proofs.Limits.{brought_fits, fits_frame, have_frames}

-- any reading of a snapshot's bytes, for messages that bring none
unread : SnapshotBytes → Snapshot
unread s = record { last = s.meta.last_log_id; membership = s.meta.last_membership; «prefix» = [] }

module _ (stands : SnapshotBytes → Snapshot → Type 0) where
  said_body : (b : Body SnapshotBytes) (said : MessageBody) → SaysBody stands b said → brings_snapshot b ≡ false → body_as unread b ≡ said
  said_body (body.VoteRequest request) said says bare = sym says
  said_body (body.VoteReply answer) said says bare = sym says
  said_body (body.AppendRequest m) said says bare = sym says
  said_body (body.AppendReply m) said says bare = sym says
  said_body (body.SnapshotRequest vote id x) said says bare = absurd cc
  said_body (body.SnapshotReply m) said says bare = sym says

  abbrev message_from : ℕ → ℕ → MessageBody → Message
  message_from sender addressee said = record { sender = sender; addressee = addressee; body = said }

  said_message : (m : Sent SnapshotBytes) (said : Message) → Says stands m said → brings_snapshot m.body ≡ false → message_as unread m ≡ said
  said_message m said says bare =
      ap (λ (n : ℕ). message_from n m.addressee (body_as unread m.body)) (sym says.0)
      ∙ (ap (λ (n : ℕ). message_from said.sender n (body_as unread m.body)) (sym says.1)
      ∙ ap (λ (b : MessageBody). message_from said.sender said.addressee b) (said_body m.body said.body says.2 bare))

  -- what holds of each message that says one within the limits holds of all of them
  module _ (P : Sent SnapshotBytes → Type 0) (each : (m : Sent SnapshotBytes) (said : MessageBody) → SaysBody stands m.body said → IsBodyBounded said → P m) where
    all_of : (sent : List (Sent SnapshotBytes)) (said : List Message) → SaysAll stands sent said → All (λ (m : Message). IsBodyBounded m.body) said → All P sent
    all_of [] [] says fits = All-nil P
    all_of [] (y ∷ ys) says fits = absurd says
    all_of (x ∷ xs) [] says fits = absurd says
    all_of (x ∷ xs) (y ∷ ys) says fits =
        All-cons P x xs (each x y.body says.0.2 (fits 0 y (omega arith))) (all_of xs ys says.1 (λ i d l. fits (suc i) d (omega arith)))

  bare_frame : (b : Body SnapshotBytes) (said : MessageBody) → SaysBody stands b said → IsBodyBounded said → brings_snapshot b ≡ false → fault_of_frame b ≡ None
  bare_frame b said says fits bare = fits_frame unread b bare (subst IsBodyBounded (sym (said_body b said says bare)) fits)

  pub all_have_frames : StepsHaveFrames stands
  all_have_frames own s e sent fits within event says =
      all_of HasFrame (λ m said. bare_frame m.body said) sent _ says (steps_fit own s e fits within event).messages

  short_frame : MembershipsStand stands → (b : Body SnapshotBytes) (said : MessageBody) → SaysBody stands b said → IsBodyBounded said → BringsFewBytes b → fault_of_frame b ≡ None
  short_frame heads (body.VoteRequest request) said says fits few = bare_frame (body.VoteRequest request) said says fits refl
  short_frame heads (body.VoteReply answer) said says fits few = bare_frame (body.VoteReply answer) said says fits refl
  short_frame heads (body.AppendRequest m) said says fits few = bare_frame (body.AppendRequest m) said says fits refl
  short_frame heads (body.AppendReply m) said says fits few = bare_frame (body.AppendReply m) said says fits refl
  short_frame heads (body.SnapshotRequest vote id x) said says fits few =
      let bounded : IsSnapshotBounded says.0 = subst IsBodyBounded says.2 fits in
      (have_frames vote id x).1 (record { membership = subst IsLoggedBounded (sym (heads x says.0 says.1)) bounded.membership; bytes = few })
  short_frame heads (body.SnapshotReply m) said says fits few = bare_frame (body.SnapshotReply m) said says fits refl

  pub few_bytes : FewBytesHaveFrames stands
  few_bytes own s e sent heads fits within event says =
      all_of (λ (m : Sent SnapshotBytes). BringsFewBytes m.body → fault_of_frame m.body ≡ None) (λ m said. short_frame heads m.body said)
      sent _ says (steps_fit own s e fits within event).messages

  pub frames_fit : FramesFitSteps stands
  frames_fit own s now frame m fits says bare taken =
      let is : message_as unread frame.message ≡ m = said_message frame.message m says bare in
      subst (λ (x : Message). IsBodyBounded x.body) is
      (brought_fits own s now unread frame.message bare (fits_within frame.message.body fits.body)
      (subst (λ (x : Message). refusal_of own s (Receive frame.message.sender x now) ≡ None) (sym is) taken))
