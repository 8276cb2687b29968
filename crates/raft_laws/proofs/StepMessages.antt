-- Messages that come to a node that is up, followed by the ballot machine to the step's own end.
use Rattle.std.specs.Prelude.{◌≡◌, ℕ, ◌<◌, ◌^◌, ◌==◌, ◌&&◌, not, true, false, List, length, None}
use Rattle.std.proofs.Common.{sym, ◌∙◌, subst, arith, eqb-true, eq-eqb}
use Rattle.std.proofs.lemmas.Bool.{and_parts, not-true}
use Rattle.raft_values.specs.declared.vote.Vote.{Vote}
use Rattle.raft_group_step.specs.Values.{Membership}
use Rattle.raft_group_step.specs.StoredGroup.{StoredGroup, membership_in_force, held}
use Rattle.raft_group_step.specs.Message.{Message, MessageBody, VoteRequest, VoteReply, AppendRequest, AppendReply, SnapshotRequest, SnapshotReply}
use Rattle.raft_group_step.specs.GroupState.{GroupState}
use Rattle.raft_group_step.specs.StepResult.{StepResult, WrongParty, BreaksCondition}
use Rattle.raft_group_step.specs.VoteRequest.{may_grant}
use Rattle.raft_group_step.specs.GroupStep.{begun, message_step}
use Rattle.raft_group_step.specs.GroupEvent.{Receive}
use Rattle.raft_group_step.specs.Refusal.{do_follow, has_known_snapshot, is_foreign, is_foreign_result, is_of_leader, is_right_party, is_sound, keep_voters, reasons_of, refusal_of}
use Rattle.raft_group_step.proofs.Refusals.{unless_none}
use Rattle.raft_laws.specs.BallotWorld.{BallotWorld, BallotEvent}
use Rattle.raft_laws.proofs.FreshEntries.{without_is}
use Rattle.raft_laws.proofs.Standing.{BodyFits, MessageFits, RoleFits}
use Rattle.raft_laws.proofs.StepFits.{WishFits}
use Rattle.raft_laws.proofs.StepWishes.{judged_wish, counted_wish, heard_wish, offered_wish, reply_wish}
use Rattle.raft_laws.proofs.StepCalls.{Goes, no_reason}
use Rattle.raft_laws.proofs.Tracking.{Tracks}
use Rattle.raft_laws.proofs.TrackAppendRequest.{append_request_ends}
use Rattle.raft_laws.proofs.TrackSnapshotRequest.{snapshot_request_ends}
use Rattle.raft_laws.proofs.TrackReplies.{reply_ends, vote_reply_ends, vote_request_ends}

-- what a message passed that isn't refused
pub record Passed (own : ℕ) (s : GroupState) (peer : ℕ) (x : Message) : Type 0 where
  pub stranger : peer ≡ own → ⊥
  pub sender : x.sender ≡ peer
  pub sound : is_sound own peer s.stored x.body ≡ true

pub message_passed : (own : ℕ) (s : GroupState) (peer : ℕ) (x : Message) (now : ℕ) → refusal_of own s (Receive peer x now) ≡ None → Passed own s peer x
message_passed own s peer x now passed =
    let p = no_reason (reasons_of own s (Receive peer x now)) passed in
    let party = and_parts ((x.sender == peer) && not (x.sender == own)) (x.addressee == own) (unless_none (is_right_party own peer x) WrongParty p.0) in
    let sender = and_parts (x.sender == peer) (not (x.sender == own)) party.0 in
    let same = eqb-true x.sender peer sender.0 in
    record {
      stranger = λ e.
          let f : true ≡ false = sym (eq-eqb x.sender own (same ∙ e)) ∙ not-true (x.sender == own) sender.1 in
          cc;
      sender = same;
      sound = unless_none (is_sound own peer s.stored x.body) BreaksCondition p.1.1.1.0;
    }

-- a leader's request is under another node's vote
pub of_leader : {own : ℕ} (peer : ℕ) → (peer ≡ own → ⊥) → (v : Vote ℕ) → is_of_leader peer v ≡ true → (v.committed ≡ true) × (v.leader_id.node_id ≡ own → ⊥)
of_leader peer stranger v h =
    let parts = and_parts v.committed (v.leader_id.node_id == peer) h in
    (parts.0, λ e. stranger (sym (eqb-true v.leader_id.node_id peer parts.1) ∙ e))

module _ {m : Membership} {some : 0 < length m.configs} {own : ℕ} {before : List BallotEvent} {base : StoredGroup} (small : own < 2 ^ 64) (w : BallotWorld) (s : GroupState) (now : ℕ) (t : Tracks m some own before base w (begun now s)) (role : RoleFits own w s.stored.vote (held s.stored) s.role) (wish : WishFits s) where
  abbrev r : StepResult
  r = begun now s

  module _ (peer : ℕ) (stranger : peer ≡ own → ⊥) where
    body_goes : (b : MessageBody) → BodyFits m w peer b → is_sound own peer s.stored b ≡ true → Goes w r t role (message_step own peer b r)
    body_goes (VoteRequest v last) fits sound =
        let parts = and_parts (not v.committed) (v.leader_id.node_id == peer) sound in
        let other : v.leader_id.node_id ≡ own → ⊥ = λ e. stranger (sym (eqb-true v.leader_id.node_id peer parts.1) ∙ e) in (
          vote_request_ends small w r t role peer v fits.0 last fits.1 (not-true v.committed parts.0) other,
          judged_wish own peer v (may_grant r.state v last) r wish,
        )
    body_goes (VoteReply v granted last) fits sound = (
      vote_reply_ends small w r t role peer v fits.0 granted fits.1 sound,
      counted_wish peer _ v r wish,
    )
    body_goes (AppendRequest a) fits sound =
        let one = and_parts (is_of_leader peer a.vote && do_follow a.vote a.previous a.entries) (keep_voters (membership_in_force s.stored) a.entries) sound in
        let two = and_parts (is_of_leader peer a.vote) (do_follow a.vote a.previous a.entries) one.0 in
        let led = of_leader peer stranger a.vote two.0 in (
          append_request_ends small peer w r t role a fits led.1 led.0,
          heard_wish own peer a _ r wish,
        )
    body_goes (AppendReply reply) fits sound =
        let parts = and_parts (is_foreign own s.stored.vote reply.vote) (is_foreign_result own s.stored.vote reply.outcome) sound in (
          reply_ends small w r t role peer reply fits.1 parts.1,
          reply_wish peer reply r wish,
        )
    body_goes (SnapshotRequest v id x) fits sound =
        let parts = and_parts (is_of_leader peer v) (has_known_snapshot (membership_in_force s.stored) x.membership) sound in
        let led = of_leader peer stranger v parts.0 in (
          snapshot_request_ends small peer id w r t role v x fits led.1 led.0,
          offered_wish own peer v id x _ r
              (λ e.
              let past = without_is s.committed x.last.index e in
              omega (arith, past, t.up.fits.reaches, t.up.commit, fits.snapshot.size))
              wish,
        )
    body_goes (SnapshotReply reply) fits sound =
        let parts = and_parts (is_foreign own s.stored.vote reply.vote) (is_foreign_result own s.stored.vote reply.outcome) sound in (
          reply_ends small w r t role peer reply fits.1 parts.1,
          reply_wish peer reply r wish,
        )

  pub message_goes : (peer : ℕ) (x : Message) → MessageFits m w x → refusal_of own s (Receive peer x now) ≡ None → Goes w r t role (message_step own peer x.body r)
  message_goes peer x fits passed =
      let p = message_passed own s peer x now passed in
      body_goes peer p.stranger x.body (subst (λ n. BodyFits m w n x.body) p.sender fits) p.sound
