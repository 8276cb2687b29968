-- What a group's messages may be has frames, and what a frame brings that isn't refused is within the group's limits.
use Rattle.std.specs.Prelude.{◌≡◌, ℕ, zero, suc, ◌+◌, ◌==◌, ◌&&◌, cond, is_none, nat_le, not, Bool, true, false, List, [], ◌∷◌, length, Option, Some, None, refl}
use Rattle.std.specs.List.{list_all}
use Rattle.std.proofs.Common.{sym, ap, subst, arith, le-leb, leb-true}
use Rattle.std.proofs.lemmas.Bool.{and_from, and_parts, eq-eqb, eqb-true, not-true}
use Rattle.std.proofs.lemmas.List.Elements.{All-cons, All-nil}
use Rattle.raft_values.specs.declared.vote.Vote.{Vote}
use Rattle.raft_values.specs.declared.log_id.LogId.{LogId}
use Rattle.raft_values.specs.LogId.{next_place}
use Rattle.raft_group_step.specs.Limits.{snapshot_limit}
use Rattle.raft_group_step.specs.Values.{Entry, LoggedMembership, leader_lt}
use Rattle.raft_group_step.specs.StoredGroup.{Snapshot, membership_in_force}
use Rattle.raft_group_step.specs.Message.{AppendRequest, Conflict as HasConflict, HigherVote as HasHigherVote, Numbered as IsNumbered, PartialSuccess as AcceptedPart, Success as Accepted}
use Rattle.raft_group_step.specs.GroupState.{GroupState}
use Rattle.raft_group_step.specs.GroupEvent.{Receive}
use Rattle.raft_group_step.specs.Refusal.{do_follow, is_of_leader, is_payload_short, is_sound, keep_voters, reasons_of, refusal_of}
use Rattle.raft_group_step.specs.StepResult.{BreaksCondition}
use Rattle.raft_group_step.proofs.Refusals.{unless_none}
use Rattle.raft_laws.proofs.StepCalls.{no_reason}
use Rattle.raft_messages.specs.Messages.{append_fields_of, body_as, message_as, outcome_of, reply_fields_of, request_id_of}
use Rattle.raft_messages.specs.declared.memberships.SnapshotBytes.{SnapshotBytes}
use Rattle.raft_messages.specs.declared.message.AppendFields.{AppendFields}
use Rattle.raft_messages.specs.declared.message.ReplyFields.{ReplyFields}
use Rattle.raft_group_step.specs.declared.append_entries.AppendEntriesResponse.{AppendEntriesResponse}
use Rattle.raft_group_step.specs.declared.append_entries.AppendEntriesResponse.TheVariants.{Success, PartialSuccess, Conflict, HigherVote}
use Rattle.raft_messages.specs.declared.message.RequestId.{RequestId}
use Rattle.raft_messages.specs.declared.message.RequestId.TheVariants.{HeartBeat, Numbered}
use Rattle.raft_messages.specs.declared.message.Message.{Message as Sent}
use Rattle.raft_messages.specs.declared.message.MessageBody.{MessageBody}
use Rattle.raft_messages.specs.declared.message.MessageBody.TheVariants as body
use Rattle.raft_step_laws.specs.Fitting.{ArePlacedFrom, FitEntries, IsBodyBounded, IsLoggedBounded, IsPayloadBounded, FitsRequest, IsSnapshotReplyBounded, IsWhole}
use Rattle.raft_wire.specs.Bodies.{is_conflict, is_of_snapshot, is_spelled, has_number}
use Rattle.raft_wire.specs.Entries.{follows}
use Rattle.raft_wire.specs.Frames.{are_consecutive, are_entries_short, fault_of_entries, fault_of_frame, fault_of_reply, is_logged_short, is_snapshot_short}
use Rattle.raft_wire.specs.declared.error.FrameFault.{FrameFault}
use Rattle.raft_wire.specs.declared.error.FrameFault.TheVariants as fault
use Rattle.raft_wire.proofs.Lengths.{entries_are_short}
use Rattle.raft_frame_laws.specs.StepFrames.{IsShortSnapshot, SnapshotsHaveFrames, brings_snapshot}

-- ---- entries

abbrev is_short : Entry → Bool
is_short e = is_payload_short e.payload

abbrev Fits : Entry → Type 0
Fits e = IsPayloadBounded e.payload

all_short : (es : List Entry) → FitEntries es → list_all is_short es ≡ true
all_short [] f = refl
all_short (e ∷ es) f =
    and_from (is_short e) (list_all is_short es) (f 0 e (omega arith))
    (all_short es (λ i d l. f (suc i) d (omega arith)))

short_all : (es : List Entry) → list_all is_short es ≡ true → FitEntries es
short_all [] t = All-nil Fits
short_all (e ∷ es) t =
    let both = and_parts (is_short e) (list_all is_short es) t in
    All-cons Fits e es both.0 (short_all es both.1)

placed_rise : (last : Option ℕ) (start : ℕ) (es : List Entry) → follows last start ≡ true → ArePlacedFrom start es → are_consecutive last es ≡ true
placed_rise last start [] t p = refl
placed_rise last start (e ∷ es) t p =
    let at_start = p 0 e refl in
    let first : e.log_id.index ≡ start = omega arith in
    and_from (follows last e.log_id.index) (are_consecutive (Some e.log_id.index) es) (subst (λ i. follows last i ≡ true) (sym first) t)
    (placed_rise (Some e.log_id.index) (start + 1) es (eq-eqb (start + 1) (e.log_id.index + 1) (omega arith))
    (λ i x at. let q = p (suc i) x at in omega arith))

nothing_wrong : (es : List Entry) → are_entries_short es ≡ true → are_consecutive None es ≡ true → fault_of_entries es ≡ None
nothing_wrong es short rise = rw (short, rise) refl

request_fits : (m : AppendFields) → FitsRequest (append_fields_of m) → fault_of_entries m.entries ≡ None
request_fits m f =
    nothing_wrong m.entries
    (and_from (nat_le (length m.entries) 64) (list_all is_short m.entries) (le-leb (length m.entries) 64 f.count) (all_short m.entries f.entries))
    (placed_rise None (next_place m.previous) m.entries refl f.placed)

-- ---- replies to snapshots

numbered : (id : RequestId) (n : ℕ) → request_id_of id ≡ IsNumbered n → has_number id ≡ true
numbered HeartBeat n e = absurd cc
numbered (Numbered id) n e = refl

agrees : (outcome : AppendEntriesResponse ℕ) → (outcome_of outcome ≡ HasConflict → ⊥) → is_conflict outcome ≡ false
agrees Success unlike = refl
agrees (PartialSuccess last) unlike = refl
agrees Conflict unlike = absurd (unlike refl)
agrees (HigherVote vote) unlike = refl

spelled : (outcome : AppendEntriesResponse ℕ) → IsWhole (outcome_of outcome) → is_spelled outcome ≡ true
spelled Success w = refl
spelled (PartialSuccess last) w = absurd w
spelled Conflict w = refl
spelled (HigherVote vote) w = refl

whole : (outcome : AppendEntriesResponse ℕ) → is_spelled outcome ≡ true → IsWhole (outcome_of outcome)
whole Success t = tt
whole (PartialSuccess last) t = absurd cc
whole Conflict t = tt
whole (HigherVote vote) t = tt

without_fault : (b : Bool) (first why : Option FrameFault) → b ≡ true → first ≡ None → cond b first why ≡ None
without_fault true first why t e = e
without_fault false first why t e = absurd cc

reply_spelled : (m : ReplyFields) → IsWhole (outcome_of m.outcome) → fault_of_reply m ≡ None
reply_spelled m w = without_fault (is_spelled m.outcome) None (Some fault.BadTag) (spelled m.outcome w) refl

reply_fits : (m : ReplyFields) → IsSnapshotReplyBounded (reply_fields_of m) → is_of_snapshot m ≡ true
reply_fits m f =
    and_from (has_number m.id && is_none m.previous) (not (is_conflict m.outcome))
    (and_from (has_number m.id) (is_none m.previous) (numbered m.id f.number f.numbered) (ap is_none f.previous))
    (ap not (agrees m.outcome f.agrees))

-- a message that fits, and brings no snapshot, has a frame
pub fits_frame : (carried : SnapshotBytes → Snapshot) (b : MessageBody SnapshotBytes) → brings_snapshot b ≡ false → IsBodyBounded (body_as carried b) → fault_of_frame b ≡ None
fits_frame carried (body.VoteRequest r) bare f = refl
fits_frame carried (body.VoteReply r) bare f = refl
fits_frame carried (body.AppendRequest m) bare f = request_fits m f
fits_frame carried (body.AppendReply m) bare f = reply_spelled m f
fits_frame carried (body.SnapshotRequest vote id s) bare f = absurd cc
fits_frame carried (body.SnapshotReply m) bare f = without_fault (is_of_snapshot m) (fault_of_reply m) (Some fault.BadTag) (reply_fits m f) (reply_spelled m f.whole)

-- ---- what a frame brings

has_numbered : (id : RequestId) → has_number id ≡ true → (n : ℕ) × (request_id_of id ≡ IsNumbered n)
has_numbered HeartBeat t = absurd cc
has_numbered (Numbered id) t = (id, refl)

no_conflict : (outcome : AppendEntriesResponse ℕ) → is_conflict outcome ≡ false → outcome_of outcome ≡ HasConflict → ⊥
no_conflict Success t e = absurd (let f : Accepted ≡ HasConflict = e in cc)
no_conflict (PartialSuccess last) t e = absurd (let f : AcceptedPart last ≡ HasConflict = e in cc)
no_conflict Conflict t e = absurd cc
no_conflict (HigherVote vote) t e = absurd (let f : HasHigherVote vote ≡ HasConflict = e in cc)

none_is : (o : Option (LogId ℕ)) → is_none o ≡ true → o ≡ None
none_is None t = refl
none_is (Some id) t = absurd cc

without : (b : Bool) (first : Option FrameFault) (why : FrameFault) → cond b first (Some why) ≡ None → (b ≡ true) × (first ≡ None)
without true first why e = (refl, e)
without false first why e = absurd cc

reply_whole : (m : ReplyFields) → fault_of_reply m ≡ None → IsWhole (outcome_of m.outcome)
reply_whole m e = whole m.outcome (without (is_spelled m.outcome) None fault.BadTag e).0

reply_is : (m : ReplyFields) → is_of_snapshot m ≡ true → fault_of_reply m ≡ None → IsSnapshotReplyBounded (reply_fields_of m)
reply_is m t e =
    let both = and_parts (has_number m.id && is_none m.previous) (not (is_conflict m.outcome)) t in
    let left = and_parts (has_number m.id) (is_none m.previous) both.0 in
    let id = has_numbered m.id left.0 in
    record {
      number = id.0;
      numbered = id.1;
      previous = none_is m.previous left.1;
      agrees = no_conflict m.outcome (not-true (is_conflict m.outcome) both.1);
      whole = reply_whole m e;
    }

-- ---- snapshots

logged_short : (m : Option LoggedMembership) → IsLoggedBounded m → is_logged_short m ≡ true
logged_short None b = refl
logged_short (Some m) b = b

short_logged : (m : Option LoggedMembership) → is_logged_short m ≡ true → IsLoggedBounded m
short_logged None t = tt
short_logged (Some m) t = t

snapshot_short : (x : SnapshotBytes) → IsShortSnapshot x → is_snapshot_short x.meta.last_membership x.bytes ≡ true
snapshot_short x short =
    and_from (is_logged_short x.meta.last_membership) (nat_le (length x.bytes) snapshot_limit) (logged_short x.meta.last_membership short.membership)
    (le-leb (length x.bytes) snapshot_limit short.bytes)

short_snapshot : (x : SnapshotBytes) → is_snapshot_short x.meta.last_membership x.bytes ≡ true → IsShortSnapshot x
short_snapshot x t =
    let both = and_parts (is_logged_short x.meta.last_membership) (nat_le (length x.bytes) snapshot_limit) t in
    record { membership = short_logged x.meta.last_membership both.0; bytes = leb-true (length x.bytes) snapshot_limit both.1 }

-- a snapshot's message has a frame exactly where the snapshot is within the limits
pub have_frames : SnapshotsHaveFrames
have_frames vote id x =
    let test = is_snapshot_short x.meta.last_membership x.bytes in (
      λ e. short_snapshot x (without test None fault.TooLong e).0,
      λ short. without_fault test None (Some fault.TooLong) (snapshot_short x short) refl,
    )

-- ---- what a frame brings to a step

-- entries that follow the previous one stand at their places
follow_placed : (vote : Vote ℕ) (previous : Option (LogId ℕ)) (es : List Entry) → do_follow vote previous es ≡ true → ArePlacedFrom (next_place previous) es
follow_placed vote previous [] t i e at = absurd (let f : None ≡ Some e = at in cc)
follow_placed vote None (e ∷ es) t zero x at =
    let both = and_parts (e.log_id.index == 0 && not (leader_lt vote.leader_id e.log_id.leader_id)) (do_follow vote (Some e.log_id) es) t in
    let first = and_parts (e.log_id.index == 0) (not (leader_lt vote.leader_id e.log_id.leader_id)) both.0 in
    let is : e ≡ x = cc in
    subst (λ (y : Entry). y.log_id.index ≡ 0) is (eqb-true e.log_id.index 0 first.0)
follow_placed vote None (e ∷ es) t (suc i) x at =
    let both = and_parts (e.log_id.index == 0 && not (leader_lt vote.leader_id e.log_id.leader_id)) (do_follow vote (Some e.log_id) es) t in
    let first = and_parts (e.log_id.index == 0) (not (leader_lt vote.leader_id e.log_id.leader_id)) both.0 in
    let at_zero : e.log_id.index ≡ 0 = eqb-true e.log_id.index 0 first.0 in
    let p = follow_placed vote (Some e.log_id) es both.1 i x at in
    omega arith
follow_placed vote (Some id) (e ∷ es) t zero x at =
    let all = and_parts (e.log_id.index == id.index + 1 && not (leader_lt e.log_id.leader_id id.leader_id) && not (leader_lt vote.leader_id e.log_id.leader_id)) (do_follow vote (Some e.log_id) es) t in
    let two = and_parts (e.log_id.index == id.index + 1 && not (leader_lt e.log_id.leader_id id.leader_id)) (not (leader_lt vote.leader_id e.log_id.leader_id)) all.0 in
    let first = and_parts (e.log_id.index == id.index + 1) (not (leader_lt e.log_id.leader_id id.leader_id)) two.0 in
    let is : e ≡ x = cc in
    let p = eqb-true e.log_id.index (id.index + 1) first.0 in
    subst (λ (y : Entry). y.log_id.index ≡ id.index + 1 + 0) is (omega arith)
follow_placed vote (Some id) (e ∷ es) t (suc i) x at =
    let all = and_parts (e.log_id.index == id.index + 1 && not (leader_lt e.log_id.leader_id id.leader_id) && not (leader_lt vote.leader_id e.log_id.leader_id)) (do_follow vote (Some e.log_id) es) t in
    let two = and_parts (e.log_id.index == id.index + 1 && not (leader_lt e.log_id.leader_id id.leader_id)) (not (leader_lt vote.leader_id e.log_id.leader_id)) all.0 in
    let first = and_parts (e.log_id.index == id.index + 1) (not (leader_lt e.log_id.leader_id id.leader_id)) two.0 in
    let here = eqb-true e.log_id.index (id.index + 1) first.0 in
    let p = follow_placed vote (Some e.log_id) es all.1 i x at in
    omega arith

request_is : (own peer : ℕ) (s : GroupState) (m : AppendFields) → is_sound own peer s.stored (AppendRequest (append_fields_of m)) ≡ true → fault_of_entries m.entries ≡ None → FitsRequest (append_fields_of m)
request_is own peer s m sound right =
    let one = and_parts (is_of_leader peer m.vote && do_follow m.vote m.previous m.entries) (keep_voters (membership_in_force s.stored) m.entries) sound in
    let two = and_parts (is_of_leader peer m.vote) (do_follow m.vote m.previous m.entries) one.0 in
    let short = and_parts (nat_le (length m.entries) 64) (list_all is_short m.entries) (entries_are_short m.entries right) in
    record {
      count = leb-true (length m.entries) 64 short.0;
      entries = short_all m.entries short.1;
      placed = follow_placed m.vote m.previous m.entries two.1;
    }

-- a message that isn't refused, and that a frame without a snapshot brings, is within the limits
pub brought_fits : (own : ℕ) (s : GroupState) (now : ℕ) (carried : SnapshotBytes → Snapshot) (m : Sent SnapshotBytes) → brings_snapshot m.body ≡ false → fault_of_frame m.body ≡ None → refusal_of own s (Receive m.sender (message_as carried m) now) ≡ None → IsBodyBounded (body_as carried m.body)
brought_fits own s now carried m bare right taken =
    go m.body bare right (unless_none (is_sound own m.sender s.stored (body_as carried m.body)) BreaksCondition (no_reason (reasons_of own s (Receive m.sender (message_as carried m) now)) taken).1.1.1.0)
  where
    go : (b : MessageBody SnapshotBytes) → brings_snapshot b ≡ false → fault_of_frame b ≡ None → is_sound own m.sender s.stored (body_as carried b) ≡ true → IsBodyBounded (body_as carried b)
    go (body.VoteRequest r) bare right sound = tt
    go (body.VoteReply r) bare right sound = tt
    go (body.AppendRequest a) bare right sound = request_is own m.sender s a sound right
    go (body.AppendReply a) bare right sound = reply_whole a right
    go (body.SnapshotRequest vote id x) bare right sound = absurd cc
    go (body.SnapshotReply a) bare right sound = let w = without (is_of_snapshot a) (fault_of_reply a) fault.BadTag right in reply_is a w.0 w.1
