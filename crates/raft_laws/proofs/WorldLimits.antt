-- What is committed anywhere in a group's world stands on the group's list.
use Rattle.std.specs.Prelude.{◌≡◌, ℕ, ◌≤◌, ◌==◌, ◌&&◌, Bool, true, false, length, slice_get, Option, Some, None, refl}
use Rattle.std.specs.Bool.{beq}
use Rattle.std.proofs.Common.{ap, ◌∙◌, eqb-true, eq-eqb}
use Rattle.std.proofs.lemmas.Bool.{and_from, and_parts}
use Rattle.raft_values.specs.declared.vote.LeaderId.{LeaderId}
use Rattle.raft_values.specs.declared.vote.Vote.{Vote}
use Rattle.raft_values.specs.declared.log_id.LogId.{LogId}
use Rattle.raft_group_step.specs.Values.{leader_eq, log_id_eq, vote_eq}
use Rattle.raft_group_step.specs.StoredGroup.{prefix_of}
use Rattle.raft_group_step.specs.Message.{Message, MessageBody, VoteRequest, VoteReply, AppendRequest, AppendReply, SnapshotRequest, SnapshotReply, ReplyFields}
use Rattle.raft_group_step.specs.GroupState.{Role, Follower, Candidate, Leader}
use Rattle.raft_group_step.specs.GroupEvent.{GroupCall}
use Rattle.raft_group_step.proofs.Votes.{leader_eq_same}
use Rattle.raft_laws.specs.declared.world_event.WorldEvent.{WorldEvent}
use Rattle.raft_laws.specs.declared.world_event.WorldEvent.TheVariants.{Add, Ask, Deliver, Crash, Halt, Restart}
use Rattle.raft_laws.specs.GroupWorld.{GroupWorld, NodeState, Absent, Up, Down}
use Rattle.raft_laws.specs.NodeEvent.{NodeEvent, Comes, Crashes, Halts, Restarts}
use Rattle.raft_laws.specs.GroupRun.{Scene, Nowhere, At, is_same_setup, scene_of, scene_of_call, scene_of_delivery, setup_in_call}
use Rattle.raft_laws.specs.Settled.{accepted_last, accepts, body_accepts, group_list, has_replied, is_last}
use Rattle.raft_laws.proofs.BallotSafe.{Among, among_at}
use Rattle.raft_laws.proofs.VoteRanks.{leader_eq_from}
use Rattle.raft_laws.proofs.StepClaims.{ClaimWithin, Known}
use Rattle.raft_laws.proofs.StepLimits.{BodyKnown, EventClaims, StateClaims}
use Rattle.raft_laws.proofs.Counts.{among_any, any_among}
use Rattle.raft_laws.proofs.GroupList.{Goes}

-- the node replied under the vote that it accepted all up to this log id
abbrev pub replied : GroupWorld → Vote ℕ → ℕ → LogId ℕ → Type 0
replied w vote n id = has_replied w vote (λ other. log_id_eq other id) n ≡ true

abbrev pub NodeLimits : ℕ → (Vote ℕ → ℕ → LogId ℕ → Type 0) → NodeState → Type 0
NodeLimits limit Replied Absent = Unit {0}
NodeLimits limit Replied (Up s) = StateClaims limit Replied s
NodeLimits limit Replied (Down stored) = length (prefix_of stored.snapshot) ≤ limit

-- nothing in the world is said to be committed that is not on its list
pub record WorldLimits (w : GroupWorld) : Type 0 where
  pub nodes : (n : ℕ) → NodeLimits (length (group_list w)) (replied w) (w.nodes n)
  pub messages : (x : Message) → Among x w.messages → ClaimWithin (length (group_list w)) x.body

-- ---- replies

id-of : LeaderId ℕ → ℕ → LogId ℕ
id-of leader index = record { leader_id = leader; index = index }

pub same_log_id : (a b : LogId ℕ) → log_id_eq a b ≡ true → (a.leader_id ≡ b.leader_id) × (a.index ≡ b.index)
same_log_id a b t =
    let p = and_parts (leader_eq a.leader_id b.leader_id) (a.index == b.index) t in
    (leader_eq_same a.leader_id b.leader_id p.0, eqb-true a.index b.index p.1)

itself : (a : LogId ℕ) → log_id_eq a a ≡ true
itself a = and_from (leader_eq a.leader_id a.leader_id) (a.index == a.index) (leader_eq_from a.leader_id a.leader_id refl) (eq-eqb a.index a.index refl)

pub vote_itself : (v : Vote ℕ) → vote_eq v v ≡ true
vote_itself v = and_from (leader_eq v.leader_id v.leader_id) (beq v.committed v.committed) (leader_eq_from v.leader_id v.leader_id refl) (beq_itself v.committed)
  where
    beq_itself : (b : Bool) → beq b b ≡ true
    beq_itself true = refl
    beq_itself false = refl

-- a reply that accepts one kind of log id accepts a wider one
module _ (vote : Vote ℕ) (p q : LogId ℕ → Bool) (wider : (id : LogId ℕ) → p id ≡ true → q id ≡ true) where
  last_wider : (o : Option (LogId ℕ)) → is_last p o ≡ true → is_last q o ≡ true
  last_wider None t = t
  last_wider (Some id) t = wider id t

  reply_wider : (r : ReplyFields) → accepts vote p r ≡ true → accepts vote q r ≡ true
  reply_wider r t =
      let upto = accepted_last r.outcome r.last in
      let a = and_parts (vote_eq r.vote vote) (is_last p upto) t in
      and_from (vote_eq r.vote vote) (is_last q upto) a.0 (last_wider upto a.1)

  body_wider : (b : MessageBody) → body_accepts vote p b ≡ true → body_accepts vote q b ≡ true
  body_wider (VoteRequest v last) t = t
  body_wider (VoteReply v granted last) t = t
  body_wider (AppendRequest a) t = t
  body_wider (AppendReply r) t = reply_wider r t
  body_wider (SnapshotRequest v id x) t = t
  body_wider (SnapshotReply r) t = reply_wider r t

  pub replied_wider : (w : GroupWorld) (n : ℕ) → has_replied w vote p n ≡ true → has_replied w vote q n ≡ true
  replied_wider w n h =
      let x = any_among _ w.messages h in
      let a = and_parts (x.0.sender == n) (body_accepts vote p x.0.body) x.2 in
      among_any (λ (y : Message). (y.sender == n) && body_accepts vote q y.body) w.messages x.0 x.1
      (and_from (x.0.sender == n) (body_accepts vote q x.0.body) a.0 (body_wider x.0.body a.1))

pub replied_still : (w w' : GroupWorld) → Goes w w' → (vote : Vote ℕ) (n : ℕ) (id : LogId ℕ) → replied w vote n id → replied w' vote n id
replied_still w w' goes vote n id h =
    let x = any_among _ w.messages h in
    among_any (λ (y : Message). (y.sender == n) && body_accepts vote (λ other. log_id_eq other id) y.body) w'.messages x.0 (goes.messages x.0 x.1) x.2

pub known_still : (w w' : GroupWorld) → Goes w w' → (vote : Vote ℕ) (role : Role) → Known (replied w) vote role → Known (replied w') vote role
known_still w w' goes vote Follower h = tt
known_still w w' goes vote (Candidate granters) h = tt
known_still w w' goes vote (Leader lead) h = λ p a id e. replied_still w w' goes vote p.peer id (h p a id e)

-- ---- what holds of an event before it happens

module _ (w : GroupWorld) (limits : WorldLimits w) where
  abbrev limit : ℕ
  limit = length (group_list w)

  reply_known : (x : Message) (r : ReplyFields) → ((id : LogId ℕ) → body_accepts r.vote (λ other. log_id_eq other id) x.body ≡ accepts r.vote (λ other. log_id_eq other id) r) → Among x w.messages → (id : LogId ℕ) → accepted_last r.outcome r.last ≡ Some id → replied w r.vote x.sender id
  reply_known x r is a id last =
      among_any (λ (y : Message). (y.sender == x.sender) && body_accepts r.vote (λ other. log_id_eq other id) y.body) w.messages x a
      (and_from (x.sender == x.sender) _ (eq-eqb x.sender x.sender refl) (is id ∙ accepted))
    where
      accepted : accepts r.vote (λ other. log_id_eq other id) r ≡ true
      accepted =
          and_from (vote_eq r.vote r.vote) (is_last (λ other. log_id_eq other id) (accepted_last r.outcome r.last)) (vote_itself r.vote)
          (ap (is_last (λ other. log_id_eq other id)) last ∙ itself id)

  body_known : (x : Message) → Among x w.messages → (b : MessageBody) → x.body ≡ b → BodyKnown (replied w) x.sender b
  body_known x a (VoteRequest v last) e = tt
  body_known x a (VoteReply v granted last) e = tt
  body_known x a (AppendRequest f) e = tt
  body_known x a (AppendReply r) e = reply_known x r (λ id. ap (body_accepts r.vote (λ other. log_id_eq other id)) e) a
  body_known x a (SnapshotRequest v id y) e = tt
  body_known x a (SnapshotReply r) e = reply_known x r (λ id. ap (body_accepts r.vote (λ other. log_id_eq other id)) e) a

  abbrev pub ComesKnown : NodeEvent → Type 0
  ComesKnown (Comes e) = EventClaims limit (replied w) e
  ComesKnown Crashes = Unit {0}
  ComesKnown Halts = Unit {0}
  ComesKnown Restarts = Unit {0}

  abbrev pub SceneKnown : Scene → Type 0
  SceneKnown Nowhere = Unit {0}
  SceneKnown (At n e) = ComesKnown e

  call_known : (t : Bool) (n : ℕ) (call : GroupCall) (now : ℕ) → SceneKnown (scene_of_call t n call now)
  call_known true n call now = tt
  call_known false n call now = tt

  delivery_known : (number now : ℕ) (o : Option Message) → slice_get w.messages number ≡ o → SceneKnown (scene_of_delivery o now)
  delivery_known number now None e = tt
  delivery_known number now (Some x) e =
      let a = among_at w.messages number x e in (limits.messages x a, body_known x a x.body refl)

  pub scene_known : (e : WorldEvent) → SceneKnown (scene_of w e)
  scene_known (Add n) = tt
  scene_known (Ask n call now) = call_known (is_same_setup w.setup (setup_in_call call)) n call now
  scene_known (Deliver number now) = delivery_known number now (slice_get w.messages number) refl
  scene_known (Crash n) = tt
  scene_known (Halt n) = tt
  scene_known (Restart n) = tt
