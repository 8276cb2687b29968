-- Each entry that stands anywhere was noted under its own leader's vote, but for a set-up's, and for one at most that a leader wrote
-- and stopped.
use Rattle.std.specs.Prelude.{◌≡◌, ◌⊎◌, ℕ, ◌+◌, ◌<◌, ◌≤◌, ◌==◌, Bool, true, false, List, [], ◌∷◌, ◌++◌, length, slice_get, Option, Some, None, refl}
use Rattle.std.proofs.Common.{inl, inr, sym, ap, ◌∙◌, subst, arith, ⊎_elim, eq-eqb, length-append}
use Rattle.std.proofs.lemmas.Bool.{and_from}
use Rattle.std.proofs.lemmas.Option.{slice_get_within}
use Rattle.raft_values.specs.declared.vote.LeaderId.{LeaderId}
use Rattle.raft_values.specs.declared.vote.Vote.{Vote}
use Rattle.raft_values.specs.Vote.{vote_of}
use Rattle.raft_values.specs.LogId.{log_id_of}
use Rattle.raft_state.specs.declared.entry.EntryPayload.TheVariants.{Blank, Normal, Membership as Members}
use Rattle.raft_group_step.specs.Values.{after_change, ChangeMembers, Entry, EntryPayload, entry_of, LoggedMembership, Membership}
use Rattle.raft_group_step.specs.StoredGroup.{StoredGroup, PutEntries, end_place, held, membership_in_force, prefix_of}
use Rattle.raft_group_step.specs.Message.{Message, MessageBody, VoteRequest, VoteReply, AppendRequest, AppendReply, SnapshotRequest, SnapshotReply}
use Rattle.raft_group_step.specs.GroupState.{GroupState, Lead, Role, Follower, Candidate, Leader, is_leader, state_of}
use Rattle.raft_group_step.specs.declared.group_call.GroupCall.TheVariants.{Initialize, Elect, Propose, ChangeMembership, Heartbeat, Lost, TriggerSnapshot, TriggerPurge}
use Rattle.raft_group_step.specs.GroupEvent.{GroupCall, GroupEvent, AddGroup, Call, Receive, Open}
use Rattle.raft_group_step.specs.StepResult.{StepResult, RefusalReason, in_role, step_down, store, store_vote}
use Rattle.raft_group_step.specs.Lead.{committed_vote}
use Rattle.raft_group_step.specs.Elect.{other_voters, stand}
use Rattle.raft_group_step.specs.Refusal.{refusal_of}
use Rattle.raft_group_step.specs.GroupStep.{begun, group_step}
use Rattle.raft_group_step.proofs.Words.{ask_state}
use Rattle.raft_laws.specs.GroupWorld.{NodeState, Absent, Up, Down, Led}
use Rattle.raft_laws.specs.NodeEvent.{NodeEvent, Comes, Crashes, Halts, Restarts, after_step, outcome_at, outcome_of_end, outcome_of_step, outcome_of_stop, state_after}
use Rattle.raft_laws.specs.GroupRun.{led_after, led_as, sent_in, stop_at}
use Rattle.raft_laws.proofs.BallotAgreement.{slice_get-append, slice_get_end}
use Rattle.raft_laws.proofs.BallotSafe.{Among}
use Rattle.raft_laws.proofs.Counts.{among_behind, among_front}
use Rattle.raft_laws.proofs.StepEntries.{Each, each_append, each_drop, each_more, BodyEach, StoredEach}
use Rattle.raft_laws.proofs.WorldRuns.{among_either}
use Rattle.raft_history_laws.specs.NotedIds.{entries_in}
use Rattle.raft_history_laws.proofs.NotedIds.{taken_leads}
use Rattle.raft_list_laws.proofs.StepWrites.{AsLed, AsStored, BodyOk, CallOk, ChangeOk, Done as StepDone, EventOk, StoredOk, body_more, opening-done, step-done, stored_more}

-- ---- each of a list

pub each_among : {A : Type 0} (P : A → Type 0) (xs : List A) → Each P xs → (x : A) → Among x xs → P x
each_among P [] h x a = absurd a
each_among P (y ∷ ys) h x a = ⊎_elim (λ e. subst P (sym e) h.0) (λ b. each_among P ys h.1 x b) a

pub among_each : {A : Type 0} (P : A → Type 0) (xs : List A) → ((x : A) → Among x xs → P x) → Each P xs
among_each P [] f = tt
among_each P (y ∷ ys) f = (f y (inl refl), among_each P ys (λ x a. f x (inr a)))

entries_each : (P : Entry → Type 0) (b : MessageBody) → ((e : Entry) → Among e (entries_in b) → P e) → BodyEach P b
entries_each P (VoteRequest vote last) f = tt
entries_each P (VoteReply vote granted last) f = tt
entries_each P (AppendRequest a) f = among_each P a.entries f
entries_each P (AppendReply reply) f = tt
entries_each P (SnapshotRequest vote id x) f = among_each P x.«prefix» f
entries_each P (SnapshotReply reply) f = tt

each_entry : (P : Entry → Type 0) (b : MessageBody) → BodyEach P b → (e : Entry) → Among e (entries_in b) → P e
each_entry P (VoteRequest vote last) h e a = absurd a
each_entry P (VoteReply vote granted last) h e a = absurd a
each_entry P (AppendRequest x) h e a = each_among P x.entries h e a
each_entry P (AppendReply reply) h e a = absurd a
each_entry P (SnapshotRequest vote id x) h e a = each_among P x.«prefix» h e a
each_entry P (SnapshotReply reply) h e a = absurd a

-- under whom a node stands next
abbrev pub next_leader : ℕ → GroupState → LeaderId ℕ
next_leader n s = record { term = s.stored.vote.leader_id.term + 1; node_id = n }

-- a node stands under a vote of its own, in the next term
stands_next : (n : ℕ) (r : StepResult) → (stand n r).state.stored.vote.leader_id ≡ next_leader n r.state
stands_next n r =
    let asking = in_role (Candidate []) (store_vote (vote_of (r.state.stored.vote.leader_id.term + 1) n false) (step_down r)) in
    ap (λ (t : GroupState). t.stored.vote.leader_id) (ask_state n (other_voters n r.state.stored) asking)

-- ---- what was noted

-- one of the first notes is of the entry's own leader, and reaches it
pub record OwnNoted (led : List Led) (below : ℕ) (e : Entry) : Type 0 where
  pub number : ℕ
  pub earlier : number < below
  pub note : Led
  pub there : slice_get led number ≡ Some note
  pub own : note.vote.leader_id ≡ e.log_id.leader_id
  pub reaches : e.log_id.index < length note.list

pub noted_more : {led : List Led} {a : ℕ} {e : Entry} (more : List Led) (b : ℕ) → a ≤ b → OwnNoted led a e → OwnNoted (led ++ more) b e
noted_more {led} {a} {e} more b le h =
    record {
      number = h.number;
      earlier = let l = h.earlier in omega arith;
      note = h.note;
      there = slice_get-append led more h.number (slice_get_within led h.number h.note h.there) ∙ h.there;
      own = h.own;
      reaches = h.reaches;
    }

-- the entry is a set-up's, or was noted
abbrev pub KnownBelow : List Led → ℕ → Entry → Type 0
KnownBelow led below e = (e.log_id ≡ log_id_of 0 0 0) ⊎ OwnNoted led below e

abbrev pub Known : List Led → Entry → Type 0
Known led e = KnownBelow led (length led) e

pub known_more : (led more : List Led) (e : Entry) → Known led e → Known (led ++ more) e
known_more led more e h =
    let size = length-append led more in
    ⊎_elim (λ z. inl z) (λ o. inr (noted_more more (length (led ++ more)) (omega arith) o)) h

-- the last note under the vote has so many entries, and none under it has more
pub record Whole (led : List Led) (vote : Vote ℕ) (size : ℕ) : Type 0 where
  pub note : Led
  pub among : Among note led
  pub of_vote : note.vote ≡ vote
  pub sized : length note.list ≡ size
  pub longest : (l : Led) → Among l led → l.vote.leader_id ≡ vote.leader_id → length l.list ≤ size

-- its leader was never noted
abbrev pub Unnoted : List Led → LeaderId ℕ → Type 0
Unnoted led leader = (l : Led) → Among l led → l.vote.leader_id ≡ leader → ⊥

-- written under the vote by the node, which leads
abbrev pub OwnWritten : ℕ → Vote ℕ → Entry → Type 0
OwnWritten n vote e = (e.log_id.leader_id ≡ vote.leader_id) × ((vote.committed ≡ true) × (vote.leader_id.node_id ≡ n))

-- at this place: a blank entry of a leader that was never noted, or another one, behind what was noted
abbrev pub OwnNew : List Led → ℕ → ℕ → Vote ℕ → Entry → Type 0
OwnNew led place n vote e =
    OwnWritten n vote e
    × ((e.log_id.index ≡ place)
    × ((Whole led vote place × (e.payload ≡ Blank → ⊥)) ⊎ (Unnoted led vote.leader_id × (e.payload ≡ Blank))))

-- ---- notes of other nodes leave this as it is

module _ (led more : List Led) (n : ℕ) (others : (l : Led) → Among l more → l.vote.leader_id.node_id ≡ n → ⊥) where
  whole_more : (vote : Vote ℕ) (size : ℕ) → vote.leader_id.node_id ≡ n → Whole led vote size → Whole (led ++ more) vote size
  whole_more vote size mine h =
      record {
        note = h.note;
        among = among_front h.note led more h.among;
        of_vote = h.of_vote;
        sized = h.sized;
        longest = λ l a same.
            ⊎_elim
            (λ old. h.longest l old same)
            (λ new. absurd (others l new (ap (λ (x : LeaderId ℕ). x.node_id) same ∙ mine)))
            (among_either l led more a);
      }

  unnoted_more : (leader : LeaderId ℕ) → leader.node_id ≡ n → Unnoted led leader → Unnoted (led ++ more) leader
  unnoted_more leader mine h l a same =
      ⊎_elim
      (λ old. h l old same)
      (λ new. others l new (ap (λ (x : LeaderId ℕ). x.node_id) same ∙ mine))
      (among_either l led more a)

  own_more : (place : ℕ) (vote : Vote ℕ) (e : Entry) → OwnNew led place n vote e → OwnNew (led ++ more) place n vote e
  own_more place vote e h = (
    h.0,
    (
      h.1.0,
      ⊎_elim
          (λ w. inl (whole_more vote place h.0.1.1 w.0, w.1))
          (λ u. inr (unnoted_more vote.leader_id h.0.1.1 u.0, u.1))
          h.1.1,
    ),
  )

-- what the node has is known; a leader was noted with all of it, and one that is down may have written one entry more
abbrev pub NodeKnown : List Led → ℕ → NodeState → Type 0
NodeKnown led n Absent = Unit {0}
NodeKnown led n (Up s) =
    StoredEach (Known led) s.stored
    × ((lead : Lead) → s.role ≡ Leader lead → (s.stored.vote.leader_id.node_id ≡ n) × Whole led s.stored.vote (end_place s.stored))
NodeKnown led n (Down stored) = (place : ℕ) × StoredOk (Known led) (OwnNew led place n) stored

pub node_more : (led more : List Led) (n : ℕ) → ((l : Led) → Among l more → l.vote.leader_id.node_id ≡ n → ⊥) → (x : NodeState) → NodeKnown led n x → NodeKnown (led ++ more) n x
node_more led more n others Absent h = tt
node_more led more n others (Up s) h = (
  stored_more (Known led) (Known (led ++ more)) (known_more led more) s.stored h.0,
  λ lead is. let x = h.1 lead is in (x.0, whole_more led more n others s.stored.vote (end_place s.stored) x.0 x.1),
)
node_more led more n others (Down stored) h = (
  h.0,
  stored_more (AsStored (Known led) (OwnNew led h.0 n) stored.vote) (AsStored (Known (led ++ more)) (OwnNew (led ++ more) h.0 n) stored.vote)
      (λ e x. ⊎_elim (λ k. inl (known_more led more e k)) (λ o. inr (own_more led more n others h.0 stored.vote e o)) x) stored h.1,
)

abbrev pub SentKnown : List Led → Message → Type 0
SentKnown led x = BodyEach (Known led) x.body

-- ---- what an event leaves

abbrev pub IsPart : StoredGroup → Entry → Type 0
IsPart st e = Among e st.log ⊎ Among e (prefix_of st.snapshot)

abbrev pub IsIn : List Message → Entry → Type 0
IsIn sent e = (x : Message) × Among x sent × Among e (entries_in x.body)

-- a leader's list reaches each entry of its own that it has stored and sent, and is no shorter than what was noted under its vote
pub record Reach (led : List Led) (n : ℕ) (sent : List Message) (st : StoredGroup) : Type 0 where
  pub mine : st.vote.leader_id.node_id ≡ n
  pub size : length (held st) ≡ end_place st
  pub longest : (l : Led) → Among l led → l.vote.leader_id ≡ st.vote.leader_id → length l.list ≤ end_place st
  pub reaches : (e : Entry) → e.log_id.leader_id ≡ st.vote.leader_id → IsPart st e ⊎ IsIn sent e → e.log_id.index < end_place st

abbrev pub Reaches : List Led → ℕ → NodeState → List Message → Type 0
Reaches led n Absent sent = Unit {0}
Reaches led n (Up t) sent = (lead : Lead) → t.role ≡ Leader lead → Reach led n sent t.stored
Reaches led n (Down stored) sent = Unit {0}

-- of what a leader is noted with one entry at most is neither known nor a set-up's
abbrev pub NoteKnown : List Led → Led → Type 0
NoteKnown led l = (place : ℕ) × Each (λ (e : Entry). Known led e ⊎ OwnNew led place l.node l.vote e) l.list

pub record Left (led : List Led) (n : ℕ) (state : NodeState) (sent : List Message) (notes : List Led) : Type 0 where
  pub node : NodeKnown (led ++ notes) n state
  pub sent_known : Each (SentKnown (led ++ notes)) sent
  pub notes_known : Each (NoteKnown led) notes
  pub own : (l : Led) → Among l notes → l.vote.leader_id.node_id ≡ n

module _ (led : List Led) (n : ℕ) where
  -- nothing is noted or sent
  unled : (x : NodeState) → NodeKnown led n x → Left led n x [] []
  unled x h = record { node = node_more led [] n (λ l none same. absurd none) x h; sent_known = tt; notes_known = tt; own = λ l none. absurd none }

  stopped : (st : StoredGroup) → StoredEach (Known led) st → Left led n (Down st) [] []
  stopped st h =
      unled (Down st) (0, stored_more (Known led) (AsStored (Known led) (OwnNew led 0 n) st.vote) (λ e x. inl x) st h)

  module _ (place : ℕ) (base : StoredGroup) (r : StepResult) (d : StepDone (Known led) (OwnNew led place n) base r) where
    abbrev led_as_known : Entry → Type 0
    led_as_known = AsLed (Known led) (OwnNew led place n) r

    no_leader : is_leader r.state.role ≡ false → (e : Entry) → led_as_known e → Known (led ++ []) e
    no_leader follows e h =
        ⊎_elim
        (λ k. known_more led [] e k)
        (λ o. absurd (let f : true ≡ false = sym o.1 ∙ follows in cc))
        h

    unnoted : is_leader r.state.role ≡ false → (sent : List Message) → ((x : Message) → Among x sent → Among x r.messages) → Left led n (Up r.state) sent []
    unnoted follows sent few =
        record {
          node = (
            stored_more led_as_known (Known (led ++ [])) (no_leader follows) r.state.stored d.now,
            λ lead is. absurd (let f : true ≡ false = sym (ap is_leader is) ∙ follows in cc),
          );
          sent_known =
              among_each (SentKnown (led ++ [])) sent
              (λ x a. body_more led_as_known (Known (led ++ [])) (no_leader follows) x.body (each_among (λ (m : Message). BodyEach led_as_known m.body) r.messages d.messages x (few x a)));
          notes_known = tt;
          own = λ l none. absurd none;
        }

    abbrev note : Led
    note = record { node = n; vote = r.state.stored.vote; list = held r.state.stored }

    -- what the leader wrote is noted now
    now_known : (e : Entry) → (e.log_id.leader_id ≡ r.state.stored.vote.leader_id → e.log_id.index < length (held r.state.stored)) → led_as_known e → Known (led ++ note ∷ []) e
    now_known e reach h =
        let size = length-append led (note ∷ []) in
        ⊎_elim
        (λ k. known_more led (note ∷ []) e k)
        (λ o.
        inr
        (record {
          number = length led;
          earlier = omega arith;
          note = note;
          there = slice_get_end led note;
          own = sym o.0.0.0;
          reaches = reach o.0.0.0;
        }))
        h

    noted : (lead : Lead) → r.state.role ≡ Leader lead → (sent : List Message) → ((x : Message) → Among x sent → Among x r.messages) → Reaches led n (Up r.state) sent → Left led n (Up r.state) sent (note ∷ [])
    noted lead is sent few reach =
        let Q = Known (led ++ note ∷ []) in
        let f = reach lead is in
        let part : (e : Entry) → IsPart r.state.stored e ⊎ IsIn sent e → e.log_id.leader_id ≡ r.state.stored.vote.leader_id → e.log_id.index < length (held r.state.stored) =
        λ e p own. let l = f.reaches e own p in let size = f.size in omega arith
        in
        record {
          node = (
            (
              among_each Q r.state.stored.log (λ e a. now_known e (part e (inl (inl a))) (each_among led_as_known r.state.stored.log d.now.0 e a)),
              among_each Q (prefix_of r.state.stored.snapshot) (λ e a. now_known e (part e (inl (inr a))) (each_among led_as_known (prefix_of r.state.stored.snapshot) d.now.1 e a)),
            ),
            λ other same. (
              f.mine,
              record {
                note = note;
                among = among_behind note led (note ∷ []) (inl refl);
                of_vote = refl;
                sized = f.size;
                longest = λ l a own.
                    ⊎_elim
                    (λ old. f.longest l old own)
                    (λ new. ⊎_elim (λ e. let size = f.size in let long = ap (λ (y : Led). length y.list) e in omega arith) (λ none. absurd none) new)
                    (among_either l led (note ∷ []) a);
              },
            ),
          );
          sent_known =
              among_each (SentKnown (led ++ note ∷ [])) sent
              (λ x a.
              entries_each Q x.body
              (λ e b.
              now_known e (part e (inr (x, a, b)))
              (each_entry led_as_known x.body (each_among (λ (m : Message). BodyEach led_as_known m.body) r.messages d.messages x (few x a)) e b)));
          notes_known = (
            (
              place,
              each_more led_as_known (λ (e : Entry). Known led e ⊎ OwnNew led place n r.state.stored.vote e) (λ e x. ⊎_elim (λ k. inl k) (λ o. inr o.0) x) (held r.state.stored)
                  (each_append led_as_known (prefix_of r.state.stored.snapshot) _ d.now.1 (each_drop led_as_known _ r.state.stored.log d.now.0)),
            ),
            tt,
          );
          own = λ l a. ⊎_elim (λ e. ap (λ (y : Led). y.vote.leader_id.node_id) e ∙ f.mine) (λ none. absurd none) a;
        }

    ended_as : (role : Role) → r.state.role ≡ role → (sent : List Message) → ((x : Message) → Among x sent → Among x r.messages) → Reaches led n (Up r.state) sent → Left led n (Up r.state) sent (led_as n r.state role)
    ended_as Follower is sent few reach = unnoted (ap is_leader is) sent few
    ended_as (Candidate granters) is sent few reach = unnoted (ap is_leader is) sent few
    ended_as (Leader lead) is sent few reach = noted lead is sent few reach

    of_end : (why : Option RefusalReason) → Reaches led n (Up r.state) (sent_in (outcome_of_end r why)) → Left led n (Up r.state) (sent_in (outcome_of_end r why)) (led_after (outcome_of_end r why) n (Up r.state))
    of_end None reach = ended_as r.state.role refl r.messages (λ x a. a) reach
    of_end (Some why) reach = ended_as r.state.role refl [] (λ x a. absurd a) reach

    of_stop : (k : ℕ) (s : GroupState) (e : GroupEvent) (why : Option RefusalReason) → let o = outcome_of_stop s e r why in let x = after_step (Some k) (state_of base) r in Left led n x (sent_in o) (led_after o n x)
    of_stop k s e None = unled (after_step (Some k) (state_of base) r) (place, d.stops k)
    of_stop k s e (Some why) = unled (after_step (Some k) (state_of base) r) (place, d.stops k)

  -- a step, which may stop
  step_left : (place : ℕ) (stop : Bool) (k : ℕ) (s : GroupState) (e : GroupEvent) (r : StepResult) → StepDone (Known led) (OwnNew led place n) s.stored r → let o = outcome_of_step stop s e r in let x = after_step (stop_at stop k) s r in Reaches led n x (sent_in o) → Left led n x (sent_in o) (led_after o n x)
  step_left place true k s e r d reach = of_stop place s.stored r d k s e r.refused
  step_left place false k s e r d reach = of_end place s.stored r d r.refused reach

  -- ---- events

  -- the message that comes is known; a node that is up isn't opened
  abbrev pub EventKnown : NodeEvent → Type 0
  EventKnown (Comes AddGroup) = Unit {0}
  EventKnown (Comes (Call call now)) = Unit {0}
  EventKnown (Comes (Receive peer x now)) = SentKnown led x
  EventKnown (Comes Open) = ⊥
  EventKnown Crashes = Unit {0}
  EventKnown Halts = Unit {0}
  EventKnown Restarts = Unit {0}

  -- no leader was noted that the node would be next
  pub record AreFresh (s : GroupState) : Type 0 where
    pub elected : Unnoted led (next_leader n s)
    pub granted : (granters : List ℕ) → s.role ≡ Candidate granters → (s.stored.vote.leader_id.node_id ≡ n) × Unnoted led s.stored.vote.leader_id
    -- a leader's vote is committed
    pub flag : (lead : Lead) → s.role ≡ Leader lead → s.stored.vote.committed ≡ true

  -- the entry of a set-up is stored
  abbrev founding : Membership → ℕ → GroupState → StepResult
  founding x now s = store (PutEntries 0 (entry_of (log_id_of 0 0 0) (Members x) ∷ [])) (begun now s)

  -- the place at which the node writes in the event, if it does
  abbrev written_in_call : GroupState → ℕ → GroupCall → ℕ
  written_in_call s now (Initialize x) = end_place (stand n (founding x now s)).state.stored
  written_in_call s now Elect = end_place (stand n (begun now s)).state.stored
  written_in_call s now (Propose command token) = end_place s.stored
  written_in_call s now (ChangeMembership change token) = end_place s.stored
  written_in_call s now Heartbeat = 0
  written_in_call s now (Lost peer) = 0
  written_in_call s now TriggerSnapshot = 0
  written_in_call s now (TriggerPurge place) = 0

  abbrev written_in : GroupState → GroupEvent → ℕ
  written_in s AddGroup = 0
  written_in s (Call call now) = written_in_call s now call
  written_in s (Receive peer x now) = end_place s.stored
  written_in s Open = 0

  module _ (s : GroupState) (fresh : AreFresh s) (h : NodeKnown led n (Up s)) where
    blank_ok : (r : StepResult) → r.state.stored.vote ≡ s.stored.vote → OwnNew led (end_place (stand n r).state.stored) n (committed_vote (stand n r).state.stored.vote) (entry_of (record { leader_id = (stand n r).state.stored.vote.leader_id; index = end_place (stand n r).state.stored }) Blank)
    blank_ok r same =
        let next : (stand n r).state.stored.vote.leader_id ≡ next_leader n s =
        stands_next n r ∙ ap (λ (v : Vote ℕ). record { term = v.leader_id.term + 1; node_id = n }) same
        in (
          (refl, (refl, ap (λ (x : LeaderId ℕ). x.node_id) next)),
          (refl, inr (subst (Unnoted led) (sym next) fresh.elected, refl)),
        )

    body_ok : (now : ℕ) (x : MessageBody) → BodyEach (Known led) x → BodyOk (Known led) (OwnNew led (end_place s.stored) n) s.stored h.0 n (begun now s).state x
    body_ok now (VoteRequest vote last) known = tt
    body_ok now (VoteReply vote granted last) known =
        λ granters is. let g = fresh.granted granters is in ((refl, (refl, g.0)), (refl, inr (g.1, refl)))
    body_ok now (AppendRequest a) known = known
    body_ok now (AppendReply reply) known = tt
    body_ok now (SnapshotRequest vote id x) known = known
    body_ok now (SnapshotReply reply) known = tt

    -- a leader writes an entry that isn't blank
    written_ok : (lead : Lead) → s.role ≡ Leader lead → (payload : EntryPayload) → (payload ≡ Blank → ⊥) → (is_leader s.role ≡ true) × OwnNew led (end_place s.stored) n s.stored.vote (entry_of (record { leader_id = s.stored.vote.leader_id; index = end_place s.stored }) payload)
    written_ok lead is payload told =
        let x = h.1 lead is in (ap is_leader is, ((refl, (fresh.flag lead is, x.0)), (refl, inl (x.1, told))))

    change_ok : (lead : Lead) → s.role ≡ Leader lead → (now : ℕ) (o : Option LoggedMembership) (change : ChangeMembers) → ChangeOk (Known led) (OwnNew led (end_place s.stored) n) s.stored h.0 (begun now s).state o change
    change_ok lead is now None change = tt
    change_ok lead is now (Some x) change =
        written_ok lead is (Members (after_change x.membership change)) (λ e. let no : Members (after_change x.membership change) ≡ Blank = e in cc)

    call_ok : (call : GroupCall) (now : ℕ) → refusal_of n s (Call call now) ≡ None → CallOk (Known led) (OwnNew led (written_in_call s now call) n) s.stored h.0 n (begun now s).state call
    call_ok (Initialize x) now taken = (inl refl, blank_ok (founding x now s) refl)
    call_ok Elect now taken = blank_ok (begun now s) refl
    call_ok (Propose command token) now taken =
        let leads = taken_leads n s (Propose command token) now refl taken in
        written_ok leads.0 leads.1 (Normal command) (λ e. let no : Normal command ≡ Blank = e in cc)
    call_ok (ChangeMembership change token) now taken =
        let leads = taken_leads n s (ChangeMembership change token) now refl taken in
        change_ok leads.0 leads.1 now (membership_in_force s.stored) change
    call_ok Heartbeat now taken = tt
    call_ok (Lost peer) now taken = tt
    call_ok TriggerSnapshot now taken = tt
    call_ok (TriggerPurge place) now taken = tt

    event_ok : (e : GroupEvent) → EventKnown (Comes e) → refusal_of n s e ≡ None → EventOk (Known led) (OwnNew led (written_in s e) n) n s h.0 e
    event_ok AddGroup known taken = tt
    event_ok (Call call now) known taken = call_ok call now taken
    event_ok (Receive peer x now) known taken = body_ok now x.body known
    event_ok Open known taken = absurd known

    comes_done : (e : GroupEvent) → EventKnown (Comes e) → StepDone (Known led) (OwnNew led (written_in s e) n) s.stored (group_step n s e)
    comes_done e known = step-done (Known led) (OwnNew led (written_in s e) n) n s e h.0 (event_ok e known)

  opens_done : (place : ℕ) (st : StoredGroup) → StoredOk (Known led) (OwnNew led place n) st → StepDone (Known led) (OwnNew led place n) st (group_step n (state_of st) Open)
  opens_done place st h =
      opening-done (Known led) (OwnNew led place n) n st h
      (λ e o. and_from st.vote.committed (st.vote.leader_id.node_id == n) o.0.1.0 (eq-eqb st.vote.leader_id.node_id n o.0.1.1))

  abbrev pub FreshIn : NodeState → Type 0
  FreshIn Absent = Unit {0}
  FreshIn (Up s) = AreFresh s
  FreshIn (Down stored) = Unit {0}

  pub node_left : (e : NodeEvent) (stop : Bool) (k : ℕ) (x : NodeState) → FreshIn x → NodeKnown led n x → EventKnown e → let o = outcome_at n e stop x in let y = state_after n e (stop_at stop k) x in Reaches led n y (sent_in o) → Left led n y (sent_in o) (led_after o n y)
  node_left e stop k Absent fresh h known reach = unled Absent tt
  node_left (Comes e) stop k (Up s) fresh h known reach =
      step_left (written_in s e) stop k s e (group_step n s e) (comes_done s fresh h e known) reach
  node_left Crashes stop k (Up s) fresh h known reach = stopped s.stored h.0
  node_left Halts stop k (Up s) fresh h known reach = stopped s.stored h.0
  node_left Restarts stop k (Up s) fresh h known reach = unled (Up s) h
  node_left (Comes e) stop k (Down stored) fresh h known reach = unled (Down stored) h
  node_left Crashes stop k (Down stored) fresh h known reach = unled (Down stored) h
  node_left Halts stop k (Down stored) fresh h known reach = unled (Down stored) h
  node_left Restarts stop k (Down stored) fresh h known reach =
      step_left h.0 stop k (state_of stored) Open (group_step n (state_of stored) Open) (opens_done h.0 stored h.1) reach
