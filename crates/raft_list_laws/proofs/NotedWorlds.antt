-- Along every history each entry that stands anywhere is known, event by event.
use Rattle.std.proofs.Common.{inl, inr, sym, ap, ◌∙◌, subst, arith, ⊎_elim, length-append}
use Rattle.std.proofs.lemmas.Option.{none-some}
use Rattle.raft_values.specs.declared.vote.LeaderId.{LeaderId}
use Rattle.raft_group_step.specs.Values.{Entry, Membership, has_id}
use Rattle.raft_group_step.specs.StoredGroup.{end_place, first_place, held, prefix_of}
use Rattle.raft_group_step.specs.Message.{Message}
use Rattle.raft_laws.specs.BallotWorld.{BallotEvent, BallotWorld}
use Rattle.raft_laws.specs.BallotRanks.{rank_of}
use Rattle.raft_laws.specs.declared.world_event.WorldEvent.{WorldEvent}
use Rattle.raft_laws.specs.declared.world_event.WorldEvent.TheVariants.{Add, Ask, Deliver, Crash, Halt, Restart}
use Rattle.raft_laws.specs.GroupWorld.{GroupWorld, NodeState, Absent, Up, Down, Led, Recorded, is_stop, new_world, state_or}
use Rattle.raft_laws.specs.NodeEvent.{NodeEvent, outcome_at, state_after}
use Rattle.raft_laws.specs.GroupRun.{Scene, Nowhere, At, Replays, after_scene, ended, happens, is_same_setup, led_after, outcome_in, outcome_of, scene_of, scene_of_call, scene_of_delivery, sent_in, setup_in_call, stop_at}
use Rattle.raft_laws.specs.OneList.{AreNodeIds}
use Rattle.raft_laws.specs.VotesRise.{stored_of}
use Rattle.raft_laws.proofs.BallotAgreement.{slice_get-append}
use Rattle.raft_laws.proofs.BallotSafe.{Among}
use Rattle.raft_laws.proofs.HeldLists.{at_node}
use Rattle.raft_laws.proofs.Numbers.{state_here}
use Rattle.raft_laws.proofs.Shapes.{joined_end, joined_held, slice_after}
use Rattle.raft_laws.proofs.StepEntries.{Each, each_append, each_at, each_more}
use Rattle.raft_laws.proofs.WorldStart.{IsFounded}
use Rattle.raft_history_laws.specs.NotedIds.{IsHeld, IsSent, IsSomewhere, entries_in}
use Rattle.raft_history_laws.proofs.Along.{along}
use Rattle.raft_history_laws.proofs.AlongNodes.{may_follow}
use Rattle.raft_history_laws.proofs.Later.{one_node}
use Rattle.raft_history_laws.proofs.NotedIds.{leads_all, somewhere_in_lead}
use Rattle.raft_list_laws.proofs.StepWrites.{body_more}
use Rattle.std.specs.Prelude.{◌≡◌, ◌⊎◌, ℕ, zero, suc, ◌+◌, ◌-◌, ◌<◌, ◌^◌, Bool, true, false, List, [], ◌∷◌, ◌++◌, drop, length, slice_get, Option, Some, None, refl}
use Rattle.std.proofs.lemmas.Bool.{cases_Bool, cases_lt}
use Rattle.raft_group_step.specs.GroupState.{GroupState, Lead, Candidate, Follower, Leader, no_group, state_of}
use Rattle.raft_laws.proofs.Counts.{among_behind, among_contains, among_front}
use Rattle.raft_laws.proofs.Ids.{size_same}
use Rattle.raft_laws.proofs.Memberships.{HasMembership}
use Rattle.raft_laws.proofs.Standing.{RoleFits, UpFits}
use Rattle.raft_laws.proofs.StepFits.{NodeFits, world_after}
use Rattle.raft_laws.proofs.VoteOrders.{by_term}
use Rattle.raft_laws.proofs.VoteRanks.{owner_is, rank_below}
use Rattle.raft_laws.proofs.WorldFits.{LedFits, NodeStateFits, WorldFits, after_safe}
use Rattle.raft_list_laws.proofs.OwnNotes.{AreFresh, EventKnown, FreshIn, IsIn, IsPart, Known, KnownBelow, Left, NodeKnown, NoteKnown, OwnNew, Reach, Reaches, SentKnown, Unnoted, known_more, next_leader, node_left, node_more, noted_more}

among_drop : {A : Type 0} (k : ℕ) (xs : List A) (x : A) → Among x (drop k xs) → Among x xs
among_drop zero xs x a = a
among_drop (suc k) [] x a = a
among_drop (suc k) (y ∷ ys) x a = inr (among_drop k ys x a)

-- each entry that stands anywhere is known, and what leaders took over was known before
pub record AllKnown (w : GroupWorld) : Type 0 where
  pub nodes : (n : ℕ) → NodeKnown w.led n (w.nodes n)
  pub messages : Each (SentKnown w.led) w.messages
  pub bases : (j : ℕ) (l : Led) → slice_get w.led j ≡ Some l → Each (λ (e : Entry). (e.log_id.leader_id ≡ l.vote.leader_id) ⊎ KnownBelow w.led j e) l.list

-- what stands at a leader that goes on, in a world that fits, is on its list
module _ (m : Membership) (some : 0 < length m.configs) (led : List Led) (w : GroupWorld) (f : IsFounded m some w) (n : ℕ) (sent : List Message) (are_sent : (x : Message) → Among x sent → Among x w.messages) (are_led : (l : Led) → Among l led → Among l w.led) where
  up_reach : (t : GroupState) → w.nodes n ≡ Up t → (lead : Lead) → t.role ≡ Leader lead → Reach led n sent t.stored
  up_reach t up lead is =
      let b = world_after m f.matches.before in
      let fits : NodeFits m b n t = (at_node m b w f.matches.fits n (Up t) up).1 in
      let u : UpFits m (b.node n) t = fits.up in
      let role : RoleFits n b t.stored.vote (held t.stored) (Leader lead) = subst (RoleFits n b t.stored.vote (held t.stored)) is fits.role in
      let whole = joined_held t.stored u.list u.joined in
      let size = joined_end t.stored u.list u.joined in
      let all = leads_all m some f.matches.before w f.matches.fits n t lead up is in
      let in_held : (e : Entry) → IsPart t.stored e → Among e (held t.stored) =
      λ e p.
      ⊎_elim
      (λ a. subst (Among e) (sym whole) (among_drop (first_place t.stored) u.list e (subst (Among e) u.joined.log a)))
      (λ a. among_front e (prefix_of t.stored.snapshot) _ a)
      p
      in
      let there : (e : Entry) → IsPart t.stored e ⊎ IsIn sent e → IsSomewhere w e =
      λ e part.
      ⊎_elim
      (λ p. IsHeld n t.stored (ap stored_of up) (among_contains (held t.stored) e (in_held e p)))
      (λ x. IsSent x.0 (among_contains w.messages x.0 (are_sent x.0 x.1)) (among_contains (entries_in x.0.body) e x.2))
      part
      in
      record {
        mine = role.0.node;
        size = ap length whole ∙ sym size;
        longest = λ l a same.
            let front = (f.matches.fits.led l (are_led l a)).front.right in
            let rank : length (b.lead (rank_of l.vote.leader_id)) ≡ end_place t.stored = ap (λ (x : LeaderId ℕ). length (b.lead (rank_of x))) same ∙ all in
            let sizes = size_same l.list in
            omega arith;
        reaches = λ e own part.
            let inside = somewhere_in_lead m some f.matches.before w f.matches.fits e (there e part) in
            let rank : length (b.lead (rank_of e.log_id.leader_id)) ≡ end_place t.stored = ap (λ (x : LeaderId ℕ). length (b.lead (rank_of x))) own ∙ all in
            omega arith;
      }

  reaches : (x : NodeState) → w.nodes n ≡ x → Reaches led n x sent
  reaches Absent is = tt
  reaches (Up t) is = up_reach t is
  reaches (Down stored) is = tt

-- ---- no leader was noted yet that an election would make one

pub has_some : (xs : List Entry) → HasMembership xs → 0 < length xs
has_some [] h = absurd (none-some _ h.1)
has_some (x ∷ xs) h = omega arith

module _ (m : Membership) (some : 0 < length m.configs) (before : List BallotEvent) (w : GroupWorld) (fits : WorldFits m (world_after m before) w) where
  abbrev b : BallotWorld
  b = world_after m before

  unled_unnoted : (leader : LeaderId ℕ) → 0 < rank_of leader → (b.led (rank_of leader) ≡ true → ⊥) → Unnoted w.led leader
  unled_unnoted leader positive unled l a same =
      let f : LedFits m b l = fits.led l a in
      let front = f.front.right in
      let some_there = has_some l.list f.has in
      let sizes = size_same l.list in
      let rank = ap (λ (x : LeaderId ℕ). length (b.lead (rank_of x))) same in
      ⊎_elim
      (λ yes. unled yes)
      (λ not_led. let none = ap length ((after_safe m some before).unled (rank_of leader) positive not_led) in absurd (omega arith))
      (cases_Bool (b.led (rank_of leader)))

  up_fresh : (n : ℕ) (s : GroupState) → n < 2 ^ 64 → NodeFits m b n s → AreFresh w.led n s
  up_fresh n s small at =
      let ballot : (b.node n).ballot ≡ rank_of s.stored.vote.leader_id = at.up.fits.ballot in
      let own = ((after_safe m some before).node n).own in
      record {
        elected =
            let next = next_leader n s in
            let later : rank_of s.stored.vote.leader_id < rank_of next = rank_below s.stored.vote.leader_id next at.up.fits.bound (by_term (omega arith)) in
            unled_unnoted next (omega arith) (λ yes. let le = (own (rank_of next) yes (owner_is next (omega arith) small)).0 in omega arith);
        granted = λ granters is.
            let role : RoleFits n b s.stored.vote (held s.stored) (Candidate granters) = subst (RoleFits n b s.stored.vote (held s.stored)) is at.role in
            let mine = role.0 in
            let leader = s.stored.vote.leader_id in (
              mine.node,
              unled_unnoted leader (let t = mine.term in omega arith)
                  (λ yes.
                  let flag = (own (rank_of leader) yes (owner_is leader mine.term at.up.fits.bound ∙ mine.node)).1 (sym ballot) in
                  let no : true ≡ false = sym flag ∙ at.up.fits.committed ∙ mine.flag in
                  cc),
            );
        flag = λ lead is.
            let role : RoleFits n b s.stored.vote (held s.stored) (Leader lead) = subst (RoleFits n b s.stored.vote (held s.stored)) is at.role in
            role.0.flag;
      }

  fresh_in : (n : ℕ) (x : NodeState) → NodeStateFits m b n x → FreshIn w.led n x
  fresh_in n Absent h = tt
  fresh_in n (Up s) h = up_fresh n s h.0 h.1
  fresh_in n (Down stored) h = tt

-- ---- event by event

module _ (m : Membership) (some : 0 < length m.configs) (before : List BallotEvent) (w : GroupWorld) (fits : WorldFits m (world_after m before) w) (h : AllKnown w) (e : WorldEvent) (stop : Bool) (k : ℕ) where
  module _ (n : ℕ) (at : NodeEvent) (known : EventKnown w.led n at) where
    abbrev pub next : GroupWorld
    next = ended w e (outcome_at n at stop (w.nodes n)) n (state_after n at (stop_at stop k) (w.nodes n))

    abbrev pub notes : List Led
    notes = led_after (outcome_at n at stop (w.nodes n)) n (state_after n at (stop_at stop k) (w.nodes n))

    pub at_left : IsFounded m some next → Left w.led n (state_after n at (stop_at stop k) (w.nodes n)) (sent_in (outcome_at n at stop (w.nodes n))) notes
    at_left f =
        let o = outcome_at n at stop (w.nodes n) in
        let state = state_after n at (stop_at stop k) (w.nodes n) in
        node_left w.led n at stop k (w.nodes n) (fresh_in m some before w fits n (w.nodes n) (fits.nodes n)) (h.nodes n) known
        (reaches m some w.led next f n (sent_in o) (λ x a. among_behind x w.messages (sent_in o) a) (λ l a. among_front l w.led notes a) state (state_here n state w.nodes))

    -- a note, old or new
    noted_base : Left w.led n (state_after n at (stop_at stop k) (w.nodes n)) (sent_in (outcome_at n at stop (w.nodes n))) notes → (j : ℕ) (l : Led) → slice_get (w.led ++ notes) j ≡ Some l → Each (λ (x : Entry). (x.log_id.leader_id ≡ l.vote.leader_id) ⊎ KnownBelow (w.led ++ notes) j x) l.list
    noted_base left j l at_j =
        ⊎_elim
        (λ old.
        each_more (λ (x : Entry). (x.log_id.leader_id ≡ l.vote.leader_id) ⊎ KnownBelow w.led j x) (λ (x : Entry). (x.log_id.leader_id ≡ l.vote.leader_id) ⊎ KnownBelow (w.led ++ notes) j x)
        (λ x a. ⊎_elim (λ own. inl own) (λ b. inr (⊎_elim (λ z. inl z) (λ o. inr (noted_more notes j (omega arith) o)) b)) a) l.list
        (h.bases j l (sym (slice_get-append w.led notes j old) ∙ at_j)))
        (λ new.
        let place : length w.led + (j - length w.led) ≡ j = omega arith in
        let there : slice_get notes (j - length w.led) ≡ Some l = sym (slice_after w.led notes (j - length w.led)) ∙ ap (slice_get (w.led ++ notes)) place ∙ at_j in
        let is = each_at (NoteKnown w.led) notes (j - length w.led) l left.notes_known there in
        each_more (λ (x : Entry). Known w.led x ⊎ OwnNew w.led is.0 l.node l.vote x) (λ (x : Entry). (x.log_id.leader_id ≡ l.vote.leader_id) ⊎ KnownBelow (w.led ++ notes) j x)
        (λ x a. ⊎_elim (λ b. inr (⊎_elim (λ z. inl z) (λ o. inr (noted_more notes j new o)) b)) (λ own. inl own.0.0) a) l.list is.1)
        (cases_lt j (length w.led))

    at_known : IsFounded m some next → AllKnown next
    at_known f =
        let o = outcome_at n at stop (w.nodes n) in
        let state = state_after n at (stop_at stop k) (w.nodes n) in
        let left = at_left f in
        record {
          nodes = λ i.
              one_node (NodeKnown (w.led ++ notes)) n i state w.nodes
              (λ same. subst (λ q. NodeKnown (w.led ++ notes) q state) (sym same) left.node)
              (λ other. node_more w.led notes i (λ l a mine. other (sym mine ∙ left.own l a)) (w.nodes i) (h.nodes i));
          messages =
              each_append (SentKnown (w.led ++ notes)) w.messages (sent_in o)
              (each_more (SentKnown w.led) (SentKnown (w.led ++ notes)) (λ x a. body_more (Known w.led) (Known (w.led ++ notes)) (known_more w.led notes) x.body a) w.messages h.messages)
              left.sent_known;
          bases = noted_base left;
        }

  abbrev pub SceneKnown : Scene → Type 0
  SceneKnown Nowhere = Unit {0}
  SceneKnown (At n at) = EventKnown w.led n at

  abbrev pub After : Scene → GroupWorld
  After scene = after_scene w e (outcome_in w stop scene) (stop_at stop k) scene

  scene_known : (scene : Scene) → SceneKnown scene → IsFounded m some (After scene) → AllKnown (After scene)
  scene_known Nowhere known f = h
  scene_known (At n at) known f = at_known n at known f

  call_known : (b : Bool) (n : ℕ) (call : _) (now : ℕ) → SceneKnown (scene_of_call b n call now)
  call_known true n call now = tt
  call_known false n call now = tt

  delivery_known : (number : ℕ) (o : Option Message) (now : ℕ) → slice_get w.messages number ≡ o → SceneKnown (scene_of_delivery o now)
  delivery_known number None now is = tt
  delivery_known number (Some x) now is = each_at (SentKnown w.led) w.messages number x h.messages is

  pub event_known : (x : WorldEvent) → SceneKnown (scene_of w x)
  event_known (Add n) = tt
  event_known (Ask n call now) = call_known (is_same_setup w.setup (setup_in_call call)) n call now
  event_known (Deliver number now) = delivery_known number (slice_get w.messages number) now refl
  event_known (Crash n) = tt
  event_known (Halt n) = tt
  event_known (Restart n) = tt

-- the note that an event leaves behind those before it is known
note_behind : (led notes : List Led) (l : Led) → led ++ notes ≡ led ++ l ∷ [] → slice_get notes 0 ≡ Some l
note_behind led notes l is =
    sym (slice_after led notes 0) ∙ ap (λ ls. slice_get ls (length led + 0)) is ∙ slice_after led (l ∷ []) 0

module _ (m : Membership) (some : 0 < length m.configs) (before : List BallotEvent) (w : GroupWorld) (fits : WorldFits m (world_after m before) w) (h : AllKnown w) (e : WorldEvent) (stop : Bool) (k : ℕ) (l : Led) where
  scene_note : (scene : Scene) → SceneKnown m some before w fits h e stop k scene → IsFounded m some (After m some before w fits h e stop k scene) → (After m some before w fits h e stop k scene).led ≡ w.led ++ l ∷ [] → NoteKnown w.led l
  scene_note Nowhere known f is =
      let size = ap length is in let more = length-append w.led (l ∷ []) in absurd (omega arith)
  scene_note (At n at) known f is =
      each_at (NoteKnown w.led) (notes m some before w fits h e stop k n at known) 0 l
      (at_left m some before w fits h e stop k n at known f).notes_known
      (note_behind w.led (notes m some before w fits h e stop k n at known) l is)

none_known : (n : ℕ) (b : Bool) → NodeKnown [] n (state_or b (Up (state_of no_group)) Absent)
none_known n true = ((tt, tt), λ lead is. absurd (let no : Follower ≡ Leader lead = is in cc))
none_known n false = tt

pub all_known : (ids : List ℕ) → AreNodeIds ids → (rs : List Recorded) (end : GroupWorld) → Replays (new_world ids) rs end → AllKnown end
all_known ids small rs end run =
    along ids AllKnown
    (λ early w past r k is h.
    let f = may_follow ids small early w past r k is in
    let stop = is_stop r.outcome in
    subst
    (λ o. IsFounded f.membership f.some (after_scene w r.event o (stop_at stop k) (scene_of w r.event)) → AllKnown (after_scene w r.event o (stop_at stop k) (scene_of w r.event)))
    (sym is)
    (scene_known f.membership f.some f.first.before w f.first.fits h r.event stop k (scene_of w r.event) (event_known f.membership f.some f.first.before w f.first.fits h r.event stop k r.event))
    f.founded_next)
    (record {
      nodes = λ n. none_known n (has_id ids n);
      messages = tt;
      bases = λ j l none. absurd (none-some _ none);
    })
    rs end run

pub new_note_known : (ids : List ℕ) → AreNodeIds ids → (rs : List Recorded) (w : GroupWorld) → Replays (new_world ids) rs w → (r : Recorded) (k : ℕ) → r.outcome ≡ outcome_of w r.event (is_stop r.outcome) → (l : Led) → (happens w r.event r.outcome k).led ≡ w.led ++ l ∷ [] → NoteKnown w.led l
new_note_known ids small rs w run r k is l one =
    let f = may_follow ids small rs w run r k is in
    let h = all_known ids small rs w run in
    let stop = is_stop r.outcome in
    subst
    (λ o. IsFounded f.membership f.some (after_scene w r.event o (stop_at stop k) (scene_of w r.event)) → (after_scene w r.event o (stop_at stop k) (scene_of w r.event)).led ≡ w.led ++ l ∷ [] → NoteKnown w.led l)
    (sym is)
    (scene_note f.membership f.some f.first.before w f.first.fits h r.event stop k l (scene_of w r.event) (event_known f.membership f.some f.first.before w f.first.fits h r.event stop k r.event))
    f.founded_next one
