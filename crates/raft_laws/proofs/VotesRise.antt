-- No event of a history lowers a node's vote.
use Rattle.std.specs.Prelude.{◌≡◌, ◌⊎◌, ℕ, zero, suc, ◌<◌, ◌≤◌, ◌==◌, Bool, true, false, List, [], ◌∷◌, take, length, Option, Some, None, refl}
use Rattle.std.proofs.Common.{inl, inr, sym, ap, ◌∙◌, subst, arith, take_all, eqb-true}
use Rattle.std.proofs.lemmas.Bool.{false_from_ne_true}
use Rattle.raft_values.specs.declared.vote.Vote.{Vote}
use Rattle.raft_group_step.specs.Values.{vote_lt}
use Rattle.raft_group_step.specs.StoredGroup.{StoredGroup, StoringCommand, MakeGroup, SetVote, PutEntries, CutFrom, RemoveUpTo, SetSnapshot, StartAfter, after_storing, after_storing_all}
use Rattle.raft_group_step.specs.GroupState.{GroupState, state_of}
use Rattle.raft_group_step.specs.GroupEvent.{GroupEvent, Open}
use Rattle.raft_group_step.specs.GroupStep.{group_step}
use Rattle.raft_group_step.proofs.Votes.{not_below_itself}
use Rattle.raft_laws.specs.GroupWorld.{GroupWorld, NodeState, Absent, Up, Down, Recorded, Outcome, is_stop, state_or}
use Rattle.raft_laws.specs.declared.world_event.WorldEvent.{WorldEvent}
use Rattle.raft_laws.specs.NodeEvent.{NodeEvent, Comes, Crashes, Halts, Restarts, after_step, state_after}
use Rattle.raft_laws.specs.GroupRun.{Scene, Nowhere, At, Replays, happens, after_scene, scene_of, stop_at}
use Rattle.raft_laws.specs.StoringOrder.{KeepsVoteAndCommitted, AllKeep}
use Rattle.raft_laws.specs.VotesRise.{stored_of, VoteKept}
use Rattle.raft_laws.proofs.VoteOrders.{LeaderBelow, by_term, by_node, VoteOrder, lower, earlier, level, later, higher, vote_order, differ_flags}
use Rattle.raft_laws.proofs.StepOrder.{step-keeps}

abbrev flag : Bool → ℕ
flag true = 1
flag false = 0

-- one vote is below another, in the words of numbers
abbrev Below : Vote ℕ → Vote ℕ → Type 0
Below a b =
    (a.leader_id.term < b.leader_id.term)
    ⊎ ((a.leader_id.term ≡ b.leader_id.term)
    × ((a.leader_id.node_id < b.leader_id.node_id)
    ⊎ ((a.leader_id.node_id ≡ b.leader_id.node_id) × (flag a.committed < flag b.committed))))

abbrev AtMost : Vote ℕ → Vote ℕ → Type 0
AtMost a b =
    (a.leader_id.term < b.leader_id.term)
    ⊎ ((a.leader_id.term ≡ b.leader_id.term)
    × ((a.leader_id.node_id < b.leader_id.node_id)
    ⊎ ((a.leader_id.node_id ≡ b.leader_id.node_id) × (flag a.committed ≤ flag b.committed))))

by_leader : (a b : Vote ℕ) → LeaderBelow a.leader_id b.leader_id → Below a b
by_leader a b (by_term l) = inl l
by_leader a b (by_node e l) = inr (e, inl l)

leader_at_most : (a b : Vote ℕ) → LeaderBelow a.leader_id b.leader_id → AtMost a b
leader_at_most a b (by_term l) = inl l
leader_at_most a b (by_node e l) = inr (e, inl l)

is_below : (a b : Vote ℕ) → vote_lt a b ≡ true → Below a b
is_below a b t = go (vote_order a b)
  where
    go : VoteOrder a b → Below a b
    go (lower l o) = by_leader a b l
    go (earlier e f p q o) = let x = ap flag p in let y = ap flag q in inr (e, inr (f, omega arith))
    go (level e f p o) = differ_flags (vote_lt a b) t o
    go (later e f p q o) = differ_flags (vote_lt a b) t o
    go (higher l o) = differ_flags (vote_lt a b) t o

is_at_most : (a b : Vote ℕ) → vote_lt a b ≡ false → AtMost b a
is_at_most a b t = go (vote_order a b)
  where
    go : VoteOrder a b → AtMost b a
    go (lower l o) = differ_flags (vote_lt a b) o t
    go (earlier e f p q o) = differ_flags (vote_lt a b) o t
    go (level e f p o) = let x = ap flag p in inr (sym e, inr (sym f, omega arith))
    go (later e f p q o) = let x = ap flag p in let y = ap flag q in inr (sym e, inr (sym f, omega arith))
    go (higher l o) = leader_at_most b a l

pub not_below_again : (a b c : Vote ℕ) → vote_lt b a ≡ false → vote_lt c b ≡ false → vote_lt c a ≡ false
not_below_again a b c h k =
    false_from_ne_true (vote_lt c a)
    (λ t. let x = is_at_most b a h in let y = is_at_most c b k in let z = is_below c a t in omega (arith, x, y, z))

one_keeps : (committed : Option ℕ) (s : StoredGroup) (c : StoringCommand) → KeepsVoteAndCommitted committed s c → vote_lt (after_storing c s).vote s.vote ≡ false
one_keeps committed s MakeGroup h = not_below_itself s.vote
one_keeps committed s (SetVote vote) h = h
one_keeps committed s (PutEntries place entries) h = not_below_itself s.vote
one_keeps committed s (CutFrom place) h = not_below_itself s.vote
one_keeps committed s (RemoveUpTo id) h = not_below_itself s.vote
one_keeps committed s (SetSnapshot snapshot) h = not_below_itself s.vote
one_keeps committed s (StartAfter id) h = not_below_itself s.vote

first_keep : (committed : Option ℕ) (s : StoredGroup) (cs : List StoringCommand) (k : ℕ) → AllKeep committed s cs → vote_lt (after_storing_all (take k cs) s).vote s.vote ≡ false
first_keep committed s cs zero h = not_below_itself s.vote
first_keep committed s [] (suc k) h = not_below_itself s.vote
first_keep committed s (c ∷ cs) (suc k) h =
    not_below_again s.vote (after_storing c s).vote (after_storing_all (take k cs) (after_storing c s)).vote
    (one_keeps committed s c h.0)
    (first_keep committed (after_storing c s) cs k h.1)

same_stored : (x y : StoredGroup) → x ≡ y → vote_lt y.vote x.vote ≡ false
same_stored x y e = subst (λ z. vote_lt z.vote x.vote ≡ false) e (not_below_itself x.vote)

-- a state stays
stays : (old : NodeState) → VoteKept old old
stays old = record { kept = λ a e. (a, e, not_below_itself a.vote) }

-- a stored group with another vote
gives : (old new : NodeState) (a b : StoredGroup) → stored_of old ≡ Some a → stored_of new ≡ Some b → vote_lt b.vote a.vote ≡ false → VoteKept old new
gives old new a b e f h =
    record {
      kept = λ x g. let same : Some a ≡ Some x = sym e ∙ g in let is : a ≡ x = cc in (b, f, subst (λ y. vote_lt b.vote y.vote ≡ false) is h);
    }

step_gives : (own : ℕ) (old : NodeState) (s : GroupState) (e : GroupEvent) (stop : Option ℕ) → stored_of old ≡ Some s.stored → VoteKept old (after_step stop s (group_step own s e))
step_gives own old s e None q =
    let keeps = step-keeps own s e in
    let r = group_step own s e in
    let all : after_storing_all (take (length r.commands) r.commands) s.stored ≡ r.state.stored =
    ap (λ cs. after_storing_all cs s.stored) (take_all (length r.commands) r.commands (omega arith)) ∙ sym keeps.stored
    in
    gives old (Up r.state) s.stored r.state.stored q refl
    (subst (λ x. vote_lt x.vote s.stored.vote ≡ false) all (first_keep s.committed s.stored r.commands (length r.commands) keeps.all))
step_gives own old s e (Some k) q =
    let keeps = step-keeps own s e in
    gives old _ s.stored _ q refl (first_keep s.committed s.stored (group_step own s e).commands k keeps.all)

event_gives : (n : ℕ) (e : NodeEvent) (stop : Option ℕ) (old : NodeState) → VoteKept old (state_after n e stop old)
event_gives n e stop Absent = stays Absent
event_gives n (Comes e) stop (Up s) = step_gives n (Up s) s e stop refl
event_gives n Crashes stop (Up s) = gives (Up s) (Down s.stored) s.stored s.stored refl refl (not_below_itself s.stored.vote)
event_gives n Halts stop (Up s) = gives (Up s) (Down s.stored) s.stored s.stored refl refl (not_below_itself s.stored.vote)
event_gives n Restarts stop (Up s) = stays (Up s)
event_gives n (Comes e) stop (Down stored) = stays (Down stored)
event_gives n Crashes stop (Down stored) = stays (Down stored)
event_gives n Halts stop (Down stored) = stays (Down stored)
event_gives n Restarts stop (Down stored) = step_gives n (Down stored) (state_of stored) Open stop refl

one_of : (b : Bool) (old new : NodeState) → (b ≡ true → VoteKept old new) → VoteKept old (state_or b new old)
one_of true old new h = h refl
one_of false old new h = stays old

pub scene_gives : (w : GroupWorld) (e : WorldEvent) (o : Outcome) (stop : Option ℕ) (scene : Scene) (n : ℕ) → VoteKept (w.nodes n) ((after_scene w e o stop scene).nodes n)
scene_gives w e o stop Nowhere n = stays (w.nodes n)
scene_gives w e o stop (At node at_node) n =
    one_of (n == node) (w.nodes n) (state_after node at_node stop (w.nodes node))
    (λ t. subst (λ m. VoteKept (w.nodes m) (state_after node at_node stop (w.nodes node))) (sym (eqb-true n node t)) (event_gives node at_node stop (w.nodes node)))

then : {a b c : NodeState} → VoteKept a b → VoteKept b c → VoteKept a c
then h k =
    record {
      kept = λ x e.
          let one = h.kept x e in
          let two = k.kept one.0 one.1 in
          (two.0, two.1, not_below_again x.vote (one.0).vote (two.0).vote one.2 two.2);
    }

pub votes_rise : (w end : GroupWorld) (rs : List Recorded) → Replays w rs end → (n : ℕ) → VoteKept (w.nodes n) (end.nodes n)
votes_rise w end [] h n = subst (λ v. VoteKept (w.nodes n) (v.nodes n)) (sym h) (stays (w.nodes n))
votes_rise w end (r ∷ rs) h n =
    then
    (scene_gives w r.event r.outcome (stop_at (is_stop r.outcome) (h.1).0) (scene_of w r.event) n)
    (votes_rise (happens w r.event r.outcome (h.1).0) end rs (h.1).1 n)
