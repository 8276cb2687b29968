-- One event's turn, and what a round's events leave of what is known of the others.
use Rattle.std.proofs.Common.{◌≡◌, ◌||◌, ℕ, zero, suc, eqb, Bool, true, false, cond, List, [], ◌∷◌, ◌++◌, Option, Some, None, Ok, Err, map, length, slice_get, inl, inr, refl, sym, ap, ◌∙◌, subst}
use Rattle.std.specs.Prelude.{slice_set}
use Rattle.std.specs.List.{find, list_any}
use Rattle.std.specs.Option.{option_map}
use Rattle.raft_headline.proofs.Splitting.{in_front}
use Rattle.raft_cluster_conditions.specs.declared.reasons.ClusterRefusal.{ClusterRefusal}
use Rattle.raft_cluster_conditions.specs.declared.reasons.Asked.TheVariants as asks
use Rattle.raft_cluster_conditions.specs.Refusal.{refusal_of}
use Rattle.raft_sent_frames.specs.declared.frame.SentFrame.{SentFrame}
use Rattle.raft_sent_frames.specs.Frames.{sent_by}
use Rattle.raft_cluster_events.specs.declared.event.ClusterEvent.{ClusterEvent}
use Rattle.raft_cluster_events.specs.declared.event.ClusterEvent.TheVariants.{AddGroup, Ask, Deliver, ResetPeer, Clean, Fuse, Crash, Reopen}
use Rattle.raft_cluster_events.specs.declared.node.NodeOutcome.{NodeOutcome}
use Rattle.raft_cluster_events.specs.declared.outcome.EventOutcome.{EventOutcome}
use Rattle.raft_cluster_events.specs.declared.outcome.Recorded.{Recorded}
use Rattle.raft_cluster_events.specs.Node.{NodeActs}
use Rattle.raft_cluster.specs.Cluster.{Happens, HappensBy, refusal_in}
use Rattle.raft_cluster.specs.Facts.{Sent, asked_of, cuts_of, delivered, node_at, node_of, node_there, place_in, standing_of}
use Rattle.raft_cluster.specs.Happening.{EndsAt, NodeAnswer, Did, HasCleaned, Settles}
use Rattle.raft_cluster.specs.Round.{place_by}
use Rattle.raft_cluster.specs.Sending.{sent_after, sent_after_one}
use Rattle.raft_cluster.specs.Turn.{HappensAt, HappensAtBy, refusal_for}
use Rattle.raft_cluster.proofs.ClusterLemmas.{comes_to_first, put_same}
use Rattle.raft_cluster.proofs.FactLemmas.{position_of_mapped, there_found}

-- ---- lists

pub set_at : {A : Type 0} (xs : List A) (k : ℕ) (x y : A) → slice_get xs k ≡ Some y → slice_get (slice_set xs k x) k ≡ Some x
set_at [] k x y e = absurd (cc)
set_at (z ∷ zs) zero x y e = refl
set_at (z ∷ zs) (suc k) x y e = set_at zs k x y e

pub set_other : {A : Type 0} (xs : List A) (j k : ℕ) (x : A) → (j ≡ k → ⊥) → slice_get (slice_set xs k x) j ≡ slice_get xs j
set_other [] j k x other = refl
set_other (z ∷ zs) zero zero x other = absurd (other refl)
set_other (z ∷ zs) zero (suc k) x other = refl
set_other (z ∷ zs) (suc j) zero x other = refl
set_other (z ∷ zs) (suc j) (suc k) x other = set_other zs j k x (λ e. other (ap suc e))

pub set_same : {A : Type 0} (xs : List A) (k : ℕ) (x : A) → slice_get xs k ≡ Some x → slice_set xs k x ≡ xs
set_same [] k x e = absurd (cc)
set_same (z ∷ zs) zero x e = let is : z ≡ x = cc in ap (λ y. y ∷ zs) (sym is)
set_same (z ∷ zs) (suc k) x e = ap (λ l. z ∷ l) (set_same zs k x e)

pub none_any : {A : Type 0} (p : A → Bool) (xs : List A) (k : ℕ) (x : A) → list_any p xs ≡ false → slice_get xs k ≡ Some x → p x ≡ false
none_any p [] k x none e = absurd (cc)
none_any p (z ∷ zs) zero x none e = let same : z ≡ x = cc in go (p z) (ap p same) none
  where
    go : (b : Bool) → b ≡ p x → (b || list_any p zs) ≡ false → p x ≡ false
    go true is h = absurd (cc)
    go false is h = sym is
none_any p (z ∷ zs) (suc k) x none e = none_any p zs k x (go (p z) none) e
  where
    go : (b : Bool) → (b || list_any p zs) ≡ false → list_any p zs ≡ false
    go true h = absurd (cc)
    go false h = h

-- ---- nodes and places

pub found_passes : {A : Type 0} (p : A → Bool) (xs : List A) (x : A) → find p xs ≡ Some x → p x ≡ true
found_passes p [] x e = absurd (cc)
found_passes p (z ∷ zs) x e = go (p z) refl (found_passes p zs x) e
  where
    go : (b : Bool) → p z ≡ b → (find p zs ≡ Some x → p x ≡ true) → cond b (Some z) (find p zs) ≡ Some x → p x ≡ true
    go true is more at = let same : z ≡ x = cc in ap p (sym same) ∙ is
    go false is more at = more at

module _ {N : Type 0} (acts : NodeActs N) where
  pub by_ids : (nodes : List N) (w : Option ℕ) → place_in acts nodes w ≡ place_by (map acts.id nodes) w
  by_ids nodes None = refl
  by_ids nodes (Some id) = position_of_mapped acts.id (λ i. eqb i id) nodes

  pub found_at : (nodes : List N) (w : Option ℕ) (place : ℕ) (node : N) → place_in acts nodes w ≡ Some place → slice_get nodes place ≡ Some node → node_at acts nodes w ≡ Some node
  found_at nodes None place node first there = absurd (cc)
  found_at nodes (Some id) place node first there =
      sym (there_found (λ n. eqb (acts.id n) id) nodes) ∙ ap (node_there nodes) first ∙ there

  pub found_nowhere : (nodes : List N) (w : Option ℕ) → place_in acts nodes w ≡ None → node_at acts nodes w ≡ None
  found_nowhere nodes None first = refl
  found_nowhere nodes (Some id) first = sym (there_found (λ n. eqb (acts.id n) id) nodes) ∙ ap (node_there nodes) first

  pub its_own : (nodes : List N) (id place : ℕ) (node : N) → place_in acts nodes (Some id) ≡ Some place → slice_get nodes place ≡ Some node → eqb (acts.id node) id ≡ true
  its_own nodes id place node first there = found_passes (λ n. eqb (acts.id n) id) nodes node (found_at nodes (Some id) place node first there)

  -- ---- an event at its node is one of the cluster

  pub id_at : (before behind : N) (sent later : Sent) (history : List Recorded) (event : ClusterEvent) (o : EventOutcome) → HappensAt acts before sent history event o later behind → acts.id behind ≡ acts.id before
  id_at before behind sent later history event o = go (refusal_for acts before sent history event)
    where
      ends : EndsAt acts sent event before o later behind → acts.id behind ≡ acts.id before
      ends (inl comes) = comes.id
      ends (inr spared) = ap acts.id spared.node

      go : (w : Option ClusterRefusal) → HappensAtBy acts w before sent event o later behind → acts.id behind ≡ acts.id before
      go (Some why) h = ap acts.id h.node
      go None h = ends h

  pub happens_there : (nodes : List N) (sent later : Sent) (history : List Recorded) (event : ClusterEvent) (o : EventOutcome) (place : ℕ) (before behind : N)
      → place_in acts nodes (node_of sent event) ≡ Some place → slice_get nodes place ≡ Some before → HappensAt acts before sent history event o later behind
      → Happens acts nodes sent history event o (slice_set nodes place behind) later
  happens_there nodes sent later history event o place before behind first there =
      go (refusal_for acts before sent history event) refl
    where
      found : node_at acts nodes (node_of sent event) ≡ Some before
      found = found_at nodes (node_of sent event) place before first there

      same : refusal_in acts nodes sent history event ≡ refusal_for acts before sent history event
      same = ap (λ n. refusal_of (standing_of acts n) (asked_of history sent event) (cuts_of event)) found

      go : (w : Option ClusterRefusal) → refusal_for acts before sent history event ≡ w → HappensAtBy acts w before sent event o later behind → Happens acts nodes sent history event o (slice_set nodes place behind) later
      go (Some why) is h =
          let P : Option ClusterRefusal → Type 0 = λ v. HappensBy acts v nodes sent event o (slice_set nodes place behind) later in
          subst P (sym (same ∙ is)) (record { outcome = h.outcome; nodes = ap (slice_set nodes place) h.node ∙ put_same acts nodes place before there; sends = h.sends })
      go None is h = comes_to_first acts nodes sent later history event o place before behind (same ∙ is) (sym first) there found h

-- ---- frames stay

abbrev pub Grows : Sent → Sent → Type 0
Grows sent later = (group k : ℕ) (frame : SentFrame) → slice_get (sent group) k ≡ Some frame → slice_get (later group) k ≡ Some frame

after_one : (sent : Sent) (sender : ℕ) (o : NodeOutcome) → Grows sent (sent_after_one sent sender o)
after_one sent sender o group k frame e = go (eqb o.group group)
  where
    go : (b : Bool) → slice_get (cond b (sent group ++ sent_by sender o.frames) (sent group)) k ≡ Some frame
    go true = in_front (sent group) (sent_by sender o.frames) k frame e
    go false = e

after_all : (sent : Sent) (sender : ℕ) (os : List NodeOutcome) → Grows sent (sent_after sent sender os)
after_all sent sender [] group k frame e = e
after_all sent sender (o ∷ os) group k frame e = after_all (sent_after_one sent sender o) sender os group k frame (after_one sent sender o group k frame e)

as_it_was : (sent later : Sent) → ((group : ℕ) → later group ≡ sent group) → Grows sent later
as_it_was sent later same group k frame e = ap (λ frames. slice_get frames k) (same group) ∙ e

module _ {N : Type 0} (acts : NodeActs N) where
  settled : (sent later : Sent) (event : ClusterEvent) (old new : N) (answered : NodeAnswer) (o : EventOutcome) → Settles acts sent event old answered o later new → Grows sent later
  settled sent later event old new (Did (Ok outcomes)) o (inl done) group k frame e =
      ap (λ frames. slice_get frames k) (done.sends.sends group) ∙ after_all sent (acts.id old) outcomes group k frame e
  settled sent later event old new (Did (Ok outcomes)) o (inr lacks) group k frame e = as_it_was sent later lacks.sends group k frame e
  settled sent later event old new (Did (Err error)) o over group k frame e = as_it_was sent later over.sends group k frame e
  settled sent later event old new (HasCleaned r) o over group k frame e = as_it_was sent later over.sends group k frame e

  pub grows : (nodes new : List N) (sent later : Sent) (history : List Recorded) (event : ClusterEvent) (o : EventOutcome) → Happens acts nodes sent history event o new later → Grows sent later
  grows nodes new sent later history event o = go (refusal_in acts nodes sent history event)
    where
      same : later ≡ sent → Grows sent later
      same is = as_it_was sent later (λ g. ap (λ (s : Sent). s g) is)

      go : (w : Option ClusterRefusal) → HappensBy acts w nodes sent event o new later → Grows sent later
      go (Some why) h = same h.sends
      go None (inl reaches) = settled sent later event reaches.comes.behind reaches.behind reaches.comes.answered o reaches.comes.settles
      go None (inr spared) = same spared.turned.sends

-- what an event says of frames that were sent
pub record SameFrame (sent later : Sent) (event : ClusterEvent) : Type 0 where
  pub node : node_of later event ≡ node_of sent event
  pub frame : delivered later event ≡ delivered sent event
  pub asked : (history : List Recorded) → asked_of history later event ≡ asked_of history sent event

pub same_frame : (sent later : Sent) (event : ClusterEvent) (id : ℕ) → Grows sent later → node_of sent event ≡ Some id → SameFrame sent later event
same_frame sent later (AddGroup node group) id grows e = record { node = refl; frame = refl; asked = λ h. refl }
same_frame sent later (Ask node group call now) id grows e = record { node = refl; frame = refl; asked = λ h. refl }
same_frame sent later (ResetPeer node peer) id grows e = record { node = refl; frame = refl; asked = λ h. refl }
same_frame sent later (Clean node) id grows e = record { node = refl; frame = refl; asked = λ h. refl }
same_frame sent later (Fuse node first_refused) id grows e = record { node = refl; frame = refl; asked = λ h. refl }
same_frame sent later (Crash node choice) id grows e = record { node = refl; frame = refl; asked = λ h. refl }
same_frame sent later (Reopen node workers) id grows e = record { node = refl; frame = refl; asked = λ h. refl }
same_frame sent later (Deliver group number cuts now) id grows e =
    let same : slice_get (later group) number ≡ slice_get (sent group) number = there (slice_get (sent group) number) refl e in
    record {
      node = ap (option_map (λ (frame : SentFrame). frame.peer)) same;
      frame = same;
      asked = λ h. ap (λ w. asks.Delivery (option_map (λ (frame : SentFrame). length frame.bytes) w)) same;
    }
  where
    there : (w : Option SentFrame) → slice_get (sent group) number ≡ w → option_map (λ (frame : SentFrame). frame.peer) w ≡ Some id → slice_get (later group) number ≡ slice_get (sent group) number
    there None is none = absurd (cc)
    there (Some frame) is some = grows group number frame is ∙ sym is
