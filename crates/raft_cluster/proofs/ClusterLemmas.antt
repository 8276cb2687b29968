-- One event behind a history.
use Rattle.std.proofs.Common.{◌≡◌, ℕ, zero, suc, length, take, List, [], ◌∷◌, ◌++◌, Option, Some, None, inl, inr, refl, sym, ap, ◌∙◌, subst, append_assoc, append-nil, slice_get}
use Rattle.std.specs.Prelude.{slice_set}
use Rattle.std.proofs.lemmas.List.{map-append}
use Rattle.raft_sent_frames.specs.Frames.{frames_of}
use Rattle.raft_cluster_events.specs.declared.event.ClusterEvent.{ClusterEvent}
use Rattle.raft_cluster_conditions.specs.declared.reasons.ClusterRefusal.{ClusterRefusal}
use Rattle.raft_cluster_events.specs.declared.outcome.EventOutcome.{EventOutcome}
use Rattle.raft_cluster_events.specs.declared.outcome.Recorded.{Recorded}
use Rattle.raft_cluster_events.specs.Node.{NodeActs}
use Rattle.raft_cluster.specs.Facts.{Sent, node_at, node_of, place_in}
use Rattle.raft_cluster.specs.Happening.{EndsAt}
use Rattle.raft_cluster.specs.Cluster.{ClusterValue, Happens, HappensBy, IsReached, Runs, RunsTo, Steps, refusal_in, with_node}
use Rattle.raft_cluster.proofs.ListLemmas.{put_at_place}

take_of : {A : Type 0} (ys rest : List A) → take (length ys) (ys ++ rest) ≡ ys
take_of [] rest = refl
take_of (y ∷ ys) rest = ap (λ l. y ∷ l) (take_of ys rest)

-- a list is the front of its own length
pub front_of : {A : Type 0} (ys rest : List A) (n : ℕ) → n ≡ length ys → take n (ys ++ rest) ≡ ys
front_of ys rest n count = ap (λ k. take k (ys ++ rest)) count ∙ take_of ys rest

-- so many of all are those so far
pub taken_so_far : (ys rest all : List ClusterEvent) (n : ℕ) → ys ++ rest ≡ all → n ≡ length ys → take n all ≡ ys
taken_so_far ys rest all n e count = ap (take n) (sym e) ∙ front_of ys rest n count

module _ {N : Type 0} (acts : NodeActs N) where
  pub runs_on : (nodes : List N) (sent : Sent) (history records : List Recorded) (between : List N) (gone : Sent) (r : Recorded) (new : List N) (later : Sent) → RunsTo acts nodes sent history records between gone → Happens acts between gone (history ++ records) r.event r.outcome new later → RunsTo acts nodes sent history (records ++ r ∷ []) new later
  runs_on nodes sent history [] between gone r new later (same, kept) happens =
      let P : List N → Type 0 = λ b. Happens acts b gone (history ++ []) r.event r.outcome new later in
      let Q : Sent → Type 0 = λ g. Happens acts nodes g (history ++ []) r.event r.outcome new later in
      let R : List Recorded → Type 0 = λ h. Happens acts nodes sent h r.event r.outcome new later in
      (new, later, subst R (append-nil history) (subst Q kept (subst P same happens)), (refl, refl))
  runs_on nodes sent history (x ∷ xs) between gone r new later (mid, passed, first, rest) happens =
      let P : List Recorded → Type 0 = λ h. Happens acts between gone h r.event r.outcome new later in
      (mid, passed, first, runs_on mid passed (history ++ x ∷ []) xs between gone r new later rest (subst P (sym (append_assoc history (x ∷ []) xs)) happens))

  pub runs_none : (old : ClusterValue N) → Runs acts old [] old
  runs_none old = record { records = []; history = sym (append-nil old.history); events = refl; runs = (refl, refl) }

  pub runs_more : (old mid new : ClusterValue N) (events : List ClusterEvent) (event : ClusterEvent) → Runs acts old events mid → Steps acts mid event new → Runs acts old (events ++ event ∷ []) new
  runs_more old mid new events event ran h =
      let r : Recorded = record { event = event; outcome = h.outcome } in
      let P : List Recorded → Type 0 = λ l. Happens acts mid.nodes (frames_of mid.sent) l event h.outcome new.nodes (frames_of new.sent) in
      record {
        records = ran.records ++ r ∷ [];
        history = h.history ∙ ap (λ l. l ++ r ∷ []) ran.history ∙ append_assoc old.history ran.records (r ∷ []);
        events = map-append (λ (x : Recorded). x.event) ran.records (r ∷ []) ∙ ap (λ es. es ++ event ∷ []) ran.events;
        runs = runs_on old.nodes (frames_of old.sent) old.history ran.records mid.nodes (frames_of mid.sent) r new.nodes (frames_of new.sent) ran.runs (subst P ran.history h.happens);
      }

  -- where nothing changed, the same is reached
  pub still_reached : (nodes nodes' : List N) (sent sent' : Sent) (history history' : List Recorded) → nodes' ≡ nodes → sent' ≡ sent → history' ≡ history → IsReached acts nodes sent history → IsReached acts nodes' sent' history'
  still_reached nodes nodes' sent sent' history history' same_nodes same_sent same_history reached =
      let P : List N → Type 0 = λ ns. IsReached acts ns sent' history' in
      let Q : Sent → Type 0 = λ s. IsReached acts nodes s history' in
      let R : List Recorded → Type 0 = λ h. IsReached acts nodes sent h in
      subst P (sym same_nodes) (subst Q (sym same_sent) (subst R (sym same_history) reached))

  -- what stands at a place is put there once more
  pub put_same : (nodes : List N) (place : ℕ) (node : N) → slice_get nodes place ≡ Some node → slice_set nodes place node ≡ nodes
  put_same [] place node there = absurd (cc)
  put_same (x ∷ xs) zero node there = let is : x ≡ node = cc in ap (λ y. y ∷ xs) (sym is)
  put_same (x ∷ xs) (suc place) node there = ap (λ l. x ∷ l) (put_same xs place node there)

  -- an event that isn't turned away comes to the first node of its id, unless that is spared it
  pub comes_to_first : (nodes : List N) (sent later : Sent) (history : List Recorded) (event : ClusterEvent) (o : EventOutcome) (place : ℕ) (before behind : N) → refusal_in acts nodes sent history event ≡ None
      → Some place ≡ place_in acts nodes (node_of sent event) → slice_get nodes place ≡ Some before → node_at acts nodes (node_of sent event) ≡ Some before → EndsAt acts sent event before o later behind
      → Happens acts nodes sent history event o (slice_set nodes place behind) later
  comes_to_first nodes sent later history event o place before behind free first there found ends =
      let P : Option ClusterRefusal → Type 0 = λ w. HappensBy acts w nodes sent event o (slice_set nodes place behind) later in
      subst P (sym free) (go ends)
    where
      put : (w : Option ℕ) → Some place ≡ place_in acts nodes w → node_at acts nodes w ≡ Some before → slice_set nodes place behind ≡ with_node acts (acts.id before) behind nodes
      put None e at = absurd (cc)
      put (Some id) e at = put_at_place acts nodes id place behind before e at

      go : EndsAt acts sent event before o later behind → HappensBy acts None nodes sent event o (slice_set nodes place behind) later
      go (inl comes) = inl (record {
        before = before;
        behind = behind;
        named = found;
        nodes = put (node_of sent event) first found;
        comes = comes;
      })
      go (inr spared) = inr (record {
        why = spared.why;
        refused = record { node = before; named = found; refuses = spared.refuses };
        away = spared.away;
        named = spared.named;
        turned = record {
          outcome = spared.outcome;
          nodes = ap (slice_set nodes place) spared.node ∙ put_same nodes place before there;
          sends = spared.sends;
        };
      })
