-- What the events of a round leave as it is: the nodes that they aren't for, and frames that were sent.
use Rattle.std.proofs.Common.{◌≡◌, ◌||◌, inl, inr, ℕ, eqb, Bool, true, false, List, [], ◌∷◌, ◌++◌, Option, Some, None, slice_get, refl, sym, ap, ◌∙◌, arith}
use Rattle.std.specs.List.{AllByRecursion, list_any}
use Rattle.raft_cluster_conditions.specs.declared.reasons.ClusterRefusal.{ClusterRefusal}
use Rattle.raft_cluster_events.specs.declared.event.ClusterEvent.{ClusterEvent}
use Rattle.raft_cluster_events.specs.declared.outcome.EventOutcome.{EventOutcome}
use Rattle.raft_cluster_events.specs.declared.outcome.Recorded.{Recorded}
use Rattle.raft_cluster_events.specs.Node.{NodeActs}
use Rattle.raft_cluster.specs.Cluster.{Happens, HappensBy, Reaches, RunsTo, events_of, refusal_in}
use Rattle.raft_cluster.specs.Facts.{Sent, node_at, node_in, node_of}
use Rattle.raft_cluster.specs.Round.{is_for, is_round, is_that}
use Rattle.raft_cluster.proofs.ListLemmas.{found_other, its_id}
use Rattle.raft_cluster.proofs.RoundLemmas.{first_of_round}
use Rattle.raft_cluster.proofs.TurnLemmas.{Grows, grows, same_frame}

none_of_fewer : (p : ClusterEvent → Bool) (e : ClusterEvent) (es : List ClusterEvent) → list_any p (e ∷ es) ≡ false → (p e ≡ false) × (list_any p es ≡ false)
none_of_fewer p e es none = go (p e) refl none
  where
    go : (b : Bool) → p e ≡ b → (b || list_any p es) ≡ false → (p e ≡ false) × (list_any p es ≡ false)
    go true is h = absurd (cc)
    go false is h = (is, h)

-- the event is for a node, but not for this one
pub record IsElsewhere (sent : Sent) (n : ℕ) (event : ClusterEvent) : Type 0 where
  pub node : ℕ
  pub named : node_of sent event ≡ Some node
  pub other : eqb node n ≡ false

-- the events behind the first of a round are for other nodes
pub all_elsewhere : (sent : Sent) (n : ℕ) (events : List ClusterEvent) → is_round sent events ≡ true → list_any (is_for sent n) events ≡ false → AllByRecursion (IsElsewhere sent n) events
all_elsewhere sent n [] round none = tt
all_elsewhere sent n (e ∷ es) round none =
    let f = first_of_round sent e es round in
    let (this, others) = none_of_fewer (is_for sent n) e es none in (
      record { node = f.id; named = f.node; other = ap (λ w. is_that w n) (sym f.node) ∙ this },
      all_elsewhere sent n es f.round others,
    )

-- ---- nodes

module _ {N : Type 0} (acts : NodeActs N) where
  apart : (n m id : ℕ) → id ≡ m → eqb m n ≡ false → eqb n id ≡ false
  apart n m id is other = grind arith

  -- an event that is for another node leaves this one
  pub leaves : (n : ℕ) (nodes new : List N) (sent later : Sent) (history : List Recorded) (e : ClusterEvent) (o : EventOutcome) → IsElsewhere sent n e → Happens acts nodes sent history e o new later → node_in acts new n ≡ node_in acts nodes n
  leaves n nodes new sent later history e o else happens = go (refusal_in acts nodes sent history e) happens
    where
      there : Reaches acts nodes sent e o new later → node_in acts new n ≡ node_in acts nodes n
      there r =
          let found : node_in acts nodes else.node ≡ Some r.before = ap (node_at acts nodes) (sym else.named) ∙ r.named in
          let own : acts.id r.before ≡ else.node = its_id acts nodes else.node r.before found in
          ap (λ ns. node_in acts ns n) r.nodes ∙ found_other acts nodes (acts.id r.before) n r.behind r.comes.id (apart n else.node (acts.id r.before) own else.other)

      go : (w : Option ClusterRefusal) → HappensBy acts w nodes sent e o new later → node_in acts new n ≡ node_in acts nodes n
      go (Some why) away = ap (λ ns. node_in acts ns n) away.nodes
      go None (inl r) = there r
      go None (inr spared) = ap (λ ns. node_in acts ns n) spared.turned.nodes

  -- so it is of an event whose frame was sent before
  elsewhere_later : (n : ℕ) (first sent : Sent) (e : ClusterEvent) → Grows first sent → IsElsewhere first n e → IsElsewhere sent n e
  elsewhere_later n first sent e more else =
      record { node = else.node; named = (same_frame first sent e else.node more else.named).node ∙ else.named; other = else.other }

  pub grows_on : (one two three : Sent) → Grows one two → Grows two three → Grows one three
  grows_on one two three first then group k frame e = then group k frame (first group k frame e)

  -- records lose no frame
  pub all_grow : (nodes new : List N) (sent later : Sent) (history records : List Recorded) → RunsTo acts nodes sent history records new later → Grows sent later
  all_grow nodes new sent later history [] (same, kept) group k frame e = ap (λ (s : Sent). slice_get (s group) k) kept ∙ e
  all_grow nodes new sent later history (r ∷ rs) (mid, gone, happens, rest) group k frame e =
      all_grow mid new gone later (history ++ r ∷ []) rs rest group k frame (grows acts nodes mid sent gone history r.event r.outcome happens group k frame e)

  -- a node is behind a round what it is behind its own event: the events of others leave it
  pub others_leave : (n : ℕ) (first : Sent) (nodes new : List N) (sent later : Sent) (history records : List Recorded) → Grows first sent → AllByRecursion (IsElsewhere first n) (events_of records)
      → RunsTo acts nodes sent history records new later → node_in acts new n ≡ node_in acts nodes n
  others_leave n first nodes new sent later history [] more all (same, kept) = ap (λ ns. node_in acts ns n) same
  others_leave n first nodes new sent later history (r ∷ rs) more all (mid, gone, happens, rest) =
      others_leave n first mid new gone later (history ++ r ∷ []) rs (grows_on first sent gone more (grows acts nodes mid sent gone history r.event r.outcome happens)) all.1 rest
      ∙ leaves n nodes mid sent gone history r.event r.outcome (elsewhere_later n first sent r.event more all.0) happens
