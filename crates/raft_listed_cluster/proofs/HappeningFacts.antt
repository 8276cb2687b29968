-- What a step of a cluster says of the event and its node.
use Rattle.std.proofs.Common.{◌≡◌, ◌⊎◌, inl, inr, ℕ, List, Option, Some, None, IfSome, Result, Ok, Err, slice_get, refl, sym, ap, ◌∙◌, subst}
use Rattle.std.specs.List.{AllZip}
use Rattle.std.specs.Option.{option_map}
use Rattle.raft_group_step.specs.Message.{Message}
use Rattle.raft_sent_frames.specs.declared.frame.SentFrame.{SentFrame}
use Rattle.raft_cluster_conditions.specs.declared.reasons.ClusterRefusal.{ClusterRefusal}
use Rattle.raft_headline.specs.ClusterEvent.{Recorded as PlainRecord}
use Rattle.raft_cluster_laws.specs.Along.{sent_by}
use Rattle.raft_cluster_events.specs.declared.event.ClusterEvent.{ClusterEvent}
use Rattle.raft_cluster_events.specs.declared.event.ClusterEvent.TheVariants as event
use Rattle.raft_cluster_events.specs.declared.node.NodeOutcome.{NodeOutcome}
use Rattle.raft_cluster_events.specs.declared.outcome.EventOutcome.{EventOutcome}
use Rattle.raft_cluster_events.specs.declared.outcome.EventOutcome.TheVariants as outcome
use Rattle.raft_cluster_events.specs.declared.outcome.NodeRefusal.{NodeRefusal}
use Rattle.raft_cluster_events.specs.declared.outcome.Recorded.{Recorded}
use Rattle.raft_cluster_events.specs.declared.outcome.Stop.{Stop}
use Rattle.raft_cluster_events.specs.Node.{NodeActs}
use Rattle.raft_node_laws.specs.Answered.{opening_of}
use Rattle.raft_node_laws.specs.Reporting.{IsSentAs, node_behind}
use Rattle.raft_cluster_lists.specs.Hearing.{IsOpening}
use Rattle.raft_cluster.specs.Cluster.{Happens, HappensBy, Reaches, refusal_in, with_node}
use Rattle.raft_cluster.specs.Facts.{Sent, node_at, node_in, node_of}
use Rattle.raft_cluster.specs.Happening.{ComesTo, Did, Settles}
use Rattle.raft_cluster.proofs.ListLemmas.{beside, found_new, its_id}

module _ {N : Type 0} (acts : NodeActs N) (nodes : List N) (sent : Sent) (e : ClusterEvent) (o : EventOutcome) (nodes' : List N) (later : Sent) where
  abbrev pub IsAway : Type 0
  IsAway = (why : ClusterRefusal) × (o ≡ outcome.TurnedAway why)

  -- an event is turned away, or comes to its node
  pub away_or_reaches : (history : List Recorded) → Happens acts nodes sent history e o nodes' later → IsAway ⊎ Reaches acts nodes sent e o nodes' later
  away_or_reaches history happens = go (refusal_in acts nodes sent history e) happens
    where
      go : (w : Option ClusterRefusal) → HappensBy acts w nodes sent e o nodes' later → IsAway ⊎ Reaches acts nodes sent e o nodes' later
      go (Some why) away = inl (why, away.outcome)
      go None (inl r) = inr r
      go None (inr spared) = inl (spared.away, spared.turned.outcome)

  -- the node of an event that comes to it, before and behind that
  pub record IsNodeOf (id : ℕ) : Type 0 where
    pub before : N
    pub behind : N
    pub there : node_in acts nodes id ≡ Some before
    pub there_then : node_in acts nodes' id ≡ Some behind

  pub nodes_of : (id : Option ℕ) → node_of sent e ≡ id → Reaches acts nodes sent e o nodes' later → (n : ℕ) × (id ≡ Some n) × IsNodeOf n
  nodes_of None is r = let no : None ≡ Some r.before = ap (node_at acts nodes) (sym is) ∙ r.named in absurd (cc)
  nodes_of (Some n) is r =
      let there : node_in acts nodes n ≡ Some r.before = ap (node_at acts nodes) (sym is) ∙ r.named in
      let own : acts.id r.before ≡ n = its_id acts nodes n r.before there in
      let P : ℕ → Type 0 = λ m. node_in acts (with_node acts m r.behind nodes) n ≡ Some r.behind in (
        n,
        refl,
        record {
          before = r.before;
          behind = r.behind;
          there = there;
          there_then = ap (λ ns. node_in acts ns n) r.nodes ∙ subst P (sym own) (found_new acts nodes n r.behind r.before (r.comes.id ∙ own) there);
        },
      )

-- an opening isn't refused
pub opening_taken : {N : Type 0} (acts : NodeActs N) (sent : Sent) (e : ClusterEvent) (before : N) (o : EventOutcome) (later : Sent) (behind : N) → ComesTo acts sent e before o later behind
    → (why : NodeRefusal) → o ≡ outcome.Refused why → IsOpening e → ⊥
opening_taken acts sent (event.AddGroup node group) before o later behind comes why is opening = opening
opening_taken acts sent (event.Ask node group call now) before o later behind comes why is opening = opening
opening_taken acts sent (event.Deliver group number cuts now) before o later behind comes why is opening = opening
opening_taken acts sent (event.ResetPeer node peer) before o later behind comes why is opening = opening
opening_taken acts sent (event.Clean node) before o later behind comes why is opening = opening
opening_taken acts sent (event.Fuse node first_refused) before o later behind comes why is opening = opening
opening_taken acts sent (event.Crash node choice) before o later behind comes why is opening = opening
opening_taken {N = N} acts sent (event.Reopen node workers) before o later behind comes why is opening =
    go comes.answers.0 (subst (λ a. Settles acts sent (event.Reopen node workers) comes.behind a o later behind) comes.answers.2 comes.settles)
  where
    go : (r : Result (List NodeOutcome) Stop) → Settles acts sent (event.Reopen node workers) comes.behind (Did (opening_of r)) o later behind → ⊥
    go (Ok outcomes) (inl done) = let no : outcome.Done done.parts ≡ outcome.Refused why = sym done.outcome ∙ is in absurd (cc)
    go (Ok outcomes) (inr lacks) = let no : outcome.Stopped lacks.stop ≡ outcome.Refused why = sym lacks.outcome ∙ is in absurd (cc)
    go (Err stop) over_it = let no : outcome.Stopped stop ≡ outcome.Refused why = sym over_it.outcome ∙ is in absurd (cc)

-- the plain record of an event is of the event's node
module _ (spells : ℕ → Message → List ℕ → Type 0) (sent : Sent) (plain : List PlainRecord) (frames : (h : ℕ) → AllZip (IsSentAs spells h) (sent h) (sent_by h plain)) (node n : ℕ) where
  same_id : (m : ℕ) → Some m ≡ Some n → node ≡ m → node ≡ n
  same_id m is at = let same : m ≡ n = cc in at ∙ same

  pub its_node : (e : ClusterEvent) → node_of sent e ≡ Some n → IfSome (node_behind plain e) (λ m. node ≡ m) → node ≡ n
  its_node (event.AddGroup m g) is at = same_id m is at
  its_node (event.Ask m g call now) is at = same_id m is at
  its_node (event.Deliver g number cuts now) is at = go (slice_get (sent g) number) refl is
    where
      go : (w : Option SentFrame) → slice_get (sent g) number ≡ w → option_map (λ (frame : SentFrame). frame.peer) w ≡ Some n → node ≡ n
      go None none there = absurd (cc)
      go (Some frame) found there =
          let b = beside (IsSentAs spells g) (sent g) (sent_by g plain) (frames g) number frame found in
          let P : Option Message → Type 0 = λ w. IfSome (option_map (λ (m : Message). m.addressee) w) (λ m. node ≡ m) in
          same_id frame.peer there (subst P b.stands at ∙ sym b.related.addressee)
  its_node (event.ResetPeer m peer) is at = same_id m is at
  its_node (event.Clean m) is at = same_id m is at
  its_node (event.Fuse m first_refused) is at = same_id m is at
  its_node (event.Crash m choice) is at = same_id m is at
  its_node (event.Reopen m workers) is at = same_id m is at
