-- An event behind a fuse.
use Rattle.std.proofs.Common.{◌≡◌, ℕ, ◌+◌, ◌<◌, length, get_or, List, [], ◌∷◌, ◌++◌, Bool, true, false, Option, Some, None, Result, Ok, Err, OnErr, refl, sym, ap, ◌∙◌, subst, arith, length-append}
use Rattle.std.proofs.Math.ListN.{get_or-append}
use Rattle.std.proofs.Math.Seq.{get_or-append_seam}
use Rattle.raft_sent_frames.specs.Frames.{frames_of}
use Rattle.raft_cluster_conditions.specs.declared.reasons.Asked.{Asked}
use Rattle.raft_cluster_conditions.specs.declared.reasons.Asked.TheVariants as asks
use Rattle.raft_cluster_conditions.specs.declared.reasons.ClusterRefusal.{ClusterRefusal}
use Rattle.raft_cluster_conditions.specs.declared.reasons.ClusterRefusal.TheVariants.{NoFrame, NoNode}
use Rattle.raft_cluster_conditions.specs.declared.reasons.NodeStanding.TheVariants.{Missing}
use Rattle.raft_cluster_conditions.specs.Refusal.{refusal_of}
use Rattle.raft_cluster_events.specs.declared.event.ClusterEvent.{ClusterEvent}
use Rattle.raft_cluster_events.specs.declared.event.CrashChoice.{CrashChoice}
use Rattle.raft_cluster_events.specs.declared.outcome.Recorded.{Recorded}
use Rattle.raft_cluster_events.specs.Node.{NodeActs}
use Rattle.raft_cluster.specs.Facts.{asked_of, cuts_of, node_at, node_of, standing_of}
use Rattle.raft_cluster.specs.Cluster.{ClusterValue, HappensBy, Runs, Steps}
use Rattle.raft_cluster.specs.Fused.{EndsCut, RunsShort, StepsFused, StepsNowhere, is_cut, outcome_of, place_behind}
use Rattle.raft_cluster.proofs.ClusterLemmas.{front_of}

-- what holds anyway holds at an error
pub on_err : {T E P : Type 0} (r : Result T E) → P → OnErr r P
on_err (Ok x) holds = tt
on_err (Err e) holds = holds

-- without its node, whatever is asked is refused
refused_nowhere : (asked : Asked) (cuts : List ℕ) → (why : ClusterRefusal) × (refusal_of Missing asked cuts ≡ Some why)
refused_nowhere asks.Call cuts = (NoNode, refl)
refused_nowhere (asks.SetUp differs) cuts = (NoNode, refl)
refused_nowhere (asks.Delivery None) cuts = (NoFrame, refl)
refused_nowhere (asks.Delivery (Some length)) cuts = (NoNode, refl)
refused_nowhere asks.Fuse cuts = (NoNode, refl)
refused_nowhere asks.Crash cuts = (NoNode, refl)
refused_nowhere asks.Reopen cuts = (NoNode, refl)

module _ {N : Type 0} (acts : NodeActs N) where
  -- an event for no node is turned away
  never_cut : (old new : ClusterValue N) (event : ClusterEvent) (steps : Steps acts old event new) → node_of (frames_of old.sent) event ≡ None → is_cut steps.outcome ≡ false
  never_cut old new event steps nobody =
      let sent = frames_of old.sent in
      let asked = asked_of old.history sent event in
      let refused = refused_nowhere asked (cuts_of event) in
      let P : Option ℕ → Type 0 = λ w. HappensBy acts (refusal_of (standing_of acts (node_at acts old.nodes w)) asked (cuts_of event)) old.nodes sent event steps.outcome new.nodes (frames_of new.sent) in
      let Q : Option ClusterRefusal → Type 0 = λ why. HappensBy acts why old.nodes sent event steps.outcome new.nodes (frames_of new.sent) in
      let turned = subst Q refused.1 (subst P nobody steps.happens) in
      ap is_cut turned.outcome

  pub steps_nowhere : (old new : ClusterValue N) (event : ClusterEvent) → Steps acts old event new → node_of (frames_of old.sent) event ≡ None → StepsNowhere acts old event false new
  steps_nowhere old new event steps nobody =
      record { happens = steps; is = sym (never_cut old new event steps nobody); never = refl }

  -- these happened, and not the next one
  pub short_behind : (old mid new : ClusterValue N) (done rest : List ClusterEvent) (next : ClusterEvent) → Runs acts old done mid → new ≡ mid → RunsShort acts old (done ++ next ∷ rest) new
  short_behind old mid new done rest next ran same =
      let P : List ClusterEvent → Type 0 = λ es. Runs acts old es mid in
      let Q : ClusterValue N → Type 0 = λ v. RunsShort acts old (done ++ next ∷ rest) v in
      subst Q (sym same) (record {
        count = length done;
        short = omega (arith, length-append done (next ∷ rest));
        runs = subst P (sym (front_of done (next ∷ rest) (length done) refl)) ran;
      })

  -- what stands at the end behind an event is its record
  pub outcome_there : (old new : ClusterValue N) (event : ClusterEvent) (steps : Steps acts old event new) (d : Recorded) (all : List Recorded) (at : ℕ) → all ≡ new.history → at ≡ length old.history
      → (get_or all at d).outcome ≡ steps.outcome
  outcome_there old new event steps d all at whole place =
      let r : Recorded = record { event = event; outcome = steps.outcome } in
      ap (λ (s : Recorded). s.outcome) (ap (λ l. get_or l at d) (whole ∙ steps.history) ∙ ap (λ n. get_or (old.history ++ r ∷ []) n d) place ∙ get_or-append_seam old.history r [] d)

  -- one more stands there
  one_more : (old new : ClusterValue N) (event : ClusterEvent) → Steps acts old event new → length new.history ≡ length old.history + 1
  one_more old new event steps =
      ap length steps.history ∙ length-append old.history (record { event = event; outcome = steps.outcome } ∷ [])

  -- what stood there before stays
  still_there : (old new : ClusterValue N) (event : ClusterEvent) → Steps acts old event new → (d : Recorded) (at : ℕ) → at < length old.history → get_or new.history at d ≡ get_or old.history at d
  still_there old new event steps d at within =
      ap (λ l. get_or l at d) steps.history ∙ get_or-append old.history (record { event = event; outcome = steps.outcome } ∷ []) d at within

  -- so it does where a machine stops
  still_behind : (cut : Bool) (node : ℕ) (choice : CrashChoice) (old new : ClusterValue N) → EndsCut acts cut node choice old new → (d : Recorded) (at : ℕ) → at < length old.history
      → (at < length new.history) × (get_or new.history at d ≡ get_or old.history at d)
  still_behind true node choice old new ends d at within =
      let more = one_more old new _ ends in (omega arith, still_there old new _ ends d at within)
  still_behind false node choice old new ends d at within =
      let same = ap (λ (v : ClusterValue N). length v.history) ends in (omega arith, ap (λ (v : ClusterValue N). get_or v.history at d) ends)

  -- the event's own record stands behind that of the fuse
  pub own_there : (node : Option ℕ) (first : ℕ) (choice : CrashChoice) (old : ClusterValue N) (event : ClusterEvent) (cut : Bool) (new : ClusterValue N) (steps : StepsFused acts node first choice old event cut new) (d : Recorded)
      → (place_behind node (length old.history) < length new.history)
      × ((get_or new.history (place_behind node (length old.history)) d).outcome ≡ outcome_of acts node first choice old event cut new steps)
  own_there None first choice old event cut new steps d =
      let more = one_more old new event steps.happens in (omega arith, outcome_there old new event steps.happens d new.history (length old.history) refl refl)
  own_there (Some node) first choice old event cut new steps d =
      let at : ℕ = length old.history + 1 in
      let fused = one_more old steps.fused _ steps.fuse in
      let behind = one_more steps.fused steps.behind event steps.happens in
      let lifted = one_more steps.behind steps.lifted _ steps.lift in
      let ends = still_behind cut node choice steps.lifted new steps.ends d at (omega arith) in (
        ends.0,
        ap (λ (r : Recorded). r.outcome) (ends.1 ∙ still_there steps.behind steps.lifted _ steps.lift d at (omega arith))
            ∙ outcome_there steps.fused steps.behind event steps.happens d steps.behind.history at refl (sym fused),
      )

  -- what is answered is whether the event was cut off
  pub answers_cut : (node : Option ℕ) (first : ℕ) (choice : CrashChoice) (old : ClusterValue N) (event : ClusterEvent) (cut : Bool) (new : ClusterValue N) (steps : StepsFused acts node first choice old event cut new)
      → cut ≡ is_cut (outcome_of acts node first choice old event cut new steps)
  answers_cut None first choice old event cut new steps = steps.is
  answers_cut (Some node) first choice old event cut new steps = steps.is
