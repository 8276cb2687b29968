-- What an event behind a fuse shows.
use Rattle.std.proofs.Common.{◌≡◌, sym, ap, ◌∙◌, Bool, true, false, ℕ, List, length, get_or, Result, Ok, Err, IfOk, if◌then◌else◌}
use Rattle.raft_machines.specs.declared.telling.Told.{Told}
use Rattle.raft_script_answers.specs.Answer.{stopped_text}
use Rattle.raft_script_machines.specs.Speech.{Speech}
use Rattle.raft_sent_frames.specs.Frames.{frames_of}
use Rattle.raft_cluster_events.specs.declared.event.ClusterEvent.{ClusterEvent}
use Rattle.raft_cluster_events.specs.declared.event.CrashChoice.TheVariants.{Least}
use Rattle.raft_cluster_events.specs.declared.outcome.EventOutcome.{EventOutcome}
use Rattle.raft_cluster_events.specs.declared.outcome.Recorded.{Recorded}
use Rattle.raft_cluster_events.specs.Node.{NodeActs}
use Rattle.raft_cluster.specs.Cluster.{ClusterValue}
use Rattle.raft_cluster.specs.Facts.{node_of}
use Rattle.raft_cluster.specs.Fused.{StepsFused, is_cut, outcome_of, place_behind}
use Rattle.raft_cluster.proofs.FusedLemmas.{answers_cut, own_there}
use Rattle.raft_cluster_script.specs.Answers.{fused_text, outcome_text}
use Rattle.raft_cluster_script.specs.Script.{FusedSo}

-- the text of what was cut off, and of what wasn't
text_if : (shows : Told → List ℕ) (outcome : EventOutcome) (cut : Bool) → is_cut outcome ≡ cut → fused_text shows outcome ≡ (if cut then stopped_text else outcome_text shows outcome)
text_if shows outcome cut is = ap (λ b. if b then stopped_text else outcome_text shows outcome) is

module _ {N : Type 0} (acts : NodeActs N) (speech : Speech) where
  pub shows_cut : {X E : Type 0} (r : Result X E) (bytes : X → List ℕ) (first : ℕ) (old : ClusterValue N) (event : ClusterEvent) (cut : Bool) (new : ClusterValue N) → StepsFused acts (node_of (frames_of old.sent) event) first Least old event cut new → cut ≡ true
      → IfOk r (λ x. bytes x ≡ stopped_text) → IfOk r (λ x. FusedSo acts speech first old event (bytes x) new)
  shows_cut (Ok x) bytes first old event cut new steps was text =
      let node = node_of (frames_of old.sent) event in
      let outcome = outcome_of acts node first Least old event cut new steps in
      let is = sym (answers_cut acts node first Least old event cut new steps) ∙ was in
      record { cut = cut; steps = steps; text = text ∙ sym (text_if speech.shows outcome true is) }
  shows_cut (Err e) bytes first old event cut new steps was text = tt

  pub shows_whole : {X E : Type 0} (r : Result X E) (bytes : X → List ℕ) (first : ℕ) (old : ClusterValue N) (event : ClusterEvent) (cut : Bool) (new : ClusterValue N) → StepsFused acts (node_of (frames_of old.sent) event) first Least old event cut new → cut ≡ false
      → (d : Recorded) (all : List Recorded) (at : ℕ) → all ≡ new.history → at ≡ place_behind (node_of (frames_of old.sent) event) (length old.history) → IfOk r (λ x. bytes x ≡ outcome_text speech.shows (get_or all at d).outcome) → IfOk r (λ x. FusedSo acts speech first old event (bytes x) new)
  shows_whole (Ok x) bytes first old event cut new steps was d all at whole place text =
      let node = node_of (frames_of old.sent) event in
      let outcome = outcome_of acts node first Least old event cut new steps in
      let is = sym (answers_cut acts node first Least old event cut new steps) ∙ was in
      let here = own_there acts node first Least old event cut new steps d in
      let there = ap (λ l. get_or l at d) whole ∙ ap (λ n. get_or new.history n d) place in
      record {
        cut = cut;
        steps = steps;
        text = text ∙ ap (λ (r : Recorded). outcome_text speech.shows r.outcome) there ∙ ap (outcome_text speech.shows) here.1 ∙ sym (text_if speech.shows outcome false is);
      }
  shows_whole (Err e) bytes first old event cut new steps was d all at whole place text = tt
