-- What a line shows.
use Rattle.std.proofs.Common.{◌≡◌, sym, ap, ◌∙◌, ◌+◌, ◌<◌, [], ◌∷◌, ◌++◌, length, map, take, get_or, List, ℕ, Option, Some, None, Result, Ok, Err, IfOk, IfSome}
use Rattle.std.proofs.lemmas.List.{map-append, take_more}
use Rattle.raft_cluster_events.specs.declared.event.ClusterEvent.{ClusterEvent}
use Rattle.raft_cluster_events.specs.declared.outcome.Recorded.{Recorded}
use Rattle.raft_cluster_events.specs.Node.{NodeActs}
use Rattle.raft_cluster.specs.Cluster.{ClusterValue, Steps}
use Rattle.raft_cluster.proofs.FusedLemmas.{outcome_there}
use Rattle.raft_script_machines.specs.Speech.{Speech}
use Rattle.raft_cluster_script.specs.Answers.{outcome_text}
use Rattle.raft_cluster_script.specs.Script.{StepsSo}

pub for_some : {X : Type 0} (known : Option X) (P Q : X → Type 0) → ((x : X) → P x → Q x) → IfSome known P → IfSome known Q
for_some None P Q f h = tt
for_some (Some x) P Q f h = f x h

-- one more is named
pub more_named : {X : Type 0} (f : X → ℕ × List ℕ) (g : ℕ → ℕ × List ℕ) (old new : List X) (x : X) (ids : List ℕ) (i : ℕ) → i < length ids → map f old ≡ map g (take i ids) → new ≡ old ++ x ∷ [] → f x ≡ g (get_or ids i 0) → map f new ≡ map g (take (i + 1) ids)
more_named f g old new x ids i inside h pushed same =
    ap (map f) pushed
    ∙ map-append f old (x ∷ [])
    ∙ ap (λ l. l ++ f x ∷ []) h
    ∙ ap (λ y. map g (take i ids) ++ y ∷ []) same
    ∙ sym (map-append g (take i ids) (get_or ids i 0 ∷ []))
    ∙ ap (map g) (sym (take_more ids i 0 inside))

module _ {N : Type 0} (acts : NodeActs N) (speech : Speech) where
  pub shows_step : {X E : Type 0} (r : Result X E) (bytes : X → List ℕ) (old new : ClusterValue N) (event : ClusterEvent) (steps : Steps acts old event new) (d : Recorded) (all : List Recorded) (at : ℕ) → all ≡ new.history → at ≡ length old.history → IfOk r (λ x. bytes x ≡ outcome_text speech.shows (get_or all at d).outcome) → IfOk r (λ x. StepsSo acts speech old event (bytes x) new)
  shows_step (Ok x) bytes old new event steps d all at whole place text =
      record { steps = steps; text = text ∙ ap (outcome_text speech.shows) (outcome_there acts old new event steps d all at whole place) }
  shows_step (Err e) bytes old new event steps d all at whole place text = tt
