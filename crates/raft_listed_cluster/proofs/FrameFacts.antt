-- What the frames of an event accept is what its messages do.
use Rattle.std.proofs.Common.{◌≡◌, ℕ, List, [], ◌∷◌, ◌++◌, Option, Some, None, drop, length, refl, sym, ap, ◌∙◌}
use Rattle.std.specs.List.{AllZip}
use Rattle.std.specs.Option.{option_or}
use Rattle.raft_group_step.specs.Message.{Message}
use Rattle.raft_list_facts.specs.Accepting.{accepted_in}
use Rattle.raft_list_facts.specs.declared.acceptance.Acceptance.{Acceptance}
use Rattle.raft_list_steps.specs.Reports.{accepted_by, listed}
use Rattle.raft_sent_frames.specs.Frames.{first_accepted}
use Rattle.raft_sent_frames.specs.declared.frame.SentFrame.{SentFrame}
use Rattle.raft_node_laws.specs.Reporting.{IsSentAs}
use Rattle.raft_cluster_lists.specs.GoingOn.{first_in}
use Rattle.raft_cluster.proofs.SpellingLemmas.{same_length}

module _ (spells : ℕ → Message → List ℕ → Type 0) (h : ℕ) where
  -- what was sent behind the others says the messages behind theirs
  behind : (before new : List Message) (frames : List SentFrame) → AllZip (IsSentAs spells h) frames (before ++ new) → AllZip (IsSentAs spells h) (drop (length before) frames) new
  behind [] new frames all = all
  behind (m ∷ ms) new [] all = absurd all
  behind (m ∷ ms) new (f ∷ fs) all = behind ms new fs all.1

  accepts_first : (frames : List SentFrame) (ms : List Message) → AllZip (IsSentAs spells h) frames ms → first_in (accepted_by ms) ≡ first_accepted frames
  accepts_first [] [] all = refl
  accepts_first [] (m ∷ ms) all = absurd all
  accepts_first (f ∷ fs) [] all = absurd all
  accepts_first (f ∷ fs) (m ∷ ms) all = go (accepted_in m.body) (accepts_first fs ms all.1) ∙ ap (λ a. option_or a (first_accepted fs)) (sym all.0.accepts)
    where
      go : (a : Option Acceptance) → first_in (accepted_by ms) ≡ first_accepted fs → first_in (listed a ++ accepted_by ms) ≡ option_or a (first_accepted fs)
      go None more = more
      go (Some x) more = refl

  pub news_accept : (sent later : List SentFrame) (before new : List Message) → AllZip (IsSentAs spells h) sent before → AllZip (IsSentAs spells h) later (before ++ new)
      → first_in (accepted_by new) ≡ first_accepted (drop (length sent) later)
  news_accept sent later before new was is =
      accepts_first (drop (length before) later) new (behind before new later is)
      ∙ ap (λ n. first_accepted (drop n later)) (sym (same_length spells h sent before was))
