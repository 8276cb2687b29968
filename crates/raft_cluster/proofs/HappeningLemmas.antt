-- An event comes to its node: from what the node answered and what became of that.
use Rattle.std.proofs.Common.{◌≡◌, ℕ, List, [], Option, None, Result, Ok, Err, inl, inr, refl, sym, subst, ◌∙◌}
use Rattle.raft_cluster_conditions.specs.declared.reasons.ClusterRefusal.{ClusterRefusal}
use Rattle.raft_cluster_events.specs.declared.event.ClusterEvent.{ClusterEvent}
use Rattle.raft_cluster_events.specs.declared.event.ClusterEvent.TheVariants.{AddGroup, Ask, Deliver, ResetPeer, Clean, Fuse, Crash, Reopen}
use Rattle.raft_cluster_events.specs.declared.event.CrashChoice.{CrashChoice}
use Rattle.raft_cluster_events.specs.declared.node.NodeOutcome.{NodeOutcome}
use Rattle.raft_cluster_events.specs.declared.outcome.CrashRefusal.{CrashRefusal}
use Rattle.raft_cluster_events.specs.declared.outcome.CrashRefusal.TheVariants.{NotAnImage, ByChance, Memory}
use Rattle.raft_cluster_events.specs.declared.outcome.EventOutcome.{EventOutcome}
use Rattle.raft_cluster_events.specs.declared.outcome.EventOutcome.TheVariants.{TurnedAway}
use Rattle.raft_cluster_events.specs.declared.outcome.NodeError.{NodeError}
use Rattle.raft_cluster_events.specs.declared.outcome.Stop.{Stop}
use Rattle.raft_cluster_events.specs.Node.{NodeActs}
use Rattle.raft_cluster.specs.declared.answer.Answer.{Answer}
use Rattle.raft_cluster.specs.declared.answer.Answer.TheVariants.{OfGroup, Quiet, Cleaned, Opened, Spared}
use Rattle.raft_cluster.specs.Facts.{Sent}
use Rattle.raft_node_laws.specs.Answered.{Answered, none_of, opening_of, some_of}
use Rattle.raft_cluster.specs.Happening.{Answers, EndsAt, IsOfGroup, Did, HasCleaned, RefusesFor, Settles, cleaned, turned_by}
use Rattle.raft_cluster.specs.Turn.{IsAnswered, IsOpening, quietly}

module _ {N : Type 0} (acts : NodeActs N) where
  -- ---- what is answered

  as_named : (sent : Sent) (event named : ClusterEvent) (old mid : N) (answer : Answer) → event ≡ named → IsAnswered acts sent named old answer mid → IsAnswered acts sent event old answer mid
  as_named sent event named old mid answer is h = let P : ClusterEvent → Type 0 = λ e. IsAnswered acts sent e old answer mid in subst P (sym is) h

  pub comes_to_group : (sent : Sent) (event named : ClusterEvent) (old mid : N) (r : Result (Option NodeOutcome) NodeError) (answered : Answered) → event ≡ named → IsOfGroup named → some_of r ≡ answered → Answers acts sent named old (Did answered) mid → acts.id mid ≡ acts.id old → IsAnswered acts sent event old (OfGroup r) mid
  comes_to_group sent event named old mid r answered is kind same answers id =
      let P : Answered → Type 0 = λ a. Answers acts sent named old (Did a) mid in
      as_named sent event named old mid (OfGroup r) is (kind, record { answers = subst P (sym same) answers; id = id })

  pub comes_quietly : (sent : Sent) (event named : ClusterEvent) (old mid : N) (r : Result (Unit {0}) NodeError) → event ≡ named → Answers acts sent named old (Did (none_of r)) mid → acts.id mid ≡ acts.id old → IsAnswered acts sent event old (Quiet r) mid
  comes_quietly sent event named old mid r is answers id = as_named sent event named old mid (Quiet r) is (record { answers = answers; id = id })

  pub comes_cleaned : (sent : Sent) (event named : ClusterEvent) (old mid : N) (r : Result (List ℕ) NodeError) → event ≡ named → Answers acts sent named old (HasCleaned r) mid → acts.id mid ≡ acts.id old → IsAnswered acts sent event old (Cleaned r) mid
  comes_cleaned sent event named old mid r is answers id = as_named sent event named old mid (Cleaned r) is (record { answers = answers; id = id })

  pub comes_as_opening : (sent : Sent) (event named : ClusterEvent) (old mid : N) (r : Result (List NodeOutcome) Stop) → event ≡ named → IsOpening named → Answers acts sent named old (Did (opening_of r)) mid → acts.id mid ≡ acts.id old → IsAnswered acts sent event old (Opened r) mid
  comes_as_opening sent event named old mid r is kind answers id = as_named sent event named old mid (Opened r) is (kind, record { answers = answers; id = id })

  -- it is answered as an event that is named so
  pub answered_as : (sent : Sent) (event named : ClusterEvent) (old mid : N) (answer : Answer) → event ≡ named → IsAnswered acts sent named old answer mid → IsAnswered acts sent event old answer mid
  answered_as = as_named

  pub refused_as : (event named : ClusterEvent) (old : N) (why : CrashRefusal) → event ≡ named → RefusesFor acts named old why → RefusesFor acts event old why
  refused_as event named old why is h = let P : ClusterEvent → Type 0 = λ e. RefusesFor acts e old why in subst P (sym is) h

  -- what isn't turned away is want of memory
  pub without_memory : (choice : CrashChoice) (old : N) (why : CrashRefusal) → acts.refuses old choice why → turned_by why ≡ None → acts.refuses old choice Memory
  without_memory choice old NotAnImage refuses none = absurd (cc)
  without_memory choice old ByChance refuses none = absurd (cc)
  without_memory choice old Memory refuses none = refuses

  -- ---- and settled

  pub ends_in_group : (sent later : Sent) (event : ClusterEvent) (old mid new : N) (r : Result (Option NodeOutcome) NodeError) (o : EventOutcome) → ((e : ClusterEvent) → IsOfGroup e → Settles acts sent e mid (Did (some_of r)) o later new) → acts.id new ≡ acts.id mid → IsAnswered acts sent event old (OfGroup r) mid → EndsAt acts sent event old o later new
  ends_in_group sent later event old mid new r o settles id (kind, come) =
      inl (record {
        answered = Did (some_of r);
        behind = mid;
        answers = come.answers;
        settles = settles event kind;
        id_behind = come.id;
        id = id ∙ come.id;
      })

  settles_quietly : (sent : Sent) (event : ClusterEvent) (mid : N) (r : Result (Unit {0}) NodeError) (o : EventOutcome) → o ≡ quietly r → Settles acts sent event mid (Did (none_of r)) o sent mid
  settles_quietly sent event mid (Ok done) o same = inl (record { parts = []; outcome = same; sends = record { numbered = refl; sends = λ g. refl }; node = refl })
  settles_quietly sent event mid (Err error) o same = record { outcome = same; sends = λ g. refl; node = refl }

  pub ends_quietly : (sent : Sent) (event : ClusterEvent) (old mid : N) (r : Result (Unit {0}) NodeError) (o : EventOutcome) → o ≡ quietly r → IsAnswered acts sent event old (Quiet r) mid → EndsAt acts sent event old o sent mid
  ends_quietly sent event old mid r o same come =
      inl (record {
        answered = Did (none_of r);
        behind = mid;
        answers = come.answers;
        settles = settles_quietly sent event mid r o same;
        id_behind = come.id;
        id = come.id;
      })

  pub ends_cleaned : (sent : Sent) (event : ClusterEvent) (old mid : N) (r : Result (List ℕ) NodeError) (o : EventOutcome) → o ≡ cleaned r → IsAnswered acts sent event old (Cleaned r) mid → EndsAt acts sent event old o sent mid
  ends_cleaned sent event old mid r o same come =
      inl (record {
        answered = HasCleaned r;
        behind = mid;
        answers = come.answers;
        settles = record { outcome = same; sends = λ g. refl; node = refl };
        id_behind = come.id;
        id = come.id;
      })

  settles_opening : (sent later : Sent) (event : ClusterEvent) (mid new : N) (r : Result (List NodeOutcome) Stop) (o : EventOutcome) → ((at workers : ℕ) → Settles acts sent (Reopen at workers) mid (Did (opening_of r)) o later new) → IsOpening event → Settles acts sent event mid (Did (opening_of r)) o later new
  settles_opening sent later (Reopen at workers) mid new r o settles kind = settles at workers
  settles_opening sent later (AddGroup node group) mid new r o settles kind = absurd kind
  settles_opening sent later (Ask node group call now) mid new r o settles kind = absurd kind
  settles_opening sent later (Deliver group number cuts now) mid new r o settles kind = absurd kind
  settles_opening sent later (ResetPeer node peer) mid new r o settles kind = absurd kind
  settles_opening sent later (Clean node) mid new r o settles kind = absurd kind
  settles_opening sent later (Fuse node first_refused) mid new r o settles kind = absurd kind
  settles_opening sent later (Crash node choice) mid new r o settles kind = absurd kind

  pub ends_as_opening : (sent later : Sent) (event : ClusterEvent) (old mid new : N) (r : Result (List NodeOutcome) Stop) (o : EventOutcome) → ((at workers : ℕ) → Settles acts sent (Reopen at workers) mid (Did (opening_of r)) o later new) → acts.id new ≡ acts.id mid → IsAnswered acts sent event old (Opened r) mid → EndsAt acts sent event old o later new
  ends_as_opening sent later event old mid new r o settles id (kind, come) =
      inl (record {
        answered = Did (opening_of r);
        behind = mid;
        answers = come.answers;
        settles = settles_opening sent later event mid new r o settles kind;
        id_behind = come.id;
        id = id ∙ come.id;
      })

  pub ends_spared : (sent : Sent) (event : ClusterEvent) (old mid : N) (away : ClusterRefusal) → IsAnswered acts sent event old (Spared away) mid → EndsAt acts sent event old (TurnedAway away) sent mid
  ends_spared sent event old mid away h =
      inr (record { why = h.why; refuses = h.refuses; away = away; named = h.named; outcome = refl; sends = refl; node = h.node })

  -- what follows of an answer that is named so
  pub of_answer : (sent : Sent) (event : ClusterEvent) (old mid : N) (answer named : Answer) (E : Type 0) → answer ≡ named → (IsAnswered acts sent event old named mid → E) → IsAnswered acts sent event old answer mid → E
  of_answer sent event old mid answer named E is follows h = let P : Answer → Type 0 = λ a. IsAnswered acts sent event old a mid in follows (subst P is h)
