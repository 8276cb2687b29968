-- What is kept of a group goes on with each event.
use Rattle.std.specs.Prelude.{◌≡◌, ◌⊎◌, ℕ, false, List, Option, Some, None, refl}
use Rattle.std.proofs.Common.{inl, inr, sym, ap, subst, ⊎_elim}
use Rattle.std.proofs.lemmas.Bool.Decides.{eqb_tells}
use Rattle.raft_laws.specs.GroupWorld.{NodeState}
use Rattle.raft_laws.specs.OneList.{AreNodeIds}
use Rattle.raft_machines.specs.Machine.{MachineRules}
use Rattle.raft_headline.specs.ClusterEvent.{ClusterOutcome, Recorded, is_stopped, is_turned_away}
use Rattle.raft_headline.specs.Machines.{Replicas}
use Rattle.raft_headline.specs.Replaying.{StepsTo}
use Rattle.raft_headline.specs.Seen.{Halted, Passed, Seen, seen_by}
use Rattle.raft_cluster_events.specs.declared.event.ClusterEvent.{ClusterEvent}
use Rattle.raft_cluster_events.specs.declared.event.ClusterEvent.TheVariants as event
use Rattle.raft_cluster_events.specs.declared.outcome.EventOutcome.{EventOutcome}
use Rattle.raft_cluster_events.specs.declared.outcome.EventOutcome.TheVariants as outcome
use Rattle.raft_cluster_events.specs.declared.outcome.NodeRefusal.{NodeRefusal}
use Rattle.raft_cluster_events.specs.declared.outcome.NodeRefusal.TheVariants as refusal
use Rattle.raft_node_laws.specs.Reporting.{OutcomeAs, plain_event}
use Rattle.raft_node_laws.specs.Saying.{names_of, outcome_of_refusal}
use Rattle.raft_cluster_lists.specs.GoingOn.{AwayGoesOn, CallsGoOn, EventsGoOn, NothingGoesOn, OpeningsGoOn, OthersGoOn}
use Rattle.raft_cluster_lists.specs.Hearing.{IsOpening}
use Rattle.raft_cluster_lists.specs.Keeping.{GroupNotes, IsKeptIn, IsUntouched}
use Rattle.raft_cluster_lists.proofs.CallsOn.{done_on, refused_on, stopped_on}
use Rattle.raft_cluster_lists.proofs.HaltsOn.{halted_on}
use Rattle.raft_cluster_lists.proofs.OthersOn.{IsAside, aside_on, opened_on, opening_done, opening_seen, others_aside, passed_on, unopened_on, untouched_aside, untouched_opened}
use Rattle.raft_cluster_lists.proofs.PlainEvents.{away_passed, call_done, call_not_cleaned, halt_seen, itself, opening_not_cleaned}

pub opens : (e : ClusterEvent) → IsOpening e ⊎ (IsOpening e → ⊥)
opens (event.AddGroup n g) = inr (λ never. never)
opens (event.Ask n g call now) = inr (λ never. never)
opens (event.Deliver g number cuts now) = inr (λ never. never)
opens (event.ResetPeer n peer) = inr (λ never. never)
opens (event.Clean n) = inr (λ never. never)
opens (event.Fuse n first_refused) = inr (λ never. never)
opens (event.Crash n choice) = inr (λ never. never)
opens (event.Reopen n workers) = inl tt

-- a refusal neither stops nor is turned away
pub record IsGoing (o : ClusterOutcome) : Type 0 where
  pub goes : is_stopped o ≡ false
  pub here : is_turned_away o ≡ false

refusal_goes : (why : NodeRefusal) (o : ClusterOutcome) → outcome_of_refusal why ≡ Some o → IsGoing o
refusal_goes why o is = subst going_if is (each why)
  where
    going_if : Option ClusterOutcome → Type 0
    going_if None = Unit {0}
    going_if (Some p) = IsGoing p

    each : (x : NodeRefusal) → going_if (outcome_of_refusal x)
    each (refusal.NotLeader leader) = record { goes = refl; here = refl }
    each refusal.UnknownGroup = record { goes = refl; here = refl }
    each refusal.GroupExists = record { goes = refl; here = refl }
    each refusal.NotAllowed = record { goes = refl; here = refl }
    each refusal.NotVoter = record { goes = refl; here = refl }
    each (refusal.Membership x) = record { goes = refl; here = refl }
    each refusal.VoterChange = record { goes = refl; here = refl }
    each refusal.InProgress = record { goes = refl; here = refl }
    each refusal.CommandTooLong = record { goes = refl; here = refl }
    each refusal.NumberAtEnd = record { goes = refl; here = refl }
    each refusal.Failed = record { goes = refl; here = refl }
    each refusal.WrongParty = record { goes = refl; here = refl }
    each refusal.TooMuchForBatch = tt
    each refusal.BreaksCondition = record { goes = refl; here = refl }
    each refusal.Frame = tt

-- all that stopped stays
stays : (r : Recorded) (k next : GroupNotes) → ((n : ℕ) → (n ≡ r.node → ⊥) → next.stopped n ≡ k.stopped n) → next.stopped r.node ≡ k.stopped r.node → (n : ℕ) → next.stopped n ≡ k.stopped n
stays r k next others own n =
    ⊎_elim
    (λ same. subst (λ i. next.stopped i ≡ k.stopped i) (sym same.1) own)
    (λ other. others n other.1)
    (eqb_tells n r.node)

module _ (rules : MachineRules) (ids : List ℕ) (fit : AreNodeIds ids) (h : ℕ) (plain : List Recorded) (e : ClusterEvent) where
  pub calls_go_on : (o : EventOutcome) (r : Recorded) (olds news : List NodeState) → CallsGoOn rules ids h plain e o r olds news
  calls_go_on (outcome.Done parts) r olds news k next c old new there was =
      let (said, done) = call_done plain h e parts r.outcome c.of_group c.recorded.outcome in
      let told = itself (plain_event e) r.node r.outcome r.event c.recorded.event (ap is_stopped done) in
      done_on rules ids fit h plain e (outcome.Done parts) r olds news k next c old new there told (ap is_turned_away done) parts refl said done was
  calls_go_on (outcome.Cleaned groups) r olds news k next c old new there was = absurd (call_not_cleaned h e groups r.outcome c.of_group c.recorded.outcome)
  calls_go_on (outcome.Refused why) r olds news k next c old new there was =
      let going = refusal_goes why r.outcome c.recorded.outcome in
      let told = itself (plain_event e) r.node r.outcome r.event c.recorded.event going.goes in
      refused_on rules ids fit h plain e (outcome.Refused why) r olds news k next c old new there told going.here why refl c.recorded.outcome was
  calls_go_on (outcome.Stopped stop) r olds news k next c old new there was =
      let stopped = c.recorded.outcome in
      ⊎_elim
      (λ told. stopped_on rules ids fit h plain e (outcome.Stopped stop) r olds news k next c old new there told (ap is_turned_away stopped) stop refl (names_of stop) stopped was)
      (λ halts.
      halted_on rules ids fit h plain r olds news k next old new there r.node
      (halt_seen h r.node r halts.0 halts.1 (ap is_turned_away stopped)) e (outcome.Stopped stop) stop refl c refl (names_of stop) stopped was)
      c.recorded.event
  calls_go_on (outcome.TurnedAway why) r olds news k next c old new there was =
      passed_on rules ids fit h plain r olds news old new there k next c.list (λ n. c.stopped n) c.asked was (away_passed h r c.recorded.outcome)

  pub openings_go_on : (o : EventOutcome) (r : Recorded) (olds news : List NodeState) → OpeningsGoOn rules ids h plain e o r olds news
  openings_go_on (outcome.Done parts) r olds news k next c old new there was =
      let (all, done) = opening_done plain e parts r.outcome c.opening c.recorded.outcome in
      let told = itself (plain_event e) r.node r.outcome r.event c.recorded.event (ap is_stopped done) in
      let seen = opening_seen plain h r e c.opening c.recorded.node told (ap is_turned_away done) in
      opened_on rules ids fit h plain r olds news old new there seen.node seen.seen e (outcome.Done parts) k next c seen.own was parts refl all done
  openings_go_on (outcome.Cleaned groups) r olds news k next c old new there was = absurd (opening_not_cleaned e groups r.outcome c.opening c.recorded.outcome)
  openings_go_on (outcome.Refused why) r olds news k next c old new there was = absurd (c.taken why refl)
  openings_go_on (outcome.Stopped stop) r olds news k next c old new there was =
      let stopped = c.recorded.outcome in
      let here = ap is_turned_away stopped in
      ⊎_elim
      (λ told.
      let seen = opening_seen plain h r e c.opening c.recorded.node told here in
      unopened_on rules ids fit h plain r olds news old new there seen.node seen.seen e (outcome.Stopped stop) k next c seen.own was stop refl (names_of stop) stopped)
      (λ halts.
      aside_on rules ids fit h plain r olds news old new there k next c.list (stays r k next c.others c.own) c.asked was (Halted r.node) (halt_seen h r.node r halts.0 halts.1 here) tt)
      c.recorded.event
  openings_go_on (outcome.TurnedAway why) r olds news k next c old new there was =
      passed_on rules ids fit h plain r olds news old new there k next c.list (stays r k next c.others c.own) c.asked was (away_passed h r c.recorded.outcome)

  pub others_go_on : (o : EventOutcome) (r : Recorded) (olds news : List NodeState) → OthersGoOn rules ids h plain e o r olds news
  others_go_on o r olds news k next c old new there was =
      aside_on rules ids fit h plain r olds news old new there k next c.list c.stopped c.asked was (seen_by h r) refl (others_aside h r e c.of_other c.no_opening c.recorded.event)

  pub nothing_goes_on : (o : EventOutcome) (r : Recorded) (olds news : List NodeState) → NothingGoesOn rules ids h plain e o r olds news
  nothing_goes_on o r olds news c old new there was = go (opens e)
    where
      aside_there : (seen : Seen) → seen_by h r ≡ seen → IsAside seen → IsUntouched new.world
      aside_there seen is a = untouched_aside rules ids fit h plain r olds news old new there seen is a was

      opened_there : IsOpening e → r.event ≡ plain_event e → is_turned_away r.outcome ≡ false → IsUntouched new.world
      opened_there opening told here =
          let seen = opening_seen plain h r e opening c.recorded.node told here in
          untouched_opened rules ids fit h plain r olds news old new there seen.node seen.seen was

      opening_there : (q : EventOutcome) → o ≡ q → OutcomeAs plain e q r.outcome → IsOpening e → IsUntouched new.world
      opening_there (outcome.Done parts) is said opening =
          let (all, done) = opening_done plain e parts r.outcome opening said in
          opened_there opening (itself (plain_event e) r.node r.outcome r.event c.recorded.event (ap is_stopped done)) (ap is_turned_away done)
      opening_there (outcome.Cleaned groups) is said opening = absurd (opening_not_cleaned e groups r.outcome opening said)
      opening_there (outcome.Refused why) is said opening = absurd (c.taken why is opening)
      opening_there (outcome.Stopped stop) is stopped opening =
          let here = ap is_turned_away stopped in
          ⊎_elim
          (λ told. opened_there opening told here)
          (λ halts. aside_there (Halted r.node) (halt_seen h r.node r halts.0 halts.1 here) tt)
          c.recorded.event
      opening_there (outcome.TurnedAway why) is said opening = aside_there Passed (away_passed h r said) tt

      go : IsOpening e ⊎ (IsOpening e → ⊥) → IsUntouched new.world
      go (inl opening) = opening_there o refl c.recorded.outcome opening
      go (inr shut) = aside_there (seen_by h r) refl (others_aside h r e c.of_other shut c.recorded.event)

-- what was turned away changes nothing
pub away_goes_on : AwayGoesOn
away_goes_on rules ids fit h plain r olds news away kept old new there was = subst (λ (x : Replicas). IsKeptIn kept x.world) (sym same) was
  where
    same : new ≡ old
    same = subst (λ (seen : Seen). StepsTo rules h seen r there.number old new) (away_passed h r away) there.step

pub events_go_on : EventsGoOn
events_go_on rules ids fit h plain happened o r olds news = (
  calls_go_on rules ids fit h plain happened o r olds news,
  openings_go_on rules ids fit h plain happened o r olds news,
  others_go_on rules ids fit h plain happened o r olds news,
  nothing_goes_on rules ids fit h plain happened o r olds news,
)
