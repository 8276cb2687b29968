-- What an event of a group's own leads to, as one of the group's own history.
use Rattle.std.specs.Prelude.{◌≡◌, ℕ, Bool, true, false, List, [], ◌∷◌, ◌++◌, Option, Some, None, refl}
use Rattle.std.proofs.Common.{sym, ap, ◌∙◌, subst}
use Rattle.raft_group_step.specs.GroupState.{GroupState}
use Rattle.raft_group_step.specs.GroupEvent.{GroupEvent}
use Rattle.raft_group_step.specs.StepResult.{RefusalReason, StepResult}
use Rattle.raft_group_step.specs.Refusal.{refusal_of}
use Rattle.raft_group_step.specs.GroupStep.{group_step}
use Rattle.raft_laws.specs.declared.world_event.WorldEvent.{WorldEvent}
use Rattle.raft_laws.specs.GroupWorld.{GroupWorld, NodeState, Absent, Up, Down, Outcome, Skipped, is_stop}
use Rattle.raft_laws.specs.GroupWorld.{Done as Ended, Refused as Declined, Recorded as GroupRecorded}
use Rattle.raft_laws.specs.NodeEvent.{Comes, outcome_at, outcome_of_end, state_after}
use Rattle.raft_laws.specs.GroupRun.{At, Replays, after_scene, happens, outcome_in, outcome_of, scene_of, stop_at}
use Rattle.raft_laws.specs.OneList.{AreNodeIds, IsGroupHistory}
use Rattle.raft_laws.proofs.StepMoments.{refusals_told}
use Rattle.raft_laws.proofs.Numbers.{state_here}
use Rattle.raft_machines.specs.Machine.{MachineRules}
use Rattle.raft_headline.specs.ClusterEvent.{ClusterEvent, Done, PassedOver, Recorded, Refused, Said, is_stopped, is_turned_away}
use Rattle.raft_headline.specs.Seen.{Own, seen_by, seen_of, seen_unless}
use Rattle.raft_headline.specs.Machines.{Replicas, new_replicas}
use Rattle.raft_headline.specs.Replaying.{IsSaid, OwnStep, Says, StepsTo, is_opening}
use Rattle.raft_headline.specs.Happened.{Happened}
use Rattle.raft_headline.proofs.AsGroup.{Led, Stepped, led, own_stepped}
use Rattle.raft_headline.proofs.Headlines.{leads_there}

-- ---- in the group's own history

module _ (rules : MachineRules) (ids : List ℕ) (fit : AreNodeIds ids) (h : ℕ) (history : List Recorded) (end : Replicas) (r : Recorded) (old new : Replicas) (it : Happened rules ids h history end r old new) where
  -- the group's own history before the event
  pub before_it : Led rules ids [] (new_replicas rules ids) old
  before_it = leads_there rules ids fit h it.before old it.reached

  abbrev pub past : List GroupRecorded
  past = before_it.more

  pub past_is : IsGroupHistory ids past old.world
  past_is = before_it.kept.leads

  module _ (e : WorldEvent) (seen : seen_by h r ≡ Own e) where
    abbrev pub number : ℕ
    number = it.step.1.0.number

    -- its step
    pub own_step : OwnStep rules h e r number old new
    own_step =
        subst (λ (g : Replicas). OwnStep rules h e r number old g) (sym it.step.1.1.1)
        (subst (λ s. StepsTo rules h s r number old it.step.1.0.new) seen it.step.1.0.step)

    abbrev pub what : Outcome
    what = outcome_of old.world e (is_stopped r.outcome)

    abbrev pub own_record : GroupRecorded
    own_record = record { event = e; outcome = what }

    pub stepped : Stepped rules ids past old new own_record
    stepped = own_stepped rules ids h past r number e old new before_it.kept own_step

    pub own_run : Replays old.world (own_record ∷ []) new.world
    own_run = stepped.run

    -- and what comes after
    pub after_it : Led rules ids (past ++ own_record ∷ []) new end
    after_it = led rules ids h (past ++ own_record ∷ []) it.after it.rest.0 new end stepped.kept it.rest.1

    abbrev pub future : List GroupRecorded
    future = after_it.more

    pub future_run : Replays new.world future end.world
    future_run = after_it.run

-- ---- what the group sees of it

pub seen_done : (h : ℕ) (r : Recorded) (e : ClusterEvent) (said : Said) → r.event ≡ e → r.outcome ≡ Done said → seen_by h r ≡ seen_of h e r.node (Done said)
seen_done h r e said same is =
    ap (λ x. seen_unless (is_turned_away r.outcome) (seen_of h x r.node r.outcome)) same
    ∙ ap (λ o. seen_unless (is_turned_away o) (seen_of h e r.node o)) is

-- ---- at its node

-- what is said is what the step sends, tells and has as unknown
abbrev pub SaysStep : (ℕ → Option (List ℕ)) → Said → StepResult → Type 0
SaysStep answers said r = IsSaid answers said r.messages r.told r.unknown

-- a call or message that ran to its end at a node that was up
pub record DoneAt (n : ℕ) (ge : GroupEvent) (old new : Replicas) (said : Said) : Type 0 where
  pub state : GroupState
  pub was_up : old.world.nodes n ≡ Up state
  pub passed : refusal_of n state ge ≡ None
  pub is_up : new.world.nodes n ≡ Up (group_step n state ge).state
  pub answers : ℕ → Option (List ℕ)
  pub is_said : SaysStep answers said (group_step n state ge)

-- what it says of the step
record EndsSo (answers : ℕ → Option (List ℕ)) (n : ℕ) (ge : GroupEvent) (x : NodeState) (said : Said) : Type 0 where
  state : GroupState
  was_up : x ≡ Up state
  passed : refusal_of n state ge ≡ None
  is_said : SaysStep answers said (group_step n state ge)

module _ (h : ℕ) (opening : Bool) (answers : ℕ → Option (List ℕ)) (said : Said) where
  skips : {P : Type 0} → Says h opening answers (Done said) Skipped → P
  skips s = absurd (let f : Done said ≡ PassedOver = s in cc)

  declines : {P : Type 0} (why : RefusalReason) → Says h opening answers (Done said) (Declined why) → P
  declines why s = absurd (let f : Done said ≡ Refused why = s in cc)

said_step : (h : ℕ) (opening : Bool) (answers : ℕ → Option (List ℕ)) (said : Said) (r : StepResult) → Says h opening answers (Done said) (Ended r.messages r.told r.unknown) → SaysStep answers said r
said_step h true answers said r s = absurd s
said_step h false answers said r s = s

up_ends : (h n : ℕ) (ge : GroupEvent) (opening : Bool) (answers : ℕ → Option (List ℕ)) (said : Said) (s : GroupState) → Says h opening answers (Done said) (outcome_at n (Comes ge) false (Up s)) → (o : Option RefusalReason) → refusal_of n s ge ≡ o → EndsSo answers n ge (Up s) said
up_ends h n ge opening answers said s says None passed = record {
  state = s;
  was_up = refl;
  passed = passed;
  is_said = said_step h opening answers said (group_step n s ge) (subst (λ o. Says h opening answers (Done said) (outcome_of_end (group_step n s ge) o)) (refusals_told n s ge ∙ passed) says);
}
up_ends h n ge opening answers said s says (Some why) refused =
    declines h opening answers said why (subst (λ o. Says h opening answers (Done said) (outcome_of_end (group_step n s ge) o)) (refusals_told n s ge ∙ refused) says)

node_ends : (h n : ℕ) (ge : GroupEvent) (opening : Bool) (answers : ℕ → Option (List ℕ)) (said : Said) (x : NodeState) → Says h opening answers (Done said) (outcome_at n (Comes ge) false x) → EndsSo answers n ge x said
node_ends h n ge opening answers said Absent says = skips h opening answers said says
node_ends h n ge opening answers said (Up s) says = up_ends h n ge opening answers said s says (refusal_of n s ge) refl
node_ends h n ge opening answers said (Down st) says = skips h opening answers said says

module _ (rules : MachineRules) (h : ℕ) (e : WorldEvent) (r : Recorded) (k : ℕ) (old new : Replicas) (step : OwnStep rules h e r k old new) where
  -- the node's state behind a call or message that ran to its end
  state_behind : (o : Outcome) → outcome_of old.world e (is_stopped r.outcome) ≡ o → is_stop o ≡ false → (n : ℕ) (ge : GroupEvent) → scene_of old.world e ≡ At n (Comes ge) → new.world.nodes n ≡ state_after n (Comes ge) None (old.world.nodes n)
  state_behind o is goes n ge here =
      ap (λ (w : GroupWorld). w.nodes n) step.world
      ∙ ap (λ x. (happens old.world e x k).nodes n) is
      ∙ ap (λ b. (after_scene old.world e o (stop_at b k) (scene_of old.world e)).nodes n) goes
      ∙ ap (λ scene. (after_scene old.world e o None scene).nodes n) here
      ∙ state_here n (state_after n (Comes ge) None (old.world.nodes n)) old.world.nodes

  pub done_at : (n : ℕ) (ge : GroupEvent) → scene_of old.world e ≡ At n (Comes ge) → (said : Said) → r.outcome ≡ Done said → DoneAt n ge old new said
  done_at n ge here said is =
      let says : Says h (is_opening e) step.answers (Done said) (outcome_at n (Comes ge) false (old.world.nodes n)) =
      subst (λ scene. Says h (is_opening e) step.answers (Done said) (outcome_in old.world false scene)) here
      (subst (λ o. Says h (is_opening e) step.answers o (outcome_of old.world e (is_stopped o))) is step.says)
      in
      let ends : EndsSo step.answers n ge (old.world.nodes n) said = node_ends h n ge (is_opening e) step.answers said (old.world.nodes n) says in
      let what : outcome_of old.world e (is_stopped r.outcome) ≡ outcome_of_end (group_step n ends.state ge) (group_step n ends.state ge).refused =
      ap (λ o. outcome_of old.world e (is_stopped o)) is
      ∙ ap (outcome_in old.world false) here
      ∙ ap (outcome_at n (Comes ge) false) ends.was_up
      in
      let quiet : is_stop (outcome_of_end (group_step n ends.state ge) (group_step n ends.state ge).refused) ≡ false =
      ap (λ o. is_stop (outcome_of_end (group_step n ends.state ge) o)) (refusals_told n ends.state ge ∙ ends.passed)
      in
      record {
        state = ends.state;
        was_up = ends.was_up;
        passed = ends.passed;
        is_up = state_behind _ what quiet n ge here ∙ ap (state_after n (Comes ge) None) ends.was_up;
        answers = step.answers;
        is_said = ends.is_said;
      }
