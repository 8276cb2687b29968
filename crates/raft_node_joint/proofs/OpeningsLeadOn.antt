-- An opening leads each group of its node on.
use Rattle.std.specs.Prelude.{◌≡◌, ◌⊎◌, ◌+◌, ◌||◌, ◌==◌, if◌then◌else◌, ℕ, Bool, true, false, List, [], ◌∷◌, length, map, Some, None, All, refl}
use Rattle.std.specs.List.{AllZip, find}
use Rattle.std.specs.Ordering.{eq_by_cmp, nat_cmp}
use Rattle.std.specs.Set.{is_member}
use Rattle.std.proofs.Common.{inl, inr, sym, ap, ◌∙◌, subst, ⊎_elim, arith, eq-eqb, eqb-true}
use Rattle.std.proofs.lemmas.Bool.{cases_Bool}
use Rattle.std.proofs.lemmas.Bool.Decides.{nat_tests}
use Rattle.std.proofs.lemmas.List.Elements.{All-head, All-tail}
use Rattle.raft_group_step.specs.GroupEvent.{Open}
use Rattle.raft_group_step.specs.GroupState.{no_group, state_of}
use Rattle.raft_group_step.specs.GroupStep.{group_step}
use Rattle.raft_group_step.specs.Opening.{opening_step}
use Rattle.raft_group_step.specs.StepResult.{StepResult, tokens_of}
use Rattle.raft_group_step.specs.StoredGroup.{Snapshot, StoredGroup}
use Rattle.raft_group_storage.specs.Keeping.{Fails, Shows}
use Rattle.raft_messages.specs.declared.memberships.SnapshotBytes.{SnapshotBytes}
use Rattle.raft_laws.specs.GroupWorld.{Down, NodeState, Up}
use Rattle.raft_laws.specs.Stop.{stopped_after}
use Rattle.raft_step_laws.proofs.Sending.{idle_end}
use Rattle.raft_headline.specs.ClusterEvent.{Opened, Recorded, Reopen, Said, Stopped, Unknown, said_of, said_or, silent}
use Rattle.raft_headline.specs.Seen.{seen_by}
use Rattle.raft_cluster_laws.specs.Acting.{SaysStepOf}
use Rattle.raft_cluster_laws.specs.Acts.{MayBecome, answers_at}
use Rattle.raft_machines.specs.Machine.{MachineRules}
use Rattle.raft_machines.specs.Telling.{AreToldAs}
use Rattle.raft_node_faults.specs.declared.fault.Fault.{Fault}
use Rattle.raft_node_faults.specs.declared.fault.Fault.TheVariants as fault
use Rattle.raft_node.specs.Ending.{IsDone}
use Rattle.raft_node.specs.Opening.{HasOpened, groups_of}
use Rattle.raft_node.specs.Standing.{NodeValue}
use Rattle.raft_node.specs.declared.outcome.Outcome.{Outcome}
use Rattle.raft_node_joint.specs.Leading.{LeadsIn, recorded}
use Rattle.raft_node_joint.specs.Reopening.{ClosedOpeningsLead, IsPart, LeadsDown, LeftOpeningsLead, NamesNobody, OpeningsLead, StandsDown, StopsNameNobody}
use Rattle.raft_node_joint.specs.Standing.{IsUpIn}
use Rattle.raft_node_joint.proofs.LeadingDown.{left_leads, one_leads, opened_leads, stop_becomes, unbegun_leads}
use Rattle.raft_node_joint.proofs.Naming.{names_own}
use Rattle.raft_node_joint.proofs.OnceEach.{once_each}
use Rattle.raft_node_joint.proofs.Others.{shows_it}
use Rattle.raft_node_joint.proofs.OwnGroup.{frames_say, is_in_one}
use Rattle.raft_node_joint.proofs.OwnMessages.{step_sends}
use Rattle.raft_node_joint.proofs.Reopened.{absent_groups_store_nothing}
use Rattle.raft_laws.proofs.StepOrder.{stopped_at_end}

-- ---- a group that isn't there

-- its opening does nothing
pub absent_opens : (own : ℕ) → group_step own (state_of no_group) Open ≡ opening_step own no_group
absent_opens own = idle_end own None (opening_step own no_group) refl

module _ (own : ℕ) (st : StoredGroup) (is : st ≡ no_group) where
  abbrev nothing : StepResult
  nothing = group_step own (state_of st) Open

  does_nothing : nothing ≡ opening_step own no_group
  does_nothing = ap (λ (x : StoredGroup). group_step own (state_of x) Open) is ∙ absent_opens own

  pub same_state : nothing.state ≡ state_of no_group
  same_state = ap (λ (r : StepResult). r.state) does_nothing

  pub says_nothing : (rules : MachineRules) → SaysStepOf rules silent nothing
  says_nothing rules = record {
    sent = sym (ap (λ (r : StepResult). r.messages) does_nothing);
    told = subst (λ xs. AreToldAs (answers_at rules (Up nothing.state)) [] xs) (sym (ap (λ (r : StepResult). r.told) does_nothing)) tt;
    unknown = sym (ap (λ (r : StepResult). r.unknown) does_nothing);
  }

-- ---- what the outcomes say

differs : (a b : ℕ) → (b == a) ≡ false → eq_by_cmp nat_cmp a b ≡ false
differs a b apart = go (eq_by_cmp nat_cmp a b) refl
  where
    same_id : eq_by_cmp nat_cmp a b ≡ true → a ≡ b
    same_id h = grind (arith, nat_tests)

    go : (c : Bool) → eq_by_cmp nat_cmp a b ≡ c → eq_by_cmp nat_cmp a b ≡ false
    go true is = absurd (let no : true ≡ false = sym (eq-eqb b a (sym (same_id is))) ∙ apart in cc)
    go false is = is

module _ (rules : MachineRules) (stands : SnapshotBytes → Snapshot → Type 0) (kept : ℕ → StoredGroup) (n : NodeValue) where
  abbrev own : ℕ
  own = n.groups.own

  -- the step of the group's opening
  abbrev pub step : ℕ → StepResult
  step h = group_step own (state_of (kept h)) Open

  abbrev Opens : Outcome → Type 0
  Opens o = IsDone rules stands n o.group (state_of (kept o.group)) Open o

  abbrev said_by : Outcome → Said
  said_by o = record { sent = (step o.group).messages; told = o.told.items; unknown = o.unknown.items }

  abbrev pub part_of : Outcome → ℕ × Said
  part_of o = (o.group, said_by o)

  is_part : (o : Outcome) → Opens o → IsPart stands own o (part_of o)
  is_part o d = record {
    group = refl;
    says = record {
      sent = frames_say stands o.group d.frames.messages o.frames.items (step o.group).messages d.frames.say d.frames.framed;
      told = refl;
      unknown = refl;
    };
    sender = step_sends own (state_of (kept o.group)) Open;
  }

  pub are_parts : (os : List Outcome) → All Opens os → AllZip (IsPart stands own) os (map part_of os)
  are_parts [] done = tt
  are_parts (o ∷ os) done = (is_part o (All-head Opens o os done), are_parts os (All-tail Opens o os done))

  says_step : (o : Outcome) → Opens o → SaysStepOf rules (said_by o) (step o.group)
  says_step o d = record { sent = refl; told = d.gone.told; unknown = d.gone.unknown }

  -- what they say of a group is what its step does, or none of them is the group's
  abbrev SaysOf : ℕ → List Outcome → Type 0
  SaysOf h os =
      SaysStepOf rules (said_of h (map part_of os)) (step h)
      ⊎ ((said_of h (map part_of os) ≡ silent) × (is_member (eq_by_cmp nat_cmp) (groups_of os) h ≡ false))

  first_or : (h : ℕ) (o : Outcome) (os : List Outcome) (b : Bool) → (o.group == h) ≡ b → said_of h (map part_of (o ∷ os)) ≡ (if b then said_by o else said_of h (map part_of os))
  first_or h o os b is = ap (λ c. said_or (if c then Some (part_of o) else find (λ (part : ℕ × Said). part.0 == h) (map part_of os))) is ∙ which b
    where
      which : (c : Bool) → said_or (if c then Some (part_of o) else find (λ (part : ℕ × Said). part.0 == h) (map part_of os)) ≡ (if c then said_by o else said_of h (map part_of os))
      which true = refl
      which false = refl

  says_with : (h : ℕ) (o : Outcome) (os : List Outcome) → Opens o → SaysOf h os → (b : Bool) → (o.group == h) ≡ b → SaysOf h (o ∷ os)
  says_with h o os d rest true is =
      inl (subst (λ x. SaysStepOf rules x (step h)) (sym (first_or h o os true is))
      (subst (λ g. SaysStepOf rules (said_by o) (step g)) (eqb-true o.group h is) (says_step o d)))
  says_with h o os d rest false is =
      ⊎_elim
      (λ says. inl (subst (λ x. SaysStepOf rules x (step h)) (sym (first_or h o os false is)) says))
      (λ none. inr (
        first_or h o os false is ∙ none.0,
        ap (λ b. b || is_member (eq_by_cmp nat_cmp) (groups_of os) h) (differs h o.group is) ∙ none.1,
      ))
      rest

  pub says_of : (h : ℕ) (os : List Outcome) → All Opens os → SaysOf h os
  says_of h [] done = inr (refl, refl)
  says_of h (o ∷ os) done = says_with h o os (All-head Opens o os done) (says_of h os (All-tail Opens o os done)) (o.group == h) refl

  -- ---- each group

  module _ (ids : List ℕ) (history : List Recorded) (olds : ℕ → List NodeState) (down : StandsDown rules ids own history olds kept) where
    absent : (h : ℕ) → (kept h).present ≡ false → kept h ≡ no_group
    absent h gone = absent_groups_store_nothing rules ids h history own (kept h) (down.in_world h) gone

    module _ (outcomes : List Outcome) (opened : HasOpened rules stands kept n outcomes) where
      -- the node is up in the state behind the group's step
      pub up_behind : (h : ℕ) → IsUpIn rules n h (step h).state
      up_behind h =
          ⊎_elim
          (λ there. inl (opened.at h there))
          (λ gone.
          let is = absent h gone in
          let untouched = opened.none h gone in
          inr (
            same_state own (kept h) is,
            record {
              absent = (untouched.no_member, opened.well, subst (λ (st : StoredGroup). n.groups.shows h (st ∷ [])) is untouched.stored);
              idle = untouched.idle;
            },
          ))
          (cases_Bool (kept h).present)

      pub says_behind : (h : ℕ) → SaysStepOf rules (said_of h (map part_of outcomes)) (step h)
      says_behind h =
          ⊎_elim
          (λ says. says)
          (λ none.
          subst (λ x. SaysStepOf rules x (step h)) (sym none.0)
          (says_nothing own (kept h) (absent h (sym (opened.there.exactly h) ∙ none.1)) rules))
          (says_of h outcomes opened.done)

      pub opens_in : n.groups.has_failed ≡ false → (h : ℕ) → LeadsIn rules history (Reopen own) (Opened (map part_of outcomes)) n n h (olds h)
      opens_in going h = record {
        news = Up (step h).state ∷ [];
        may_be = is_in_one rules n h (step h).state going (up_behind h);
        leads = opened_leads rules h own history (olds h) (kept h) (map part_of outcomes) (down.among h) (says_behind h);
      }

      -- the node goes down again
      pub closes_in : (names : List Unknown) → NamesNobody names → (h : ℕ)
          → (left : LeadsDown rules n.groups.shows own h (Reopen own) (Stopped names) history (olds h)) × (left.more ≡ [])
      closes_in names nobody h =
          let r = recorded own (Reopen own) (Stopped names) in
          let q = step h in (
            record {
              one = q.state.stored;
              more = [];
              shown = shows_it rules n h q.state (up_behind h);
              leads = one_leads rules h own r history (olds h) (Down (kept h)) (Down q.state.stored) (down.among h)
                  (subst (λ (st : StoredGroup). MayBecome rules h own r history (seen_by h r) (Down (kept h)) (Down st)) (sym (stopped_at_end own (state_of (kept h)) Open))
                  (stop_becomes rules h own history names (nobody h) (kept h) (length q.commands)));
            },
            refl,
          )

pub openings_lead : (rules : MachineRules) (stands : SnapshotBytes → Snapshot → Type 0) (n : NodeValue) (outcomes : List Outcome) → OpeningsLead rules stands n outcomes
openings_lead rules stands n outcomes ids history olds kept down going opened = record {
  once = once_each outcomes opened.there.rising;
  parts = map (part_of rules stands kept n) outcomes;
  says = are_parts rules stands kept n outcomes opened.done;
  leads = opens_in rules stands kept n ids history olds down outcomes opened going;
}

pub closed_openings_lead : (rules : MachineRules) (stands : SnapshotBytes → Snapshot → Type 0) (n : NodeValue) (outcomes : List Outcome) → ClosedOpeningsLead rules stands n outcomes
closed_openings_lead rules stands n outcomes ids history olds kept names down opened nobody h =
    closes_in rules stands kept n ids history olds down outcomes opened names nobody h

-- ---- an opening that stopped

pub left_openings_lead : {F : Type 0} (rules : MachineRules) (own : ℕ) (shows : Shows) (fails : Fails) (why : Fault F) → LeftOpeningsLead rules own shows fails why
left_openings_lead rules own shows fails why ids history olds kept names down stopped nobody h =
    ⊎_elim
    (λ there.
    let left = stopped.left h there in
    let after : ℕ → StoredGroup = λ k. stopped_after k (kept h) (group_step own (state_of (kept h)) Open) in
    record {
      one = after left.0;
      more = after (left.0 + 1) ∷ [];
      shown = left.1;
      leads = left_leads rules h own history names (nobody h) (olds h) (kept h) left.0 (down.among h);
    })
    (λ gone. record {
      one = kept h;
      more = [];
      shown = stopped.none h gone;
      leads = unbegun_leads rules h own history names (nobody h) (olds h) (kept h) (down.among h);
    })
    (cases_Bool (kept h).present)

pub stops_name_nobody : {F : Type 0} (why : Fault F) → StopsNameNobody why
stops_name_nobody (fault.Stopped why unknown) = λ named h. names_own h unknown.items ∙ ap tokens_of (named h)
stops_name_nobody other = tt
