-- An event of a group at its node, put together of what the groups did and of what the node made of it.
use Rattle.std.proofs.Common.{◌≡◌, inl, inr, ◌++◌, ℕ, Bool, true, false, List, [], ◌∷◌, Option, None, Result, Ok, Err, refl, sym, ap, subst, ◌∙◌}
use Rattle.std.proofs.lemmas.List.{append-nil}
use Rattle.raft_group_step.specs.GroupEvent.{Call, GroupCall, GroupEvent, Receive}
use Rattle.raft_group_step.specs.Message.{Message as Said}
use Rattle.raft_group_step.specs.GroupState.{GroupState, Untold}
use Rattle.raft_group_step.specs.StoredGroup.{Snapshot, StoredGroup, end_place}
use Rattle.raft_group_storage.specs.Keeping.{KeepsOthers}
use Rattle.raft_messages.specs.declared.memberships.SnapshotBytes.{SnapshotBytes}
use Rattle.raft_laws.specs.GroupWorld.{NodeState}
use Rattle.raft_laws.specs.Stop.{token_of_call}
use Rattle.raft_member.specs.Member.{HasBrokenOff, HasStopped}
use Rattle.raft_member.specs.declared.member.Broken.{Broken}
use Rattle.raft_member.specs.declared.member.Member.{Member}
use Rattle.raft_groups.specs.Faults.{HasBegun}
use Rattle.raft_member.specs.declared.member.Broken.TheVariants as broken
use Rattle.raft_groups.specs.declared.fault.GroupsFault.TheVariants as groups_fault
use Rattle.raft_step_laws.specs.Tokens.{tokens_at}
use Rattle.raft_applier.specs.Following.{with_brought}
use Rattle.raft_framed_groups.specs.Answers.{GoesOn as GroupsGoOn, IsFrom, IsOfGroup, IsTakenOr, IsTurnedAway, Node, Stands}
use Rattle.raft_framed_groups.proofs.FramedLemmas.{only_unsent}
use Rattle.raft_framed_groups.specs.declared.answering.AnswerError.{AnswerError}
use Rattle.raft_framed_groups.specs.declared.answering.AnswerError.TheVariants as error
use Rattle.raft_framed_groups.specs.declared.answering.Outcome.{Outcome as Framed}
use Rattle.raft_framed_groups.specs.declared.answering.Outcome.TheVariants as framed
use Rattle.raft_machines.specs.Machine.{MachineRules}
use Rattle.raft_wire.specs.Stream.{Feeding}
use Rattle.raft_node_faults.specs.declared.fault.Cause.{Cause}
use Rattle.raft_node_faults.specs.declared.fault.Fault.{Fault}
use Rattle.raft_node_faults.specs.declared.fault.Fault.TheVariants as fault
use Rattle.raft_node.specs.Ending.{FailsBy, GoesOn, HasEnded, NamesElse, StaysElse}
use Rattle.raft_node.specs.Running.{Running, RunsAt}
use Rattle.raft_node.specs.Settling.{IsAnswerFault, IsAnswered, IsPassedOn, IsStoppedBy, IsTold, NamesAll, waits_in}
use Rattle.raft_node.specs.Standing.{NodeValue}
use Rattle.raft_node.specs.Waiting.{waiting_of}
use Rattle.raft_node.specs.declared.outcome.Outcome.{Outcome}
use Rattle.raft_node.proofs.Ends.{met_ends, unsent_ends, unsent_of}
use Rattle.raft_group_storage.specs.Keeping.{Fails, FailsAnyhow, ShowsMore}

-- ---- what a node makes of an answer

module _ {F : Type 0} where
  -- a stop is no refusal
  pub stop_not_on : (cause : Cause F) (why : Fault F) → IsStoppedBy cause why → GoesOn {T = Outcome} (Err why) → ⊥
  stop_not_on cause (fault.Stopped met unknown) by goes = goes
  stop_not_on cause other by goes = by

  -- what is refused is passed on
  pub error_passed : (same : Type 0) (running : ℕ → Option Running) (met : AnswerError F) (why : Fault F) → IsAnswerFault met why → NamesAll same running why → IsPassedOn {F = F} same (Err met) (Err why)
  error_passed same running (error.Stream f) why is names = tt
  error_passed same running error.WrongParty why is names = (ap Err is, subst (NamesAll same running) is names)
  error_passed same running (error.Groups groups_fault.Failed) why is names = (ap Err is, subst (NamesAll same running) is names)
  error_passed same running (error.Groups groups_fault.UnknownGroup) why is names = (ap Err is, subst (NamesAll same running) is names)
  error_passed same running (error.Groups groups_fault.GroupExists) why is names = (ap Err is, subst (NamesAll same running) is names)
  error_passed same running (error.Groups (groups_fault.Stopped broken)) why is names = stop_not_on _ why is
  error_passed same running (error.Unsent f) why is names = tt

  module _ (rules : MachineRules) (stands : SnapshotBytes → Snapshot → Type 0) (same : Type 0) (old new : NodeValue) (group : ℕ) (s : GroupState) (e : GroupEvent) where
    -- an event that has no answer ended so
    pub error_ends : (met : AnswerError F) (why : Fault F) → ShowsMore new.groups.shows → (new.groups.is_well → FailsAnyhow new.groups.fails) → IsAnswered rules stands old group s e (Err met) → IsTold same old new why → IsAnswerFault met why
        → HasEnded rules stands new group s e (Err why)
    error_ends (error.Stream f) why more fine answered told is = absurd (only_unsent group answered.taken.0 (error.Stream f) answered.taken.2)
    error_ends error.WrongParty why more fine answered told is = absurd (only_unsent group answered.taken.0 error.WrongParty answered.taken.2)
    error_ends (error.Groups groups_fault.Failed) why more fine answered told is = absurd answered.taken
    error_ends (error.Groups groups_fault.UnknownGroup) why more fine answered told is = absurd answered.taken
    error_ends (error.Groups groups_fault.GroupExists) why more fine answered told is = absurd answered.taken
    error_ends (error.Groups (groups_fault.Stopped met)) why more fine answered told is = met_ends F rules stands old new group s e told.own more fine same met why answered told is
    error_ends (error.Unsent f) why more fine answered told is =
        let x = unsent_of stands old group s e F f answered.taken.0 answered.taken.1 answered.taken.2 in
        unsent_ends F rules stands old new group s e told.own more fine same f x.0 why x.1 x.2 answered.runs told is

-- ---- the others, over two parts of an event

-- the first part of a group's event leaves the others, if the node goes on behind the second one
pub record Reaches (old mid : NodeValue) (group : ℕ) (goes : Type 0) : Type 0 where
  pub own : mid.groups.own ≡ old.groups.own
  pub members : (other : ℕ) (x : NodeState) → (other ≡ group → ⊥) → goes → Stands old.groups other x → Stands mid.groups other x
  pub running : (other : ℕ) → (other ≡ group → ⊥) → mid.running other ≡ old.running other
  pub kept : KeepsOthers old.groups.shows mid.groups.shows group
  pub streams : (peer : ℕ) → mid.streams peer ≡ old.streams peer
  pub flag : goes → mid.groups.has_failed ≡ old.groups.has_failed

module _ {F : Type 0} where
  fails_over : (old mid new : Bool) (result : Result Outcome (Fault F)) → (GoesOn result → mid ≡ old) → FailsBy mid result new → FailsBy old result new
  fails_over old mid new (Ok o) flag is = is ∙ flag tt
  fails_over old mid new (Err (fault.Stopped why unknown)) flag is = is
  fails_over old mid new (Err other) flag is = is ∙ flag tt

  names_over : (old mid : NodeValue) (group : ℕ) (result : Result Outcome (Fault F)) → ((other : ℕ) → (other ≡ group → ⊥) → mid.running other ≡ old.running other) → NamesElse mid group result → NamesElse old group result
  names_over old mid group (Ok o) runs names = tt
  names_over old mid group (Err (fault.Stopped why unknown)) runs names = λ other apart. names other apart ∙ ap waiting_of (runs other apart)
  names_over old mid group (Err other) runs names = tt

  pub reach_elsewhere : (old mid new : NodeValue) (group : ℕ) (result : Result Outcome (Fault F)) → Reaches old mid group (GoesOn result) → StaysElse mid new group result → StaysElse old new group result
  reach_elsewhere old mid new group result first second = record {
    own = second.own ∙ first.own;
    members = λ other x apart goes stands. second.members other x apart goes (first.members other x apart goes stands);
    running = λ other apart goes. second.running other apart goes ∙ first.running other apart;
    kept = λ other parts apart shown. second.kept other parts apart (first.kept other parts apart shown);
    named = names_over old mid group result first.running second.named;
    streams = λ peer. second.streams peer ∙ first.streams peer;
    fails = fails_over old.groups.has_failed mid.groups.has_failed new.groups.has_failed result first.flag second.fails;
  }

  -- the groups were asked
  module _ (old mid : Node) (group : ℕ) where
    stands_over : (answered : Result Framed (AnswerError F)) (result : Result Outcome (Fault F)) (same : Type 0) → IsOfGroup old mid group answered
        → ((other : ℕ) (x : NodeState) → IsTurnedAway answered → Stands old other x → Stands mid other x) → IsPassedOn same answered result
        → (other : ℕ) (x : NodeState) → (other ≡ group → ⊥) → GoesOn result → Stands old other x → Stands mid other x
    stands_over (Ok done) result same is away passed other x apart goes stands = is.others other x apart stands tt
    stands_over (Err (error.Stream why)) result same is away passed other x apart goes stands = is.others other x apart stands tt
    stands_over (Err error.WrongParty) result same is away passed other x apart goes stands = is.others other x apart stands tt
    stands_over (Err (error.Groups groups_fault.Failed)) result same is away passed other x apart goes stands = away other x tt stands
    stands_over (Err (error.Groups groups_fault.UnknownGroup)) result same is away passed other x apart goes stands = away other x tt stands
    stands_over (Err (error.Groups groups_fault.GroupExists)) result same is away passed other x apart goes stands = away other x tt stands
    stands_over (Err (error.Groups (groups_fault.Stopped met))) result same is away passed other x apart goes stands = absurd (passed goes)
    stands_over (Err (error.Unsent why)) result same is away passed other x apart goes stands = is.others other x apart stands tt

    flag_over : (answered : Result Framed (AnswerError F)) (result : Result Outcome (Fault F)) (same : Type 0) → GroupsGoOn old.has_failed answered mid.has_failed → IsPassedOn same answered result → GoesOn result → mid.has_failed ≡ old.has_failed
    flag_over (Err (error.Groups (groups_fault.Stopped met))) result same is passed goes = absurd (passed goes)
    flag_over answered result same is passed goes = is

    pub asked_reaches : (before behind : ℕ → Option Running) (streams : ℕ → Feeding) (answered : Result Framed (AnswerError F)) (result : Result Outcome (Fault F)) (same : Type 0) → mid.own ≡ old.own → IsOfGroup old mid group answered
        → ((other : ℕ) (x : NodeState) → IsTurnedAway answered → Stands old other x → Stands mid other x) → ((other : ℕ) → (other ≡ group → ⊥) → behind other ≡ before other) → IsPassedOn same answered result
        → Reaches (record { groups = old; running = before; streams = streams }) (record { groups = mid; running = behind; streams = streams }) group (GoesOn result)
    asked_reaches before behind streams answered result same own is away runs passed = record {
      own = own;
      members = stands_over answered result same is away passed;
      running = runs;
      kept = is.kept;
      streams = λ peer. refl;
      flag = flag_over answered result same is.goes_on passed;
    }

-- ---- who waits

-- a call without a token brings none
pub none_brought : (rules : MachineRules) (r : Option Running) (s : GroupState) (call : GroupCall) (now : ℕ) → token_of_call call ≡ [] → RunsAt rules r s → RunsAt rules r (with_brought s (Call call now))
none_brought rules r s call now none runs =
    subst (λ (l : List Untold). RunsAt rules r (record s { untold = l }))
    (sym (ap (λ ts. s.untold ++ tokens_at (end_place s.stored) ts) none ∙ append-nil s.untold)) runs

-- a call with a token brings that
pub one_brought : (rules : MachineRules) (r : Option Running) (s : GroupState) (call : GroupCall) (token now : ℕ) → token_of_call call ≡ token ∷ []
    → RunsAt rules r (record s { untold = s.untold ++ record { token = token; place = end_place s.stored } ∷ [] }) → RunsAt rules r (with_brought s (Call call now))
one_brought rules r s call token now one runs =
    subst (λ (l : List Untold). RunsAt rules r (record s { untold = l })) (sym (ap (λ ts. s.untold ++ tokens_at (end_place s.stored) ts) one)) runs

pub runs_by : {F : Type 0} (rules : MachineRules) (r : Option Running) (s : GroupState) (e : GroupEvent) (answered : Result Framed (AnswerError F)) → RunsAt rules r s → RunsAt rules r (with_brought s e) → RunsAt rules r (waits_in s e answered)
runs_by rules r s e (Ok (framed.Refused why)) here behind = here
runs_by rules r s e (Err (error.Groups (groups_fault.Stopped (broken.Unjudged met)))) here behind = here
runs_by rules r s e answered here behind = behind

-- ---- the groups' own id

abbrev pub with_own : Node → ℕ → Node
with_own n own = record { own = own; has_failed = n.has_failed; members = n.members; is_well = n.is_well; shows = n.shows; fails = n.fails }

module _ {F : Type 0} where
  pub taken_now : (n : Node) (own : ℕ) → own ≡ n.own → (stands : SnapshotBytes → Snapshot → Type 0) (group : ℕ) (s : GroupState) (e : GroupEvent) (answered : Result Framed (AnswerError F))
      → IsTakenOr (λ met member. HasBrokenOff n.is_well (n.shows group) n.fails n.own s e member met) stands n group s e answered
      → IsTakenOr (λ met member. HasBrokenOff n.is_well (n.shows group) n.fails own s e member met) stands (with_own n own) group s e answered
  taken_now n own is stands group s e answered h =
      subst (λ k. IsTakenOr (λ met member. HasBrokenOff n.is_well (n.shows group) n.fails k s e member met) stands (with_own n k) group s e answered) (sym is) h

  pub of_group_now : (old n : Node) (own : ℕ) → own ≡ n.own → (group : ℕ) (answered : Result Framed (AnswerError F)) → IsOfGroup old n group answered → IsOfGroup old (with_own n own) group answered
  of_group_now old n own is group answered h = subst (λ k. IsOfGroup old (with_own n k) group answered) (sym is) h

-- ---- the groups were asked, and their answer is settled

module _ {F : Type 0} (same here : Type 0) (old mid : NodeValue) (group : ℕ) (answered : Result Framed (AnswerError F)) (result : Result Outcome (Fault F)) where
  -- what is refused before it comes to a group leaves all as it was
  pub record Passes : Type 0 where
    pub away : IsTurnedAway answered → (other : ℕ) (x : NodeState) → Stands old.groups other x → Stands mid.groups other x
    pub back : IsTurnedAway answered → here → same
    pub passed : IsPassedOn here answered result

  pub failed_event : old.groups.has_failed ≡ true → IsOfGroup old.groups mid.groups group answered → Passes → (result ≡ Err fault.Failed) × same
  failed_event has is p =
      let f = is.failed has in
      let x : (result ≡ Err fault.Failed) × here = subst (λ a. IsPassedOn here a result) f p.passed in
      (x.0, p.back (subst IsTurnedAway (sym f) tt) x.1)

  pub unknown_event : old.groups.has_failed ≡ false → old.groups.members group ≡ None → IsOfGroup old.groups mid.groups group answered → Passes → (result ≡ Err fault.UnknownGroup) × same
  unknown_event going none is p =
      let f = is.unknown going none in
      let x : (result ≡ Err fault.UnknownGroup) × here = subst (λ a. IsPassedOn here a result) f p.passed in
      (x.0, p.back (subst IsTurnedAway (sym f) tt) x.1)

-- ---- frames

-- a frame of the right party was taken
pub of_right : {G F : Type 0} (right : Bool) (before behind : G) (T : Type 0) (answered : Result Framed (AnswerError F)) → IsFrom right before behind T answered → right ≡ true → T
of_right right before behind T answered (inl wrong) is = absurd (let no : false ≡ true = sym wrong.0 ∙ is in cc)
of_right right before behind T answered (inr taken) is = taken.1

pub of_wrong : {G F : Type 0} (right : Bool) (before behind : G) (T : Type 0) (answered : Result Framed (AnswerError F)) → IsFrom right before behind T answered → right ≡ false → (answered ≡ Err error.WrongParty) × (behind ≡ before)
of_wrong right before behind T answered (inl wrong) is = (wrong.1, wrong.2)
of_wrong right before behind T answered (inr taken) is = absurd (let no : true ≡ false = sym taken.0 ∙ is in cc)

-- what was begun broke off
begun_breaks : {F : Type 0} (is_well : Type 0) (shown : List StoredGroup → Type 0) (fails : Fails) (own : ℕ) (s : GroupState) (e : GroupEvent) (member : Member) (met : Broken F) → HasBegun (HasStopped shown fails own s e member) met → HasBrokenOff is_well shown fails own s e member met
begun_breaks is_well shown fails own s e member (broken.Unjudged why) h = absurd h
begun_breaks is_well shown fails own s e member (broken.Begun why) h = h

pub begun_taken : {F : Type 0} (stands : SnapshotBytes → Snapshot → Type 0) (n : Node) (group : ℕ) (s : GroupState) (e : GroupEvent) (answered : Result Framed (AnswerError F))
    → IsTakenOr (λ met member. HasBegun (HasStopped (n.shows group) n.fails n.own s e member) met) stands n group s e answered
    → IsTakenOr (λ met member. HasBrokenOff n.is_well (n.shows group) n.fails n.own s e member met) stands n group s e answered
begun_taken stands n group s e (Err (error.Groups groups_fault.Failed)) h = h
begun_taken stands n group s e (Err (error.Groups groups_fault.UnknownGroup)) h = h
begun_taken stands n group s e (Err (error.Groups groups_fault.GroupExists)) h = h
begun_taken stands n group s e (Err (error.Groups (groups_fault.Stopped met))) h =
    record { member = h.member; has = h.has; owned = h.owned; holds = begun_breaks n.is_well (n.shows group) n.fails n.own s e h.member met h.holds }
begun_taken stands n group s e (Err (error.Stream why)) h = h
begun_taken stands n group s e (Err error.WrongParty) h = h
begun_taken stands n group s e (Err (error.Unsent why)) h = h
begun_taken stands n group s e (Ok done) h = h

-- a message brings no token
pub none_said : (rules : MachineRules) (r : Option Running) (s : GroupState) (peer : ℕ) (m : Said) (now : ℕ) → RunsAt rules r s → RunsAt rules r (with_brought s (Receive peer m now))
none_said rules r s peer m now runs = subst (λ (l : List Untold). RunsAt rules r (record s { untold = l })) (sym (append-nil s.untold)) runs
