-- No token waits where a quorum has answered, and a leader that leads on tells what ends.
use Rattle.std.specs.Prelude.{◌≡◌, ◌⊎◌, ◌++◌, ℕ, cond, not, Bool, true, false, List, [], ◌∷◌, filter, Contains, refl}
use Rattle.std.proofs.Common.{inl, inr, sym, ap, ◌∙◌, subst, ⊎_elim}
use Rattle.raft_group_step.specs.GroupState.{GroupState, Untold, is_leader}
use Rattle.raft_group_step.specs.GroupEvent.{AddGroup, Call, GroupEvent, Open, Receive}
use Rattle.raft_group_step.specs.GroupStep.{group_step}
use Rattle.raft_laws.specs.GroupWorld.{GroupWorld, Up}
use Rattle.raft_laws.specs.NodeEvent.{Comes}
use Rattle.raft_laws.specs.GroupWorld.{Recorded as GroupRecorded}
use Rattle.raft_laws.specs.OneList.{AreNodeIds, IsGroupHistory}
use Rattle.raft_laws.proofs.BallotSafe.{Among, among_at}
use Rattle.raft_laws.proofs.Counts.{among_contains, at_contains, contains_at}
use Rattle.raft_laws.proofs.HeldLists.{at_node}
use Rattle.raft_laws.proofs.StepFits.{world_after}
use Rattle.raft_laws.proofs.WorldStart.{founded}
use Rattle.raft_laws.proofs.WorldOrigins.{same_up}
use Rattle.raft_step_laws.specs.Tokens.{HasItsOwnVote, OpensWithNone, TokensGo, WaitsLeading, brought, is_due, leads_on}
use Rattle.raft_step_laws.proofs.Telling.{tokens_go}
use Rattle.raft_history_laws.proofs.RunLeads.{waiting_lack_answers}
use Rattle.raft_history_laws.proofs.ServedNodes.{has_own_vote}
use Rattle.raft_history_laws.proofs.WaitingTokens.{waits_own}
use Rattle.raft_machines.specs.Machine.{MachineRules}
use Rattle.raft_headline.specs.ClusterEvent.{Recorded}
use Rattle.raft_headline.specs.Machines.{Replicas, new_replicas}
use Rattle.raft_headline.specs.OwnEvents.{own_events}
use Rattle.raft_headline.specs.Answers.{LeadersTell, NoneWaitsAnswered}
use Rattle.raft_headline.proofs.AsGroup.{SceneFits, scene_fits}
use Rattle.raft_headline.proofs.Ending.{ToldAmong, told_at}
use Rattle.raft_headline.proofs.Happening.{DoneAt, done_at, number, own_step, past, past_is}
use Rattle.raft_headline.proofs.OwnRuns.{runs}
use Rattle.raft_headline.proofs.WorldMachines.{NotOpening}

pub none_waits_answered : (rules : MachineRules) (ids : List ℕ) → AreNodeIds ids → (h : ℕ) (history : List Recorded) (end : Replicas) → NoneWaitsAnswered rules ids h history end
none_waits_answered rules ids fit h history end numbers run n s lead up leads x has =
    waiting_lack_answers ids fit (own_events h history numbers) n s lead
    (ap (λ (w : GroupWorld). w.nodes n) (runs rules h history numbers (new_replicas rules ids) end run) ∙ up) leads x has

-- ---- what a leader tells

-- one that passes is among those that pass, any other among the others
either : (p : Untold → Bool) (xs : List Untold) (x : Untold) → Among x xs → Among x (filter p xs) ⊎ Among x (filter (λ y. not (p y)) xs)
either p [] x a = absurd a
either p (y ∷ xs) x a = go (p y) (λ rest. either p xs x rest)
  where
    go : (b : Bool) → (Among x xs → Among x (filter p xs) ⊎ Among x (filter (λ z. not (p z)) xs)) → Among x (cond b (y ∷ filter p xs) (filter p xs)) ⊎ Among x (cond (not b) (y ∷ filter (λ z. not (p z)) xs) (filter (λ z. not (p z)) xs))
    go true rest = ⊎_elim (λ e. inl (inl e)) (λ b. ⊎_elim (λ l. inl (inr l)) (λ r. inr r) (rest b)) a
    go false rest = ⊎_elim (λ e. inr (inl e)) (λ b. ⊎_elim (λ l. inl l) (λ r. inr (inr r)) (rest b)) a

-- what comes to a node is no opening
opens_with_none : (s : GroupState) (e : GroupEvent) → NotOpening (Comes e) → OpensWithNone s e
opens_with_none s AddGroup h = tt
opens_with_none s (Call call now) h = tt
opens_with_none s (Receive peer m now) h = tt
opens_with_none s Open h = absurd h

module _ (ids : List ℕ) (fit : AreNodeIds ids) (rs : List GroupRecorded) (w : GroupWorld) (past_one : IsGroupHistory ids rs w) (n : ℕ) (s : GroupState) (up : w.nodes n ≡ Up s) where
  votes_own : HasItsOwnVote n s
  votes_own =
      let f = founded ids fit rs w past_one.replays in
      let fits = at_node f.membership (world_after f.membership f.is.matches.before) w f.is.matches.fits n (Up s) up in
      has_own_vote f.membership (world_after f.membership f.is.matches.before) n s fits.1

  waits_leading : WaitsLeading s
  waits_leading quiet = go s.untold refl
    where
      go : (xs : List Untold) → s.untold ≡ xs → xs ≡ []
      go [] is = refl
      go (x ∷ xs) is =
          let waiting = (waits_own ids rs w past_one n s up).0 x (subst (λ l. Contains l x) (sym is) (at_contains (x ∷ xs) x 0 refl)) in
          absurd (let f : true ≡ false = sym (ap is_leader waiting.leads) ∙ quiet in cc)

pub leaders_tell : (rules : MachineRules) (ids : List ℕ) → AreNodeIds ids → (h : ℕ) (history : List Recorded) (end : Replicas) → LeadersTell rules ids h history end
leaders_tell rules ids fit h history end r old new it n s t e comes said done now on =
    let step = own_step rules ids fit h history end r old new it comes.event comes.seen in
    let d : DoneAt n e old new said = done_at rules h comes.event r (number rules ids fit h history end r old new it comes.event comes.seen) old new step n e comes.here said done in
    let here : s ≡ d.state = same_up s d.state (sym comes.is_up ∙ d.was_up) in
    let there : t ≡ (group_step n d.state e).state = same_up t _ (sym now ∙ d.is_up) in
    let leading : leads_on d.state (group_step n d.state e).state ≡ true = ap (λ x. leads_on x (group_step n d.state e).state) (sym here) ∙ ap (leads_on s) (sym there) ∙ on in
    let history_before : IsGroupHistory ids (past rules ids fit h history end r old new it) old.world = past_is rules ids fit h history end r old new it in
    let closed : NotOpening (Comes e) = subst SceneFits comes.here (scene_fits old.world comes.event) in
    let goes : TokensGo d.state e (group_step n d.state e) =
    tokens_go n d.state e (votes_own ids fit _ old.world history_before n d.state d.was_up) (waits_leading ids fit _ old.world history_before n d.state d.was_up) (opens_with_none d.state e closed) d.passed
    in
    record {
      none_unknown = (d.is_said).unknown ∙ goes.none_unknown leading;
      each = λ x has.
          let all = d.state.untold ++ brought d.state e in
          let has_then : Contains all x = subst (λ y. Contains (y.untold ++ brought y e) x) here has in
          let at = contains_at all x has_then in
          ⊎_elim
          (λ told.
          let i = contains_at (group_step n d.state e).told x (subst (λ l. Contains l x) (sym (goes.told leading)) (among_contains (filter (is_due (group_step n d.state e).state) all) x told)) in
          let u : ToldAmong said.told x = told_at d.answers said.told (group_step n d.state e).told i.0 x (d.is_said).told i.1 in
          inl (record { told = u.told; has = u.has; token = u.token; place = u.place }))
          (λ waits.
          inr
          (subst (λ y. Contains y.untold x) (sym there)
          (subst (λ l. Contains l x) (sym (goes.waits leading)) (among_contains (filter (λ y. not (is_due (group_step n d.state e).state y)) all) x waits))))
          (either (is_due (group_step n d.state e).state) all x (among_at all at.0 x at.1));
    }
