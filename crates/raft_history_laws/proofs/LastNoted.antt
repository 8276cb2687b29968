-- The event that stored the entry of a command or change is the last one that noted its log id.
use Rattle.std.specs.Prelude.{◌≡◌, ℕ, zero, suc, ◌<◌, ◌≤◌, ◌^◌, true, false, List, [], ◌∷◌, ◌++◌, drop, length, slice_get, take, Option, Some, None, is_some, unwrap_or, refl}
use Rattle.std.proofs.Common.{sym, ap, ◌∙◌, subst, arith, take-append-drop, take-take}
use Rattle.raft_values.specs.declared.log_id.LogId.{LogId}
use Rattle.raft_values.specs.declared.vote.Vote.{Vote}
use Rattle.raft_group_step.specs.Values.{ChangeMembers, Entry, LoggedMembership, Membership}
use Rattle.raft_group_step.specs.StoredGroup.{StoredGroup, after_storing_all, end_place, held, membership_in_force}
use Rattle.raft_group_step.specs.GroupState.{GroupState}
use Rattle.raft_group_step.specs.declared.group_call.GroupCall.TheVariants.{Initialize, Elect, Propose, ChangeMembership, Heartbeat, Lost, TriggerSnapshot, TriggerPurge}
use Rattle.raft_group_step.specs.GroupEvent.{GroupCall, GroupEvent, Call}
use Rattle.raft_group_step.specs.StepResult.{StepResult}
use Rattle.raft_group_step.specs.GroupStep.{group_step, step_unless}
use Rattle.raft_laws.specs.BallotWorld.{BallotWorld}
use Rattle.raft_laws.specs.BallotRanks.{rank_of}
use Rattle.raft_laws.specs.declared.world_event.WorldEvent.{WorldEvent}
use Rattle.raft_laws.specs.declared.world_event.WorldEvent.TheVariants.{Ask}
use Rattle.raft_laws.specs.GroupWorld.{GroupWorld, NodeState, Up, is_stop, new_world}
use Rattle.raft_laws.specs.NodeEvent.{Comes, after_step, outcome_at, outcome_of_step, state_after}
use Rattle.raft_laws.specs.GroupRun.{Scene, At, Replays, after_scene, group_run, history_of, outcome_in, ran, scene_of_call, stop_at}
use Rattle.raft_laws.specs.VotesRise.{stored_of}
use Rattle.raft_laws.specs.OneList.{AreNodeIds}
use Rattle.raft_laws.specs.Origins.{Events, IsAskedAt, changed_entry, entry_of_call, world_before}
use Rattle.raft_laws.proofs.BallotAgreement.{same_some}
use Rattle.raft_laws.proofs.Ids.{size_same}
use Rattle.raft_laws.proofs.Runs.{run-replays}
use Rattle.raft_laws.proofs.Standing.{OwnVote}
use Rattle.raft_laws.proofs.StepFits.{EventFits, NodeFits, world_after}
use Rattle.raft_laws.proofs.StepMoments.{step_goes}
use Rattle.raft_laws.proofs.WorldOrigins.{run_more}
use Rattle.raft_laws.specs.Stop.{token_of_call}
use Rattle.raft_laws.proofs.WorldTold.{run_both, told_tokens_stand}
use Rattle.raft_laws.proofs.WorldStart.{Founded, founded}
use Rattle.raft_laws.proofs.HeldLists.{at_node}
use Rattle.raft_laws.proofs.Numbers.{state_here}
use Rattle.raft_history_laws.specs.NotedIds.{ToldHaveOrigins, IsNotedAt, OriginIsLast, is_noted, next_id}
use Rattle.raft_history_laws.proofs.Later.{BothMatch, both_match}
use Rattle.raft_history_laws.proofs.LeaderLists.{leader_vote, stored_lead}
use Rattle.raft_history_laws.proofs.NotedIds.{leads_all, taken_leads}
use Rattle.raft_history_laws.proofs.TakenEntries.{HoldsMore, stopped_holds, whole_holds}

-- ---- runs, cut behind an event

pub take_one_more : {A : Type 0} (k : ℕ) (xs : List A) (x : A) → slice_get xs k ≡ Some x → take (suc k) xs ≡ take k xs ++ x ∷ []
take_one_more zero [] x e = absurd (let no : None ≡ Some x = e in cc)
take_one_more zero (y ∷ xs) x e = ap (λ z. z ∷ []) (same_some e)
take_one_more (suc k) [] x e = absurd (let no : None ≡ Some x = e in cc)
take_one_more (suc k) (y ∷ xs) x e = ap (λ l. y ∷ l) (take_one_more k xs x e)

-- the world behind an event
pub world_behind : (es : Events) (number : ℕ) (w : GroupWorld) (x : WorldEvent × Option ℕ) → slice_get es number ≡ Some x → world_before es (suc number) w ≡ ran (world_before es number w) x.0 x.1
world_behind es number w x e = ap (λ (l : Events). group_run l w) (take_one_more number es x e) ∙ run_more (take number es) x w

-- the events between two worlds of a run
abbrev between : Events → ℕ → ℕ → Events
between es first later = drop first (take later es)

world_later : (es : Events) (first later : ℕ) (w : GroupWorld) → first ≤ later → group_run (between es first later) (world_before es first w) ≡ world_before es later w
world_later es first later w le =
    ap (λ (l : Events). group_run (between es first later) (group_run l w)) (sym (take-take first later es le))
    ∙ sym (run_both (take first (take later es)) (between es first later) w)
    ∙ ap (λ (l : Events). group_run l w) (take-append-drop first (take later es))

-- ---- what an event that is taken leaves at its node

-- what is so of what the whole event stores, and of each stop of it, is so of what is stored behind it
module _ (P : StoredGroup → Type 0) (s : GroupState) (e : GroupEvent) where
  abbrev Behind : Option ℕ → StepResult → Type 0
  Behind stop r =
      (st : StoredGroup)
      × (stored_of (after_step (stop_at (is_stop (outcome_of_step (is_some stop) s e r)) (unwrap_or stop 0)) s r) ≡ Some st)
      × P st

  not_refused_behind : (r : StepResult) (stop : Option ℕ) → P r.state.stored → ((k : ℕ) → stop ≡ Some k → P (after_storing_all (take k r.commands) s.stored)) → Behind stop (record r { refused = None })
  not_refused_behind r None whole part = (r.state.stored, refl, whole)
  not_refused_behind r (Some k) whole part = (after_storing_all (take k r.commands) s.stored, refl, part k refl)

  stored_behind : (r : StepResult) (stop : Option ℕ) → r.refused ≡ None → P r.state.stored → ((k : ℕ) → stop ≡ Some k → P (after_storing_all (take k r.commands) s.stored)) → Behind stop r
  stored_behind r stop taken whole part =
      subst (λ o. Behind stop (record r { refused = o })) (sym taken) (not_refused_behind r stop whole part)

-- ---- the event of an entry

call_fits : (m : Membership) (b : BallotWorld) (call : GroupCall) (now : ℕ) → is_noted call ≡ true → EventFits m b (Call call now)
call_fits m b (Initialize first) now t = absurd (let no : false ≡ true = t in cc)
call_fits m b Elect now t = absurd (let no : false ≡ true = t in cc)
call_fits m b (Propose command token) now t = tt
call_fits m b (ChangeMembership change token) now t = tt
call_fits m b Heartbeat now t = absurd (let no : false ≡ true = t in cc)
call_fits m b (Lost peer) now t = absurd (let no : false ≡ true = t in cc)
call_fits m b TriggerSnapshot now t = absurd (let no : false ≡ true = t in cc)
call_fits m b (TriggerPurge place) now t = absurd (let no : false ≡ true = t in cc)

changed_id : (st : StoredGroup) (o : Option LoggedMembership) (change : ChangeMembers) (e : Entry) → changed_entry st o change ≡ Some e → next_id st ≡ e.log_id
changed_id st None change e is = absurd (let no : None ≡ Some e = is in cc)
changed_id st (Some x) change e is = ap (λ (y : Entry). y.log_id) (same_some is)

-- the entry that is written has the log id that is noted
written_id : (st : StoredGroup) (call : GroupCall) (e : Entry) → is_noted call ≡ true → entry_of_call st call ≡ Some e → next_id st ≡ e.log_id
written_id st (Initialize first) e t is = absurd (let no : false ≡ true = t in cc)
written_id st Elect e t is = absurd (let no : false ≡ true = t in cc)
written_id st (Propose command token) e t is = ap (λ (y : Entry). y.log_id) (same_some is)
written_id st (ChangeMembership change token) e t is = changed_id st (membership_in_force st) change e is
written_id st Heartbeat e t is = absurd (let no : false ≡ true = t in cc)
written_id st (Lost peer) e t is = absurd (let no : false ≡ true = t in cc)
written_id st TriggerSnapshot e t is = absurd (let no : false ≡ true = t in cc)
written_id st (TriggerPurge place) e t is = absurd (let no : false ≡ true = t in cc)

module _ (ids : List ℕ) (small : AreNodeIds ids) (es : Events) (number : ℕ) (call : GroupCall) (e : Entry) (a : IsAskedAt es (new_world ids) number call e) (noted : is_noted call ≡ true) where
  abbrev first : GroupWorld
  first = new_world ids

  abbrev early : GroupWorld
  early = world_before es number first

  abbrev next : GroupWorld
  next = world_before es (suc number) first

  abbrev r : StepResult
  r = group_step a.node a.state (Call call a.now)

  early_run : Replays first (history_of (take number es) first) early
  early_run = run-replays (take number es) first

  next_run : Replays first (history_of (take (suc number) es) first) next
  next_run = run-replays (take (suc number) es) first

  f : Founded early
  f = founded ids small (history_of (take number es) first) early early_run

  node_fits : (a.node < 2 ^ 64) × NodeFits f.membership (world_after f.membership f.is.matches.before) a.node a.state
  node_fits = at_node f.membership (world_after f.membership f.is.matches.before) early f.is.matches.fits a.node (Up a.state) a.is_up

  whole : HoldsMore a.state r.state.stored
  whole =
      whole_holds f.membership f.some a.node node_fits.0 f.is.matches.before a.state call a.now node_fits.1
      (call_fits f.membership (world_after f.membership f.is.matches.before) call a.now noted) noted a.taken e a.writes

  part : (k : ℕ) → a.stop ≡ Some k → HoldsMore a.state (after_storing_all (take k r.commands) a.state.stored)
  part k is =
      stopped_holds f.membership f.some a.node node_fits.0 f.is.matches.before a.state call a.now node_fits.1
      (call_fits f.membership (world_after f.membership f.is.matches.before) call a.now noted) noted a.taken e a.writes k (a.stored k is)

  not_refused : r.refused ≡ None
  not_refused = ap (λ o. (step_unless o a.node a.state (Call call a.now)).refused) a.taken ∙ (step_goes a.node a.state (Call call a.now)).taken

  -- the world behind the event, from where it happens
  abbrev behind : Scene → GroupWorld
  behind scene = after_scene early (Ask a.node call a.now) (outcome_in early (is_some a.stop) scene) (stop_at (is_stop (outcome_in early (is_some a.stop) scene)) (unwrap_or a.stop 0)) scene

  next_is : next ≡ behind (At a.node (Comes (Call call a.now)))
  next_is =
      world_behind es number first (Ask a.node call a.now, a.stop) a.event
      ∙ ap (λ t. behind (scene_of_call t a.node call a.now)) a.set_up

  abbrev left : NodeState → NodeState
  left x = state_after a.node (Comes (Call call a.now)) (stop_at (is_stop (outcome_at a.node (Comes (Call call a.now)) (is_some a.stop) x)) (unwrap_or a.stop 0)) x

  node_is : next.nodes a.node ≡ left (Up a.state)
  node_is =
      ap (λ (v : GroupWorld). v.nodes a.node) next_is
      ∙ state_here a.node (left (early.nodes a.node)) early.nodes
      ∙ ap left a.is_up

  -- behind the event its node has one entry more under the same vote
  pub stored_next : (st : StoredGroup) × (stored_of (next.nodes a.node) ≡ Some st) × HoldsMore a.state st
  stored_next =
      let b = stored_behind (HoldsMore a.state) a.state (Call call a.now) r a.stop not_refused whole part in
      (b.0, ap stored_of node_is ∙ b.1, b.2)

  mine : OwnVote a.node a.state.stored.vote true
  mine =
      let lead = taken_leads a.node a.state call a.now noted a.taken in
      leader_vote ids small (history_of (take number es) first) early early_run a.node a.state lead.0 a.is_up lead.1

  not_noted_later : (later : ℕ) → number < later → IsNotedAt es first later e.log_id → ⊥
  not_noted_later later le x =
      let mid = between es (suc number) later in
      let on : Replays next (history_of mid next) (world_before es later first) =
      subst (λ (v : GroupWorld). Replays next (history_of mid next) v) (world_later es (suc number) later first (omega arith)) (run-replays mid next)
      in
      let both : BothMatch next (world_before es later first) =
      both_match ids small (history_of (take (suc number) es) first) (history_of mid next) next (world_before es later first) next_run on
      in
      let m = both.membership in
      let b = world_after m both.first.before in
      let b' = world_after m both.second.before in
      let st = stored_next in
      let had = ap length (stored_lead m both.some both.first.before next both.first.fits a.node st.0 st.1 (subst (λ v. OwnVote a.node v true) (sym st.2.vote) mine)) in
      let size = size_same (held st.0) in
      let lead = taken_leads x.node x.state x.call x.now x.noted x.taken in
      let has = leads_all m both.some both.second.before (world_before es later first) both.second.fits x.node x.state lead.0 x.is_up lead.1 in
      let id : next_id a.state.stored ≡ next_id x.state.stored = written_id a.state.stored call e noted a.writes ∙ sym x.next in
      let place : end_place a.state.stored ≡ end_place x.state.stored = ap (λ (i : LogId ℕ). i.index) id in
      let rank : rank_of st.0.vote.leader_id ≡ rank_of x.state.stored.vote.leader_id =
      ap (λ (v : Vote ℕ). rank_of v.leader_id) st.2.vote ∙ ap (λ (i : LogId ℕ). rank_of i.leader_id) id
      in
      let more = (both.second.later.lead (rank_of st.0.vote.leader_id)).right in
      let same : length (b'.lead (rank_of st.0.vote.leader_id)) ≡ length (b'.lead (rank_of x.state.stored.vote.leader_id)) = ap (λ k. length (b'.lead k)) rank in
      let longer = st.2.longer in
      omega arith

  asked_noted : IsNotedAt es first number e.log_id
  asked_noted =
      record {
        node = a.node;
        call = call;
        now = a.now;
        stop = a.stop;
        state = a.state;
        event = a.event;
        is_up = a.is_up;
        noted = noted;
        taken = a.taken;
        next = written_id a.state.stored call e noted a.writes;
      }

pub origin_is_last : OriginIsLast
origin_is_last ids small es number call e a noted =
    record {
      noted = asked_noted ids small es number call e a noted;
      last = not_noted_later ids small es number call e a noted;
    }

-- a call that brings a token is noted
pub token_noted : (call : GroupCall) (token : ℕ) → token_of_call call ≡ token ∷ [] → is_noted call ≡ true
token_noted (Initialize membership) token e = absurd (let f : [] ≡ token ∷ [] = e in cc)
token_noted Elect token e = absurd (let f : [] ≡ token ∷ [] = e in cc)
token_noted (Propose command t) token e = refl
token_noted (ChangeMembership change t) token e = refl
token_noted Heartbeat token e = absurd (let f : [] ≡ token ∷ [] = e in cc)
token_noted (Lost peer) token e = absurd (let f : [] ≡ token ∷ [] = e in cc)
token_noted TriggerSnapshot token e = absurd (let f : [] ≡ token ∷ [] = e in cc)
token_noted (TriggerPurge place) token e = absurd (let f : [] ≡ token ∷ [] = e in cc)

-- a told token's event is the origin of its entry's log id
pub told_have_origins : ToldHaveOrigins
told_have_origins ids small es last sent told unknown done x within =
    let t = told_tokens_stand ids small es last sent told unknown done x within in
    (t, origin_is_last ids small (es ++ last ∷ []) t.number t.call t.entry t.asked (token_noted t.call x.token t.token))
