-- The tokens of a node that is up wait in its lead, above all that is committed.
use Rattle.std.specs.Prelude.{◌≡◌, ◌⊎◌, ℕ, ◌<◌, ◌≤◌, ◌^◌, cond, not, Bool, true, false, List, [], ◌∷◌, ◌++◌, filter, length, Option, Some, None, Contains, refl}
use Rattle.std.proofs.Common.{inl, inr, sym, ap, ◌∙◌, subst, arith, ⊎_elim, append-nil}
use Rattle.std.proofs.lemmas.Bool.{not-true}
use Rattle.std.proofs.lemmas.Option.{slice_get_within}
use Rattle.raft_values.specs.declared.vote.Vote.{Vote}
use Rattle.raft_group_step.specs.Values.{Entry, LoggedMembership, Membership}
use Rattle.raft_group_step.specs.StoredGroup.{StoredGroup, end_place, held, membership_in_force}
use Rattle.raft_group_step.specs.GroupState.{GroupState, Lead, Role, Follower, Candidate, Leader, Untold, is_leader, no_group, state_of}
use Rattle.raft_group_step.specs.Values.{ChangeMembers}
use Rattle.raft_group_step.specs.declared.group_call.GroupCall.TheVariants.{Initialize, Elect, Propose, ChangeMembership, Heartbeat, Lost, TriggerSnapshot, TriggerPurge}
use Rattle.raft_group_step.specs.GroupEvent.{GroupEvent, AddGroup, Call, Receive, Open}
use Rattle.raft_group_step.specs.StepResult.{RefusalReason, StepResult}
use Rattle.raft_group_step.specs.Refusal.{refusal_of}
use Rattle.raft_group_step.specs.GroupStep.{group_step, step_unless}
use Rattle.raft_laws.specs.BallotWorld.{BallotEvent, ballot_start}
use Rattle.raft_laws.specs.BallotRanks.{ballot_group, rank_of}
use Rattle.raft_laws.specs.GroupWorld.{GroupWorld, NodeState, Absent, Up, Down, Recorded, new_world, state_or}
use Rattle.raft_laws.specs.NodeEvent.{Comes, Restarts, after_step}
use Rattle.raft_laws.specs.GroupRun.{Replays, stop_at}
use Rattle.raft_laws.specs.OneList.{AreNodeIds}
use Rattle.raft_laws.proofs.BallotAgreement.{same_some}
use Rattle.raft_laws.proofs.BallotRuns.{run_next}
use Rattle.raft_laws.proofs.BallotSettling.{run_append}
use Rattle.raft_laws.proofs.BallotStep.{Later}
use Rattle.raft_laws.proofs.Counts.{contains_at}
use Rattle.raft_laws.proofs.Shapes.{joined_end, joined_held}
use Rattle.raft_laws.proofs.StepDispatch.{step_fits}
use Rattle.raft_laws.proofs.StepEntries.{Each, each_append, each_at, each_filter, each_more}
use Rattle.raft_laws.proofs.StepFits.{EventFits, NodeFits, StepEnd, world_after, world_later}
use Rattle.raft_laws.proofs.StepTold.{ChangeToken, EventToken, TokenFits, TokensEnd, TokensFit, step_tells, token_at}
use Rattle.raft_laws.proofs.WorldFits.{after_safe}
use Rattle.raft_laws.proofs.WorldSteps.{MayCome}
use Rattle.raft_history_laws.specs.WaitingTokens.{AreRising, IsWaiting, WaitsOwn}
use Rattle.raft_history_laws.proofs.AlongNodes.{NodesKeep, along_nodes}
use Rattle.raft_history_laws.proofs.NotedIds.{leads_all_at}
use Rattle.raft_history_laws.proofs.StepLeads.{BeganWithin, began_of, none_began}
use Rattle.raft_history_laws.proofs.StepWaits.{WaitsOn, brought, due, opening_waits, step_waits}

-- ---- lists of tokens

pub each_contains : {A : Type 0} (P : A → Type 0) (xs : List A) (x : A) → Each P xs → Contains xs x → P x
each_contains P xs x h c = let k = contains_at xs x c in each_at P xs k.0 x h k.1

-- what passes has passed
pub all_pass : {A : Type 0} (p : A → Bool) (xs : List A) → Each (λ x. p x ≡ true) (filter p xs)
all_pass p [] = tt
all_pass p (x ∷ xs) = go (p x) refl (all_pass p xs)
  where
    go : (b : Bool) → p x ≡ b → Each (λ y. p y ≡ true) (filter p xs) → Each (λ y. p y ≡ true) (cond b (x ∷ filter p xs) (filter p xs))
    go true e rest = (e, rest)
    go false e rest = rest

pub each_both : {A : Type 0} (P Q : A → Type 0) (xs : List A) → Each P xs → Each Q xs → Each (λ x. P x × Q x) xs
each_both P Q [] h k = tt
each_both P Q (x ∷ xs) h k = ((h.0, k.0), each_both P Q xs h.1 k.1)

-- by rising place, each with those behind it
abbrev pub Rise : List Untold → Type 0
Rise [] = Unit {0}
Rise (x ∷ xs) = Each (λ (y : Untold). x.place < y.place) xs × Rise xs

rise_filter : (p : Untold → Bool) (xs : List Untold) → Rise xs → Rise (filter p xs)
rise_filter p [] h = tt
rise_filter p (x ∷ xs) h = go (p x) (rise_filter p xs h.1)
  where
    go : (b : Bool) → Rise (filter p xs) → Rise (cond b (x ∷ filter p xs) (filter p xs))
    go true rest = (each_filter (λ (y : Untold). x.place < y.place) p xs h.0, rest)
    go false rest = rest

rise_last : (y : Untold) (xs : List Untold) → Each (λ (x : Untold). x.place < y.place) xs → Rise xs → Rise (xs ++ y ∷ [])
rise_last y [] h r = (tt, tt)
rise_last y (x ∷ xs) h r = (each_append (λ (z : Untold). x.place < z.place) xs (y ∷ []) r.0 (h.0, tt), rise_last y xs h.1 r.1)

pub are_rising : (xs : List Untold) → Rise xs → AreRising xs
are_rising [] h = tt
are_rising (x ∷ xs) h = ((λ y c. each_contains (λ (z : Untold). x.place < z.place) xs y h.0 c), are_rising xs h.1)

-- ---- a node that is up

-- an event brings a token at the node's next place, or none
pub brings_one : (st : StoredGroup) (e : GroupEvent) → (brought st e ≡ []) ⊎ ((token : ℕ) × (brought st e ≡ token_at st token ∷ []))
brings_one st AddGroup = inl refl
brings_one st (Call (Initialize first) now) = inl refl
brings_one st (Call Elect now) = inl refl
brings_one st (Call (Propose command token) now) = inr (token, refl)
brings_one st (Call (ChangeMembership change token) now) = inr (token, refl)
brings_one st (Call Heartbeat now) = inl refl
brings_one st (Call (Lost peer) now) = inl refl
brings_one st (Call TriggerSnapshot now) = inl refl
brings_one st (Call (TriggerPurge place) now) = inl refl
brings_one st (Receive peer x now) = inl refl
brings_one st Open = inl refl

pub record TokensWait (s : GroupState) : Type 0 where
  pub others : is_leader s.role ≡ false → s.untold ≡ []
  pub began : BeganWithin s.role s.stored
  pub each : Each (IsWaiting s) s.untold
  pub rise : Rise s.untold

pub no_tokens : (s : GroupState) → s.untold ≡ [] → BeganWithin s.role s.stored → TokensWait s
no_tokens s e b =
    record {
      others = λ n. e;
      began = b;
      each = subst (Each (IsWaiting s)) (sym e) tt;
      rise = subst Rise (sym e) tt;
    }

pub which_role : (role : Role) → (is_leader role ≡ false) ⊎ ((lead : Lead) × (role ≡ Leader lead))
which_role Follower = inl refl
which_role (Candidate granters) = inl refl
which_role (Leader lead) = inr (lead, refl)

module _ (m : Membership) (some : 0 < length m.configs) (own : ℕ) (small : own < 2 ^ 64) (before : List BallotEvent) (s : GroupState) (e : GroupEvent) (fits : NodeFits m (world_after m before) own s) (event_fits : EventFits m (world_after m before) e) (passed : refusal_of own s e ≡ None) (h : TokensWait s) where
  abbrev r : StepResult
  r = group_step own s e

  pub end : StepEnd m own before s.stored r
  end = step_fits m some own small before s e fits event_fits

  abbrev pub after : List BallotEvent
  after = before ++ end.later.events

  after_is : world_after m after ≡ world_later m own before end.later
  after_is = run_append (ballot_group m) some before end.later.events (ballot_start (ballot_group m))

  pub fits_after : NodeFits m (world_after m after) own r.state
  fits_after = subst (λ b. NodeFits m b own r.state) (sym after_is) end.node

  later : Later (world_after m before) (world_after m after)
  later =
      subst (Later (world_after m before)) (sym after_is)
      (run_next (ballot_group m) some (world_after m before) end.later.events (after_safe m some before)).later

  -- what a token of this lead stands for
  abbrev pub Q : Untold → Entry → Type 0
  Q x y = (y.log_id.leader_id ≡ s.stored.vote.leader_id) × ((place : ℕ) → began_of s.role ≡ Some place → place ≤ x.place)

  fits_now : TokensFit Q s
  fits_now =
      record {
        untold =
            each_more (IsWaiting s) (TokenFits Q s.stored)
            (λ x i. (
              i.entry,
              i.stands,
              (
                i.own,
                λ place began.
                    let e : place ≡ i.lead.began = same_some (sym began ∙ ap began_of i.leads) in
                    let l = i.since in omega arith,
              ),
            ))
            s.untold h.each;
        leads = h.others;
      }

  new_fits : (place : ℕ) → began_of s.role ≡ Some place → place ≤ end_place s.stored
  new_fits place began = h.began place began

  changed_wanted : (o : Option LoggedMembership) (change : ChangeMembers) (token : ℕ) → ChangeToken Q s.stored o change token
  changed_wanted None change token = tt
  changed_wanted (Some x) change token = (refl, new_fits)

  wanted : (f : GroupEvent) → EventToken Q s.stored f
  wanted AddGroup = tt
  wanted (Call (Initialize first) now) = tt
  wanted (Call Elect now) = tt
  wanted (Call (Propose command token) now) = (refl, new_fits)
  wanted (Call (ChangeMembership change token) now) = changed_wanted (membership_in_force s.stored) change token
  wanted (Call Heartbeat now) = tt
  wanted (Call (Lost peer) now) = tt
  wanted (Call TriggerSnapshot now) = tt
  wanted (Call (TriggerPurge place) now) = tt
  wanted (Receive peer x now) = tt
  wanted Open = tt

  pub tells : TokensEnd Q r
  tells = step_tells Q m some own small before s e fits event_fits fits_now (λ o. wanted e)

  module _ (w : WaitsOn s (brought s.stored e) r) where
    -- a leader's log never gets shorter
    end_grows : (lead lead' : Lead) → s.role ≡ Leader lead → r.state.role ≡ Leader lead' → end_place s.stored ≤ end_place r.state.stored
    end_grows lead lead' a b =
        let x = leads_all_at m some before own s lead fits a in
        let y = leads_all_at m some after own r.state lead' fits_after b in
        let l = (later.lead (rank_of s.stored.vote.leader_id)).right in
        let same : length ((world_after m after).lead (rank_of r.state.stored.vote.leader_id)) ≡ length ((world_after m after).lead (rank_of s.stored.vote.leader_id)) =
        ap (λ (v : Vote ℕ). length ((world_after m after).lead (rank_of v.leader_id))) w.vote
        in
        omega arith

    began_after : BeganWithin r.state.role r.state.stored
    began_after place is =
        ⊎_elim
        (λ none. absurd (not_none r.state.role none is))
        (λ x.
        ⊎_elim
        (λ none. absurd (not_none s.role none (sym w.began ∙ is)))
        (λ y.
        let l = end_grows y.0 x.0 y.1 x.1 in
        let b = h.began place (sym w.began ∙ is) in omega arith)
        (which_role s.role))
        (which_role r.state.role)
      where
        not_none : (role : Role) → is_leader role ≡ false → began_of role ≡ Some place → ⊥
        not_none Follower n b = let f : None ≡ Some place = b in cc
        not_none (Candidate granters) n b = let f : None ≡ Some place = b in cc
        not_none (Leader lead) n b = let f : true ≡ false = n in cc

    waiting_after : (lead : Lead) → r.state.role ≡ Leader lead → (x : Untold) → (TokenFits Q r.state.stored x × (not (due r.state.committed x) ≡ true)) → IsWaiting r.state x
    waiting_after lead leads x f =
        let u = fits_after.up in
        let inside = slice_get_within (held r.state.stored) x.place f.0.0 f.0.1 in
        let size = ap length (joined_held r.state.stored u.list u.joined) in
        let ends = joined_end r.state.stored u.list u.joined in
        record {
          lead = lead;
          leads = leads;
          since = f.0.2.1 lead.began (sym w.began ∙ ap began_of leads);
          within = omega arith;
          above = not-true (due r.state.committed x) f.1;
          entry = f.0.0;
          stands = f.0.1;
          own = f.0.2.0 ∙ ap (λ (v : Vote ℕ). v.leader_id) (sym w.vote);
        }

    all_above : Each (λ (x : Untold). not (due r.state.committed x) ≡ true) r.state.untold
    all_above =
        subst (Each (λ (x : Untold). not (due r.state.committed x) ≡ true)) (sym w.untold)
        (all_pass (λ x. not (due r.state.committed x)) (s.untold ++ brought s.stored e))

    each_after : Each (IsWaiting r.state) r.state.untold
    each_after =
        ⊎_elim
        (λ none. subst (Each (IsWaiting r.state)) (sym (tells.left.leads none)) tt)
        (λ x. each_more (λ y. TokenFits Q r.state.stored y × (not (due r.state.committed y) ≡ true)) (IsWaiting r.state) (waiting_after x.0 x.1) r.state.untold (each_both (TokenFits Q r.state.stored) (λ y. not (due r.state.committed y) ≡ true) r.state.untold tells.left.untold all_above))
        (which_role r.state.role)

    all_below : Each (λ (x : Untold). x.place < end_place s.stored) s.untold
    all_below = each_more (IsWaiting s) (λ (x : Untold). x.place < end_place s.stored) (λ x i. i.within) s.untold h.each

    rise_after : Rise r.state.untold
    rise_after =
        subst Rise (sym w.untold)
        (rise_filter (λ x. not (due r.state.committed x)) (s.untold ++ brought s.stored e)
        (⊎_elim
        (λ none. subst (λ more. Rise (s.untold ++ more)) (sym none) (subst Rise (sym (append-nil s.untold)) h.rise))
        (λ x. subst (λ more. Rise (s.untold ++ more)) (sym x.1) (rise_last (token_at s.stored x.0) s.untold all_below h.rise))
        (brings_one s.stored e)))

    goes_on : TokensWait r.state
    goes_on = record { others = tells.left.leads; began = began_after; each = each_after; rise = rise_after }

  pub waits_after : TokensWait r.state
  waits_after =
      ⊎_elim
      (λ x. no_tokens r.state x.0.quiet.untold x.0.began)
      (λ w. goes_on w)
      (step_waits m some own small before s e fits event_fits h.others passed)

-- ---- each event at a node

abbrev pub NodeWaits : ℕ → NodeState → Type 0
NodeWaits n Absent = Unit {0}
NodeWaits n (Up s) = TokensWait s
NodeWaits n (Down stored) = Unit {0}

pub comes_wait : (m : Membership) (some : 0 < length m.configs) (own : ℕ) (small : own < 2 ^ 64) (before : List BallotEvent) (s : GroupState) (e : GroupEvent) → NodeFits m (world_after m before) own s → MayCome m (world_after m before) own s e → TokensWait s → TokensWait (group_step own s e).state
comes_wait m some own small before s e fits may h =
    ⊎_elim
    (λ event_fits. go (refusal_of own s e) refl event_fits)
    (λ no. subst (λ o. TokensWait (step_unless o own s e).state) (sym no.1) h)
    may
  where
    go : (o : Option RefusalReason) → refusal_of own s e ≡ o → EventFits m (world_after m before) e → TokensWait (group_step own s e).state
    go None passed event_fits = waits_after m some own small before s e fits event_fits passed h
    go (Some why) refused event_fits = subst (λ o. TokensWait (step_unless o own s e).state) (sym refused) h

stops_waits : (n : ℕ) (stopped : Bool) (k : ℕ) (s : GroupState) (r : StepResult) → TokensWait r.state → NodeWaits n (after_step (stop_at stopped k) s r)
stops_waits n true k s r h = tt
stops_waits n false k s r h = h

nodes_wait : NodesKeep NodeWaits
nodes_wait m some before n e stopped k Absent fits may h = tt
nodes_wait m some before n (Comes e) stopped k (Up s) fits may h =
    stops_waits n stopped k s (group_step n s e) (comes_wait m some n fits.0 before s e fits.1 may h)
nodes_wait m some before n Restarts stopped k (Up s) fits may h = h
nodes_wait m some before n other stopped k (Up s) fits may h = tt
nodes_wait m some before n Restarts stopped k (Down stored) fits may h =
    let x = opening_waits m some n fits.0 before stored fits.1 in
    stops_waits n stopped k (state_of stored) (group_step n (state_of stored) Open) (no_tokens (group_step n (state_of stored) Open).state x.quiet.untold x.began)
nodes_wait m some before n other stopped k (Down stored) fits may h = tt

start_waits : (n : ℕ) (b : Bool) → NodeWaits n (state_or b (Up (state_of no_group)) Absent)
start_waits n true = no_tokens (state_of no_group) refl (none_began Follower no_group refl)
start_waits n false = tt

pub node_waits : (ids : List ℕ) → AreNodeIds ids → (rs : List Recorded) (end : GroupWorld) → Replays (new_world ids) rs end → (n : ℕ) → NodeWaits n (end.nodes n)
node_waits ids small rs end run n = along_nodes NodeWaits nodes_wait ids small start_waits rs end run n

pub tokens_wait : (ids : List ℕ) → AreNodeIds ids → (rs : List Recorded) (end : GroupWorld) → Replays (new_world ids) rs end → (n : ℕ) (s : GroupState) → end.nodes n ≡ Up s → TokensWait s
tokens_wait ids small rs end run n s up = subst (NodeWaits n) up (node_waits ids small rs end run n)

pub waits_own : WaitsOwn
waits_own ids rs end h n s up =
    let w = tokens_wait ids h.node_ids rs end h.replays n s up in
    (λ x c. each_contains (IsWaiting s) s.untold x w.each c, are_rising s.untold w.rise)
