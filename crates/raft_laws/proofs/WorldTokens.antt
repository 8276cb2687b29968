-- Tokens in a group's world: each that a node is still to tell, and each that an event tells, stands for its entry.
use Rattle.std.specs.Prelude.{◌≡◌, ℕ, ◌<◌, ◌^◌, ◌==◌, Bool, true, false, List, [], ◌∷◌, length, slice_get, Option, Some, None, is_some, unwrap_or, refl}
use Rattle.std.proofs.Common.{sym, ap, ◌∙◌, subst, ⊎_elim, eq-eqb}
use Rattle.raft_group_step.specs.Values.{ChangeMembers, Entry, LoggedMembership, Membership}
use Rattle.raft_group_step.specs.StoredGroup.{StoredGroup, membership_in_force}
use Rattle.raft_group_step.specs.Message.{Message}
use Rattle.raft_group_step.specs.GroupState.{GroupState, Untold, state_of}
use Rattle.raft_group_step.specs.declared.group_call.GroupCall.TheVariants.{Initialize, Elect, Propose, ChangeMembership, Heartbeat, Lost, TriggerSnapshot, TriggerPurge}
use Rattle.raft_group_step.specs.GroupEvent.{GroupCall, GroupEvent, AddGroup, Call, Receive, Open}
use Rattle.raft_group_step.specs.StepResult.{RefusalReason, StepResult, tokens_of}
use Rattle.raft_group_step.specs.Refusal.{refusal_of}
use Rattle.raft_group_step.specs.GroupStep.{group_step, step_unless}
use Rattle.raft_laws.specs.BallotWorld.{BallotEvent}
use Rattle.raft_laws.specs.declared.world_event.WorldEvent.{WorldEvent}
use Rattle.raft_laws.specs.declared.world_event.WorldEvent.TheVariants.{Add, Ask, Deliver, Crash, Halt, Restart}
use Rattle.raft_laws.specs.Stop.{token_of_call}
use Rattle.raft_laws.specs.GroupWorld.{GroupWorld, NodeState, Absent, Up, Down, Outcome, Done, Refused, Stopped, Skipped, is_stop, state_or, with_node_state}
use Rattle.raft_laws.specs.NodeEvent.{NodeEvent, Comes, Crashes, Halts, Restarts, after_step, outcome_at, outcome_of_end, outcome_of_step, outcome_of_stop, state_after}
use Rattle.raft_laws.specs.GroupRun.{Scene, Nowhere, At, after_scene, is_same_setup, outcome_in, outcome_of, ran, scene_of, scene_of_call, scene_of_delivery, setup_in_call, stop_at}
use Rattle.raft_laws.specs.Origins.{changed_entry, entry_of_call}
use Rattle.raft_laws.proofs.BallotSafe.{among_at}
use Rattle.raft_laws.proofs.StepEntries.{Each}
use Rattle.raft_laws.proofs.Runs.{end-is-no-stop}
use Rattle.raft_laws.proofs.StepFits.{NodeFits, world_after}
use Rattle.raft_laws.proofs.StepMoments.{refusals_told}
use Rattle.raft_laws.proofs.StepTold.{CallToken, ChangeToken, EventToken, ToldFits, TokensEnd, TokensFit, opening_tells, step_tells, token_at}
use Rattle.raft_laws.proofs.WorldFits.{NodeStateFits, WorldFits}
use Rattle.raft_laws.proofs.WorldSteps.{MayCome, MayHappen}
use Rattle.raft_laws.proofs.WorldRuns.{SetUpWith, call_happens, group_happens, message_happens}

-- an outcome that tells these tells no others
pub done_told : (sent sent' : List Message) (told told' : List Untold) (unknown unknown' : List ℕ) → Done sent told unknown ≡ Done sent' told' unknown' → told ≡ told'
done_told sent sent' told told' unknown unknown' e = cc

module _ (Q : Untold → Entry → Type 0) where
  abbrev pub NodeTokens : NodeState → Type 0
  NodeTokens Absent = Unit {0}
  NodeTokens (Up s) = TokensFit Q s
  NodeTokens (Down stored) = Unit {0}

  abbrev pub ToldAt : NodeState → Untold → Type 0
  ToldAt Absent x = ⊥
  ToldAt (Up s) x = ToldFits Q s x
  ToldAt (Down stored) x = ⊥

  -- what an event leaves at its node, and tells
  record TokensLeft (state : NodeState) (o : Outcome) : Type 0 where
    tokens : NodeTokens state
    tells : (sent : List Message) (told : List Untold) (unknown : List ℕ) → o ≡ Done sent told unknown → Each (ToldAt state) told

  none_told : (state : NodeState) (o : Outcome) → ((sent : List Message) (told : List Untold) (unknown : List ℕ) → o ≡ Done sent told unknown → told ≡ []) → NodeTokens state → TokensLeft state o
  none_told state o none h =
      record { tokens = h; tells = λ sent told unknown e. subst (Each (ToldAt state)) (sym (none sent told unknown e)) tt }

  skipped : (sent : List Message) (told : List Untold) (unknown : List ℕ) → Skipped ≡ Done sent told unknown → told ≡ []
  skipped sent told unknown e = cc

  crashed : (sent : List Message) (told : List Untold) (unknown : List ℕ) → Done [] [] [] ≡ Done sent told unknown → told ≡ []
  crashed sent told unknown e = cc

  stopped_none : (these : List ℕ) (sent : List Message) (told : List Untold) (unknown : List ℕ) → Stopped these ≡ Done sent told unknown → told ≡ []
  stopped_none these sent told unknown e = cc

  refused_none : (why : RefusalReason) (sent : List Message) (told : List Untold) (unknown : List ℕ) → Refused why ≡ Done sent told unknown → told ≡ []
  refused_none why sent told unknown e = cc

  end_tokens : (r : StepResult) (why : Option RefusalReason) → TokensEnd Q r → TokensLeft (Up r.state) (outcome_of_end r why)
  end_tokens r None h =
      record {
        tokens = h.left;
        tells = λ sent told unknown e.
            subst (Each (ToldFits Q r.state)) (done_told r.messages sent r.told told r.unknown unknown e) h.told;
      }
  end_tokens r (Some why) h = none_told (Up r.state) (Refused why) (refused_none why) h.left

  -- one that is to stop
  stop_tokens : (k : ℕ) (s : GroupState) (e : GroupEvent) (r : StepResult) (why : Option RefusalReason) → (is_stop (outcome_of_stop s e r why) ≡ false → TokensEnd Q r) → TokensLeft (after_step (stop_at (is_stop (outcome_of_stop s e r why)) k) s r) (outcome_of_stop s e r why)
  stop_tokens k s e r None h = none_told _ _ (stopped_none _) tt
  stop_tokens k s e r (Some why) h = end_tokens r (Some why) (h refl)

  step_tokens : (stopped : Bool) (k : ℕ) (s : GroupState) (e : GroupEvent) (r : StepResult) → (is_stop (outcome_of_step stopped s e r) ≡ false → TokensEnd Q r) → TokensLeft (after_step (stop_at (is_stop (outcome_of_step stopped s e r)) k) s r) (outcome_of_step stopped s e r)
  step_tokens true k s e r h = stop_tokens k s e r r.refused h
  step_tokens false k s e r h = go r.refused (end_tokens r r.refused (h (end-is-no-stop r r.refused)))
    where
      go : (why : Option RefusalReason) → TokensLeft (Up r.state) (outcome_of_end r why) → TokensLeft (after_step (stop_at (is_stop (outcome_of_end r why)) k) s r) (outcome_of_end r why)
      go None l = l
      go (Some why) l = l

  -- what a call's token stands for
  changed_token : (st : StoredGroup) (o : Option LoggedMembership) (change : ChangeMembers) (token : ℕ) → ((e : Entry) → changed_entry st o change ≡ Some e → Q (token_at st token) e) → ChangeToken Q st o change token
  changed_token st None change token f = tt
  changed_token st (Some x) change token f = f _ refl

  call_token : (st : StoredGroup) (call : GroupCall) → ((e : Entry) (token : ℕ) → entry_of_call st call ≡ Some e → token_of_call call ≡ token ∷ [] → Q (token_at st token) e) → CallToken Q st call
  call_token st (Initialize first) f = tt
  call_token st Elect f = tt
  call_token st (Propose command token) f = f _ token refl refl
  call_token st (ChangeMembership change token) f = changed_token st (membership_in_force st) change token (λ e is. f e token is refl)
  call_token st Heartbeat f = tt
  call_token st (Lost peer) f = tt
  call_token st TriggerSnapshot f = tt
  call_token st (TriggerPurge place) f = tt

  -- what an event that doesn't stop brings to a node that is up
  abbrev BringsToken : ℕ → NodeEvent → NodeState → Type 0
  BringsToken n (Comes e) (Up s) = refusal_of n s e ≡ None → EventToken Q s.stored e
  BringsToken n (Comes e) Absent = Unit {0}
  BringsToken n (Comes e) (Down stored) = Unit {0}
  BringsToken n Crashes x = Unit {0}
  BringsToken n Halts x = Unit {0}
  BringsToken n Restarts x = Unit {0}

  -- an event that is taken and doesn't end as a stop wasn't to stop
  not_to_stop : (n : ℕ) (stopped : Bool) (s : GroupState) (e : GroupEvent) → refusal_of n s e ≡ None → is_stop (outcome_of_step stopped s e (group_step n s e)) ≡ false → stopped ≡ false
  not_to_stop n true s e taken going =
      let r = group_step n s e in
      let stops : is_stop (outcome_of_stop s e r r.refused) ≡ true = ap (λ why. is_stop (outcome_of_stop s e r why)) (refusals_told n s e ∙ taken) in
      absurd (let f : true ≡ false = sym stops ∙ going in cc)
  not_to_stop n false s e taken going = refl

  module _ (m : Membership) (some : 0 < length m.configs) (before : List BallotEvent) (n : ℕ) where
    comes_tokens : n < 2 ^ 64 → (s : GroupState) (e : GroupEvent) → NodeFits m (world_after m before) n s → MayCome m (world_after m before) n s e → TokensFit Q s → (refusal_of n s e ≡ None → EventToken Q s.stored e) → TokensEnd Q (group_step n s e)
    comes_tokens small s e h may tokens wanted =
        ⊎_elim
        (λ fits. step_tells Q m some n small before s e h fits tokens wanted)
        (λ no. subst (λ o. TokensEnd Q (step_unless o n s e)) (sym no.1) (record { left = tokens; told = tt }))
        may

    node_tokens : (e : NodeEvent) (stopped : Bool) (k : ℕ) (x : NodeState) → NodeStateFits m (world_after m before) n x → MayHappen m (world_after m before) n e x → NodeTokens x → (stopped ≡ false → BringsToken n e x) → TokensLeft (state_after n e (stop_at (is_stop (outcome_at n e stopped x)) k) x) (outcome_at n e stopped x)
    node_tokens e stopped k Absent h may tokens wanted = none_told Absent Skipped skipped tt
    node_tokens (Comes e) stopped k (Up s) h may tokens wanted =
        step_tokens stopped k s e (group_step n s e) (λ going. comes_tokens h.0 s e h.1 may tokens (λ taken. wanted (not_to_stop n stopped s e taken going) taken))
    node_tokens Crashes stopped k (Up s) h may tokens wanted = none_told (Down s.stored) (Done [] [] []) crashed tt
    node_tokens Halts stopped k (Up s) h may tokens wanted = none_told (Down s.stored) (Stopped (tokens_of s.untold)) (stopped_none (tokens_of s.untold)) tt
    node_tokens Restarts stopped k (Up s) h may tokens wanted = none_told (Up s) Skipped skipped tokens
    node_tokens (Comes e) stopped k (Down stored) h may tokens wanted = none_told (Down stored) Skipped skipped tt
    node_tokens Crashes stopped k (Down stored) h may tokens wanted = none_told (Down stored) Skipped skipped tt
    node_tokens Halts stopped k (Down stored) h may tokens wanted = none_told (Down stored) Skipped skipped tt
    node_tokens Restarts stopped k (Down stored) h may tokens wanted =
        step_tokens stopped k (state_of stored) Open (group_step n (state_of stored) Open) (λ going. opening_tells Q m some n h.0 before stored h.1)

  -- ---- the world

  abbrev pub TokensWorld : GroupWorld → Type 0
  TokensWorld w = (n : ℕ) → NodeTokens (w.nodes n)

  -- a node that is up tells the token
  pub record Teller (w : GroupWorld) (x : Untold) : Type 0 where
    pub node : ℕ
    pub state : GroupState
    pub is_up : w.nodes node ≡ Up state
    pub fits : ToldFits Q state x

  pub record TokensAfter (o : Outcome) (w : GroupWorld) : Type 0 where
    pub tokens : TokensWorld w
    pub tells : (sent : List Message) (told : List Untold) (unknown : List ℕ) → o ≡ Done sent told unknown → Each (Teller w) told

  one_node : (w : GroupWorld) (state : NodeState) (j : ℕ) (same : Bool) → NodeTokens state → NodeTokens (w.nodes j) → NodeTokens (state_or same state (w.nodes j))
  one_node w state j true h k = h
  one_node w state j false h k = k

  teller : (w : GroupWorld) (n : ℕ) (state : NodeState) (x : Untold) → w.nodes n ≡ state → ToldAt state x → Teller w x
  teller w n Absent x e h = absurd h
  teller w n (Up s) x e h = record { node = n; state = s; is_up = e; fits = h }
  teller w n (Down stored) x e h = absurd h

  each_teller : (w : GroupWorld) (n : ℕ) (state : NodeState) (xs : List Untold) → w.nodes n ≡ state → Each (ToldAt state) xs → Each (Teller w) xs
  each_teller w n state [] e h = tt
  each_teller w n state (x ∷ xs) e h = (teller w n state x e h.0, each_teller w n state xs e h.1)

  -- what a call's token stands for, where the event doesn't stop
  abbrev pub CallsToken : GroupWorld → WorldEvent → Bool → Type 0
  CallsToken w event stopped =
      (n : ℕ) (call : GroupCall) (now : ℕ) (s : GroupState) → event ≡ Ask n call now → w.nodes n ≡ Up s
      → is_same_setup w.setup (setup_in_call call) ≡ true → refusal_of n s (Call call now) ≡ None → stopped ≡ false
      → (e : Entry) (token : ℕ) → entry_of_call s.stored call ≡ Some e → token_of_call call ≡ token ∷ [] → Q (token_at s.stored token) e

  call_brings : (n : ℕ) (call : GroupCall) (now : ℕ) (x : NodeState) → ((s : GroupState) → x ≡ Up s → refusal_of n s (Call call now) ≡ None → (e : Entry) (token : ℕ) → entry_of_call s.stored call ≡ Some e → token_of_call call ≡ token ∷ [] → Q (token_at s.stored token) e) → BringsToken n (Comes (Call call now)) x
  call_brings n call now Absent f = tt
  call_brings n call now (Up s) f = λ taken. call_token s.stored call (f s refl taken)
  call_brings n call now (Down stored) f = tt

  message_brings : (n : ℕ) (peer : ℕ) (x : Message) (now : ℕ) (state : NodeState) → BringsToken n (Comes (Receive peer x now)) state
  message_brings n peer x now Absent = tt
  message_brings n peer x now (Up s) = λ taken. tt
  message_brings n peer x now (Down stored) = tt

  group_brings : (n : ℕ) (state : NodeState) → BringsToken n (Comes AddGroup) state
  group_brings n Absent = tt
  group_brings n (Up s) = λ taken. tt
  group_brings n (Down stored) = tt

  module _ (m : Membership) (some : 0 < length m.configs) (w : GroupWorld) (before : List BallotEvent) (fits : WorldFits m (world_after m before) w) (known : SetUpWith m w) (stopped : Bool) (k : ℕ) (h : TokensWorld w) where
    abbrev world_then : WorldEvent → Scene → GroupWorld
    world_then e scene = after_scene w e (outcome_in w stopped scene) (stop_at (is_stop (outcome_in w stopped scene)) k) scene

    abbrev After : WorldEvent → Scene → Type 0
    After e scene = TokensAfter (outcome_in w stopped scene) (world_then e scene)

    nowhere : (e : WorldEvent) → After e Nowhere
    nowhere e =
        record { tokens = h; tells = λ sent told unknown f. subst (Each (Teller w)) (sym (skipped sent told unknown f)) tt }

    scene_tokens : (e : WorldEvent) (n : ℕ) (at_node : NodeEvent) → MayHappen m (world_after m before) n at_node (w.nodes n) → (stopped ≡ false → BringsToken n at_node (w.nodes n)) → After e (At n at_node)
    scene_tokens e n at_node may wanted =
        let o = outcome_at n at_node stopped (w.nodes n) in
        let state = state_after n at_node (stop_at (is_stop o) k) (w.nodes n) in
        let l = node_tokens m some before n at_node stopped k (w.nodes n) (fits.nodes n) may (h n) wanted in
        let here : with_node_state n state w.nodes n ≡ state = ap (λ b. state_or b state (w.nodes n)) (eq-eqb n n refl) in
        record {
          tokens = λ j. one_node w state j (j == n) l.tokens (h j);
          tells = λ sent told unknown f. each_teller (world_then e (At n at_node)) n state told here (l.tells sent told unknown f);
        }

    asked_tokens : (n : ℕ) (call : GroupCall) (now : ℕ) → CallsToken w (Ask n call now) stopped → (t : Bool) → is_same_setup w.setup (setup_in_call call) ≡ t → SetUpWith m (world_then (Ask n call now) (scene_of_call t n call now)) → After (Ask n call now) (scene_of_call t n call now)
    asked_tokens n call now calls true is noted =
        scene_tokens (Ask n call now) n (Comes (Call call now))
        (call_happens m (world_after m before) w.setup known n (w.nodes n) call now stopped is noted)
        (λ going. call_brings n call now (w.nodes n) (λ s up taken. calls n call now s refl up is taken going))
    asked_tokens n call now calls false is noted = nowhere (Ask n call now)

    delivered_tokens : (number now : ℕ) (o : Option Message) → slice_get w.messages number ≡ o → After (Deliver number now) (scene_of_delivery o now)
    delivered_tokens number now None is = nowhere (Deliver number now)
    delivered_tokens number now (Some x) is =
        scene_tokens (Deliver number now) x.addressee (Comes (Receive x.sender x now))
        (message_happens m (world_after m before) x.addressee (w.nodes x.addressee) x now (fits.messages x (among_at w.messages number x is)))
        (λ going. message_brings x.addressee x.sender x now (w.nodes x.addressee))

    event_tokens : (e : WorldEvent) → CallsToken w e stopped → SetUpWith m (world_then e (scene_of w e)) → After e (scene_of w e)
    event_tokens (Add n) calls noted = scene_tokens (Add n) n (Comes AddGroup) (group_happens m (world_after m before) n (w.nodes n)) (λ going. group_brings n (w.nodes n))
    event_tokens (Ask n call now) calls noted = asked_tokens n call now calls (is_same_setup w.setup (setup_in_call call)) refl noted
    event_tokens (Deliver number now) calls noted = delivered_tokens number now (slice_get w.messages number) refl
    event_tokens (Crash n) calls noted = scene_tokens (Crash n) n Crashes tt (λ going. tt)
    event_tokens (Halt n) calls noted = scene_tokens (Halt n) n Halts tt (λ going. tt)
    event_tokens (Restart n) calls noted = scene_tokens (Restart n) n Restarts tt (λ going. tt)

  -- one event, which runs to its end or stops
  pub ran_tokens : (m : Membership) (some : 0 < length m.configs) (w : GroupWorld) (before : List BallotEvent) → WorldFits m (world_after m before) w → SetUpWith m w → (e : WorldEvent) (stop : Option ℕ) → SetUpWith m (ran w e stop) → TokensWorld w → CallsToken w e (is_some stop) → TokensAfter (outcome_of w e (is_some stop)) (ran w e stop)
  ran_tokens m some w before fits known e stop noted h calls =
      event_tokens m some w before fits known (is_some stop) (unwrap_or stop 0) h e calls noted
