-- Each token of a ledger was brought by its event, and ends once.
use Rattle.std.specs.Prelude.{◌≡◌, ◌⊎◌, ℕ, zero, suc, ◌+◌, ◌-◌, ◌<◌, ◌≤◌, cond, not, Bool, true, false, List, [], ◌∷◌, ◌++◌, filter, length, slice_get, take, Option, Some, None, refl}
use Rattle.std.proofs.Math.Seq.{take-length}
use Rattle.std.proofs.Common.{inl, inr, sym, ap, ◌∙◌, subst, arith, ⊎_elim, length-take-le}
use Rattle.std.proofs.lemmas.Bool.{cases_eq, cases_order}
use Rattle.std.proofs.lemmas.List.{take-append-le}
use Rattle.std.proofs.lemmas.Option.{slice_get_within}
use Rattle.raft_group_step.specs.StoredGroup.{end_place}
use Rattle.raft_group_step.specs.Message.{Message}
use Rattle.raft_group_step.specs.GroupState.{GroupState, Untold}
use Rattle.raft_group_step.specs.declared.group_call.GroupCall.TheVariants.{Initialize, Elect, Propose, ChangeMembership, Heartbeat, Lost, TriggerSnapshot, TriggerPurge}
use Rattle.raft_group_step.specs.GroupEvent.{AddGroup, Call, GroupCall, GroupEvent, Open, Receive}
use Rattle.raft_group_step.specs.Values.{Membership}
use Rattle.raft_group_step.specs.StepResult.{RefusalReason}
use Rattle.raft_group_step.specs.Refusal.{refusal_of}
use Rattle.raft_laws.specs.declared.world_event.WorldEvent.{WorldEvent}
use Rattle.raft_laws.specs.declared.world_event.WorldEvent.TheVariants.{Add, Ask, Crash, Deliver, Halt, Restart}
use Rattle.raft_laws.specs.GroupWorld.{GroupWorld, NodeState, Absent, Up, Down, new_world}
use Rattle.raft_laws.specs.NodeEvent.{NodeEvent, Comes, Crashes, Halts, Restarts}
use Rattle.raft_laws.specs.GroupRun.{Scene, Nowhere, At, group_run, is_same_setup, ran, scene_of, scene_of_call, scene_of_delivery, setup_in_call}
use Rattle.raft_laws.specs.Stop.{token_of_call}
use Rattle.raft_laws.specs.Origins.{Events, world_before}
use Rattle.raft_laws.proofs.BallotAgreement.{some_at, slice_get-append, with_value_cases, with_value_other}
use Rattle.raft_laws.proofs.BallotSafe.{Among}
use Rattle.raft_laws.proofs.Counts.{among_contains, among_behind, among_front, contains_among}
use Rattle.raft_laws.proofs.WorldOrigins.{event_at, world_at}
use Rattle.raft_laws.proofs.WorldRuns.{among_either}
use Rattle.raft_step_laws.specs.Tokens.{brought, tokens_at}
use Rattle.raft_history_laws.specs.TokenEnds.{EndsAt, IsBrought, Ledger, Numbered, TokensEndOnce, WaitingWereBrought, at_stake, brings, brought_unless, has_place, ledger_behind, ledger_of, numbered, that_ended, that_wait, untold_in}
use Rattle.raft_history_laws.proofs.LastNoted.{take_one_more, world_behind}
use Rattle.raft_history_laws.proofs.RunLedgers.{along_runs, ledger_more}

-- ---- members of filtered lists

among_filter : {A : Type 0} (p : A → Bool) (xs : List A) (x : A) → Among x (filter p xs) → Among x xs × (p x ≡ true)
among_filter p [] x a = absurd a
among_filter p (y ∷ xs) x a = go (p y) refl (among_filter p xs x) a
  where
    go : (b : Bool) → p y ≡ b → (Among x (filter p xs) → Among x xs × (p x ≡ true)) → Among x (cond b (y ∷ filter p xs) (filter p xs)) → Among x (y ∷ xs) × (p x ≡ true)
    go true e rest h = ⊎_elim (λ same. (inl same, ap p same ∙ e)) (λ b. let r = rest b in (inr r.0, r.1)) h
    go false e rest h = let r = rest h in (inr r.0, r.1)

filter_among : {A : Type 0} (p : A → Bool) (xs : List A) (x : A) → Among x xs → p x ≡ true → Among x (filter p xs)
filter_among p [] x a t = absurd a
filter_among p (y ∷ xs) x a t = go (p y) refl (λ b. filter_among p xs x b t)
  where
    go : (b : Bool) → p y ≡ b → (Among x xs → Among x (filter p xs)) → Among x (cond b (y ∷ filter p xs) (filter p xs))
    go true e rest = ⊎_elim (λ same. inl same) (λ b. inr (rest b)) a
    go false e rest = ⊎_elim (λ same. absurd (let f : true ≡ false = sym t ∙ ap p same ∙ e in cc)) (λ b. rest b) a

-- a token waits on or has ended
waits_or_ended : (state : NodeState) (ws : List Numbered) (x : Numbered) → Among x ws → Among x (that_wait state ws) ⊎ Among x (that_ended state ws)
waits_or_ended state ws x a = go (has_place (untold_in state) x.untold.place) refl
  where
    go : (b : Bool) → has_place (untold_in state) x.untold.place ≡ b → Among x (that_wait state ws) ⊎ Among x (that_ended state ws)
    go true e = inl (filter_among (λ (w : Numbered). has_place (untold_in state) w.untold.place) ws x a e)
    go false e = inr (filter_among (λ (w : Numbered). not (has_place (untold_in state) w.untold.place)) ws x a (ap not e))

not_both : (state : NodeState) (ws vs : List Numbered) (x : Numbered) → Among x (that_wait state ws) → Among x (that_ended state vs) → ⊥
not_both state ws vs x a b =
    let p = (among_filter (λ (w : Numbered). has_place (untold_in state) w.untold.place) ws x a).1 in
    let q = (among_filter (λ (w : Numbered). not (has_place (untold_in state) w.untold.place)) vs x b).1 in
    let f : false ≡ true = ap not (sym p) ∙ q in cc

-- ---- what an event brings

numbered_is : (number : ℕ) (xs : List Untold) (x : Numbered) → Among x (numbered number xs) → (x.number ≡ number) × Among x.untold xs
numbered_is number [] x a = absurd a
numbered_is number (y ∷ xs) x a =
    ⊎_elim
    (λ e. (ap (λ (w : Numbered). w.number) e, inl (ap (λ (w : Numbered). w.untold) e)))
    (λ b. let r = numbered_is number xs x b in (r.0, inr r.1))
    a

-- a call that brings one token at the node's next place
record BringsIt (n : ℕ) (e : NodeEvent) (state : NodeState) (x : Untold) : Type 0 where
  call : GroupCall
  now : ℕ
  is_call : e ≡ Comes (Call call now)
  up : GroupState
  is_up : state ≡ Up up
  taken : refusal_of n up (Call call now) ≡ None
  token : token_of_call call ≡ x.token ∷ []
  place : x.place ≡ end_place up.stored

one_token : (place token : ℕ) (x : Untold) → Among x (tokens_at place (token ∷ [])) → (token ∷ [] ≡ x.token ∷ []) × (x.place ≡ place)
one_token place token x a =
    ⊎_elim
    (λ e. (ap (λ (y : Untold). y.token ∷ []) (sym e), ap (λ (y : Untold). y.place) e))
    (λ none. absurd none)
    a

call_token : (place : ℕ) (call : GroupCall) (x : Untold) → Among x (tokens_at place (token_of_call call)) → (token_of_call call ≡ x.token ∷ []) × (x.place ≡ place)
call_token place (Initialize membership) x a = absurd a
call_token place Elect x a = absurd a
call_token place (Propose command token) x a = one_token place token x a
call_token place (ChangeMembership change token) x a = one_token place token x a
call_token place Heartbeat x a = absurd a
call_token place (Lost peer) x a = absurd a
call_token place TriggerSnapshot x a = absurd a
call_token place (TriggerPurge place') x a = absurd a

brought_it : (n number : ℕ) (e : GroupEvent) (s : GroupState) (o : Option RefusalReason) → refusal_of n s e ≡ o → (x : Numbered) → Among x (brought_unless o number s e) → (x.number ≡ number) × BringsIt n (Comes e) (Up s) x.untold
brought_it n number e s (Some why) passed x a = absurd a
brought_it n number e s None passed x a =
    let r = numbered_is number (brought s e) x a in (r.0, go e passed r.1)
  where
    go : (f : GroupEvent) → refusal_of n s f ≡ None → Among x.untold (brought s f) → BringsIt n (Comes f) (Up s) x.untold
    go AddGroup p b = absurd b
    go (Receive peer m now) p b = absurd b
    go Open p b = absurd b
    go (Call call now) p b =
        let t = call_token (end_place s.stored) call x.untold b in
        record { call = call; now = now; is_call = refl; up = s; is_up = refl; taken = p; token = t.0; place = t.1 }

brings_it : (n number : ℕ) (e : NodeEvent) (state : NodeState) (x : Numbered) → Among x (brings n number e state) → (x.number ≡ number) × BringsIt n e state x.untold
brings_it n number (Comes e) (Up s) x a = brought_it n number e s (refusal_of n s e) refl x a
brings_it n number (Comes e) Absent x a = absurd a
brings_it n number (Comes e) (Down stored) x a = absurd a
brings_it n number Crashes state x a = absurd a
brings_it n number Halts state x a = absurd a
brings_it n number Restarts state x a = absurd a

-- ---- the event that comes to a node as a call

same_call : (n i : ℕ) (call other : GroupCall) (now then : ℕ) → At n (Comes (Call call now)) ≡ At i (Comes (Call other then)) → Ask n call now ≡ Ask i other then
same_call n i call other now then e =
    let a : n ≡ i = cc in let b : call ≡ other = cc in let c : now ≡ then = cc in cc

no_message : (n i peer : ℕ) (x : Message) (call : GroupCall) (now then : ℕ) → At n (Comes (Receive peer x now)) ≡ At i (Comes (Call call then)) → ⊥
no_message n i peer x call now then e = cc

asked_here : (w : GroupWorld) (e : WorldEvent) (i : ℕ) (call : GroupCall) (now : ℕ) → scene_of w e ≡ At i (Comes (Call call now)) → e ≡ Ask i call now
asked_here w (Add n) i call now h = absurd (let f : At n (Comes AddGroup) ≡ At i (Comes (Call call now)) = h in cc)
asked_here w (Ask n other then) i call now h = go (is_same_setup w.setup (setup_in_call other)) h
  where
    go : (b : Bool) → scene_of_call b n other then ≡ At i (Comes (Call call now)) → Ask n other then ≡ Ask i call now
    go true e = same_call n i other call then now e
    go false e = absurd (let f : Nowhere ≡ At i (Comes (Call call now)) = e in cc)
asked_here w (Deliver number then) i call now h = absurd (go (slice_get w.messages number) h)
  where
    go : (o : Option Message) → scene_of_delivery o then ≡ At i (Comes (Call call now)) → ⊥
    go None e = let f : Nowhere ≡ At i (Comes (Call call now)) = e in cc
    go (Some x) e = no_message x.addressee i x.sender x call then now e
asked_here w (Crash n) i call now h = absurd (let f : At n Crashes ≡ At i (Comes (Call call now)) = h in cc)
asked_here w (Halt n) i call now h = absurd (let f : At n Halts ≡ At i (Comes (Call call now)) = h in cc)
asked_here w (Restart n) i call now h = absurd (let f : At n Restarts ≡ At i (Comes (Call call now)) = h in cc)

-- ---- what waits was brought

-- the event stands in each run that goes on
brought_on : (pre : Events) (x : WorldEvent × Option ℕ) (w : GroupWorld) (number n : ℕ) (u : Untold) → IsBrought pre w number n u → IsBrought (pre ++ x ∷ []) w number n u
brought_on pre x w number n u b =
    let inside = slice_get_within pre number _ b.event in
    let same : world_before (pre ++ x ∷ []) number w ≡ world_before pre number w =
    ap (λ (es : Events). group_run es w) (take-append-le number pre (x ∷ []) (omega arith))
    in
    record {
      call = b.call;
      now = b.now;
      stop = b.stop;
      state = b.state;
      event = slice_get-append pre (x ∷ []) number inside ∙ b.event;
      is_up = ap (λ (v : GroupWorld). v.nodes n) same ∙ b.is_up;
      taken = b.taken;
      token = b.token;
      place = b.place;
    }

brought_now : (pre : Events) (x : WorldEvent × Option ℕ) (w : GroupWorld) (n : ℕ) (e : NodeEvent) (u : Untold) → scene_of (group_run pre w) x.0 ≡ At n e → BringsIt n e ((group_run pre w).nodes n) u → IsBrought (pre ++ x ∷ []) w (length pre) n u
brought_now pre x w n e u here b =
    let ask : x.0 ≡ Ask n b.call b.now = asked_here (group_run pre w) x.0 n b.call b.now (here ∙ ap (At n) b.is_call) in
    record {
      call = b.call;
      now = b.now;
      stop = x.1;
      state = b.up;
      event = event_at pre [] x ∙ ap (λ (v : WorldEvent). Some (v, x.1)) ask;
      is_up = ap (λ (v : GroupWorld). v.nodes n) (world_at pre [] x w) ∙ b.is_up;
      taken = b.taken;
      token = b.token;
      place = b.place;
    }

abbrev AllBrought : GroupWorld → Events → Type 0
AllBrought w es = (n : ℕ) (x : Numbered) → Among x (ledger_of es w n) → IsBrought es w x.number n x.untold

module _ (w : GroupWorld) where
  scene_brought : (pre : Events) (x : WorldEvent × Option ℕ) → AllBrought w pre → (scene : Scene) → scene_of (group_run pre w) x.0 ≡ scene → (n : ℕ) (v : Numbered) → Among v (ledger_behind (length pre) (group_run pre w) (ran (group_run pre w) x.0 x.1) scene (ledger_of pre w) n) → IsBrought (pre ++ x ∷ []) w v.number n v.untold
  scene_brought pre x h Nowhere here n v a = brought_on pre x w v.number n v.untold (h n v a)
  scene_brought pre x h (At i e) here n v a =
      let before = group_run pre w in
      let ws = ledger_of pre w i ++ brings i (length pre) e (before.nodes i) in
      let state = (ran before x.0 x.1).nodes i in
      with_value_cases (ledger_of pre w) i (that_wait state ws) n (λ l. Among v l → IsBrought (pre ++ x ∷ []) w v.number n v.untold)
      (λ same b.
      let inside = (among_filter (λ (y : Numbered). has_place (untold_in state) y.untold.place) ws v b).0 in
      subst (λ j. IsBrought (pre ++ x ∷ []) w v.number j v.untold) (sym same)
      (⊎_elim
      (λ old. brought_on pre x w v.number i v.untold (h i v old))
      (λ new.
      let r = brings_it i (length pre) e (before.nodes i) v new in
      subst (λ number. IsBrought (pre ++ x ∷ []) w number i v.untold) (sym r.0) (brought_now pre x w i e v.untold here r.1))
      (among_either v (ledger_of pre w i) (brings i (length pre) e (before.nodes i)) inside)))
      (λ ne b. brought_on pre x w v.number n v.untold (h n v b))
      a

  pub all_brought : (es : Events) → AllBrought w es
  all_brought es =
      along_runs (AllBrought w) (λ n x a. absurd a)
      (λ pre x h n v a.
      scene_brought pre x h (scene_of (group_run pre w) x.0) refl n v (subst (λ (l : Ledger). Among v (l n)) (ledger_more pre x w) a))
      es

pub waiting_were_brought : WaitingWereBrought
waiting_were_brought ids small es n x c = all_brought (new_world ids) es n x (contains_among (ledger_of es (new_world ids) n) x c)

-- ---- a token that has ended waits no more

pub no_setup : (o : Option Membership) → is_same_setup o None ≡ true
no_setup None = refl
no_setup (Some first) = refl

-- a call that brings a token sets no group up
pub token_setup : (call : GroupCall) (token : ℕ) → token_of_call call ≡ token ∷ [] → setup_in_call call ≡ None
token_setup (Initialize membership) token e = absurd (let f : [] ≡ token ∷ [] = e in cc)
token_setup Elect token e = refl
token_setup (Propose command t) token e = refl
token_setup (ChangeMembership change t) token e = refl
token_setup Heartbeat token e = refl
token_setup (Lost peer) token e = refl
token_setup TriggerSnapshot token e = refl
token_setup (TriggerPurge place) token e = refl

module _ (w : GroupWorld) (es : Events) where
  abbrev ledger : ℕ → Ledger
  ledger j = ledger_of (take j es) w

  ledger_next : (j : ℕ) (x : WorldEvent × Option ℕ) → slice_get es j ≡ Some x → ledger (suc j) ≡ ledger_behind j (world_before es j w) (world_before es (suc j) w) (scene_of (world_before es j w) x.0) (ledger j)
  ledger_next j x e =
      let inside = slice_get_within es j x e in
      let size : length (take j es) ≡ j = length-take-le j es (omega arith) in
      ap (λ (l : Events). ledger_of l w) (take_one_more j es x e)
      ∙ ledger_more (take j es) x w
      ∙ ap (λ i. ledger_behind i (world_before es j w) (ran (world_before es j w) x.0 x.1) (scene_of (world_before es j w) x.0) (ledger j)) size
      ∙ ap (λ v. ledger_behind j (world_before es j w) v (scene_of (world_before es j w) x.0) (ledger j)) (sym (world_behind es j w x e))

  -- at a node where the event doesn't happen the ledger stays
  scene_back : (j : ℕ) (scene : Scene) (n : ℕ) (v : Numbered) → Among v (ledger_behind j (world_before es j w) (world_before es (suc j) w) scene (ledger j) n) → v.number < j → Among v (ledger j n)
  scene_back j Nowhere n v a l = a
  scene_back j (At i e) n v a l =
      let before = world_before es j w in
      let state = (world_before es (suc j) w).nodes i in
      let ws = ledger j i ++ brings i j e (before.nodes i) in
      with_value_cases (ledger j) i (that_wait state ws) n (λ vs. Among v vs → Among v (ledger j n))
      (λ same b.
      let inside = (among_filter (λ (y : Numbered). has_place (untold_in state) y.untold.place) ws v b).0 in
      subst (λ m. Among v (ledger j m)) (sym same)
      (⊎_elim
      (λ old. old)
      (λ new. let r = (brings_it i j e (before.nodes i) v new).0 in absurd (omega arith))
      (among_either v (ledger j i) (brings i j e (before.nodes i)) inside)))
      (λ ne b. b)
      a

  later_earlier : (j d n : ℕ) (v : Numbered) → j + d ≤ length es → v.number < j → Among v (ledger (j + d) n) → Among v (ledger j n)
  later_earlier j zero n v le l a = let e : j + 0 ≡ j = omega arith in subst (λ i. Among v (ledger i n)) e a
  later_earlier j (suc d) n v le l a =
      let e : j + suc d ≡ suc (j + d) = omega arith in
      let x = some_at es (j + d) (omega arith) in
      let next = ledger_next (j + d) x.0 x.1 in
      let b = subst (λ i. Among v (ledger i n)) e a in
      later_earlier j d n v (omega arith) l
      (scene_back (j + d) (scene_of (world_before es (j + d) w) x.0.0) n v (subst (λ (k : Ledger). Among v (k n)) next b) (omega arith))

  earlier : (j k n : ℕ) (v : Numbered) → j ≤ k → k ≤ length es → v.number < j → Among v (ledger k n) → Among v (ledger j n)
  earlier j k n v le within l a =
      let d : ℕ = k - j in
      let e : k ≡ j + d = omega arith in
      later_earlier j d n v (omega arith) l (subst (λ i. Among v (ledger i n)) e a)

  module _ (n : ℕ) (v : Numbered) where
    -- where the event happens at the node, the ledger has those that wait on
    ledger_here : (j : ℕ) (x : WorldEvent × Option ℕ) (e : NodeEvent) → slice_get es j ≡ Some x → scene_of (world_before es j w) x.0 ≡ At n e → ledger (suc j) n ≡ that_wait ((world_before es (suc j) w).nodes n) (at_stake es w j n e)
    ledger_here j x e is here =
        let ws = that_wait ((world_before es (suc j) w).nodes n) (at_stake es w j n e) in
        ap (λ (l : Ledger). l n) (ledger_next j x is)
        ∙ ap (λ scene. ledger_behind j (world_before es j w) (world_before es (suc j) w) scene (ledger j) n) here
        ∙ with_value_cases (ledger j) n ws n (λ vs. vs ≡ ws) (λ same. refl) (λ ne. absurd (ne refl))

    ended_gone : (i : ℕ) → EndsAt es w n v i → Among v (ledger (suc i) n) → ⊥
    ended_gone i e a =
        let x : WorldEvent × Option ℕ = (e.event, e.stop) in
        let here = ledger_here i x e.at_node e.happened e.here in
        let ws = at_stake es w i n e.at_node in
        let state = (world_before es (suc i) w).nodes n in
        not_both state ws ws v (subst (Among v) here a) (contains_among (that_ended state ws) v e.ended)

    at_stake_there : (i : ℕ) → (e : EndsAt es w n v i) → Among v (at_stake es w i n e.at_node)
    at_stake_there i e =
        let ws = at_stake es w i n e.at_node in
        let state = (world_before es (suc i) w).nodes n in
        (among_filter (λ (y : Numbered). not (has_place (untold_in state) y.untold.place)) ws v (contains_among (that_ended state ws) v e.ended)).0

    ends_within : (i : ℕ) → EndsAt es w n v i → i < length es
    ends_within i e = slice_get_within es i (e.event, e.stop) e.happened

    -- it waited before the event, or that brought it
    waited_before : (i : ℕ) → EndsAt es w n v i → Among v (ledger i n) ⊎ (v.number ≡ i)
    waited_before i e =
        ⊎_elim (λ old. inl old) (λ new. inr (brings_it n i e.at_node ((world_before es i w).nodes n) v new).0)
        (among_either v (ledger i n) (brings n i e.at_node ((world_before es i w).nodes n)) (at_stake_there i e))

    number_first : (i : ℕ) → EndsAt es w n v i → v.number ≤ i
    number_first i e =
        ⊎_elim
        (λ old.
        let b = all_brought w (take i es) n v old in
        let inside = slice_get_within (take i es) v.number _ b.event in
        let within = ends_within i e in
        let size : length (take i es) ≡ i = length-take-le i es (omega arith) in
        omega arith)
        (λ same. omega arith)
        (waited_before i e)

    not_later : (i j : ℕ) → EndsAt es w n v i → EndsAt es w n v j → i < j → ⊥
    not_later i j p q l =
        let first = number_first i p in
        let within = ends_within j q in
        ⊎_elim
        (λ old. ended_gone i p (earlier (suc i) j n v (omega arith) (omega arith) (omega arith) old))
        (λ same. omega arith)
        (waited_before j q)

    pub ends_once : (i j : ℕ) → EndsAt es w n v i → EndsAt es w n v j → j ≡ i
    ends_once i j p q =
        ⊎_elim
        (λ same. same)
        (λ apart. absurd (⊎_elim (λ l. not_later j i q p l) (λ l. not_later i j p q l) apart))
        (cases_order j i)

    whole : ledger (length es) ≡ ledger_of es w
    whole = ap (λ (l : Events). ledger_of l w) (take-length es)

    waiting_has_not_ended : Among v (ledger_of es w n) → (i : ℕ) → EndsAt es w n v i → ⊥
    waiting_has_not_ended a i e =
        let first = number_first i e in
        let within = ends_within i e in
        ended_gone i e
        (earlier (suc i) (length es) n v (omega arith) (omega arith) (omega arith) (subst (λ (l : Ledger). Among v (l n)) (sym whole) a))

    abbrev Fate : ℕ → Type 0
    Fate j = Among v (ledger j n) ⊎ ((i : ℕ) × EndsAt es w n v i)

    -- an event at the node at whose stake it is
    fate_here : (j : ℕ) (x : WorldEvent × Option ℕ) (e : NodeEvent) → slice_get es j ≡ Some x → scene_of (world_before es j w) x.0 ≡ At n e → Among v (at_stake es w j n e) → Fate (suc j)
    fate_here j x e is here a =
        let state = (world_before es (suc j) w).nodes n in
        let ws = at_stake es w j n e in
        ⊎_elim
        (λ b. inl (subst (Among v) (sym (ledger_here j x e is here)) b))
        (λ b.
        inr (
          j,
          record {
            event = x.0;
            stop = x.1;
            happened = is;
            at_node = e;
            here = here;
            ended = among_contains (that_ended state ws) v b;
          },
        ))
        (waits_or_ended state ws v a)

    scene_fate : (j : ℕ) (x : WorldEvent × Option ℕ) → slice_get es j ≡ Some x → (scene : Scene) → scene_of (world_before es j w) x.0 ≡ scene → Among v (ledger j n) → Fate (suc j)
    scene_fate j x is Nowhere here a =
        let same : ledger (suc j) n ≡ ledger j n =
        ap (λ (l : Ledger). l n) (ledger_next j x is) ∙ ap (λ scene. ledger_behind j (world_before es j w) (world_before es (suc j) w) scene (ledger j) n) here
        in
        inl (subst (Among v) (sym same) a)
    scene_fate j x is (At i e) here a =
        ⊎_elim
        (λ same.
        fate_here j x e is (here ∙ ap (λ m. At m e) (sym same))
        (among_front v (ledger j n) (brings n j e ((world_before es j w).nodes n)) a))
        (λ ne.
        let ws = that_wait ((world_before es (suc j) w).nodes i) (ledger j i ++ brings i j e ((world_before es j w).nodes i)) in
        let stays : ledger (suc j) n ≡ ledger j n =
        ap (λ (l : Ledger). l n) (ledger_next j x is)
        ∙ ap (λ scene. ledger_behind j (world_before es j w) (world_before es (suc j) w) scene (ledger j) n) here
        ∙ with_value_other (ledger j) i ws n ne
        in
        inl (subst (Among v) (sym stays) a))
        (cases_eq n i)

    fate_on : (j d : ℕ) → j + d ≤ length es → Fate j → Fate (j + d)
    fate_on j zero le h = let e : j ≡ j + 0 = omega arith in subst Fate e h
    fate_on j (suc d) le h =
        let e : suc (j + d) ≡ j + suc d = omega arith in
        let x = some_at es (j + d) (omega arith) in
        subst Fate e
        (⊎_elim
        (λ a. scene_fate (j + d) x.0 x.1 (scene_of (world_before es (j + d) w) x.0.0) refl a)
        (λ ended. inr ended)
        (fate_on j d (omega arith) h))

  module _ (number n : ℕ) (x : Untold) (b : IsBrought es w number n x) where
    abbrev token : Numbered
    token = record { number = number; untold = x }

    abbrev come : NodeEvent
    come = Comes (Call b.call b.now)

    comes_here : scene_of (world_before es number w) (Ask n b.call b.now) ≡ At n come
    comes_here =
        ap (λ t. scene_of_call t n b.call b.now)
        (ap (is_same_setup (world_before es number w).setup) (token_setup b.call x.token b.token) ∙ no_setup (world_before es number w).setup)

    is_brought : brings n number come ((world_before es number w).nodes n) ≡ token ∷ []
    is_brought =
        ap (brings n number come) b.is_up
        ∙ ap (λ o. brought_unless o number b.state (Call b.call b.now)) b.taken
        ∙ ap (λ ts. numbered number (tokens_at (end_place b.state.stored) ts)) b.token
        ∙ ap (λ place. let u : Untold = record { token = x.token; place = place } in let v : Numbered = record { number = number; untold = u } in v ∷ []) (sym b.place)

    pub fate : Fate n token (length es)
    fate =
        let inside = slice_get_within es number _ b.event in
        let at : Among token (at_stake es w number n come) = among_behind token (ledger number n) (brings n number come ((world_before es number w).nodes n)) (subst (Among token) (sym is_brought) (inl refl)) in
        let first : Fate n token (suc number) = fate_here n token number (Ask n b.call b.now, b.stop) come b.event comes_here at in
        let e : suc number + (length es - suc number) ≡ length es = omega arith in
        subst (Fate n token) e (fate_on n token (suc number) (length es - suc number) (omega arith) first)

pub tokens_end_once : TokensEndOnce
tokens_end_once ids small es number n x b =
    let w = new_world ids in
    let v : Numbered = record { number = number; untold = x } in
    ⊎_elim
    (λ a.
    let now : Among v (ledger_of es w n) = subst (λ (l : Ledger). Among v (l n)) (whole w es n v) a in
    inl (among_contains (ledger_of es w n) v now, waiting_has_not_ended w es n v now))
    (λ e. inr (e.0, e.1, λ other q. ends_once w es n v e.0 other e.1 q))
    (fate w es number n x b)
