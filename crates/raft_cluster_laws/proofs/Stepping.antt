-- What a node promises of an event leads from each world of a group's history to the next.
use Rattle.std.specs.Prelude.{◌≡◌, ◌⊎◌, ◌==◌, if◌then◌else◌, ℕ, ◌+◌, ◌≤◌, Bool, true, false, List, [], ◌∷◌, ◌++◌, filter, length, take, slice_get, Option, Some, None, refl}
use Rattle.std.specs.List.{last_or}
use Rattle.std.proofs.Common.{inl, inr, sym, ap, ◌∙◌, subst, arith, ⊎_elim, eqb-true, length-take}
use Rattle.raft_group_step.specs.StoredGroup.{Snapshot, StoredGroup, StoringCommand, MakeGroup, SetVote, PutEntries, CutFrom, RemoveUpTo, SetSnapshot, StartAfter, prefix_of}
use Rattle.raft_group_step.specs.Message.{Message}
use Rattle.raft_group_step.specs.GroupState.{GroupState, Untold, state_of}
use Rattle.raft_group_step.specs.GroupEvent.{GroupCall, GroupEvent, AddGroup, Call, Receive, Open}
use Rattle.raft_group_step.specs.StepResult.{RefusalReason, StepResult}
use Rattle.raft_group_step.specs.SnapshotRequest.{place_above}
use Rattle.raft_group_step.specs.Refusal.{refusal_of}
use Rattle.raft_group_step.specs.GroupStep.{group_step}
use Rattle.raft_laws.specs.declared.world_event.WorldEvent.{WorldEvent}
use Rattle.raft_laws.specs.declared.world_event.WorldEvent.TheVariants as event
use Rattle.raft_laws.specs.GroupWorld.{GroupWorld, NodeState, Absent, Up, Down, Outcome, Skipped, is_stop, state_or, with_node_state}
use Rattle.raft_laws.specs.GroupWorld.{Done as Ended, Refused as Declined, Stopped as Broken, Recorded as GroupRecorded}
use Rattle.raft_laws.specs.NodeEvent.{NodeEvent, Comes, Crashes, Halts, Restarts, after_step, outcome_at, outcome_of_end, outcome_of_step, outcome_of_stop, state_after}
use Rattle.raft_laws.specs.GroupRun.{Nowhere, At, after_scene, happens, is_same_setup, outcome_in, outcome_of, scene_of, scene_of_call, scene_of_delivery, setup_in_call, stop_at}
use Rattle.raft_laws.specs.OneList.{applied_list}
use Rattle.raft_laws.specs.VotesRise.{stored_of}
use Rattle.raft_laws.proofs.BallotSafe.{Among, among_at}
use Rattle.raft_laws.proofs.Counts.{among_contains, contains_among}
use Rattle.raft_laws.proofs.StepMoments.{refusals_told}
use Rattle.raft_step_laws.specs.Tokens.{RiseFrom, TokensGo, brought, is_due, leads_on}
use Rattle.raft_step_laws.proofs.Telling.{tokens_go}
use Rattle.raft_step_laws.proofs.TokenLists.{opens_none}
use Rattle.raft_history_laws.proofs.ServedNodes.{opens_own_vote}
use Rattle.raft_machines.specs.Machine.{MachineRules}
use Rattle.raft_machines.specs.Fold.{fold_of}
use Rattle.raft_machines.specs.Telling.{Standing, answer_on, run_on}
use Rattle.raft_headline.specs.ClusterEvent.{PassedOver, Recorded, is_stopped}
use Rattle.raft_headline.specs.Machines.{GivesRightly, HasBytes, KeepsItsLaw, MachinesMove, MachinesMoveIn, Replicas, StandsAt, asked_by, brought_by, given_of, machines_after, snapshots_of, turn_of}
use Rattle.raft_headline.specs.Replaying.{SaysCrash, IsThere, Says, StepsTo, is_opening}
use Rattle.raft_headline.specs.Seen.{Seen, Own, Halted, Crashed}
use Rattle.raft_headline.proofs.NodeFacts.{applied_size, prefix_applied}
use Rattle.raft_headline.proofs.StepRuns.{left_stored, snapshot_after, snapshot_or}
use Rattle.raft_headline.proofs.WorldMachines.{Kept}
use Rattle.raft_snapshot_laws.proofs.StoredSnapshots.{stored_come}
use Rattle.raft_cluster_laws.specs.Acts.{ActsAt, CrashesAt, HaltsAt, KeepsLawAt, answers_at}
use Rattle.raft_cluster_laws.proofs.Answers.{answers_alike, says_alike, start_of}
use Rattle.raft_cluster_laws.proofs.SentBytes.{BytesSent}
use Rattle.raft_cluster_laws.proofs.StepFacts.{after, covered, front, grows, leading, next, not_open, now, own_vote, rising, whole}

-- ---- lists

last_among : {A : Type 0} (xs : List A) (x : A) → last_or None xs ≡ Some x → Among x xs
last_among [] x e = absurd (let f : None ≡ Some x = e in cc)
last_among (y ∷ []) x e = inl (let f : Some y ≡ Some x = e in let g : x ≡ y = cc in g)
last_among (y ∷ z ∷ xs) x e = inr (last_among (z ∷ xs) x e)

-- a snapshot that is among those stored is stored by one of the commands
command_among : (cs : List StoringCommand) (x : Snapshot) → Among x (snapshots_of cs) → Among (SetSnapshot x) cs
command_among [] x a = absurd a
command_among (MakeGroup ∷ cs) x a = inr (command_among cs x a)
command_among (SetVote v ∷ cs) x a = inr (command_among cs x a)
command_among (PutEntries i es ∷ cs) x a = inr (command_among cs x a)
command_among (CutFrom i ∷ cs) x a = inr (command_among cs x a)
command_among (RemoveUpTo id ∷ cs) x a = inr (command_among cs x a)
command_among (SetSnapshot y ∷ cs) x a = ⊎_elim (λ same. inl (ap SetSnapshot same)) (λ rest. inr (command_among cs x rest)) a
command_among (StartAfter id ∷ cs) x a = inr (command_among cs x a)

filtered : {A : Type 0} (p : A → Bool) (xs : List A) (x : A) → Among x (filter p xs) → Among x xs
filtered p [] x a = absurd a
filtered {A} p (y ∷ xs) x a = go (p y) a (filtered p xs x)
  where
    go : (b : Bool) → Among x (if b then y ∷ filter p xs else filter p xs) → (Among x (filter p xs) → Among x xs) → Among x (y ∷ xs)
    go true h rest = ⊎_elim (λ same. inl same) (λ more. inr (rest more)) h
    go false h rest = inr (rest h)

risen : (from : ℕ) (xs : List Untold) (x : Untold) → RiseFrom from xs → Among x xs → from ≤ x.place
risen from [] x h a = absurd a
risen from (y ∷ xs) x h a =
    ⊎_elim
    (λ same. let e : x.place ≡ y.place = ap (λ (z : Untold). z.place) same in let l = h.0 in omega arith)
    (λ rest. let l = h.0 in let m = risen (y.place + 1) xs x h.1 rest in omega arith) a

gives_rightly : (rules : MachineRules) (state : List ℕ) (xs : List Snapshot) → KeepsItsLaw rules state → GivesRightly rules state xs
gives_rightly rules state [] law = tt
gives_rightly rules state (x ∷ xs) law = law

-- a message that comes was sent
call_no_message : (b : Bool) (k : ℕ) (call : GroupCall) (at n peer now : ℕ) (m : Message) → scene_of_call b k call at ≡ At n (Comes (Receive peer m now)) → ⊥
call_no_message true k call at n peer now m e = cc
call_no_message false k call at n peer now m e = cc

delivered_at : (ms : List Message) (i : ℕ) (o : Option Message) → slice_get ms i ≡ o → (at n peer now : ℕ) (m : Message) → scene_of_delivery o at ≡ At n (Comes (Receive peer m now)) → Among m ms
delivered_at ms i None is at n peer now m e = absurd (let f : Nowhere ≡ At n (Comes (Receive peer m now)) = e in cc)
delivered_at ms i (Some y) is at n peer now m e =
    let same : y ≡ m = (let f : At y.addressee (Comes (Receive y.sender y at)) ≡ At n (Comes (Receive peer m now)) = e in cc) in
    among_at ms i m (is ∙ ap Some same)

delivered : (w : GroupWorld) (e : WorldEvent) (n peer now : ℕ) (m : Message) → scene_of w e ≡ At n (Comes (Receive peer m now)) → Among m w.messages
delivered w (event.Add k) n peer now m e = absurd (let f : At k (Comes AddGroup) ≡ At n (Comes (Receive peer m now)) = e in cc)
delivered w (event.Ask k call at) n peer now m e = absurd (call_no_message (is_same_setup w.setup (setup_in_call call)) k call at n peer now m e)
delivered w (event.Deliver i at) n peer now m e = delivered_at w.messages i (slice_get w.messages i) refl at n peer now m e
delivered w (event.Crash k) n peer now m e = absurd (let f : At k Crashes ≡ At n (Comes (Receive peer m now)) = e in cc)
delivered w (event.Halt k) n peer now m e = absurd (let f : At k Halts ≡ At n (Comes (Receive peer m now)) = e in cc)
delivered w (event.Restart k) n peer now m e = absurd (let f : At k Restarts ≡ At n (Comes (Receive peer m now)) = e in cc)

-- an event that ran to its end was taken, and the node is up
record RanAs (s : GroupState) (r : StepResult) (what : Outcome) : Type 0 where
  taken : r.refused ≡ None
  is : what ≡ Ended r.messages r.told r.unknown

ran_end : (s : GroupState) (ge : GroupEvent) (r : StepResult) (stopped : Bool) (o : Option RefusalReason) → r.refused ≡ o → (sent : List Message) (told : List Untold) (lost : List ℕ) → outcome_of_step stopped s ge r ≡ Ended sent told lost → RanAs s r (Ended sent told lost)
ran_end s ge r true None e sent told lost is = absurd (let f : Broken _ ≡ Ended sent told lost = sym (ap (outcome_of_stop s ge r) e) ∙ is in cc)
ran_end s ge r true (Some why) e sent told lost is = absurd (let f : Declined why ≡ Ended sent told lost = sym (ap (outcome_of_stop s ge r) e) ∙ is in cc)
ran_end s ge r false None e sent told lost is = record { taken = e; is = sym is ∙ ap (outcome_of_end r) e }
ran_end s ge r false (Some why) e sent told lost is = absurd (let f : Declined why ≡ Ended sent told lost = sym (ap (outcome_of_end r) e) ∙ is in cc)

same_told : (sent sent' : List Message) (told told' : List Untold) (lost lost' : List ℕ) → ◌≡◌ {A = Outcome} (Ended sent told lost) (Ended sent' told' lost') → told ≡ told'
same_told sent sent' told told' lost lost' e = cc

-- the nodes with the state that one has
pub own_state : (n m : ℕ) (nodes : ℕ → NodeState) (t : NodeState) → nodes n ≡ t → nodes m ≡ with_node_state n t nodes m
own_state n m nodes t is = go (m == n) refl
  where
    go : (b : Bool) → (m == n) ≡ b → nodes m ≡ state_or b t (nodes m)
    go true e = ap nodes (eqb-true m n e) ∙ is
    go false e = refl

-- ---- from a world of a history

module _ (rules : MachineRules) (ids : List ℕ) (gs : List GroupRecorded) (old : Replicas) (k : Kept rules ids gs old) (sent : BytesSent old) (n : ℕ) where
  stand : (before : Standing) (o : Option Snapshot) → ((x : Snapshot) → o ≡ Some x → HasBytes old.built x) → (at : Standing) × StandsAt rules old.built before o at
  stand before None has = (before, refl)
  stand before (Some x) has =
      let b = has x refl in (record { state = rules.restored b.0; count = x.last.index + 1 }, (b, refl))

  -- a machine that moves as the node's state says, or stands still
  record Moved (b : Bool) (at : NodeEvent) (s : NodeState) (stopped : Bool) (world : GroupWorld) (f : ℕ → Option (List ℕ)) : Type 0 where
    new : Replicas
    same : new.world ≡ world
    answers : ℕ → Option (List ℕ)
    moves : MachinesMove rules n (turn_of rules n (old.machines n) at s) b old new answers
    alike : (messages : List Message) (told : List Untold) (lost : List ℕ) → outcome_at n at stopped s ≡ Ended messages told lost → (x : Untold) → Among x told → f x.place ≡ answers x.place

  abbrev stills : (world : GroupWorld) → Replicas
  stills world = record { world = world; machines = old.machines; built = old.built }

  -- ---- a call or a message at a node that is up

  module _ (e : WorldEvent) (ge : GroupEvent) (here : scene_of old.world e ≡ At n (Comes ge)) (s : GroupState) (is : old.world.nodes n ≡ Up s) (law : KeepsItsLaw rules (fold_of rules (applied_list s))) where
    abbrev q : StepResult
    q = group_step n s ge

    abbrev bring : List Snapshot
    bring = brought_by ge q.commands

    abbrev begin : Standing
    begin = record { state = old.machines n; count = place_above s.applied }

    has_brought : (x : Snapshot) → Among x bring → HasBytes old.built x
    has_brought x a = go ge refl here a
      where
        go : (e' : GroupEvent) → ge ≡ e' → scene_of old.world e ≡ At n (Comes e') → Among x (brought_by e' (group_step n s e').commands) → HasBytes old.built x
        go AddGroup same at b = absurd b
        go (Call call moment) same at b = absurd b
        go (Receive peer m moment) same at b =
            let cs = (group_step n s (Receive peer m moment)).commands in
            let come = stored_come n s (Receive peer m moment) x (among_contains cs (SetSnapshot x) (command_among cs x b)) in
            sent m (delivered old.world e n peer moment m at) come.0 come.1 x come.2
        go Open same at b = absurd b

    abbrev stood : (at : Standing) × StandsAt rules old.built begin (last_or None bring) at
    stood = stand begin (last_or None bring) (λ x f. has_brought x (last_among bring x f))

    module _ (taken : refusal_of n s ge ≡ None) where
      abbrev t : GroupState
      t = q.state

      abbrev v : GroupWorld
      v = after ids gs old.world k.leads n s is e ge here taken

      brought_stored : (x : Snapshot) → last_or None bring ≡ Some x → t.stored.snapshot ≡ Some x
      brought_stored x f = go ge refl f
        where
          go : (e' : GroupEvent) → ge ≡ e' → last_or None (brought_by e' (group_step n s e').commands) ≡ Some x → t.stored.snapshot ≡ Some x
          go AddGroup same f' = absurd (let g : None ≡ Some x = f' in cc)
          go (Call call moment) same f' = absurd (let g : None ≡ Some x = f' in cc)
          go (Receive peer m moment) same f' =
              let r = group_step n s (Receive peer m moment) in
              ap (λ e'. (group_step n s e').state.stored.snapshot) same
              ∙ ap (λ (st : StoredGroup). st.snapshot) (left_stored n s (Receive peer m moment))
              ∙ snapshot_after r.commands s.stored
              ∙ ap (λ o. snapshot_or o s.stored.snapshot) f'
          go Open same f' = absurd (let g : None ≡ Some x = f' in cc)

      record StandsWell (at : Standing) : Type 0 where
        state : at.state ≡ fold_of rules (take at.count (applied_list t))
        within : at.count ≤ length (applied_list t)
        low : leads_on s t ≡ true → at.count ≤ place_above s.applied

      size : length (applied_list t) ≡ place_above t.applied
      size = applied_size ids _ v (next ids gs old.world k.leads n s is e ge here taken) n t (now ids gs old.world k.leads n s is e ge here taken)

      stands_well : (o : Option Snapshot) → last_or None bring ≡ o → (at : Standing) → StandsAt rules old.built begin o at → StandsWell at
      stands_well None f at stands =
          subst StandsWell (sym stands)
          (record {
            state = k.folded n s is ∙ ap (fold_of rules) (sym (front ids gs old.world k.leads n s is e ge here taken));
            within = (let l = grows ids gs old.world k.leads n s is e ge here taken in let z = size in omega arith);
            low = λ on. omega arith;
          })
      stands_well (Some x) f at stands =
          let stored = brought_stored x f in
          let long = whole ids gs old.world k.leads n s is e ge here taken x stored in
          let start : take (length x.«prefix») (applied_list t) ≡ x.«prefix» =
          subst (λ o. take (length (prefix_of o)) (applied_list t) ≡ prefix_of o) stored
          (prefix_applied ids _ v (next ids gs old.world k.leads n s is e ge here taken) n t (now ids gs old.world k.leads n s is e ge here taken))
          in
          subst StandsWell (sym stands.1)
          (record {
            state = k.built x (stands.0).0 (stands.0).1 ∙ ap (fold_of rules) (sym start) ∙ ap (λ c. fold_of rules (take c (applied_list t))) long;
            within = fits (length x.«prefix») (x.last.index + 1) (applied_list t) x.«prefix» start refl long;
            low = λ on. covered ids gs old.world k.leads n s is e ge here taken on x stored;
          })
        where
          fits : {A : Type 0} (c d : ℕ) (xs ys : List A) → take c xs ≡ ys → c ≡ length ys → c ≡ d → d ≤ length xs
          fits c d xs ys is' a b = let l = short c xs in let z = ap length is' in omega arith
            where
              short : {A : Type 0} (c : ℕ) (xs : List A) → length (take c xs) ≤ length xs
              short c xs = let z = length-take c xs in omega arith

      -- what is told lies where the machine has not run yet
      told_above : (at : Standing) → StandsWell at → (x : Untold) → Among x q.told → at.count ≤ x.place
      told_above at well x a = go (leads_on s t) refl
        where
          goes : TokensGo s ge q
          goes = tokens_go n s ge (own_vote ids gs old.world k.leads n s is) (leading ids gs old.world k.leads n s is) (opens_none s ge (not_open ids gs old.world k.leads n s is e ge here taken)) taken

          go : (b : Bool) → leads_on s t ≡ b → at.count ≤ x.place
          go true on =
              let among : Among x (s.untold ++ brought s ge) = filtered (is_due t) (s.untold ++ brought s ge) x (subst (λ xs. Among x xs) (goes.told on) a) in
              let high = risen (place_above s.applied) (s.untold ++ brought s ge) x (rising ids gs old.world k.leads n s is ge) among in
              let l = well.low on in
              omega arith
          go false off = absurd (subst (λ xs. Among x xs) (goes.none_told off) a)

    comes_moved : (b stopped : Bool) (world : GroupWorld) (u : NodeState) → (refusal_of n s ge ≡ None → stopped ≡ false → u ≡ Up q.state) → Moved b (Comes ge) (Up s) stopped world (answers_at rules u)
    comes_moved b stopped world u left = record {
      new = record {
        world = world;
        machines = machines_after b n (run_on rules stood.0 (applied_list q.state)) old.machines;
        built = old.built ++ given_of rules (old.machines n) (asked_by ge q.commands);
      };
      same = refl;
      answers = answer_on rules stood.0 (applied_list q.state);
      moves = record {
        at = stood.0;
        stands = stood.1;
        machines = refl;
        answered = refl;
        brought = λ x has. has_brought x (contains_among bring x has);
        rightly = gives_rightly rules (old.machines n) (asked_by ge q.commands) (subst (KeepsItsLaw rules) (sym (k.folded n s is)) law);
        given = refl;
      };
      alike = λ messages told lost ends x a.
          let ran = ran_end s ge q stopped q.refused refl messages told lost ends in
          let taken : refusal_of n s ge ≡ None = sym (refusals_told n s ge) ∙ ran.taken in
          let well = stands_well taken (last_or None bring) refl stood.0 stood.1 in
          let there : Among x q.told = subst (λ xs. Among x xs) (same_told messages q.messages told q.told lost q.unknown ran.is) a in
          let ran_on : stopped ≡ false = not_stopped stopped messages told lost ends in
          ap (λ z. answers_at rules z x.place) (left taken ran_on)
          ∙ answers_alike rules (applied_list q.state) stood.0 well.state well.within x.place (told_above taken stood.0 well x there);
    }
      where
        not_stopped : (c : Bool) (messages : List Message) (told : List Untold) (lost : List ℕ) → outcome_of_step c s ge q ≡ Ended messages told lost → c ≡ false
        not_stopped false messages told lost ends = refl
        not_stopped true messages told lost ends = by_reason q.refused refl
          where
            by_reason : (o : Option RefusalReason) → q.refused ≡ o → true ≡ false
            by_reason None f = absurd (let g : Broken _ ≡ Ended messages told lost = sym (ap (outcome_of_stop s ge q) f) ∙ ends in cc)
            by_reason (Some why) f = absurd (let g : Declined why ≡ Ended messages told lost = sym (ap (outcome_of_stop s ge q) f) ∙ ends in cc)

  -- ---- an opening

  opens_moved : (b stopped : Bool) (st : StoredGroup) → old.world.nodes n ≡ Down st → (world : GroupWorld) (f : ℕ → Option (List ℕ)) → Moved b Restarts (Down st) stopped world f
  opens_moved b stopped st is world f =
      let q = group_step n (state_of st) Open in
      let stood = stand (start_of rules) st.snapshot (λ x has. k.bytes n st x (ap stored_of is) has) in
      record {
        new = record {
          world = world;
          machines = machines_after b n (run_on rules stood.0 (applied_list q.state)) old.machines;
          built = old.built ++ [];
        };
        same = refl;
        answers = answer_on rules stood.0 (applied_list q.state);
        moves = record {
          at = stood.0;
          stands = stood.1;
          machines = refl;
          answered = refl;
          brought = λ x has. absurd (contains_among [] x has);
          rightly = tt;
          given = refl;
        };
        alike = λ messages told lost ends x a.
            let ran = ran_end (state_of st) Open q stopped q.refused refl messages told lost ends in
            let goes : TokensGo (state_of st) Open q = tokens_go n (state_of st) Open (opens_own_vote n st) (λ idle. refl) refl refl in
            let none : told ≡ [] = same_told messages q.messages told q.told lost q.unknown ran.is ∙ goes.none_told refl in
            absurd (subst (λ xs. Among x xs) none a);
      }

  -- ---- where no machine takes part

  no_ends : {Z : Type 0} (what : Outcome) (messages : List Message) (told : List Untold) (lost : List ℕ) (x : Untold) → what ≡ Ended messages told lost → Among x told → (what ≡ Skipped) ⊎ (what ≡ Ended [] [] []) → Z
  no_ends what messages told lost x ends a how =
      absurd
      (⊎_elim
      (λ skip. let f : Skipped ≡ Ended messages told lost = sym skip ∙ ends in let z : ⊥ = cc in z)
      (λ none. subst (λ xs. Among x xs) (sym (same_told [] messages [] told [] lost (sym none ∙ ends))) a) how)

  still_moved : (b stopped : Bool) (at : NodeEvent) (s : NodeState) (world : GroupWorld) (f : ℕ → Option (List ℕ)) → turn_of rules n (old.machines n) at s ≡ None
      → ((messages : List Message) (told : List Untold) (lost : List ℕ) → outcome_at n at stopped s ≡ Ended messages told lost → (x : Untold) → Among x told → ⊥) → Moved b at s stopped world f
  still_moved b stopped at s world f none quiet = record {
    new = stills world;
    same = refl;
    answers = f;
    moves = subst (λ o. MachinesMove rules n o b old (stills world) f) (sym none) (record { machines = refl; built = refl });
    alike = λ messages told lost ends x a. refl;
  }

  moved : (b stopped : Bool) (e : WorldEvent) (at : NodeEvent) (s t : NodeState) (world : GroupWorld) → scene_of old.world e ≡ At n at → old.world.nodes n ≡ s → KeepsLawAt rules s
      → (number : ℕ) → t ≡ state_after n at (stop_at (is_stop (outcome_at n at stopped s)) number) s → Moved b at s stopped world (answers_at rules t)
  moved b stopped e at Absent t world here is law number left = still_moved b stopped at Absent world _ refl (λ m told l f x a. absurd (let g : Skipped ≡ Ended m told l = f in cc))
  moved b stopped e (Comes ge) (Up s) t world here is law number left =
      comes_moved e ge here s is law b stopped world t
      (λ taken ran.
      let q = group_step n s ge in
      let quiet : is_stop (outcome_of_step stopped s ge q) ≡ false =
      ap (λ c. is_stop (outcome_of_step c s ge q)) ran ∙ ap (λ o. is_stop (outcome_of_end q o)) (refusals_told n s ge ∙ taken)
      in
      left ∙ ap (λ c. after_step (stop_at c number) s q) quiet)
  moved b stopped e Crashes (Up s) t world here is law number left = still_moved b stopped Crashes (Up s) world _ refl (λ m told l f x a. no_crash m told l x f a)
    where
      no_crash : (m : List Message) (told : List Untold) (l : List ℕ) (x : Untold) → ◌≡◌ {A = Outcome} (Ended [] [] []) (Ended m told l) → Among x told → ⊥
      no_crash m told l x f a = subst (λ xs. Among x xs) (sym (same_told [] m [] told [] l f)) a
  moved b stopped e Halts (Up s) t world here is law number left = still_moved b stopped Halts (Up s) world _ refl (λ m told l f x a. absurd (let g : Broken _ ≡ Ended m told l = f in cc))
  moved b stopped e Restarts (Up s) t world here is law number left = still_moved b stopped Restarts (Up s) world _ refl (λ m told l f x a. absurd (let g : Skipped ≡ Ended m told l = f in cc))
  moved b stopped e (Comes ge) (Down st) t world here is law number left = still_moved b stopped (Comes ge) (Down st) world _ refl (λ m told l f x a. absurd (let g : Skipped ≡ Ended m told l = f in cc))
  moved b stopped e Crashes (Down st) t world here is law number left = still_moved b stopped Crashes (Down st) world _ refl (λ m told l f x a. absurd (let g : Skipped ≡ Ended m told l = f in cc))
  moved b stopped e Halts (Down st) t world here is law number left = still_moved b stopped Halts (Down st) world _ refl (λ m told l f x a. absurd (let g : Skipped ≡ Ended m told l = f in cc))
  moved b stopped e Restarts (Down st) t world here is law number left = opens_moved b stopped st is world _

-- ---- the event

-- it leads on, and leaves the node in this state and the others as they were
pub record Goes (rules : MachineRules) (h : ℕ) (seen : Seen) (r : Recorded) (old : Replicas) (n : ℕ) (t : NodeState) : Type 0 where
  pub number : ℕ
  pub new : Replicas
  pub step : StepsTo rules h seen r number old new
  pub nodes : (m : ℕ) → new.world.nodes m ≡ with_node_state n t old.world.nodes m

module _ (rules : MachineRules) (ids : List ℕ) (h : ℕ) (gs : List GroupRecorded) (old : Replicas) (k : Kept rules ids gs old) (sent : BytesSent old) (r : Recorded) (n : ℕ) (s t : NodeState) (is : old.world.nodes n ≡ s) where
  pub acts_lead : (e : WorldEvent) (at : NodeEvent) → scene_of old.world e ≡ At n at → r.node ≡ n → ActsAt rules h n r e at s t → Goes rules h (Own e) r old n t
  acts_lead e at here there acts =
      let stopped = is_stopped r.outcome in
      let what = outcome_of old.world e stopped in
      let what_is : what ≡ outcome_at n at stopped s = ap (outcome_in old.world stopped) here ∙ ap (outcome_at n at stopped) is in
      let world = happens old.world e what acts.number in
      let m = moved rules ids gs old k sent n (is_stop what) stopped e at s t world here is acts.lawful acts.number acts.left in
      let in_place : MachinesMove rules n (turn_of rules n (old.machines n) at (old.world.nodes n)) (is_stop what) old m.new m.answers =
      subst (λ x. MachinesMove rules n (turn_of rules n (old.machines n) at x) (is_stop what) old m.new m.answers) (sym is) m.moves
      in
      let says : Says h (is_opening e) m.answers r.outcome (outcome_at n at stopped s) =
      says_alike h (is_opening e) (answers_at rules t) m.answers r.outcome (outcome_at n at stopped s) m.alike acts.says
      in
      record {
        number = acts.number;
        new = m.new;
        step = record {
          answers = m.answers;
          there = subst (λ scene. IsThere scene r.node) (sym here) (sym there);
          world = m.same;
          machines = subst (λ scene. MachinesMoveIn rules scene (is_stop what) old m.new m.answers) (sym here) in_place;
          says = subst (λ o. Says h (is_opening e) m.answers r.outcome o) (sym what_is) says;
        };
        nodes = λ j.
            ap (λ (w : GroupWorld). w.nodes j) m.same
            ∙ ap (λ scene. (after_scene old.world e what (stop_at (is_stop what) acts.number) scene).nodes j) here
            ∙ ap (λ x. with_node_state n x old.world.nodes j)
            (ap (λ o. state_after n at (stop_at (is_stop o) acts.number) (old.world.nodes n)) what_is
            ∙ ap (state_after n at (stop_at (is_stop (outcome_at n at stopped s)) acts.number)) is
            ∙ sym acts.left);
      }

  -- what is passed over leaves all as it was
  pub passed_lead : (e : WorldEvent) → scene_of old.world e ≡ Nowhere → t ≡ s → r.outcome ≡ PassedOver → Goes rules h (Own e) r old n t
  passed_lead e here stays over =
      let stopped = is_stopped r.outcome in
      let what = outcome_of old.world e stopped in
      let what_is : what ≡ Skipped = ap (outcome_in old.world stopped) here in
      record {
        number = 0;
        new = old;
        step = record {
          answers = λ place. None;
          there = subst (λ scene. IsThere scene r.node) (sym here) tt;
          world = sym (ap (after_scene old.world e what (stop_at (is_stop what) 0)) here);
          machines = subst (λ scene. MachinesMoveIn rules scene (is_stop what) old old (λ place. None)) (sym here) (record { machines = refl; built = refl });
          says = subst (λ o. Says h (is_opening e) (λ place. None) r.outcome o) (sym what_is) over;
        };
        nodes = λ j. own_state n j old.world.nodes t (is ∙ sym stays);
      }

  pub halts_lead : HaltsAt rules h n r s t → Goes rules h (Halted n) r old n t
  halts_lead halts =
      let what = outcome_of old.world (event.Halt n) true in
      let what_is : what ≡ outcome_at n Halts true s = ap (outcome_at n Halts true) is in
      let world = happens old.world (event.Halt n) what 0 in
      record {
        number = 0;
        new = record { world = world; machines = old.machines; built = old.built };
        step = record {
          world = refl;
          machines = record { machines = refl; built = refl };
          says = subst (λ o. Says h false (λ place. None) r.outcome o) (sym what_is) halts.says;
        };
        nodes = λ j.
            ap (λ x. with_node_state n x old.world.nodes j)
            (ap (λ o. state_after n Halts (stop_at (is_stop o) 0) (old.world.nodes n)) what_is
            ∙ ap (state_after n Halts (stop_at (is_stop (outcome_at n Halts true s)) 0)) is
            ∙ sym halts.left);
      }

  crash_whatever : (stop : Option ℕ) (x : NodeState) → state_after n Crashes stop x ≡ state_after n Crashes None x
  crash_whatever stop Absent = refl
  crash_whatever stop (Up z) = refl
  crash_whatever stop (Down st) = refl

  pub crashes_lead : CrashesAt rules h n r s t → Goes rules h (Crashed n) r old n t
  crashes_lead crashes =
      let what = outcome_of old.world (event.Crash n) false in
      let what_is : what ≡ outcome_at n Crashes false s = ap (outcome_at n Crashes false) is in
      let world = happens old.world (event.Crash n) what 0 in
      record {
        number = 0;
        new = record { world = world; machines = old.machines; built = old.built };
        step = record {
          world = refl;
          machines = record { machines = refl; built = refl };
          says = subst (λ o. SaysCrash r.outcome o) (sym what_is) crashes.says;
        };
        nodes = λ j.
            ap (λ x. with_node_state n x old.world.nodes j)
            (crash_whatever (stop_at (is_stop what) 0) (old.world.nodes n)
            ∙ ap (state_after n Crashes None) is
            ∙ sym crashes.left);
      }
