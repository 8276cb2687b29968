-- Machines beside a group keep the folds of what their nodes applied, and snapshots' bytes those of their lists.
use Rattle.std.specs.Prelude.{◌≡◌, ◌⊎◌, ℕ, ◌+◌, ◌<◌, ◌≤◌, ◌==◌, if◌then◌else◌, Bool, true, false, List, [], ◌∷◌, ◌++◌, length, take, Option, Some, None, Contains, refl}
use Rattle.std.specs.List.{last_or}
use Rattle.std.proofs.Common.{inl, inr, sym, ap, ◌∙◌, subst, arith, ⊎_elim, eqb-true}
use Rattle.std.proofs.lemmas.List.{length-take}
use Rattle.std.proofs.lemmas.Bool.{eq-eqb, eqb-false, ne_eqb}
use Rattle.raft_group_step.specs.StoredGroup.{StoredGroup, Snapshot, prefix_of}
use Rattle.raft_group_step.specs.Message.{Message}
use Rattle.raft_group_step.specs.GroupState.{GroupState, Untold, state_of}
use Rattle.raft_group_step.specs.StepResult.{tokens_of}
use Rattle.raft_group_step.specs.GroupEvent.{GroupEvent, AddGroup, Call, Receive, Open}
use Rattle.raft_group_step.specs.GroupStep.{group_step}
use Rattle.raft_group_step.specs.SnapshotRequest.{place_above}
use Rattle.raft_laws.specs.GroupWorld.{GroupWorld, NodeState, Absent, Up, Down, Outcome, Recorded, Skipped, state_or}
use Rattle.raft_laws.specs.GroupWorld.{Done as Ended, Stopped as Broken}
use Rattle.raft_laws.specs.NodeEvent.{NodeEvent, Comes, Crashes, Halts, Restarts, after_step, outcome_at, state_after}
use Rattle.raft_laws.specs.GroupRun.{Replays, stop_at}
use Rattle.raft_laws.specs.OneList.{IsGroupHistory, applied_list}
use Rattle.raft_laws.specs.Settled.{group_list}
use Rattle.raft_laws.specs.VotesRise.{stored_of}
use Rattle.raft_laws.proofs.BallotAgreement.{same_some}
use Rattle.raft_laws.proofs.BallotSafe.{Among}
use Rattle.raft_laws.proofs.Counts.{among_contains, contains_at, among_front, among_behind, contains_among}
use Rattle.raft_laws.proofs.WorldRuns.{among_either}
use Rattle.raft_laws.proofs.BallotSafe.{among_at}
use Rattle.raft_machines.specs.Machine.{MachineRules}
use Rattle.raft_machines.specs.Fold.{answer_at, fold_of}
use Rattle.raft_headline.specs.Machines.{Built, GivesRightly, HasBytes, KeepsItsLaw, MachinesMove, Replicas, StandsAt, TakesTurn, Turn, asked_by, brought_by, given_of, snapshots_of, turn_of}
use Rattle.raft_machines.specs.Telling.{Standing, answer_on, run_on}
use Rattle.raft_headline.proofs.Folding.{AnswersFold, agree_take, answer_front, answers_fold}
use Rattle.raft_machines.proofs.FoldLemmas.{run_on_fold}
use Rattle.raft_headline.proofs.NodeFacts.{applied_committed, applied_front, applied_size, applied_within, applied_stays, placed_log, prefix_applied, snapshot_size}
use Rattle.raft_headline.proofs.StepRuns.{all_among, left_stored, open_applies, snapshot_after, snapshot_or, step_applies, stored_among}

module _ (rules : MachineRules) where
  abbrev pub NodesFolded : Replicas → Type 0
  NodesFolded g =
      (n : ℕ) (s : GroupState) → g.world.nodes n ≡ Up s → g.machines n ≡ fold_of rules (applied_list s)

  abbrev pub BuiltFolded : List Built → Type 0
  BuiltFolded built =
      (x : Snapshot) (bytes : List ℕ) → Contains built (record { snapshot = x; bytes = bytes }) → rules.restored bytes ≡ fold_of rules x.«prefix»

abbrev pub BytesThere : Replicas → Type 0
BytesThere g =
    (n : ℕ) (st : StoredGroup) (x : Snapshot) → stored_of (g.world.nodes n) ≡ Some st → st.snapshot ≡ Some x → HasBytes g.built x

-- a group with machines, where a history leads
pub record Kept (rules : MachineRules) (ids : List ℕ) (rs : List Recorded) (g : Replicas) : Type 0 where
  pub leads : IsGroupHistory ids rs g.world
  pub folded : NodesFolded rules g
  pub built : BuiltFolded rules g.built
  pub bytes : BytesThere g

-- ---- lists

contains_left : {A : Type 0} (xs ys : List A) (x : A) → Contains xs x → Contains (xs ++ ys) x
contains_left xs ys x h =
    let at = contains_at xs x h in among_contains (xs ++ ys) x (among_front x xs ys (among_at xs at.0 x at.1))

contains_either : {A : Type 0} (xs ys : List A) (x : A) → Contains (xs ++ ys) x → Contains xs x ⊎ Contains ys x
contains_either xs ys x h =
    let at = contains_at (xs ++ ys) x h in
    ⊎_elim (λ a. inl (among_contains xs x a)) (λ a. inr (among_contains ys x a)) (among_either x xs ys (among_at (xs ++ ys) at.0 x at.1))

-- the bytes that a machine gave
module _ (rules : MachineRules) (state : List ℕ) where
  abbrev gave : Snapshot → Built
  gave x = record { snapshot = x; bytes = rules.snapshot state }

  given_among : (xs : List Snapshot) (x : Snapshot) → Among x xs → Among (gave x) (given_of rules state xs)
  given_among [] x a = absurd a
  given_among (y ∷ xs) x a = ⊎_elim (λ e. inl (ap gave e)) (λ rest. inr (given_among xs x rest)) a

  -- each of them is the state's, for one of the snapshots
  record GivenFor (xs : List Snapshot) (b : Built) : Type 0 where
    snapshot : Among b.snapshot xs
    bytes : b.bytes ≡ rules.snapshot state

  given_for : (xs : List Snapshot) (b : Built) → Among b (given_of rules state xs) → GivenFor xs b
  given_for [] b a = absurd a
  given_for (y ∷ xs) b a =
      ⊎_elim
      (λ e. record { snapshot = inl (ap (λ (x : Built). x.snapshot) e); bytes = ap (λ (x : Built). x.bytes) e })
      (λ rest. let g = given_for xs b rest in record { snapshot = inr g.snapshot; bytes = g.bytes })
      a

  rightly_law : (xs : List Snapshot) (x : Snapshot) → Among x xs → GivesRightly rules state xs → KeepsItsLaw rules state
  rightly_law [] x a h = absurd a
  rightly_law (y ∷ xs) x a h = h

-- ---- one event

abbrev pub NotOpening : NodeEvent → Type 0
NotOpening (Comes AddGroup) = Unit {0}
NotOpening (Comes (Call call now)) = Unit {0}
NotOpening (Comes (Receive peer m now)) = Unit {0}
NotOpening (Comes Open) = ⊥
NotOpening Crashes = Unit {0}
NotOpening Halts = Unit {0}
NotOpening Restarts = Unit {0}

not_open : (e : GroupEvent) → NotOpening (Comes e) → e ≡ Open → ⊥
not_open AddGroup h f = absurd (let g : AddGroup ≡ Open = f in cc)
not_open (Call call now) h f = absurd (let g : Call call now ≡ Open = f in cc)
not_open (Receive peer m now) h f = absurd (let g : Receive peer m now ≡ Open = f in cc)
not_open Open h f = h

-- the machine stands where the state's list says
pub record Right (rules : MachineRules) (at : Standing) (t : GroupState) : Type 0 where
  pub state : at.state ≡ fold_of rules (take at.count (applied_list t))
  pub within : at.count ≤ length (applied_list t)

module _ (rules : MachineRules) (ids : List ℕ) (rs : List Recorded) (g : Replicas) (k : Kept rules ids rs g) (r : Recorded) (v : GroupWorld) (run : Replays g.world (r ∷ []) v) (next : IsGroupHistory ids (rs ++ r ∷ []) v) where
  -- what the node's machine had run is a front of what it is to run
  goes_on_right : (n : ℕ) (s t : GroupState) → g.world.nodes n ≡ Up s → v.nodes n ≡ Up t → place_above s.committed ≤ place_above t.committed → Right rules (record { state = g.machines n; count = place_above s.applied }) t
  goes_on_right n s t is now grows =
      let before : place_above s.applied ≡ place_above s.committed = ap place_above (applied_committed ids rs g.world k.leads n s is) in
      let after : place_above t.applied ≡ place_above t.committed = ap place_above (applied_committed ids (rs ++ r ∷ []) v next n t now) in
      let size = applied_size ids (rs ++ r ∷ []) v next n t now in
      record {
        state =
            k.folded n s is
            ∙ ap (fold_of rules) (sym (applied_stays ids rs (r ∷ []) g.world v k.leads next run n n s t is now (omega (arith, before, after, grows))));
        within = omega (arith, before, after, grows, size);
      }

  -- the snapshot's bytes are those of its list, which is a front of what is applied
  restored_right : (n : ℕ) (t : GroupState) (x : Snapshot) → v.nodes n ≡ Up t → t.stored.snapshot ≡ Some x → (has : HasBytes g.built x) → Right rules (record { state = rules.restored has.0; count = x.last.index + 1 }) t
  restored_right n t x now is has =
      let size = snapshot_size ids (rs ++ r ∷ []) v next n t.stored x (ap stored_of now) is in
      let front : take (length x.«prefix») (applied_list t) ≡ x.«prefix» =
      subst (λ o. take (length (prefix_of o)) (applied_list t) ≡ prefix_of o) is (prefix_applied ids (rs ++ r ∷ []) v next n t now)
      in
      let long = ap length front in
      record {
        state =
            k.built x has.0 has.1
            ∙ ap (fold_of rules) (sym front)
            ∙ ap (λ c. fold_of rules (take c (applied_list t))) size;
        within = omega (arith, size, (let e : length (take (length x.«prefix») (applied_list t)) ≤ length (applied_list t) = take_short (length x.«prefix») (applied_list t) in e), long);
      }
    where
      take_short : {A : Type 0} (c : ℕ) (xs : List A) → length (take c xs) ≤ length xs
      take_short c xs = let e = length-take c xs in omega (arith, e)

  stands_right : (n : ℕ) (t : GroupState) (before at : Standing) (o : Option Snapshot) → v.nodes n ≡ Up t → (o ≡ None → Right rules before t) → ((x : Snapshot) → o ≡ Some x → t.stored.snapshot ≡ Some x) → StandsAt rules g.built before o at → Right rules at t
  stands_right n t before at None now from stored stands = subst (λ (a : Standing). Right rules a t) (sym stands) (from refl)
  stands_right n t before at (Some x) now from stored stands =
      subst (λ (a : Standing). Right rules a t) (sym stands.1) (restored_right n t x now (stored x refl) stands.0)

  -- what a message brings is what is stored after it
  brought_stored : (n : ℕ) (s : GroupState) (e : GroupEvent) (x : Snapshot) → last_or None (brought_by e (group_step n s e).commands) ≡ Some x → (group_step n s e).state.stored.snapshot ≡ Some x
  brought_stored n s AddGroup x is = absurd (let f : None ≡ Some x = is in cc)
  brought_stored n s (Call call now) x is = absurd (let f : None ≡ Some x = is in cc)
  brought_stored n s (Receive peer m now) x is =
      let q = group_step n s (Receive peer m now) in
      ap (λ (st : StoredGroup). st.snapshot) (left_stored n s (Receive peer m now))
      ∙ snapshot_after q.commands s.stored
      ∙ ap (λ o. snapshot_or o s.stored.snapshot) is
  brought_stored n s Open x is = absurd (let f : None ≡ Some x = is in cc)

  -- an opening stores no snapshot
  opened_stored : (n : ℕ) (st : StoredGroup) → (group_step n (state_of st) Open).state.stored.snapshot ≡ st.snapshot
  opened_stored n st =
      let q = group_step n (state_of st) Open in
      ap (λ (y : StoredGroup). y.snapshot) (left_stored n (state_of st) Open)
      ∙ snapshot_after q.commands st
      ∙ ap (λ xs. snapshot_or (last_or None xs) st.snapshot) (none_of (snapshots_of q.commands) (open_applies n st).snapshots)
    where
      none_of : (xs : List Snapshot) → ((x : Snapshot) → Among x xs → ⊥) → xs ≡ []
      none_of [] f = refl
      none_of (x ∷ xs) f = absurd (f x (inl refl))

  -- a step of a node that was up
  comes_right : (n : ℕ) (s : GroupState) (e : GroupEvent) → NotOpening (Comes e) → g.world.nodes n ≡ Up s → v.nodes n ≡ Up (group_step n s e).state → (at : Standing)
      → StandsAt rules g.built (record { state = g.machines n; count = place_above s.applied }) (last_or None (brought_by e (group_step n s e).commands)) at → Right rules at (group_step n s e).state
  comes_right n s e fine is now at stands =
      let q = group_step n s e in
      let a = step_applies n s (applied_committed ids rs g.world k.leads n s is) (placed_log ids rs g.world k.leads n s is) e (not_open e fine) in
      stands_right n q.state (record { state = g.machines n; count = place_above s.applied }) at _ now
      (λ none. goes_on_right n s q.state is now a.grows) (brought_stored n s e) stands

  -- and an opening
  opens_right : (n : ℕ) (st : StoredGroup) → v.nodes n ≡ Up (group_step n (state_of st) Open).state → (at : Standing)
      → StandsAt rules g.built (record { state = rules.first; count = 0 }) st.snapshot at → Right rules at (group_step n (state_of st) Open).state
  opens_right n st now at stands =
      stands_right n (group_step n (state_of st) Open).state (record { state = rules.first; count = 0 }) at st.snapshot now
      (λ none. record { state = refl; within = omega arith })
      (λ x e. opened_stored n st ∙ e) stands

  -- ---- what becomes of the node and of the others

  module _ (new : Replicas) (world : new.world ≡ v) (answers : ℕ → Option (List ℕ)) where
    others_machines : (n j : ℕ) (turn : Option Turn) (stops : Bool) → (j ≡ n → ⊥) → MachinesMove rules n turn stops g new answers → new.machines j ≡ g.machines j
    others_machines n j None stops ne h = ap (λ f. f j) h.machines
    others_machines n j (Some turn) true ne h = ap (λ f. f j) h.machines
    others_machines n j (Some turn) false ne h =
        ap (λ f. f j) h.machines ∙ ap (λ b. if b then run_on rules h.at (applied_list (group_step n turn.state turn.event).state) else g.machines j) (ne_eqb j n ne)

    own_machine : (n : ℕ) (turn : Turn) (h : TakesTurn rules n turn false g new answers) → new.machines n ≡ run_on rules h.at (applied_list (group_step n turn.state turn.event).state)
    own_machine n turn h =
        let state = run_on rules h.at (applied_list (group_step n turn.state turn.event).state) in
        ap (λ f. f n) h.machines ∙ ap (λ b. if b then state else g.machines n) (eq-eqb n n refl)

    ran_folded : (n : ℕ) (turn : Turn) (t : GroupState) (h : TakesTurn rules n turn false g new answers) → (group_step n turn.state turn.event).state ≡ t → Right rules h.at (group_step n turn.state turn.event).state → new.machines n ≡ fold_of rules (applied_list t)
    ran_folded n turn t h same right =
        own_machine n turn h
        ∙ run_on_fold rules (applied_list (group_step n turn.state turn.event).state) h.at right.state right.within
        ∙ ap (λ (x : GroupState). fold_of rules (applied_list x)) same

    -- the machine of a node that is up after the event
    node_folded : (n : ℕ) (t : GroupState) (b : Bool) (i : ℕ) (x : NodeState) (e : NodeEvent) → NotOpening e → g.world.nodes n ≡ x → v.nodes n ≡ Up t → state_after n e (stop_at b i) x ≡ Up t
        → MachinesMove rules n (turn_of rules n (g.machines n) e x) b g new answers → new.machines n ≡ fold_of rules (applied_list t)
    node_folded n t b i Absent e fine is now after h = absurd (let f : Absent ≡ Up t = after in cc)
    node_folded n t true i (Up s) (Comes e) fine is now after h = absurd (let f : Down _ ≡ Up t = after in cc)
    node_folded n t false i (Up s) (Comes e) fine is now after h =
        let q = group_step n s e in
        let same : q.state ≡ t = (let f : Up q.state ≡ Up t = after in cc) in
        ran_folded n _ t h same (comes_right n s e fine is (now ∙ ap Up (sym same)) h.at h.stands)
    node_folded n t b i (Up s) Crashes fine is now after h = absurd (let f : Down s.stored ≡ Up t = after in cc)
    node_folded n t b i (Up s) Halts fine is now after h = absurd (let f : Down s.stored ≡ Up t = after in cc)
    node_folded n t b i (Up s) Restarts fine is now after h =
        let same : s ≡ t = (let f : Up s ≡ Up t = after in cc) in
        ap (λ f. f n) h.machines ∙ k.folded n t (is ∙ ap Up same)
    node_folded n t b i (Down st) (Comes e) fine is now after h = absurd (let f : Down st ≡ Up t = after in cc)
    node_folded n t b i (Down st) Crashes fine is now after h = absurd (let f : Down st ≡ Up t = after in cc)
    node_folded n t b i (Down st) Halts fine is now after h = absurd (let f : Down st ≡ Up t = after in cc)
    node_folded n t true i (Down st) Restarts fine is now after h = absurd (let f : Down _ ≡ Up t = after in cc)
    node_folded n t false i (Down st) Restarts fine is now after h =
        let q = group_step n (state_of st) Open in
        let same : q.state ≡ t = (let f : Up q.state ≡ Up t = after in cc) in
        ran_folded n _ t h same (opens_right n st (now ∙ ap Up (sym same)) h.at h.stands)

    -- bytes that were given are of what they restore
    still_built : new.built ≡ g.built → BuiltFolded rules new.built
    still_built same x bytes h = k.built x bytes (subst (λ l. Contains l (record { snapshot = x; bytes = bytes })) same h)

    more_built : (state : List ℕ) (xs : List Snapshot) → new.built ≡ g.built ++ given_of rules state xs → GivesRightly rules state xs → ((x : Snapshot) → Among x xs → state ≡ fold_of rules x.«prefix») → BuiltFolded rules new.built
    more_built state xs same rightly of x bytes h =
        ⊎_elim
        (λ old. k.built x bytes old)
        (λ now.
        let b = given_for rules state xs (record { snapshot = x; bytes = bytes }) (contains_among _ _ now) in
        ap rules.restored b.bytes ∙ rightly_law rules state xs x b.snapshot rightly ∙ of x b.snapshot)
        (contains_either g.built (given_of rules state xs) _ (subst (λ l. Contains l (record { snapshot = x; bytes = bytes })) same h))

    asked_lists : (n : ℕ) (s : GroupState) (e : GroupEvent) → g.world.nodes n ≡ Up s → NotOpening (Comes e) → (x : Snapshot) → Among x (asked_by e (group_step n s e).commands) → g.machines n ≡ fold_of rules x.«prefix»
    asked_lists n s AddGroup is fine x a = absurd a
    asked_lists n s (Call call now) is fine x a =
        let may = step_applies n s (applied_committed ids rs g.world k.leads n s is) (placed_log ids rs g.world k.leads n s is) (Call call now) (not_open (Call call now) fine) in
        k.folded n s is ∙ ap (fold_of rules) (sym (may.snapshots x a))
    asked_lists n s (Receive peer m now) is fine x a = absurd a
    asked_lists n s Open is fine x a = absurd a

    node_built : (n : ℕ) (b : Bool) (x : NodeState) (e : NodeEvent) → NotOpening e → g.world.nodes n ≡ x → MachinesMove rules n (turn_of rules n (g.machines n) e x) b g new answers → BuiltFolded rules new.built
    node_built n b Absent e fine is h = still_built h.built
    node_built n b (Up s) (Comes e) fine is h =
        more_built (g.machines n) (asked_by e (group_step n s e).commands) h.given h.rightly (asked_lists n s e is fine)
    node_built n b (Up s) Crashes fine is h = still_built h.built
    node_built n b (Up s) Halts fine is h = still_built h.built
    node_built n b (Up s) Restarts fine is h = still_built h.built
    node_built n b (Down st) (Comes e) fine is h = still_built h.built
    node_built n b (Down st) Crashes fine is h = still_built h.built
    node_built n b (Down st) Halts fine is h = still_built h.built
    node_built n b (Down st) Restarts fine is h = more_built rules.first [] h.given h.rightly (λ x a. absurd a)

    -- and each stored snapshot has some
    still_has : (more : List Built) → new.built ≡ g.built ++ more → (x : Snapshot) → HasBytes g.built x → HasBytes new.built x
    still_has more same x h =
        (h.0, subst (λ l. Contains l (record { snapshot = x; bytes = h.0 })) (sym same) (contains_left g.built more _ h.1))

    same_has : new.built ≡ g.built → (x : Snapshot) → HasBytes g.built x → HasBytes new.built x
    same_has same x h = (h.0, subst (λ l. Contains l (record { snapshot = x; bytes = h.0 })) (sym same) h.1)

    stored_has : (n : ℕ) (s : GroupState) (e : GroupEvent) (b : Bool) → NotOpening (Comes e) → g.world.nodes n ≡ Up s
        → (h : TakesTurn rules n (record { state = s; event = e; before = record { state = g.machines n; count = place_above s.applied }; restores = last_or None (brought_by e (group_step n s e).commands) }) b g new answers)
        → (y : Snapshot) → Among y (snapshots_of (group_step n s e).commands) → HasBytes new.built y
    stored_has n s AddGroup b fine is h y a =
        absurd ((step_applies n s (applied_committed ids rs g.world k.leads n s is) (placed_log ids rs g.world k.leads n s is) AddGroup (not_open AddGroup fine)).snapshots y a)
    stored_has n s (Call call now) b fine is h y a =
        let xs = snapshots_of (group_step n s (Call call now)).commands in
        let there : Among (gave rules (g.machines n) y) (g.built ++ given_of rules (g.machines n) xs) = among_behind _ g.built _ (given_among rules (g.machines n) xs y a) in
        (rules.snapshot (g.machines n), subst (λ l. Contains l (gave rules (g.machines n) y)) (sym h.given) (among_contains _ _ there))
    stored_has n s (Receive peer m now) b fine is h y a =
        still_has _ h.given y (h.brought y (among_contains _ y a))
    stored_has n s Open b fine is h y a = absurd fine

    node_has : (n : ℕ) (b : Bool) (i : ℕ) (x : NodeState) (e : NodeEvent) → NotOpening e → g.world.nodes n ≡ x → MachinesMove rules n (turn_of rules n (g.machines n) e x) b g new answers
        → (st : StoredGroup) (y : Snapshot) → stored_of (state_after n e (stop_at b i) x) ≡ Some st → st.snapshot ≡ Some y → HasBytes new.built y
    node_has n b i Absent e fine is h st y q f = absurd (let no : None ≡ Some st = q in cc)
    node_has n true i (Up s) (Comes e) fine is h st y q f =
        let same = same_some q in
        ⊎_elim
        (λ a. stored_has n s e true fine is h y a)
        (λ old. still_has _ h.given y (k.bytes n s.stored y (ap stored_of is) old))
        (stored_among i (group_step n s e).commands s.stored y (ap (λ (z : StoredGroup). z.snapshot) same ∙ f))
    node_has n false i (Up s) (Comes e) fine is h st y q f =
        let same = same_some q in
        ⊎_elim
        (λ a. stored_has n s e false fine is h y a)
        (λ old. still_has _ h.given y (k.bytes n s.stored y (ap stored_of is) old))
        (all_among (group_step n s e).commands s.stored y (ap (λ (z : StoredGroup). z.snapshot) (sym (left_stored n s e)) ∙ ap (λ (z : StoredGroup). z.snapshot) same ∙ f))
    node_has n b i (Up s) Crashes fine is h st y q f = same_has h.built y (k.bytes n st y (ap stored_of is ∙ q) f)
    node_has n b i (Up s) Halts fine is h st y q f = same_has h.built y (k.bytes n st y (ap stored_of is ∙ q) f)
    node_has n b i (Up s) Restarts fine is h st y q f = same_has h.built y (k.bytes n st y (ap stored_of is ∙ q) f)
    node_has n b i (Down kept) (Comes e) fine is h st y q f = same_has h.built y (k.bytes n st y (ap stored_of is ∙ q) f)
    node_has n b i (Down kept) Crashes fine is h st y q f = same_has h.built y (k.bytes n st y (ap stored_of is ∙ q) f)
    node_has n b i (Down kept) Halts fine is h st y q f = same_has h.built y (k.bytes n st y (ap stored_of is ∙ q) f)
    node_has n true i (Down kept) Restarts fine is h st y q f =
        ⊎_elim
        (λ a. absurd ((open_applies n kept).snapshots y a))
        (λ old. still_has _ h.given y (k.bytes n kept y (ap stored_of is) old))
        (stored_among i (group_step n (state_of kept) Open).commands kept y (ap (λ (z : StoredGroup). z.snapshot) (same_some q) ∙ f))
    node_has n false i (Down kept) Restarts fine is h st y q f =
        ⊎_elim
        (λ a. absurd ((open_applies n kept).snapshots y a))
        (λ old. still_has _ h.given y (k.bytes n kept y (ap stored_of is) old))
        (all_among (group_step n (state_of kept) Open).commands kept y
        (ap (λ (z : StoredGroup). z.snapshot) (sym (left_stored n (state_of kept) Open)) ∙ ap (λ (z : StoredGroup). z.snapshot) (same_some q) ∙ f))

    others_has : (n : ℕ) (turn : Option Turn) (b : Bool) → MachinesMove rules n turn b g new answers → (y : Snapshot) → HasBytes g.built y → HasBytes new.built y
    others_has n None b h y has = same_has h.built y has
    others_has n (Some turn) b h y has = still_has _ h.given y has

    -- what the event leaves at its node, and at the others
    pub at_kept : (n : ℕ) (e : NodeEvent) (b : Bool) (i : ℕ) → NotOpening e → ((j : ℕ) → v.nodes j ≡ state_or (j == n) (state_after n e (stop_at b i) (g.world.nodes n)) (g.world.nodes j))
        → MachinesMove rules n (turn_of rules n (g.machines n) e (g.world.nodes n)) b g new answers → Kept rules ids (rs ++ r ∷ []) new
    at_kept n e b i fine nodes h = record {
      leads = subst (IsGroupHistory ids (rs ++ r ∷ [])) (sym world) next;
      folded = λ j t now. folded_at j t (ap (λ (w : GroupWorld). w.nodes j) (sym world) ∙ now) (j == n) refl;
      built = node_built n b (g.world.nodes n) e fine refl h;
      bytes = λ j st y q f. bytes_at j st y (ap (λ (w : GroupWorld). stored_of (w.nodes j)) (sym world) ∙ q) f (j == n) refl;
    }
      where
        here : (j : ℕ) (c : Bool) → (j == n) ≡ c → v.nodes j ≡ state_or c (state_after n e (stop_at b i) (g.world.nodes n)) (g.world.nodes j)
        here j c t = nodes j ∙ ap (λ x. state_or x (state_after n e (stop_at b i) (g.world.nodes n)) (g.world.nodes j)) t

        folded_at : (j : ℕ) (t : GroupState) → v.nodes j ≡ Up t → (c : Bool) → (j == n) ≡ c → new.machines j ≡ fold_of rules (applied_list t)
        folded_at j t now true c =
            let same = eqb-true j n c in
            let there : v.nodes n ≡ Up t = ap v.nodes (sym same) ∙ now in
            ap new.machines same ∙ node_folded n t b i (g.world.nodes n) e fine refl there (sym (here j true c) ∙ now) h
        folded_at j t now false c =
            others_machines n j _ b (eqb-false j n c) h ∙ k.folded j t (sym (here j false c) ∙ now)

        bytes_at : (j : ℕ) (st : StoredGroup) (y : Snapshot) → stored_of (v.nodes j) ≡ Some st → st.snapshot ≡ Some y → (c : Bool) → (j == n) ≡ c → HasBytes new.built y
        bytes_at j st y q f true c = node_has n b i (g.world.nodes n) e fine refl h st y (ap stored_of (sym (here j true c)) ∙ q) f
        bytes_at j st y q f false c = others_has n _ b h y (k.bytes j st y (ap stored_of (sym (here j false c)) ∙ q) f)

    -- ---- answers

    -- what a machine answers as it runs is the fold's answer on the list
    on_list : (n : ℕ) (t : GroupState) (at : Standing) (place : ℕ) (answer : List ℕ) → v.nodes n ≡ Up t → Right rules at t → answer_on rules at (applied_list t) place ≡ Some answer → AnswersFold rules (group_list v) place answer
    on_list n t at place answer now right e =
        let a = answers_fold rules (applied_list t) at right.state right.within place answer e in
        let front = applied_front ids (rs ++ r ∷ []) v next n t now in
        let within = applied_within ids (rs ++ r ∷ []) v next n t now in
        let size = applied_size ids (rs ++ r ∷ []) v next n t now in
        let inside : place < place_above t.applied = omega (arith, size, a.within) in
        record {
          within = omega arith;
          same =
              a.same
              ∙ ap (λ es. answer_at rules es place) front
              ∙ answer_front rules (place_above t.applied) (take (place_above t.applied) (group_list v)) (group_list v) (agree_take (place_above t.applied) (group_list v) within) place inside;
        }

    none_told : (sent : List Message) (tells : List Untold) (lost : List ℕ) (x : Untold) {P : Type 0} → ◌≡◌ {A = Outcome} (Ended [] [] []) (Ended sent tells lost) → Contains tells x → P
    none_told sent tells lost x e has =
        let same : [] ≡ tells = cc in
        let none : Contains [] x = subst (λ xs. Contains xs x) (sym same) has in
        let l = none.1 in
        absurd (omega arith)

    node_answers : (n : ℕ) (b stopped : Bool) (i : ℕ) (x : NodeState) (e : NodeEvent) → NotOpening e → g.world.nodes n ≡ x → b ≡ false → v.nodes n ≡ state_after n e (stop_at b i) x → MachinesMove rules n (turn_of rules n (g.machines n) e x) b g new answers
        → (sent : List Message) (tells : List Untold) (lost : List ℕ) → outcome_at n e stopped x ≡ Ended sent tells lost → (u : Untold) → Contains tells u → (answer : List ℕ) → answers u.place ≡ Some answer → AnswersFold rules (group_list v) u.place answer
    node_answers n b stopped i Absent e fine is goes now h sent tells lost o u has answer a = absurd (let f : Skipped ≡ Ended sent tells lost = o in cc)
    node_answers n b stopped i (Up s) (Comes e) fine is goes now h sent tells lost o u has answer a =
        let q = group_step n s e in
        let up : v.nodes n ≡ Up q.state = now ∙ ap (λ c. after_step (stop_at c i) s q) goes in
        on_list n q.state h.at u.place answer up (comes_right n s e fine is up h.at h.stands) (ap (λ f. f u.place) (sym h.answered) ∙ a)
    node_answers n b stopped i (Up s) Crashes fine is goes now h sent tells lost o u has answer a = none_told sent tells lost u o has
    node_answers n b stopped i (Up s) Halts fine is goes now h sent tells lost o u has answer a = absurd (let f : Broken (tokens_of s.untold) ≡ Ended sent tells lost = o in cc)
    node_answers n b stopped i (Up s) Restarts fine is goes now h sent tells lost o u has answer a = absurd (let f : Skipped ≡ Ended sent tells lost = o in cc)
    node_answers n b stopped i (Down st) (Comes e) fine is goes now h sent tells lost o u has answer a = absurd (let f : Skipped ≡ Ended sent tells lost = o in cc)
    node_answers n b stopped i (Down st) Crashes fine is goes now h sent tells lost o u has answer a = absurd (let f : Skipped ≡ Ended sent tells lost = o in cc)
    node_answers n b stopped i (Down st) Halts fine is goes now h sent tells lost o u has answer a = absurd (let f : Skipped ≡ Ended sent tells lost = o in cc)
    node_answers n b stopped i (Down st) Restarts fine is goes now h sent tells lost o u has answer a =
        let q = group_step n (state_of st) Open in
        let up : v.nodes n ≡ Up q.state = now ∙ ap (λ c. after_step (stop_at c i) (state_of st) q) goes in
        on_list n q.state h.at u.place answer up (opens_right n st up h.at h.stands) (ap (λ f. f u.place) (sym h.answered) ∙ a)

    pub at_answers : (n : ℕ) (e : NodeEvent) (b stopped : Bool) (i : ℕ) → NotOpening e → b ≡ false → ((j : ℕ) → v.nodes j ≡ state_or (j == n) (state_after n e (stop_at b i) (g.world.nodes n)) (g.world.nodes j))
        → MachinesMove rules n (turn_of rules n (g.machines n) e (g.world.nodes n)) b g new answers
        → (sent : List Message) (tells : List Untold) (lost : List ℕ) → outcome_at n e stopped (g.world.nodes n) ≡ Ended sent tells lost → (u : Untold) → Contains tells u → (answer : List ℕ) → answers u.place ≡ Some answer → AnswersFold rules (group_list v) u.place answer
    at_answers n e b stopped i fine goes nodes h =
        let here : v.nodes n ≡ state_after n e (stop_at b i) (g.world.nodes n) =
        nodes n ∙ ap (λ x. state_or x (state_after n e (stop_at b i) (g.world.nodes n)) (g.world.nodes n)) (eq-eqb n n refl)
        in
        node_answers n b stopped i (g.world.nodes n) e fine refl goes here h
