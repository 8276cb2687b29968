-- The ledger of a run: it has just the tokens that wait, and each event's outcome names those that end in it.
use Rattle.std.specs.Prelude.{◌≡◌, ℕ, suc, ◌+◌, Bool, true, false, List, [], ◌∷◌, ◌++◌, length, slice_get, take, Option, Some, None, is_some, unwrap_or, refl}
use Rattle.std.proofs.Common.{sym, ap, ◌∙◌, subst, arith, append_assoc, append-nil, ne_eqb}
use Rattle.raft_group_step.specs.Values.{has_id}
use Rattle.raft_group_step.specs.Message.{Message}
use Rattle.raft_group_step.specs.GroupState.{no_group, state_of}
use Rattle.raft_group_step.specs.GroupEvent.{AddGroup, Call, GroupCall, Open, Receive}
use Rattle.raft_laws.specs.declared.world_event.WorldEvent.{WorldEvent}
use Rattle.raft_laws.specs.declared.world_event.WorldEvent.TheVariants.{Add, Ask, Crash, Deliver, Halt, Restart}
use Rattle.raft_laws.specs.GroupWorld.{GroupWorld, NodeState, Absent, Up, Outcome, is_stop, new_world, state_or}
use Rattle.raft_laws.specs.NodeEvent.{NodeEvent, Comes, Crashes, Halts, Restarts, outcome_at, state_after}
use Rattle.raft_laws.specs.GroupRun.{Scene, Nowhere, At, Replays, after_scene, group_run, history_of, is_same_setup, outcome_in, outcome_of, ran, scene_of, scene_of_call, scene_of_delivery, setup_in_call, stop_at}
use Rattle.raft_laws.specs.OneList.{AreNodeIds}
use Rattle.raft_laws.specs.Origins.{Events, world_before}
use Rattle.raft_laws.proofs.BallotAgreement.{with_value_cases}
use Rattle.raft_laws.proofs.Runs.{run-replays}
use Rattle.raft_laws.proofs.StepFits.{world_after}
use Rattle.raft_laws.proofs.WorldOrigins.{run_more}
use Rattle.raft_laws.proofs.WorldRuns.{MayTakePlace}
use Rattle.raft_laws.proofs.WorldSteps.{MayHappen}
use Rattle.raft_laws.proofs.Numbers.{state_here}
use Rattle.raft_history_laws.specs.TokenEnds.{EndsAreNamed, Ledger, LedgersHaveTheUntold, NamesUnlessCrash, Numbered, at_stake, brings, ledger_behind, ledger_from, ledger_of, that_ended, that_wait, untold_in, untolds}
use Rattle.raft_history_laws.proofs.AlongNodes.{MayFollow, may_follow}
use Rattle.raft_history_laws.proofs.LastNoted.{world_behind}
use Rattle.raft_history_laws.proofs.NodeLedgers.{NodeLedger, node_ledger}
use Rattle.raft_history_laws.proofs.WaitingTokens.{node_waits}

-- ---- runs, event by event

runs_on : (P : Events → Type 0) → ((pre : Events) (x : WorldEvent × Option ℕ) → P pre → P (pre ++ x ∷ [])) → (pre post : Events) → P pre → P (pre ++ post)
runs_on P next pre [] p = subst P (sym (append-nil pre)) p
runs_on P next pre (x ∷ post) p = subst P (append_assoc pre (x ∷ []) post) (runs_on P next (pre ++ x ∷ []) post (next pre x p))

pub along_runs : (P : Events → Type 0) → P [] → ((pre : Events) (x : WorldEvent × Option ℕ) → P pre → P (pre ++ x ∷ [])) → (es : Events) → P es
along_runs P first next es = runs_on P next [] es first

more_from : (number : ℕ) (pre : Events) (x : WorldEvent × Option ℕ) (w : GroupWorld) (l : Ledger) → ledger_from number (pre ++ x ∷ []) w l ≡ ledger_behind (number + length pre) (group_run pre w) (ran (group_run pre w) x.0 x.1) (scene_of (group_run pre w) x.0) (ledger_from number pre w l)
more_from number [] x w l =
    let e : number ≡ number + length (let none : Events = [] in none) = omega arith in
    ap (λ i. ledger_behind i w (ran w x.0 x.1) (scene_of w x.0) l) e
more_from number (y ∷ pre) x w l =
    let e : suc number + length pre ≡ number + length (y ∷ pre) = omega arith in
    let then' = ran w y.0 y.1 in
    let ledger = ledger_behind number w then' (scene_of w y.0) l in
    more_from (suc number) pre x then' ledger
    ∙ ap (λ i. ledger_behind i (group_run pre then') (ran (group_run pre then') x.0 x.1) (scene_of (group_run pre then') x.0) (ledger_from (suc number) pre then' ledger)) e

-- the ledger behind one event more
pub ledger_more : (pre : Events) (x : WorldEvent × Option ℕ) (w : GroupWorld) → ledger_of (pre ++ x ∷ []) w ≡ ledger_behind (length pre) (group_run pre w) (ran (group_run pre w) x.0 x.1) (scene_of (group_run pre w) x.0) (ledger_of pre w)
ledger_more pre x w =
    let e : 0 + length pre ≡ length pre = omega arith in
    more_from 0 pre x w (λ n. [])
    ∙ ap (λ i. ledger_behind i (group_run pre w) (ran (group_run pre w) x.0 x.1) (scene_of (group_run pre w) x.0) (ledger_of pre w)) e

-- ---- no node that is up is opened

no_receive : (n i peer : ℕ) (x : Message) (now : ℕ) → At n (Comes (Receive peer x now)) ≡ At i (Comes Open) → ⊥
no_receive n i peer x now e = cc

no_call : (n i : ℕ) (call : GroupCall) (now : ℕ) → At n (Comes (Call call now)) ≡ At i (Comes Open) → ⊥
no_call n i call now e = cc

pub no_opening : (w : GroupWorld) (e : WorldEvent) (i : ℕ) → scene_of w e ≡ At i (Comes Open) → ⊥
no_opening w (Add n) i h = let f : At n (Comes AddGroup) ≡ At i (Comes Open) = h in cc
no_opening w (Ask n call now) i h = go (is_same_setup w.setup (setup_in_call call)) h
  where
    go : (b : Bool) → scene_of_call b n call now ≡ At i (Comes Open) → ⊥
    go true e = no_call n i call now e
    go false e = let f : Nowhere ≡ At i (Comes Open) = e in cc
no_opening w (Deliver number now) i h = go (slice_get w.messages number) h
  where
    go : (o : Option Message) → scene_of_delivery o now ≡ At i (Comes Open) → ⊥
    go None e = let f : Nowhere ≡ At i (Comes Open) = e in cc
    go (Some x) e = no_receive x.addressee i x.sender x now e
no_opening w (Crash n) i h = let f : At n Crashes ≡ At i (Comes Open) = h in cc
no_opening w (Halt n) i h = let f : At n Halts ≡ At i (Comes Open) = h in cc
no_opening w (Restart n) i h = let f : At n Restarts ≡ At i (Comes Open) = h in cc

-- ---- one event of a run

module _ (ids : List ℕ) (small : AreNodeIds ids) where
  abbrev pub first : GroupWorld
  first = new_world ids

  module _ (pre : Events) (x : WorldEvent × Option ℕ) where
    abbrev pub w : GroupWorld
    w = group_run pre first

    abbrev pub next : GroupWorld
    next = ran w x.0 x.1

    abbrev pub outcome : Outcome
    outcome = outcome_of w x.0 (is_some x.1)

    abbrev pub k : ℕ
    k = unwrap_or x.1 0

    pub run : Replays first (history_of pre first) w
    run = run-replays pre first

    pub same : outcome ≡ outcome_of w x.0 (is_stop outcome)
    same = (run-replays (x ∷ []) w).0

    pub f : MayFollow w (record { event = x.0; outcome = outcome }) k
    f = may_follow ids small (history_of pre first) w run (record { event = x.0; outcome = outcome }) k same

    module _ (n : ℕ) (at_node : NodeEvent) (here : scene_of w x.0 ≡ At n at_node) where
      pub outcome_is : outcome ≡ outcome_at n at_node (is_stop outcome) (w.nodes n)
      outcome_is = same ∙ ap (outcome_in w (is_stop outcome)) here

      pub next_is : next ≡ after_scene w x.0 outcome (stop_at (is_stop outcome) k) (At n at_node)
      next_is = ap (after_scene w x.0 outcome (stop_at (is_stop outcome) k)) here

      abbrev pub state : NodeState
      state = state_after n at_node (stop_at (is_stop outcome) k) (w.nodes n)

      pub node_is : next.nodes n ≡ state
      node_is = ap (λ (v : GroupWorld). v.nodes n) next_is ∙ state_here n state w.nodes

      pub other_is : (j : ℕ) → (j ≡ n → ⊥) → next.nodes j ≡ w.nodes j
      other_is j ne = ap (λ (v : GroupWorld). v.nodes j) next_is ∙ ap (λ b. state_or b state (w.nodes j)) (ne_eqb j n ne)

      pub may : MayHappen f.membership (world_after f.membership f.first.before) n at_node (w.nodes n)
      may = subst (MayTakePlace f.membership f.some w f.first.before f.first.fits) here f.may

      pub event_ledger : (number : ℕ) (l : List Numbered) → untolds l ≡ untold_in (w.nodes n) → NodeLedger at_node outcome (next.nodes n) (l ++ brings n number at_node (w.nodes n))
      event_ledger number l is =
          subst (λ s. NodeLedger at_node outcome s (l ++ brings n number at_node (w.nodes n))) (sym node_is)
          (subst (λ o. NodeLedger at_node o state (l ++ brings n number at_node (w.nodes n))) (sym outcome_is)
          (node_ledger f.membership f.some f.first.before n at_node (is_stop outcome) k (w.nodes n) (f.first.fits.nodes n) may
          (node_waits ids small (history_of pre first) w run n)
          (λ e. no_opening w x.0 n (here ∙ ap (At n) e))
          (ap is_stop (sym outcome_is)) number l is))

    scene_ledger : (scene : Scene) → scene_of w x.0 ≡ scene → (number : ℕ) (l : Ledger) → ((j : ℕ) → untolds (l j) ≡ untold_in (w.nodes j)) → (j : ℕ) → untolds (ledger_behind number w next scene l j) ≡ untold_in (next.nodes j)
    scene_ledger Nowhere here number l is j =
        is j ∙ ap (λ (v : GroupWorld). untold_in (v.nodes j)) (sym (ap (after_scene w x.0 outcome (stop_at (is_stop outcome) k)) here))
    scene_ledger (At n at_node) here number l is j =
        with_value_cases l n (that_wait (next.nodes n) (l n ++ brings n number at_node (w.nodes n))) j (λ ws. untolds ws ≡ untold_in (next.nodes j))
        (λ e. (event_ledger n at_node here number (l n) (is n)).waits ∙ ap (λ i. untold_in (next.nodes i)) (sym e))
        (λ ne. is j ∙ ap untold_in (sym (other_is n at_node here j ne)))

  start_none : (b : Bool) → [] ≡ untold_in (state_or b (Up (state_of no_group)) Absent)
  start_none true = refl
  start_none false = refl

  pub ledgers_untold : (es : Events) (n : ℕ) → untolds (ledger_of es first n) ≡ untold_in ((group_run es first).nodes n)
  ledgers_untold es =
      along_runs (λ (pre : Events). (n : ℕ) → untolds (ledger_of pre first n) ≡ untold_in ((group_run pre first).nodes n))
      (λ n. start_none (has_id ids n))
      (λ pre x h n.
      ap (λ (l : Ledger). untolds (l n)) (ledger_more pre x first)
      ∙ scene_ledger pre x (scene_of (group_run pre first) x.0) refl (length pre) (ledger_of pre first) h n
      ∙ ap (λ (v : GroupWorld). untold_in (v.nodes n)) (sym (run_more pre x first)))
      es

pub ledgers_have_the_untold : LedgersHaveTheUntold
ledgers_have_the_untold ids small es n = ledgers_untold ids small es n

pub ends_are_named : EndsAreNamed
ends_are_named ids small es number n event stop e happened here =
    let w = new_world ids in
    let x : WorldEvent × Option ℕ = (event, stop) in
    let behind = world_behind es number w x happened in
    subst (λ (v : GroupWorld). NamesUnlessCrash e (outcome_of (world_before es number w) event (is_some stop)) (that_ended (v.nodes n) (at_stake es w number n e))) (sym behind)
    (event_ledger ids small (take number es) x n e here number (ledger_of (take number es) w n) (ledgers_untold ids small (take number es) n)).named
