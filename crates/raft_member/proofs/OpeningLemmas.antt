-- What a member that was down begins with, and how its opening runs.
use Rattle.std.specs.Prelude.{◌≡◌, ℕ, ◌+◌, ◌-◌, ◌<◌, ◌≤◌, ◌^◌, true, false, if◌then◌else◌, List, [], ◌∷◌, ◌++◌, drop, length, take, Option, Some, None, option_and_then, refl}
use Rattle.std.proofs.Common.{ap, sym, ◌∙◌, subst, arith}
use Rattle.std.proofs.Math.Seq.{drop-append-add, take-append-add}
use Rattle.raft_executor.proofs.StoringLemmas.{fails_first}
use Rattle.raft_executor.specs.Stored.{FailsFirst}
use Rattle.raft_group_storage.specs.Keeping.{Fails, FailsAnyhow}
use Rattle.raft_values.specs.declared.log_id.LogId.{LogId}
use Rattle.raft_values.specs.LogId.{next_place, place_of}
use Rattle.raft_group_step.specs.Message.{Message}
use Rattle.raft_group_step.specs.StoredGroup.{Snapshot, StoredGroup, StoringCommand, StartAfter, after_storing, after_storing_all, end_place, id_at, snapshot_last}
use Rattle.raft_group_step.specs.GroupState.{Follower, state_of}
use Rattle.raft_group_step.specs.GroupEvent.{Open}
use Rattle.raft_group_step.specs.StepResult.{StepResult, apply_up_to, store, unchanged}
use Rattle.raft_group_step.specs.Opening.{drop_stale_log, is_joined_to, resume_lead}
use Rattle.raft_group_step.specs.GroupStep.{finished, group_step}
use Rattle.raft_group_step.specs.Frames.{committed_id}
use Rattle.raft_known_state.specs.KnownState.{IsPlaced, KnownState}
use Rattle.raft_engine.specs.Opening.{OpensAs}
use Rattle.raft_engine.specs.Standing.{IsInOrder}
use Rattle.raft_laws.specs.GoingOn.{behind}
use Rattle.raft_laws.specs.Opened.{opened}
use Rattle.raft_laws.specs.Stop.{stopped_after}
use Rattle.raft_laws.proofs.GoingOn.{openings_go_on}
use Rattle.raft_laws.proofs.GroupsStay.{groups_stay}
use Rattle.raft_laws.proofs.StepMoments.{moments_of_openings}
use Rattle.raft_laws.proofs.StepOrder.{step-keeps}
use Rattle.raft_executor.specs.Said.{SaysAll}
use Rattle.raft_executor.proofs.StoringLemmas.{after_both}
use Rattle.raft_member.specs.Member.{HasEnded, HasStopped, IsDown, IsUp}
use Rattle.raft_member.specs.Opening.{IsFresh, IsOpenable, Loads, stale_end, stale_from}
use Rattle.raft_member.specs.Running.{HasHalted, HasRun}
use Rattle.raft_member.specs.declared.member.Member.{Member}
use Rattle.raft_member.specs.declared.member.Ended.{Ended}
use Rattle.raft_member.specs.declared.member.Ended.TheVariants as ended
use Rattle.raft_member.proofs.RunLemmas.{More, shown_first}

-- ---- at which number to stop

-- so many commands more, after the first ones
abbrev pub Leaves : ℕ → Option ℕ → Option ℕ → Type 0
Leaves front stop later = (later ≡ None → stop ≡ None) × ((n : ℕ) → later ≡ Some n → stop ≡ Some (front + n))

pub leaves_all : (stop : Option ℕ) → Leaves 0 stop stop
leaves_all stop = (λ e. e, λ n e. let k : n ≡ 0 + n = omega arith in e ∙ ap Some k)

pub leaves_none : (front : ℕ) (stop later : Option ℕ) → stop ≡ None → later ≡ None → Leaves front stop later
leaves_none front stop later e f = (λ _. e, λ n g. let no : None ≡ Some n = sym f ∙ g in cc)

pub leaves_one_less : (stop later : Option ℕ) (count : ℕ) → stop ≡ Some count → 0 < count → later ≡ Some (count - 1) → Leaves 1 stop later
leaves_one_less stop later count e some f = (
  λ g. let no : None ≡ Some (count - 1) = sym g ∙ f in cc,
  λ n g.
      let same : count - 1 ≡ n = let both : Some (count - 1) ≡ Some n = sym f ∙ g in cc in
      let k : count ≡ 1 + n = omega arith in
      e ∙ ap Some k,
)

-- ---- what a node is opened with

-- the log that doesn't belong to the snapshot is dropped
abbrev pub dropping : Option (LogId ℕ) → List StoringCommand
dropping None = []
dropping (Some last) = StartAfter last ∷ []

-- these are stored, and all up to the place is committed
abbrev begun_with : List StoringCommand → StoredGroup → Option ℕ → StepResult
begun_with cs kept place =
    record (unchanged (record (state_of (after_storing_all cs kept)) { committed = place; applied = place })) { commands = cs }

module _ (st : StoredGroup) where
  abbrev pub first : List StoringCommand
  first = dropping (stale_end st)

  begun_by : (place : Option ℕ) (o : Option (LogId ℕ)) → apply_up_to place (drop_stale_log o (unchanged (state_of st))) ≡ begun_with (dropping (stale_from st o)) st place
  begun_by place None = refl
  begun_by place (Some last) =
      elim (is_joined_to st last) as (λ b. apply_up_to place (if b then unchanged (state_of st) else store (StartAfter last) (unchanged (state_of st)))
      ≡ begun_with (dropping (if b then None else Some last)) st place) [ true ↦ refl | false ↦ refl ]

  opened_as : opened st ≡ begun_with first st (place_of (snapshot_last st))
  opened_as = begun_by (place_of (snapshot_last st)) (snapshot_last st)

  pub opened_stored : (opened st).state.stored ≡ after_storing_all first st
  opened_stored = ap (λ (r : StepResult). r.state.stored) opened_as

  pub opened_follows : (opened st).state.role ≡ Follower
  opened_follows = ap (λ (r : StepResult). r.state.role) opened_as

  opened_committed : (opened st).state.committed ≡ place_of (snapshot_last st)
  opened_committed = ap (λ (r : StepResult). r.state.committed) opened_as

  opened_snapshot : snapshot_last (opened st).state.stored ≡ snapshot_last st
  opened_snapshot = ap snapshot_last opened_stored ∙ by_stale (stale_end st)
    where
      by_stale : (o : Option (LogId ℕ)) → snapshot_last (after_storing_all (dropping o) st) ≡ snapshot_last st
      by_stale None = refl
      by_stale (Some last) = refl

  -- a member that has stored this is down with it
  pub opened_down : (is_well : Type 0) (shown : List StoredGroup → Type 0) (m : Member) → m.engine ≡ None → is_well → st.present ≡ true
      → shown (after_storing_all first st ∷ []) → IsDown is_well shown m (opened st).state.stored
  opened_down is_well shown m none well present stored = record {
    no_engine = none;
    well = well;
    stored = subst (λ (s : StoredGroup). shown (s ∷ [])) (sym opened_stored) stored;
    present = ap (λ (s : StoredGroup). s.present) opened_stored ∙ groups_stay first st present;
  }

  -- ---- the engine that stands for it

  module _ (own : ℕ) (openable : IsOpenable own st) where
    id_committed : committed_id (opened st).state ≡ snapshot_last (opened st).state.stored
    id_committed =
        ap (option_and_then (id_at (opened st).state.stored)) opened_committed ∙ by_last (snapshot_last st) refl ∙ sym opened_snapshot
      where
        by_last : (o : Option (LogId ℕ)) → snapshot_last st ≡ o → option_and_then (id_at (opened st).state.stored) (place_of o) ≡ o
        by_last None e = refl
        by_last (Some last) e = openable.snapshot last e

    opened_order : IsInOrder (opened st).state
    opened_order =
        let s = (opened st).state in
        let covered : next_place (snapshot_last s.stored) ≤ next_place (snapshot_last s.stored) = omega arith in
        record {
          placed = openable.placed;
          purged = openable.purged;
          snapshot = subst (λ id. next_place (snapshot_last s.stored) ≤ next_place id) (sym id_committed) covered;
          committed = ap place_of (id_committed ∙ opened_snapshot) ∙ sym opened_committed;
          applied = ap (λ (r : StepResult). r.state.applied) opened_as ∙ sym opened_committed;
          within = subst (λ id. next_place id ≤ end_place s.stored) (sym id_committed) openable.reaches;
        }

    -- what is known of what is stored is what an engine opens with
    pub opens_as : (now : StoredGroup) (o : Option KnownState) (k : KnownState) → now ≡ (opened st).state.stored
        → (IsPlaced now → end_place now < 2 ^ 64 → IsFresh now o) → o ≡ Some k → OpensAs own k (opened st).state
    opens_as now o k same fresh there =
        let low : end_place now < 2 ^ 64 = let l = openable.ready.places in let n : end_place now ≡ end_place (opened st).state.stored = ap end_place same in omega arith in
        let loads : Loads k (opened st).state.stored = subst (Loads k) same (subst (IsFresh now) there (fresh (subst IsPlaced (sym same) openable.placed) low)) in
        record {
          knows = loads.knows;
          renewed = loads.renewed ∙ sym (ap (λ (r : StepResult). r.state.renewed) opened_as);
          wish = ap place_of loads.wish ∙ sym (ap (λ (r : StepResult). r.state.wish) opened_as);
          committed = id_committed;
          follows = opened_follows;
          order = opened_order;
          ready = openable.ready;
        }

  -- ---- the step of an opening

  module _ (own : ℕ) where
    -- what the engine does of it
    abbrev pub rest : StepResult
    rest = finished own None (resume_lead own (unchanged (opened st).state))

    step_goes_on : group_step own (state_of st) Open ≡ behind (opened st) rest
    step_goes_on = openings_go_on own (opened st) (ap (λ (r : StepResult). r.refused) opened_as)

    pub rest_stored : rest.state.stored ≡ after_storing_all rest.commands (opened st).state.stored
    rest_stored =
        let whole = (step-keeps own (state_of st) Open).stored in
        ap (λ (r : StepResult). r.state.stored) (sym step_goes_on) ∙ whole
        ∙ ap (λ (r : StepResult). after_storing_all r.commands st) step_goes_on
        ∙ after_both (opened st).commands rest.commands st
        ∙ ap (after_storing_all rest.commands) (ap (λ (r : StepResult). after_storing_all r.commands st) opened_as ∙ sym opened_stored)

    pub rest_begins : 0 ≡ rest.state.now
    rest_begins = sym (moments_of_openings own (state_of st)) ∙ ap (λ (r : StepResult). r.state.now) step_goes_on

    all_commands : (group_step own (state_of st) Open).commands ≡ first ++ rest.commands
    all_commands = ap (λ (r : StepResult). r.commands) step_goes_on ∙ ap (λ (r : StepResult). r.commands ++ rest.commands) opened_as

    -- a stop within the rest is one after what came first
    stops_as : (n : ℕ) → stopped_after n (opened st).state.stored rest ≡ stopped_after (length first + n) st (group_step own (state_of st) Open)
    stops_as n =
        ap (after_storing_all (take n rest.commands)) opened_stored
        ∙ sym (after_both first (take n rest.commands) st)
        ∙ ap (λ cs. after_storing_all cs st) (sym (take-append-add first rest.commands n))
        ∙ ap (λ cs. after_storing_all (take (length first + n) cs) st) (sym all_commands)

    module _ (is_well : Type 0) (shown : List StoredGroup → Type 0) where
      pub stopped_of_halted : (fails : Fails) (m : Member) → HasHalted shown fails (opened st).state.stored rest m → HasStopped shown fails own (state_of st) Open m
      stopped_of_halted fails m h =
          let step = group_step own (state_of st) Open in
          let next : length first + (h.number + 1) ≡ (length first + h.number) + 1 = omega arith in
          record {
            taken = refl;
            number = length first + h.number;
            no_engine = h.no_engine;
            stored =
                subst (λ (s : StoredGroup). shown (stopped_after (length first + h.number) st step ∷ s ∷ []))
                (stops_as (h.number + 1) ∙ ap (λ k. stopped_after k st step) next)
                (subst (λ (s : StoredGroup). shown (s ∷ stopped_after (h.number + 1) (opened st).state.stored rest ∷ [])) (stops_as h.number) h.stored);
            failed =
                subst (λ (l : List StoringCommand). FailsFirst fails l (stopped_after (length first + h.number) st step))
                (sym (ap (drop (length first + h.number)) all_commands ∙ drop-append-add first rest.commands h.number))
                (subst (λ (s : StoredGroup). FailsFirst fails (drop h.number rest.commands) s) (stops_as h.number) h.failed);
          }

      -- nothing of it was done yet, or the log was dropped or not
      pub stopped_at_first : More is_well shown → (fails : Fails) → FailsAnyhow fails → (m : Member) → m.engine ≡ None → shown (st ∷ [])
          → HasStopped shown fails own (state_of st) Open m
      stopped_at_first more fails anyhow m none stored = record {
        taken = refl;
        number = 0;
        no_engine = none;
        stored = shown_first is_well shown more _ _ _ refl stored;
        failed = fails_first fails _ _ anyhow;
      }

      pub stopped_in_first : More is_well shown → (fails : Fails) (m : Member) → m.engine ≡ None → (last : LogId ℕ) → stale_end st ≡ Some last
          → shown (st ∷ after_storing (StartAfter last) st ∷ []) → fails (StartAfter last) st → HasStopped shown fails own (state_of st) Open m
      stopped_in_first more fails m none last is stored failed = record {
        taken = refl;
        number = 0;
        no_engine = none;
        stored = subst (λ (s : StoredGroup). shown (st ∷ s ∷ [])) one stored;
        failed = subst (λ (l : List StoringCommand). FailsFirst fails l st) (sym (all_commands ∙ ap (λ o. dropping o ++ rest.commands) is)) failed;
      }
        where
          one : after_storing (StartAfter last) st ≡ stopped_after 1 st (group_step own (state_of st) Open)
          one =
              ap (λ o. after_storing_all (dropping o) st) (sym is) ∙ sym opened_stored
              ∙ stops_as 0
              ∙ ap (λ o. stopped_after (length (dropping o) + 0) st (group_step own (state_of st) Open)) is

      module _ {X : Type 0} (stands : X → Snapshot → Type 0) (stop later : Option ℕ) (leaves : Leaves (length first) stop later) (m : Member) where
        pub ended_of_run : (e : Ended X) → HasRun stands is_well shown (opened st).state.stored rest later m e → HasEnded stands is_well shown own (state_of st) Open stop m e
        ended_of_run (ended.Done sent) h =
            let messages : (group_step own (state_of st) Open).messages ≡ rest.messages =
            ap (λ (r : StepResult). r.messages) step_goes_on ∙ ap (λ (r : StepResult). r.messages ++ rest.messages) opened_as in (
              leaves.0 h.0,
              refl,
              subst (λ (l : List Message). SaysAll stands sent.items l) (sym messages) h.1,
              subst (IsUp is_well shown m) (ap (λ (r : StepResult). r.state) (sym step_goes_on)) h.2,
            )
        ended_of_run (ended.Refused why) h = absurd h
        ended_of_run ended.Stopped h = (refl, (length first + h.0, leaves.1 h.0 h.1, subst (IsDown is_well shown m) (stops_as h.0) h.2))
        ended_of_run ended.Skipped h = absurd h
