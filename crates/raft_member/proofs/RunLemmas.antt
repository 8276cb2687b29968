-- A step that is stored and sent, in part or whole.
use Rattle.std.specs.Prelude.{◌≡◌, ◌⊎◌, ◌+◌, ℕ, zero, suc, Bool, true, false, ◌||◌, is_some, List, [], ◌∷◌, ◌++◌, drop, take, length, Option, Some, None, refl}
use Rattle.std.proofs.Common.{sym, ap, subst, ◌∙◌, inl, inr, arith}
use Rattle.std.proofs.Math.Seq.{take-length}
use Rattle.raft_values.specs.declared.log_id.LogId.{LogId}
use Rattle.raft_values.specs.LogId.{log_id_of}
use Rattle.raft_group_step.specs.StoredGroup.{StoredGroup, StoringCommand, Snapshot, SetSnapshot, after_storing_all}
use Rattle.raft_group_step.specs.StepResult.{StepResult}
use Rattle.raft_commands.specs.declared.command.Command.TheVariants.{BecomeLeader, QuitLeader, AppendInputEntries, ReplicateCommitted, Commit}
use Rattle.raft_commands.specs.declared.command.Command.TheVariants.{Replicate, RebuildReplicationStreams, SaveVote, SendVote, PurgeLog}
use Rattle.raft_commands.specs.declared.command.Command.TheVariants.{DeleteConflictLog, StateMachine, Respond}
use Rattle.raft_commands.specs.declared.sm.CommandPayload.{CommandPayload}
use Rattle.raft_commands.specs.declared.sm.CommandPayload.TheVariants.{BuildSnapshot, GetSnapshot, BeginReceivingSnapshot, InstallFullSnapshot, Apply}
use Rattle.raft_engine.specs.Commands.{Command, storing_of, storing_of_machine, stored_by, sent_by}
use Rattle.raft_engine.specs.Standing.{IsWholeStepOf}
use Rattle.raft_engine.specs.Turns.{Turn}
use Rattle.raft_executor.specs.Stored.{FailsAt, FailsFirst, IsGiven, first_of, has_snapshot, machine_has_snapshot, queue_has_snapshot}
use Rattle.raft_laws.specs.Stop.{stopped_after}
use Rattle.raft_laws.proofs.GroupsStay.{groups_stay}
use Rattle.raft_member.specs.Member.{Engine, IsDown, IsIdle, IsUp}
use Rattle.raft_executor.proofs.StoringLemmas.{fails_first}
use Rattle.raft_group_storage.specs.Keeping.{Fails, FailsAnyhow, IsOneOf}
use Rattle.raft_member.specs.Running.{HasHalted, IsRun}
use Rattle.raft_member.specs.declared.member.Member.{Member}

-- ---- a queue that stores the same whatever the snapshot stores none

same_rest : (a b c : List StoringCommand) → a ++ b ≡ a ++ c → b ≡ c
same_rest [] b c e = e
same_rest (x ∷ xs) b c e = same_rest xs b c (cc e)

same_snapshot : (x y : Snapshot) (b c : List StoringCommand) → (SetSnapshot x ∷ []) ++ b ≡ (SetSnapshot y ∷ []) ++ c → x ≡ y
same_snapshot x y b c e = cc e

module _ {C R : Type 0} where
  machine_stores : (x : Snapshot) (p : CommandPayload C (List ℕ) R ℕ (List ℕ)) → machine_has_snapshot p ≡ true → storing_of_machine x p ≡ SetSnapshot x ∷ []
  machine_stores x BuildSnapshot h = refl
  machine_stores x (GetSnapshot tx) h = absurd (let no : false ≡ true = h in cc)
  machine_stores x (BeginReceivingSnapshot tx) h = absurd (let no : false ≡ true = h in cc)
  machine_stores x (InstallFullSnapshot meta) h = refl
  machine_stores x (Apply entries) h = absurd (let no : false ≡ true = h in cc)

  stores_it : (x : Snapshot) (c : Command C R) → has_snapshot c ≡ true → storing_of x c ≡ SetSnapshot x ∷ []
  stores_it x BecomeLeader h = absurd (let no : false ≡ true = h in cc)
  stores_it x QuitLeader h = absurd (let no : false ≡ true = h in cc)
  stores_it x (AppendInputEntries vote entries) h = absurd (let no : false ≡ true = h in cc)
  stores_it x (ReplicateCommitted target vote matching committed) h = absurd (let no : false ≡ true = h in cc)
  stores_it x (Commit seq before upto) h = absurd (let no : false ≡ true = h in cc)
  stores_it x (Replicate target request) h = absurd (let no : false ≡ true = h in cc)
  stores_it x (RebuildReplicationStreams targets) h = absurd (let no : false ≡ true = h in cc)
  stores_it x (SaveVote vote) h = absurd (let no : false ≡ true = h in cc)
  stores_it x (SendVote target request) h = absurd (let no : false ≡ true = h in cc)
  stores_it x (PurgeLog upto) h = absurd (let no : false ≡ true = h in cc)
  stores_it x (DeleteConflictLog since) h = absurd (let no : false ≡ true = h in cc)
  stores_it x (StateMachine command) h = machine_stores x command.payload h
  stores_it x (Respond condition answer) h = absurd (let no : false ≡ true = h in cc)

  machine_same : (x y : Snapshot) (p : CommandPayload C (List ℕ) R ℕ (List ℕ)) → machine_has_snapshot p ≡ false → storing_of_machine x p ≡ storing_of_machine y p
  machine_same x y BuildSnapshot h = absurd (let no : true ≡ false = h in cc)
  machine_same x y (GetSnapshot tx) h = refl
  machine_same x y (BeginReceivingSnapshot tx) h = refl
  machine_same x y (InstallFullSnapshot meta) h = absurd (let no : true ≡ false = h in cc)
  machine_same x y (Apply entries) h = refl

  stores_same : (x y : Snapshot) (c : Command C R) → has_snapshot c ≡ false → storing_of x c ≡ storing_of y c
  stores_same x y BecomeLeader h = refl
  stores_same x y QuitLeader h = refl
  stores_same x y (AppendInputEntries vote entries) h = refl
  stores_same x y (ReplicateCommitted target vote matching committed) h = refl
  stores_same x y (Commit seq before upto) h = refl
  stores_same x y (Replicate target request) h = refl
  stores_same x y (RebuildReplicationStreams targets) h = refl
  stores_same x y (SaveVote vote) h = refl
  stores_same x y (SendVote target request) h = refl
  stores_same x y (PurgeLog upto) h = refl
  stores_same x y (DeleteConflictLog since) h = refl
  stores_same x y (StateMachine command) h = machine_same x y command.payload h
  stores_same x y (Respond condition answer) h = refl

  no_snapshot : (x y : Snapshot) → (x ≡ y → ⊥) → (queue : List (Command C R)) → stored_by x queue ≡ stored_by y queue → queue_has_snapshot queue ≡ false
  no_snapshot x y differ [] e = refl
  no_snapshot x y differ (c ∷ cs) e = by_test (has_snapshot c) refl (λ f. no_snapshot x y differ cs f)
    where
      by_test : (b : Bool) → has_snapshot c ≡ b → (stored_by x cs ≡ stored_by y cs → queue_has_snapshot cs ≡ false) → (b || queue_has_snapshot cs) ≡ false
      by_test true is rest =
          absurd
          (differ
          (same_snapshot x y (stored_by x cs) (stored_by y cs)
          (ap (λ l. l ++ stored_by x cs) (sym (stores_it x c is)) ∙ e ∙ ap (λ l. l ++ stored_by y cs) (stores_it y c is))))
      by_test false is rest =
          rest
          (same_rest (storing_of x c) (stored_by x cs) (stored_by y cs)
          (e ∙ ap (λ l. l ++ stored_by y cs) (sym (stores_same x y c is))))

abbrev pub one_snapshot : ℕ → Snapshot
one_snapshot place = record { last = log_id_of 0 0 place; membership = None; «prefix» = [] }

two_differ : one_snapshot 0 ≡ one_snapshot 1 → ⊥
two_differ e = absurd (let no : zero ≡ suc zero = ap (λ (x : Snapshot). x.last.index) e in cc)

-- a step that its engine has done whatever the snapshot stores none
pub no_snapshot_stored : {own : ℕ} {seen : Bool} {last : ℕ} {before : StoredGroup} {committed : Option (LogId ℕ)} {turn : Turn} (e : Engine) (r : StepResult)
    → ((x : Snapshot) → IsWholeStepOf (record {
      snapshot = x;
      seen_greater_log = seen;
      last_sm_seq = last;
      stored_before = before;
      committed_before = committed;
      turn_before = turn;
    }) own e r)
    → queue_has_snapshot e.output.queue ≡ false
no_snapshot_stored e r h =
    no_snapshot (one_snapshot 0) (one_snapshot 1) two_differ e.output.queue ((h (one_snapshot 0)).stores ∙ sym (h (one_snapshot 1)).stores)

module _ {X : Type 0} (stands : X → Snapshot → Type 0) where
  -- so no snapshot need be given for it
  pub none_given : {own : ℕ} {seen : Bool} {last : ℕ} {before : StoredGroup} {committed : Option (LogId ℕ)} {turn : Turn} (e : Engine) (r : StepResult)
      → ((x : Snapshot) → IsWholeStepOf (record {
        snapshot = x;
        seen_greater_log = seen;
        last_sm_seq = last;
        stored_before = before;
        committed_before = committed;
        turn_before = turn;
      }) own e r)
      → (x : Snapshot) → IsGiven stands (queue_has_snapshot e.output.queue) None x
  none_given e r h x = λ has. absurd (let no : false ≡ true = sym (no_snapshot_stored e r h) ∙ has in cc)

  -- a step that its engine has done whatever the snapshot is run with none
  pub run_without_snapshot : {seen : Bool} {last : ℕ} {before : StoredGroup} {committed : Option (LogId ℕ)} {turn : Turn}
      (own : ℕ) (e : Engine) (old : StoredGroup) (r : StepResult) (at : ℕ)
      → ((x : Snapshot) → IsWholeStepOf (record {
        snapshot = x;
        seen_greater_log = seen;
        last_sm_seq = last;
        stored_before = before;
        committed_before = committed;
        turn_before = turn;
      }) own e r)
      → r.state.stored ≡ after_storing_all r.commands old → at ≡ r.state.now → IsRun stands own e old r None at
  run_without_snapshot {seen} {last} {before} {committed} {turn} own e old r at h stored moment = record {
    taken = record { snapshot = one_snapshot 0; seen_greater_log = seen; last_sm_seq = last; stored_before = before; committed_before = committed; turn_before = turn };
    step = h (one_snapshot 0);
    is_given = none_given e r h (one_snapshot 0);
    stored = stored;
    moment = moment;
  }

-- ---- what is stored of a step

take_none : (n : ℕ) → ◌≡◌ {A = List StoringCommand} (take n []) []
take_none zero = refl
take_none (suc n) = refl

drop_none : (n : ℕ) → ◌≡◌ {A = List StoringCommand} (drop n []) []
drop_none zero = refl
drop_none (suc n) = refl

-- a front of the first ones is a front, and behind it stands the next one, or none
pub record IsFront (number : ℕ) (first cs : List StoringCommand) : Type 1 where
  pub at : ℕ
  pub before : take number first ≡ take at cs
  pub behind : (take (number + 1) first ≡ take (at + 1) cs) ⊎ (take (number + 1) first ≡ take at cs)
  pub next : (fails : Fails) (s : StoredGroup) → FailsFirst fails (drop number first) s → FailsFirst fails (drop at cs) s

front_of_first : (number limit : ℕ) (cs : List StoringCommand) → IsFront number (take limit cs) cs
front_of_first number zero cs = record {
  at = 0;
  before = take_none number;
  behind = inr (take_none (number + 1));
  next = λ fails s h. fails_first fails cs s (subst (λ (l : List StoringCommand). FailsFirst fails l s) (drop_none number) h);
}
front_of_first zero (suc limit) [] = record { at = 0; before = refl; behind = inl refl; next = λ fails s h. h }
front_of_first zero (suc limit) (c ∷ cs) = record { at = 0; before = refl; behind = inl refl; next = λ fails s h. h }
front_of_first (suc n) (suc limit) [] = record { at = 0; before = refl; behind = inl (take_none (suc n + 1)); next = λ fails s h. h }
front_of_first (suc n) (suc limit) (c ∷ cs) =
    let rest = front_of_first n limit cs in
    let one : suc n + 1 ≡ suc (n + 1) = omega arith in
    let other : suc rest.at + 1 ≡ suc (rest.at + 1) = omega arith in
    let next : take (suc n + 1) (c ∷ take limit cs) ≡ c ∷ take (n + 1) (take limit cs) = ap (λ k. take k (c ∷ take limit cs)) one in
    record {
      at = suc rest.at;
      before = ap (λ (l : List StoringCommand). c ∷ l) rest.before;
      behind =
          elim rest.behind [
            | inl e ↦ inl (next ∙ (ap (λ (l : List StoringCommand). c ∷ l) e ∙ ap (λ k. take k (c ∷ cs)) (sym other)))
            | inr e ↦ inr (next ∙ ap (λ (l : List StoringCommand). c ∷ l) e)
          ];
      next = λ fails s h. rest.next fails s h;
    }

front_stored : (number : ℕ) (stop : Option ℕ) (cs : List StoringCommand) → IsFront number (first_of stop cs) cs
front_stored number None cs = record { at = number; before = refl; behind = inl refl; next = λ fails s h. h }
front_stored number (Some limit) cs = front_of_first number limit cs

module _ (is_well : Type 0) (shown : List StoredGroup → Type 0) where
  -- where one of these is shown, one of more is
  abbrev pub More : Type 0
  More = (parts wider : List StoredGroup) → ((s : StoredGroup) → IsOneOf parts s → IsOneOf wider s) → shown parts → shown wider

  -- what is shown alone is shown as the first of two
  pub shown_first : More → (s t u : StoredGroup) → s ≡ t → shown (s ∷ []) → shown (t ∷ u ∷ [])
  shown_first more s t u same h = more (s ∷ []) (t ∷ u ∷ []) (λ x is. elim is [ inl e ↦ inl (e ∙ same) | inr miss ↦ absurd miss ]) h

  module _ {X : Type 0} (stands : X → Snapshot → Type 0) (own : ℕ) (e : Engine) (old : StoredGroup) (r : StepResult) (given : Option X) (at : ℕ)
      (run : IsRun stands own e old r given at) (present : old.present ≡ true) where
    -- it stopped at one of the first ones
    pub halted_within : More → (fails : Fails) (m : Member) → m.engine ≡ None → (stop : Option ℕ) (number : ℕ)
        → shown (after_storing_all (take number (first_of stop (stored_by run.taken.snapshot e.output.queue))) old
        ∷ after_storing_all (take (number + 1) (first_of stop (stored_by run.taken.snapshot e.output.queue))) old ∷ [])
        → FailsAt fails number (first_of stop (stored_by run.taken.snapshot e.output.queue)) old → HasHalted shown fails old r m
    halted_within more fails m none stop number h failed =
        let front = front_stored number stop (stored_by run.taken.snapshot e.output.queue) in
        let same : (k : ℕ) → after_storing_all (take k (stored_by run.taken.snapshot e.output.queue)) old ≡ stopped_after k old r =
        λ k. ap (λ l. after_storing_all (take k l) old) run.step.stores in
        record {
          number = front.at;
          no_engine = none;
          stored =
              more _ _
              (λ x is. elim is [
                | inl e ↦ inl (e ∙ (ap (λ l. after_storing_all l old) front.before ∙ same front.at))
                | inr others ↦
                    elim others [
                      | inl e ↦
                          elim front.behind [
                            | inl b ↦ inr (inl (e ∙ (ap (λ l. after_storing_all l old) b ∙ same (front.at + 1))))
                            | inr b ↦ inl (e ∙ (ap (λ l. after_storing_all l old) b ∙ same front.at))
                          ]
                      | inr miss ↦ absurd miss
                    ]
              ])
              h;
          failed =
              subst (λ l. FailsAt fails front.at l old) run.step.stores
              (subst (λ l. FailsFirst fails (drop front.at (stored_by run.taken.snapshot e.output.queue)) (after_storing_all l old)) front.before (front.next fails _ failed));
        }

    all_stored : after_storing_all (first_of None (stored_by run.taken.snapshot e.output.queue)) old ≡ r.state.stored
    all_stored = ap (λ l. after_storing_all l old) run.step.stores ∙ sym run.stored

    -- all was stored, and nothing sent
    pub halted_at_end : More → (fails : Fails) → FailsAnyhow fails → (m : Member) → m.engine ≡ None
        → shown (after_storing_all (first_of None (stored_by run.taken.snapshot e.output.queue)) old ∷ []) → HasHalted shown fails old r m
    halted_at_end more fails anyhow m none h = record {
      number = length r.commands;
      no_engine = none;
      stored =
          shown_first more _ _ _
          (ap (λ l. after_storing_all l old) (run.step.stores ∙ sym (take-length r.commands))) h;
      failed = fails_first fails _ _ anyhow;
    }

    -- it stopped where it was to
    pub stopped_there : is_well → (m : Member) → m.engine ≡ None → (k : ℕ) → shown (after_storing_all (first_of (Some k) (stored_by run.taken.snapshot e.output.queue)) old ∷ [])
        → IsDown is_well shown m (stopped_after k old r)
    stopped_there well m none k h = record {
      no_engine = none;
      well = well;
      stored = subst (λ s. shown (s ∷ [])) (ap (λ l. after_storing_all (take k l) old) run.step.stores) h;
      present = groups_stay (take k r.commands) old present;
    }

    -- it ran to its end
    pub up_at_end : is_well → (m : Member) (rest : Engine) → m.engine ≡ Some rest → m.moment ≡ at → shown (after_storing_all (first_of None (stored_by run.taken.snapshot e.output.queue)) old ∷ [])
        → IsIdle m.id rest r.state → IsUp is_well shown m r.state
    up_at_end well m rest has moment h idle = record {
      engine = rest;
      has_engine = has;
      idle = idle;
      well = well;
      stored = subst (λ s. shown (s ∷ [])) all_stored h;
      present = ap (λ (s : StoredGroup). s.present) run.stored ∙ groups_stay r.commands old present;
      moment = moment ∙ run.moment;
    }

    -- the vote under which it sends
    pub vote_at_end : e.state.state.vote.value ≡ (after_storing_all (first_of None (stored_by run.taken.snapshot e.output.queue)) old).vote
    vote_at_end = run.step.state.knows.vote ∙ ap (λ (s : StoredGroup). s.vote) (sym all_stored)

    -- what it sent
    pub sent_at_end : sent_by own (after_storing_all (first_of None (stored_by run.taken.snapshot e.output.queue)) old) e.state.state.committed e.output.queue ≡ r.messages
    sent_at_end =
        ap (λ s. sent_by own s e.state.state.committed e.output.queue) all_stored
        ∙ ap (λ upto. sent_by own r.state.stored upto e.output.queue) run.step.state.committed
        ∙ run.step.sends

-- a number at which to stop is given, or none
pub no_stop : (stop : Option ℕ) → is_some stop ≡ false → stop ≡ None
no_stop None h = refl
no_stop (Some k) h = absurd (let no : true ≡ false = h in cc)

pub some_stop : (stop : Option ℕ) → is_some stop ≡ true → (k : ℕ) × (stop ≡ Some k)
some_stop None h = absurd (let no : false ≡ true = h in cc)
some_stop (Some k) h = (k, refl)
