use Rattle.std.proofs.Common.{◌≡◌, ◌<◌, ◌+◌, ◌++◌, ◌∙◌, ℕ, ap, append-nil, refl, subst, sym, arith}
use Rattle.std.specs.Prelude.{Some, [], ◌∷◌}
use Rattle.std.proofs.lemmas.Result.{on_ok_weaker}
use Rattle.raft_commands.specs.Output.{Output}
use Rattle.raft_commands.specs.declared.sm.Command.{Command as MachineCommand}
use Rattle.raft_commands.specs.declared.command.Command.TheVariants.{PurgeLog, StateMachine}
use Rattle.raft_group_step.specs.StoredGroup.{SetSnapshot, after_storing}
use Rattle.raft_known_state.specs.KnownState.{SnapshotMeta}
use Rattle.raft_engine.specs.Numbering.{numbers_in}
use Rattle.raft_engine.specs.Ordering.{InstallsAs, committed_by_machine}
use Rattle.raft_values.specs.declared.log_id.LogId.{LogId}
use Rattle.raft_engine.specs.Committing.{Installs, moves_of_machine}
use Rattle.raft_engine.proofs.CommandLemmas.{numbers_more}
use Rattle.raft_engine.proofs.FollowingLemmas.{above_first}
use Rattle.raft_engine.proofs.SnapshotLemmas.{both_keep, installed}
use Rattle.raft_engine.proofs.engine.Engine.put_snapshot.Goals as goal

pub returns-clause-step : goal.returns-clause-step
returns-clause-step g c = λ x own r step follows meta is_last past there.
    let order = step.state.order in
    let first = above_first r.state order c.args.last.index past in
    let saved = c.in_ok-save_snapshot.ensures.known r.state.stored x.snapshot step.state.knows meta in
    let purged = c.in_ok-purge.ensures.known (after_storing (SetSnapshot x.snapshot) r.state.stored) saved order.placed first there in
    let keeps = both_keep c.args.self.now.state c.save_snapshot.new.self c.purge.new.self c.in_ok-save_snapshot.ensures.rest c.in_ok-purge.ensures.rest in
    let command = c.with_seq-command.result in
    let told : InstallsAs x.snapshot command.payload =
    subst (λ (y : MachineCommand _ _ _ _ _). InstallsAs x.snapshot y.payload) (sym c.with_seq-command.ensures)
    (subst (λ (y : MachineCommand _ _ _ _ _). InstallsAs x.snapshot y.payload) (sym c.install_full_snapshot.ensures) (c.in_ok-copy.ensures.cases ∙ meta)) in
    let covers : c.in_ok-copy.copy.last_log_id ≡ Some c.args.last = ap (λ (m : SnapshotMeta). m.last_log_id) (c.in_ok-copy.ensures.cases ∙ meta) ∙ ap Some (sym is_last) in
    on_ok_weaker c.push_command-2.result
    (λ h. installed x own c.args.self.now _ r step refl refl refl refl follows c.args.last is_last past c.purge.new.self (StateMachine command) (PurgeLog c.args.last) (c.in_ok-commit.ensures.known _ purged) keeps c.in_ok-commit.ensures.rest
    (h ∙ ap (λ (o : Output _ _ _ _ _). record o { queue = o.queue ++ PurgeLog c.args.last ∷ [] }) c.in_ok-push_command.ensures.ok
    ∙ ap (λ (o : Output _ _ _ _ _). record o { queue = (o.queue ++ StateMachine command ∷ []) ++ PurgeLog c.args.last ∷ [] }) c.next_sm_seq-seq.ensures.rest)
    (rw (c.with_seq-command.ensures, c.install_full_snapshot.ensures) refl) refl
    (ap (λ n. n ∷ []) (ap (λ (y : MachineCommand _ _ _ _ _). y.seq) c.with_seq-command.ensures ∙ c.next_sm_seq-seq.ensures.value)) refl
    (ap (λ (y : MachineCommand _ _ _ _ _). moves_of_machine y.payload) c.with_seq-command.ensures ∙ ap (λ (y : MachineCommand _ _ _ _ _). moves_of_machine y.payload) c.install_full_snapshot.ensures
    ∙ ap (λ id. Installs id ∷ []) covers) tt tt told
    (ap (λ (y : MachineCommand _ _ _ _ _). committed_by_machine y.payload c.args.self.now.state.state.committed) c.with_seq-command.ensures
    ∙ ap (λ (y : MachineCommand _ _ _ _ _). committed_by_machine y.payload c.args.self.now.state.state.committed) c.install_full_snapshot.ensures ∙ covers)
    (subst (λ (id : LogId ℕ). id.index < x.snapshot.last.index + 1) (sym is_last) (omega arith)) refl refl (λ s upto. refl) (λ s upto. refl))
    c.push_command-2.ensures.ok

pub returns-clause-numbers : goal.returns-clause-numbers
returns-clause-numbers g c =
    let queue = c.args.self.now.output.queue in
    let command = StateMachine c.with_seq-command.result in
    let purge = PurgeLog c.args.last in
    let seq = ap (λ (y : MachineCommand _ _ _ _ _). y.seq) c.with_seq-command.ensures ∙ c.next_sm_seq-seq.ensures.value in
    let pushed = c.in_ok-push_command.ensures.ok in
    let asked = c.next_sm_seq-seq.ensures.rest in
    on_ok_weaker c.push_command-2.result
    (λ h. (
      ap (λ (o : Output _ _ _ _ _). numbers_in o.queue) h
          ∙ ap (λ (o : Output _ _ _ _ _). numbers_in (o.queue ++ purge ∷ [])) pushed
          ∙ ap (λ (o : Output _ _ _ _ _). numbers_in ((o.queue ++ command ∷ []) ++ purge ∷ [])) asked
          ∙ numbers_more (queue ++ command ∷ []) purge
          ∙ append-nil (numbers_in (queue ++ command ∷ []))
          ∙ numbers_more queue command
          ∙ ap (λ n. numbers_in queue ++ n ∷ []) seq,
      ap (λ (o : Output _ _ _ _ _). o.last_sm_seq) h ∙ ap (λ (o : Output _ _ _ _ _). o.last_sm_seq) pushed ∙ ap (λ (o : Output _ _ _ _ _). o.last_sm_seq) asked,
    ))
    c.push_command-2.ensures.ok
