-- The place has an entry, and it is committed.
use Rattle.std.proofs.Common.{◌≡◌, ◌++◌, ◌∙◌, ap, sym, refl, false, None}
use Rattle.std.specs.Prelude.{Some, [], ◌∷◌}
use Rattle.std.proofs.lemmas.Result.{on_ok_weaker}
use Rattle.raft_commands.specs.declared.command.Command.TheVariants.{Commit}
use Rattle.raft_commands.specs.Output.{Output}
use Rattle.raft_group_step.specs.StoredGroup.{id_at}
use Rattle.raft_group_step.specs.StepResult.{is_within}
use Rattle.raft_engine.proofs.PlacedEntries.{has_entry, in_log_of_id}
use Rattle.raft_engine.proofs.FollowingLemmas.{above_first, committed_place, more_committed}
use Rattle.raft_engine.proofs.engine.Engine.commit_up_to.Goals as goal

pub returns-in_default-get_log_id-clause-step : goal.returns-in_default-get_log_id-clause-step
returns-in_default-get_log_id-clause-step g c = λ x own r step within.
    let order = step.state.order in
    let past : is_within c.in-Some.place r.state.committed ≡ false =
    ap (is_within c.in-Some.place) (sym (committed_place own c.args.self.now r.state step.state)) ∙ sym c.is_committed.ensures ∙ c.if-is_committed.false in
    let there = has_entry r.state.stored c.in-Some.place order.placed (above_first r.state order c.in-Some.place past) (within c.in-Some.place c.in-Some.is) in
    let none : None ≡ Some there.entry.log_id = sym c.in_default-get_log_id.is ∙ c.get_log_id.ensures r.state.stored step.state.knows order.placed ∙ there.id in cc

pub returns-clause-step : goal.returns-clause-step
returns-clause-step g c = λ x own r step within.
    let order = step.state.order in
    let past : is_within c.in-Some.place r.state.committed ≡ false =
    ap (is_within c.in-Some.place) (sym (committed_place own c.args.self.now r.state step.state)) ∙ sym c.is_committed.ensures ∙ c.if-is_committed.false in
    let found : Some c.in-Some-get_log_id.upto ≡ id_at r.state.stored c.in-Some.place = sym c.in-Some-get_log_id.is ∙ c.get_log_id.ensures r.state.stored step.state.knows order.placed in
    let commit = Commit c.next_sm_seq-seq.result c.args.self.now.state.state.committed c.in-Some-get_log_id.upto in
    on_ok_weaker c.push_command.result
    (λ h. rw c.in-Some.is
    (more_committed x own c.args.self.now _ r step c.in-Some.place c.in-Some-get_log_id.upto commit refl refl refl refl (c.in_ok-commit.ensures.known r.state.stored step.state.knows) c.in_ok-commit.ensures.rest past (within c.in-Some.place c.in-Some.is)
    found
    (h ∙ ap (λ (o : Output _ _ _ _ _). record o { queue = o.queue ++ commit ∷ [] }) c.next_sm_seq-seq.ensures.rest) refl (ap (λ n. n ∷ []) c.next_sm_seq-seq.ensures.value) refl tt
    (in_log_of_id r.state.stored c.in-Some.place c.in-Some-get_log_id.upto order.placed (above_first r.state order c.in-Some.place past) (within c.in-Some.place c.in-Some.is) found) refl refl (λ s upto. refl)))
    c.push_command.ensures.ok
