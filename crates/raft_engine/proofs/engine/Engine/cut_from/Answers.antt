-- The log has an entry at the place where its log id is found there.
use Rattle.std.proofs.Common.{◌≡◌, ◌≤◌, ◌∙◌, ap, sym, subst, refl, true, false, None}
use Rattle.std.specs.Prelude.{Some, [], ◌∷◌, is_some}
use Rattle.std.proofs.lemmas.Result.{on_ok_weaker}
use Rattle.raft_values.specs.LogId.{next_place}
use Rattle.raft_commands.specs.declared.command.Command.TheVariants.{DeleteConflictLog}
use Rattle.raft_group_step.specs.StoredGroup.{CutFrom, entry_at, id_at}
use Rattle.raft_engine.proofs.PlacedEntries.{entry_of_id, id_of_place, in_log_of_found}
use Rattle.raft_engine.proofs.FollowingLemmas.{above_first, committed_place, cut_keeps_id, log_stored, order_of_cut, past_committed}
use Rattle.raft_engine.proofs.engine.Engine.cut_from.Goals as goal

pub returns-in_default-clause-step : goal.returns-in_default-clause-step
returns-in_default-clause-step g c = λ x own r step follows past.
    let order = step.state.order in
    let none : is_some (entry_at r.state.stored c.args.place) ≡ false =
    entry_of_id r.state.stored c.args.place None (above_first r.state order c.args.place past)
    (sym c.in_default.is ∙ c.get_log_id.ensures r.state.stored step.state.knows order.placed) in
    rw none step

pub returns-clause-step : goal.returns-clause-step
returns-clause-step g c = λ x own r step follows past.
    let order = step.state.order in
    let first = above_first r.state order c.args.place past in
    let found : Some c.in-Some.since ≡ id_at r.state.stored c.args.place = sym c.in-Some.is ∙ c.get_log_id.ensures r.state.stored step.state.knows order.placed in
    let some : is_some (entry_at r.state.stored c.args.place) ≡ true = entry_of_id r.state.stored c.args.place (Some c.in-Some.since) first found in
    let at = id_of_place r.state.stored c.args.place c.in-Some.since order.placed first found in
    on_ok_weaker c.push_command.result
    (λ h. rw some
    (log_stored x own c.args.self.now _ r step refl refl refl refl (CutFrom c.args.place) (DeleteConflictLog c.in-Some.since) follows
    (c.in_ok-truncate.ensures.known r.state.stored step.state.knows order.placed first) c.in_ok-truncate.ensures.rest
    (order_of_cut r.state order c.args.place past) (cut_keeps_id r.state order c.args.place past)
    h (ap (λ n. CutFrom n ∷ []) at) refl tt (
      subst (λ n. next_place c.args.self.now.state.state.committed ≤ n) (sym at) (past_committed c.args.self.now.state.state.committed r.state.committed c.args.place (committed_place own c.args.self.now r.state step.state) past),
      in_log_of_found r.state.stored c.args.place c.in-Some.since order.placed first found,
    )
    refl (λ s upto. refl)))
    c.push_command.ensures.ok
