-- What is left of the entries are those that the log lacks.
use Rattle.std.proofs.Common.{◌≡◌, ◌∙◌, ap, sym, subst, drop}
use Rattle.std.proofs.lemmas.Result.{on_ok_weaker}
use Rattle.raft_values.specs.LogId.{next_place, place_of}
use Rattle.raft_group_step.specs.AppendRequest.{put_entries}
use Rattle.raft_known_state.specs.KnownState.{ArePlaced}
use Rattle.raft_engine.specs.Standing.{IsStepOf}
use Rattle.raft_engine.specs.Following.{unheld_entries}
use Rattle.raft_engine.proofs.FollowingLemmas.{committed_place}
use Rattle.raft_engine.proofs.MissingEntries.{begin, missing_are, placed_after, previous_within}
use Rattle.raft_engine.proofs.engine.Engine.put_missing.Goals as goal

pub returns-clause-step : goal.returns-clause-step
returns-clause-step g c = λ x own r vote previous step follows follow held.
    let s = r.state.stored in
    let es = c.args.entries in
    let order = step.state.order in
    let placed = placed_after vote es previous follow in
    let start = begin r.state order es (next_place previous) placed (previous_within r.state order previous held) in
    let left : c.drop_first.new.self ≡ unheld_entries s r.state.committed es =
    c.drop_first.ensures ∙ ap (drop c.count_held-held.result) (sym c.as_slice.ensures)
    ∙ c.count_held-held.ensures.held s step.state.knows order.placed
    ∙ ap (unheld_entries s (place_of c.args.self.now.state.state.committed)) c.as_slice.ensures
    ∙ ap (λ p. unheld_entries s p es) (committed_place own c.args.self.now r.state step.state) in
    let missing = left ∙ missing_are s es r.state.committed (next_place previous) placed in
    on_ok_weaker c.put_entries.result
    (λ h. subst (λ xs. IsStepOf x own c.put_entries.new.self (put_entries xs r)) missing h)
    (c.put_entries.ensures.step x own r start.start step follows (subst (ArePlaced start.start) (sym left) start.placed) start.past start.within)
