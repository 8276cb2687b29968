-- Entries that follow one of the log join it.
use Rattle.std.proofs.Common.{◌≡◌, ◌∙◌, ap, sym, refl, false}
use Rattle.std.proofs.Math.Bool.{true≢false}
use Rattle.raft_group_step.specs.StoredGroup.{end_place}
use Rattle.raft_engine.specs.Following.{join_log}
use Rattle.raft_engine.proofs.GapLemmas.{joins}
use Rattle.raft_engine.proofs.MissingEntries.{previous_within}
use Rattle.raft_engine.proofs.following_handler.FollowingHandler.append_entries.Goals as goal

pub returns-then-not-is_joined_by-clause-step : goal.returns-then-not-is_joined_by-clause-step
returns-then-not-is_joined_by-clause-step g c = λ x own r vote previous step follows follow held.
    let end = end_place r.state.stored in
    let whole = joins vote c.args.entries previous end follow (previous_within r.state step.state.order previous held) in
    let told : join_log end c.args.entries ≡ false =
    ap (join_log end) (sym c.as_slice.ensures) ∙ sym (c.is_joined_by.ensures r.state.stored step.state.knows step.state.order.placed) ∙ c.if-not-is_joined_by.true in
    absurd (true≢false (sym whole ∙ told))

pub returns-clause-step : goal.returns-clause-step
returns-clause-step g c = λ x own r vote previous step follows one held. (refl, c.in_ok-put_missing.ensures.step x own r vote previous step follows one held)
