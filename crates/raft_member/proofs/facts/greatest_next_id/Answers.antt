-- The greatest number so far grows with each entry.
use Rattle.std.proofs.Common.{◌∙◌, ◌+◌, ◌-◌, ◌^◌, ◌++◌, ℕ, min, ap, subst}
use Rattle.raft_progress.specs.declared.progress_entry.ProgressEntry.{ProgressEntry}
use Rattle.raft_member.proofs.FactLemmas.{Bounds, are_below, bounds_at_first, bounds_at_last, bounds_more}
use Rattle.raft_member.proofs.facts.greatest_next_id.Goals as goal

pub loop-entry-init : goal.loop-entry-init
loop-entry-init c = bounds_at_first c.args.leader.now c.into_iter-entry-iterator.result

pub loop-entry-preserved : goal.loop-entry-preserved
loop-entry-preserved c =
    let leader = c.args.leader.now in
    let all = c.into_iter-entry-iterator.result in
    bounds_more leader c.in-Some.entry.now c.next.new.self all c.saturating_add-next.result c.loop-entry.greatest c.max-greatest.result
    (c.saturating_add-next.ensures ∙ ap (λ (p : ProgressEntry ℕ). min (p.curr_inflight_id + 1) (2 ^ 64 - 1)) c.peer.ensures) c.max-greatest.ensures
    (subst (λ rest. Bounds leader c.loop-entry.greatest rest all) c.in-Some.ensures.steps c.loop-entry.invariant)

pub returns : goal.returns
returns c = λ limit low high.
    let leader = c.args.leader.now in
    let all = c.into_iter-entry-iterator.result in
    bounds_at_last leader c.loop-entry.greatest all
    (subst (λ rest. Bounds leader c.loop-entry.greatest rest all) c.in-None.ensures.steps.0 c.loop-entry.invariant) limit low high
    ∙ ap (are_below leader limit) (c.into_iter-entry-iterator.ensures.into_iter_gives ∙ c.iter-entry-items.ensures ∙ ap (λ p. p.voters ++ p.learners) c.progress.ensures)
