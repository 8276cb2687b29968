use Rattle.std.specs.Prelude.{◌≡◌, ◌==◌, ◌&&◌, ◌||◌, ℕ, List}
use Rattle.std.proofs.Common.{sym, ap, subst}
use Rattle.raft_values.specs.declared.vote.Vote.{Vote}
use Rattle.raft_group_step.specs.Values.{Entry}
use Rattle.raft_list_laws.specs.Changes.{GoesOn}
use Rattle.raft_group_lists.specs.declared.notes.Reached.{Reached}
use Rattle.raft_group_lists.specs.Notes.{entries_at, has_reached, list_to, reaches}
use Rattle.raft_group_lists.proofs.ListLemmas.{settled_then}
use Rattle.raft_group_lists.proofs.settle.learn_at.Goals as goal

pub returns-clause-list : goal.returns-clause-list
returns-clause-list c =
    let noted = c.args.noted.now in
    let spotted = c.spot_of.new.lead in
    let learned = c.learn.new.lead in
    let reached : List Reached = c.as_slice.result.now in
    let more = subst (λ (rs : List Reached). (at n : ℕ) → has_reached learned.reached.items at n ≡ (has_reached rs at n || (c.args.node == n && reaches c.args.place at))) (sym c.as_slice.ensures.value) c.learn.ensures.reached in
    subst (λ (es : List Entry). GoesOn (entries_at noted c.args.listed.now.items) es (entries_at noted c.settle.new.listed.items))
    (settled_then c.args.voters.now reached c.args.node c.args.place learned more spotted.vote.leader_id (ap (λ (v : Vote ℕ). v.leader_id) (sym c.learn.ensures.vote)) (list_to noted c.args.last))
    c.in_ok-settle.ensures.ok

pub returns-clause-space : goal.returns-clause-space
returns-clause-space c = λ n h. c.learn.ensures.space n (c.spot_of.ensures.space n h)
