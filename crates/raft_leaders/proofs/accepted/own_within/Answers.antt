-- The last one below is the leader's and stands from the place on, or none is.
use Rattle.std.proofs.Common.{◌≡◌, ◌∙◌, ℕ, ap, sym}
use Rattle.std.specs.Prelude.{Some, nat_eq, true, false}
use Rattle.std.proofs.lemmas.Bool.{not-true, not-false}
use Rattle.raft_values.specs.declared.vote.LeaderId.{LeaderId}
use Rattle.raft_leaders.specs.Leader.{id_of_leader, is_of_leader}
use Rattle.raft_leaders.proofs.OwnLemmas.{none_at, none_under, none_up_to, some_under}
use Rattle.raft_leaders.proofs.accepted.own_within.Goals as goal

pub returns-then-ne : goal.returns-then-ne
returns-then-ne c =
    let other : is_of_leader nat_eq c.args.leader_id c.args.key.now ≡ false = not-true (is_of_leader nat_eq c.args.leader_id c.args.key.now) (sym c.ne.ensures ∙ c.if-ne.true) in
    none_under c.args.leader_id c.args.from c.args.below c.args.key.now c.args.rest.now c.requires other

pub returns-then-below-key : goal.returns-then-below-key
returns-then-below-key c = none_at c.args.leader_id c.args.from c.args.below c.args.key.now c.args.rest.now c.requires c.if-below-key.true

pub returns-then-last-from : goal.returns-then-last-from
returns-then-last-from c =
    none_up_to c.args.leader_id c.args.from c.args.below c.args.key.now c.args.rest.now c.last_under-last.result.index c.requires c.if-last-from.true c.last_under-last.ensures.last

pub returns : goal.returns
returns c =
    let mine : is_of_leader nat_eq c.args.leader_id c.args.key.now ≡ true = not-false (is_of_leader nat_eq c.args.leader_id c.args.key.now) (sym c.ne.ensures ∙ c.if-ne.false) in
    ap (λ (l : LeaderId ℕ). Some (id_of_leader l c.last_under-last.result.index)) c.last_under-last.ensures.leader
    ∙ some_under c.args.leader_id c.args.from c.args.below c.args.key.now c.args.rest.now c.last_under-last.result.index mine c.last_under-last.ensures.within.0
    c.last_under-last.ensures.within.1 c.if-last-from.false c.last_under-last.ensures.within.2 c.last_under-last.ensures.last
