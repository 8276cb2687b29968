use Rattle.std.proofs.Common.{◌≡◌, false, ap, sym, ◌∙◌, arith}
use Rattle.raft_values.specs.declared.vote.Vote.{Vote}
use Rattle.raft_state.specs.State.{first_vote}
use Rattle.raft_state.proofs.raft_state.is_first_vote.Goals as goal

-- a vote of no term that isn't granted is told by its node
same : {K : Type 0} (vote : Vote K) (id : K) → vote.committed ≡ false → vote.leader_id.term ≡ 0 → vote.leader_id.node_id ≡ id → vote ≡ first_vote id
same vote id ungranted none node =
    ap (λ c. record { leader_id = vote.leader_id; committed = c }) ungranted
    ∙ ap (λ t. record { leader_id = record { term = t; node_id = vote.leader_id.node_id }; committed = false }) none
    ∙ ap first_vote node

pub returns : goal.returns
returns g c =
    let vote = c.args.vote.now in
    let id = g.NID.NodeIdEssential.default_id in
    let eq = g.NID.PartialEq.eq in
    let none : vote.leader_id.term ≡ 0 = omega arith in
    let answer : c.eq.result ≡ eq vote.leader_id.node_id id = c.eq.ensures ∙ ap (eq vote.leader_id.node_id) c.default_id.ensures in (
      λ e. same vote id c.if-vote.false none (g.met.NID.NodeIdEssential.equal_is_same vote.leader_id.node_id id (sym answer ∙ e)),
      λ e. answer ∙ ap (λ v. eq v.leader_id.node_id id) e ∙ g.met.NID.Eq.laws.refl id,
    )
