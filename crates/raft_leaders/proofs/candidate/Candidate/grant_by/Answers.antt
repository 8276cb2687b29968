-- A grant: what the progress has counted is whether those who have granted are a quorum.
use Rattle.std.proofs.Common.{◌∙◌, subst}
use Rattle.std.specs.Prelude.{true}
use Rattle.std.specs.Ordering.{bool_cmp}
use Rattle.raft_progress.specs.Granted.{has_reached, IsGranted}
use Rattle.raft_progress.specs.Values.{value_at}
use Rattle.raft_progress.proofs.PartsLemmas.{distinct-moved}
use Rattle.raft_leaders.proofs.GrantedLemmas.{set_is_no_less, granted_flag}
use Rattle.raft_leaders.proofs.candidate.Candidate.grant_by.Goals as goal

pub update-requires : goal.update-requires
update-requires g c = record { rises = set_is_no_less (value_at g.NID.PartialEq.eq c.self.inside.progress.voters c.args.target.now) }

pub invariant_of-self : goal.invariant_of-self
invariant_of-self g c = c.self.invariant

pub invariant_of-self-2 : goal.invariant_of-self-2
invariant_of-self-2 g c = (
  c.update.ensures.counted c.self.invariant.0,
  c.update.ensures.sets.built_with ∙ c.self.invariant.1,
  distinct-moved g.NID.PartialEq.eq g.met.NID.NodeIdEssential.equal_is_same g.met.NID.Eq.laws.symm c.self.inside.progress.voters c.update.new.self.voters c.args.target.now true c.update.ensures.sets.voters c.self.invariant.2,
)

pub returns-clause-granted : goal.returns-clause-granted
returns-clause-granted g c =
    let eq = g.NID.PartialEq.eq in
    let p = c.update.new.self in
    c.granted.ensures
    ∙ granted_flag (λ flag. g.QS.QuorumSet.accepts p.quorum_set (has_reached eq bool_cmp (λ b. b) p.voters flag)) p.voters p.granted
    (subst (λ built. IsGranted eq bool_cmp (λ b. b) (g.QS.QuorumSet.accepts p.quorum_set) built p.granted p.voters)
    (c.update.ensures.sets.built_with ∙ c.self.invariant.1) (c.update.ensures.counted c.self.invariant.0).1)
