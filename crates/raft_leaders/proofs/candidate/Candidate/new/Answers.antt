-- A new candidate: nobody has granted, and the voters' ids are distinct.
use Rattle.std.proofs.Common.{sym, subst}
use Rattle.std.specs.Prelude.{false}
use Rattle.std.specs.List.{IsDistinct}
use Rattle.raft_progress.specs.Parts.{ids_of}
use Rattle.raft_progress.proofs.PartsLemmas.{ids-beside, rising_distinct}
use Rattle.raft_leaders.proofs.candidate.Candidate.new.Goals as goal

pub invariant_of-result : goal.invariant_of-result
invariant_of-result g c = (
  c.in_ok-progress.ensures.counted,
  c.in_ok-progress.ensures.built_with,
  subst (λ l. IsDistinct g.NID.PartialEq.eq (ids_of l)) (sym c.in_ok-progress.ensures.voters)
      (subst (IsDistinct g.NID.PartialEq.eq) (sym (ids-beside (λ _. false) (g.QS.QuorumSet.members c.args.quorum_set)))
      (rising_distinct g.NID.Ord.cmp g.met.NID.Ord.matches_eq (g.QS.QuorumSet.members c.args.quorum_set) (g.met.QS.QuorumSet.members_rise c.args.quorum_set))),
)
