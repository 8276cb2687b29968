use Rattle.std.specs.Prelude.{◌≡◌, true, false, Some, None, refl}
use Rattle.std.proofs.Common.{sym, ap, ◌∙◌}
use Rattle.raft_group_step.specs.StoredGroup.{StoredGroup}
use Rattle.raft_group_step.specs.Values.{vote_lt}
use Rattle.raft_laws.specs.LawRuns.{voted}
use Rattle.raft_laws.proofs.BallotAgreement.{same_some}
use Rattle.raft_laws.proofs.law_runs.votes_that_are_kept.Goals as goal

pub returns-clause-rises : goal.returns-clause-rises
returns-clause-rises c =
    record {
      kept = λ a e.
          (voted 2, refl, ap (λ (x : StoredGroup). vote_lt (voted 2).vote x.vote) (sym (same_some e)));
    }

pub returns-clause-falls : goal.returns-clause-falls
returns-clause-falls c = λ h.
    let k = h.kept (voted 2) refl in
    let low : vote_lt (voted 1).vote (voted 2).vote ≡ false = ap (λ (x : StoredGroup). vote_lt x.vote (voted 2).vote) (same_some k.1) ∙ k.2 in
    let f : true ≡ false = low in cc

pub returns-clause-lost : goal.returns-clause-lost
returns-clause-lost c = λ h.
    let k = h.kept (voted 1) refl in
    let f : None ≡ Some k.0 = k.1 in cc
