use Rattle.std.specs.Prelude.{◌≡◌, true, false, refl}
use Rattle.std.proofs.Common.{ap, ◌∙◌, ⊎_elim}
use Rattle.raft_values.specs.Vote.{vote_of}
use Rattle.raft_group_step.specs.Message.{Message}
use Rattle.raft_group_step.specs.StoredGroup.{StoredGroup}
use Rattle.raft_group_step.specs.Values.{vote_lt}
use Rattle.raft_laws.specs.LawRuns.{told_once, voted}
use Rattle.raft_laws.specs.VotesRise.{own_vote}
use Rattle.raft_laws.proofs.BallotAgreement.{same_some}
use Rattle.raft_laws.proofs.BallotSafe.{among_at}
use Rattle.raft_laws.proofs.Counts.{at_contains, contains_at}
use Rattle.raft_laws.proofs.law_runs.votes_that_are_told.Goals as goal

pub returns-clause-kept : goal.returns-clause-kept
returns-clause-kept c = λ m there.
    let at = contains_at (told_once 2 1).messages m there in
    let among = among_at (told_once 2 1).messages at.0 m at.1 in
    record {
      stored = voted 2;
      is_stored = refl;
      kept = ⊎_elim (λ e. ap (λ (x : Message). vote_lt (voted 2).vote (own_vote x.body)) e) (λ none. absurd none) among;
    }

pub returns-clause-lost : goal.returns-clause-lost
returns-clause-lost c = λ h.
    let m : Message = record { sender = 1; addressee = 2; body = _ } in
    let k = h m (at_contains (told_once 1 2).messages m 0 refl) in
    let low : vote_lt (voted 1).vote (vote_of 2 1 false) ≡ false = ap (λ (x : StoredGroup). vote_lt x.vote (vote_of 2 1 false)) (same_some k.is_stored) ∙ k.kept in
    let f : true ≡ false = low in cc
