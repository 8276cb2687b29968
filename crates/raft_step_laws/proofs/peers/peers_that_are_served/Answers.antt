use Rattle.std.specs.Prelude.{true, false, None, refl}
use Rattle.std.proofs.Common.{arith, inr}
use Rattle.raft_values.specs.Vote.{vote_of}
use Rattle.raft_group_step.specs.Message.{AppendRequest, Numbered}
use Rattle.raft_step_laws.specs.PeerRows.{last, request, snapshot_request, to}
use Rattle.raft_step_laws.specs.TokenRows.{leader}
use Rattle.raft_step_laws.proofs.peers.peers_that_are_served.Goals as goal

pub returns-clause-asked_now : goal.returns-clause-asked_now
returns-clause-asked_now c =
    record {
      request = record { id = 1; previous = None; last = last; has_snapshot = false };
      outstanding = refl;
      since =
          inr
          (record {
            message =
                to 3
                (AppendRequest
                (record {
                  vote = vote_of 2 2 true;
                  id = Numbered 1;
                  previous = None;
                  committed = None;
                  entries = leader.stored.log;
                }));
            sent = (2, omega arith, refl);
            addressee = refl;
            number = refl;
          });
    }

pub returns-clause-sent : goal.returns-clause-sent
returns-clause-sent c =
    record { message = to 1 (request (Numbered 1)); sent = (0, omega arith, refl); addressee = refl; number = refl }

pub returns-clause-snapshot : goal.returns-clause-snapshot
returns-clause-snapshot c =
    record { message = to 1 (snapshot_request 5); sent = (0, omega arith, refl); addressee = refl; number = refl }
