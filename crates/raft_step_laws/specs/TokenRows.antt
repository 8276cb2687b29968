-- A leader with tokens, of worked rows.
use Rattle.std.specs.Prelude.{ℕ, true, false, List, [], ◌∷◌, Option, Some, None}
use Rattle.raft_values.specs.declared.vote.Vote.{Vote}
use Rattle.raft_values.specs.Vote.{vote_of}
use Rattle.raft_values.specs.declared.log_id.LogId.{LogId}
use Rattle.raft_values.specs.LogId.{log_id_of}
use Rattle.raft_state.specs.declared.entry.EntryPayload.TheVariants.{Membership as Members}
use Rattle.raft_group_step.specs.Values.{entry_of}
use Rattle.raft_group_step.specs.Message.{AppendReply, AppendRequest, HeartBeat, Numbered, Success}
use Rattle.raft_group_step.specs.Peer.{new_peer}
use Rattle.raft_group_step.specs.GroupState.{Follower, GroupState, Leader, Untold}
use Rattle.raft_group_step.specs.declared.group_call.GroupCall.TheVariants.{Propose}
use Rattle.raft_group_step.specs.GroupEvent.{Call, GroupEvent, Receive}
use Rattle.raft_group_step.specs.StepResult.{StepResult, unchanged}
use Rattle.raft_group_step.specs.GroupStep.{group_step}
use Rattle.raft_group_step.specs.StepExample.{leads_three}

abbrev pub waits : ℕ → ℕ → Untold
waits token place = record { token = token; place = place }

-- node 2 leads three nodes under the vote (2, 2, true), and has asked node 1 to accept its entries up to this log id. Its own
-- entries stand at the places 2 and 3, and a token waits for each
abbrev pub leader_asking : Option (LogId ℕ) → GroupState
leader_asking last =
    let s = leads_three None
    in record s {
      role =
          Leader
          (record {
            began = 2;
            peers =
                record (new_peer 2 1) {
                  next_id = 2;
                  outstanding =
                      Some
                      (record {
                        id = 1;
                        previous = Some (log_id_of 1 1 1);
                        last = last;
                        has_snapshot = false;
                      });
                } ∷ [];
          });
      untold = waits 7 2 ∷ waits 8 3 ∷ [];
    }

abbrev pub leader : GroupState
leader = leader_asking (Some (log_id_of 2 2 3))

-- node 1 has accepted all up to this log id
abbrev pub accepts : Option (LogId ℕ) → GroupEvent
accepts last =
    Receive 1
    (record {
      sender = 1;
      addressee = 2;
      body =
          AppendReply
          (record {
            vote = vote_of 2 2 true;
            id = Numbered 1;
            previous = Some (log_id_of 1 1 1);
            last = last;
            outcome = Success;
          });
    })
    0

-- node 3 says that it leads under this vote
abbrev pub hears_of : Vote ℕ → GroupEvent
hears_of vote =
    Receive 3
    (record {
      sender = 3;
      addressee = 2;
      body =
          AppendRequest
          (record { vote = vote; id = HeartBeat; previous = None; committed = None; entries = [] });
    })
    0

abbrev pub proposes : GroupEvent
proposes = Call (Propose (5 ∷ []) 9) 0

-- the tokens that are told, that stay unknown, and that wait
abbrev pub answers : StepResult → List Untold × List ℕ × List Untold
answers r = (r.told, r.unknown, r.state.untold)

abbrev pub answers_at : GroupState → GroupEvent → List Untold × List ℕ × List Untold
answers_at s e = answers (group_step 2 s e)

-- a leader of itself alone
abbrev pub sole_leader : GroupState
sole_leader =
    let s = leads_three None
    in record s {
      stored = record s.stored {
        log =
            entry_of (log_id_of 0 0 0)
            (Members (record { configs = (2 ∷ []) ∷ []; nodes = (2, []) ∷ [] }))
            ∷ [];
      };
      role = Leader (record { began = 1; peers = [] });
    }

-- a step of the leader with these answers, after which this is committed
abbrev pub answering : Option ℕ → List Untold → List ℕ → List Untold → StepResult
answering committed told unknown untold =
    record (unchanged (record leader { committed = committed; untold = untold })) {
      told = told;
      unknown = unknown;
    }

-- a step in which the leader gave up its lead, with these answers
abbrev pub giving_up : List Untold → List ℕ → List Untold → StepResult
giving_up told unknown untold =
    record (unchanged (record leader { role = Follower; untold = untold })) {
      told = told;
      unknown = unknown;
    }
