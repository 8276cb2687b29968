use Rattle.std.specs.Prelude.{true, [], ◌∷◌, Some, refl}
use Rattle.raft_values.specs.LogId.{log_id_of}
use Rattle.raft_values.specs.Vote.{vote_of}
use Rattle.raft_group_step.specs.Message.{AppendRequest, Message, Numbered}
use Rattle.raft_group_step.specs.declared.group_call.GroupCall.TheVariants.{Propose}
use Rattle.raft_laws.specs.GroupWorld.{new_world}
use Rattle.raft_laws.specs.GroupRun.{history_of}
use Rattle.raft_laws.specs.Example.{add, run_of, three, to_their_end}
use Rattle.raft_laws.specs.ConflictRun.{until_overwritten}
use Rattle.raft_laws.specs.OriginRun.{command_at}
use Rattle.raft_laws.specs.ThreeNodes.{until_committed}
use Rattle.raft_laws.proofs.Counts.{at_contains}
use Rattle.raft_laws.proofs.Runs.{run-replays}
use Rattle.raft_history_laws.specs.NotedIds.{IsHeld, IsSent}
use Rattle.raft_history_laws.specs.WholeSnapshotsRun.{first_entries}
use Rattle.raft_history_laws.proofs.NotedIds.{noted_new}
use Rattle.raft_history_laws.proofs.SmallIds.{three_are_small}
use Rattle.raft_history_laws.proofs.origins.entries_of_worlds.Goals as goal

-- the leader's first request for the command
abbrev request : Message
request =
    record {
      sender = 1;
      addressee = 2;
      body =
          AppendRequest
          (record {
            vote = vote_of 1 1 true;
            id = Numbered 2;
            previous = Some (log_id_of 1 1 1);
            committed = Some (log_id_of 1 1 1);
            entries = command_at 2 (add 5) ∷ [];
          });
    }

pub returns-clause-before : goal.returns-clause-before
returns-clause-before c = λ h.
    noted_new three (history_of (to_their_end until_committed) (new_world three)) [] (run_of three until_committed) (run_of three until_committed)
    (record { node_ids = three_are_small; replays = run-replays (to_their_end until_committed) (new_world three) })
    refl 1 _ (Propose (add 5) 1) 0 refl refl refl (command_at 2 (add 5)) h refl

pub returns-clause-held : goal.returns-clause-held
returns-clause-held c = IsHeld 1 _ refl (at_contains first_entries (command_at 2 (add 5)) 2 refl)

pub returns-clause-overwritten : goal.returns-clause-overwritten
returns-clause-overwritten c =
    IsSent request (at_contains (run_of three until_overwritten).messages request 8 refl)
    (at_contains (command_at 2 (add 5) ∷ []) (command_at 2 (add 5)) 0 refl)
