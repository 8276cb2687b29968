-- When requests left for peers.
use Rattle.std.specs.Prelude.{ℕ, cond, List, [], ◌∷◌, Option, Some, None}
use Rattle.std.specs.BTreeMap.{BTreeMap, get}
use Rattle.std.specs.Ordering.{is_eq, nat_cmp}
use Rattle.raft_engine.specs.Commands.{Command}
use Rattle.raft_commands.specs.declared.command.Command.TheVariants.{BecomeLeader, QuitLeader, AppendInputEntries, ReplicateCommitted, Commit}
use Rattle.raft_commands.specs.declared.command.Command.TheVariants.{Replicate, RebuildReplicationStreams, SaveVote, SendVote, PurgeLog}
use Rattle.raft_commands.specs.declared.command.Command.TheVariants.{DeleteConflictLog, StateMachine, Respond}
use Rattle.raft_executor.specs.declared.sending_times.SendingTimes.{SendingTimes}

-- the moment that is noted beside the peer
abbrev pub among : Option (BTreeMap ℕ ℕ) → ℕ → Option ℕ
among None n = None
among (Some times) n = get nat_cmp times n

-- when the last request to the peer left
abbrev pub sent_at : SendingTimes → ℕ → Option ℕ
sent_at t n = among t.times n

module _ {C R : Type 0} where
  -- when the last request to the peer left, once the command has sent what it sends at this moment
  abbrev pub noted_time : ℕ → ℕ → Command C R → Option ℕ → Option ℕ
  noted_time n moment BecomeLeader before = before
  noted_time n moment QuitLeader before = before
  noted_time n moment (AppendInputEntries vote entries) before = before
  noted_time n moment (ReplicateCommitted target vote matching committed) before = before
  noted_time n moment (Commit seq committed place) before = before
  noted_time n moment (Replicate target request) before = cond (is_eq (nat_cmp target n)) (Some moment) before
  noted_time n moment (RebuildReplicationStreams targets) before = before
  noted_time n moment (SaveVote vote) before = before
  noted_time n moment (SendVote target request) before = before
  noted_time n moment (PurgeLog place) before = before
  noted_time n moment (DeleteConflictLog since) before = before
  noted_time n moment (StateMachine command) before = before
  noted_time n moment (Respond condition answer) before = before

  -- and once all of the queue has
  abbrev pub time_after : ℕ → ℕ → List (Command C R) → Option ℕ → Option ℕ
  time_after n moment [] before = before
  time_after n moment (c ∷ cs) before = time_after n moment cs (noted_time n moment c before)
