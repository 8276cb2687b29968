-- What commands rest on, as the queue grows.
use Rattle.std.specs.Prelude.{◌≡◌, ℕ, List, [], ◌∷◌, ◌++◌, Option, refl}
use Rattle.std.proofs.Common.{ap, sym, subst, ◌∙◌}
use Rattle.raft_values.specs.declared.log_id.LogId.{LogId}
use Rattle.raft_commands.specs.declared.command.Command.TheVariants.{BecomeLeader, QuitLeader, AppendInputEntries, ReplicateCommitted, Commit}
use Rattle.raft_commands.specs.declared.command.Command.TheVariants.{Replicate, RebuildReplicationStreams, SaveVote, SendVote, PurgeLog}
use Rattle.raft_commands.specs.declared.command.Command.TheVariants.{DeleteConflictLog, StateMachine, Respond}
use Rattle.raft_group_step.specs.StoredGroup.{StoredGroup, StoringCommand, Snapshot, after_storing, after_storing_all}
use Rattle.raft_engine.specs.Commands.{Command, storing_of}
use Rattle.raft_engine.specs.Numbering.{number_in}
use Rattle.raft_engine.specs.Ordering.{AllRest, Basis, RestsOn, basis_behind, committed_by}

module _ {C R : Type 0} where
  -- a command without a number commits nothing
  pub uncommitted : (c : Command C R) (committed : Option (LogId ℕ)) → number_in c ≡ [] → committed_by c committed ≡ committed
  uncommitted BecomeLeader committed h = refl
  uncommitted QuitLeader committed h = refl
  uncommitted (AppendInputEntries vote entries) committed h = refl
  uncommitted (ReplicateCommitted target vote matching told) committed h = refl
  uncommitted (Commit seq behind upto) committed h = cc h
  uncommitted (Replicate target request) committed h = refl
  uncommitted (RebuildReplicationStreams targets) committed h = refl
  uncommitted (SaveVote vote) committed h = refl
  uncommitted (SendVote target request) committed h = refl
  uncommitted (PurgeLog upto) committed h = refl
  uncommitted (DeleteConflictLog since) committed h = refl
  uncommitted (StateMachine command) committed h = cc h
  uncommitted (Respond condition answer) committed h = refl

  -- a command behind those that rest
  rest_more : (own : ℕ) (x : Snapshot) (queue : List (Command C R)) (b b' : Basis) (c : Command C R) → AllRest own x b queue b' → RestsOn own x b' c → AllRest own x b (queue ++ c ∷ []) (basis_behind x c b')
  rest_more own x [] b b' c all on = (subst (λ y. RestsOn own x y c) all on, ap (basis_behind x c) all)
  rest_more own x (d ∷ queue) b b' c all on = (all.0, rest_more own x queue (basis_behind x d b) b' c all.1 on)

  module _ (own : ℕ) (x : Snapshot) (b : Basis) (old new : List (Command C R)) (s : StoredGroup) (committed : Option (LogId ℕ))
      (rests : AllRest own x b old (record { stored = s; committed = committed })) where
    -- the same queue, with as much stored and committed
    pub rests_same : (committed' : Option (LogId ℕ)) → new ≡ old → committed' ≡ committed → AllRest own x b new (record { stored = s; committed = committed' })
    rests_same committed' queue same =
        subst (λ k. AllRest own x b new (record { stored = s; committed = k })) (sym same)
        (subst (λ q. AllRest own x b q (record { stored = s; committed = committed })) (sym queue) rests)

    module _ (c : Command C R) (on : RestsOn own x (record { stored = s; committed = committed }) c) (queue : new ≡ old ++ c ∷ []) where
      -- a command that finds what it rests on is pushed
      pub rests_pushed : (s' : StoredGroup) (committed' : Option (LogId ℕ)) → s' ≡ after_storing_all (storing_of x c) s → committed' ≡ committed_by c committed → AllRest own x b new (record { stored = s'; committed = committed' })
      rests_pushed s' committed' stores commits =
          subst (λ k. AllRest own x b new (record { stored = s'; committed = k })) (sym commits)
          (subst (λ y. AllRest own x b new (record { stored = y; committed = committed_by c committed })) (sym stores)
          (subst (λ q. AllRest own x b q (basis_behind x c (record { stored = s; committed = committed }))) (sym queue)
          (rest_more own x old b (record { stored = s; committed = committed }) c rests on)))

      -- one that stores and commits nothing
      pub rests_kept : (committed' : Option (LogId ℕ)) → storing_of x c ≡ [] → number_in c ≡ [] → committed' ≡ committed → AllRest own x b new (record { stored = s; committed = committed' })
      rests_kept committed' none silent same = rests_pushed s committed' (sym (ap (λ cs. after_storing_all cs s) none)) (same ∙ sym (uncommitted c committed silent))

      -- one that stores this, and commits nothing
      pub rests_stored : (committed' : Option (LogId ℕ)) (storing : StoringCommand) → storing_of x c ≡ storing ∷ [] → number_in c ≡ [] → committed' ≡ committed → AllRest own x b new (record { stored = after_storing storing s; committed = committed' })
      rests_stored committed' storing stores silent same =
          rests_pushed (after_storing storing s) committed' (sym (ap (λ cs. after_storing_all cs s) stores)) (same ∙ sym (uncommitted c committed silent))
