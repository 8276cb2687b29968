-- Leaders of worked rows and the requests that they wait for.
use Rattle.std.specs.Prelude.{ℕ, [], ◌∷◌, Option, option_map}
use Rattle.raft_values.specs.LogId.{log_id_of}
use Rattle.raft_state.specs.declared.entry.EntryPayload.TheVariants.{Membership as Members}
use Rattle.raft_group_step.specs.Values.{entry_of}
use Rattle.raft_group_step.specs.Peer.{Outstanding}
use Rattle.raft_group_step.specs.GroupState.{GroupState}
use Rattle.raft_laws.specs.LawRuns.{after}
use Rattle.raft_laws.specs.Origins.{Events}
use Rattle.raft_step_laws.specs.TokenRows.{sole_leader}
use Rattle.raft_history_laws.specs.ServedPeers.{waited_in}

-- the number of the request that a node waits for from another, after a run of three nodes
abbrev pub waited_after : Events → ℕ → ℕ → Option ℕ
waited_after es n peer = option_map (λ (o : Outstanding). o.id) (waited_in ((after es).nodes n) peer)

-- node 2 is the only voter, and node 1 a learner
abbrev pub leads_a_learner : GroupState
leads_a_learner =
    let s = sole_leader
    in record s {
      stored = record s.stored {
        log =
            entry_of (log_id_of 0 0 0)
            (Members (record { configs = (2 ∷ []) ∷ []; nodes = (1, []) ∷ (2, []) ∷ [] }))
            ∷ [];
      };
    }
