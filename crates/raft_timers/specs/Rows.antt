-- Words, requests and views of the rows.
use Rattle.std.specs.Prelude.{ℕ, zero, suc, ◌+◌, true, List, [], ◌∷◌, Option, None}
use Rattle.rand_xoshiro.specs.SplitMix64.{mix_u64, next_state}
use Rattle.raft_values.specs.declared.server_state.ServerState.TheVariants.{Follower}
use Rattle.raft_timers.specs.declared.request.RequestTimer.{RequestTimer}
use Rattle.raft_timers.specs.declared.view.GroupView.{GroupView}
use Rattle.raft_timers.specs.Config.{usual}
use Rattle.raft_timers.specs.Request.{new_request, request_after}

abbrev pub state_at : ℕ → ℕ
state_at zero = 1234567
state_at (suc n) = next_state (state_at n)

-- the n-th word, from 0 on
abbrev pub word_at : ℕ → ℕ
word_at n = (mix_u64 (state_at n)).0

-- the timeouts of a request that goes on waiting: its next tick is the one at which it is given up
abbrev pub losses_of : ℕ → RequestTimer → ℕ → List ℕ
losses_of now r zero = []
losses_of now r (suc n) =
    r.timeout ∷ losses_of (now + r.timeout) (request_after usual true (now + r.timeout) r) n

abbrev pub losses : ℕ → ℕ → List ℕ
losses now count = losses_of now (request_after usual true now (new_request usual 2)) count

-- a follower with so many places applied, in its snapshot, and purged
abbrev pub log_at : Option ℕ → Option ℕ → Option ℕ → GroupView
log_at applied snapshot purged =
    record {
      role = Follower;
      renewed = None;
      quorum_heard = None;
      applied = applied;
      snapshot = snapshot;
      purged = purged;
    }
