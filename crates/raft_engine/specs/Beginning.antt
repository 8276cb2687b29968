-- Engines that have done nothing yet.
use Rattle.std.specs.Prelude.{◌≡◌, false, [], None}
use Rattle.raft_known_state.specs.declared.known_state.KnownState.{KnownState}
use Rattle.raft_engine.specs.declared.engine.Engine.{Engine}

module _ {C D R K N : Type 0} where
  -- it knows just this of its group, neither stands nor leads, knows of no greater log, and has nothing to do
  pub record BeginsWith (known : KnownState K N) (e : Engine C D R K N) : Type 0 where
    pub state : e.state ≡ known
    pub leader : e.leader ≡ None
    pub candidate : e.candidate ≡ None
    pub seen : e.seen_greater_log ≡ false
    pub output : e.output ≡ record { queue = []; last_sm_seq = 0 }
