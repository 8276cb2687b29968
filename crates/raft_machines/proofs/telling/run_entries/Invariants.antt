-- The machine has run the entries so far, and told whom waited for these.
use Rattle.std.proofs.Common.{◌≡◌, ◌+◌, List, take, drop, length}
use Rattle.raft_group_step.specs.Values.{Entry}
use Rattle.raft_machines.specs.Fold.{state_from}
use Rattle.raft_machines.specs.Telling.{WaitFrom, answer_on, untold_of}
use Rattle.raft_machines.proofs.TellingLemmas.{AreToldUpTo}
use Rattle.raft_machines.proofs.telling.run_entries.Given as goal

abbrev pub invariant-loop-index : goal.invariant-loop-index
invariant-loop-index g l =
    record {
      state : g.M.StateMachine.state l.machine ≡ state_from g.M.StateMachine.rules (g.M.StateMachine.state l.initial.machine) l.place (take l.index l.entries);
      told : (list : List Entry) → l.entries ≡ drop l.place list → WaitFrom l.place (length list) (untold_of l.waiting)
          → AreToldUpTo (answer_on g.M.StateMachine.rules (record { state = g.M.StateMachine.state l.initial.machine; count = l.place }) list) (untold_of l.waiting) (l.place + l.index) (length list) l.told.items;
    }
