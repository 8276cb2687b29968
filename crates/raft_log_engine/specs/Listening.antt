-- What a cleaning lets go that asks listeners.
use Rattle.std.specs.Prelude.{ℕ, List, Option}
use Rattle.raft_log_records.specs.declared.file_id.LogQueue.{LogQueue}
use Rattle.raft_log_records.specs.declared.file_id.LogQueue.TheVariants.{Append}
use Rattle.raft_log_purge.specs.Going.{GoesToNeeded}
use Rattle.raft_log_purge.specs.Listeners.{IsLeastKept}
use Rattle.raft_log_traces.specs.GroupTraces.{traces_in}
use Rattle.raft_log_engine.specs.Parts.{Parts}

-- the append files up to before the first one that is needed, where the least one that listeners keep is
abbrev pub GoesToKept : {L F : Type 0} → (L → LogQueue → Option ℕ) → List L → Parts F → Parts F → Type 0
GoesToKept kept listeners old new =
    (least : Option ℕ) × IsLeastKept kept Append listeners least × GoesToNeeded (traces_in new.traces) least old.pipes.append new.pipes.append
