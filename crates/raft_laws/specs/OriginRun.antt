-- The run of one voter whose proposal stops: where the entries of its list come from.
use Rattle.std.specs.Prelude.{ℕ, List, slice_get, Option}
use Rattle.raft_values.specs.LogId.{log_id_of}
use Rattle.raft_state.specs.declared.entry.EntryPayload.TheVariants.{Normal}
use Rattle.raft_group_step.specs.Values.{Entry, entry_of}
use Rattle.raft_group_step.specs.declared.group_call.GroupCall.TheVariants.{Propose}
use Rattle.raft_laws.specs.GroupWorld.{new_world}
use Rattle.raft_laws.specs.GroupRun.{group_run}
use Rattle.raft_laws.specs.Settled.{group_list}
use Rattle.raft_laws.specs.Origins.{IsAskedAt}
use Rattle.raft_laws.specs.OneVoter.{one, stopped_proposal}

-- a command of the first leader, at a place
abbrev pub command_at : ℕ → List ℕ → Entry
command_at place command = entry_of (log_id_of 1 1 place) (Normal command)

-- the event with this number asked for a command of the run whose proposal stops after k storing commands
abbrev pub AskedInRun : (k number : ℕ) (command : List ℕ) (token : ℕ) → Entry → Type 0
AskedInRun k number command token e =
    IsAskedAt (stopped_proposal k) (new_world one) number (Propose command token) e

-- the list's entry at a place, at the end of that run
abbrev pub listed_at : (k place : ℕ) → Option Entry
listed_at k place = slice_get (group_list (group_run (stopped_proposal k) (new_world one))) place
