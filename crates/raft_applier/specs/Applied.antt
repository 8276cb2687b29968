-- How far a node has come with a group: its machine, and who waits to be told.
use Rattle.std.specs.Prelude.{◌≡◌, ℕ, if◌then◌else◌, List, Option, Some, None}
use Rattle.raft_values.specs.declared.vote.Vote.{Vote}
use Rattle.raft_values.specs.LogId.{next_place}
use Rattle.raft_group_step.specs.Values.{Entry}
use Rattle.raft_group_step.specs.GroupState.{GroupState, is_leader}
use Rattle.raft_group_step.specs.StepResult.{StepResult}
use Rattle.raft_group_step.specs.SnapshotRequest.{place_above}
use Rattle.raft_laws.specs.OneList.{applied_list}
use Rattle.raft_machines.specs.Machine.{MachineRules}
use Rattle.raft_machines.specs.Fold.{fold_of}
use Rattle.raft_machines.specs.Telling.{AreToldAs, answer_on, untold_of}
use Rattle.raft_applier.specs.declared.applied.Applied.{Applied}
use Rattle.raft_applier.specs.declared.applied.Progress.{Progress}

-- the vote under which the node leads, if it does
abbrev pub lead_of : GroupState → Option (Vote ℕ)
lead_of s = if is_leader s.role then Some s.stored.vote else None

-- a machine in this state has run all that the node has applied in that state of the group, and whoever waits there waits here
pub record IsCaughtUp (rules : MachineRules) (machine : List ℕ) (a : Applied) (s : GroupState) : Type 0 where
  pub folded : machine ≡ fold_of rules (applied_list s)
  pub last : next_place a.last ≡ place_above s.applied
  pub lead : a.lead ≡ lead_of s
  pub waiting : untold_of a.waiting ≡ s.untold

-- the fold's answer at each place of a list
abbrev pub answers_of : MachineRules → List Entry → ℕ → Option (List ℕ)
answers_of rules list = answer_on rules (record { state = rules.first; count = 0 }) list

-- a step's tokens have gone: each that it tells with the fold's answer at its place, each that it leaves unknown by its name
pub record HasGone (rules : MachineRules) (r : StepResult) (p : Progress) : Type 0 where
  pub told : AreToldAs (answers_of rules (applied_list r.state)) p.told.items r.told
  pub unknown : p.unknown.items ≡ r.unknown
