-- The law of each machine that runs at a node is the law of its kind of machine.
use Rattle.std.specs.Prelude.{◌≡◌, ℕ, List, Option, Some, None, option_map}
use Rattle.std.specs.Ordering.{nat_cmp}
use Rattle.std.specs.BTreeMap.{get}
use Rattle.std.proofs.Common.{subst}
use Rattle.raft_laws.proofs.BallotAgreement.{same_some}
use Rattle.raft_headline.specs.Machines.{KeepsItsLaw}
use Rattle.raft_machines.specs.Machine.{MachineRules}
use Rattle.raft_machines.specs.declared.machine.StateMachine.{Ghosts}
use Rattle.raft_applier.specs.declared.applier.Applier.{Applier}
use Rattle.raft_node.specs.Running.{Running, running_of}
use Rattle.raft_node.specs.Standing.{running_in}
use Rattle.raft_node.specs.declared.machines.Machines.{Machines}

module _ {M : Type 0} (rules : MachineRules) (state : M → List ℕ) (restores : (m : M) → rules.restored (rules.snapshot (state m)) ≡ state m) where
  of_applier : (o : Option (Applier M)) (r : Running) → option_map (running_of state) o ≡ Some r → KeepsItsLaw rules r.machine
  of_applier None r is = absurd (let no : None ≡ Some r = is in cc)
  of_applier (Some a) r is = subst (λ (x : Running). KeepsItsLaw rules x.machine) (same_some is) (restores a.machine)

  pub runs_keep : {g : Ghosts M} (m : Option (Machines M g)) (h : ℕ) (r : Running) → running_in state m h ≡ Some r → KeepsItsLaw rules r.machine
  runs_keep None h r is = absurd (let no : None ≡ Some r = is in cc)
  runs_keep (Some m) h r is = of_applier (get nat_cmp m.appliers h) r is
