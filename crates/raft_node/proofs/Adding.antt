-- A new group: what a stop in its making leaves.
use Rattle.std.proofs.Common.{◌≡◌, ℕ, true, List, [], ◌∷◌, Option, Result, Ok, Err, OnOk, refl, subst, sym}
use Rattle.raft_group_step.specs.GroupEvent.{AddGroup}
use Rattle.raft_group_step.specs.GroupState.{Untold, no_group, state_of}
use Rattle.raft_group_step.specs.StoredGroup.{MakeGroup, Snapshot, StoredGroup, after_storing}
use Rattle.raft_group_storage.specs.Keeping.{FailsAnyhow, ShowsMore}
use Rattle.raft_messages.specs.declared.memberships.SnapshotBytes.{SnapshotBytes}
use Rattle.raft_framed_groups.specs.Answers.{Node}
use Rattle.raft_groups.specs.Faults.{HasMet}
use Rattle.raft_groups.specs.declared.fault.GroupsFault.{GroupsFault}
use Rattle.raft_groups.specs.declared.fault.GroupsFault.TheVariants as groups_fault
use Rattle.raft_machines.specs.Machine.{MachineRules}
use Rattle.raft_member.specs.declared.member.Broken.{Broken}
use Rattle.raft_member.specs.declared.member.Broken.TheVariants as broken
use Rattle.raft_node_faults.specs.Fault.{cause_of}
use Rattle.raft_node_faults.specs.declared.fault.Cause.{Cause}
use Rattle.raft_node_faults.specs.declared.fault.Fault.{Fault}
use Rattle.raft_node_faults.specs.declared.fault.Fault.TheVariants as fault
use Rattle.raft_node.specs.Adding.{IsAdded, IsUnframed}
use Rattle.raft_node.specs.Running.{Running}
use Rattle.raft_node.specs.Settling.{IsGroupsFault, IsStopFor, IsTold}
use Rattle.raft_node.specs.Standing.{NodeValue}
use Rattle.raft_wire.specs.Stream.{Feeding}
use Rattle.raft_node.proofs.Faults.{left_behind}

-- what follows of a call that met no fault
pub unless_err : {T F : Type 0} (r : Result T F) (P : Type 0) → ((why : F) → r ≡ Err why → ⊥) → OnOk r P → P
unless_err (Ok done) P none h = h
unless_err (Err why) P none h = absurd (none why refl)

-- what the groups met is no frame
unframed : {F : Type 0} (met : Broken F) → IsUnframed (cause_of met)
unframed (broken.Unjudged met) = tt
unframed (broken.Begun met) = tt

module _ {F : Type 0} (rules : MachineRules) (stands : SnapshotBytes → Snapshot → Type 0) (new : NodeValue) (group : ℕ) where
  -- the groups met a fault: the group is stored or not
  pub fault_adds : (mid : Node) (running : ℕ → Option Running) (streams : ℕ → Feeding) (same : Type 0) (met : GroupsFault F) (why : Fault F)
      → HasMet (λ broken. mid.shows group (no_group ∷ after_storing MakeGroup no_group ∷ []) × mid.fails MakeGroup no_group) met → IsGroupsFault met why
      → IsTold same (record { groups = mid; running = running; streams = streams }) new why → IsAdded rules stands new group (Err why)
  fault_adds mid running streams same groups_fault.Failed why h is told = absurd h
  fault_adds mid running streams same groups_fault.UnknownGroup why h is told = absurd h
  fault_adds mid running streams same groups_fault.GroupExists why h is told = absurd h
  fault_adds mid running streams same (groups_fault.Stopped met) (fault.Stopped cause unknown) h is told =
      (told.fails, record { shown = (0, told.kept group _ h.0); failed = told.failed MakeGroup no_group h.1 }, subst IsUnframed (sym is) (unframed met))
  fault_adds mid running streams same (groups_fault.Stopped met) other h is told = absurd is

  -- the group is stored, and memory was refused behind that
  pub behind_adds : (cause : Cause F) (waiting : ℕ → List Untold) (why : Fault F) → IsUnframed cause → IsStopFor cause waiting why → new.groups.has_failed ≡ true → ShowsMore new.groups.shows
      → FailsAnyhow new.groups.fails → new.groups.shows group (record no_group { present = true } ∷ []) → IsAdded rules stands new group (Err why)
  behind_adds cause waiting (fault.Stopped met unknown) bare is failed more anyhow shown =
      (failed, left_behind new group (state_of no_group) AddGroup more anyhow shown, subst IsUnframed (sym is.0) bare)
  behind_adds cause waiting other bare is failed more anyhow shown = absurd is
