-- A machine that was restored from the stored snapshot has run what that covers.
use Rattle.std.specs.Prelude.{◌≡◌, ℕ, List, take, Option, Some, None, refl}
use Rattle.std.proofs.Common.{sym, ap, ◌∙◌, subst, arith}
use Rattle.raft_values.specs.declared.log_id.LogId.{LogId}
use Rattle.raft_values.specs.LogId.{next_place}
use Rattle.raft_group_step.specs.StoredGroup.{Snapshot, prefix_of, snapshot_last}
use Rattle.raft_group_step.specs.GroupState.{GroupState}
use Rattle.raft_laws.specs.OneList.{applied_list}
use Rattle.raft_group_storage.specs.Keeping.{StandsOrNone}
use Rattle.raft_messages.specs.declared.memberships.SnapshotBytes.{SnapshotBytes}
use Rattle.raft_machines.specs.Machine.{MachineRules}
use Rattle.raft_machines.specs.Fold.{fold_of}
use Rattle.raft_applier.specs.Following.{AreOfMachine}
use Rattle.raft_applier.specs.Running.{HasItsList, HasRun}
use Rattle.raft_applier.proofs.AppliedLists.{applied_size, snapshot_front}

module _ (rules : MachineRules) (stands : SnapshotBytes → Snapshot → Type 0) (of : AreOfMachine rules stands) (s : GroupState) (h : HasItsList s)
    (copy : Option SnapshotBytes) (x : SnapshotBytes) (snapshot : Option (LogId ℕ)) (machine : List ℕ) (same : snapshot ≡ snapshot_last s.stored) (some : copy ≡ Some x) (state : machine ≡ rules.restored x.bytes) where
  by_stored : (o : Option Snapshot) → s.stored.snapshot ≡ o → StandsOrNone stands (Some x) o → HasRun rules machine snapshot (applied_list s)
  by_stored None e none = absurd none
  by_stored (Some y) e is =
      let front : take (next_place snapshot) (applied_list s) ≡ y.«prefix» =
      ap (λ o. take (next_place o) (applied_list s)) same ∙ snapshot_front s h ∙ ap prefix_of e
      in
      let last : next_place snapshot ≡ next_place (snapshot_last s.stored) = ap next_place same in
      let size = applied_size s h in
      let covered = h.covered in
      record {
        folded = state ∙ of.restores x y is ∙ ap (fold_of rules) (sym front);
        within = omega (arith, last, size, covered);
      }

  pub restored : StandsOrNone stands copy s.stored.snapshot → HasRun rules machine snapshot (applied_list s)
  restored is = by_stored s.stored.snapshot refl (subst (λ o. StandsOrNone stands o s.stored.snapshot) some is)
