-- The bytes of a snapshot that may be stored are within the limits, whichever stand for it.
use Rattle.std.specs.Prelude.{◌≡◌, ◌≤◌, ◌⊎◌, ℕ, List, length, nat_le, true, Option, Some, None, IfSome, IsTrue, refl}
use Rattle.std.proofs.Common.{inl, inr, ap, sym, subst, ◌∙◌, le-leb}
use Rattle.std.proofs.lemmas.Bool.{and_from}
use Rattle.raft_group_step.specs.Limits.{snapshot_limit}
use Rattle.raft_group_step.specs.Values.{LoggedMembership, is_within_limits}
use Rattle.raft_group_step.specs.StoredGroup.{Snapshot}
use Rattle.raft_messages.specs.declared.memberships.SnapshotBytes.{SnapshotBytes}
use Rattle.raft_wire.specs.Frames.{fault_of_snapshot, is_logged_short, is_snapshot_short}
use Rattle.raft_machines.specs.Machine.{MachineRules}
use Rattle.raft_store.specs.Reading.{StandsFor}
use Rattle.raft_store.specs.Storable.{IsStorableSnapshot}

logged_short : (m : Option LoggedMembership) → IfSome m (λ (x : LoggedMembership). IsTrue (is_within_limits x.membership)) → is_logged_short m ≡ true
logged_short None short = refl
logged_short (Some m) short = short

nothing_wrong : (m : Option LoggedMembership) (bytes : List ℕ) → is_snapshot_short m bytes ≡ true → fault_of_snapshot m bytes ≡ None
nothing_wrong m bytes short = rw short refl

-- few bytes, those of the machine or of a frame
pub few_bytes : (bytes of_machine : List ℕ) → (bytes ≡ of_machine) ⊎ (length bytes ≤ snapshot_limit) → length of_machine ≤ snapshot_limit → length bytes ≤ snapshot_limit
few_bytes bytes of_machine (inl same) short = subst (λ (b : List ℕ). length b ≤ snapshot_limit) (sym same) short
few_bytes bytes of_machine (inr few) short = few

pub storable_fits : (rules : MachineRules) (x : SnapshotBytes) (y : Snapshot) → StandsFor rules x y → IsStorableSnapshot rules y → fault_of_snapshot x.meta.last_membership x.bytes ≡ None
storable_fits rules x y stands is =
    nothing_wrong x.meta.last_membership x.bytes
    (and_from (is_logged_short x.meta.last_membership) (nat_le (length x.bytes) snapshot_limit) (ap is_logged_short stands.membership ∙ logged_short y.membership is.membership)
    (le-leb (length x.bytes) snapshot_limit (few_bytes x.bytes _ stands.made is.bytes)))
