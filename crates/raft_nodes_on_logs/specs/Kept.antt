-- Where a node keeps its groups: a store in its log.
use Rattle.std.specs.Prelude.{◌≡◌, ℕ, List, None, false}
use Rattle.raft_group_step.specs.StoredGroup.{StoredGroup}
use Rattle.raft_group_storage.specs.Keeping.{Fails}
use Rattle.raft_log_memtables.specs.Content.{Content}
use Rattle.raft_machines.specs.Machine.{MachineRules}
use Rattle.raft_store.specs.Batches.{ShowsBy}
use Rattle.raft_store.specs.Faults.{IsUsedWell}
use Rattle.raft_store.specs.Reading.{HoldsOne}
use Rattle.raft_store.specs.Storable.{FailsBy}
use Rattle.raft_store.specs.declared.store.Store.{Store}
use Rattle.raft_store.specs.declared.fault.StoreFault.{StoreFault}
use Rattle.raft_nodes_on_logs.specs.Kinds.{NodeKind}

-- whatever an opening finds of the files as they are holds one of these parts
abbrev pub AreShownBy : {Files : Type 0} → MachineRules → (Files → Content (List ℕ) → Type 0) → Files → ℕ → List StoredGroup → Type 0
AreShownBy rules found files group parts = (content : Content (List ℕ)) → found files content → HoldsOne rules (content group) parts

module _ (k : NodeKind) where
  -- the store of a node, and why it fails
  abbrev pub Keeping : Type 0
  Keeping = Store k.Machine k.Log k.Fault

  abbrev pub KeepingFault : Type 0
  KeepingFault = StoreFault k.Fault

  -- whether none of its calls has failed, what it shows of a group, and at which commands it may have failed
  abbrev pub is_well : Keeping → Type 0
  is_well x = k.is_sound x.log × (x.refused ≡ None) × (x.failed_cleaning ≡ false)

  -- whether it has been used well
  abbrev pub is_used_well : Keeping → Type 0
  is_used_well x = IsUsedWell k.is_sound k.answers k.leaves x.log x.recent

  abbrev pub shows : Keeping → ℕ → List StoredGroup → Type 0
  shows x group parts = ShowsBy k.rules k.is_sound k.answers k.leaves x.log x.recent group parts

  abbrev pub fails : Keeping → Fails
  fails x = FailsBy k.rules x.refused x.failed_cleaning

  abbrev pub AreShownDown : k.Files → ℕ → List StoredGroup → Type 0
  AreShownDown files group parts = AreShownBy k.rules k.found files group parts
