-- Blocks that an engine keeps in memory.
use Rattle.std.specs.Prelude.{◌≡◌, ◌⊎◌, ℕ, Bool, false, List, ◌++◌, Option, Some, None, Contains, Vec}
use Rattle.std.specs.declared.alloc.Global.{Global}
use Rattle.lru.specs.LruCache.{LruCache}
use Rattle.raft_log_records.specs.declared.file_id.FileBlockHandle.{FileBlockHandle}
use Rattle.raft_log_records.specs.declared.item.EntryIndex.{EntryIndex}
use Rattle.raft_log_disk.specs.Disk.{Disk}
use Rattle.raft_log_pipe.specs.Pipe.{Numbered}
use Rattle.raft_log_pipes.specs.declared.pipes.DualPipes.{DualPipes}
use Rattle.raft_log_traced.specs.declared.traced.TracedTables.{TracedTables}
use Rattle.raft_log_engine.specs.declared.block_cache.BlockCache.{BlockCache}
use Rattle.raft_log_engine.specs.declared.block_cache.BlockKey.{BlockKey}
use Rattle.raft_log_blocks.specs.Blocks.{IsReadAs}
use Rattle.raft_log_blocks.specs.Held.{ReadsBlocks, HoldsBatches}
use Rattle.raft_log_engine.specs.Traced.{IsTraced}

abbrev pub KeepsIn : Option (LruCache BlockKey (Vec ℕ Global)) → FileBlockHandle → List ℕ → Type 0
KeepsIn None handle entries = ⊥
KeepsIn (Some cache) handle entries = (pair : BlockKey × Vec ℕ Global) × Contains cache.entries pair × (pair.0.handle ≡ handle) × (pair.1.items ≡ entries)

-- a block with these entries is kept under this handle
abbrev pub Keeps : BlockCache → FileBlockHandle → List ℕ → Type 0
Keeps cache = KeepsIn cache.blocks

-- each block that is kept has what its file has there
abbrev pub AreRead : Disk → DualPipes → BlockCache → Type 0
AreRead d p cache = (handle : FileBlockHandle) (entries : List ℕ) → Keeps cache handle entries → IsReadAs d p handle entries

-- a block that is kept was kept before, or was read for one of these entries
abbrev pub KeepsMore : Disk → DualPipes → (EntryIndex → Type 0) → BlockCache → BlockCache → Type 0
KeepsMore d p IsAsked old new = (handle : FileBlockHandle) (entries : List ℕ) → Keeps new handle entries
    → Keeps old handle entries ⊎ ((e : EntryIndex) × IsAsked e × (e.entries ≡ Some handle) × IsReadAs d p handle entries)

-- ---- what writes leave of kept blocks

-- however such blocks are read, this one is read as these entries
abbrev pub IsSettled : DualPipes → Numbered → Numbered → FileBlockHandle → List ℕ → Type 0
IsSettled p rewrites appends handle entries = (read : FileBlockHandle → List ℕ) → ReadsBlocks p rewrites appends read → read handle ≡ entries

-- the engine holds batches, keeps blocks of them, and traces of the groups in them
pub record HoldsBlocks (d : Disk) (p : DualPipes) (traced : TracedTables) (wrote_unsynced : Bool) (cache : BlockCache) : Type 0 where
  pub batches : HoldsBatches d p traced.tables wrote_unsynced
  pub blocks : (handle : FileBlockHandle) (entries : List ℕ) → Keeps cache handle entries → IsSettled p batches.rewrites (batches.synced ++ batches.unsynced) handle entries
  pub traces : IsTraced p traced batches.rewrites (batches.synced ++ batches.unsynced)

abbrev pub IsEngine : Disk → DualPipes → TracedTables → Bool → Bool → BlockCache → Type 0
IsEngine d p traced is_stopped wrote_unsynced cache = is_stopped ≡ false → HoldsBlocks d p traced wrote_unsynced cache
