-- What a cache keeps once a block is put into it or was used, and once entries were read.
use Rattle.std.proofs.Common.{◌≡◌, ◌⊎◌, inl, inr, ℕ, Bool, true, List, Option, Some, Result, Ok, Err, Vec, Global, refl, sym, ap, subst, ◌∙◌}
use Rattle.std.specs.Prelude.{Contains, OnOk, OnErr}
use Rattle.std.specs.Map.{lookup}
use Rattle.lru.specs.LruCache.{LruCache, lru_cache, promoted, put_entries}
use Rattle.lru.proofs.CallerLemmas.{Contains-lookup, Contains-promoted, Contains-put_entries, IsPut}
use Rattle.raft_log_records.specs.declared.file_id.FileBlockHandle.{FileBlockHandle}
use Rattle.raft_log_engine.specs.declared.block_cache.BlockCache.{BlockCache}
use Rattle.raft_log_engine.specs.declared.block_cache.BlockKey.{BlockKey}
use Rattle.raft_log_records.specs.declared.item.EntryIndex.{EntryIndex}
use Rattle.raft_log_disk.specs.Disk.{Disk}
use Rattle.raft_log_pipes.specs.declared.pipes.DualPipes.{DualPipes}
use Rattle.raft_log_blocks.specs.Blocks.{IsReadAs}
use Rattle.raft_log_engine.specs.Cached.{Keeps, KeepsIn, KeepsMore}

abbrev Cache : Type 0
Cache = LruCache BlockKey (Vec ℕ Global)

-- a block that is used comes first
pub still_kept : (test : BlockKey → Bool) (old new : Cache) → new ≡ lru_cache (promoted test old.entries) old.cap → (h : FileBlockHandle) (b : List ℕ) → KeepsIn (Some new) h b → KeepsIn (Some old) h b
still_kept test old new is h b kept =
    (kept.0, Contains-promoted test old.entries kept.0 (subst (λ (c : Cache). Contains c.entries kept.0) is kept.1), kept.2, kept.3)

-- one that is found is kept under the key that was looked for
pub found_kept : (test : BlockKey → Bool) (cache : Cache) (key : BlockKey) (v : Vec ℕ Global) → ((k : BlockKey) → test k ≡ true → key ≡ k) → lookup test cache.entries ≡ Some v → KeepsIn (Some cache) key.handle v.items
found_kept test cache key v exact is = of (Contains-lookup test cache.entries v is)
  where
    of : (k : BlockKey) × Contains cache.entries (k, v) × (test k ≡ true) → KeepsIn (Some cache) key.handle v.items
    of found = ((found.0, v), found.1, ap (λ (k : BlockKey). k.handle) (sym (exact found.0 found.2)), refl)

-- one that is put in is kept, and others that were
pub more_kept : {A B : Type 0} (test : BlockKey → Bool) (old new : Cache) (key : BlockKey) (v : Vec ℕ Global) (r : Result A B)
    → OnOk r (new ≡ lru_cache (put_entries (λ _. test) old key v) old.cap) → OnErr r (new ≡ old) → ((k : BlockKey) → test k ≡ true → key ≡ k)
    → (h : FileBlockHandle) (b : List ℕ) → KeepsIn (Some new) h b → KeepsIn (Some old) h b ⊎ (h ≡ key.handle) × (b ≡ v.items)
more_kept test old new key v (Ok x) is same exact h b kept =
    of (Contains-put_entries (λ _. test) old key v kept.0 (subst (λ (c : Cache). Contains c.entries kept.0) is kept.1))
  where
    under : (kept.0.0 ≡ key) ⊎ ((w : Vec ℕ Global) × Contains old.entries (kept.0.0, w) × (test kept.0.0 ≡ true)) → kept.0.0 ≡ key
    under (inl is_key) = is_key
    under (inr equal) = sym (exact kept.0.0 equal.2)

    of : Contains old.entries kept.0 ⊎ IsPut (λ _. test) old key v kept.0 → KeepsIn (Some old) h b ⊎ (h ≡ key.handle) × (b ≡ v.items)
    of (inl was) = inl (kept.0, was, kept.2, kept.3)
    of (inr put) = inr (sym kept.2 ∙ ap (λ (k : BlockKey). k.handle) (under put.1), sym kept.3 ∙ ap (λ (x : Vec ℕ Global). x.items) put.0)
more_kept test old new key v (Err e) is same exact h b kept = inl (subst (λ (c : Cache). KeepsIn (Some c) h b) same kept)

-- what was kept once the cache was made was kept before
pub made_before : (old made : BlockCache) (cache : Cache) (key : BlockKey) (v : Vec ℕ Global) → made.blocks ≡ Some cache → ((h : FileBlockHandle) (b : List ℕ) → Keeps made h b → Keeps old h b)
    → (h : FileBlockHandle) (b : List ℕ) → KeepsIn (Some cache) h b ⊎ (h ≡ key.handle) × (b ≡ v.items) → Keeps old h b ⊎ (h ≡ key.handle) × (b ≡ v.items)
made_before old made cache key v is kept h b (inl was) = inl (kept h b (subst (λ (o : Option Cache). KeepsIn o h b) (sym is) was))
made_before old made cache key v is kept h b (inr put) = inr put

-- ---- what reads leave

-- one entry is read after others
pub more_read : (d : Disk) (p : DualPipes) (IsAsked : EntryIndex → Type 0) (e : EntryIndex) (old mid new : BlockCache) → IsAsked e → KeepsMore d p IsAsked old mid → KeepsMore d p (λ f. f ≡ e) mid new → KeepsMore d p IsAsked old new
more_read d p IsAsked e old mid new asked first second x y kept = of (second x y kept)
  where
    of : Keeps mid x y ⊎ ((f : EntryIndex) × (f ≡ e) × (f.entries ≡ Some x) × IsReadAs d p x y) → Keeps old x y ⊎ ((f : EntryIndex) × IsAsked f × (f.entries ≡ Some x) × IsReadAs d p x y)
    of (inl was) = first x y was
    of (inr read) = inr (read.0, subst IsAsked (sym read.1) asked, read.2, read.3)

-- a block was read for an entry, and is kept
pub then_kept : (d : Disk) (p : DualPipes) (e : EntryIndex) (old mid new : BlockCache) (h : FileBlockHandle) (b : List ℕ) → e.entries ≡ Some h → IsReadAs d p h b → ((x : FileBlockHandle) (y : List ℕ) → Keeps mid x y → Keeps old x y)
    → ((x : FileBlockHandle) (y : List ℕ) → Keeps new x y → Keeps mid x y ⊎ (x ≡ h) × (y ≡ b)) → KeepsMore d p (λ f. f ≡ e) old new
then_kept d p e old mid new h b place read before after x y kept = of (after x y kept)
  where
    of : Keeps mid x y ⊎ (x ≡ h) × (y ≡ b) → Keeps old x y ⊎ ((f : EntryIndex) × (f ≡ e) × (f.entries ≡ Some x) × IsReadAs d p x y)
    of (inl was) = inl (before x y was)
    of (inr put) = inr (e, refl, place ∙ ap (λ (z : FileBlockHandle). Some z) (sym put.0), subst (λ (z : FileBlockHandle). IsReadAs d p z y) (sym put.0) (subst (IsReadAs d p h) (sym put.1) read))
