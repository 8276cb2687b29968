-- Where a cleaning is refused as `Marked`.
use Rattle.std.specs.Prelude.{◌≡◌, ◌⊎◌, true}
use Rattle.raft_log_cleaning.specs.declared.cleaning.Extent.{Extent}
use Rattle.raft_log_cleaning.specs.declared.cleaning.Extent.TheVariants.{All, Expired, Rewrites, Stale}
use Rattle.raft_log_engine.specs.Parts.{Parts}

-- an opening found a batch of the append queue that belongs to an atomic group, or records of one in the rewrite queue that stand apart
abbrev pub HasFoundAny : {F : Type 0} → Parts F → Type 0
HasFoundAny e = (e.has_marked ≡ true) ⊎ (e.is_parted ≡ true)

-- so much isn't to be cleaned. Where the rewrite queue isn't written anew, its records may stand apart
abbrev pub IsBarred : {F : Type 0} → Extent → Parts F → Type 0
IsBarred All e = e.has_marked ≡ true
IsBarred (Expired due) e = (e.has_marked ≡ true) ⊎ ((due.rewrites ≡ true) × (e.is_parted ≡ true))
IsBarred Rewrites e = HasFoundAny e
IsBarred Stale e = HasFoundAny e

-- what an opening found of atomic groups is known as before
abbrev pub KeepsFound : {F : Type 0} → Parts F → Parts F → Type 0
KeepsFound old new = (new.has_marked ≡ old.has_marked) × (new.is_parted ≡ old.is_parted)
