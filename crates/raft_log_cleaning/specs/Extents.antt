-- What may be cleaned, and which files are there after it.
use Rattle.std.specs.Prelude.{◌≡◌, ◌+◌, Bool, false, true}
use Rattle.raft_log_pipe.specs.Pipe.{first_of}
use Rattle.raft_log_pipes.specs.declared.pipes.DualPipes.{DualPipes}
use Rattle.raft_log_traced.specs.declared.traced.TracedTables.{TracedTables}
use Rattle.raft_log_cleaning.specs.declared.cleaning.Extent.{Extent}
use Rattle.raft_log_cleaning.specs.declared.cleaning.Extent.TheVariants.{All, Expired, Rewrites, Stale}

-- the rewrite queue is written anew
abbrev pub writes_anew : Extent → Bool
writes_anew All = false
writes_anew (Expired due) = due.rewrites
writes_anew Rewrites = true
writes_anew Stale = true

-- An opening found no batch of the append queue that belongs to an atomic group. Where the rewrite queue is written anew it found the
-- records of each atomic group there together
pub record MayClean (extent : Extent) (log : TracedTables) : Type 0 where
  pub unmarked : log.has_marked ≡ false
  pub together : writes_anew extent ≡ true → log.is_parted ≡ false

-- all files that the rewrite queue had are gone: its first one has a number behind all of theirs
abbrev pub HasNewRewrites : DualPipes → DualPipes → Type 0
HasNewRewrites p q = first_of q.rewrite ≡ p.rewrite.active.seq + 1

-- all files that the rewrite queue had are gone, and those of the append queue are all there
pub record HasOnlyNew (p q : DualPipes) : Type 0 where
  pub rewrite : first_of q.rewrite ≡ p.rewrite.active.seq + 1
  pub append : first_of q.append ≡ first_of p.append
