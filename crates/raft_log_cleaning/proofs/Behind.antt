-- Cleanings one behind the other, and what is refused behind them.
use Rattle.std.proofs.Common.{◌≡◌, ◌⊎◌, ℕ, ◌≤◌, Bool, true, false, List, Option, Some, None, refl, sym, ap, subst, ◌∙◌}
use Rattle.std.specs.Prelude.{Result, Ok, Err, OnErr, OnOk, IfOk, Vec, ◌+◌, ◌||◌}
use Rattle.std.specs.declared.alloc.Global.{Global}
use Rattle.std.specs.Result.{IsErrAnd}
use Rattle.raft_log_disk.specs.Disk.{Disk}
use Rattle.raft_log_files.specs.declared.error.Error.{Error}
use Rattle.raft_log_covers.specs.Kept.{Traces}
use Rattle.raft_log_pipe.specs.declared.pipe.SinglePipe.{SinglePipe}
use Rattle.raft_log_pipe.specs.Pipe.{first_of}
use Rattle.raft_log_pipes.specs.declared.pipes.DualPipes.{DualPipes}
use Rattle.raft_log_memtables.specs.Content.{Content}
use Rattle.raft_log_memtables.specs.MemTables.{content_in}
use Rattle.raft_log_purge.specs.declared.reports.Reports.{Reports}
use Rattle.raft_log_purge.specs.Due.{IsLarge}
use Rattle.raft_log_purge.specs.Going.{GoesToNeeded}
use Rattle.raft_log_traces.specs.GroupTraces.{traces_in}
use Rattle.raft_log_purge.specs.declared.due.RewriteCounts.{RewriteCounts}
use Rattle.raft_log_traced.specs.declared.traced.TracedTables.{TracedTables}
use Rattle.raft_log_cleaner.specs.declared.manager.PurgeManager.{PurgeManager}
use Rattle.raft_log_cleaner.specs.Cleaning.{CanClean, Cleans, IsLeftStanding, KeepsFromBarrier}
use Rattle.raft_log_cleaner.specs.Live.{AreLive}
use Rattle.raft_log_cleaner.specs.Pipes.{KeepBoth}
use Rattle.raft_log_cleaner.specs.Told.{is_among, queue_of}
use Rattle.raft_log_cleaner.proofs.Calls.{goes_then}
use Rattle.raft_log_cleaner.proofs.Ends.{can_be_left, can_leave}
use Rattle.raft_log_cleaner.proofs.Going.{none_ok, when_err}
use Rattle.raft_log_cleaner.proofs.Keeping.{same_pipes}
use Rattle.raft_log_cleaner.proofs.Stood.{both_then, kept_then_stands, refused_stands}
use Rattle.raft_log_cleaner.proofs.Telling.{there_seen}
use Rattle.raft_log_cleaning.specs.Extents.{HasOnlyNew}
use Rattle.raft_log_cleaning.specs.Stale.{IsPurged}
use Rattle.raft_log_cleaning.specs.Told.{AreMany, IsCleanedAnew, IsToldBehind}

-- the counters begin again
pub written_set : (d : Disk) (p : DualPipes) (log : TracedTables) (counts : RewriteCounts) (content : Content (List ℕ)) → CanClean d p log content → CanClean d p (record log { written = counts }) content
written_set d p log counts content can = record {
  rewrites = can.rewrites;
  appends = can.appends;
  pipes = can.pipes;
  rewrite = can.rewrite;
  append = can.append;
  tabled = can.tabled;
  placed = can.placed;
  cleanable = can.cleanable;
  together = can.together;
}

-- ---- nothing was done

pub unchanged_stands : (d : Disk) (p : DualPipes) (log : TracedTables) → IsLeftStanding d p log d p
unchanged_stands d p log content can = refused_stands d d p p content (can_leave d p log content can) (can_be_left d d p p log content can (same_pipes d p))

-- ---- one call behind the other

module _ (d e : Disk) (p q : DualPipes) (log mid : TracedTables) (cleaned : (content : Content (List ℕ)) → CanClean d p log content → CanClean e q mid content) (kept : KeepBoth d p e q) where
  -- behind it nothing was done
  pub cleans_behind : {X E : Type 0} (Q : E → Type 0) (result : Result X E) → IsErrAnd result Q → Cleans d p log e q mid result
  cleans_behind Q result is = record { ok = λ content can. none_ok Q _ result is; err = λ content can. when_err result (can_leave e q mid content (cleaned content can)) }

  pub stands_behind : IsLeftStanding d p log e q
  stands_behind content can = kept_then_stands d e e p q q content kept (unchanged_stands e q mid content (cleaned content can))

  module _ {X : Type 0} (f : Disk) (r : DualPipes) where
    pub cleans_both : {E : Type 0} (new : TracedTables) (result : Result X E) → Cleans e q mid f r new result → Cleans d p log f r new result
    cleans_both new result two = record { ok = λ content can. two.ok content (cleaned content can); err = λ content can. two.err content (cleaned content can) }

    pub keeps_both : {E : Type 0} (result : Result X E) → OnOk result (KeepBoth e q f r) → OnOk result (KeepBoth d p f r)
    keeps_both (Ok x) two = both_then d e f p q r kept two
    keeps_both (Err x) two = tt

    pub stands_both : {E : Type 0} (result : Result X E) → OnErr result (IsLeftStanding e q mid f r) → OnErr result (IsLeftStanding d p log f r)
    stands_both (Ok x) two = tt
    stands_both (Err x) two = λ content can. kept_then_stands d e f p q r content kept (two content (cleaned content can))

-- the barrier is kept
pub barrier_both : {X E : Type 0} (result : Result X E) (barrier : Option ℕ) (p q r : DualPipes) → first_of q.append ≡ first_of p.append → OnOk result (KeepsFromBarrier barrier q r) → OnOk result (KeepsFromBarrier barrier p r)
barrier_both (Ok x) None p q r first two = tt
barrier_both (Ok x) (Some file) p q r first two = subst (λ (n : ℕ). (first_of r.append ≡ n) ⊎ (first_of r.append ≤ file)) first two
barrier_both (Err x) barrier p q r first two = tt

-- files of a large append queue that went behind it
pub gone_both : {X E : Type 0} (result : Result X E) (traces : Traces) (barrier : Option ℕ) (threshold : ℕ) (p q r : DualPipes) → q.append ≡ p.append
    → (IsLarge (queue_of q.append) threshold → OnOk result (GoesToNeeded traces barrier q.append r.append)) → IsLarge (queue_of p.append) threshold → OnOk result (GoesToNeeded traces barrier p.append r.append)
gone_both result traces barrier threshold p q r same gone large =
    goes_then result traces barrier p.append q.append r.append (ap first_of same) (gone (subst (λ (a : SinglePipe). IsLarge (queue_of a) threshold) (sym same) large))

-- groups that are there behind it were there before
pub there_before : (d e : Disk) (p q : DualPipes) (log mid : TracedTables) (content : Content (List ℕ)) → CanClean d p log content → CanClean e q mid content → (group : ℕ) → (content_in log.tables group).there ≡ (content_in mid.tables group).there
there_before d e p q log mid content one two group = there_seen d p log content one group ∙ sym (there_seen e q mid content two group)

pub all_there : (result : Result (Vec ℕ Global) Error) (log mid : TracedTables) (among : List ℕ → ℕ → Bool) → ((group : ℕ) → (content_in log.tables group).there ≡ (content_in mid.tables group).there)
    → IfOk result (λ told. (group : ℕ) → among told.items group ≡ true → (content_in mid.tables group).there ≡ true) → IfOk result (λ told. (group : ℕ) → among told.items group ≡ true → (content_in log.tables group).there ≡ true)
all_there (Ok told) log mid among same there = λ group is. same group ∙ there group is
all_there (Err x) log mid among same there = tt

-- groups that are named, as a list
pub named_so : (groups told all : List ℕ) (before now : ℕ → Bool) → groups ≡ all → ((group : ℕ) → now group ≡ is_among all group) → ((group : ℕ) → now group ≡ (before group || is_among told group))
    → (group : ℕ) → is_among groups group ≡ (before group || is_among told group)
named_so groups told all before now same exactly named group = ap (λ (l : List ℕ). is_among l group) same ∙ sym (exactly group) ∙ named group

-- a group is named by either
pub either_there : (log : TracedTables) (a b told : Bool) (there : Bool) → told ≡ (a || b) → (a ≡ true → there ≡ true) → (b ≡ true → there ≡ true) → told ≡ true → there ≡ true
either_there log true b told there is one two h = one refl
either_there log false b told there is one two h = two (sym is ∙ h)

-- both queues were cleaned
pub cleaned_anew : (result : Result (Vec ℕ Global) Error) (d e f : Disk) (p q r : DualPipes) (log mid new : TracedTables) (m : PurgeManager) (after : Reports) (many : ℕ → Bool)
    → ((content : Content (List ℕ)) → CanClean d p log content → CanClean e q mid content) → HasOnlyNew p q → q.append ≡ p.append → AreLive log mid.written → AreMany log many → Cleans e q mid f r new result
    → IfOk result (λ told. IsToldBehind m q mid after many told.items) → IfOk result (λ told. IsCleanedAnew d p log m f r new after told.items)
cleaned_anew (Ok told) d e f p q r log mid new m after many one anew append again are two behind = record {
  disk = e;
  pipes = q;
  between = mid;
  before = one;
  behind = λ content can. two.ok content can;
  anew = anew;
  append = append;
  begins_again = again;
  many = many;
  are_many = are;
  told_behind = behind;
}
cleaned_anew (Err x) d e f p q r log mid new m after many one anew append again are two behind = tt

-- both queues have only files that are needed
pub purged_behind : (result : Result ℕ Error) (d e f : Disk) (p q r : DualPipes) (log mid new : TracedTables) (barrier : Option ℕ)
    → ((content : Content (List ℕ)) → CanClean d p log content → CanClean e q mid content) → HasOnlyNew p q → q.append ≡ p.append → AreLive log mid.written → Cleans e q mid f r new result
    → OnOk result (GoesToNeeded (traces_in new.traces) barrier q.append r.append) → OnOk result (IsPurged d p log barrier f r new)
purged_behind (Ok n) d e f p q r log mid new barrier one anew append again two gone = record {
  disk = e;
  pipes = q;
  between = mid;
  before = one;
  behind = λ content can. two.ok content can;
  anew = anew;
  append = append;
  begins_again = again;
  gone = subst (λ (a : SinglePipe). GoesToNeeded (traces_in new.traces) barrier a r.append) append gone;
}
purged_behind (Err x) d e f p q r log mid new barrier one anew append again two gone = tt

-- so many went
pub counted_behind : (result : Result ℕ Error) (p q r : DualPipes) → q.append ≡ p.append → IfOk result (λ n. first_of q.append + n ≡ first_of r.append) → IfOk result (λ n. first_of p.append + n ≡ first_of r.append)
counted_behind result p q r append count = subst (λ (a : SinglePipe). IfOk result (λ n. first_of a + n ≡ first_of r.append)) append count
