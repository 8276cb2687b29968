-- The rewrite queue written anew, from the first step to the last.
use Rattle.std.proofs.Common.{◌≡◌, ℕ, List, [], Option, None, refl, sym, ap, subst, ◌∙◌}
use Rattle.std.specs.Prelude.{Result, Ok, Err, OnErr, OnOk}
use Rattle.raft_log_disk.specs.Disk.{Disk}
use Rattle.raft_log_file.specs.Laws.{Batch}
use Rattle.raft_log_pipes.specs.declared.pipes.DualPipes.{DualPipes}
use Rattle.raft_log_memtables.specs.Content.{Content}
use Rattle.raft_log_memtables.specs.Replay.{mark_of}
use Rattle.raft_log_covers.specs.Joined.{without_marks}
use Rattle.raft_log_covers.specs.Written.{Written}
use Rattle.raft_log_traces.specs.GroupTraces.{traces_in}
use Rattle.raft_log_traced.specs.declared.traced.TracedTables.{TracedTables}
use Rattle.raft_log_cleaner.specs.Cleaning.{LeavesStanding}
use Rattle.raft_log_cleaner.specs.Pipes.{KeepsPipes}
use Rattle.raft_log_cleaner.proofs.Stood.{kept_then_stands}
use Rattle.raft_log_rewriter.specs.declared.writer.Writer.{Writer}
use Rattle.raft_log_rewriter.specs.Parts.{AreStored, HasId}
use Rattle.raft_log_rewriter.specs.Parts.Open.{closed}
use Rattle.raft_log_rewriter.specs.Parts.Stage.{between}
use Rattle.raft_log_rewriter.specs.Rewriting.{IsRewriting, at}
use Rattle.raft_log_rewriter.specs.Standing.{CanRewrite, HasRewritten, Stands}
use Rattle.raft_log_rewriter.proofs.Items.{none_stored}
use Rattle.raft_log_rewriter.proofs.Whole.{AreWhole}

-- nothing was written yet
pub rewriting_begun : (d : Disk) (p : DualPipes) (log : TracedTables) (w : Writer) (next : ℕ) (content : Content (List ℕ)) → w.batch.items ≡ [] → w.group ≡ None → Stands d p log next [] content → IsRewriting d p log w next (at between []) content
rewriting_begun d p log w next content none group stands = record {
  ws = [];
  open_group = closed;
  part = [];
  stands = stands;
  id = subst (λ (o : Option ℕ). HasId closed o) (sym group) tt;
  parts = record { ended = tt; unmarked = ap mark_of none; parts = []; groups = tt; holds = ap without_marks none };
  stored = subst (λ (l : Batch). AreStored content (traces_in log.traces) l) (sym none) (none_stored content (traces_in log.traces) [] (λ group i. refl));
  is_part = refl;
  among = tt;
}

-- all was, and is on the disk
pub has_rewritten : {X E : Type 0} (result : Result X E) (e : Disk) (q : DualPipes) (new : TracedTables) (next : ℕ) (ws : List (Written (List ℕ))) (content : Content (List ℕ)) → AreWhole content (traces_in new.traces) ws
    → OnOk result ((t : Stands e q new next ws content) × (t.fresh ≡ [])) → OnOk result (HasRewritten e q new next content)
has_rewritten (Ok x) e q new next ws content whole t = record { ws = ws; stands = t.0; none = t.1; each = whole.each; entries = whole.entries }
has_rewritten (Err x) e q new next ws content whole t = tt

-- ---- what is left

pub ok_is : {X E : Type 0} (result : Result X E) (m n o : ℕ) → n ≡ o → OnOk result (m ≡ n) → OnOk result (m ≡ o)
ok_is (Ok x) m n o same is = is ∙ same
ok_is (Err x) m n o same is = tt

-- the last call was refused or not
pub err_stands : {X E : Type 0} (result : Result X E) (d e f : Disk) (p q r : DualPipes) (log : TracedTables) → KeepsPipes d p e q → ((content : Content (List ℕ)) → CanRewrite d p log content → OnErr result (LeavesStanding e q f r content))
    → OnErr result ((content : Content (List ℕ)) → CanRewrite d p log content → LeavesStanding d p f r content)
err_stands (Ok x) d e f p q r log kept left = tt
err_stands (Err x) d e f p q r log kept left = λ content can. kept_then_stands d e f p q r content (kept.append, kept.rewrite) (left content can)
