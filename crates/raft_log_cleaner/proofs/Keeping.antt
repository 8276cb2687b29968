-- Calls that keep pipes beside their batches, one after the other.
use Rattle.std.proofs.Common.{◌≡◌, refl, sym, ap, ◌∙◌}
use Rattle.std.specs.Prelude.{Result, Ok, Err, OnOk, OnErr}
use Rattle.raft_log_disk.specs.Disk.{Disk}
use Rattle.raft_log_pipe.specs.declared.pipe.SinglePipe.{SinglePipe}
use Rattle.raft_log_pipe.specs.Alone.{IsAlone, IsNearlyAlone}
use Rattle.raft_log_pipe.specs.Kept.{KeepsSettings}
use Rattle.raft_log_pipe.specs.Pipe.{Holds, Numbered}
use Rattle.raft_log_pipe.specs.Torn.{IsTornAtEnd, TearsAtEnd}
use Rattle.raft_log_pipe.proofs.AloneLemmas.{alone_on, nearly}
use Rattle.raft_log_pipe.proofs.TornLemmas.{held_torn}
use Rattle.raft_log_pipes.specs.declared.pipes.DualPipes.{DualPipes}
use Rattle.raft_log_pipes.specs.Pipes.{IsAsBefore}
use Rattle.raft_log_cleaner.specs.Pipes.{KeepsAppends, KeepsPipe, KeepsPipes, LeavesPipe, LeavesPipes}

-- ---- of a pipe

pub same_pipe : (p : SinglePipe) (d : Disk) → KeepsPipe p d p d
same_pipe p d = record { set = (refl, refl, refl); paths = refl; alone = λ alone. alone }

pub pipe_as_before : (p q : SinglePipe) (d e : Disk) → IsAsBefore p d q e → KeepsPipe p d q e
pipe_as_before p q d e before = record {
  set = (ap (λ (x : SinglePipe). x.target_file_size) before.same, ap (λ (x : SinglePipe). x.default_format) before.same, ap (λ (x : SinglePipe). x.capacity) before.same);
  paths = ap (λ (x : SinglePipe). x.paths) before.same;
  alone = before.alone;
}

-- no name changed
pub pipe_on : (p q : SinglePipe) (d e : Disk) → (q.active ≡ p.active) × (q.older ≡ p.older) × (q.queue ≡ p.queue) → KeepsSettings p q → q.paths ≡ p.paths → e.names ≡ d.names → KeepsPipe p d q e
pipe_on p q d e same set paths names = record { set = set; paths = paths; alone = alone_on p q d e same paths names }

pub pipe_then : (p q r : SinglePipe) (d e f : Disk) → KeepsPipe p d q e → KeepsPipe q e r f → KeepsPipe p d r f
pipe_then p q r d e f one two = record {
  set = (two.set.0 ∙ one.set.0, two.set.1 ∙ one.set.1, two.set.2 ∙ one.set.2);
  paths = two.paths ∙ one.paths;
  alone = λ alone. two.alone (one.alone alone);
}

pipe_then_left : (p q r : SinglePipe) (d e f : Disk) → KeepsPipe p d q e → LeavesPipe q e r f → LeavesPipe p d r f
pipe_then_left p q r d e f one two = record {
  set = (two.set.0 ∙ one.set.0, two.set.1 ∙ one.set.1, two.set.2 ∙ one.set.2);
  paths = two.paths ∙ one.paths;
  nearly = λ alone. two.nearly (one.alone alone);
  torn = λ alone. two.torn (one.alone alone);
}

-- one that is kept, with its batches
pub pipe_left : (p q : SinglePipe) (d e : Disk) (s u : Numbered) → Holds q e s u → KeepsPipe p d q e → LeavesPipe p d q e
pipe_left p q d e s u holds kept = record {
  set = kept.set;
  paths = kept.paths;
  nearly = λ alone. nearly q e (kept.alone alone);
  torn = λ alone. held_torn q e (kept.alone alone) s u holds;
}

-- a call on it was refused
pub pipe_refused : (p q : SinglePipe) (d e : Disk) (s u : Numbered) → Holds p d s u → KeepsSettings p q → q.paths ≡ p.paths → (IsAlone p d → IsNearlyAlone q e) → TearsAtEnd p d q e → LeavesPipe p d q e
pipe_refused p q d e s u holds set paths nearly torn = record { set = set; paths = paths; nearly = nearly; torn = λ alone. torn alone s u holds }

-- ---- of both

pub same_pipes : (d : Disk) (p : DualPipes) → KeepsPipes d p d p
same_pipes d p = record { append = same_pipe p.append d; rewrite = same_pipe p.rewrite d; first = refl; rewrites = refl }

pub pipes_then : (d e f : Disk) (p q r : DualPipes) → KeepsPipes d p e q → KeepsPipes e q f r → KeepsPipes d p f r
pipes_then d e f p q r one two = record {
  append = pipe_then p.append q.append r.append d e f one.append two.append;
  rewrite = pipe_then p.rewrite q.rewrite r.rewrite d e f one.rewrite two.rewrite;
  first = two.first ∙ one.first;
  rewrites = two.rewrites ∙ one.rewrites;
}

pub appends_then : (d e f : Disk) (p q r : DualPipes) → KeepsPipes d p e q → KeepsAppends e q f r → KeepsAppends d p f r
appends_then d e f p q r one two = record {
  append = pipe_then p.append q.append r.append d e f one.append two.append;
  rewrite = pipe_then p.rewrite q.rewrite r.rewrite d e f one.rewrite two.rewrite;
  first = two.first ∙ one.first;
}

pub pipes_then_left : (d e f : Disk) (p q r : DualPipes) → KeepsPipes d p e q → LeavesPipes e q f r → LeavesPipes d p f r
pipes_then_left d e f p q r one two = record {
  append = pipe_then_left p.append q.append r.append d e f one.append two.append;
  rewrite = pipe_then_left p.rewrite q.rewrite r.rewrite d e f one.rewrite two.rewrite;
}

-- the last of two calls is refused or not
pub ok_then : {X E : Type 0} (result : Result X E) (d e f : Disk) (p q r : DualPipes) → KeepsPipes d p e q → OnOk result (KeepsPipes e q f r) → OnOk result (KeepsPipes d p f r)
ok_then (Ok x) d e f p q r one two = pipes_then d e f p q r one two
ok_then (Err x) d e f p q r one two = tt

pub ok_appends : {X E : Type 0} (result : Result X E) (d e f : Disk) (p q r : DualPipes) → KeepsPipes d p e q → OnOk result (KeepsAppends e q f r) → OnOk result (KeepsAppends d p f r)
ok_appends (Ok x) d e f p q r one two = appends_then d e f p q r one two
ok_appends (Err x) d e f p q r one two = tt

pub err_then : {X E : Type 0} (result : Result X E) (d e f : Disk) (p q r : DualPipes) → KeepsPipes d p e q → OnErr result (LeavesPipes e q f r) → OnErr result (LeavesPipes d p f r)
err_then (Ok x) d e f p q r one two = tt
err_then (Err x) d e f p q r one two = pipes_then_left d e f p q r one two
