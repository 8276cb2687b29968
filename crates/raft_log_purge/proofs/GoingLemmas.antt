-- Files that groups keep.
use Rattle.std.proofs.Common.{◌≡◌, ◌≤◌, ◌+◌, ℕ, Option, Some, None, arith, sym, ap, ◌∙◌, subst}
use Rattle.std.specs.Prelude.{IfOk, IfSome, OnOk, Result, Ok, Err}
use Rattle.raft_log_covers.specs.Account.{IsFrom}
use Rattle.raft_log_covers.specs.Kept.{Traces}
use Rattle.raft_log_covers.specs.Trace.{Trace, greater}
use Rattle.raft_log_pipe.specs.declared.pipe.SinglePipe.{SinglePipe}
use Rattle.raft_log_pipe.specs.Pipe.{first_of}
use Rattle.raft_log_traces.specs.Files.{IsKeptFrom, KeepsFrom}
use Rattle.raft_log_purge.specs.Going.{GoesToNeeded, IsFirstNeeded}

from_less : (less file : ℕ) (at : Option ℕ) → less ≤ file → IsFrom file at → IsFrom less at
from_less less file None l h = h
from_less less file (Some at) l h = omega (arith, l, h)

keeps_from_less : (less file : ℕ) (t : Trace) → less ≤ file → KeepsFrom file t → KeepsFrom less t
keeps_from_less less file t l h = record {
  since = from_less less file t.since l h.since;
  tail = from_less less file t.tail l h.tail;
  entries = λ i from below. from_less less file (t.entry_file i) l (h.entries i from below);
  keys = λ k. from_less less file (t.key_file k) l (h.keys k);
}

-- a file that isn't behind the least one that is kept is kept
pub kept_from_less : (less : ℕ) (least : Option ℕ) (t : Trace) → IfSome least (λ file. less ≤ file) → IsKeptFrom least t → KeepsFrom less t
kept_from_less less None t l h = h less
kept_from_less less (Some file) t l h = keeps_from_less less file t l h

-- what is from a file on is so of each file that there is
pub is_from_each : (n : ℕ) (o : Option ℕ) → IsFrom n o → IfSome o (λ file. n ≤ file)
is_from_each n None h = tt
is_from_each n (Some file) h = h

-- files went up to before the first one that is needed
pub goes_to : {E : Type 0} (traces : Traces) (kept : Option ℕ) (old new : SinglePipe) (first active needed seq : ℕ) (result : Result ℕ E) → first ≡ first_of old → active ≡ old.active.seq → new.active ≡ old.active
    → IsFirstNeeded traces kept active needed → seq ≡ greater first needed → IfOk result (λ n. (first_of new ≡ seq) × (first_of old + n ≡ seq)) → OnOk result (GoesToNeeded traces kept old new)
goes_to traces kept old new first active needed seq (Err e) from at same is to ok = tt
goes_to traces kept old new first active needed seq (Ok n) from at same is to ok =
    let written : active ≡ new.active.seq = at ∙ sym (ap (λ file. file.seq) same) in
    (needed, subst (λ (a : ℕ). IsFirstNeeded traces kept a needed) written is, ok.0 ∙ to ∙ ap (λ (k : ℕ). greater k needed) from)
