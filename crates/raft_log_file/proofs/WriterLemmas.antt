-- Counts of refusals over the calls of a writer.
use Rattle.std.proofs.Common.{◌≡◌, ◌⊎◌, inl, inr, ℕ, ◌+◌, ◌-◌, ◌^◌, ◌≤◌, min, refl, ◌∙◌, subst, List, arith}
use Rattle.std.specs.Prelude.{Result, Ok, Err}
use Rattle.raft_log_disk.specs.declared.fault.IoFault.{IoFault}
use Rattle.raft_log_disk.specs.declared.fault.IoFault.TheVariants.{NotFound, NoSpace, Refused, Memory}
use Rattle.raft_log_disk.specs.Cause.{Meter, counted}
use Rattle.raft_log_disk.specs.Disk.{Disk}
use Rattle.raft_log_file.specs.Writer.{IsAppended, IsCounted, writer_at}

-- the count stays or grows by one
abbrev pub CountsOne : ℕ → ℕ → Type 0
CountsOne old new = (new ≡ old) ⊎ (new ≡ min (old + 1) (2 ^ 64 - 1))

pub counts_one : {T : Type 0} (r : Result T IoFault) (old new : ℕ) → new ≡ counted r old → CountsOne old new
counts_one (Ok x) old new is = inl is
counts_one (Err Refused) old new is = inr is
counts_one (Err NoSpace) old new is = inr is
counts_one (Err NotFound) old new is = inl is
counts_one (Err Memory) old new is = inl is

at_least : (old between new : ℕ) → CountsOne old between → new ≡ min (between + 1) (2 ^ 64 - 1) → min (old + 1) (2 ^ 64 - 1) ≤ new
at_least old between new (inl is) last = omega (arith, is, last)
at_least old between new (inr is) last = omega (arith, is, last)

-- a refusal is counted, whatever was counted before it
pub counted_behind : {T : Type 0} (old between new : Meter) (r : Result T IoFault) → CountsOne old.refusals between.refusals → new.refusals ≡ counted r between.refusals → IsCounted old new r
counted_behind old between new (Ok x) before is = record { refused = λ e. absurd cc; no_space = λ e. absurd cc }
counted_behind old between new (Err Refused) before is = record { refused = λ e. at_least old.refusals between.refusals new.refusals before is; no_space = λ e. absurd cc }
counted_behind old between new (Err NoSpace) before is = record { refused = λ e. absurd cc; no_space = λ e. at_least old.refusals between.refusals new.refusals before is }
counted_behind old between new (Err NotFound) before is = record { refused = λ e. absurd cc; no_space = λ e. absurd cc }
counted_behind old between new (Err Memory) before is = record { refused = λ e. absurd cc; no_space = λ e. absurd cc }

pub counted_here : {T : Type 0} (old new : Meter) (r : Result T IoFault) → new.refusals ≡ counted r old.refusals → IsCounted old new r
counted_here old new r is = counted_behind old old new r (inl refl) is

pub counted_from : {T : Type 0} (old between new : Meter) (r : Result T IoFault) → between.refusals ≡ old.refusals → IsCounted between new r → IsCounted old new r
counted_from old between new r same c = record {
  refused = λ e. omega (arith, c.refused e, same);
  no_space = λ e. omega (arith, c.no_space e, same);
}

-- ---- a file that begins

pub appended_as : {E : Type 0} (old new : Disk) (fd size n : ℕ) (header held text : List ℕ) (r : Result (Unit {0}) E) → size ≡ n → header ≡ held → held ≡ text
    → IsAppended (writer_at fd 0 size) old new header 0 r → IsAppended (writer_at fd 0 n) old new text 0 r
appended_as old new fd size n header held text r same is told a =
    subst (λ m. IsAppended (writer_at fd 0 m) old new text 0 r) same (subst (λ (l : List ℕ). IsAppended (writer_at fd 0 size) old new l 0 r) (is ∙ told) a)
