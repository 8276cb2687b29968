-- Why a call was refused.
use Rattle.std.proofs.Common.{◌≡◌, ◌⊎◌, inl, inr, ℕ, ◌+◌, ◌-◌, ◌^◌, min, Bool, true, false, if◌then◌else◌, refl, sym, ap, subst, ◌∙◌}
use Rattle.std.specs.Prelude.{Option, Some, Result, Ok, Err, OnErr, IsErrOf}
use Rattle.raft_log_disk.specs.declared.fault.IoFault.{IoFault}
use Rattle.raft_log_disk.specs.declared.fault.IoFault.TheVariants.{NotFound, NoSpace, Refused, Memory}
use Rattle.raft_log_disk.specs.Cause.{Meter, HasCause, HasReadCause, IsCausedCall, counted, spent}

-- two calls, the first one taken; the second finds what it names
pub second_cause : {S T : Type 0} (absent gone : Type 0) (before between after : Meter) (first : S) (second : Result T IoFault)
    → HasCause absent ⊥ before between (Ok first) → HasCause gone ⊥ between after second → (gone → ⊥) → HasCause absent ⊥ before after second
second_cause absent gone before between after first second a b there = record {
  refused = b.refused ∙ ap (counted second) a.refused;
  lacks = b.lacks ∙ a.lacks;
  missing = λ e. let h : false ≡ true = a.missing e in absurd cc;
  lacking = b.lacking;
  not_found = λ e. absurd (there (b.not_found e));
  no_space = b.no_space;
  reads = b.reads ∙ a.reads;
}

-- room was missing
pub cramped_cause : {T : Type 0} (w : Bool) (absent cramped : Type 0) (old new : Meter) (e : IoFault) → e ≡ NoSpace → new.refusals ≡ min (old.refusals + 1) (2 ^ 64 - 1) → new.lacks ≡ (if w then min (old.lacks + 1) (2 ^ 64 - 1) else old.lacks)
    → new.unreadable ≡ old.unreadable → cramped → IsCausedCall {T = T} w absent cramped old new (Err e)
cramped_cause {T = T} w absent cramped old new e is same counts reads lacks = subst (λ x. IsCausedCall {T = T} w absent cramped old new (Err x)) (sym is) (record {
  refused = same;
  lacks = counts;
  missing = λ e. refl;
  lacking = λ e. refl;
  not_found = λ e. absurd cc;
  no_space = λ e. lacks;
  reads = reads;
})

counts_alike : (S T : Type 0) (e : IoFault) (n : ℕ) → counted {T = S} (Err e) n ≡ counted {T = T} (Err e) n
counts_alike S T Refused n = refl
counts_alike S T NotFound n = refl
counts_alike S T NoSpace n = refl
counts_alike S T Memory n = refl

pub same_fault : (S T : Type 0) (e f : IoFault) → IsErrOf {T = T} (Err e) f → IsErrOf {T = S} (Err e) f
same_fault S T e f h = let same : e ≡ f = cc in λ i. Err (same i)

-- a fault is handed on
pub same_cause : {S T : Type 0} (absent cramped : Type 0) (old new : Meter) (e : IoFault) → HasCause {T = S} absent cramped old new (Err e) → HasCause {T = T} absent cramped old new (Err e)
same_cause {S = S} {T = T} absent cramped old new e cause = record {
  refused = cause.refused ∙ counts_alike S T e old.refusals;
  lacks = cause.lacks;
  missing = λ x. refl;
  lacking = λ x. refl;
  not_found = λ h. cause.not_found (same_fault S T e NotFound h);
  no_space = λ h. cause.no_space (same_fault S T e NoSpace h);
  reads = cause.reads;
}

-- a path's reads are refused
pub unreadable_cause : {T : Type 0} (absent unreadable : Type 0) → unreadable → HasReadCause {T = T} absent unreadable (Err Refused)
unreadable_cause absent unreadable there = record { missing = λ e. refl; unread = λ e. refl; refused = λ e. there; not_found = λ e. absurd cc; no_space = λ e. absurd cc }

kept_count : (w : Bool) (n m : ℕ) → m ≡ n → m ≡ (if w then n else n)
kept_count true n m is = is
kept_count false n m is = is

-- a call that was taken
pub taken_cause : {T : Type 0} (w : Bool) (absent cramped : Type 0) (old new : Meter) (x : T) → new.refusals ≡ old.refusals → new.lacks ≡ old.lacks → new.unreadable ≡ old.unreadable → (absent → ⊥) → (cramped → ⊥) → IsCausedCall w absent cramped old new (Ok x)
taken_cause w absent cramped old new x same counts reads there roomy = record {
  refused = same;
  lacks = kept_count w old.lacks new.lacks counts;
  missing = λ e. absurd (there e);
  lacking = λ e. absurd (roomy e);
  not_found = λ e. absurd cc;
  no_space = λ e. absurd cc;
  reads = reads;
}

-- a read that was answered
pub read_cause : {T : Type 0} (absent unreadable : Type 0) (x : T) → (absent → ⊥) → (unreadable → ⊥) → HasReadCause absent unreadable (Ok x)
read_cause absent unreadable x there read = record { missing = λ e. absurd (there e); unread = λ e. absurd (read e); refused = λ e. absurd cc; not_found = λ e. absurd cc; no_space = λ e. absurd cc }

-- of a number that no file has
pub absent_cause : {T : Type 0} (absent unreadable : Type 0) → absent → (unreadable → ⊥) → HasReadCause {T = T} absent unreadable (Err NotFound)
absent_cause absent unreadable gone read = record { missing = λ e. refl; unread = λ e. absurd (read e); refused = λ e. absurd cc; not_found = λ e. gone; no_space = λ e. absurd cc }

-- memory was missing
pub memory_cause : {T : Type 0} (absent unreadable : Type 0) (r : Result T IoFault) → r ≡ Err Memory → (unreadable → ⊥) → HasReadCause absent unreadable r
memory_cause absent unreadable r is read = subst (HasReadCause absent unreadable) (sym is) (record { missing = λ e. refl; unread = λ e. absurd (read e); refused = λ e. absurd cc; not_found = λ e. absurd cc; no_space = λ e. absurd cc })

-- what holds anyway, of an error
pub at_err : {S E : Type 0} (r : Result S E) (P : Type 0) → P → OnErr r P
at_err (Ok x) P p = tt
at_err (Err e) P p = p

-- the first of two calls was the refused one
pub first_why : (barred : Type 0) (l : Option ℕ) (faulty : Type 0) → (l ≡ Some 0) ⊎ (faulty ⊎ barred) → (spent l ≡ Some 0) ⊎ (faulty ⊎ barred)
first_why barred l faulty (inl blown) = inl (ap spent blown)
first_why barred l faulty (inr other) = inr other
