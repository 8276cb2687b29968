-- What is set to refuse calls, over runs of calls.
use Rattle.std.proofs.Common.{◌≡◌, ◌⊎◌, inl, inr, ℕ, ◌+◌, ◌-◌, ◌^◌, ◌<◌, ◌≤◌, min, Bool, true, false, if◌then◌else◌, refl, sym, ap, subst, ◌∙◌, arith, List}
use Rattle.std.specs.Prelude.{Option, Some, None, Result, Ok, Err, IsErrOf, IsTrue, OnOk, zero, suc}
use Rattle.raft_log_disk.specs.declared.fault.IoFault.{IoFault}
use Rattle.raft_log_disk.specs.declared.fault.IoFault.TheVariants.{NotFound, NoSpace, Refused, Memory}
use Rattle.raft_log_disk.specs.Text.{Text}
use Rattle.raft_log_disk.specs.Disk.{Disk, LacksRoom}
use Rattle.raft_log_disk.specs.Cause.{Meter, IsBlown, IsCausedCall, IsOneCall, IsTaken, Lacks, NothingRefuses, RefusesNoMore, Rises, Spends, counted, lacked, spent}

pub no_more_same : (b : Type 0) (m : Meter) → RefusesNoMore b b m m
no_more_same b m = record { fuse = λ e. e; burns = λ n is. (n, is, omega arith); reads = refl; sound = refl; room = λ x. x; counts = omega arith; spaces = omega arith }

-- what is left of a fuse behind two runs of calls
burns_then : (l m n : Option ℕ) → ((k : ℕ) → l ≡ Some k → (j : ℕ) × (m ≡ Some j) × (j ≤ k)) → ((k : ℕ) → m ≡ Some k → (j : ℕ) × (n ≡ Some j) × (j ≤ k))
    → (k : ℕ) → l ≡ Some k → (j : ℕ) × (n ≡ Some j) × (j ≤ k)
burns_then l m n first second k is =
    let (j, there, less) = first k is in
    let (i, last, lesser) = second j there in
    (i, last, omega (arith, less, lesser))

pub no_more_then : {a b c : Type 0} {l m n : Meter} → RefusesNoMore a b l m → RefusesNoMore b c m n → RefusesNoMore a c l n
no_more_then {l = l} {m = m} {n = n} first second = record {
  fuse = λ e. second.fuse (first.fuse e);
  burns = burns_then l.calls_left m.calls_left n.calls_left first.burns second.burns;
  reads = second.reads ∙ first.reads;
  sound = second.sound ∙ first.sound;
  room = λ x. first.room (second.room x);
  counts = omega (arith, first.counts, second.counts);
  spaces = omega (arith, first.spaces, second.spaces);
}

pub still_free : {a b : Type 0} {l m : Meter} → NothingRefuses a l → RefusesNoMore a b l m → NothingRefuses b m
still_free free later = record {
  fuse = later.fuse free.fuse;
  reads = later.reads ∙ free.reads;
  sound = λ x. free.sound (subst IsTrue later.sound x);
  room = λ x. free.room (later.room x);
}

counts_on : {T : Type 0} (r : Result T IoFault) (n k : ℕ) → k ≡ counted r n → min (n + 0) (2 ^ 64 - 1) ≤ k
counts_on (Ok x) n k is = omega (arith, is)
counts_on (Err Refused) n k is = omega (arith, is)
counts_on (Err NotFound) n k is = omega (arith, is)
counts_on (Err NoSpace) n k is = omega (arith, is)
counts_on (Err Memory) n k is = omega (arith, is)

lacks_by : {T : Type 0} (w : Bool) (r : Result T IoFault) (n k : ℕ) → k ≡ (if w then lacked r n else n) → min (n + 0) (2 ^ 64 - 1) ≤ k
lacks_by true (Ok x) n k is = omega (arith, is)
lacks_by true (Err Refused) n k is = omega (arith, is)
lacks_by true (Err NotFound) n k is = omega (arith, is)
lacks_by true (Err NoSpace) n k is = omega (arith, is)
lacks_by true (Err Memory) n k is = omega (arith, is)
lacks_by false r n k is = omega (arith, is)

-- one call
pub no_more_call : {T : Type 0} {w : Bool} (absent cramped barred a b : Type 0) (old new : Meter) (r : Result T IoFault) → IsCausedCall w absent cramped old new r → IsOneCall barred old new r → (b → a) → RefusesNoMore a b old new
no_more_call {w = w} absent cramped barred a b old new r cause call bound = record {
  fuse = λ e. call.left ∙ ap spent e;
  burns = λ n is. (n - 1, call.left ∙ ap spent is, omega arith);
  reads = cause.reads;
  sound = call.faulty;
  room = bound;
  counts = counts_on r old.refusals new.refusals cause.refused;
  spaces = lacks_by w r old.lacks new.lacks cause.lacks;
}

blown_not : (l : Option ℕ) → l ≡ None → l ≡ Some 0 → ⊥
blown_not l none some = absurd cc

refused_only : (barred a : Type 0) (m : Meter) → NothingRefuses a m → (m.calls_left ≡ Some 0) ⊎ (IsTrue m.is_faulty ⊎ barred) → barred
refused_only barred a m free (inl blown) = absurd (blown_not m.calls_left free.fuse blown)
refused_only barred a m free (inr (inl faulty)) = absurd (free.sound faulty)
refused_only barred a m free (inr (inr x)) = x

-- and why it isn't taken
pub taken_call : {T : Type 0} {w : Bool} (absent cramped barred a : Type 0) (old new : Meter) (r : Result T IoFault) → (cramped → barred) → NothingRefuses a old → IsCausedCall w absent cramped old new r → IsOneCall barred old new r → IsTaken absent barred r
taken_call absent cramped barred a old new (Ok x) most free cause call = tt
taken_call absent cramped barred a old new (Err NotFound) most free cause call = cause.not_found refl
taken_call absent cramped barred a old new (Err NoSpace) most free cause call = most (cause.no_space refl)
taken_call absent cramped barred a old new (Err Memory) most free cause call = tt
taken_call absent cramped barred a old new (Err Refused) most free cause call = refused_only barred a old free (call.why refl)

-- only such a call lacks room where no directory is bounded
pub lacks_most : (room : Text → ℕ) (d : Disk) (fd bytes : ℕ) → ((directory : Text) → room directory ≡ 2 ^ 64 - 1) → LacksRoom room d fd bytes → 2 ^ 64 ≤ bytes
lacks_most room d fd bytes all lacks = omega (arith, all lacks.directory, lacks.lacks)

-- a refusal and want of space are counted
pub refusal_rises : {T : Type 0} (r : Result T IoFault) (old new : Meter) → new.refusals ≡ counted r old.refusals → IsErrOf r Refused → Rises 1 old new
refusal_rises (Ok x) old new is e = absurd cc
refusal_rises (Err Refused) old new is e = omega (arith, is)
refusal_rises (Err NotFound) old new is e = absurd cc
refusal_rises (Err NoSpace) old new is e = omega (arith, is)
refusal_rises (Err Memory) old new is e = absurd cc

-- and so is a write without space
pub lack_counts : {T : Type 0} (r : Result T IoFault) (old new : Meter) → new.lacks ≡ lacked r old.lacks → IsErrOf r NoSpace → Lacks 1 old new
lack_counts (Ok x) old new is e = absurd cc
lack_counts (Err Refused) old new is e = absurd cc
lack_counts (Err NotFound) old new is e = absurd cc
lack_counts (Err NoSpace) old new is e = omega (arith, is)
lack_counts (Err Memory) old new is e = absurd cc

pub lacks_then : (m n : ℕ) (a b c : Meter) → Lacks m a b → Lacks n b c → Lacks (m + n) a c
lacks_then m n a b c first second = omega (arith, first, second)

-- ---- what is spent of a fuse

-- a blown one takes no call
blown_refuses : {T : Type 0} (x : T) → IsErrOf (Ok x) Refused → ⊥
blown_refuses x refused = absurd cc

taken_spends : {T : Type 0} (barred : Type 0) (old new : Meter) (x : T) → IsOneCall barred old new (Ok x) → Spends old new
taken_spends barred old new x call zero is = absurd (blown_refuses x (call.blown is))
taken_spends barred old new x call (suc n) is = (suc n - 1, call.left ∙ ap spent is, omega arith)

-- a call that is taken spends one
pub spends_call : {T : Type 0} (barred : Type 0) (old new : Meter) (r : Result T IoFault) → IsOneCall barred old new r → OnOk r (Spends old new)
spends_call barred old new (Ok x) call = taken_spends barred old new x call
spends_call barred old new (Err e) call = tt

-- so does one behind others
pub spends_then : {a b : Type 0} (l m n : Meter) → RefusesNoMore a b l m → Spends m n → Spends l n
spends_then l m n first second k is =
    let (j, there, less) = first.burns k is in
    let (i, last, lesser) = second j there in
    (i, last, omega (arith, less, lesser))

-- and one before others
pub spends_before : {a b : Type 0} (l m n : Meter) → Spends l m → RefusesNoMore a b m n → Spends l n
spends_before l m n first second k is =
    let (j, there, less) = first k is in
    let (i, last, lesser) = second.burns j there in
    (i, last, omega (arith, less, lesser))

-- a fuse that is blown stays so
pub blown_still : {a b : Type 0} {l m : Meter} → RefusesNoMore a b l m → IsBlown l → IsBlown m
blown_still later is =
    let (j, there, less) = later.burns 0 is in
    let none : j ≡ 0 = omega (arith, less) in
    there ∙ ap Some none

-- and nothing is spent of it
pub blown_not_spent : (l m : Meter) → Spends l m → IsBlown l → ⊥
blown_not_spent l m spends is =
    let (j, there, less) = spends 0 is in
    absurd (omega (arith, less))
