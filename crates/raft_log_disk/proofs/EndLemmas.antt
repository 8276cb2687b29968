-- What the ends of a call owe.
use Rattle.std.proofs.Common.{◌≡◌, ◌⊎◌, inl, inr, ℕ, ◌+◌, ◌-◌, ◌^◌, min, Bool, true, false, if◌then◌else◌, refl, sym, ap, subst, ◌∙◌, IsErrAnd}
use Rattle.std.specs.Prelude.{Result, Ok, Err, IfOk, OnOk, OnErr, IsErr, IsErrOf, IsTrue, Some, Vec, String}
use Rattle.std.specs.declared.alloc.Global.{Global}
use Rattle.std.proofs.lemmas.Result.{err_from_is_err_and}
use Rattle.raft_log_disk.specs.declared.fault.IoFault.{IoFault}
use Rattle.raft_log_disk.specs.declared.fault.IoFault.TheVariants.{NotFound, NoSpace, Refused, Memory}
use Rattle.raft_log_disk.specs.declared.fuse.Fuse.{Fuse}
use Rattle.raft_log_disk.specs.Cause.{IsCausedCall, IsOneCall, UnlessRefused, spent}
use Rattle.raft_log_disk.specs.Memory.{meter_of, texts_of}
use Rattle.raft_log_disk.proofs.CauseLemmas.{taken_cause}

-- ---- an early end: nothing of what it would have given

pub not_ok : {T E : Type 0} (Q : E → Type 0) (P : Type 0) (r : Result T E) → IsErrAnd r Q → OnOk r P
not_ok Q P r is = let p = err_from_is_err_and r is in rw p.1 tt

pub not_given : {T E : Type 0} (Q : E → Type 0) (P : T → Type 0) (r : Result T E) → IsErrAnd r Q → IfOk r P
not_given Q P r is = let p = err_from_is_err_and r is in rw p.1 tt

-- ---- what holds however a call ends

pub at_end : {T : Type 0} (r : Result T IoFault) (P : Type 0) → P → UnlessRefused r P
at_end (Ok x) P p = tt
at_end (Err Refused) P p = tt
at_end (Err NotFound) P p = p
at_end (Err NoSpace) P p = p
at_end (Err Memory) P p = p

pub at_fault : (e : IoFault) (P : Type 0) → P → UnlessRefused {T = ℕ} (Err e) P
at_fault e P p = at_end {T = ℕ} (Err e) P p

-- a refusal asks for nothing to be as before
pub refused_free : (P : Type 0) (e : IoFault) → e ≡ Refused → UnlessRefused {T = ℕ} (Err e) P
refused_free P e is = subst (λ x. UnlessRefused {T = ℕ} (Err x) P) (sym is) tt

-- ---- calls of the files in memory, by what their fuse counts

-- the fuse did no more than to take the call
pub record IsSpent (f g : Fuse) : Type 0 where
  pub left : g.calls_left ≡ spent f.calls_left
  pub refusals : g.refusals ≡ f.refusals
  pub lacks : g.lacks ≡ f.lacks
  pub reads : g.unreadable ≡ f.unreadable

-- and refused it
pub record IsRefusedBy (f g : Fuse) : Type 0 where
  pub left : g.calls_left ≡ spent f.calls_left
  pub refusals : g.refusals ≡ min (f.refusals + 1) (2 ^ 64 - 1)
  pub lacks : g.lacks ≡ f.lacks
  pub reads : g.unreadable ≡ f.unreadable

pub refused_by : (f g h : Fuse) → IsSpent f g → h.calls_left ≡ g.calls_left → h.refusals ≡ min (g.refusals + 1) (2 ^ 64 - 1) → h.lacks ≡ g.lacks → h.unreadable ≡ g.unreadable → IsRefusedBy f h
refused_by f g h spend left refusals lacks reads = record {
  left = left ∙ spend.left;
  refusals = refusals ∙ ap (λ n. min (n + 1) (2 ^ 64 - 1)) spend.refusals;
  lacks = lacks ∙ spend.lacks;
  reads = reads ∙ spend.reads;
}

spent_on : (f g h : Fuse) → IsSpent f g → h.calls_left ≡ g.calls_left → h.refusals ≡ g.refusals → h.lacks ≡ g.lacks → h.unreadable ≡ g.unreadable → IsSpent f h
spent_on f g h spend left refusals lacks reads = record { left = left ∙ spend.left; refusals = refusals ∙ spend.refusals; lacks = lacks ∙ spend.lacks; reads = reads ∙ spend.reads }

pub read_alike : (f g : Fuse) → g.unreadable ≡ f.unreadable → texts_of g.unreadable.items ≡ texts_of f.unreadable.items
read_alike f g is = ap (λ (v : Vec (String Global) Global). texts_of v.items) is

-- a call counted by nothing else is one that the fuse lets through
pub not_blown : {A : Type 0} (b : Bool) → (A → IsTrue b) → b ≡ false → A → ⊥
not_blown b told is a = let yes = told a in absurd cc

lacks_alike : (w : Bool) (a b : ℕ) → a ≡ b → a ≡ (if w then b else b)
lacks_alike true a b is = is
lacks_alike false a b is = is

pub refused_cause : {T : Type 0} (w : Bool) (absent cramped : Type 0) (f g : Fuse) (e : IoFault) → e ≡ Refused → IsRefusedBy f g → IsCausedCall {T = T} w absent cramped (meter_of f) (meter_of g) (Err e)
refused_cause {T = T} w absent cramped f g e is by = subst (λ x. IsCausedCall {T = T} w absent cramped (meter_of f) (meter_of g) (Err x)) (sym is) (record {
  refused = by.refusals;
  lacks = lacks_alike w g.lacks f.lacks by.lacks;
  missing = λ x. refl;
  lacking = λ x. refl;
  not_found = λ x. absurd cc;
  no_space = λ x. absurd cc;
  reads = read_alike f g by.reads;
})

pub refused_call : {T : Type 0} (barred : Type 0) (f g : Fuse) (e : IoFault) → e ≡ Refused → IsRefusedBy f g → (f.calls_left ≡ Some 0) ⊎ barred → IsOneCall {T = T} barred (meter_of f) (meter_of g) (Err e)
refused_call {T = T} barred f g e is by why = subst (λ x. IsOneCall {T = T} barred (meter_of f) (meter_of g) (Err x)) (sym is) (record {
  left = by.left;
  blown = λ x. refl;
  stopped = λ x. refl;
  why = λ x. reason why;
  faulty = refl;
})
  where
    reason : (f.calls_left ≡ Some 0) ⊎ barred → (f.calls_left ≡ Some 0) ⊎ (IsTrue false ⊎ barred)
    reason (inl blown) = inl blown
    reason (inr there) = inr (inr there)

-- what is named isn't there
pub missing_cause : {T : Type 0} (w : Bool) (absent cramped : Type 0) (f g : Fuse) → IsSpent f g → absent → IsCausedCall {T = T} w absent cramped (meter_of f) (meter_of g) (Err NotFound)
missing_cause w absent cramped f g spend there = record {
  refused = spend.refusals;
  lacks = lacks_alike w g.lacks f.lacks spend.lacks;
  missing = λ x. refl;
  lacking = λ x. refl;
  not_found = λ x. there;
  no_space = λ x. absurd cc;
  reads = read_alike f g spend.reads;
}

-- memory was missing
is_memory : {T : Type 0} (r : Result T IoFault) → IsErrAnd r (λ x. x ≡ Memory) → r ≡ Err Memory
is_memory r is = let p = err_from_is_err_and r is in p.1 ∙ ap Err p.2

pub memory_cause : {T : Type 0} (w : Bool) (absent cramped : Type 0) (f g : Fuse) (r : Result T IoFault) → IsErrAnd r (λ x. x ≡ Memory) → IsSpent f g → IsCausedCall w absent cramped (meter_of f) (meter_of g) r
memory_cause w absent cramped f g r is spend = subst (λ x. IsCausedCall w absent cramped (meter_of f) (meter_of g) x) (sym (is_memory r is)) (record {
  refused = spend.refusals;
  lacks = lacks_alike w g.lacks f.lacks spend.lacks;
  missing = λ x. refl;
  lacking = λ x. refl;
  not_found = λ x. absurd cc;
  no_space = λ x. absurd cc;
  reads = read_alike f g spend.reads;
})

-- a call that was not refused, and whose end needs no bar
pub one_call : {T : Type 0} (barred : Type 0) (f g : Fuse) (r : Result T IoFault) → IsSpent f g → (f.calls_left ≡ Some 0 → ⊥) → (IsErrOf r Refused → ⊥) → (barred → IsErr r) → IsOneCall barred (meter_of f) (meter_of g) r
one_call barred f g r spend sound other stopped = record {
  left = spend.left;
  blown = λ x. absurd (sound x);
  stopped = stopped;
  why = λ x. absurd (other x);
  faulty = refl;
}

pub memory_call : {T : Type 0} (barred : Type 0) (f g : Fuse) (r : Result T IoFault) → IsErrAnd r (λ x. x ≡ Memory) → IsSpent f g → (f.calls_left ≡ Some 0 → ⊥) → IsOneCall barred (meter_of f) (meter_of g) r
memory_call barred f g r is spend sound = subst (λ x. IsOneCall barred (meter_of f) (meter_of g) x) (sym (is_memory r is)) (one_call barred f g (Err Memory) spend sound (λ x. absurd cc) (λ x. refl))

-- and one that was taken
pub call_cause : {T : Type 0} (w : Bool) (absent cramped : Type 0) (f g : Fuse) (x : T) → IsSpent f g → (absent → ⊥) → (cramped → ⊥) → IsCausedCall w absent cramped (meter_of f) (meter_of g) (Ok x)
call_cause w absent cramped f g x spend there roomy = taken_cause w absent cramped (meter_of f) (meter_of g) x spend.refusals spend.lacks (read_alike f g spend.reads) there roomy

-- ---- a file that isn't there: a call that was refused stays so

pub absent_cause : {T : Type 0} (w : Bool) (absent cramped : Type 0) (b : Bool) (f g h : Fuse) (e : IoFault) → e ≡ (if b then Refused else NotFound) → IsSpent f g → h.calls_left ≡ g.calls_left → h.refusals ≡ (if b then min (g.refusals + 1) (2 ^ 64 - 1) else g.refusals) → h.lacks ≡ g.lacks → h.unreadable ≡ g.unreadable
    → absent → IsCausedCall {T = T} w absent cramped (meter_of f) (meter_of h) (Err e)
absent_cause {T = T} w absent cramped true f g h e is spend left refusals lacks reads there = refused_cause w absent cramped f h e is (refused_by f g h spend left refusals lacks reads)
absent_cause {T = T} w absent cramped false f g h e is spend left refusals lacks reads there =
    subst (λ x. IsCausedCall {T = T} w absent cramped (meter_of f) (meter_of h) (Err x)) (sym is) (missing_cause w absent cramped f h (spent_on f g h spend left refusals lacks reads) there)

pub absent_call : {T : Type 0} (barred : Type 0) (b : Bool) (f g h : Fuse) (e : IoFault) → e ≡ (if b then Refused else NotFound) → IsSpent f g → h.calls_left ≡ g.calls_left → (f.calls_left ≡ Some 0 → IsTrue b) → (IsTrue b → f.calls_left ≡ Some 0)
    → IsOneCall {T = T} barred (meter_of f) (meter_of h) (Err e)
absent_call {T = T} barred true f g h e is spend left blown only = subst (λ x. IsOneCall {T = T} barred (meter_of f) (meter_of h) (Err x)) (sym is) (record {
  left = left ∙ spend.left;
  blown = λ x. refl;
  stopped = λ x. refl;
  why = λ x. inl (only refl);
  faulty = refl;
})
absent_call {T = T} barred false f g h e is spend left blown only = subst (λ x. IsOneCall {T = T} barred (meter_of f) (meter_of h) (Err x)) (sym is) (record {
  left = left ∙ spend.left;
  blown = λ x. absurd (not_blown false blown refl x);
  stopped = λ x. refl;
  why = λ x. absurd cc;
  faulty = refl;
})

-- ---- a note of a refused call: where it found no memory, the file is as before

pub noted_or_kept : {T E : Type 0} (r : Result T E) (A B X Y : Type 0) → (B → X) → (A → Y) → OnOk r A → OnErr r B → X ⊎ Y
noted_or_kept (Ok x) A B X Y kept noted ok err = inr (noted ok)
noted_or_kept (Err e) A B X Y kept noted ok err = inl (kept err)

-- a call that found no room
pub cramped_call : {T : Type 0} (barred : Type 0) (f g h : Fuse) (e : IoFault) → e ≡ NoSpace → IsSpent f g → h.calls_left ≡ g.calls_left → (f.calls_left ≡ Some 0 → ⊥) → IsOneCall {T = T} barred (meter_of f) (meter_of h) (Err e)
cramped_call {T = T} barred f g h e is spend left sound = subst (λ x. IsOneCall {T = T} barred (meter_of f) (meter_of h) (Err x)) (sym is) (record {
  left = left ∙ spend.left;
  blown = λ x. absurd (sound x);
  stopped = λ x. refl;
  why = λ x. absurd cc;
  faulty = refl;
})
