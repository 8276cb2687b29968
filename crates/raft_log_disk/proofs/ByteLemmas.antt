-- Bytes written over others.
use Rattle.std.proofs.Common.{◌≡◌, ◌⊎◌, inl, inr, ℕ, ◌+◌, ◌-◌, ◌≤◌, min, max, List, [], ◌++◌, length, take, drop, refl, sym, ap, ◌∙◌, arith, append_assoc}
use Rattle.std.proofs.lemmas.List.{take-append-drop, append-nil, length-drop, length-append, length-take-le, take_all, take_at, drop_at, drop-drop}
use Rattle.std.proofs.Math.Seq.{take-append_seam, take-length}
use Rattle.raft_log_disk.specs.Disk.{put, resized, filled}
use Rattle.std.specs.Prelude.{replicate}
use Rattle.std.specs.List.{slice_range}

least_of : (a b c : ℕ) → c ≡ min a b → ((c ≡ a) × (a ≤ b)) ⊎ ((c ≡ b) × (b ≤ a))
least_of a b c e = grind arith

-- ---- what was replaced, put back

front_put : (old new : List ℕ) (at : ℕ) → at ≤ length old → take at (put old at new) ≡ take at old
front_put old new at le =
    ap (λ (l : List ℕ). take at l) (append_assoc (take at old) new (drop (at + length new) old))
    ∙ take_at (take at old) (new ++ drop (at + length new) old) at (length-take-le at old le)

back_put : (old new : List ℕ) (at end : ℕ) → at ≤ length old → end ≡ at + length new → drop end (put old at new) ≡ drop end old
back_put old new at end le is =
    drop_at (take at old ++ new) (drop (at + length new) old) end (omega (arith, is, length-append (take at old) new, length-take-le at old le))
    ∙ ap (λ n. drop n old) (sym is)

back_within : (old new replaced : List ℕ) (at : ℕ) → at + length new ≤ length old → replaced ≡ take (length new) (drop at old) → take (length old) (put (put old at new) at replaced) ≡ old
back_within old new replaced at fits is =
    let le : at ≤ length old = omega arith in
    let long : length replaced ≡ length new = ap length is ∙ length-take-le (length new) (drop at old) (omega (arith, length-drop at old)) in
    let whole : put (put old at new) at replaced ≡ old =
    (λ i. (front_put old new at le i ++ is i) ++ back_put old new at (at + length replaced) le (ap (λ n. at + n) long) i)
    ∙ ap (λ (l : List ℕ). (take at old ++ take (length new) (drop at old)) ++ l) (ap (λ n. drop (at + n) old) long ∙ sym (drop-drop (length new) at old))
    ∙ append_assoc (take at old) (take (length new) (drop at old)) (drop (length new) (drop at old))
    ∙ ap (λ (l : List ℕ). take at old ++ l) (take-append-drop (length new) (drop at old))
    ∙ take-append-drop at old in
    ap (λ (l : List ℕ). take (length old) l) whole ∙ take-length old

back_beyond : (old new replaced : List ℕ) (at : ℕ) → at ≤ length old → replaced ≡ drop at old → take (length old) (put (put old at new) at replaced) ≡ old
back_beyond old new replaced at le is =
    ap (λ (l : List ℕ). take (length old) (l ++ drop (at + length replaced) (put old at new)))
    ((λ i. front_put old new at le i ++ is i) ∙ take-append-drop at old)
    ∙ take-append_seam old (drop (at + length replaced) (put old at new))

-- the bytes before a write, by what it replaced
pub put_back : (old new replaced : List ℕ) (at to len : ℕ) → at ≤ length old → len ≡ length old → to ≡ at + length new → replaced ≡ slice_range old at (min to len) → take len (put (put old at new) at replaced) ≡ old
put_back old new replaced at to len le is end was =
    ap (λ n. take n (put (put old at new) at replaced)) is
    ∙ elim (least_of to len (min to len) refl) [
      | inl w ↦ back_within old new replaced at (omega arith) (was ∙ ap (λ n. take n (drop at old)) (omega arith))
      | inr w ↦ back_beyond old new replaced at le (was ∙ take_all (min to len - at) (drop at old) (omega (arith, length-drop at old)))
    ]

-- and before a change that left the bytes as they were, or only added some
pub nothing_back : (old more : List ℕ) (from len : ℕ) → len ≡ length old → take len (put (old ++ more) from []) ≡ old
nothing_back old more from len is =
    ap (λ n. take n (put (old ++ more) from [])) is
    ∙ ap (λ (l : List ℕ). take (length old) (l ++ drop (from + 0) (old ++ more))) (append-nil (take from (old ++ more)))
    ∙ ap (λ n. take (length old) (take from (old ++ more) ++ drop n (old ++ more))) (omega arith)
    ∙ ap (λ (l : List ℕ). take (length old) l) (take-append-drop from (old ++ more))
    ∙ take-append_seam old more

pub nothing_put : (bytes replaced : List ℕ) (from len : ℕ) → replaced ≡ [] → len ≡ length bytes → take len (put bytes from replaced) ≡ bytes
nothing_put bytes replaced from len none is =
    ap (λ (l : List ℕ). take len (put l from replaced)) (sym (append-nil bytes)) ∙ ap (λ (l : List ℕ). take len (put (bytes ++ []) from l)) none ∙ nothing_back bytes [] from len is

-- ---- cuts and lengthenings

cut_put : (old rest replaced : List ℕ) (from len : ℕ) → from ≤ length old → replaced ≡ drop from old → len ≡ length old → take len (put (take from old ++ rest) from replaced) ≡ old
cut_put old rest replaced from len le is long =
    ap (λ n. take n (put (take from old ++ rest) from replaced)) long
    ∙ ap (λ (l : List ℕ). take (length old) (l ++ drop (from + length replaced) (take from old ++ rest)))
    ((λ i. take_at (take from old) rest from (length-take-le from old le) i ++ is i) ∙ take-append-drop from old)
    ∙ take-append_seam old (drop (from + length replaced) (take from old ++ rest))

pub take_least : (n : ℕ) (old : List ℕ) → take n old ≡ take (min n (length old)) old
take_least n old = elim (least_of n (length old) (min n (length old)) refl) [
  | inl w ↦ ap (λ n. take n old) (sym w.0)
  | inr w ↦ take_all n old w.1 ∙ sym (take_all (min n (length old)) old (omega (arith, w.0)))
]

-- the bytes before a cut or a lengthening, by what was cut away
pub cut_back : (old replaced : List ℕ) (len from was : ℕ) → from ≡ min len (length old) → replaced ≡ drop from old → was ≡ length old → take was (put (resized old len) from replaced) ≡ old
cut_back old replaced len from was is cut long =
    ap (λ (l : List ℕ). take was (put (l ++ replicate (len - length old) 0) from replaced)) (take_least len old ∙ ap (λ n. take n old) (sym is))
    ∙ cut_put old (replicate (len - length old) 0) replaced from was (omega arith) cut long

-- and before room was made
pub filled_back : (old replaced : List ℕ) (from to was : ℕ) → replaced ≡ [] → was ≡ length old → take was (put (filled old to) from replaced) ≡ old
filled_back old replaced from to was none long =
    ap (λ (l : List ℕ). take was (put (filled old to) from l)) none ∙ nothing_back old (replicate (to - length old) 0) from was long

pub filled_by : (old : List ℕ) (to longest : ℕ) → longest ≡ max to (length old) → resized old longest ≡ filled old to
filled_by old to longest is = (λ i. take_all longest old (omega arith) i ++ replicate (same i) 0)
  where
    same : longest - length old ≡ to - length old
    same = omega arith
