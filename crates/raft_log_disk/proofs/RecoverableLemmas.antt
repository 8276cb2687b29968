-- What reads see and what was synced are images of a file, through all calls.
use Rattle.std.proofs.Common.{◌≡◌, ◌⊎◌, inl, inr, ℕ, zero, suc, ◌+◌, ◌-◌, ◌<◌, ◌≤◌, min, max, List, [], ◌∷◌, ◌++◌, length, get_or, take, drop, replicate, refl, sym, ap, subst, ◌∙◌, arith, length-append}
use Rattle.std.specs.List.{AllByRecursion}
use Rattle.std.proofs.lemmas.List.{take_all, length-take, length-take-le, length-drop, length-replicate, take-take, get_or-take}
use Rattle.std.proofs.lemmas.Grind.{elements}
use Rattle.raft_log_disk.specs.Disk.{FileState, AreBytes, put, resized, filled, after_write, after_truncate, after_allocate, renamed}
use Rattle.raft_log_disk.specs.Image.{IsOutside, IsFileImage, IsRecoverable}

-- ---- bytes

pub bytes_taken : (n : ℕ) (xs : List ℕ) → AreBytes xs → AreBytes (take n xs)
bytes_taken zero xs h = tt
bytes_taken (suc n) [] h = tt
bytes_taken (suc n) (x ∷ xs) h = (h.0, bytes_taken n xs h.1)

pub bytes_dropped : (n : ℕ) (xs : List ℕ) → AreBytes xs → AreBytes (drop n xs)
bytes_dropped zero xs h = h
bytes_dropped (suc n) [] h = tt
bytes_dropped (suc n) (x ∷ xs) h = bytes_dropped n xs h.1

bytes_joined : (xs ys : List ℕ) → AreBytes xs → AreBytes ys → AreBytes (xs ++ ys)
bytes_joined [] ys h k = k
bytes_joined (x ∷ xs) ys h k = (h.0, bytes_joined xs ys h.1 k)

zeros_are_bytes : (n : ℕ) → AreBytes (replicate n 0)
zeros_are_bytes zero = tt
zeros_are_bytes (suc n) = (omega arith, zeros_are_bytes n)

-- bytes that fit one by one
pub bytes_by_each : (xs : List ℕ) → ((i : ℕ) → i < length xs → get_or xs i 0 < 256) → AreBytes xs
bytes_by_each [] h = tt
bytes_by_each (x ∷ xs) h = (h 0 (omega arith), bytes_by_each xs (λ i lt. h (suc i) (omega (arith, lt))))

-- ---- ranges

front_outside : (i : ℕ) (rs : List (ℕ × ℕ)) (r : ℕ × ℕ) → IsOutside i (rs ++ r ∷ []) → IsOutside i rs
front_outside i [] r h = tt
front_outside i (s ∷ rs) r h = (h.0, front_outside i rs r h.1)

last_outside : (i : ℕ) (rs : List (ℕ × ℕ)) (r : ℕ × ℕ) → IsOutside i (rs ++ r ∷ []) → (i < r.0) ⊎ (r.1 ≤ i)
last_outside i [] r h = h.0
last_outside i (s ∷ rs) r h = last_outside i rs r h.1

-- ---- a file all of whose bytes are on the disk

pub whole_is_recoverable : (f : FileState) → f.kept ≡ f.bytes → f.least ≡ length f.bytes → f.greatest ≡ length f.bytes → AreBytes f.bytes → IsRecoverable f
whole_is_recoverable f kept least greatest fits =
    let seen : IsFileImage f f.bytes = record {
      no_shorter = omega (arith, least);
      no_longer = omega (arith, greatest);
      fits = fits;
      same = λ i lt out. ap (λ l. get_or l i 0) (sym kept);
    } in
    record {
      seen = seen;
      synced = subst (IsFileImage f) (sym ((λ i. take (least i) (kept i)) ∙ take_all (length f.bytes) f.bytes (omega arith))) seen;
    }

-- ---- a change of a range

-- the bytes after a change of a range agree with those before around it
pub record AgreeAround (from to : ℕ) (old new : List ℕ) : Type 0 where
  pub same : (i : ℕ) → i < length new → (i < from) ⊎ (to ≤ i) → get_or new i 0 ≡ get_or old i 0
  pub within : (i : ℕ) → i < length new → (i < from) ⊎ (to ≤ i) → i < length old

pub changed_is_recoverable : (f g : FileState) (from to : ℕ) → IsRecoverable f → g.kept ≡ f.kept → g.changed ≡ f.changed ++ (from, to) ∷ []
    → g.least ≤ f.least → g.least ≤ length g.bytes → length g.bytes ≤ g.greatest → AreBytes g.bytes → AgreeAround from to f.bytes g.bytes → IsRecoverable g
changed_is_recoverable f g from to r kept changed fell no_shorter no_longer fits around =
    let taken : take g.least g.kept ≡ take g.least (take f.least f.kept) = ap (take g.least) kept ∙ sym (take-take g.least f.least f.kept fell) in
    let long : length (take g.least (take f.least f.kept)) ≡ g.least = length-take-le g.least (take f.least f.kept) (omega (arith, fell, r.synced.no_shorter)) in
    record {
      seen = record {
        no_shorter = no_shorter;
        no_longer = no_longer;
        fits = fits;
        same = λ i lt out.
            let split = subst (IsOutside i) changed out in
            around.same i lt (last_outside i f.changed (from, to) split)
            ∙ r.seen.same i (around.within i lt (last_outside i f.changed (from, to) split)) (front_outside i f.changed (from, to) split)
            ∙ ap (λ l. get_or l i 0) (sym kept);
      };
      synced = subst (IsFileImage g) (sym taken) (record {
        no_shorter = omega (arith, long);
        no_longer = omega (arith, long, no_shorter, no_longer);
        fits = bytes_taken g.least (take f.least f.kept) r.synced.fits;
        same = λ i lt out.
            get_or-take g.least (take f.least f.kept) i 0 (omega (arith, lt, long))
            ∙ get_or-take f.least f.kept i 0 (omega (arith, lt, long, fell))
            ∙ ap (λ l. get_or l i 0) (sym kept);
      });
    }

-- ---- calls

length_put : (old bytes : List ℕ) (at : ℕ) → at ≤ length old → length (put old at bytes) ≡ max (length old) (at + length bytes)
length_put old bytes at le =
    length-append (take at old ++ bytes) (drop (at + length bytes) old)
    ∙ (λ i. length-append (take at old) bytes i + length-drop (at + length bytes) old i)
    ∙ ap (λ n. n + length bytes + (length old - (at + length bytes))) (length-take-le at old le)
    ∙ omega (arith, le)

length_resized : (old : List ℕ) (len : ℕ) → length (resized old len) ≡ len
length_resized old len =
    length-append (take len old) (replicate (len - length old) 0)
    ∙ (λ i. length-take len old i + length-replicate {A = ℕ} (len - length old) 0 i)
    ∙ omega arith

length_filled : (old : List ℕ) (to : ℕ) → length (filled old to) ≡ max (length old) to
length_filled old to = length-append old (replicate (to - length old) 0) ∙ ap (λ n. length old + n) (length-replicate {A = ℕ} (to - length old) 0) ∙ omega arith

put_around : (old bytes : List ℕ) (at : ℕ) → at ≤ length old → AgreeAround at (at + length bytes) old (put old at bytes)
put_around old bytes at le = record {
  same = λ i lt out. around i lt out;
  within = λ i lt out. inside i lt out;
}
  where
    long : length (put old at bytes) ≡ max (length old) (at + length bytes)
    long = length_put old bytes at le

    inside : (i : ℕ) → i < length (put old at bytes) → (i < at) ⊎ (at + length bytes ≤ i) → i < length old
    inside i lt (inl b) = omega (arith, b, le)
    inside i lt (inr a) = omega (arith, a, lt, long)

    around : (i : ℕ) → i < length (put old at bytes) → (i < at) ⊎ (at + length bytes ≤ i) → get_or (put old at bytes) i 0 ≡ get_or old i 0
    around i lt (inl b) = grind (arith, elements)
    around i lt (inr a) = grind (arith, elements)

pub written_is_recoverable : (f : FileState) (at : ℕ) (bytes : List ℕ) → at ≤ length f.bytes → AreBytes bytes → IsRecoverable f → IsRecoverable (after_write f at bytes (put f.bytes at bytes))
written_is_recoverable f at bytes le fits r =
    changed_is_recoverable f (after_write f at bytes (put f.bytes at bytes)) at (at + length bytes) r refl refl (omega arith)
    (omega (arith, long, r.seen.no_shorter)) (omega (arith, long, r.seen.no_longer))
    (bytes_joined (take at f.bytes ++ bytes) (drop (at + length bytes) f.bytes) (bytes_joined (take at f.bytes) bytes (bytes_taken at f.bytes r.seen.fits) fits) (bytes_dropped (at + length bytes) f.bytes r.seen.fits))
    (put_around f.bytes bytes at le)
  where
    long : length (put f.bytes at bytes) ≡ max (length f.bytes) (at + length bytes)
    long = length_put f.bytes bytes at le

same_around : (from to : ℕ) (old : List ℕ) → AgreeAround from to old old
same_around from to old = record { same = λ i lt out. refl; within = λ i lt out. lt }

pub refused_write_is_recoverable : (f : FileState) (at : ℕ) (bytes : List ℕ) → IsRecoverable f → IsRecoverable (after_write f at bytes f.bytes)
refused_write_is_recoverable f at bytes r =
    changed_is_recoverable f (after_write f at bytes f.bytes) at (at + length bytes) r refl refl (omega arith) r.seen.no_shorter (omega (arith, r.seen.no_longer)) r.seen.fits (same_around at (at + length bytes) f.bytes)

resized_around : (old : List ℕ) (len : ℕ) → AgreeAround (min len (length old)) (max len (length old)) old (resized old len)
resized_around old len = record {
  same = λ i lt out. around i lt out;
  within = λ i lt out. inside i lt out;
}
  where
    long : length (resized old len) ≡ len
    long = length_resized old len

    inside : (i : ℕ) → i < length (resized old len) → (i < min len (length old)) ⊎ (max len (length old) ≤ i) → i < length old
    inside i lt (inl b) = omega (arith, b)
    inside i lt (inr a) = omega (arith, a, lt, long)

    around : (i : ℕ) → i < length (resized old len) → (i < min len (length old)) ⊎ (max len (length old) ≤ i) → get_or (resized old len) i 0 ≡ get_or old i 0
    around i lt (inl b) = grind (arith, elements)
    around i lt (inr a) = omega (arith, a, lt, long)

pub truncated_is_recoverable : (f : FileState) (len : ℕ) → IsRecoverable f → IsRecoverable (after_truncate f len (resized f.bytes len))
truncated_is_recoverable f len r =
    changed_is_recoverable f (after_truncate f len (resized f.bytes len)) (min len (length f.bytes)) (max len (length f.bytes)) r refl refl (omega arith)
    (omega (arith, long)) (omega (arith, long))
    (bytes_joined (take len f.bytes) (replicate (len - length f.bytes) 0) (bytes_taken len f.bytes r.seen.fits) (zeros_are_bytes (len - length f.bytes)))
    (resized_around f.bytes len)
  where
    long : length (resized f.bytes len) ≡ len
    long = length_resized f.bytes len

pub refused_truncate_is_recoverable : (f : FileState) (len : ℕ) → IsRecoverable f → IsRecoverable (after_truncate f len f.bytes)
refused_truncate_is_recoverable f len r =
    changed_is_recoverable f (after_truncate f len f.bytes) (min len (length f.bytes)) (max len (length f.bytes)) r refl refl (omega arith)
    (omega (arith, r.seen.no_shorter)) (omega (arith, r.seen.no_longer)) r.seen.fits (same_around (min len (length f.bytes)) (max len (length f.bytes)) f.bytes)

filled_around : (old : List ℕ) (at len : ℕ) → at ≤ length old → AgreeAround at (at + len) old (filled old (at + len))
filled_around old at len le = record {
  same = λ i lt out. around i lt out;
  within = λ i lt out. inside i lt out;
}
  where
    long : length (filled old (at + len)) ≡ max (length old) (at + len)
    long = length_filled old (at + len)

    inside : (i : ℕ) → i < length (filled old (at + len)) → (i < at) ⊎ (at + len ≤ i) → i < length old
    inside i lt (inl b) = omega (arith, b, le)
    inside i lt (inr a) = omega (arith, a, lt, long)

    around : (i : ℕ) → i < length (filled old (at + len)) → (i < at) ⊎ (at + len ≤ i) → get_or (filled old (at + len)) i 0 ≡ get_or old i 0
    around i lt out = let within = inside i lt out in grind (arith, elements)

pub allocated_is_recoverable : (f : FileState) (at len : ℕ) → at ≤ length f.bytes → IsRecoverable f → IsRecoverable (after_allocate f at len (filled f.bytes (at + len)))
allocated_is_recoverable f at len le r =
    changed_is_recoverable f (after_allocate f at len (filled f.bytes (at + len))) at (at + len) r refl refl (omega arith)
    (omega (arith, long, r.seen.no_shorter)) (omega (arith, long, r.seen.no_longer))
    (bytes_joined f.bytes (replicate (at + len - length f.bytes) 0) r.seen.fits (zeros_are_bytes (at + len - length f.bytes)))
    (filled_around f.bytes at len le)
  where
    long : length (filled f.bytes (at + len)) ≡ max (length f.bytes) (at + len)
    long = length_filled f.bytes (at + len)

pub refused_allocate_is_recoverable : (f : FileState) (at len : ℕ) → IsRecoverable f → IsRecoverable (after_allocate f at len f.bytes)
refused_allocate_is_recoverable f at len r =
    changed_is_recoverable f (after_allocate f at len f.bytes) at (at + len) r refl refl (omega arith) r.seen.no_shorter (omega (arith, r.seen.no_longer)) r.seen.fits (same_around at (at + len) f.bytes)

pub renamed_is_recoverable : (f : FileState) → IsRecoverable f → IsRecoverable (renamed f)
renamed_is_recoverable f r = record {
  seen = record { no_shorter = r.seen.no_shorter; no_longer = r.seen.no_longer; fits = r.seen.fits; same = r.seen.same };
  synced = record { no_shorter = r.synced.no_shorter; no_longer = r.synced.no_longer; fits = r.synced.fits; same = r.synced.same };
}
