-- A call that was taken whole is one of the outcomes of a refused one.
use Rattle.std.proofs.Common.{◌≡◌, ℕ, zero, suc, ◌+◌, ◌-◌, ◌<◌, ◌≤◌, min, max, replicate, List, [], ◌∷◌, ◌++◌, length, get_or, take, drop, sym, ap, ◌∙◌, arith, append_assoc}
use Rattle.std.proofs.lemmas.List.{length-drop, length-append, length-take-le, length-take, length-replicate, take_at, drop_at}
use Rattle.raft_log_disk.specs.Disk.{Disk, AreBytes, Torn, RefusedWrite, RefusedTruncate, RefusedAllocate, put, resized, filled, with_file, after_write, after_truncate, after_allocate}

bytes_taken : (n : ℕ) (xs : List ℕ) → AreBytes xs → AreBytes (take n xs)
bytes_taken zero xs h = tt
bytes_taken (suc n) [] h = tt
bytes_taken (suc n) (x ∷ xs) h = (h.0, bytes_taken n xs h.1)

bytes_dropped : (n : ℕ) (xs : List ℕ) → AreBytes xs → AreBytes (drop n xs)
bytes_dropped zero xs h = h
bytes_dropped (suc n) [] h = tt
bytes_dropped (suc n) (x ∷ xs) h = bytes_dropped n xs h.1

bytes_joined : (xs ys : List ℕ) → AreBytes xs → AreBytes ys → AreBytes (xs ++ ys)
bytes_joined [] ys h k = k
bytes_joined (x ∷ xs) ys h k = (h.0, bytes_joined xs ys h.1 k)

pub bytes_by_each : (xs : List ℕ) → ((i : ℕ) → i < length xs → get_or xs i 0 < 256) → AreBytes xs
bytes_by_each [] h = tt
bytes_by_each (x ∷ xs) h = (h 0 (omega arith), bytes_by_each xs (λ i lt. h (suc i) (omega (arith, lt))))

long_put : (old new : List ℕ) (at : ℕ) → at ≤ length old → length (put old at new) ≡ max (length old) (at + length new)
long_put old new at le =
    let front = length-append (take at old) new in
    let taken = length-take-le at old le in
    let whole = length-append (take at old ++ new) (drop (at + length new) old) in
    let back = length-drop (at + length new) old in
    omega (arith, front, taken, whole, back)

whole_put : (old new : List ℕ) (at : ℕ) → at ≤ length old → AreBytes new → Torn at (at + length new) old (put old at new)
whole_put old new at le fits =
    let long = long_put old new at le in
    record {
      before =
          ap (λ (l : List ℕ). take at l) (append_assoc (take at old) new (drop (at + length new) old))
          ∙ take_at (take at old) (new ++ drop (at + length new) old) at (length-take-le at old le);
      after = drop_at (take at old ++ new) (drop (at + length new) old) (at + length new) (omega (arith, length-append (take at old) new, length-take-le at old le));
      no_shorter = omega (arith, long);
      no_longer = omega (arith, long);
      fits = λ h. bytes_joined _ _ (bytes_joined _ _ (bytes_taken at old h) fits) (bytes_dropped (at + length new) old h);
    }

pub taken_whole : (old new : Disk) (fd at : ℕ) (bytes : List ℕ) → at ≤ length (old.file fd).bytes → AreBytes bytes
    → new ≡ with_file old fd (after_write (old.file fd) at bytes (put (old.file fd).bytes at bytes)) → RefusedWrite old new fd at bytes
taken_whole old new fd at bytes le fits is = record {
  seen = put (old.file fd).bytes at bytes;
  torn = whole_put (old.file fd).bytes bytes at le fits;
  files = is;
}

abbrev zero_byte : ℕ
zero_byte = 0

abbrev zeros_of : ℕ → List ℕ
zeros_of n = replicate n 0

pub cut_whole : (old new : Disk) (fd len : ℕ) → new ≡ with_file old fd (after_truncate (old.file fd) len (resized (old.file fd).bytes len)) → RefusedTruncate old new fd len
cut_whole old new fd len is = record {
  seen = resized (old.file fd).bytes len;
  part = record {
    no_shorter = omega (arith, long);
    no_longer = omega (arith, long);
    front = ap (λ n. resized (old.file fd).bytes n) (sym long);
  };
  files = is;
}
  where
    zeros : length (zeros_of (len - length (old.file fd).bytes)) ≡ len - length (old.file fd).bytes
    zeros = length-replicate (len - length (old.file fd).bytes) (zero_byte)

    taken : length (take len (old.file fd).bytes) ≡ min len (length (old.file fd).bytes)
    taken = length-take len (old.file fd).bytes

    long : length (resized (old.file fd).bytes len) ≡ len
    long = length-append (take len (old.file fd).bytes) (replicate (len - length (old.file fd).bytes) 0) ∙ omega (arith, taken, zeros)

pub filled_whole : (old new : Disk) (fd at len : ℕ) → new ≡ with_file old fd (after_allocate (old.file fd) at len (filled (old.file fd).bytes (at + len)))
    → RefusedAllocate old new fd at len
filled_whole old new fd at len is = record {
  seen = filled (old.file fd).bytes (at + len);
  part = record {
    no_shorter = omega (arith, long);
    no_longer = omega (arith, long);
    front = ap (λ n. (old.file fd).bytes ++ zeros_of n) (omega (arith, long));
  };
  files = is;
}
  where
    zeros : length (zeros_of (at + len - length (old.file fd).bytes)) ≡ at + len - length (old.file fd).bytes
    zeros = length-replicate (at + len - length (old.file fd).bytes) (zero_byte)

    long : length (filled (old.file fd).bytes (at + len)) ≡ length (old.file fd).bytes + (at + len - length (old.file fd).bytes)
    long = length-append (old.file fd).bytes (replicate (at + len - length (old.file fd).bytes) 0) ∙ omega (arith, zeros)
