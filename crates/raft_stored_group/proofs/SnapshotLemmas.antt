-- A list is taken from two lists that follow one another.
use Rattle.std.proofs.Common.{◌≡◌, None, ℕ, zero, suc, ◌+◌, ◌-◌, List, [], ◌∷◌, ◌++◌, take, drop, length, refl, ap, arith}
use Rattle.raft_values.specs.declared.log_id.LogId.{LogId}
use Rattle.raft_group_step.specs.Values.{Entry, last_membership}
use Rattle.raft_group_step.specs.StoredGroup.{StoredGroup, first_place, prefix_of}
use Rattle.raft_group_step.specs.SnapshotTrigger.{snapshot_at}

-- the first entries of two lists: those of the first, and then as many of the second as are left
pub taken_from_two : (n : ℕ) (xs ys : List Entry) → take n xs ++ take (n - length (take n xs)) ys ≡ take n (xs ++ ys)
taken_from_two zero xs ys = refl
taken_from_two (suc n) [] ys =
    let all : suc n - 0 ≡ suc n = omega arith in
    rw all
taken_from_two (suc n) (x ∷ xs) ys =
    let fewer : suc n - suc (length (take n xs)) ≡ n - length (take n xs) = omega arith in
    rw fewer (ap (λ es. x ∷ es) (taken_from_two n xs ys))

-- what is copied from the snapshot and then from the log is what a snapshot at this log id has
pub snapshot_made : (s : StoredGroup) (id : LogId ℕ) (start rest none one two : List Entry)
    → start ≡ prefix_of s.snapshot → rest ≡ drop (length start - first_place s) s.log → none ≡ []
    → one ≡ none ++ take (id.index + 1 - length none) start → two ≡ one ++ take (id.index + 1 - length one) rest
    → record { last = id; membership = last_membership None two; «prefix» = two } ≡ snapshot_at s id
snapshot_made s id start rest none one two is_start is_rest is_none is_one is_two =
    let all : id.index + 1 - 0 ≡ id.index + 1 = omega arith in
    let one_is : one ≡ take (id.index + 1) start = cc (all, is_one, is_none) in
    let two_is : two ≡ take (id.index + 1) (start ++ rest) = rw (is_two, one_is) (taken_from_two (id.index + 1) start rest) in
    rw (two_is, is_rest, is_start)
