-- Parts that are put one after the other.
use Rattle.std.proofs.Common.{ℕ, zero, suc, ◌+◌, ◌<◌, ◌≤◌, List, [], ◌∷◌, length, get_or, take, ap, arith, length-append}
use Rattle.std.specs.Prelude.{Vec}
use Rattle.std.specs.declared.alloc.Global.{Global}
use Rattle.std.proofs.lemmas.List.Concat.{flat_map-cons}
use Rattle.raft_log_records.specs.Batch.{payloads, joined}

-- a part is no longer than what it and those before it and behind it are together
pub part_within : (xs : List (Vec ℕ Global)) (i : ℕ) (d : Vec ℕ Global) → i < length xs → length (joined (payloads (take i xs))) + length (get_or xs i d).items ≤ length (joined (payloads xs))
part_within [] i d h = absurd (omega arith)
part_within (x ∷ xs) zero d h = omega (arith, ap length (flat_map-cons (λ (bytes : List ℕ). bytes) x.items (payloads xs)), length-append x.items (joined (payloads xs)))
part_within (x ∷ xs) (suc i) d h =
    let rest = part_within xs i d (omega arith) in
    omega (
      arith,
      ap length (flat_map-cons (λ (bytes : List ℕ). bytes) x.items (payloads xs)),
      length-append x.items (joined (payloads xs)),
      ap length (flat_map-cons (λ (bytes : List ℕ). bytes) x.items (payloads (take i xs))),
      length-append x.items (joined (payloads (take i xs))),
    )
