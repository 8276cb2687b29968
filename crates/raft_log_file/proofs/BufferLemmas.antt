-- The bytes of a file that a buffer holds.
use Rattle.std.proofs.Common.{◌≡◌, ◌⊎◌, inl, inr, ℕ, ◌+◌, ◌-◌, ◌<◌, ◌≤◌, min, List, length, take, drop, ap, ◌∙◌, arith, length-drop, length-take}
use Rattle.std.proofs.lemmas.List.{take-take, drop-drop, drop-take, take_all}
use Rattle.std.proofs.lemmas.Bool.{cases_lt}
use Rattle.raft_log_file.specs.Reader.{HoldsBytes, Front}

-- what is left of the buffer from the next place on
held_rest : (bytes buffer : List ℕ) (k at m : ℕ) → length buffer ≡ k + m → buffer ≡ take (length buffer) (drop at bytes) → drop k buffer ≡ take m (drop (at + k) bytes)
held_rest bytes buffer k at m long held =
    ap (drop k) (held ∙ ap (λ n. take n (drop at bytes)) long) ∙ drop-take k m (drop at bytes) ∙ ap (take m) (drop-drop k at bytes)

front_at : (need at m : ℕ) (bytes : List ℕ) → (need ≤ m) ⊎ (length (drop at bytes) ≤ m) → take need (take m (drop at bytes)) ≡ take need (drop at bytes)
front_at need at m bytes (inl short) = take-take need m (drop at bytes) short
front_at need at m bytes (inr whole) = ap (take need) (take_all m (drop at bytes) whole)

enough : (need at m size : ℕ) (bytes : List ℕ) → size ≡ length bytes → at ≤ size → at + min need (size - at) ≤ at + m → (m < need) ⊎ (need ≤ m) → (need ≤ m) ⊎ (length (drop at bytes) ≤ m)
enough need at m size bytes is valid end (inr short) = inl short
enough need at m size bytes is valid end (inl long) = inr (omega (arith, length-drop at bytes, is, valid, end, long))

pub held_front : (need : ℕ) (bytes buffer : List ℕ) (buffer_offset valid_offset size : ℕ) → HoldsBytes bytes buffer buffer_offset valid_offset size
    → valid_offset + min need (size - valid_offset) ≤ buffer_offset + length buffer → Front need bytes buffer buffer_offset valid_offset
held_front need bytes buffer b v size h end =
    let k : ℕ = v - b in
    let m : ℕ = b + length buffer - v in
    let behind : b + k ≡ v = omega (arith, h.behind) in
    let long : length buffer ≡ k + m = omega (arith, h.behind, h.valid, h.within, end) in
    let reached : v + min need (size - v) ≤ v + m = omega (arith, h.behind, h.valid, h.within, end) in
    ap (take need) (held_rest bytes buffer k b m long h.held ∙ ap (λ n. take m (drop n bytes)) behind)
    ∙ front_at need v m bytes (enough need v m size bytes h.size_is h.valid reached (cases_lt m need))

-- bytes that are read anew are held
pub front_long : (need at : ℕ) (bytes front : List ℕ) → front ≡ take need (drop at bytes) → at ≤ length bytes → at + length front ≤ length bytes
front_long need at bytes front is valid = omega (arith, ap length is, length-take need (drop at bytes), length-drop at bytes, valid)
