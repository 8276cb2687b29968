-- Each entry of the tables is what its byte leaves, by computing it.
use Rattle.std.proofs.Common.{◌≡◌, ℕ, zero, suc, ◌+◌, ◌-◌, ◌*◌, ◌<◌, List, ◌++◌, length, get_or, take, refl, sym, ap, ◌∙◌, arith, zero-add}
use Rattle.std.specs.Prelude.{map}
use Rattle.std.specs.List.{range_with_len}
use Rattle.std.proofs.lemmas.List.{get_or-map, get_or-take, get_or-append_right, get_or_append_left, length-map}
use Rattle.std.proofs.lemmas.List.FromFn.{get_or-range_with_len}
use Rattle.raft_log_records.specs.Checksum.{shifted, after_byte, after_zeros}
use Rattle.raft_log_records.proofs.RegisterLemmas.{after_zeros-next}
use Rattle.raft_log_records.specs.declared.checksum.tables.TheConstants.{TABLES}

-- each entry is what the byte, or the entry of the table before, leaves after a zero byte
next_of_each : map (λ x. after_byte x 0) (range_with_len 0 256 ++ take 3840 TABLES) ≡ TABLES
unfolding shifted after_byte
next_of_each = refl

module _ (bytes entries : List ℕ) (all : length bytes ≡ 256) (long : length entries ≡ 4096) (same : (b : ℕ) → b < 256 → get_or bytes b 0 ≡ b)
    (next : map (λ x. after_byte x 0) (bytes ++ take 3840 entries) ≡ entries) where
  step : (i : ℕ) → i < 4096 → get_or entries i 0 ≡ after_byte (get_or (bytes ++ take 3840 entries) i 0) 0
  step i h =
      let within : i < length (bytes ++ take 3840 entries) = omega (arith, sym (length-map (bytes ++ take 3840 entries) (λ x. after_byte x 0)), ap length next) in
      ap (λ xs. get_or xs i 0) (sym next) ∙ get_or-map (λ x. after_byte x 0) (bytes ++ take 3840 entries) i 0 0 within

  entry_at : (k b : ℕ) → b < 256 → k < 16 → get_or entries (k * 256 + b) 0 ≡ after_zeros (suc k) b
  unfolding after_zeros
  entry_at zero b hb hk =
      step (0 + b) (omega arith)
      ∙ ap (λ x. after_byte x 0) (get_or_append_left bytes (take 3840 entries) 0 (0 + b) (omega arith) ∙ ap (λ i. get_or bytes i 0) (zero-add b) ∙ same b hb)
  entry_at (suc k) b hb hk =
      let at : suc k * 256 + b - 256 ≡ k * 256 + b = omega arith in
      step (suc k * 256 + b) (omega arith)
      ∙ ap (λ x. after_byte x 0) (
      get_or-append_right bytes (take 3840 entries) 256 (suc k * 256 + b) 0 all (omega arith)
      ∙ ap (λ i. get_or (take 3840 entries) i 0) at ∙ get_or-take 3840 entries (k * 256 + b) 0 (omega arith)
      ∙ entry_at k b hb (omega arith)
      )
      ∙ sym (after_zeros-next (suc k) b)

pub entry_of_table : (k b : ℕ) → b < 256 → k < 16 → get_or TABLES (k * 256 + b) 0 ≡ after_zeros (suc k) b
entry_of_table = entry_at (range_with_len 0 256) TABLES refl refl (λ b h. get_or-range_with_len 0 256 b 0 h ∙ zero-add b) next_of_each
