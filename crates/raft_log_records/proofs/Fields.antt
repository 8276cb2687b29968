-- A field that is read is the field that was written, and what was written is read again.
use Rattle.std.proofs.Common.{◌≡◌, ℕ, ◌^◌, ◌<◌, ◌≤◌, false, cond, ltb, eqb, ◌≢◌, List, ◌++◌, length, take, drop, Ok, Err, refl, sym, subst, arith}
use Rattle.std.specs.Int.{w32, to_be_bytes}
use Rattle.std.proofs.lemmas.Bool.{ltb-false, le-ltb, eqb-false, ne_eqb}
use Rattle.std.proofs.lemmas.List.{take_at, drop_at, take-append-drop, length-append, length-take}
use Rattle.raft_log_records.specs.declared.error.RecordFault.TheVariants as fault
use Rattle.raft_log_records.specs.Spelling.{spell_string, IsKey}
use Rattle.raft_log_records.specs.Reading.{number_at, string_at, key_at}
use Rattle.raft_bytes.specs.Bytes.{AreBytes}
use Rattle.raft_bytes.proofs.Bytes.{AreBytes-drop, bind_ok, guard_ok, Takes, Takes-then}
use Rattle.raft_bytes.proofs.Numbers.{wide32, number_takes, number_again}

-- two numbers of four bytes are eight
pub eight : (a b : List ℕ) → length a ≡ 4 → length b ≡ 4 → length (a ++ b) ≡ 8
eight a b p q = omega (arith, length-append a b)

-- ---- strings

pub string_takes : (bytes text rest : List ℕ) → AreBytes bytes → string_at bytes ≡ Ok (text, rest) → Takes bytes (spell_string text) rest × (length text < 2 ^ 32)
unfolding string_at
string_takes bytes text rest fits e =
    let b = bind_ok (number_at w32 bytes) (λ n. cond (ltb (length n.1) n.0) (Err fault.ItemsCutShort) (Ok (take n.0 n.1, drop n.0 n.1))) (text, rest) e in
    let n = b.0 in
    let t = number_takes fault.ItemsCutShort w32 (2 ^ 32) wide32 bytes n.0 n.1 fits b.1 in
    let g = guard_ok (ltb (length n.1) n.0) fault.ItemsCutShort (take n.0 n.1, drop n.0 n.1) (text, rest) b.2 in
    let long : n.0 ≤ length n.1 = ltb-false _ _ g.0 in
    let len : length (take n.0 n.1) ≡ n.0 = omega (arith, length-take n.0 n.1) in
    let second : Takes n.1 (take n.0 n.1) (drop n.0 n.1) = record { parts = sym (take-append-drop n.0 n.1); rest_fits = AreBytes-drop n.0 n.1 t.0.rest_fits } in
    let both = Takes-then bytes (to_be_bytes w32 n.0) n.1 (take n.0 n.1) (drop n.0 n.1) t.0 second in
    let whole : Takes bytes (spell_string (take n.0 n.1)) (drop n.0 n.1) = subst (λ (k : ℕ). Takes bytes (to_be_bytes w32 k ++ take n.0 n.1) (drop n.0 n.1)) (sym len) both in
    subst (λ (p : List ℕ × List ℕ). Takes bytes (spell_string p.0) p.1 × (length p.0 < 2 ^ 32)) g.1 (whole, omega (arith, t.1))

pub string_again : (text rest : List ℕ) → length text < 2 ^ 32 → string_at (spell_string text ++ rest) ≡ Ok (text, rest)
unfolding string_at
string_again text rest lt =
    let long : ltb (length (text ++ rest)) (length text) ≡ false = le-ltb _ _ (omega (arith, length-append text rest)) in
    rw (number_again fault.ItemsCutShort w32 (2 ^ 32) wide32 (length text) (text ++ rest) lt, long, take_at text rest (length text) refl, drop_at text rest (length text) refl) refl

-- ---- keys

pub key_takes : (bytes key rest : List ℕ) → AreBytes bytes → key_at bytes ≡ Ok (key, rest) → Takes bytes (spell_string key) rest × IsKey key
unfolding key_at
key_takes bytes key rest fits e =
    let a = bind_ok (string_at bytes) (λ k. cond (eqb (length k.0) 0) (Err fault.EmptyKey) (Ok k)) (key, rest) e in
    let g = guard_ok (eqb (length a.0.0) 0) fault.EmptyKey a.0 (key, rest) a.2 in
    let t = string_takes bytes a.0.0 a.0.1 fits a.1 in
    let some : length a.0.0 ≢ 0 = eqb-false _ _ g.0 in
    let is_key : IsKey a.0.0 = (omega arith, t.1) in
    subst (λ (p : List ℕ × List ℕ). Takes bytes (spell_string p.0) p.1 × IsKey p.0) g.1 (t.0, is_key)

pub key_again : (key rest : List ℕ) → IsKey key → key_at (spell_string key ++ rest) ≡ Ok (key, rest)
unfolding key_at
key_again key rest k =
    let some : eqb (length key) 0 ≡ false = ne_eqb _ _ (λ e. omega (arith, k.0)) in
    rw (string_again key rest k.1, some) refl
