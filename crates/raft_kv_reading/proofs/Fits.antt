-- Commands that are read are within their limits, whatever numbers the bytes are.
use Rattle.std.proofs.Common.{◌≡◌, ℕ, zero, suc, ◌≤◌, ◌==◌, Bool, true, false, cond, List, [], ◌∷◌, length, take, drop, Ok, Err, refl, sym, ap, subst, ◌∙◌, arith, length-take-le}
use Rattle.std.specs.Prelude.{nat_lt}
use Rattle.std.specs.Int.{w32}
use Rattle.std.proofs.lemmas.Bool.Decides.{nat_tests}
use Rattle.raft_bytes.proofs.Bytes.{bind_ok, ok_is}
use Rattle.raft_wire.specs.declared.error.FrameFault.TheVariants as fault
use Rattle.raft_wire.specs.Reader.{◌>>=◌, all_of, both, count_at, number_at, piece_at, text_at, filled_at, has_bytes}
use Rattle.raft_wire.specs.declared.kv.KvCommand.{KvCommand}
use Rattle.raft_wire.specs.Kv.{IsFilled, key_at, value_at, FitsCommand, command_at, drop_of, get_of, put_of}
use Rattle.raft_wire.proofs.KvReading.{some_bytes}

piece_length : (n : ℕ) (bytes : List ℕ) (x : List ℕ × List ℕ) → piece_at n bytes ≡ Ok x → length x.0 ≡ n
unfolding piece_at
piece_length n bytes x e = by (nat_lt (length bytes) n) refl e where
  by : (b : Bool) → nat_lt (length bytes) n ≡ b → cond b (Err fault.CutShort) (Ok (take n bytes, drop n bytes)) ≡ Ok x → length x.0 ≡ n
  by true less e = absurd cc
  by false there e =
      let same : (take n bytes, drop n bytes) ≡ x = cc in
      ap (λ (y : List ℕ × List ℕ). length y.0) (sym same) ∙ length-take-le n bytes (grind (arith, nat_tests, there))

count_few : (limit : ℕ) (bytes : List ℕ) (x : ℕ × List ℕ) → count_at limit bytes ≡ Ok x → x.0 ≤ limit
unfolding count_at
count_few limit bytes x e =
    let n = bind_ok (number_at w32 bytes) (λ n. cond (nat_lt limit n.0) (Err fault.TooLong) (Ok n)) x e in
    by n.0 (nat_lt limit n.0.0) refl n.2
  where
    by : (n : ℕ × List ℕ) (b : Bool) → nat_lt limit n.0 ≡ b → cond b (Err fault.TooLong) (Ok n) ≡ Ok x → x.0 ≤ limit
    by n true more e = absurd cc
    by n false few e =
        let same : n ≡ x = cc in
        subst (λ (y : ℕ × List ℕ). y.0 ≤ limit) same (grind (arith, nat_tests, few))

text_few : (limit : ℕ) (bytes : List ℕ) (x : List ℕ × List ℕ) → text_at limit bytes ≡ Ok x → length x.0 ≤ limit
unfolding text_at
text_few limit bytes x e =
    let n = bind_ok (count_at limit bytes) (λ n. piece_at n.0 n.1) x e in
    let few = count_few limit bytes n.0 n.1 in
    let size = piece_length n.0.0 n.0.1 x n.2 in
    omega (arith, few, size)

filled_fits : (limit : ℕ) (bytes : List ℕ) (x : List ℕ × List ℕ) → filled_at limit bytes ≡ Ok x → IsFilled limit x.0
unfolding filled_at
filled_fits limit bytes x e =
    let text = bind_ok (text_at limit bytes) (λ a. cond (has_bytes a.0) (Ok a) (Err fault.CutShort)) x e in
    by text.0 (has_bytes text.0.0) refl (text_few limit bytes text.0 text.1) text.2
  where
    by : (a : List ℕ × List ℕ) (b : Bool) → has_bytes a.0 ≡ b → length a.0 ≤ limit → cond b (Ok a) (Err fault.CutShort) ≡ Ok x → IsFilled limit x.0
    by a true some few e =
        let same : a ≡ x = cc in
        subst (λ (y : List ℕ × List ℕ). IsFilled limit y.0) same (record { some = some_bytes a.0 some; few = few })
    by a false none few e = absurd cc

-- a command that was found is that of the pair
found : (a x : KvCommand × List ℕ) → a ≡ x → FitsCommand a.0 → FitsCommand x.0
found a x same fits = subst (λ (y : KvCommand × List ℕ). FitsCommand y.0) same fits

fields_fit : (bytes : List ℕ) (x : (List ℕ × List ℕ) × List ℕ) → both key_at value_at bytes ≡ Ok x → FitsCommand (put_of x.0)
fields_fit bytes x e =
    let key = bind_ok (key_at bytes) (λ k. (value_at k.1) >>= (λ v. Ok ((k.0, v.0), v.1))) x e in
    let value = bind_ok (value_at key.0.1) (λ v. Ok ((key.0.0, v.0), v.1)) x key.2 in
    let pair : (List ℕ × List ℕ) × List ℕ = ((key.0.0, value.0.0), value.0.1) in
    let same : pair ≡ x = ok_is pair x value.2 in
    subst (λ (y : (List ℕ × List ℕ) × List ℕ). FitsCommand (put_of y.0)) same (filled_fits 255 bytes key.0 key.1, filled_fits 199 key.0.1 value.0 value.1)

command_fits : (bytes : List ℕ) (x : KvCommand × List ℕ) → command_at bytes ≡ Ok x → FitsCommand x.0
unfolding command_at
command_fits [] x e = absurd cc
command_fits (zero ∷ bytes) x e = absurd cc
command_fits (suc zero ∷ bytes) x e =
    let a = bind_ok (both key_at value_at bytes) (λ a. Ok (put_of a.0, a.1)) x e in
    found (put_of a.0.0, a.0.1) x (ok_is (put_of a.0.0, a.0.1) x a.2) (fields_fit bytes a.0 a.1)
command_fits (suc (suc zero) ∷ bytes) x e =
    let a = bind_ok (key_at bytes) (λ a. Ok (get_of a.0, a.1)) x e in
    found (get_of a.0.0, a.0.1) x (ok_is (get_of a.0.0, a.0.1) x a.2) (filled_fits 255 bytes a.0 a.1)
command_fits (suc (suc (suc zero)) ∷ bytes) x e =
    let a = bind_ok (key_at bytes) (λ a. Ok (drop_of a.0, a.1)) x e in
    found (drop_of a.0.0, a.0.1) x (ok_is (drop_of a.0.0, a.0.1) x a.2) (filled_fits 255 bytes a.0 a.1)
command_fits (suc (suc (suc (suc b))) ∷ bytes) x e = absurd cc

pub read_fits : (bytes : List ℕ) (command : KvCommand) → all_of command_at bytes ≡ Ok command → FitsCommand command
unfolding all_of
read_fits bytes command e =
    let a = bind_ok (command_at bytes) (λ a. cond (length a.1 == 0) (Ok a.0) (Err fault.TrailingBytes)) command e in
    by a.0 (length a.0.1 == 0) a.2 (command_fits bytes a.0 a.1)
  where
    by : (a : KvCommand × List ℕ) (b : Bool) → cond b (Ok a.0) (Err fault.TrailingBytes) ≡ Ok command → FitsCommand a.0 → FitsCommand command
    by a true e fits =
        let same : a.0 ≡ command = cc in
        subst FitsCommand same fits
    by a false e fits = absurd cc
