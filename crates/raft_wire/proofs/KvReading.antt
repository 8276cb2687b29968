-- The readers of keys, values and commands fit their spellings.
use Rattle.std.proofs.Common.{◌≡◌, ℕ, zero, suc, ◌^◌, ◌<◌, ◌≤◌, true, List, [], ◌∷◌, ◌++◌, length, Ok, refl, subst, arith}
use Rattle.std.proofs.lemmas.Bool.Decides.{nat_tests}
use Rattle.raft_bytes.specs.Bytes.{AreBytes}
use Rattle.raft_bytes.proofs.Bytes.{AreBytes-rest, bind_ok, ok_is, Takes, Takes-behind}
use Rattle.raft_wire.specs.declared.error.FrameFault.TheVariants as fault
use Rattle.raft_wire.specs.declared.kv.KvCommand.{KvCommand}
use Rattle.raft_wire.specs.declared.kv.KvCommand.TheVariants.{Put, Get, Drop}
use Rattle.raft_wire.specs.Reader.{both, filled_at, has_bytes, tested, text_at}
use Rattle.raft_wire.specs.Entries.{spelled_text}
use Rattle.raft_wire.specs.Kv.{key_limit, value_limit, IsFilled, IsKey, IsValue, key_at, value_at}
use Rattle.raft_wire.specs.Kv.{FitsCommand, command_at, spelled_command, put_of, get_of, drop_of}
use Rattle.raft_wire.proofs.Fitting.{Reads, both_reads, fits_as, tested_reads, text_reads}

-- ---- keys and values

pub some_bytes : (bytes : List ℕ) → has_bytes bytes ≡ true → 0 < length bytes
some_bytes [] h = absurd cc
some_bytes (b ∷ bytes) h = omega arith

tests_some : (bytes : List ℕ) → 0 < length bytes → has_bytes bytes ≡ true
tests_some bytes h = grind (arith, nat_tests, h)

filled_reads : (limit : ℕ) → limit < 2 ^ 32 → Reads (filled_at limit) spelled_text (IsFilled limit)
unfolding filled_at
filled_reads limit small =
    fits_as (tested fault.CutShort has_bytes (text_at limit)) spelled_text (λ text. (length text ≤ limit) × (has_bytes text ≡ true)) (IsFilled limit)
    (tested_reads fault.CutShort has_bytes (text_at limit) spelled_text (λ text. length text ≤ limit) (text_reads limit small))
    (λ text h. record { some = some_bytes text h.1; few = h.0 }) (λ text h. (h.few, tests_some text h.some))

pub key_reads : Reads key_at spelled_text IsKey
key_reads = filled_reads key_limit (omega arith)

pub value_reads : Reads value_at spelled_text IsValue
value_reads = filled_reads value_limit (omega arith)

-- ---- commands

command_takes : (bytes : List ℕ) (x : KvCommand × List ℕ) → AreBytes bytes → command_at bytes ≡ Ok x → Takes bytes (spelled_command x.0) x.1 × FitsCommand x.0
unfolding command_at
command_takes [] x fits e = absurd cc
command_takes (zero ∷ bytes) x fits e = absurd cc
command_takes (suc zero ∷ bytes) x fits e =
    let fields = both_reads key_at spelled_text IsKey value_at spelled_text IsValue key_reads value_reads in
    let a = bind_ok (both key_at value_at bytes) (λ a. Ok (put_of a.0, a.1)) x e in
    let t = fields.takes bytes a.0.0 a.0.1 (AreBytes-rest 1 bytes fits) a.1 in
    subst (λ (y : KvCommand × List ℕ). Takes (1 ∷ bytes) (spelled_command y.0) y.1 × FitsCommand y.0) (ok_is (put_of a.0.0, a.0.1) x a.2) (Takes-behind 1 bytes (spelled_text a.0.0.0 ++ spelled_text a.0.0.1) a.0.1 t.0, t.1)
command_takes (suc (suc zero) ∷ bytes) x fits e =
    let a = bind_ok (key_at bytes) (λ a. Ok (get_of a.0, a.1)) x e in
    let t = key_reads.takes bytes a.0.0 a.0.1 (AreBytes-rest 2 bytes fits) a.1 in
    subst (λ (y : KvCommand × List ℕ). Takes (2 ∷ bytes) (spelled_command y.0) y.1 × FitsCommand y.0) (ok_is (get_of a.0.0, a.0.1) x a.2) (Takes-behind 2 bytes (spelled_text a.0.0) a.0.1 t.0, t.1)
command_takes (suc (suc (suc zero)) ∷ bytes) x fits e =
    let a = bind_ok (key_at bytes) (λ a. Ok (drop_of a.0, a.1)) x e in
    let t = key_reads.takes bytes a.0.0 a.0.1 (AreBytes-rest 3 bytes fits) a.1 in
    subst (λ (y : KvCommand × List ℕ). Takes (3 ∷ bytes) (spelled_command y.0) y.1 × FitsCommand y.0) (ok_is (drop_of a.0.0, a.0.1) x a.2) (Takes-behind 3 bytes (spelled_text a.0.0) a.0.1 t.0, t.1)
command_takes (suc (suc (suc (suc b))) ∷ bytes) x fits e = absurd cc

command_again : (command : KvCommand) (rest : List ℕ) → FitsCommand command → command_at (spelled_command command ++ rest) ≡ Ok (command, rest)
unfolding command_at
command_again (Put key value) rest h =
    let fields = both_reads key_at spelled_text IsKey value_at spelled_text IsValue key_reads value_reads in
    rw (fields.again (key, value) rest h) refl
command_again (Get key) rest h = rw (key_reads.again key rest h) refl
command_again (Drop key) rest h = rw (key_reads.again key rest h) refl

pub command_reads : Reads command_at spelled_command FitsCommand
command_reads = record {
  takes = λ bytes command rest fits e. command_takes bytes (command, rest) fits e;
  again = λ command rest h. command_again command rest h;
}
