-- Bytes that are text, and bytes that are none.
use Rattle.std.proofs.Common.{◌≡◌, Bool, true, false, List, ℕ, Ok, Err, refl}
use Rattle.std.specs.Str.{IsUtf8, is_utf8}
use Rattle.std.proofs.lemmas.Bool.{false_from_ne_true}
use Rattle.std.proofs.lemmas.Str.{IsUtf8-from_is_utf8, is_utf8-from_IsUtf8}
use Rattle.raft_wire.specs.declared.error.FrameFault.{FrameFault}
use Rattle.raft_wire.specs.declared.error.FrameFault.TheVariants as fault
use Rattle.raft_wire.specs.Reader.{Reader, tested, byte_at, piece_at}
use Rattle.raft_wire.specs.Memberships.{address_at}

test_passed : {A : Type 0} (wrong : FrameFault) (test : A → Bool) (reader : Reader A) (bytes : List ℕ) (x : A × List ℕ) → reader bytes ≡ Ok x → test x.0 ≡ true → tested wrong test reader bytes ≡ Ok x
test_passed wrong test reader bytes x e t = rw (e, t) refl

test_failed : {A : Type 0} (wrong : FrameFault) (test : A → Bool) (reader : Reader A) (bytes : List ℕ) (x : A × List ℕ) → reader bytes ≡ Ok x → test x.0 ≡ false → tested wrong test reader bytes ≡ Err wrong
test_failed wrong test reader bytes x e t = rw (e, t) refl

pub address_found : (bytes : List ℕ) (n : ℕ × List ℕ) (x : List ℕ × List ℕ) → byte_at bytes ≡ Ok n → piece_at n.0 n.1 ≡ Ok x → IsUtf8 x.0 → address_at bytes ≡ Ok x
unfolding address_at
address_found bytes n x e p text = rw e (test_passed fault.NotUtf8 is_utf8 (piece_at n.0) n.1 x p (is_utf8-from_IsUtf8 x.0 text))

pub address_refused : (bytes : List ℕ) (n : ℕ × List ℕ) (x : List ℕ × List ℕ) → byte_at bytes ≡ Ok n → piece_at n.0 n.1 ≡ Ok x → (IsUtf8 x.0 → ⊥) → address_at bytes ≡ Err fault.NotUtf8
unfolding address_at
address_refused bytes n x e p other = rw e (test_failed fault.NotUtf8 is_utf8 (piece_at n.0) n.1 x p (false_from_ne_true (is_utf8 x.0) (λ text. other (IsUtf8-from_is_utf8 x.0 text))))
