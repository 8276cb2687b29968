-- Keys with their values that are handed to a callback, one after the other, until it answers false.
use Rattle.std.specs.Prelude.{◌≡◌, ◌⊎◌, ℕ, Bool, true, false, List, [], ◌∷◌}
use Rattle.std.specs.Borrow.{Bor}
use Rattle.std.specs.Fn.{Mut, Called}

-- a key and its value
abbrev pub Pair : Type 0
Pair = List ℕ × List ℕ

-- From f on the callback is called at each of these in turn, and no more once a call answers false. Then it is `last`.
abbrev pub CalledUntilFalse : {F X : Type 0} → (F → X → Bool → F → Type 0) → F → List X → F → Type 0
CalledUntilFalse called f [] last = f ≡ last
CalledUntilFalse called f (x ∷ xs) last = called f x false last ⊎ ((g : _) × called f x true g × CalledUntilFalse called g xs last)

-- ---- messages

-- a call at a `&` to a key and at a message
pub record CalledWith {F S : Type 0} (g : Mut F (Bor (List ℕ) × (S × Unit {0})) Bool) (f : F) (key : List ℕ) (m : S) (r : Bool) (f' : F) : Type 0 where
  pub shown : Bor (List ℕ)
  pub shows : shown.now ≡ key
  pub called : Called g f (shown, (m, tt)) r f'

-- a message within the limits of its type has these bytes
abbrev pub IsMessage : {S : Type 0} → (S → Bool) → (S → List ℕ) → List ℕ → S → Type 0
IsMessage fits bytes value m = (fits m ≡ true) × (bytes m ≡ value)

-- no message has them
abbrev pub IsNoMessage : {S : Type 0} → (S → Bool) → (S → List ℕ) → List ℕ → Type 0
IsNoMessage fits bytes value = (m : _) → IsMessage fits bytes value m → ⊥

-- The callback is called at each value that is a message, until a call answers false. Other values are passed over.
abbrev pub ReadsUntilFalse : {F S : Type 0} → (List ℕ → S → Type 0) → (F → List ℕ → S → Bool → F → Type 0) → F → List Pair → F → Type 0
ReadsUntilFalse is called f [] last = f ≡ last
ReadsUntilFalse is called f (p ∷ ps) last =
    (((m : _) → is p.1 m → ⊥) × ReadsUntilFalse is called f ps last)
    ⊎ ((m : _) × is p.1 m × (called f p.0 m false last ⊎ ((g : _) × called f p.0 m true g × ReadsUntilFalse is called g ps last)))
