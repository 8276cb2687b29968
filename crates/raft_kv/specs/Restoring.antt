-- What was restored is restored again, as the machine's laws ask.
use Rattle.std.specs.Prelude.{◌≡◌, Bool, true, false, cond, List, ℕ}
use mathlib.Core.Path.{refl, ap}
use Rattle.std.specs.FinMap as finite
use Rattle.raft_kv.specs.Map.{Map, is_map, restored, spelled_map}
use Rattle.raft_kv.specs.Machine.{state_of}

either : {A : Type 0} (b : Bool) (x : A) → cond b x x ≡ x
either true x = refl
either false x = refl

pub first_again : restored (spelled_map finite.empty) ≡ spelled_map finite.empty
first_again = either (is_map (spelled_map finite.empty)) (spelled_map finite.empty)

again : (bytes : List ℕ) → restored (restored bytes) ≡ restored bytes
again bytes = by (is_map bytes) refl where
  by : (b : Bool) → is_map bytes ≡ b → restored (cond b bytes (spelled_map finite.empty)) ≡ cond b bytes (spelled_map finite.empty)
  by true h = ap (λ (b : Bool). cond b bytes (spelled_map finite.empty)) h
  by false h = first_again

pub state_again : (m : Map) → restored (state_of m) ≡ state_of m
state_again m = again (spelled_map m)
