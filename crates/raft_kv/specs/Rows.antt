-- Commands, maps and states of the rows.
use Rattle.std.specs.Prelude.{ℕ, zero, suc, List, [], ◌∷◌, ◌++◌, codes, replicate}
use Rattle.std.specs.FinMap as finite
use Rattle.std.specs.Int.{w32, to_be_bytes}
use Rattle.raft_kv.specs.Machine.{kv}
use Rattle.raft_kv.specs.Map.{Map}

-- bytes behind their length, of which there are fewer than 256
abbrev pub behind : ℕ → List ℕ → List ℕ
behind length bytes = 0 ∷ 0 ∷ 0 ∷ length ∷ bytes

abbrev pub put_apple : List ℕ
put_apple = 1 ∷ (behind 5 (codes "apple") ++ behind 3 (codes "red"))

abbrev pub get_apple : List ℕ
get_apple = 2 ∷ behind 5 (codes "apple")

abbrev pub drop_apple : List ℕ
drop_apple = 3 ∷ behind 5 (codes "apple")

abbrev pub after_put : List ℕ
after_put = kv.step kv.first 0 put_apple

abbrev pub after_get : List ℕ
after_get = kv.step after_put 1 get_apple

abbrev pub after_drop : List ℕ
after_drop = kv.step after_get 2 drop_apple

-- so many letters 'a'
abbrev pub letters : ℕ → List ℕ
letters count = replicate count 97

-- two pairs, put in falling order
abbrev pub put_b : List ℕ
put_b = 1 ∷ (behind 1 (codes "b") ++ behind 1 (codes "2"))

abbrev pub put_a : List ℕ
put_a = 1 ∷ (behind 1 (codes "a") ++ behind 1 (codes "1"))

abbrev pub pair_a : List ℕ
pair_a = behind 1 (codes "a") ++ behind 1 (codes "1")

abbrev pub pair_b : List ℕ
pair_b = behind 1 (codes "b") ++ behind 1 (codes "2")

abbrev pub no_pairs : List ℕ
no_pairs = 0 ∷ 0 ∷ 0 ∷ 0 ∷ []

-- the keys are the numbers below this one, in four bytes; each value is the byte 1
abbrev pub key_of : ℕ → List ℕ
key_of n = to_be_bytes w32 n

unfoldable pub numbers_below : ℕ → Map
numbers_below zero = finite.empty
numbers_below (suc n) = finite.insert (numbers_below n) (key_of n) (1 ∷ [])
