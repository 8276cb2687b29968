-- How long a command and a snapshot are at most.
use Rattle.std.proofs.Common.{◌≡◌, ℕ, ◌+◌, ◌*◌, ◌≤◌, List, [], ◌∷◌, length, None, ap, arith, length-append}
use Rattle.std.specs.FinMap as finite
use Rattle.std.specs.Int.{w32, to_be_bytes}
use Rattle.std.specs.List.{flat_map}
use Rattle.std.proofs.lemmas.List.Concat.{flat_map-cons}
use Rattle.std.proofs.Math.Nat.{suc-mul}
use Rattle.raft_wire.specs.Entries.{spelled_text}
use Rattle.raft_wire.specs.Memberships.{Chained}
use Rattle.raft_wire.specs.declared.kv.KvCommand.{KvCommand}
use Rattle.raft_wire.specs.declared.kv.KvCommand.TheVariants.{Put, Get, Drop}
use Rattle.raft_wire.specs.Kv.{FitsCommand, spelled_command}
use Rattle.raft_kv.specs.Map.{Map, Pair, nothing_left, spelled_map, spelled_pair, IsWithin}
use Rattle.raft_kv.proofs.Reading.{FitsPair}
use Rattle.raft_kv.proofs.WithinMaps.{entries_fit}

text_long : (bytes : List ℕ) → length (spelled_text bytes) ≡ 4 + length bytes
text_long bytes = length-append (to_be_bytes w32 (length bytes)) bytes

pair_short : (pair : Pair) → FitsPair pair → length (spelled_pair pair) ≤ 462
pair_short pair h = omega (arith, length-append (spelled_text pair.0) (spelled_text pair.1), text_long pair.0, text_long pair.1, h.0.few, h.1.few)

pairs_short : (pairs : List Pair) → Chained (λ _ pair. FitsPair pair) nothing_left None pairs → length (flat_map spelled_pair pairs) ≤ length pairs * 462
pairs_short [] h = omega arith
pairs_short (pair ∷ pairs) h =
    let first = pair_short pair h.0 in
    let others = pairs_short pairs h.1 in
    omega (arith, ap length (flat_map-cons spelled_pair pair pairs), length-append (spelled_pair pair) (flat_map spelled_pair pairs), suc-mul (length pairs) 462, first, others)

pub map_short : (m : Map) → IsWithin m → length (spelled_map m) ≤ 1892356
map_short m h =
    let pairs = finite.entries m in
    let fits = entries_fit m h in
    omega (arith, length-append (to_be_bytes w32 (length pairs)) (flat_map spelled_pair pairs), pairs_short pairs fits.1, fits.0)

pub command_short : (command : KvCommand) → FitsCommand command → length (spelled_command command) ≤ 463
command_short (Put key value) h = let short = pair_short (key, value) h in omega (arith, short)
command_short (Get key) h = omega (arith, text_long key, h.few)
command_short (Drop key) h = omega (arith, text_long key, h.few)
