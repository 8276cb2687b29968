-- Files whose numbers follow one another are no more than the next number.
use Rattle.std.proofs.Common.{◌≡◌, ◌-◌, ◌≤◌, ℕ, length, arith}
use Rattle.std.specs.Prelude.{List, [], ◌∷◌}
use Rattle.raft_log_pipe.specs.declared.file.File.{File}
use Rattle.raft_log_pipe.specs.Pipe.{AreConsecutive}

no_more : (fs : List File) (next : ℕ) → AreConsecutive fs next → length fs ≤ next
no_more [] next numbers = omega arith
no_more (f ∷ fs) next numbers = omega (arith, numbers.0)

-- the numbers before the next one are as many as the files
pub numbers_count : (fs : List File) (next : ℕ) → AreConsecutive fs next → next - (next - length fs) ≡ length fs
numbers_count fs next numbers = let few = no_more fs next numbers in omega (arith, few)
