use Rattle.std.proofs.Common.{◌≡◌, ℕ, drop}
use Rattle.std.specs.BTreeMap.{get}
use Rattle.std.specs.Option.{option_or}
use Rattle.std.specs.Ordering.{nat_cmp}
use Rattle.raft_log_tools.proofs.ToldLemmas.{IsRising, told_in}
use Rattle.raft_log_tools.proofs.telling.put_all.Given as goal

abbrev pub invariant-loop-group : goal.invariant-loop-group
invariant-loop-group l = IsRising l.holes → (n : ℕ) → option_or (told_in n (drop l.group-index l.holes)) (get nat_cmp l.told n) ≡ option_or (told_in n l.holes) (get nat_cmp l.initial.told n)
