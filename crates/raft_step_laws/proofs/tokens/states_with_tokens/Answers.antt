use Rattle.std.specs.Prelude.{◌≡◌, ℕ, ◌<◌, true, false}
use Rattle.std.proofs.Common.{arith}
use Rattle.raft_step_laws.specs.TokenRows.{waits}
use Rattle.raft_step_laws.proofs.tokens.states_with_tokens.Goals as goal

pub returns-clause-committed : goal.returns-clause-committed
returns-clause-committed c = λ h. let e : true ≡ false = h 0 (waits 7 2) (omega arith) in cc

not_below_itself : (n : ℕ) → n < n → ⊥
not_below_itself n l = omega arith

pub returns-clause-behind : goal.returns-clause-behind
returns-clause-behind c = λ h. not_below_itself 4 (h.below 0 (waits 7 4) (omega arith))
