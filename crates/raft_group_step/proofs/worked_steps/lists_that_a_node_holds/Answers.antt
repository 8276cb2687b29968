use Rattle.std.specs.Prelude.{◌≡◌, ℕ, zero, suc, ◌<◌, ◌≤◌, [], ◌∷◌, slice_get, Option, Some, None, refl}
use Rattle.std.proofs.Common.{ap, arith}
use Rattle.raft_group_step.specs.Values.{Entry}
use Rattle.raft_group_step.specs.StepExample.{blank_at, other_blank_at}
use Rattle.raft_group_step.proofs.worked_steps.lists_that_a_node_holds.Goals as goal

first_same : (i : ℕ) → i ≤ 0 → slice_get (blank_at 0 ∷ blank_at 1 ∷ []) i ≡ slice_get (blank_at 0 ∷ other_blank_at 1 ∷ []) i
first_same zero l = refl
first_same (suc i) l = absurd (omega arith)

apart : (a b : ℕ) → a < b → a ≡ b → ⊥
apart a b l e = omega arith

-- the term of an entry that is there
abbrev term_or_none : Option Entry → ℕ
term_or_none None = 0
term_or_none (Some e) = e.log_id.leader_id.term

pub returns-clause-same : goal.returns-clause-same
returns-clause-same c = record { reaches = omega arith; is_listed = omega arith; same = first_same }

pub returns-clause-differs : goal.returns-clause-differs
returns-clause-differs c = λ h. apart 1 2 (omega arith) (ap term_or_none (h.same 1 (omega arith)))

pub returns-clause-short : goal.returns-clause-short
returns-clause-short c = λ h. let l = h.reaches in omega arith

pub returns-clause-unlisted : goal.returns-clause-unlisted
returns-clause-unlisted c = λ h. let l = h.is_listed in omega arith
