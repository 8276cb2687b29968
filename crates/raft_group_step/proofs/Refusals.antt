-- Reasons that don't hold, and the place that is past what is committed.
use Rattle.std.specs.Prelude.{◌≡◌, ℕ, ◌+◌, nat_le, Bool, true, false, Option, Some, None, refl}
use Rattle.std.proofs.Common.{ap, arith, leb-true}
use Rattle.std.proofs.lemmas.Bool.{false_from_ne_true}
use Rattle.raft_group_step.specs.StepResult.{RefusalReason, is_within}
use Rattle.raft_group_step.specs.GroupState.{GroupState}
use Rattle.raft_group_step.specs.GroupEvent.{GroupEvent}
use Rattle.raft_group_step.specs.GroupStep.{group_step, step_unless}
use Rattle.raft_group_step.specs.Refusal.{refusal_of, unless}
use Rattle.raft_group_step.specs.SnapshotRequest.{place_above}

-- the test of a reason that doesn't hold is passed
pub unless_none : (test : Bool) (why : RefusalReason) → unless test why ≡ None → test ≡ true
unless_none true why e = refl
unless_none false why e = absurd (let no : Some why ≡ None = e in cc)

-- a refused event leaves the state
pub refused_keeps : (own : ℕ) (s : GroupState) (e : GroupEvent) (why : RefusalReason) → refusal_of own s e ≡ Some why → (group_step own s e).state ≡ s
refused_keeps own s e why is = ap (λ o. (step_unless o own s e).state) is

-- the place above all that is committed isn't committed
pub past_above : (committed : Option ℕ) → is_within (place_above committed) committed ≡ false
past_above None = refl
past_above (Some place) = false_from_ne_true (nat_le (place + 1) place) (λ t. let l = leb-true (place + 1) place t in omega arith)
