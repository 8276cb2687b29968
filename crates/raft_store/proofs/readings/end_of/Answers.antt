-- A place that is spelled is refused for want of memory alone.
use Rattle.std.proofs.Common.{◌≡◌, ℕ, Option, Vec, Global, ◌∙◌, subst}
use Rattle.std.specs.Prelude.{option_map}
use Rattle.raft_store.specs.Reading.{HoldsEnd}
use Rattle.raft_store.proofs.Found.{refused_for_memory}
use Rattle.raft_store.proofs.readings.end_of.Goals as goal

pub returns-in_err-read_place-in-Some-clause-read : goal.returns-in_err-read_place-in-Some-clause-read
returns-in_err-read_place-in-Some-clause-read c = λ end held.
    let here = subst (λ (value : Option (Vec ℕ Global)). HoldsEnd (option_map (λ v. v.items) value) end) c.in-Some.is held in
    refused_for_memory c.from_residual.result (λ found. found ≡ end) c.in_err-read_place-in-Some.field-0.0 end c.from_residual.ensures.1
    (c.in_err-read_place-in-Some.ensures.only end here.1 (c.deref.ensures.value ∙ here.0))
