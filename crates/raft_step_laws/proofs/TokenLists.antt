-- Lists of tokens, and what an event brings of them.
use Rattle.std.specs.Prelude.{◌≡◌, ℕ, ◌≤◌, List, [], ◌∷◌, refl}
use Rattle.std.proofs.Common.{ap, arith}
use Rattle.raft_group_step.specs.GroupState.{GroupState, Untold}
use Rattle.raft_group_step.specs.GroupEvent.{GroupEvent, AddGroup, Call, Receive, Open}
use Rattle.raft_group_step.specs.StepResult.{tokens_of}
use Rattle.raft_step_laws.specs.Tokens.{OpensWithNone, RiseFrom, tokens_at}

-- from a lower place on they rise, too
pub rise_lower : (j k : ℕ) (xs : List Untold) → j ≤ k → RiseFrom k xs → RiseFrom j xs
rise_lower j k [] l h = tt
rise_lower j k (x ∷ xs) l h = (omega (arith, h.0), h.1)

-- tokens at a place are these tokens
pub tokens_at_place : (place : ℕ) (ts : List ℕ) → tokens_of (tokens_at place ts) ≡ ts
tokens_at_place place [] = refl
tokens_at_place place (t ∷ ts) = ap (λ l. t ∷ l) (tokens_at_place place ts)

-- an event that opens no node opens none with tokens
pub opens_none : (s : GroupState) (e : GroupEvent) → (e ≡ Open → ⊥) → OpensWithNone s e
opens_none s AddGroup other = tt
opens_none s (Call call now) other = tt
opens_none s (Receive peer x now) other = tt
opens_none s Open other = absurd (other refl)
