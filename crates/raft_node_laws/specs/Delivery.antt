-- A frame comes to its node in pieces.
use Rattle.std.specs.Prelude.{◌≡◌, ℕ, ◌-◌, List, [], ◌∷◌, length, take, drop, Option, Some, None, Result, Ok, Err}
use Rattle.raft_cluster_events.specs.declared.node.NodeOutcome.{NodeOutcome}
use Rattle.raft_cluster_events.specs.declared.outcome.NodeError.{NodeError}
use Rattle.raft_cluster_events.specs.Node.{NodeActs}

-- the bytes from the one place to the other
abbrev pub piece : List ℕ → ℕ → ℕ → List ℕ
piece bytes begin end = take (end - begin) (drop begin bytes)

-- the pieces of these bytes from a place on, where they are cut at these places
abbrev pub pieces_from : List ℕ → ℕ → List ℕ → List (List ℕ)
pieces_from bytes begin [] = piece bytes begin (length bytes) ∷ []
pieces_from bytes begin (cut ∷ cuts) = piece bytes begin cut ∷ pieces_from bytes cut cuts

module _ {N : Type 0} (acts : NodeActs N) where
  -- the first piece that does something or is refused is the last
  abbrev pub GoesOn : Result (Option NodeOutcome) NodeError → N → Result (Option NodeOutcome) NodeError → N → Type 0 → Type 0
  GoesOn (Ok None) next answered new rest = rest
  GoesOn (Ok (Some outcome)) next answered new rest = (answered ≡ Ok (Some outcome)) × (new ≡ next)
  GoesOn (Err error) next answered new rest = (answered ≡ Err error) × (new ≡ next)

  -- a peer's pieces come to the node one after another, at a moment
  abbrev pub Comes : ℕ → ℕ → N → List (List ℕ) → Result (Option NodeOutcome) NodeError → N → Type 0
  Comes peer now old [] answered new = (answered ≡ Ok None) × (new ≡ old)
  Comes peer now old (bytes ∷ pieces) answered new =
      (first : Result (Option NodeOutcome) NodeError) × (next : N) × acts.feeds old peer bytes now first next × GoesOn first next answered new (Comes peer now next pieces answered new)
