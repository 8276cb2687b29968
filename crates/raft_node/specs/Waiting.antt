-- The tokens that wait at a node, and how they are named.
use Rattle.std.specs.Prelude.{◌≡◌, ◌==◌, ℕ, ◌++◌, if◌then◌else◌, List, [], ◌∷◌, map, Option, Some, None}
use Rattle.raft_group_step.specs.GroupState.{Untold}
use Rattle.raft_machines.specs.Telling.{untold_of}
use Rattle.raft_machines.specs.declared.telling.Untold.{Untold as AnUntold}
use Rattle.raft_applier.specs.declared.applier.Applier.{Applier}
use Rattle.raft_node.specs.Running.{Running}
use Rattle.raft_machines.specs.declared.telling.UnknownTokens.{UnknownTokens}

-- tokens of a group
abbrev pub Tokens : Type 0
Tokens = ℕ × List Untold

abbrev pub named_in : List UnknownTokens → List Tokens
named_in xs = map (λ (x : UnknownTokens). (x.group, untold_of x.tokens.items)) xs

abbrev pub waiting_in : {M : Type 0} → List (ℕ × Applier M) → List Tokens
waiting_in {M} es = map (λ (e : ℕ × Applier M). (e.0, untold_of e.1.applied.waiting)) es

-- those of this group
abbrev pub of_group : List Tokens → ℕ → List Untold
of_group [] group = []
of_group (x ∷ xs) group = if x.0 == group then x.1 ++ of_group xs group else of_group xs group

-- the tokens that are named of the group
abbrev pub named_of : List UnknownTokens → ℕ → List Untold
named_of unknown group = of_group (named_in unknown) group

-- the tokens that wait for the group
abbrev pub waiting_of : Option Running → List Untold
waiting_of None = []
waiting_of (Some r) = untold_of r.applied.waiting

-- one token more, of this group alone
abbrev pub one_more : ℕ → ℕ → AnUntold → List Untold
one_more other group x = if group == other then record { token = x.token; place = x.place } ∷ [] else []

-- all tokens that waited are named, each with its group, and no others
abbrev pub AreNamed : (ℕ → Option Running) → List UnknownTokens → Type 0
AreNamed running unknown = (group : ℕ) → named_of unknown group ≡ waiting_of (running group)
