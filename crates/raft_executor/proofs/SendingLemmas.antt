-- Messages that follow one another.
use Rattle.std.proofs.Common.{◌≡◌, List, [], ◌∷◌, ◌++◌, sym, subst}
use Rattle.raft_group_step.specs.StoredGroup.{Snapshot}
use Rattle.raft_group_step.specs.Message.{Message}
use Rattle.raft_messages.specs.declared.message.Message.{Message as Sent}
use Rattle.raft_executor.specs.Said.{SaysAll}

-- the ones say what they say, and then the others
pub said_both : {X : Type 0} (stands : X → Snapshot → Type 0) (xs zs : List (Sent X)) (ys ws : List Message)
    → SaysAll stands xs ys → SaysAll stands zs ws → SaysAll stands (xs ++ zs) (ys ++ ws)
said_both stands [] zs [] ws h k = k
said_both stands [] zs (y ∷ ys) ws h k = absurd h
said_both stands (x ∷ xs) zs [] ws h k = absurd h
said_both stands (x ∷ xs) zs (y ∷ ys) ws h k = (h.0, said_both stands xs zs ys ws h.1 k)

-- so do messages that are those
pub said_more : {X : Type 0} (stands : X → Snapshot → Type 0) (xs zs all : List (Sent X)) (ys ws : List Message)
    → SaysAll stands xs ys → SaysAll stands zs ws → all ≡ xs ++ zs → SaysAll stands all (ys ++ ws)
said_more {X} stands xs zs all ys ws h k e = subst (λ (l : List (Sent X)). SaysAll stands l (ys ++ ws)) (sym e) (said_both stands xs zs ys ws h k)
