-- What moves the state machine, as the queue grows.
use Rattle.std.specs.Prelude.{◌≡◌, ◌<◌, ◌≤◌, ◌+◌, ◌-◌, ℕ, zero, suc, List, [], ◌∷◌, ◌++◌, Option, Some, refl}
use Rattle.std.specs.List.{range_with_len}
use Rattle.std.proofs.Common.{ap, ap₂, sym, subst, ◌∙◌, arith, append-nil}
use Rattle.raft_values.specs.declared.log_id.LogId.{LogId}
use Rattle.raft_values.specs.LogId.{next_place}
use Rattle.raft_commands.specs.declared.command.Command.TheVariants.{BecomeLeader, QuitLeader, AppendInputEntries, ReplicateCommitted, Commit}
use Rattle.raft_commands.specs.declared.command.Command.TheVariants.{Replicate, RebuildReplicationStreams, SaveVote, SendVote, PurgeLog}
use Rattle.raft_commands.specs.declared.command.Command.TheVariants.{DeleteConflictLog, StateMachine, Respond}
use Rattle.raft_engine.specs.Commands.{Command}
use Rattle.raft_engine.specs.Committing.{MachineMove, Applies, Installs, TakesEntries, Moves, moves_in, moves_of}
use Rattle.raft_engine.specs.Applying.{MovesBringEachPlace, places_between, places_brought}
use Rattle.raft_engine.specs.Numbering.{number_in}
use Rattle.raft_engine.proofs.CommandLemmas.{one_more}

-- moves that end somewhere, and one more from there on
pub moves_on : (from : Option (LogId ℕ)) (moves : List MachineMove) (at : Option (LogId ℕ)) (m : MachineMove) (to : Option (LogId ℕ)) → Moves from moves at → Moves at (m ∷ []) to → Moves from (moves ++ m ∷ []) to
moves_on from [] at m to h more = subst (λ y. Moves y (m ∷ []) to) h more
moves_on from (Applies behind upto ∷ moves) at m to h more = (h.0, h.1, moves_on (Some upto) moves at m to h.2 more)
moves_on from (Installs last ∷ moves) at m to h more = (h.0, moves_on last moves at m to h.1 more)
moves_on from (TakesEntries ∷ moves) at m to h more = absurd h

module _ {C R : Type 0} where
  -- a command without a number moves nothing
  pub unmoved : (c : Command C R) → number_in c ≡ [] → moves_of c ≡ []
  unmoved BecomeLeader h = refl
  unmoved QuitLeader h = refl
  unmoved (AppendInputEntries vote entries) h = refl
  unmoved (ReplicateCommitted target vote matching committed) h = refl
  unmoved (Commit seq behind upto) h = cc h
  unmoved (Replicate target request) h = refl
  unmoved (RebuildReplicationStreams targets) h = refl
  unmoved (SaveVote vote) h = refl
  unmoved (SendVote target request) h = refl
  unmoved (PurgeLog upto) h = refl
  unmoved (DeleteConflictLog since) h = refl
  unmoved (StateMachine command) h = cc h
  unmoved (Respond condition answer) h = refl

  module _ (from at to : Option (LogId ℕ)) (old new : List (Command C R)) (moves : Moves from (moves_in old) at) where
    -- the same queue, with as much committed
    pub moves_same : new ≡ old → to ≡ at → Moves from (moves_in new) to
    moves_same queue stays = subst (Moves from (moves_in new)) (sym stays) (subst (λ q. Moves from (moves_in q) at) (sym queue) moves)

    module _ (c : Command C R) (queue : new ≡ old ++ c ∷ []) where
      -- a command that moves nothing is pushed
      pub moves_kept : moves_of c ≡ [] → to ≡ at → Moves from (moves_in new) to
      moves_kept none stays =
          let all : moves_in new ≡ moves_in old = ap moves_in queue ∙ one_more moves_of old c ∙ ap (λ ms. moves_in old ++ ms) none ∙ append-nil (moves_in old) in
          subst (Moves from (moves_in new)) (sym stays) (subst (λ ms. Moves from ms at) (sym all) moves)

      -- a command that moves it on is pushed
      pub moves_gained : (m : MachineMove) → moves_of c ≡ m ∷ [] → Moves at (m ∷ []) to → Moves from (moves_in new) to
      moves_gained m one more =
          let all : moves_in new ≡ moves_in old ++ m ∷ [] = ap moves_in queue ∙ one_more moves_of old c ∙ ap (λ ms. moves_in old ++ ms) one in
          subst (λ ms. Moves from ms to) (sym all) (moves_on from (moves_in old) at m to moves more)

-- ---- the places that moves bring

ranges_join : (a m n : ℕ) → range_with_len a m ++ range_with_len (a + m) n ≡ range_with_len a (m + n)
ranges_join a zero n = ap₂ range_with_len (omega arith) (omega arith)
ranges_join a (suc m) n =
    let next : a + suc m ≡ a + 1 + m = omega arith in
    let more : suc m + n ≡ suc (m + n) = omega arith in
    ap (λ k. a ∷ (range_with_len (a + 1) m ++ range_with_len k n)) next
    ∙ ap (λ ps. a ∷ ps) (ranges_join (a + 1) m n) ∙ ap (range_with_len a) (sym more)

between_join : (a b c : ℕ) → a ≤ b → b ≤ c → places_between a b ++ places_between b c ≡ places_between a c
between_join a b c l m =
    let middle : b ≡ a + (b - a) = omega arith in
    let whole : b - a + (c - b) ≡ c - a = omega arith in
    ap (λ k. range_with_len a (b - a) ++ range_with_len k (c - b)) middle ∙ ranges_join a (b - a) (c - b) ∙ ap (range_with_len a) whole

brought : (from : Option (LogId ℕ)) (moves : List MachineMove) (to : Option (LogId ℕ)) → Moves from moves to
    → (next_place from ≤ next_place to) × (places_brought (next_place from) moves ≡ places_between (next_place from) (next_place to))
brought from [] to h =
    let same : next_place to ≡ next_place from = ap next_place h in
    let none : 0 ≡ next_place to - next_place from = omega arith in
    (omega arith, ap (range_with_len (next_place from)) none)
brought from (Applies behind upto ∷ moves) to h =
    let rest = brought (Some upto) moves to h.2 in
    let first : next_place from ≤ upto.index = h.1 in
    let last : upto.index + 1 ≤ next_place to = rest.0 in (
      omega arith,
      ap (λ b. places_between (next_place b) (upto.index + 1) ++ places_brought (upto.index + 1) moves) h.0
          ∙ ap (λ ps. places_between (next_place from) (upto.index + 1) ++ ps) rest.1
          ∙ between_join (next_place from) (upto.index + 1) (next_place to) (omega arith) last,
    )
brought from (Installs last ∷ moves) to h =
    let rest = brought last moves to h.1 in
    let first : next_place from < next_place last = h.0 in
    let ends : next_place last ≤ next_place to = rest.0 in (
      omega arith,
      ap (λ ps. places_between (next_place from) (next_place last) ++ ps) rest.1
          ∙ between_join (next_place from) (next_place last) (next_place to) (omega arith) ends,
    )
brought from (TakesEntries ∷ moves) to h = absurd h

pub each_place : MovesBringEachPlace
each_place = λ from to moves h. (brought from moves to h).1
