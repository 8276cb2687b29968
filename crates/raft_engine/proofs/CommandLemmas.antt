-- What the commands of a queue stand for, as the queue grows.
use Rattle.std.specs.Prelude.{◌≡◌, ℕ, List, [], ◌∷◌, ◌++◌, Option, refl}
use Rattle.std.proofs.Common.{ap, sym, subst, ◌∙◌, append-nil}
use Rattle.std.proofs.lemmas.Grind.{flat_map-append}
use Rattle.std.specs.List.{All, flat_map}
use Rattle.std.proofs.lemmas.List.Elements.{All-append, All-cons, All-nil}
use Rattle.raft_values.specs.declared.log_id.LogId.{LogId}
use Rattle.raft_group_step.specs.StoredGroup.{StoredGroup, Snapshot, StoringCommand}
use Rattle.raft_group_step.specs.Message.{Message}
use Rattle.raft_engine.specs.Commands.{Command, storing_of, sending_of, stored_by, sent_by}
use Rattle.raft_commands.specs.Output.{following_seq}
use Rattle.raft_engine.specs.Answering.{NeedsNoOther}
use Rattle.raft_engine.specs.Numbering.{Follow, GainsNumber, KeepsNumbers, NumbersFollow, Output, number_in, numbers_in}

pub one_more : {X A : Type 0} (f : X → List A) (queue : List X) (c : X) → flat_map f (queue ++ c ∷ []) ≡ flat_map f queue ++ f c
one_more f queue c = flat_map-append f queue (c ∷ []) ∙ ap (λ xs. flat_map f queue ++ xs) (append-nil (f c))

module _ {C R : Type 0} (queue : List (Command C R)) (c : Command C R) where
  -- a command behind the others stores after them
  pub stores_more : (x : Snapshot) (cs more : List StoringCommand) → stored_by x queue ≡ cs → storing_of x c ≡ more → stored_by x (queue ++ c ∷ []) ≡ cs ++ more
  stores_more x cs more e f = one_more (storing_of x) queue c ∙ ap (λ front. front ++ storing_of x c) e ∙ ap (λ rest. cs ++ rest) f

  pub stores_same : (x : Snapshot) (cs : List StoringCommand) → stored_by x queue ≡ cs → storing_of x c ≡ [] → stored_by x (queue ++ c ∷ []) ≡ cs
  stores_same x cs e f = stores_more x cs [] e f ∙ append-nil cs

  -- and sends after them
  pub sends_more : (own : ℕ) (s : StoredGroup) (upto : Option (LogId ℕ)) (ms more : List Message) → sent_by own s upto queue ≡ ms → sending_of own s upto c ≡ more → sent_by own s upto (queue ++ c ∷ []) ≡ ms ++ more
  sends_more own s upto ms more e f = one_more (sending_of own s upto) queue c ∙ ap (λ front. front ++ sending_of own s upto c) e ∙ ap (λ rest. ms ++ rest) f

  pub sends_same : (own : ℕ) (s : StoredGroup) (upto : Option (LogId ℕ)) (ms : List Message) → sent_by own s upto queue ≡ ms → sending_of own s upto c ≡ [] → sent_by own s upto (queue ++ c ∷ []) ≡ ms
  sends_same own s upto ms e f = sends_more own s upto ms [] e f ∙ append-nil ms

  -- and its number is behind theirs
  pub numbers_more : numbers_in (queue ++ c ∷ []) ≡ numbers_in queue ++ number_in c
  numbers_more = one_more number_in queue c

  -- and it waits for no others than those before it
  pub at_once_more : (new : List (Command C R)) → new ≡ queue ++ c ∷ [] → All NeedsNoOther queue → NeedsNoOther c → All NeedsNoOther new
  at_once_more new pushed all this = subst (All NeedsNoOther) (sym pushed) (All-append NeedsNoOther queue (c ∷ []) all (All-cons NeedsNoOther c [] this (All-nil NeedsNoOther)))

-- a number that is gained once others are kept is gained in all
pub gained_after : {C R : Type 0} (a b c : Output C R) → KeepsNumbers a b → GainsNumber b c → GainsNumber a c
gained_after a b c kept gained = (
  gained.0 ∙ ap (λ ns. ns ++ following_seq b.last_sm_seq ∷ []) kept.0 ∙ ap (λ last. numbers_in a.queue ++ following_seq last ∷ []) kept.1,
  gained.1 ∙ ap following_seq kept.1,
)

-- numbers that follow one another, and the next one
follows_more : (before : ℕ) (ns : List ℕ) (last : ℕ) → Follow before ns last → Follow before (ns ++ following_seq last ∷ []) (following_seq last)
follows_more before [] last h = (ap following_seq h, refl)
follows_more before (n ∷ ns) last h = (h.0, follows_more n ns last h.1)

module _ {C R : Type 0} (before : ℕ) (old new : Output C R) (c : Command C R) (follow : NumbersFollow before old) where
  -- a command without a number is pushed
  pub numbers_kept : new ≡ record old { queue = old.queue ++ c ∷ [] } → number_in c ≡ [] → NumbersFollow before new
  numbers_kept pushed none =
      subst (NumbersFollow before) (sym pushed)
      (subst (λ ns. Follow before ns old.last_sm_seq)
      (sym (numbers_more old.queue c ∙ ap (λ ns. numbers_in old.queue ++ ns) none ∙ append-nil (numbers_in old.queue))) follow)

  -- a command with the next number is pushed
  pub numbers_gained : new ≡ record { queue = old.queue ++ c ∷ []; last_sm_seq = following_seq old.last_sm_seq } → number_in c ≡ following_seq old.last_sm_seq ∷ [] → NumbersFollow before new
  numbers_gained pushed next =
      subst (NumbersFollow before) (sym pushed)
      (subst (λ ns. Follow before ns (following_seq old.last_sm_seq))
      (sym (numbers_more old.queue c ∙ ap (λ ns. numbers_in old.queue ++ ns) next)) (follows_more before (numbers_in old.queue) old.last_sm_seq follow))
