-- What the contracts say of a stored group that is a storage by itself.
use Rattle.std.proofs.Common.{◌≡◌, ℕ, ◌+◌, true, Bool, List, [], ◌∷◌, map, take, Option, Some, inl, inr, refl, sym, ap, subst, ◌∙◌}
use Rattle.raft_group_step.specs.StoredGroup.{StoredGroup, StoringCommand, Snapshot, after_storing_all}
use Rattle.raft_group_step.specs.Message.{Message, MessageBody, SnapshotRequest}
use Rattle.raft_messages.specs.Messages.{body_of, message_of}
use Rattle.raft_messages.specs.declared.message.MessageBody.{MessageBody as Body}
use Rattle.raft_messages.specs.declared.message.MessageBody.TheVariants.{VoteRequest as AsksForVote, VoteReply as AnswersVote, AppendRequest as SendsEntries}
use Rattle.raft_messages.specs.declared.message.MessageBody.TheVariants.{AppendReply as AnswersEntries, SnapshotRequest as SendsSnapshot, SnapshotReply as AnswersSnapshot}
use Rattle.raft_messages.specs.declared.message.Message.{Message as Sent}
use Rattle.raft_group_storage.specs.Keeping.{Fails, KeepsAll, StandsOrNone}
use Rattle.raft_group_storage.specs.Plain.{IsOnly}
use Rattle.raft_executor.specs.Said.{Says, SaysAll, SaysBody}
use Rattle.raft_executor.specs.Stored.{FailsAmong, IsGiven, StoresAll}

-- a snapshot stands for itself alone
abbrev pub Same : Snapshot → Snapshot → Type 0
Same x y = x ≡ y

-- a group shows itself
pub shows_itself : (s : StoredGroup) → IsOnly s 0 (s ∷ [])
shows_itself s = (refl, inl refl)

-- and nothing else
pub is_shown : (s t : StoredGroup) → IsOnly s 0 (t ∷ []) → s ≡ t
is_shown s t shown = elim shown.1 [ inl e ↦ e | inr miss ↦ absurd miss ]

-- a snapshot that is given stands for itself
pub given_stands : (is_stored : Bool) (given : Option Snapshot) (x : Snapshot) → (is_stored ≡ true → given ≡ Some x) → IsGiven Same is_stored given x
given_stands is_stored given x is = λ stored. subst (λ (o : Option Snapshot). StandsOrNone Same o (Some x)) (sym (is stored)) refl

-- the commands are stored
pub all_stored : (old new : StoredGroup) (commands : List StoringCommand) → StoresAll (IsOnly old) (IsOnly new) 0 commands → new ≡ after_storing_all commands old
all_stored old new commands stores = is_shown new (after_storing_all commands old) (stores old (shows_itself old))

-- so many of them are stored
pub some_stored : (old new : StoredGroup) (at : Fails) (commands : List StoringCommand) → FailsAmong (IsOnly old) (IsOnly new) at 0 commands
    → (number : ℕ) × (new ≡ after_storing_all (take number commands) old)
some_stored old new at commands fails =
    let left = fails old (shows_itself old) in
    elim left.1.1 [ inl e ↦ (left.0, e) | inr more ↦ (left.0 + 1, elim more [ inl e ↦ e | inr miss ↦ absurd miss ]) ]

-- the group is kept
pub is_kept : (old new : StoredGroup) → KeepsAll (IsOnly old) (IsOnly new) → new ≡ old
is_kept old new keeps = is_shown new old (keeps 0 (old ∷ []) (shows_itself old))

-- ---- messages

said_body : (body : Body Snapshot) (said : MessageBody) → SaysBody Same body said → body_of body ≡ said
said_body (AsksForVote request) said says = sym says
said_body (AnswersVote answer) said says = sym says
said_body (SendsEntries m) said says = sym says
said_body (AnswersEntries m) said says = sym says
said_body (SendsSnapshot vote id x) said says = ap (λ (y : Snapshot). SnapshotRequest vote id y) says.1 ∙ sym says.2
said_body (AnswersSnapshot m) said says = sym says

abbrev message_from : ℕ → ℕ → MessageBody → Message
message_from sender addressee body = record { sender = sender; addressee = addressee; body = body }

said_message : (m : Sent Snapshot) (said : Message) → Says Same m said → message_of m ≡ said
said_message m said says =
    ap (λ (n : ℕ). message_from n m.addressee (body_of m.body)) (sym says.0)
    ∙ (ap (λ (n : ℕ). message_from said.sender n (body_of m.body)) (sym says.1)
    ∙ ap (λ (body : MessageBody). message_from said.sender said.addressee body) (said_body m.body said.body says.2))

-- what the messages say is their own text
pub said_all : (sent : List (Sent Snapshot)) (said : List Message) → SaysAll Same sent said → map message_of sent ≡ said
said_all [] [] says = refl
said_all [] (y ∷ ys) says = absurd says
said_all (x ∷ xs) [] says = absurd says
said_all (x ∷ xs) (y ∷ ys) says =
    ap (λ (m : Message). m ∷ map message_of xs) (said_message x y says.0) ∙ ap (λ (l : List Message). y ∷ l) (said_all xs ys says.1)
