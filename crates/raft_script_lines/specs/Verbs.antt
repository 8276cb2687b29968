-- The words that events begin with.
use Rattle.std.specs.Prelude.{ℕ, List, [], ◌∷◌, Option, Some, None, if◌then◌else◌, codes}
use Rattle.std.specs.Str.{bytes_eq}
use Rattle.raft_script_lines.specs.declared.verb.Verb.{Verb}
use Rattle.raft_script_lines.specs.declared.verb.Verb.TheVariants.{Two, Three, Key, Put, Init, Addr, Voters, Deliver, Clean, Crash}
use Rattle.raft_script_lines.specs.declared.verb.WordOfTwo.TheVariants.{Add, Elect, Heartbeat, Snapshot, Reopen}
use Rattle.raft_script_lines.specs.declared.verb.WordOfThree.TheVariants.{Propose, Lost, Purge}
use Rattle.raft_script_lines.specs.declared.verb.WordOfKey.TheVariants.{Get, Drop}

-- the verb that a word of this list spells
abbrev pub found : List ℕ → List (List ℕ × Verb) → Option Verb
found word [] = None
found word (entry ∷ others) = if bytes_eq word entry.0 then Some entry.1 else found word others

abbrev pub verbs : List (List ℕ × Verb)
verbs =
    (codes "add", Two Add)
    ∷ (codes "elect", Two Elect)
    ∷ (codes "heartbeat", Two Heartbeat)
    ∷ (codes "snapshot", Two Snapshot)
    ∷ (codes "reopen", Two Reopen)
    ∷ (codes "propose", Three Propose)
    ∷ (codes "lost", Three Lost)
    ∷ (codes "purge", Three Purge)
    ∷ (codes "put", Put)
    ∷ (codes "get", Key Get)
    ∷ (codes "drop", Key Drop)
    ∷ (codes "init", Init)
    ∷ (codes "addr", Addr)
    ∷ (codes "voters", Voters)
    ∷ (codes "deliver", Deliver)
    ∷ (codes "clean", Clean)
    ∷ (codes "crash", Crash)
    ∷ []

abbrev pub verb_of : List ℕ → Option Verb
verb_of word = found word verbs
