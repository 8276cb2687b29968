-- How commands are spelled, and which words spell none.
use Rattle.std.specs.Prelude.{◌≡◌, ◌≢◌, ◌<◌, ℕ, List, [], ◌∷◌, length, codes}
use Rattle.raft_log_files.specs.declared.recovery.RecoveryMode.{RecoveryMode}
use Rattle.raft_log_files.specs.declared.recovery.RecoveryMode.TheVariants.{AbsoluteConsistency, TolerateAnyCorruption, TolerateTailCorruption}
use Rattle.raft_log_tool.specs.declared.command.Command.{Command}
use Rattle.raft_log_tool.specs.declared.command.Command.TheVariants as command
use Rattle.raft_log_tool.specs.declared.command.CommandError.{CommandError}
use Rattle.raft_log_tool.specs.declared.command.CommandError.TheVariants.{NoCommand, NoDirectory, NoMode, NoTarget, TooMany, Unknown, UnknownMode}
use Rattle.raft_log_tool.specs.declared.command.Verb.{Verb}
use Rattle.raft_log_tool.specs.declared.command.Verb.TheVariants as verb

-- the name of a command
abbrev pub verb_text : Verb → List ℕ
verb_text verb.Help = codes "--help"
verb_text verb.Dump = codes "dump"
verb_text verb.Check = codes "check"
verb_text verb.Span = codes "span"
verb_text verb.Sizes = codes "sizes"
verb_text verb.Copy = codes "copy"
verb_text verb.Repair = codes "repair"

-- the name of a mode, as the settings spell it
abbrev pub mode_text : RecoveryMode → List ℕ
mode_text AbsoluteConsistency = codes "absolute-consistency"
mode_text TolerateTailCorruption = codes "tolerate-corrupted-tail-records"
mode_text TolerateAnyCorruption = codes "tolerate-any-corruption"

-- no mode has this name
abbrev pub IsNoMode : List ℕ → Type 0
IsNoMode word = (mode : RecoveryMode) → mode_text mode ≢ word

-- the words of a command
abbrev pub words_of : Command → List (List ℕ)
words_of command.Help = verb_text verb.Help ∷ []
words_of (command.Dump directory) = verb_text verb.Dump ∷ directory.now ∷ []
words_of (command.Check directory) = verb_text verb.Check ∷ directory.now ∷ []
words_of (command.Span directory) = verb_text verb.Span ∷ directory.now ∷ []
words_of (command.Sizes directory) = verb_text verb.Sizes ∷ directory.now ∷ []
words_of (command.Copy directory target) = verb_text verb.Copy ∷ directory.now ∷ target.now ∷ []
words_of (command.Repair directory target mode) = verb_text verb.Repair ∷ directory.now ∷ target.now ∷ mode_text mode ∷ []

-- how many words stand behind the name of a command
abbrev pub needs : Verb → ℕ
needs verb.Help = 0
needs verb.Dump = 1
needs verb.Check = 1
needs verb.Span = 1
needs verb.Sizes = 1
needs verb.Copy = 2
needs verb.Repair = 3

-- why words spell no command
abbrev pub IsWrong : CommandError → List (List ℕ) → Type 0
IsWrong NoCommand words = words ≡ []
IsWrong Unknown words = (first : List ℕ) × (rest : List (List ℕ)) × (words ≡ first ∷ rest) × ((name : Verb) → verb_text name ≢ first)
IsWrong NoDirectory words = (name : Verb) × (0 < needs name) × (words ≡ verb_text name ∷ [])
IsWrong NoTarget words = (name : Verb) × (1 < needs name) × (directory : List ℕ) × (words ≡ verb_text name ∷ directory ∷ [])
IsWrong NoMode words = (name : Verb) × (2 < needs name) × (directory target : List ℕ) × (words ≡ verb_text name ∷ directory ∷ target ∷ [])
IsWrong UnknownMode words =
    (name : Verb) × (2 < needs name) × (directory target last : List ℕ) × (words ≡ verb_text name ∷ directory ∷ target ∷ last ∷ []) × IsNoMode last
IsWrong TooMany words = (name : Verb) × (rest : List (List ℕ)) × (needs name < length rest) × (words ≡ verb_text name ∷ rest)
