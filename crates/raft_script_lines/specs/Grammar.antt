-- The grammar of a script's lines: which bytes spell which line.
use Rattle.std.specs.Prelude.{◌≡◌, ◌≢◌, ℕ, ◌<◌, ◌≤◌, false, List, [], ◌∷◌, ◌++◌, length, map, Option, Some, None, codes}
use Rattle.std.specs.List.{list_any}
use Rattle.std.specs.Str.{IsUtf8}
use Rattle.raft_script_lines.specs.declared.script_line.CrashChoice.{CrashChoice}
use Rattle.raft_script_lines.specs.declared.script_line.CrashChoice.TheVariants.{Least, Most}
use Rattle.raft_script_lines.specs.declared.script_line.ScriptEvent.{ScriptEvent}
use Rattle.raft_script_lines.specs.declared.script_line.ScriptEvent.TheVariants.{Add, Init, Propose, Put, Get, Drop, Elect, Heartbeat, Lost}
use Rattle.raft_script_lines.specs.declared.script_line.ScriptEvent.TheVariants.{Snapshot, Purge, Addr, Voters, Deliver, Clean, Crash, Reopen}
use Rattle.raft_script_lines.specs.declared.script_line.ScriptLine.{ScriptLine}
use Rattle.raft_script_lines.specs.declared.script_line.ScriptLine.TheVariants.{Skipped, Nodes, Kv, Now, Total, Happens, Fuse}
use Rattle.raft_script_lines.specs.Words.{words_of, is_empty_word, longest_key, longest_line, longest_value, number_of, has_twice}

-- what a word has to be
pub data Word : Type 0 where
  -- these very bytes
  Text : (bytes : List ℕ) → Word
  -- decimal digits, at least one, of this value, which is below 2^64
  Number : (value : ℕ) → Word

abbrev pub IsWord : Word → List ℕ → Type 0
IsWord (Text bytes) word = word ≡ bytes
IsWord (Number value) word = number_of word ≡ Some value

-- the words are these, one after the other
abbrev pub AreWords : List Word → List (List ℕ) → Type 0
AreWords [] [] = Unit {0}
AreWords [] (word ∷ words) = ⊥
AreWords (w ∷ ws) [] = ⊥
AreWords (w ∷ ws) (word ∷ words) = IsWord w word × AreWords ws words

-- ---- the words of each line

abbrev pub learners_behind : List ℕ → List Word
learners_behind [] = []
learners_behind (id ∷ ids) = Text (codes "/") ∷ Number id ∷ map Number ids

abbrev pub cut_behind : Option ℕ → List Word
cut_behind None = []
cut_behind (Some cut) = Number cut ∷ []

abbrev pub choice_word : CrashChoice → List ℕ
choice_word Least = codes "least"
choice_word Most = codes "most"

abbrev pub event_words : ScriptEvent → List Word
event_words (Add node group) = Text (codes "add") ∷ Number node ∷ Number group ∷ []
event_words (Init node group voters learners) =
    Text (codes "init") ∷ Number node ∷ Number group ∷ (map Number voters ++ learners_behind learners)
event_words (Propose node group amount) = Text (codes "propose") ∷ Number node ∷ Number group ∷ Number amount ∷ []
event_words (Put node group key value) =
    Text (codes "put") ∷ Number node ∷ Number group ∷ Text key ∷ Text value ∷ []
event_words (Get node group key) = Text (codes "get") ∷ Number node ∷ Number group ∷ Text key ∷ []
event_words (Drop node group key) = Text (codes "drop") ∷ Number node ∷ Number group ∷ Text key ∷ []
event_words (Elect node group) = Text (codes "elect") ∷ Number node ∷ Number group ∷ []
event_words (Heartbeat node group) = Text (codes "heartbeat") ∷ Number node ∷ Number group ∷ []
event_words (Lost node group peer) = Text (codes "lost") ∷ Number node ∷ Number group ∷ Number peer ∷ []
event_words (Snapshot node group) = Text (codes "snapshot") ∷ Number node ∷ Number group ∷ []
event_words (Purge node group index) = Text (codes "purge") ∷ Number node ∷ Number group ∷ Number index ∷ []
event_words (Addr node group id address) =
    Text (codes "addr") ∷ Number node ∷ Number group ∷ Number id ∷ Text address ∷ []
event_words (Voters node group ids) = Text (codes "voters") ∷ Number node ∷ Number group ∷ map Number ids
event_words (Deliver group number cut) = Text (codes "deliver") ∷ Number group ∷ Number number ∷ cut_behind cut
event_words (Clean node) = Text (codes "clean") ∷ Number node ∷ []
event_words (Crash node choice) = Text (codes "crash") ∷ Number node ∷ Text (choice_word choice) ∷ []
event_words (Reopen node workers) = Text (codes "reopen") ∷ Number node ∷ Number workers ∷ []

abbrev pub line_words : ScriptLine → List Word
line_words Skipped = []
line_words (Nodes count) = Text (codes "nodes") ∷ Number count ∷ []
line_words (Kv count) = Text (codes "kv") ∷ Number count ∷ []
line_words (Now tick) = Text (codes "now") ∷ Number tick ∷ []
line_words (Total node group) = Text (codes "total") ∷ Number node ∷ Number group ∷ []
line_words (Happens event) = event_words event
line_words (Fuse calls event) = Text (codes "fuse") ∷ Number calls ∷ event_words event

-- ---- what a value may be

-- ids, one at least and none twice
abbrev pub IsIdList : List ℕ → Type 0
IsIdList ids = (0 < length ids) × (has_twice ids ≡ false)

-- a word has a byte at least, and so has a key
abbrev pub IsKey : List ℕ → Type 0
IsKey key = length key ≤ longest_key

-- `-` stands for no value
abbrev pub IsValue : List ℕ → Type 0
IsValue value = (length value ≤ longest_value) × (value ≢ codes "-")

abbrev pub IsAllowedEvent : ScriptEvent → Type 0
IsAllowedEvent (Put node group key value) = IsKey key × IsValue value
IsAllowedEvent (Get node group key) = IsKey key
IsAllowedEvent (Drop node group key) = IsKey key
IsAllowedEvent (Init node group voters learners) = IsIdList voters × (has_twice learners ≡ false)
IsAllowedEvent (Voters node group ids) = IsIdList ids
IsAllowedEvent _ = Unit {0}

-- as many nodes as a cluster may have
abbrev pub IsCount : ℕ → Type 0
IsCount count = (1 ≤ count) × (count ≤ 9)

abbrev pub IsAllowed : ScriptLine → Type 0
IsAllowed (Nodes count) = IsCount count
IsAllowed (Kv count) = IsCount count
IsAllowed (Happens event) = IsAllowedEvent event
IsAllowed (Fuse calls event) = (1 ≤ calls) × IsAllowedEvent event
IsAllowed _ = Unit {0}

-- ---- lines

-- an empty line, or a comment: it begins with `#`
abbrev pub IsSkipped : List ℕ → Type 0
IsSkipped [] = Unit {0}
IsSkipped (byte ∷ bytes) = byte ≡ 35

-- the bytes are the line's words with one space between two of them, and none before the first or after the last
pub record HasWords (line : ScriptLine) (bytes : List ℕ) : Type 0 where
  pub words : AreWords (line_words line) (words_of bytes)
  pub parted : list_any is_empty_word (words_of bytes) ≡ false
  pub allowed : IsAllowed line

abbrev pub Says : ScriptLine → List ℕ → Type 0
Says Skipped bytes = IsSkipped bytes
Says line bytes = HasWords line bytes

-- these bytes, their newline not among them, spell this line
pub record Spells (line : ScriptLine) (bytes : List ℕ) : Type 0 where
  pub short : length bytes ≤ longest_line
  pub text : IsUtf8 bytes
  pub says : Says line bytes
