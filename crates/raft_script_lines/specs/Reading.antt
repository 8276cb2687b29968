-- What a line is read as, or the first reason why it is no event.
use Rattle.std.specs.Prelude.{ℕ, Bool, true, false, ◌==◌, ◌||◌, not, nat_lt, if◌then◌else◌, List, [], ◌∷◌, length, Option, Some, None, Result, Ok, Err, codes}
use Rattle.std.specs.List.{list_any}
use Rattle.std.specs.Str.{bytes_eq, is_utf8}
use Rattle.raft_script_lines.specs.declared.script_line.CrashChoice.{CrashChoice}
use Rattle.raft_script_lines.specs.declared.script_line.CrashChoice.TheVariants.{Least, Most}
use Rattle.raft_script_lines.specs.declared.script_line.ScriptEvent.{ScriptEvent}
use Rattle.raft_script_lines.specs.declared.script_line.ScriptEvent.TheVariants as events
use Rattle.raft_script_lines.specs.declared.script_line.ScriptLine.{ScriptLine}
use Rattle.raft_script_lines.specs.declared.script_line.ScriptLine.TheVariants.{Skipped, Nodes, Kv, Now, Total, Happens, Fuse}
use Rattle.raft_script_lines.specs.declared.verb.Verb.{Verb}
use Rattle.raft_script_lines.specs.declared.verb.Verb.TheVariants as verbs
use Rattle.raft_script_lines.specs.declared.verb.WordOfTwo.{WordOfTwo}
use Rattle.raft_script_lines.specs.declared.verb.WordOfTwo.TheVariants.{Add, Elect, Heartbeat, Snapshot, Reopen}
use Rattle.raft_script_lines.specs.declared.verb.WordOfThree.{WordOfThree}
use Rattle.raft_script_lines.specs.declared.verb.WordOfThree.TheVariants.{Propose, Lost, Purge}
use Rattle.raft_script_lines.specs.declared.verb.WordOfKey.{WordOfKey}
use Rattle.raft_script_lines.specs.declared.verb.WordOfKey.TheVariants.{Get, Drop}
use Rattle.raft_script_lines.specs.declared.no_event.NoEvent.{NoEvent}
use Rattle.raft_script_lines.specs.declared.no_event.NoEvent.TheVariants.{TooLong, NotUtf8, SpareSpace, UnknownWord, WrongCount, NotANumber, OutOfRange, IdTwice, UnknownChoice}
use Rattle.raft_script_lines.specs.Words.{words_of, no_words, is_empty_word, longest_key, longest_line, longest_value, number_of, numbers_of, has_twice}
use Rattle.raft_script_lines.specs.Verbs.{verb_of}

-- a reading that goes on where it found no reason
abbrev pub then_by : {A B : Type 0} → Result A NoEvent → (A → Result B NoEvent) → Result B NoEvent
then_by (Ok value) more = more value
then_by (Err why) more = Err why

abbrev pub given : {A : Type 0} → NoEvent → Option A → Result A NoEvent
given why (Some value) = Ok value
given why None = Err why

abbrev pub unless : {A : Type 0} → Bool → NoEvent → A → Result A NoEvent
unless true why value = Err why
unless false why value = Ok value

-- ---- numbers

abbrev pub number_in : List ℕ → Result ℕ NoEvent
number_in word = given NotANumber (number_of word)

abbrev pub numbers_in : List (List ℕ) → Result (List ℕ) NoEvent
numbers_in words = given NotANumber (numbers_of words)

abbrev pub one_number : List (List ℕ) → Result ℕ NoEvent
one_number [] = Err WrongCount
one_number (a ∷ []) = number_in a
one_number (a ∷ b ∷ more) = Err WrongCount

abbrev pub two_numbers : List (List ℕ) → Result (ℕ × ℕ) NoEvent
two_numbers [] = Err WrongCount
two_numbers (a ∷ []) = Err WrongCount
two_numbers (a ∷ b ∷ []) = then_by (number_in a) (λ x. then_by (number_in b) (λ y. Ok (x, y)))
two_numbers (a ∷ b ∷ c ∷ more) = Err WrongCount

abbrev pub three_numbers : List (List ℕ) → Result (ℕ × ℕ × ℕ) NoEvent
three_numbers [] = Err WrongCount
three_numbers (a ∷ []) = Err WrongCount
three_numbers (a ∷ b ∷ []) = Err WrongCount
three_numbers (a ∷ b ∷ c ∷ []) =
    then_by (number_in a) (λ x. then_by (number_in b) (λ y. then_by (number_in c) (λ z. Ok (x, y, z))))
three_numbers (a ∷ b ∷ c ∷ d ∷ more) = Err WrongCount

-- ---- lists

abbrev pub is_slash : List ℕ → Bool
is_slash word = bytes_eq word (codes "/")

-- the words before the first `/`
abbrev pub before_slash : List (List ℕ) → List (List ℕ)
before_slash [] = []
before_slash (word ∷ words) = if is_slash word then [] else word ∷ before_slash words

-- the words behind the first `/`, if there is one
abbrev pub behind_slash : List (List ℕ) → Option (List (List ℕ))
behind_slash [] = None
behind_slash (word ∷ words) = if is_slash word then Some words else behind_slash words

abbrev pub are_missing : Option (List (List ℕ)) → Bool
are_missing None = false
are_missing (Some words) = no_words words

abbrev pub or_none : Option (List (List ℕ)) → List (List ℕ)
or_none None = []
or_none (Some words) = words

-- a list is missing before or behind the `/`
abbrev pub lacks_list : List (List ℕ) → Bool
lacks_list words = no_words (before_slash words) || are_missing (behind_slash words)

abbrev pub once_each : List ℕ → Result (List ℕ) NoEvent
once_each ids = unless (has_twice ids) IdTwice ids

-- ---- keys and values

abbrev pub key_in : List ℕ → Result (List ℕ) NoEvent
key_in word = unless (nat_lt longest_key (length word)) OutOfRange word

abbrev pub value_in : List ℕ → Result (List ℕ) NoEvent
value_in word = unless (nat_lt longest_value (length word) || bytes_eq word (codes "-")) OutOfRange word

-- ---- events

abbrev pub event_with_two : WordOfTwo → ℕ → ℕ → ScriptEvent
event_with_two Add node group = events.Add node group
event_with_two Elect node group = events.Elect node group
event_with_two Heartbeat node group = events.Heartbeat node group
event_with_two Snapshot node group = events.Snapshot node group
event_with_two Reopen node workers = events.Reopen node workers

abbrev pub event_with_three : WordOfThree → ℕ → ℕ → ℕ → ScriptEvent
event_with_three Propose node group amount = events.Propose node group amount
event_with_three Lost node group peer = events.Lost node group peer
event_with_three Purge node group index = events.Purge node group index

abbrev pub event_with_key : WordOfKey → ℕ → ℕ → List ℕ → ScriptEvent
event_with_key Get node group key = events.Get node group key
event_with_key Drop node group key = events.Drop node group key

abbrev pub put_with : List ℕ → List ℕ → List ℕ → List ℕ → Result ScriptEvent NoEvent
put_with n g k v =
    then_by (number_in n) (λ node. then_by (number_in g) (λ group. then_by (key_in k) (λ key. then_by (value_in v) (λ value.
    Ok (events.Put node group key value)))))

abbrev pub put_in : List (List ℕ) → Result ScriptEvent NoEvent
put_in [] = Err WrongCount
put_in (n ∷ []) = Err WrongCount
put_in (n ∷ g ∷ []) = Err WrongCount
put_in (n ∷ g ∷ k ∷ []) = Err WrongCount
put_in (n ∷ g ∷ k ∷ v ∷ []) = put_with n g k v
put_in (n ∷ g ∷ k ∷ v ∷ more ∷ words) = Err WrongCount

abbrev pub key_event_in : WordOfKey → List (List ℕ) → Result ScriptEvent NoEvent
key_event_in word [] = Err WrongCount
key_event_in word (n ∷ []) = Err WrongCount
key_event_in word (n ∷ g ∷ []) = Err WrongCount
key_event_in word (n ∷ g ∷ k ∷ []) =
    then_by (number_in n) (λ node. then_by (number_in g) (λ group. then_by (key_in k) (λ key.
    Ok (event_with_key word node group key))))
key_event_in word (n ∷ g ∷ k ∷ more ∷ words) = Err WrongCount

abbrev pub init_with : List ℕ → List ℕ → List (List ℕ) → Result ScriptEvent NoEvent
init_with n g lists =
    then_by (number_in n) (λ node. then_by (number_in g) (λ group.
    then_by (numbers_in (before_slash lists)) (λ voters. then_by (numbers_in (or_none (behind_slash lists))) (λ learners.
    then_by (once_each voters) (λ _. then_by (once_each learners) (λ _.
    Ok (events.Init node group voters learners)))))))

abbrev pub init_in : List (List ℕ) → Result ScriptEvent NoEvent
init_in [] = Err WrongCount
init_in (n ∷ []) = Err WrongCount
init_in (n ∷ g ∷ lists) = if lacks_list lists then Err WrongCount else init_with n g lists

abbrev pub voters_with : List ℕ → List ℕ → List (List ℕ) → Result ScriptEvent NoEvent
voters_with n g list =
    then_by (number_in n) (λ node. then_by (number_in g) (λ group. then_by (numbers_in list) (λ ids.
    then_by (once_each ids) (λ _. Ok (events.Voters node group ids)))))

abbrev pub voters_in : List (List ℕ) → Result ScriptEvent NoEvent
voters_in [] = Err WrongCount
voters_in (n ∷ []) = Err WrongCount
voters_in (n ∷ g ∷ list) = if no_words list then Err WrongCount else voters_with n g list

abbrev pub addr_with : List ℕ → List ℕ → List ℕ → List ℕ → Result ScriptEvent NoEvent
addr_with n g i text =
    then_by (number_in n) (λ node. then_by (number_in g) (λ group. then_by (number_in i) (λ id.
    Ok (events.Addr node group id text))))

abbrev pub addr_in : List (List ℕ) → Result ScriptEvent NoEvent
addr_in [] = Err WrongCount
addr_in (n ∷ []) = Err WrongCount
addr_in (n ∷ g ∷ []) = Err WrongCount
addr_in (n ∷ g ∷ i ∷ []) = Err WrongCount
addr_in (n ∷ g ∷ i ∷ text ∷ []) = addr_with n g i text
addr_in (n ∷ g ∷ i ∷ text ∷ more ∷ words) = Err WrongCount

abbrev pub deliver_in : List (List ℕ) → Result ScriptEvent NoEvent
deliver_in [] = Err WrongCount
deliver_in (g ∷ []) = Err WrongCount
deliver_in (g ∷ n ∷ []) =
    then_by (number_in g) (λ group. then_by (number_in n) (λ number. Ok (events.Deliver group number None)))
deliver_in (g ∷ n ∷ c ∷ []) =
    then_by (number_in g) (λ group. then_by (number_in n) (λ number. then_by (number_in c) (λ cut.
    Ok (events.Deliver group number (Some cut)))))
deliver_in (g ∷ n ∷ c ∷ more ∷ words) = Err WrongCount

abbrev pub choice_in : List ℕ → Result CrashChoice NoEvent
choice_in word =
    if bytes_eq word (codes "least") then Ok Least else (if bytes_eq word (codes "most") then Ok Most else Err UnknownChoice)

abbrev pub crash_in : List (List ℕ) → Result ScriptEvent NoEvent
crash_in [] = Err WrongCount
crash_in (n ∷ []) = Err WrongCount
crash_in (n ∷ word ∷ []) =
    then_by (number_in n) (λ node. then_by (choice_in word) (λ choice. Ok (events.Crash node choice)))
crash_in (n ∷ word ∷ more ∷ words) = Err WrongCount

abbrev pub event_after : Option Verb → List (List ℕ) → Result ScriptEvent NoEvent
event_after None words = Err UnknownWord
event_after (Some (verbs.Two word)) words = then_by (two_numbers words) (λ n. Ok (event_with_two word n.0 n.1))
event_after (Some (verbs.Three word)) words = then_by (three_numbers words) (λ n. Ok (event_with_three word n.0 n.1 n.2))
event_after (Some (verbs.Key word)) words = key_event_in word words
event_after (Some verbs.Put) words = put_in words
event_after (Some verbs.Init) words = init_in words
event_after (Some verbs.Addr) words = addr_in words
event_after (Some verbs.Voters) words = voters_in words
event_after (Some verbs.Deliver) words = deliver_in words
event_after (Some verbs.Clean) words = then_by (one_number words) (λ node. Ok (events.Clean node))
event_after (Some verbs.Crash) words = crash_in words

-- an event: its verb, and what follows it
abbrev pub event_in : List (List ℕ) → Result ScriptEvent NoEvent
event_in [] = Err WrongCount
event_in (word ∷ words) = event_after (verb_of word) words

-- ---- lines

-- how many nodes there are to be
abbrev pub count_in : List (List ℕ) → Result ℕ NoEvent
count_in words = then_by (one_number words) (λ count. unless (count == 0 || nat_lt 9 count) OutOfRange count)

abbrev pub fuse_with : List ℕ → List (List ℕ) → Result ScriptLine NoEvent
fuse_with k words =
    then_by (number_in k) (λ calls. then_by (unless (calls == 0) OutOfRange calls) (λ _.
    then_by (event_in words) (λ event. Ok (Fuse calls event))))

-- what follows `fuse`: a number, then an event, which is judged for itself
abbrev pub fuse_in : List (List ℕ) → Result ScriptLine NoEvent
fuse_in [] = Err WrongCount
fuse_in (k ∷ words) = if no_words words then Err WrongCount else fuse_with k words

-- a line's words, none of which is empty
abbrev pub line_in : List (List ℕ) → Result ScriptLine NoEvent
line_in [] = Err UnknownWord
line_in (word ∷ words) =
    if bytes_eq word (codes "nodes") then then_by (count_in words) (λ count. Ok (Nodes count))
    else (if bytes_eq word (codes "kv") then then_by (count_in words) (λ count. Ok (Kv count))
    else (if bytes_eq word (codes "now") then then_by (one_number words) (λ tick. Ok (Now tick))
    else (if bytes_eq word (codes "total") then then_by (two_numbers words) (λ n. Ok (Total n.0 n.1))
    else (if bytes_eq word (codes "fuse") then fuse_in words
    else then_by (event_in (word ∷ words)) (λ event. Ok (Happens event))))))

abbrev pub line_with : List (List ℕ) → Result ScriptLine NoEvent
line_with words = if list_any is_empty_word words then Err SpareSpace else line_in words

-- an empty line and a comment are skipped
abbrev pub text_in : List ℕ → Result ScriptLine NoEvent
text_in [] = Ok Skipped
text_in (byte ∷ bytes) = if byte == 35 then Ok Skipped else line_with (words_of (byte ∷ bytes))

unfoldable pub line_of : List ℕ → Result ScriptLine NoEvent
line_of bytes =
    if nat_lt longest_line (length bytes) then Err TooLong
    else (if not (is_utf8 bytes) then Err NotUtf8 else text_in bytes)
