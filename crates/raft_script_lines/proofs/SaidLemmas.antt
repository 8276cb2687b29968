-- An event that the grammar spells is read.
use Rattle.std.proofs.Common.{◌≡◌, ℕ, ◌<◌, ◌≤◌, ltb, Bool, false, ◌||◌, List, [], ◌∷◌, ◌++◌, length, map, Option, Some, None, Err, refl, ◌∙◌, ap, cond, codes, arith}
use Rattle.std.specs.Str.{bytes_eq}
use Rattle.std.proofs.lemmas.Bool.{false_from_ne_true}
use Rattle.std.proofs.lemmas.Slice.Eq.{bytes_eq-Decides}
use Rattle.raft_script_lines.specs.declared.script_line.CrashChoice.{CrashChoice}
use Rattle.raft_script_lines.specs.declared.script_line.CrashChoice.TheVariants.{Least, Most}
use Rattle.raft_script_lines.specs.declared.script_line.ScriptEvent.{ScriptEvent}
use Rattle.raft_script_lines.specs.declared.script_line.ScriptEvent.TheVariants as events
use Rattle.raft_script_lines.specs.declared.verb.WordOfTwo.{WordOfTwo}
use Rattle.raft_script_lines.specs.declared.verb.WordOfTwo.TheVariants.{Add, Elect, Heartbeat, Snapshot, Reopen}
use Rattle.raft_script_lines.specs.declared.verb.WordOfThree.{WordOfThree}
use Rattle.raft_script_lines.specs.declared.verb.WordOfThree.TheVariants.{Propose, Lost, Purge}
use Rattle.raft_script_lines.specs.declared.verb.WordOfKey.{WordOfKey}
use Rattle.raft_script_lines.specs.declared.verb.WordOfKey.TheVariants.{Get, Drop}
use Rattle.raft_script_lines.specs.declared.no_event.NoEvent.TheVariants.{WrongCount, NotANumber, OutOfRange, IdTwice}
use Rattle.raft_script_lines.specs.Grammar.{Word, Text, Number, AreWords, learners_behind, cut_behind, choice_word, event_words, IsAllowedEvent, IsIdList, IsKey, IsValue}
use Rattle.raft_script_lines.specs.Reading.{then_by, given, unless, one_number, two_numbers, three_numbers, before_slash, behind_slash, are_missing, or_none, event_with_two, event_with_three, event_with_key, key_event_in, key_in, put_in, value_in, init_in, init_with, voters_in, voters_with, addr_in, deliver_in, choice_in, crash_in, event_in}
use Rattle.raft_script_lines.specs.Words.{no_words, number_of, numbers_of, has_twice}
use Rattle.raft_script_lines.proofs.NumberLemmas.{okay, then_given, then_unless, then_okay, one_said, two_said, three_said, list_said, lists_said, ListsAre}

two_made : (k : WordOfTwo) (n g : ℕ) (words : List (List ℕ)) → AreWords (Number n ∷ Number g ∷ []) words → then_by (two_numbers words) (λ p. okay (event_with_two k p.0 p.1)) ≡ okay (event_with_two k n g)
two_made k n g words h = then_okay (two_numbers words) (n, g) (λ p. okay (event_with_two k p.0 p.1)) (two_said n g words h)

three_made : (k : WordOfThree) (n g t : ℕ) (words : List (List ℕ)) → AreWords (Number n ∷ Number g ∷ Number t ∷ []) words → then_by (three_numbers words) (λ p. okay (event_with_three k p.0 p.1 p.2)) ≡ okay (event_with_three k n g t)
three_made k n g t words h = then_okay (three_numbers words) (n, g, t) (λ p. okay (event_with_three k p.0 p.1 p.2)) (three_said n g t words h)

nonzero : (words : List (List ℕ)) (ids : List ℕ) → numbers_of words ≡ Some ids → 0 < length ids → no_words words ≡ false
nonzero [] [] e h = let no : 0 < 0 = h in absurd (omega arith)
nonzero [] (id ∷ ids) e h = absurd (cc)
nonzero (word ∷ words) ids e h = refl

init_said : (node group : ℕ) (voters learners : List ℕ) (words : List (List ℕ)) → AreWords (Number node ∷ Number group ∷ (map Number voters ++ learners_behind learners)) words → IsAllowedEvent (events.Init node group voters learners) → init_in words ≡ okay (events.Init node group voters learners)
init_said node group voters learners [] h allowed = absurd h
init_said node group voters learners (n ∷ []) h allowed = absurd h.1
init_said node group voters learners (n ∷ g ∷ lists) h allowed =
    let are : ListsAre voters learners lists = lists_said voters learners lists h.1.1 in
    let event : ScriptEvent = events.Init node group voters learners in
    ap (λ b. cond (b || are_missing (behind_slash lists)) (Err WrongCount) (init_with n g lists)) (nonzero (before_slash lists) voters are.first allowed.0.0)
    ∙ (ap (λ b. cond (false || b) (Err WrongCount) (init_with n g lists)) are.there
    ∙ (then_given NotANumber (number_of n) node (λ a. then_by (given NotANumber (number_of g)) (λ b. then_by (given NotANumber (numbers_of (before_slash lists))) (λ vs. then_by (given NotANumber (numbers_of (or_none (behind_slash lists)))) (λ ls. then_by (unless (has_twice vs) IdTwice vs) (λ _. then_by (unless (has_twice ls) IdTwice ls) (λ _. okay (events.Init a b vs ls))))))) h.0
    ∙ (then_given NotANumber (number_of g) group (λ b. then_by (given NotANumber (numbers_of (before_slash lists))) (λ vs. then_by (given NotANumber (numbers_of (or_none (behind_slash lists)))) (λ ls. then_by (unless (has_twice vs) IdTwice vs) (λ _. then_by (unless (has_twice ls) IdTwice ls) (λ _. okay (events.Init node b vs ls)))))) h.1.0
    ∙ (then_given NotANumber (numbers_of (before_slash lists)) voters (λ vs. then_by (given NotANumber (numbers_of (or_none (behind_slash lists)))) (λ ls. then_by (unless (has_twice vs) IdTwice vs) (λ _. then_by (unless (has_twice ls) IdTwice ls) (λ _. okay (events.Init node group vs ls))))) are.first
    ∙ (then_given NotANumber (numbers_of (or_none (behind_slash lists))) learners (λ ls. then_by (unless (has_twice voters) IdTwice voters) (λ _. then_by (unless (has_twice ls) IdTwice ls) (λ _. okay (events.Init node group voters ls)))) are.second
    ∙ (then_unless (has_twice voters) IdTwice voters (λ _. then_by (unless (has_twice learners) IdTwice learners) (λ _. okay event)) allowed.0.1
    ∙ then_unless (has_twice learners) IdTwice learners (λ _. okay event) allowed.1))))))

voters_said : (node group : ℕ) (ids : List ℕ) (words : List (List ℕ)) → AreWords (Number node ∷ Number group ∷ map Number ids) words → IsIdList ids → voters_in words ≡ okay (events.Voters node group ids)
voters_said node group ids [] h allowed = absurd h
voters_said node group ids (n ∷ []) h allowed = absurd h.1
voters_said node group ids (n ∷ g ∷ list) h allowed =
    let numbers = list_said ids list h.1.1 in
    ap (λ b. cond b (Err WrongCount) (voters_with n g list)) (nonzero list ids numbers allowed.0)
    ∙ (then_given NotANumber (number_of n) node (λ a. then_by (given NotANumber (number_of g)) (λ b. then_by (given NotANumber (numbers_of list)) (λ vs. then_by (unless (has_twice vs) IdTwice vs) (λ _. okay (events.Voters a b vs))))) h.0
    ∙ (then_given NotANumber (number_of g) group (λ b. then_by (given NotANumber (numbers_of list)) (λ vs. then_by (unless (has_twice vs) IdTwice vs) (λ _. okay (events.Voters node b vs)))) h.1.0
    ∙ (then_given NotANumber (numbers_of list) ids (λ vs. then_by (unless (has_twice vs) IdTwice vs) (λ _. okay (events.Voters node group vs))) numbers
    ∙ then_unless (has_twice ids) IdTwice ids (λ _. okay (events.Voters node group ids)) allowed.1)))

addr_said : (node group id : ℕ) (address : List ℕ) (words : List (List ℕ)) → AreWords (Number node ∷ Number group ∷ Number id ∷ Text address ∷ []) words → addr_in words ≡ okay (events.Addr node group id address)
addr_said node group id address [] h = absurd h
addr_said node group id address (n ∷ []) h = absurd h.1
addr_said node group id address (n ∷ g ∷ []) h = absurd h.1.1
addr_said node group id address (n ∷ g ∷ i ∷ []) h = absurd h.1.1.1
addr_said node group id address (n ∷ g ∷ i ∷ text ∷ []) h =
    then_given NotANumber (number_of n) node (λ a. then_by (given NotANumber (number_of g)) (λ b. then_by (given NotANumber (number_of i)) (λ c. okay (events.Addr a b c text)))) h.0
    ∙ (then_given NotANumber (number_of g) group (λ b. then_by (given NotANumber (number_of i)) (λ c. okay (events.Addr node b c text))) h.1.0
    ∙ (then_given NotANumber (number_of i) id (λ c. okay (events.Addr node group c text)) h.1.1.0
    ∙ ap (λ t. okay (events.Addr node group id t)) h.1.1.1.0))
addr_said node group id address (n ∷ g ∷ i ∷ text ∷ more ∷ words) h = absurd h.1.1.1.1

not_over : (limit : ℕ) (word : List ℕ) → length word ≤ limit → ltb limit (length word) ≡ false
not_over limit word h = grind (arith)

key_said : (k key : List ℕ) → k ≡ key → IsKey key → key_in k ≡ okay key
key_said k key same short = ap key_in same ∙ ap (λ b. unless b OutOfRange key) (not_over 255 key short)

value_said : (v value : List ℕ) → v ≡ value → IsValue value → value_in v ≡ okay value
value_said v value same fits =
    let other : bytes_eq value (codes "-") ≡ false = false_from_ne_true (bytes_eq value (codes "-")) (λ e. fits.1 ((bytes_eq-Decides value (codes "-")).0 e)) in
    ap value_in same
    ∙ ap (λ b. unless (b || bytes_eq value (codes "-")) OutOfRange value) (not_over 199 value fits.0)
    ∙ ap (λ b. unless (false || b) OutOfRange value) other

put_said : (node group : ℕ) (key value : List ℕ) (words : List (List ℕ)) → AreWords (Number node ∷ Number group ∷ Text key ∷ Text value ∷ []) words → IsKey key → IsValue value → put_in words ≡ okay (events.Put node group key value)
put_said node group key value [] h short fits = absurd h
put_said node group key value (n ∷ []) h short fits = absurd h.1
put_said node group key value (n ∷ g ∷ []) h short fits = absurd h.1.1
put_said node group key value (n ∷ g ∷ k ∷ []) h short fits = absurd h.1.1.1
put_said node group key value (n ∷ g ∷ k ∷ v ∷ []) h short fits =
    then_given NotANumber (number_of n) node (λ a. then_by (given NotANumber (number_of g)) (λ b. then_by (key_in k) (λ c. then_by (value_in v) (λ d. okay (events.Put a b c d))))) h.0
    ∙ (then_given NotANumber (number_of g) group (λ b. then_by (key_in k) (λ c. then_by (value_in v) (λ d. okay (events.Put node b c d)))) h.1.0
    ∙ (then_okay (key_in k) key (λ c. then_by (value_in v) (λ d. okay (events.Put node group c d))) (key_said k key h.1.1.0 short)
    ∙ then_okay (value_in v) value (λ d. okay (events.Put node group key d)) (value_said v value h.1.1.1.0 fits)))
put_said node group key value (n ∷ g ∷ k ∷ v ∷ more ∷ words) h short fits = absurd h.1.1.1.1

key_event_said : (w : WordOfKey) (node group : ℕ) (key : List ℕ) (words : List (List ℕ)) → AreWords (Number node ∷ Number group ∷ Text key ∷ []) words → IsKey key → key_event_in w words ≡ okay (event_with_key w node group key)
key_event_said w node group key [] h short = absurd h
key_event_said w node group key (n ∷ []) h short = absurd h.1
key_event_said w node group key (n ∷ g ∷ []) h short = absurd h.1.1
key_event_said w node group key (n ∷ g ∷ k ∷ []) h short =
    then_given NotANumber (number_of n) node (λ a. then_by (given NotANumber (number_of g)) (λ b. then_by (key_in k) (λ c. okay (event_with_key w a b c)))) h.0
    ∙ (then_given NotANumber (number_of g) group (λ b. then_by (key_in k) (λ c. okay (event_with_key w node b c))) h.1.0
    ∙ then_okay (key_in k) key (λ c. okay (event_with_key w node group c)) (key_said k key h.1.1.0 short))
key_event_said w node group key (n ∷ g ∷ k ∷ more ∷ words) h short = absurd h.1.1.1

deliver_said : (group number : ℕ) (cut : Option ℕ) (words : List (List ℕ)) → AreWords (Number group ∷ Number number ∷ cut_behind cut) words → deliver_in words ≡ okay (events.Deliver group number cut)
deliver_said group number cut [] h = absurd h
deliver_said group number cut (g ∷ []) h = absurd h.1
deliver_said group number None (g ∷ n ∷ []) h =
    then_given NotANumber (number_of g) group (λ a. then_by (given NotANumber (number_of n)) (λ b. okay (events.Deliver a b None))) h.0
    ∙ then_given NotANumber (number_of n) number (λ b. okay (events.Deliver group b None)) h.1.0
deliver_said group number None (g ∷ n ∷ c ∷ words) h = absurd h.1.1
deliver_said group number (Some cut) (g ∷ n ∷ []) h = absurd h.1.1
deliver_said group number (Some cut) (g ∷ n ∷ c ∷ []) h =
    then_given NotANumber (number_of g) group (λ a. then_by (given NotANumber (number_of n)) (λ b. then_by (given NotANumber (number_of c)) (λ d. okay (events.Deliver a b (Some d))))) h.0
    ∙ (then_given NotANumber (number_of n) number (λ b. then_by (given NotANumber (number_of c)) (λ d. okay (events.Deliver group b (Some d)))) h.1.0
    ∙ then_given NotANumber (number_of c) cut (λ d. okay (events.Deliver group number (Some d))) h.1.1.0)
deliver_said group number (Some cut) (g ∷ n ∷ c ∷ more ∷ words) h = absurd h.1.1.1

choice_said : (choice : CrashChoice) → choice_in (choice_word choice) ≡ okay choice
choice_said Least = refl
choice_said Most = refl

crash_said : (node : ℕ) (choice : CrashChoice) (words : List (List ℕ)) → AreWords (Number node ∷ Text (choice_word choice) ∷ []) words → crash_in words ≡ okay (events.Crash node choice)
crash_said node choice [] h = absurd h
crash_said node choice (n ∷ []) h = absurd h.1
crash_said node choice (n ∷ which ∷ []) h =
    then_given NotANumber (number_of n) node (λ a. then_by (choice_in which) (λ c. okay (events.Crash a c))) h.0
    ∙ then_okay (choice_in which) choice (λ c. okay (events.Crash node c)) (ap choice_in h.1.0 ∙ choice_said choice)
crash_said node choice (n ∷ which ∷ more ∷ words) h = absurd h.1.1

-- what the words of an event are read as, where the first is its verb
after_first : (name word : List ℕ) (words : List (List ℕ)) (event : ScriptEvent) → word ≡ name → event_in (name ∷ words) ≡ okay event → event_in (word ∷ words) ≡ okay event
after_first name word words event e h = ap (λ w. event_in (w ∷ words)) e ∙ h

pub event_said : (event : ScriptEvent) (words : List (List ℕ)) → AreWords (event_words event) words → IsAllowedEvent event → event_in words ≡ okay event
event_said (events.Add n g) [] h allowed = absurd h
event_said (events.Init n g vs ls) [] h allowed = absurd h
event_said (events.Propose n g t) [] h allowed = absurd h
event_said (events.Put n g k v) [] h allowed = absurd h
event_said (events.Get n g k) [] h allowed = absurd h
event_said (events.Drop n g k) [] h allowed = absurd h
event_said (events.Elect n g) [] h allowed = absurd h
event_said (events.Heartbeat n g) [] h allowed = absurd h
event_said (events.Lost n g t) [] h allowed = absurd h
event_said (events.Snapshot n g) [] h allowed = absurd h
event_said (events.Purge n g t) [] h allowed = absurd h
event_said (events.Addr n g i t) [] h allowed = absurd h
event_said (events.Voters n g ids) [] h allowed = absurd h
event_said (events.Deliver g n cut) [] h allowed = absurd h
event_said (events.Clean n) [] h allowed = absurd h
event_said (events.Crash n choice) [] h allowed = absurd h
event_said (events.Reopen n workers) [] h allowed = absurd h
event_said (events.Add n g) (w ∷ ws) h allowed = after_first (codes "add") w ws (events.Add n g) h.0 (two_made Add n g ws h.1)
event_said (events.Init n g vs ls) (w ∷ ws) h allowed = after_first (codes "init") w ws (events.Init n g vs ls) h.0 (init_said n g vs ls ws h.1 allowed)
event_said (events.Propose n g t) (w ∷ ws) h allowed = after_first (codes "propose") w ws (events.Propose n g t) h.0 (three_made Propose n g t ws h.1)
event_said (events.Put n g k v) (w ∷ ws) h allowed = after_first (codes "put") w ws (events.Put n g k v) h.0 (put_said n g k v ws h.1 allowed.0 allowed.1)
event_said (events.Get n g k) (w ∷ ws) h allowed = after_first (codes "get") w ws (events.Get n g k) h.0 (key_event_said Get n g k ws h.1 allowed)
event_said (events.Drop n g k) (w ∷ ws) h allowed = after_first (codes "drop") w ws (events.Drop n g k) h.0 (key_event_said Drop n g k ws h.1 allowed)
event_said (events.Elect n g) (w ∷ ws) h allowed = after_first (codes "elect") w ws (events.Elect n g) h.0 (two_made Elect n g ws h.1)
event_said (events.Heartbeat n g) (w ∷ ws) h allowed = after_first (codes "heartbeat") w ws (events.Heartbeat n g) h.0 (two_made Heartbeat n g ws h.1)
event_said (events.Lost n g t) (w ∷ ws) h allowed = after_first (codes "lost") w ws (events.Lost n g t) h.0 (three_made Lost n g t ws h.1)
event_said (events.Snapshot n g) (w ∷ ws) h allowed = after_first (codes "snapshot") w ws (events.Snapshot n g) h.0 (two_made Snapshot n g ws h.1)
event_said (events.Purge n g t) (w ∷ ws) h allowed = after_first (codes "purge") w ws (events.Purge n g t) h.0 (three_made Purge n g t ws h.1)
event_said (events.Addr n g i t) (w ∷ ws) h allowed = after_first (codes "addr") w ws (events.Addr n g i t) h.0 (addr_said n g i t ws h.1)
event_said (events.Voters n g ids) (w ∷ ws) h allowed = after_first (codes "voters") w ws (events.Voters n g ids) h.0 (voters_said n g ids ws h.1 allowed)
event_said (events.Deliver g n cut) (w ∷ ws) h allowed = after_first (codes "deliver") w ws (events.Deliver g n cut) h.0 (deliver_said g n cut ws h.1)
event_said (events.Clean n) (w ∷ ws) h allowed = after_first (codes "clean") w ws (events.Clean n) h.0 (then_okay (one_number ws) n (λ node. okay (events.Clean node)) (one_said n ws h.1))
event_said (events.Crash n choice) (w ∷ ws) h allowed = after_first (codes "crash") w ws (events.Crash n choice) h.0 (crash_said n choice ws h.1)
event_said (events.Reopen n workers) (w ∷ ws) h allowed = after_first (codes "reopen") w ws (events.Reopen n workers) h.0 (two_made Reopen n workers ws h.1)

-- ---- the first word of an event

abbrev pub verb_word : ScriptEvent → List ℕ
verb_word (events.Add n g) = codes "add"
verb_word (events.Init n g vs ls) = codes "init"
verb_word (events.Propose n g t) = codes "propose"
verb_word (events.Put n g k v) = codes "put"
verb_word (events.Get n g k) = codes "get"
verb_word (events.Drop n g k) = codes "drop"
verb_word (events.Elect n g) = codes "elect"
verb_word (events.Heartbeat n g) = codes "heartbeat"
verb_word (events.Lost n g t) = codes "lost"
verb_word (events.Snapshot n g) = codes "snapshot"
verb_word (events.Purge n g t) = codes "purge"
verb_word (events.Addr n g i t) = codes "addr"
verb_word (events.Voters n g ids) = codes "voters"
verb_word (events.Deliver g n cut) = codes "deliver"
verb_word (events.Clean n) = codes "clean"
verb_word (events.Crash n choice) = codes "crash"
verb_word (events.Reopen n workers) = codes "reopen"

pub first_of_event : (event : ScriptEvent) → (args : List Word) × (event_words event ≡ Text (verb_word event) ∷ args)
first_of_event (events.Add n g) = (_, refl)
first_of_event (events.Init n g vs ls) = (_, refl)
first_of_event (events.Propose n g t) = (_, refl)
first_of_event (events.Put n g k v) = (_, refl)
first_of_event (events.Get n g k) = (_, refl)
first_of_event (events.Drop n g k) = (_, refl)
first_of_event (events.Elect n g) = (_, refl)
first_of_event (events.Heartbeat n g) = (_, refl)
first_of_event (events.Lost n g t) = (_, refl)
first_of_event (events.Snapshot n g) = (_, refl)
first_of_event (events.Purge n g t) = (_, refl)
first_of_event (events.Addr n g i t) = (_, refl)
first_of_event (events.Voters n g ids) = (_, refl)
first_of_event (events.Deliver g n cut) = (_, refl)
first_of_event (events.Clean n) = (_, refl)
first_of_event (events.Crash n choice) = (_, refl)
first_of_event (events.Reopen n workers) = (_, refl)
