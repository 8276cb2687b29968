-- Events and lines: what is read is what the grammar says, and the other way round.
use Rattle.std.proofs.Common.{◌≡◌, ℕ, ◌<◌, Bool, true, false, ◌||◌, List, [], ◌∷◌, length, Option, Some, None, Result, Ok, Err, refl, sym, ◌∙◌, ap, cond, ltb, ◌≤◌, codes, arith}
use Rattle.std.specs.Str.{bytes_eq}
use Rattle.std.proofs.lemmas.Slice.Eq.{bytes_eq-Decides}
use Rattle.raft_script_lines.specs.declared.script_line.CrashChoice.TheVariants.{Least, Most}
use Rattle.raft_script_lines.specs.declared.script_line.ScriptEvent.{ScriptEvent}
use Rattle.raft_script_lines.specs.declared.script_line.ScriptEvent.TheVariants as events
use Rattle.raft_script_lines.specs.declared.verb.Verb.{Verb}
use Rattle.raft_script_lines.specs.declared.verb.Verb.TheVariants as verb
use Rattle.raft_script_lines.specs.declared.verb.WordOfTwo.{WordOfTwo}
use Rattle.raft_script_lines.specs.declared.verb.WordOfTwo.TheVariants.{Add, Elect, Heartbeat, Snapshot, Reopen}
use Rattle.raft_script_lines.specs.declared.verb.WordOfThree.{WordOfThree}
use Rattle.raft_script_lines.specs.declared.verb.WordOfThree.TheVariants.{Propose, Lost, Purge}
use Rattle.raft_script_lines.specs.declared.verb.WordOfKey.{WordOfKey}
use Rattle.raft_script_lines.specs.declared.verb.WordOfKey.TheVariants.{Get, Drop}
use Rattle.raft_script_lines.specs.declared.no_event.NoEvent.{NoEvent}
use Rattle.raft_script_lines.specs.declared.no_event.NoEvent.TheVariants.{WrongCount, NotANumber, OutOfRange, IdTwice, UnknownChoice}
use Rattle.raft_script_lines.specs.Grammar.{Number, AreWords, event_words, IsAllowedEvent, IsKey, IsValue}
use Rattle.raft_script_lines.specs.Reading.{then_by, given, unless, one_number, two_numbers, three_numbers, before_slash, behind_slash, are_missing, or_none, event_with_two, event_with_three, event_with_key, key_event_in, put_in, init_in, init_with, voters_in, voters_with, addr_in, deliver_in, crash_in, event_after, event_in}
use Rattle.raft_script_lines.specs.Verbs.{found, verbs, verb_of}
use Rattle.raft_script_lines.specs.Words.{no_words, number_of, numbers_of, has_twice}
use Rattle.raft_script_lines.proofs.NumberLemmas.{along, told_unless, okay, some_or, one_read, two_read, three_read, list_read, lists_read}

-- ---- verbs

abbrev pub two_text : WordOfTwo → List ℕ
two_text Add = codes "add"
two_text Elect = codes "elect"
two_text Heartbeat = codes "heartbeat"
two_text Snapshot = codes "snapshot"
two_text Reopen = codes "reopen"

abbrev pub three_text : WordOfThree → List ℕ
three_text Propose = codes "propose"
three_text Lost = codes "lost"
three_text Purge = codes "purge"

abbrev pub key_text : WordOfKey → List ℕ
key_text Get = codes "get"
key_text Drop = codes "drop"

abbrev pub verb_text : Verb → List ℕ
verb_text (verb.Two word) = two_text word
verb_text (verb.Three word) = three_text word
verb_text (verb.Key word) = key_text word
verb_text verb.Put = codes "put"
verb_text verb.Init = codes "init"
verb_text verb.Addr = codes "addr"
verb_text verb.Voters = codes "voters"
verb_text verb.Deliver = codes "deliver"
verb_text verb.Clean = codes "clean"
verb_text verb.Crash = codes "crash"

abbrev AreNamed : List (List ℕ × Verb) → Type 0
AreNamed [] = Unit {0}
AreNamed (entry ∷ others) = (entry.0 ≡ verb_text entry.1) × AreNamed others

named : AreNamed verbs
named = (refl, (refl, (refl, (refl, (refl, (refl, (refl, (refl, (refl, (refl, (refl, (refl, (refl, (refl, (refl, (refl, (refl, tt)))))))))))))))))

found_by : (b : Bool) (word text : List ℕ) (v w : Verb) (others : Option Verb) → (b ≡ true → word ≡ text) → text ≡ verb_text v → cond b (Some v) others ≡ Some w → (others ≡ Some w → word ≡ verb_text w) → word ≡ verb_text w
found_by true word text v w others is name e more = is refl ∙ (name ∙ ap (λ o. verb_text (some_or v o)) e)
found_by false word text v w others is name e more = more e

found_names : (word : List ℕ) (table : List (List ℕ × Verb)) → AreNamed table → (w : Verb) → found word table ≡ Some w → word ≡ verb_text w
found_names word [] h w e = absurd (cc)
found_names word (entry ∷ others) h w e =
    found_by (bytes_eq word entry.0) word entry.0 entry.1 w (found word others) (bytes_eq-Decides word entry.0).0 h.0 e (found_names word others h.1 w)

verb_named : (word : List ℕ) (w : Verb) → verb_of word ≡ Some w → word ≡ verb_text w
verb_named word = found_names word verbs named

-- ---- what is read is an event of the grammar

-- these words are the event's, and it may be
abbrev pub IsEventIn : List (List ℕ) → ScriptEvent → Type 0
IsEventIn words event = AreWords (event_words event) words × IsAllowedEvent event

two_event : (k : WordOfTwo) (n g : ℕ) (word : List ℕ) (words : List (List ℕ)) → word ≡ two_text k → AreWords (Number n ∷ Number g ∷ []) words → IsEventIn (word ∷ words) (event_with_two k n g)
two_event Add n g word words e h = ((e, h), tt)
two_event Elect n g word words e h = ((e, h), tt)
two_event Heartbeat n g word words e h = ((e, h), tt)
two_event Snapshot n g word words e h = ((e, h), tt)
two_event Reopen n g word words e h = ((e, h), tt)

three_event : (k : WordOfThree) (n g t : ℕ) (word : List ℕ) (words : List (List ℕ)) → word ≡ three_text k → AreWords (Number n ∷ Number g ∷ Number t ∷ []) words → IsEventIn (word ∷ words) (event_with_three k n g t)
three_event Propose n g t word words e h = ((e, h), tt)
three_event Lost n g t word words e h = ((e, h), tt)
three_event Purge n g t word words e h = ((e, h), tt)

two_events : (k : WordOfTwo) (word : List ℕ) (words : List (List ℕ)) (event : ScriptEvent) → word ≡ two_text k → (r : Result (ℕ × ℕ) NoEvent) → ((p : ℕ × ℕ) → r ≡ okay p → AreWords (Number p.0 ∷ Number p.1 ∷ []) words) → then_by r (λ n. okay (event_with_two k n.0 n.1)) ≡ okay event → IsEventIn (word ∷ words) event
two_events k word words event name (Ok p) h e =
    along (IsEventIn (word ∷ words)) (event_with_two k p.0 p.1) event e (two_event k p.0 p.1 word words name (h p refl))
two_events k word words event name (Err why) h e = absurd (cc)

three_events : (k : WordOfThree) (word : List ℕ) (words : List (List ℕ)) (event : ScriptEvent) → word ≡ three_text k → (r : Result (ℕ × ℕ × ℕ) NoEvent) → ((p : ℕ × ℕ × ℕ) → r ≡ okay p → AreWords (Number p.0 ∷ Number p.1 ∷ Number p.2 ∷ []) words) → then_by r (λ n. okay (event_with_three k n.0 n.1 n.2)) ≡ okay event → IsEventIn (word ∷ words) event
three_events k word words event name (Ok p) h e =
    along (IsEventIn (word ∷ words)) (event_with_three k p.0 p.1 p.2) event e (three_event k p.0 p.1 p.2 word words name (h p refl))
three_events k word words event name (Err why) h e = absurd (cc)

clean_events : (word : List ℕ) (words : List (List ℕ)) (event : ScriptEvent) → word ≡ codes "clean" → (r : Result ℕ NoEvent) → ((n : ℕ) → r ≡ okay n → AreWords (Number n ∷ []) words) → then_by r (λ n. okay (events.Clean n)) ≡ okay event → IsEventIn (word ∷ words) event
clean_events word words event name (Ok n) h e = along (IsEventIn (word ∷ words)) (events.Clean n) event e ((name, h n refl), tt)
clean_events word words event name (Err why) h e = absurd (cc)

once_init : (b d : Bool) (voters learners : List ℕ) (made event : ScriptEvent) → then_by (unless b IdTwice voters) (λ _. then_by (unless d IdTwice learners) (λ _. okay made)) ≡ okay event → (b ≡ false) × (d ≡ false) × (okay made ≡ okay event)
once_init true d voters learners made event e = absurd (cc)
once_init false true voters learners made event e = absurd (cc)
once_init false false voters learners made event e = (refl, refl, e)

nonempty : (voters : List ℕ) (words : List (List ℕ)) → numbers_of words ≡ Some voters → no_words words ≡ false → 0 < length voters
nonempty [] [] e h = absurd (cc)
nonempty (id ∷ ids) words e h = omega arith
nonempty [] (word ∷ words) e h = absurd (list_read (word ∷ words) [] e)

init_by : (word n g : List ℕ) (lists : List (List ℕ)) (event : ScriptEvent) → word ≡ codes "init" → (x y : Option ℕ) → number_of n ≡ x → number_of g ≡ y → (vs ls : Option (List ℕ)) → numbers_of (before_slash lists) ≡ vs → numbers_of (or_none (behind_slash lists)) ≡ ls → no_words (before_slash lists) ≡ false → are_missing (behind_slash lists) ≡ false
    → then_by (given NotANumber x) (λ node. then_by (given NotANumber y) (λ group. then_by (given NotANumber vs) (λ voters. then_by (given NotANumber ls) (λ learners. then_by (unless (has_twice voters) IdTwice voters) (λ _. then_by (unless (has_twice learners) IdTwice learners) (λ _. okay (events.Init node group voters learners))))))) ≡ okay event
    → IsEventIn (word ∷ n ∷ g ∷ lists) event
init_by word n g lists event name None y ex ey vs ls ev el some there e = absurd (cc)
init_by word n g lists event name (Some x) None ex ey vs ls ev el some there e = absurd (cc)
init_by word n g lists event name (Some x) (Some y) ex ey None ls ev el some there e = absurd (cc)
init_by word n g lists event name (Some x) (Some y) ex ey (Some voters) None ev el some there e = absurd (cc)
init_by word n g lists event name (Some x) (Some y) ex ey (Some voters) (Some learners) ev el some there e =
    let (a, b, made) = once_init (has_twice voters) (has_twice learners) voters learners (events.Init x y voters learners) event e in
    along (IsEventIn (word ∷ n ∷ g ∷ lists)) (events.Init x y voters learners) event made
    ((name, (ex, (ey, lists_read lists voters learners ev el there))), ((nonempty voters (before_slash lists) ev some, a), b))

lacks_by : (b d : Bool) (x : Result ScriptEvent NoEvent) (event : ScriptEvent) → cond (b || d) (Err WrongCount) x ≡ okay event → (b ≡ false) × (d ≡ false) × (x ≡ okay event)
lacks_by true d x event e = absurd (cc)
lacks_by false true x event e = absurd (cc)
lacks_by false false x event e = (refl, refl, e)

init_read : (word : List ℕ) (words : List (List ℕ)) (event : ScriptEvent) → word ≡ codes "init" → init_in words ≡ okay event → IsEventIn (word ∷ words) event
init_read word [] event name e = absurd (cc)
init_read word (n ∷ []) event name e = absurd (cc)
init_read word (n ∷ g ∷ lists) event name e =
    let (some, there, made) = lacks_by (no_words (before_slash lists)) (are_missing (behind_slash lists)) (init_with n g lists) event e in
    init_by word n g lists event name (number_of n) (number_of g) refl refl (numbers_of (before_slash lists)) (numbers_of (or_none (behind_slash lists))) refl refl some there made

once_voters : (b : Bool) (ids : List ℕ) (made event : ScriptEvent) → then_by (unless b IdTwice ids) (λ _. okay made) ≡ okay event → (b ≡ false) × (okay made ≡ okay event)
once_voters true ids made event e = absurd (cc)
once_voters false ids made event e = (refl, e)

voters_by : (word n g : List ℕ) (list : List (List ℕ)) (event : ScriptEvent) → word ≡ codes "voters" → (x y : Option ℕ) → number_of n ≡ x → number_of g ≡ y → (vs : Option (List ℕ)) → numbers_of list ≡ vs → no_words list ≡ false
    → then_by (given NotANumber x) (λ node. then_by (given NotANumber y) (λ group. then_by (given NotANumber vs) (λ ids. then_by (unless (has_twice ids) IdTwice ids) (λ _. okay (events.Voters node group ids))))) ≡ okay event
    → IsEventIn (word ∷ n ∷ g ∷ list) event
voters_by word n g list event name None y ex ey vs ev some e = absurd (cc)
voters_by word n g list event name (Some x) None ex ey vs ev some e = absurd (cc)
voters_by word n g list event name (Some x) (Some y) ex ey None ev some e = absurd (cc)
voters_by word n g list event name (Some x) (Some y) ex ey (Some ids) ev some e =
    let (a, made) = once_voters (has_twice ids) ids (events.Voters x y ids) event e in
    along (IsEventIn (word ∷ n ∷ g ∷ list)) (events.Voters x y ids) event made
    ((name, (ex, (ey, list_read list ids ev))), (nonempty ids list ev some, a))

voters_read : (word : List ℕ) (words : List (List ℕ)) (event : ScriptEvent) → word ≡ codes "voters" → voters_in words ≡ okay event → IsEventIn (word ∷ words) event
voters_read word [] event name e = absurd (cc)
voters_read word (n ∷ []) event name e = absurd (cc)
voters_read word (n ∷ g ∷ list) event name e =
    let (some, made) = told_unless (no_words list) WrongCount (voters_with n g list) event e in
    voters_by word n g list event name (number_of n) (number_of g) refl refl (numbers_of list) refl some made

addr_by : (word n g i text : List ℕ) (event : ScriptEvent) → word ≡ codes "addr" → (x y z : Option ℕ) → number_of n ≡ x → number_of g ≡ y → number_of i ≡ z
    → then_by (given NotANumber x) (λ node. then_by (given NotANumber y) (λ group. then_by (given NotANumber z) (λ id. okay (events.Addr node group id text)))) ≡ okay event
    → IsEventIn (word ∷ n ∷ g ∷ i ∷ text ∷ []) event
addr_by word n g i text event name None y z ex ey ez e = absurd (cc)
addr_by word n g i text event name (Some x) None z ex ey ez e = absurd (cc)
addr_by word n g i text event name (Some x) (Some y) None ex ey ez e = absurd (cc)
addr_by word n g i text event name (Some x) (Some y) (Some z) ex ey ez e =
    along (IsEventIn (word ∷ n ∷ g ∷ i ∷ text ∷ [])) (events.Addr x y z text) event e ((name, (ex, (ey, (ez, (refl, tt))))), tt)

addr_read : (word : List ℕ) (words : List (List ℕ)) (event : ScriptEvent) → word ≡ codes "addr" → addr_in words ≡ okay event → IsEventIn (word ∷ words) event
addr_read word [] event name e = absurd (cc)
addr_read word (n ∷ []) event name e = absurd (cc)
addr_read word (n ∷ g ∷ []) event name e = absurd (cc)
addr_read word (n ∷ g ∷ i ∷ []) event name e = absurd (cc)
addr_read word (n ∷ g ∷ i ∷ text ∷ []) event name e =
    addr_by word n g i text event name (number_of n) (number_of g) (number_of i) refl refl refl e
addr_read word (n ∷ g ∷ i ∷ text ∷ more ∷ words) event name e = absurd (cc)

short_by : (limit : ℕ) (word : List ℕ) → ltb limit (length word) ≡ false → length word ≤ limit
short_by limit word e = grind (arith)

value_by : (v : List ℕ) → ltb 199 (length v) ≡ false → bytes_eq v (codes "-") ≡ false → IsValue v
value_by v short other =
    (short_by 199 v short, λ dash. let no : true ≡ false = sym ((bytes_eq-Decides v (codes "-")).1 dash) ∙ other in cc)

put_by : (word n g k v : List ℕ) (event : ScriptEvent) → word ≡ codes "put" → (x y : Option ℕ) → number_of n ≡ x → number_of g ≡ y → (b c d : Bool) → ltb 255 (length k) ≡ b → ltb 199 (length v) ≡ c → bytes_eq v (codes "-") ≡ d
    → then_by (given NotANumber x) (λ node. then_by (given NotANumber y) (λ group. then_by (unless b OutOfRange k) (λ key. then_by (unless (c || d) OutOfRange v) (λ value. okay (events.Put node group key value))))) ≡ okay event
    → IsEventIn (word ∷ n ∷ g ∷ k ∷ v ∷ []) event
put_by word n g k v event name None y ex ey b c d eb ec ed e = absurd (cc)
put_by word n g k v event name (Some x) None ex ey b c d eb ec ed e = absurd (cc)
put_by word n g k v event name (Some x) (Some y) ex ey true c d eb ec ed e = absurd (cc)
put_by word n g k v event name (Some x) (Some y) ex ey false true d eb ec ed e = absurd (cc)
put_by word n g k v event name (Some x) (Some y) ex ey false false true eb ec ed e = absurd (cc)
put_by word n g k v event name (Some x) (Some y) ex ey false false false eb ec ed e =
    along (IsEventIn (word ∷ n ∷ g ∷ k ∷ v ∷ [])) (events.Put x y k v) event e
    ((name, (ex, (ey, (refl, (refl, tt))))), (short_by 255 k eb, value_by v ec ed))

put_read : (word : List ℕ) (words : List (List ℕ)) (event : ScriptEvent) → word ≡ codes "put" → put_in words ≡ okay event → IsEventIn (word ∷ words) event
put_read word [] event name e = absurd (cc)
put_read word (n ∷ []) event name e = absurd (cc)
put_read word (n ∷ g ∷ []) event name e = absurd (cc)
put_read word (n ∷ g ∷ k ∷ []) event name e = absurd (cc)
put_read word (n ∷ g ∷ k ∷ v ∷ []) event name e =
    put_by word n g k v event name (number_of n) (number_of g) refl refl (ltb 255 (length k)) (ltb 199 (length v)) (bytes_eq v (codes "-")) refl refl refl e
put_read word (n ∷ g ∷ k ∷ v ∷ more ∷ words) event name e = absurd (cc)

key_event : (w : WordOfKey) (word n g k : List ℕ) (x y : ℕ) → word ≡ key_text w → number_of n ≡ Some x → number_of g ≡ Some y → IsKey k → IsEventIn (word ∷ n ∷ g ∷ k ∷ []) (event_with_key w x y k)
key_event Get word n g k x y name ex ey short = ((name, (ex, (ey, (refl, tt)))), short)
key_event Drop word n g k x y name ex ey short = ((name, (ex, (ey, (refl, tt)))), short)

key_by : (w : WordOfKey) (word n g k : List ℕ) (event : ScriptEvent) → word ≡ key_text w → (x y : Option ℕ) → number_of n ≡ x → number_of g ≡ y → (b : Bool) → ltb 255 (length k) ≡ b
    → then_by (given NotANumber x) (λ node. then_by (given NotANumber y) (λ group. then_by (unless b OutOfRange k) (λ key. okay (event_with_key w node group key)))) ≡ okay event
    → IsEventIn (word ∷ n ∷ g ∷ k ∷ []) event
key_by w word n g k event name None y ex ey b eb e = absurd (cc)
key_by w word n g k event name (Some x) None ex ey b eb e = absurd (cc)
key_by w word n g k event name (Some x) (Some y) ex ey true eb e = absurd (cc)
key_by w word n g k event name (Some x) (Some y) ex ey false eb e =
    along (IsEventIn (word ∷ n ∷ g ∷ k ∷ [])) (event_with_key w x y k) event e (key_event w word n g k x y name ex ey (short_by 255 k eb))

key_read : (w : WordOfKey) (word : List ℕ) (words : List (List ℕ)) (event : ScriptEvent) → word ≡ key_text w → key_event_in w words ≡ okay event → IsEventIn (word ∷ words) event
key_read w word [] event name e = absurd (cc)
key_read w word (n ∷ []) event name e = absurd (cc)
key_read w word (n ∷ g ∷ []) event name e = absurd (cc)
key_read w word (n ∷ g ∷ k ∷ []) event name e =
    key_by w word n g k event name (number_of n) (number_of g) refl refl (ltb 255 (length k)) refl e
key_read w word (n ∷ g ∷ k ∷ more ∷ words) event name e = absurd (cc)

whole_by : (word g n : List ℕ) (event : ScriptEvent) → word ≡ codes "deliver" → (x y : Option ℕ) → number_of g ≡ x → number_of n ≡ y
    → then_by (given NotANumber x) (λ group. then_by (given NotANumber y) (λ number. okay (events.Deliver group number None))) ≡ okay event
    → IsEventIn (word ∷ g ∷ n ∷ []) event
whole_by word g n event name None y ex ey e = absurd (cc)
whole_by word g n event name (Some x) None ex ey e = absurd (cc)
whole_by word g n event name (Some x) (Some y) ex ey e =
    along (IsEventIn (word ∷ g ∷ n ∷ [])) (events.Deliver x y None) event e ((name, (ex, (ey, tt))), tt)

cut_by : (word g n c : List ℕ) (event : ScriptEvent) → word ≡ codes "deliver" → (x y z : Option ℕ) → number_of g ≡ x → number_of n ≡ y → number_of c ≡ z
    → then_by (given NotANumber x) (λ group. then_by (given NotANumber y) (λ number. then_by (given NotANumber z) (λ cut. okay (events.Deliver group number (Some cut))))) ≡ okay event
    → IsEventIn (word ∷ g ∷ n ∷ c ∷ []) event
cut_by word g n c event name None y z ex ey ez e = absurd (cc)
cut_by word g n c event name (Some x) None z ex ey ez e = absurd (cc)
cut_by word g n c event name (Some x) (Some y) None ex ey ez e = absurd (cc)
cut_by word g n c event name (Some x) (Some y) (Some z) ex ey ez e =
    along (IsEventIn (word ∷ g ∷ n ∷ c ∷ [])) (events.Deliver x y (Some z)) event e ((name, (ex, (ey, (ez, tt)))), tt)

deliver_read : (word : List ℕ) (words : List (List ℕ)) (event : ScriptEvent) → word ≡ codes "deliver" → deliver_in words ≡ okay event → IsEventIn (word ∷ words) event
deliver_read word [] event name e = absurd (cc)
deliver_read word (g ∷ []) event name e = absurd (cc)
deliver_read word (g ∷ n ∷ []) event name e = whole_by word g n event name (number_of g) (number_of n) refl refl e
deliver_read word (g ∷ n ∷ c ∷ []) event name e = cut_by word g n c event name (number_of g) (number_of n) (number_of c) refl refl refl e
deliver_read word (g ∷ n ∷ c ∷ more ∷ words) event name e = absurd (cc)

crash_by : (word n which : List ℕ) (event : ScriptEvent) → word ≡ codes "crash" → (x : Option ℕ) → number_of n ≡ x → (b d : Bool) → (b ≡ true → which ≡ codes "least") → (d ≡ true → which ≡ codes "most")
    → then_by (given NotANumber x) (λ node. then_by (cond b (okay Least) (cond d (okay Most) (Err UnknownChoice))) (λ choice. okay (events.Crash node choice))) ≡ okay event
    → IsEventIn (word ∷ n ∷ which ∷ []) event
crash_by word n which event name None ex b d is_least is_most e = absurd (cc)
crash_by word n which event name (Some x) ex true d is_least is_most e =
    along (IsEventIn (word ∷ n ∷ which ∷ [])) (events.Crash x Least) event e ((name, (ex, (is_least refl, tt))), tt)
crash_by word n which event name (Some x) ex false true is_least is_most e =
    along (IsEventIn (word ∷ n ∷ which ∷ [])) (events.Crash x Most) event e ((name, (ex, (is_most refl, tt))), tt)
crash_by word n which event name (Some x) ex false false is_least is_most e = absurd (cc)

crash_read : (word : List ℕ) (words : List (List ℕ)) (event : ScriptEvent) → word ≡ codes "crash" → crash_in words ≡ okay event → IsEventIn (word ∷ words) event
crash_read word [] event name e = absurd (cc)
crash_read word (n ∷ []) event name e = absurd (cc)
crash_read word (n ∷ which ∷ []) event name e =
    crash_by word n which event name (number_of n) refl (bytes_eq which (codes "least")) (bytes_eq which (codes "most")) (bytes_eq-Decides which (codes "least")).0 (bytes_eq-Decides which (codes "most")).0 e
crash_read word (n ∷ which ∷ more ∷ words) event name e = absurd (cc)

after_read : (word : List ℕ) (o : Option Verb) → ((v : Verb) → o ≡ Some v → word ≡ verb_text v) → (words : List (List ℕ)) (event : ScriptEvent) → event_after o words ≡ okay event → IsEventIn (word ∷ words) event
after_read word None name words event e = absurd (cc)
after_read word (Some (verb.Two k)) name words event e = two_events k word words event (name (verb.Two k) refl) (two_numbers words) (two_read words) e
after_read word (Some (verb.Three k)) name words event e = three_events k word words event (name (verb.Three k) refl) (three_numbers words) (three_read words) e
after_read word (Some (verb.Key k)) name words event e = key_read k word words event (name (verb.Key k) refl) e
after_read word (Some verb.Put) name words event e = put_read word words event (name verb.Put refl) e
after_read word (Some verb.Init) name words event e = init_read word words event (name verb.Init refl) e
after_read word (Some verb.Addr) name words event e = addr_read word words event (name verb.Addr refl) e
after_read word (Some verb.Voters) name words event e = voters_read word words event (name verb.Voters refl) e
after_read word (Some verb.Deliver) name words event e = deliver_read word words event (name verb.Deliver refl) e
after_read word (Some verb.Clean) name words event e = clean_events word words event (name verb.Clean refl) (one_number words) (one_read words) e
after_read word (Some verb.Crash) name words event e = crash_read word words event (name verb.Crash refl) e

pub event_read : (words : List (List ℕ)) (event : ScriptEvent) → event_in words ≡ okay event → IsEventIn words event
event_read [] event e = absurd (cc)
event_read (word ∷ words) event e = after_read word (verb_of word) (verb_named word) words event e
