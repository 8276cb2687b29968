-- Lines: what is read is what the grammar says, and the other way round.
use Rattle.std.proofs.Common.{◌≡◌, ◌≢◌, ℕ, ◌<◌, ◌≤◌, Bool, true, false, not, ◌||◌, List, [], ◌∷◌, length, Option, Some, None, Result, Ok, Err, IfOk, IfErr, refl, sym, ◌∙◌, ap, subst, cond, eqb, ltb, codes, arith}
use Rattle.std.specs.Str.{IsUtf8, is_utf8, bytes_eq}
use Rattle.std.specs.List.{list_any, onto_first}
use Rattle.std.proofs.lemmas.Str.{IsUtf8-from_is_utf8, is_utf8-from_IsUtf8}
use Rattle.std.proofs.lemmas.Bool.Decides.{Decides-eqb, Decides-ltb}
use Rattle.std.proofs.lemmas.Bool.{false_from_ne_true}
use Rattle.std.proofs.lemmas.Slice.Eq.{bytes_eq-Decides}
use Rattle.raft_script_lines.specs.declared.script_line.ScriptEvent.{ScriptEvent}
use Rattle.raft_script_lines.specs.declared.script_line.ScriptEvent.TheVariants as events
use Rattle.raft_script_lines.specs.declared.script_line.ScriptLine.{ScriptLine}
use Rattle.raft_script_lines.specs.declared.script_line.ScriptLine.TheVariants.{Skipped, Nodes, Kv, Now, Total, Happens, Fuse}
use Rattle.raft_script_lines.specs.declared.no_event.NoEvent.{NoEvent}
use Rattle.raft_script_lines.specs.declared.no_event.NoEvent.TheVariants.{TooLong, NotUtf8, SpareSpace, WrongCount, NotANumber, OutOfRange}
use Rattle.raft_script_lines.specs.declared.no_event.ReadLineError.{ReadLineError}
use Rattle.raft_script_lines.specs.declared.no_event.ReadLineError.TheVariants as errors
use Rattle.raft_script_lines.specs.Grammar.{Word, Text, Number, AreWords, event_words, IsAllowedEvent, line_words, IsAllowed, IsCount, IsSkipped, HasWords, Says, Spells}
use Rattle.raft_script_lines.specs.Outcome.{Tells, SpellsOnly, SpellsNone, IsWhyNot}
use Rattle.raft_script_lines.specs.Reading.{then_by, given, unless, one_number, two_numbers, event_in, count_in, fuse_with, fuse_in, line_in, line_with, text_in, line_of}
use Rattle.raft_script_lines.specs.Words.{words_of, no_words, is_empty_word, number_of}
use Rattle.raft_script_lines.proofs.WordLemmas.{words_empty}
use Rattle.raft_script_lines.proofs.NumberLemmas.{along, told_unless, okay, value_or, then_given, then_okay, one_said, one_read, two_said, two_read}
use Rattle.raft_script_lines.proofs.EventLemmas.{IsEventIn, event_read}
use Rattle.raft_script_lines.proofs.SaidLemmas.{event_said, verb_word, first_of_event}

-- these words are the line's, and it may be
abbrev pub IsLineIn : List (List ℕ) → ScriptLine → Type 0
IsLineIn words line = AreWords (line_words line) words × IsAllowed line

-- ---- read, so said

count_by : (words : List (List ℕ)) (count n : ℕ) → AreWords (Number count ∷ []) words → (b d : Bool) → (eqb count 0 ≡ b) → (ltb 9 count ≡ d) → unless (b || d) OutOfRange count ≡ okay n → AreWords (Number n ∷ []) words × IsCount n
count_by words count n h true d eb ed e = absurd (cc)
count_by words count n h false true eb ed e = absurd (cc)
count_by words count n h false false eb ed e =
    let low : 1 ≤ count = grind (arith) in
    let high : count ≤ 9 = grind (arith) in
    along (λ m. AreWords (Number m ∷ []) words × IsCount m) count n e (h, (low, high))

count_read : (words : List (List ℕ)) (n : ℕ) (r : Result ℕ NoEvent) → ((m : ℕ) → r ≡ okay m → AreWords (Number m ∷ []) words) → then_by r (λ count. unless (eqb count 0 || ltb 9 count) OutOfRange count) ≡ okay n → AreWords (Number n ∷ []) words × IsCount n
count_read words n (Ok count) h e = count_by words count n (h count refl) (eqb count 0) (ltb 9 count) refl refl e
count_read words n (Err why) h e = absurd (cc)

nodes_read : (words : List (List ℕ)) (word : List ℕ) (line : ScriptLine) → word ≡ codes "nodes" → (r : Result ℕ NoEvent) → ((n : ℕ) → r ≡ okay n → AreWords (Number n ∷ []) words × IsCount n) → then_by r (λ count. okay (Nodes count)) ≡ okay line → IsLineIn (word ∷ words) line
nodes_read words word line name (Ok count) h e =
    let (said, counts) = h count refl in along (IsLineIn (word ∷ words)) (Nodes count) line e ((name, said), counts)
nodes_read words word line name (Err why) h e = absurd (cc)

kv_read : (words : List (List ℕ)) (word : List ℕ) (line : ScriptLine) → word ≡ codes "kv" → (r : Result ℕ NoEvent) → ((n : ℕ) → r ≡ okay n → AreWords (Number n ∷ []) words × IsCount n) → then_by r (λ count. okay (Kv count)) ≡ okay line → IsLineIn (word ∷ words) line
kv_read words word line name (Ok count) h e =
    let (said, counts) = h count refl in along (IsLineIn (word ∷ words)) (Kv count) line e ((name, said), counts)
kv_read words word line name (Err why) h e = absurd (cc)

now_read : (words : List (List ℕ)) (word : List ℕ) (line : ScriptLine) → word ≡ codes "now" → (r : Result ℕ NoEvent) → ((n : ℕ) → r ≡ okay n → AreWords (Number n ∷ []) words) → then_by r (λ tick. okay (Now tick)) ≡ okay line → IsLineIn (word ∷ words) line
now_read words word line name (Ok tick) h e = along (IsLineIn (word ∷ words)) (Now tick) line e ((name, h tick refl), tt)
now_read words word line name (Err why) h e = absurd (cc)

total_read : (words : List (List ℕ)) (word : List ℕ) (line : ScriptLine) → word ≡ codes "total" → (r : Result (ℕ × ℕ) NoEvent) → ((p : ℕ × ℕ) → r ≡ okay p → AreWords (Number p.0 ∷ Number p.1 ∷ []) words) → then_by r (λ n. okay (Total n.0 n.1)) ≡ okay line → IsLineIn (word ∷ words) line
total_read words word line name (Ok p) h e = along (IsLineIn (word ∷ words)) (Total p.0 p.1) line e ((name, h p refl), tt)
total_read words word line name (Err why) h e = absurd (cc)

happens_read : (words : List (List ℕ)) (line : ScriptLine) (r : Result ScriptEvent NoEvent) → ((event : ScriptEvent) → r ≡ okay event → IsEventIn words event) → then_by r (λ event. okay (Happens event)) ≡ okay line → IsLineIn words line
happens_read words line (Ok event) h e = along (IsLineIn words) (Happens event) line e (h event refl)
happens_read words line (Err why) h e = absurd (cc)

fuse_by : (k : List ℕ) (words : List (List ℕ)) (word : List ℕ) (line : ScriptLine) → word ≡ codes "fuse" → (x : Option ℕ) → number_of k ≡ x → (r : Result ScriptEvent NoEvent) → ((event : ScriptEvent) → r ≡ okay event → IsEventIn words event) → then_by (given NotANumber x) (λ calls. then_by (unless (eqb calls 0) OutOfRange calls) (λ _. then_by r (λ event. okay (Fuse calls event)))) ≡ okay line → IsLineIn (word ∷ k ∷ words) line
fuse_by k words word line name None ex r h e = absurd (cc)
fuse_by k words word line name (Some calls) ex r h e = fused (eqb calls 0) refl r h e
  where
    fused : (b : Bool) → eqb calls 0 ≡ b → (r : Result ScriptEvent NoEvent) → ((event : ScriptEvent) → r ≡ okay event → IsEventIn words event) → then_by (unless b OutOfRange calls) (λ _. then_by r (λ event. okay (Fuse calls event))) ≡ okay line → IsLineIn (word ∷ k ∷ words) line
    fused true eb r h e = absurd (cc)
    fused false eb (Err why) h e = absurd (cc)
    fused false eb (Ok event) h e =
        let some : 1 ≤ calls = grind (arith) in
        let said = h event refl in
        along (IsLineIn (word ∷ k ∷ words)) (Fuse calls event) line e ((name, (ex, said.0)), (some, said.1))

fuse_read : (words : List (List ℕ)) (word : List ℕ) (line : ScriptLine) → word ≡ codes "fuse" → fuse_in words ≡ okay line → IsLineIn (word ∷ words) line
fuse_read [] word line name e = absurd (cc)
fuse_read (k ∷ words) word line name e =
    fuse_by k words word line name (number_of k) refl (event_in words) (event_read words) (told_unless (no_words words) WrongCount (fuse_with k words) line e).1

line_by : (word : List ℕ) (words : List (List ℕ)) (line : ScriptLine) (a k b c d : Bool) → (a ≡ true → word ≡ codes "nodes") → (k ≡ true → word ≡ codes "kv") → (b ≡ true → word ≡ codes "now") → (c ≡ true → word ≡ codes "total") → (d ≡ true → word ≡ codes "fuse")
    → cond a (then_by (count_in words) (λ count. okay (Nodes count))) (cond k (then_by (count_in words) (λ count. okay (Kv count))) (cond b (then_by (one_number words) (λ tick. okay (Now tick))) (cond c (then_by (two_numbers words) (λ n. okay (Total n.0 n.1))) (cond d (fuse_in words) (then_by (event_in (word ∷ words)) (λ event. okay (Happens event))))))) ≡ okay line
    → IsLineIn (word ∷ words) line
line_by word words line true k b c d nodes kv now total fuse e = nodes_read words word line (nodes refl) (count_in words) (λ n. count_read words n (one_number words) (one_read words)) e
line_by word words line false true b c d nodes kv now total fuse e = kv_read words word line (kv refl) (count_in words) (λ n. count_read words n (one_number words) (one_read words)) e
line_by word words line false false true c d nodes kv now total fuse e = now_read words word line (now refl) (one_number words) (one_read words) e
line_by word words line false false false true d nodes kv now total fuse e = total_read words word line (total refl) (two_numbers words) (two_read words) e
line_by word words line false false false false true nodes kv now total fuse e = fuse_read words word line (fuse refl) e
line_by word words line false false false false false nodes kv now total fuse e = happens_read (word ∷ words) line (event_in (word ∷ words)) (event_read (word ∷ words)) e

line_read : (words : List (List ℕ)) (line : ScriptLine) → line_in words ≡ okay line → IsLineIn words line
line_read [] line e = absurd (cc)
line_read (word ∷ words) line e =
    line_by word words line (bytes_eq word (codes "nodes")) (bytes_eq word (codes "kv")) (bytes_eq word (codes "now")) (bytes_eq word (codes "total")) (bytes_eq word (codes "fuse"))
    (bytes_eq-Decides word (codes "nodes")).0 (bytes_eq-Decides word (codes "kv")).0 (bytes_eq-Decides word (codes "now")).0 (bytes_eq-Decides word (codes "total")).0 (bytes_eq-Decides word (codes "fuse")).0 e

-- a line that has words isn't skipped
says_words : (line : ScriptLine) (bytes : List ℕ) → HasWords line bytes → Says line bytes
says_words Skipped bytes h = absurd (no_words (words_of bytes) (words_empty bytes) h.words)
  where
    no_words : (words : List (List ℕ)) → words ≢ [] → AreWords [] words → ⊥
    no_words [] some are = some refl
    no_words (word ∷ words) some are = are
says_words (Nodes count) bytes h = h
says_words (Kv count) bytes h = h
says_words (Now tick) bytes h = h
says_words (Total node group) bytes h = h
says_words (Happens event) bytes h = h
says_words (Fuse calls event) bytes h = h

parted_by : (b : Bool) (bytes : List ℕ) (line : ScriptLine) → list_any is_empty_word (words_of bytes) ≡ b → cond b (Err SpareSpace) (line_in (words_of bytes)) ≡ okay line → Says line bytes
parted_by true bytes line parted e = absurd (cc)
parted_by false bytes line parted e =
    let said = line_read (words_of bytes) line e in
    says_words line bytes (record { words = said.0; parted = parted; allowed = said.1 })

skipped_by : (b : Bool) (byte : ℕ) (bytes : List ℕ) (line : ScriptLine) → (b ≡ true → byte ≡ 35) → cond b (okay Skipped) (line_with (words_of (byte ∷ bytes))) ≡ okay line → Says line (byte ∷ bytes)
skipped_by true byte bytes line comment e = along (λ l. Says l (byte ∷ bytes)) Skipped line e (comment refl)
skipped_by false byte bytes line comment e = parted_by (list_any is_empty_word (words_of (byte ∷ bytes))) (byte ∷ bytes) line refl e

text_read : (bytes : List ℕ) (line : ScriptLine) → text_in bytes ≡ okay line → Says line bytes
text_read [] line e = along (λ l. Says l []) Skipped line e tt
text_read (byte ∷ bytes) line e = skipped_by (eqb byte 35) byte bytes line (Decides-eqb byte 35).0 e

few : (bytes : List ℕ) → ltb 65536 (length bytes) ≡ false → length bytes ≤ 65536
few bytes e = grind (arith)

line_of_by : (long text : Bool) (bytes : List ℕ) (line : ScriptLine) → ltb 65536 (length bytes) ≡ long → is_utf8 bytes ≡ text → cond long (Err TooLong) (cond (not text) (Err NotUtf8) (text_in bytes)) ≡ okay line → Spells line bytes
line_of_by true text bytes line el et e = absurd (cc)
line_of_by false false bytes line el et e = absurd (cc)
line_of_by false true bytes line el et e =
    record { short = few bytes el; text = IsUtf8-from_is_utf8 bytes et; says = text_read bytes line e }

-- what is read is spelled
pub read_spelled : (bytes : List ℕ) (line : ScriptLine) → line_of bytes ≡ okay line → Spells line bytes
unfolding line_of
read_spelled bytes line e = line_of_by (ltb 65536 (length bytes)) (is_utf8 bytes) bytes line refl refl e

-- ---- said, so read

count_unless : (count : ℕ) → 1 ≤ count → count ≤ 9 → unless (eqb count 0 || ltb 9 count) OutOfRange count ≡ okay count
count_unless count low high =
    let zero : eqb count 0 ≡ false = grind (arith) in
    let nine : ltb 9 count ≡ false = grind (arith) in
    ap (λ b. unless (b || ltb 9 count) OutOfRange count) zero ∙ ap (λ b. unless (false || b) OutOfRange count) nine

count_said : (count : ℕ) (words : List (List ℕ)) → AreWords (Number count ∷ []) words → IsCount count → count_in words ≡ okay count
count_said count words h allowed =
    then_okay (one_number words) count (λ n. unless (eqb n 0 || ltb 9 n) OutOfRange n) (one_said count words h)
    ∙ count_unless count allowed.0 allowed.1

-- an event's words are read as that event, behind no word that begins another line
happens_first : (event : ScriptEvent) (words : List (List ℕ)) → line_in (verb_word event ∷ words) ≡ then_by (event_in (verb_word event ∷ words)) (λ e. okay (Happens e))
happens_first (events.Add n g) words = refl
happens_first (events.Init n g vs ls) words = refl
happens_first (events.Propose n g t) words = refl
happens_first (events.Put n g k v) words = refl
happens_first (events.Get n g k) words = refl
happens_first (events.Drop n g k) words = refl
happens_first (events.Elect n g) words = refl
happens_first (events.Heartbeat n g) words = refl
happens_first (events.Lost n g t) words = refl
happens_first (events.Snapshot n g) words = refl
happens_first (events.Purge n g t) words = refl
happens_first (events.Addr n g i t) words = refl
happens_first (events.Voters n g ids) words = refl
happens_first (events.Deliver g n cut) words = refl
happens_first (events.Clean n) words = refl
happens_first (events.Crash n choice) words = refl
happens_first (events.Reopen n workers) words = refl

named_first : (name : List ℕ) (args : List Word) (event : ScriptEvent) (words : List (List ℕ)) → event_words event ≡ Text name ∷ args → AreWords (event_words event) words → (more : List (List ℕ)) × (words ≡ name ∷ more)
named_first name args event [] same h = absurd (subst (λ ws. AreWords ws []) same h)
named_first name args event (word ∷ words) same h =
    let said : AreWords (Text name ∷ args) (word ∷ words) = subst (λ ws. AreWords ws (word ∷ words)) same h in
    (words, ap (λ w. w ∷ words) said.0)

-- an event's words begin with its verb
verb_first : (event : ScriptEvent) (words : List (List ℕ)) → AreWords (event_words event) words → (more : List (List ℕ)) × (words ≡ verb_word event ∷ more)
verb_first event words h =
    let (args, same) = first_of_event event in named_first (verb_word event) args event words same h

happens_said : (event : ScriptEvent) (words : List (List ℕ)) → AreWords (event_words event) words → IsAllowedEvent event → line_in words ≡ okay (Happens event)
happens_said event words h allowed =
    let (more, same) = verb_first event words h in
    let P : List (List ℕ) → Type 0 = λ ws. line_in ws ≡ then_by (event_in ws) (λ e. okay (Happens e)) in
    subst P (sym same) (happens_first event more)
    ∙ then_okay (event_in words) event (λ e. okay (Happens e)) (event_said event words h allowed)

has_words : (event : ScriptEvent) (words : List (List ℕ)) → AreWords (event_words event) words → no_words words ≡ false
has_words event words h =
    let (more, same) = verb_first event words h in
    ap no_words same

fuse_said : (calls : ℕ) (event : ScriptEvent) (words : List (List ℕ)) → AreWords (Number calls ∷ event_words event) words → 1 ≤ calls → IsAllowedEvent event → fuse_in words ≡ okay (Fuse calls event)
fuse_said calls event [] h some allowed = absurd h
fuse_said calls event (k ∷ words) h some allowed =
    let positive : eqb calls 0 ≡ false = grind (arith) in
    ap (λ b. cond b (Err WrongCount) (fuse_with k words)) (has_words event words h.1)
    ∙ (then_given NotANumber (number_of k) calls (λ c. then_by (unless (eqb c 0) OutOfRange c) (λ _. then_by (event_in words) (λ e. okay (Fuse c e)))) h.0
    ∙ (ap (λ b. then_by (unless b OutOfRange calls) (λ _. then_by (event_in words) (λ e. okay (Fuse calls e)))) positive
    ∙ then_okay (event_in words) event (λ e. okay (Fuse calls e)) (event_said event words h.1 allowed)))

after_first : (name word : List ℕ) (words : List (List ℕ)) (line : ScriptLine) → word ≡ name → line_in (name ∷ words) ≡ okay line → line_in (word ∷ words) ≡ okay line
after_first name word words line e h = ap (λ w. line_in (w ∷ words)) e ∙ h

line_said : (line : ScriptLine) (words : List (List ℕ)) → words ≢ [] → AreWords (line_words line) words → IsAllowed line → line_in words ≡ okay line
line_said line [] some h allowed = absurd (some refl)
line_said Skipped (word ∷ words) some h allowed = absurd h
line_said (Nodes count) (word ∷ words) some h allowed =
    after_first (codes "nodes") word words (Nodes count) h.0 (then_okay (count_in words) count (λ n. okay (Nodes n)) (count_said count words h.1 allowed))
line_said (Kv count) (word ∷ words) some h allowed =
    after_first (codes "kv") word words (Kv count) h.0 (then_okay (count_in words) count (λ n. okay (Kv n)) (count_said count words h.1 allowed))
line_said (Now tick) (word ∷ words) some h allowed =
    after_first (codes "now") word words (Now tick) h.0 (then_okay (one_number words) tick (λ n. okay (Now n)) (one_said tick words h.1))
line_said (Total node group) (word ∷ words) some h allowed =
    after_first (codes "total") word words (Total node group) h.0
    (then_okay (two_numbers words) (node, group) (λ n. okay (Total n.0 n.1)) (two_said node group words h.1))
line_said (Happens event) (word ∷ words) some h allowed = happens_said event (word ∷ words) h allowed
line_said (Fuse calls event) (word ∷ words) some h allowed =
    after_first (codes "fuse") word words (Fuse calls event) h.0 (fuse_said calls event words h.1 allowed.0 allowed.1)

-- the first word of a line begins with its first byte
first_byte : (parts : List (List ℕ)) (byte : ℕ) → (first : List ℕ) × (others : List (List ℕ)) × (onto_first byte parts ≡ (byte ∷ first) ∷ others)
first_byte [] byte = ([], [], refl)
first_byte (part ∷ parts) byte = (part, parts, refl)

-- the first byte of a word, and another one of an empty word
abbrev first_of : List (List ℕ) → ℕ
first_of [] = 35
first_of ([] ∷ words) = 35
first_of ((byte ∷ bytes) ∷ words) = byte

comment_first : (bytes : List ℕ) → first_of (words_of (35 ∷ bytes)) ≡ 35
comment_first bytes =
    let (first, others, e) = first_byte (words_of bytes) 35 in ap first_of e

no_comment_event : (event : ScriptEvent) → eqb (first_of (verb_word event ∷ [])) 35 ≡ false
no_comment_event (events.Add n g) = refl
no_comment_event (events.Init n g vs ls) = refl
no_comment_event (events.Propose n g t) = refl
no_comment_event (events.Put n g k v) = refl
no_comment_event (events.Get n g k) = refl
no_comment_event (events.Drop n g k) = refl
no_comment_event (events.Elect n g) = refl
no_comment_event (events.Heartbeat n g) = refl
no_comment_event (events.Lost n g t) = refl
no_comment_event (events.Snapshot n g) = refl
no_comment_event (events.Purge n g t) = refl
no_comment_event (events.Addr n g i t) = refl
no_comment_event (events.Voters n g ids) = refl
no_comment_event (events.Deliver g n cut) = refl
no_comment_event (events.Clean n) = refl
no_comment_event (events.Crash n choice) = refl
no_comment_event (events.Reopen n workers) = refl

first_alone : (word : List ℕ) (words : List (List ℕ)) → first_of (word ∷ words) ≡ first_of (word ∷ [])
first_alone [] words = refl
first_alone (byte ∷ bytes) words = refl

-- words of a line don't begin as a comment does
no_comment : (line : ScriptLine) (words : List (List ℕ)) → words ≢ [] → AreWords (line_words line) words → eqb (first_of words) 35 ≡ false
no_comment line [] some h = absurd (some refl)
no_comment Skipped (word ∷ words) some h = absurd h
no_comment (Nodes count) (word ∷ words) some h = ap (λ w. eqb (first_of (w ∷ words)) 35) h.0
no_comment (Kv count) (word ∷ words) some h = ap (λ w. eqb (first_of (w ∷ words)) 35) h.0
no_comment (Now tick) (word ∷ words) some h = ap (λ w. eqb (first_of (w ∷ words)) 35) h.0
no_comment (Total node group) (word ∷ words) some h = ap (λ w. eqb (first_of (w ∷ words)) 35) h.0
no_comment (Fuse calls event) (word ∷ words) some h = ap (λ w. eqb (first_of (w ∷ words)) 35) h.0
no_comment (Happens event) (word ∷ words) some h =
    let (more, same) = verb_first event (word ∷ words) h in
    ap (λ ws. eqb (first_of ws) 35) same
    ∙ (ap (λ b. eqb b 35) (first_alone (verb_word event) more) ∙ no_comment_event event)

plain_by : (b : Bool) (byte : ℕ) (bytes : List ℕ) → (b ≡ true → byte ≡ 35) → eqb (first_of (words_of (byte ∷ bytes))) 35 ≡ false → b ≡ false
plain_by false byte bytes is h = refl
plain_by true byte bytes is h =
    let comment : eqb (first_of (words_of (35 ∷ bytes))) 35 ≡ false = subst (λ v. eqb (first_of (words_of (v ∷ bytes))) 35 ≡ false) (is refl) h in
    let no : eqb 35 35 ≡ false = ap (λ v. eqb v 35) (sym (comment_first bytes)) ∙ comment in absurd (cc)

words_said : (line : ScriptLine) (bytes : List ℕ) → HasWords line bytes → text_in bytes ≡ okay line
words_said line [] h = absurd (empty_parted h.parted)
  where
    empty_parted : list_any is_empty_word (words_of []) ≡ false → ⊥
    empty_parted e = let no : true ≡ false = e in cc
words_said line (byte ∷ bytes) h =
    let words = words_of (byte ∷ bytes) in
    let plain = plain_by (eqb byte 35) byte bytes (Decides-eqb byte 35).0 (no_comment line words (words_empty (byte ∷ bytes)) h.words) in
    ap (λ b. cond b (okay Skipped) (line_with words)) plain
    ∙ (ap (λ b. cond b (Err SpareSpace) (line_in words)) h.parted
    ∙ line_said line words (words_empty (byte ∷ bytes)) h.words h.allowed)

skipped_said : (bytes : List ℕ) → IsSkipped bytes → text_in bytes ≡ okay Skipped
skipped_said [] h = refl
skipped_said (byte ∷ bytes) h =
    let same : eqb byte 35 ≡ true = (Decides-eqb byte 35).1 h in
    ap (λ b. cond b (okay Skipped) (line_with (words_of (byte ∷ bytes)))) same

text_said : (line : ScriptLine) (bytes : List ℕ) → Says line bytes → text_in bytes ≡ okay line
text_said Skipped bytes h = skipped_said bytes h
text_said (Nodes count) bytes h = words_said (Nodes count) bytes h
text_said (Kv count) bytes h = words_said (Kv count) bytes h
text_said (Now tick) bytes h = words_said (Now tick) bytes h
text_said (Total node group) bytes h = words_said (Total node group) bytes h
text_said (Happens event) bytes h = words_said (Happens event) bytes h
text_said (Fuse calls event) bytes h = words_said (Fuse calls event) bytes h

not_long : (bytes : List ℕ) → length bytes ≤ 65536 → ltb 65536 (length bytes) ≡ false
not_long bytes h =
    false_from_ne_true (ltb 65536 (length bytes)) (λ e. let long : 65536 < length bytes = (Decides-ltb 65536 (length bytes)).0 e in absurd (omega arith))

-- what is spelled is read
pub spelled_read : (bytes : List ℕ) (line : ScriptLine) → Spells line bytes → line_of bytes ≡ okay line
unfolding line_of
spelled_read bytes line h =
    ap (λ b. cond b (Err TooLong) (cond (not (is_utf8 bytes)) (Err NotUtf8) (text_in bytes))) (not_long bytes h.short)
    ∙ (ap (λ b. cond (not b) (Err NotUtf8) (text_in bytes)) (is_utf8-from_IsUtf8 bytes h.text)
    ∙ text_said line bytes h.says)

-- ---- what a reading tells

pub line_too_long : (bytes : List ℕ) → 65536 < length bytes → line_of bytes ≡ Err TooLong
unfolding line_of
line_too_long bytes h =
    ap (λ b. cond b (Err TooLong) (cond (not (is_utf8 bytes)) (Err NotUtf8) (text_in bytes))) ((Decides-ltb 65536 (length bytes)).1 h)

pub line_no_text : (bytes : List ℕ) → length bytes ≤ 65536 → (IsUtf8 bytes → ⊥) → line_of bytes ≡ Err NotUtf8
unfolding line_of
line_no_text bytes h none =
    ap (λ b. cond b (Err TooLong) (cond (not (is_utf8 bytes)) (Err NotUtf8) (text_in bytes))) (not_long bytes h)
    ∙ ap (λ b. cond (not b) (Err NotUtf8) (text_in bytes)) (false_from_ne_true (is_utf8 bytes) (λ e. none (IsUtf8-from_is_utf8 bytes e)))

pub line_text : (bytes : List ℕ) → length bytes ≤ 65536 → IsUtf8 bytes → line_of bytes ≡ text_in bytes
unfolding line_of
line_text bytes h text =
    ap (λ b. cond b (Err TooLong) (cond (not (is_utf8 bytes)) (Err NotUtf8) (text_in bytes))) (not_long bytes h)
    ∙ ap (λ b. cond (not b) (Err NotUtf8) (text_in bytes)) (is_utf8-from_IsUtf8 bytes text)

pub tells_spelled : (bytes : List ℕ) (line : ScriptLine) → line_of bytes ≡ okay line → SpellsOnly bytes line
tells_spelled bytes line e =
    record {
      spelled = read_spelled bytes line e;
      only = λ other h. ap (value_or other) (sym (spelled_read bytes other h) ∙ e);
    }

pub tells_why : (bytes : List ℕ) (why : NoEvent) → line_of bytes ≡ Err why → SpellsNone bytes × (line_of bytes ≡ Err why)
tells_why bytes why e = (λ line h. let no : okay line ≡ Err why = sym (spelled_read bytes line h) ∙ e in cc, e)

pub tells_error : (bytes : List ℕ) (error : ReadLineError) → Tells (Err error) (line_of bytes) → IsWhyNot bytes error
tells_error bytes (errors.NoEvent why) h = tells_why bytes why h
tells_error bytes errors.Memory h = tt

pub tells_ok : (bytes : List ℕ) (r : Result ScriptLine ReadLineError) → Tells r (line_of bytes) → IfOk r (SpellsOnly bytes)
tells_ok bytes (Ok line) h = tells_spelled bytes line h
tells_ok bytes (Err error) h = tt

pub tells_err : (bytes : List ℕ) (r : Result ScriptLine ReadLineError) → Tells r (line_of bytes) → IfErr r (IsWhyNot bytes)
tells_err bytes (Ok line) h = tt
tells_err bytes (Err error) h = tells_error bytes error h
