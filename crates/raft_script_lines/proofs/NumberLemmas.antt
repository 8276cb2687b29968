-- Words that are numbers: what is read of them is what the grammar says.
use Rattle.std.proofs.Common.{◌≡◌, ℕ, Bool, true, false, List, [], ◌∷◌, ◌++◌, map, Option, Some, None, Result, Ok, Err, refl, sym, ◌∙◌, ap, subst, cond, codes}
use Rattle.std.proofs.lemmas.Slice.Eq.{bytes_eq-Decides}
use Rattle.raft_script_lines.specs.declared.no_event.NoEvent.{NoEvent}
use Rattle.raft_script_lines.specs.declared.no_event.NoEvent.TheVariants.{NotANumber}
use Rattle.raft_script_lines.specs.Grammar.{Number, AreWords, learners_behind}
use Rattle.raft_script_lines.specs.Reading.{then_by, given, unless, one_number, two_numbers, three_numbers, is_slash, before_slash, behind_slash, are_missing, or_none}
use Rattle.raft_script_lines.specs.Words.{no_words, number_of, numbers_of, both}

abbrev pub okay : {A : Type 0} → A → Result A NoEvent
okay value = Ok value

abbrev pub value_or : {A : Type 0} → A → Result A NoEvent → A
value_or other (Ok value) = value
value_or other (Err why) = other

abbrev pub some_or : {A : Type 0} → A → Option A → A
some_or other (Some value) = value
some_or other None = other

pub then_given : {A B : Type 0} (why : NoEvent) (o : Option A) (value : A) (more : A → Result B NoEvent) → o ≡ Some value → then_by (given why o) more ≡ more value
then_given why o value more e = ap (λ p. then_by (given why p) more) e

pub then_unless : {A B : Type 0} (b : Bool) (why : NoEvent) (value : A) (more : A → Result B NoEvent) → b ≡ false → then_by (unless b why value) more ≡ more value
then_unless b why value more e = ap (λ p. then_by (unless p why value) more) e

pub then_okay : {A B : Type 0} (r : Result A NoEvent) (value : A) (more : A → Result B NoEvent) → r ≡ okay value → then_by r more ≡ more value
then_okay r value more e = ap (λ p. then_by p more) e

pub given_okay : {A : Type 0} (why : NoEvent) (o : Option A) (value : A) → given why o ≡ okay value → o ≡ Some value
given_okay why (Some x) value e = ap (λ r. Some (value_or x r)) e
given_okay why None value e = absurd (cc)

pub along : {A : Type 0} (P : A → Type 0) (x y : A) → okay x ≡ okay y → P x → P y
along P x y e p = subst P (ap (value_or x) e) p

-- what is told behind a test is told where the test fails
pub told_unless : {A : Type 0} (b : Bool) (why : NoEvent) (x : Result A NoEvent) (value : A) → cond b (Err why) x ≡ okay value → (b ≡ false) × (x ≡ okay value)
told_unless true why x value e = absurd (cc)
told_unless false why x value e = (refl, e)

-- ---- so many numbers

pub one_said : (n : ℕ) (words : List (List ℕ)) → AreWords (Number n ∷ []) words → one_number words ≡ okay n
one_said n [] h = absurd h
one_said n (a ∷ []) h = ap (given NotANumber) h.0
one_said n (a ∷ b ∷ more) h = absurd h.1

pub one_read : (words : List (List ℕ)) (n : ℕ) → one_number words ≡ okay n → AreWords (Number n ∷ []) words
one_read [] n e = absurd (cc)
one_read (a ∷ []) n e = (given_okay NotANumber (number_of a) n e, tt)
one_read (a ∷ b ∷ more) n e = absurd (cc)

pub two_said : (n g : ℕ) (words : List (List ℕ)) → AreWords (Number n ∷ Number g ∷ []) words → two_numbers words ≡ okay (n, g)
two_said n g [] h = absurd h
two_said n g (a ∷ []) h = absurd h.1
two_said n g (a ∷ b ∷ []) h =
    then_given NotANumber (number_of a) n (λ x. then_by (given NotANumber (number_of b)) (λ y. okay (x, y))) h.0
    ∙ then_given NotANumber (number_of b) g (λ y. okay (n, y)) h.1.0
two_said n g (a ∷ b ∷ c ∷ more) h = absurd h.1.1

two_given : (x y : Option ℕ) (p : ℕ × ℕ) → then_by (given NotANumber x) (λ a. then_by (given NotANumber y) (λ b. okay (a, b))) ≡ okay p → (x ≡ Some p.0) × (y ≡ Some p.1)
two_given None y p e = absurd (cc)
two_given (Some a) None p e = absurd (cc)
two_given (Some a) (Some b) p e =
    let q : (a, b) ≡ p = ap (value_or (a, b)) e in (ap (λ r. Some r.0) q, ap (λ r. Some r.1) q)

pub two_read : (words : List (List ℕ)) (p : ℕ × ℕ) → two_numbers words ≡ okay p → AreWords (Number p.0 ∷ Number p.1 ∷ []) words
two_read [] p e = absurd (cc)
two_read (a ∷ []) p e = absurd (cc)
two_read (a ∷ b ∷ []) p e = let h = two_given (number_of a) (number_of b) p e in (h.0, (h.1, tt))
two_read (a ∷ b ∷ c ∷ more) p e = absurd (cc)

pub three_said : (n g t : ℕ) (words : List (List ℕ)) → AreWords (Number n ∷ Number g ∷ Number t ∷ []) words → three_numbers words ≡ okay (n, g, t)
three_said n g t [] h = absurd h
three_said n g t (a ∷ []) h = absurd h.1
three_said n g t (a ∷ b ∷ []) h = absurd h.1.1
three_said n g t (a ∷ b ∷ c ∷ []) h =
    then_given NotANumber (number_of a) n (λ x. then_by (given NotANumber (number_of b)) (λ y. then_by (given NotANumber (number_of c)) (λ z. okay (x, y, z)))) h.0
    ∙ (then_given NotANumber (number_of b) g (λ y. then_by (given NotANumber (number_of c)) (λ z. okay (n, y, z))) h.1.0
    ∙ then_given NotANumber (number_of c) t (λ z. okay (n, g, z)) h.1.1.0)
three_said n g t (a ∷ b ∷ c ∷ d ∷ more) h = absurd h.1.1.1

three_given : (x y z : Option ℕ) (p : ℕ × ℕ × ℕ) → then_by (given NotANumber x) (λ a. then_by (given NotANumber y) (λ b. then_by (given NotANumber z) (λ c. okay (a, b, c)))) ≡ okay p → (x ≡ Some p.0) × (y ≡ Some p.1) × (z ≡ Some p.2)
three_given None y z p e = absurd (cc)
three_given (Some a) None z p e = absurd (cc)
three_given (Some a) (Some b) None p e = absurd (cc)
three_given (Some a) (Some b) (Some c) p e =
    let q : (a, b, c) ≡ p = ap (value_or (a, b, c)) e in (ap (λ r. Some r.0) q, ap (λ r. Some r.1) q, ap (λ r. Some r.2) q)

pub three_read : (words : List (List ℕ)) (p : ℕ × ℕ × ℕ) → three_numbers words ≡ okay p → AreWords (Number p.0 ∷ Number p.1 ∷ Number p.2 ∷ []) words
three_read [] p e = absurd (cc)
three_read (a ∷ []) p e = absurd (cc)
three_read (a ∷ b ∷ []) p e = absurd (cc)
three_read (a ∷ b ∷ c ∷ []) p e =
    let h = three_given (number_of a) (number_of b) (number_of c) p e in (h.0, (h.1, (h.2, tt)))
three_read (a ∷ b ∷ c ∷ d ∷ more) p e = absurd (cc)

-- ---- lists

pub both_read : (first : Option ℕ) (others : Option (List ℕ)) (x : ℕ) (xs : List ℕ) → both first others ≡ Some (x ∷ xs) → (first ≡ Some x) × (others ≡ Some xs)
both_read None others x xs e = absurd (cc)
both_read (Some a) None x xs e = absurd (cc)
both_read (Some a) (Some rest) x xs e = (cc, cc)

pub both_none : (first : Option ℕ) (others : Option (List ℕ)) → both first others ≡ Some [] → ⊥
both_none None others e = cc
both_none (Some a) None e = cc
both_none (Some a) (Some rest) e = cc

pub list_read : (words : List (List ℕ)) (ids : List ℕ) → numbers_of words ≡ Some ids → AreWords (map Number ids) words
list_read [] [] e = tt
list_read [] (id ∷ ids) e = absurd (cc)
list_read (word ∷ words) [] e = absurd (both_none (number_of word) (numbers_of words) e)
list_read (word ∷ words) (id ∷ ids) e =
    let h = both_read (number_of word) (numbers_of words) id ids e in (h.0, list_read words ids h.1)

pub list_said : (ids : List ℕ) (words : List (List ℕ)) → AreWords (map Number ids) words → numbers_of words ≡ Some ids
list_said [] [] h = refl
list_said [] (word ∷ words) h = absurd h
list_said (id ∷ ids) [] h = absurd h
list_said (id ∷ ids) (word ∷ words) h =
    ap (λ first. both first (numbers_of words)) h.0 ∙ ap (both (Some id)) (list_said ids words h.1)

-- ---- two lists with a `/` between them

slash_spelled : (word : List ℕ) → is_slash word ≡ true → word ≡ codes "/"
slash_spelled word e = (bytes_eq-Decides word (codes "/")).0 e

no_slash : (b : Bool) (word : List ℕ) (n : ℕ) → (b ≡ true → word ≡ codes "/") → number_of word ≡ Some n → b ≡ false
no_slash false word n h e = refl
no_slash true word n h e =
    let none : number_of (codes "/") ≡ Some n = subst (λ w. number_of w ≡ Some n) (h refl) e in absurd (cc)

-- a number is no `/`
number_no_slash : (word : List ℕ) (n : ℕ) → number_of word ≡ Some n → is_slash word ≡ false
number_no_slash word n = no_slash (is_slash word) word n (slash_spelled word)

-- what is read of two lists
abbrev pub AreLists : List ℕ → List ℕ → List (List ℕ) → Type 0
AreLists voters learners words = AreWords (map Number voters ++ learners_behind learners) words

learners_read : (words : List (List ℕ)) (ids : List ℕ) → no_words words ≡ false → numbers_of words ≡ Some ids → (word : List ℕ) → word ≡ codes "/" → AreLists [] ids (word ∷ words)
learners_read [] ids h e word slash = absurd (cc)
learners_read (w ∷ words) [] h e word slash = absurd (both_none (number_of w) (numbers_of words) e)
learners_read (w ∷ words) (id ∷ ids) h e word slash = (slash, list_read (w ∷ words) (id ∷ ids) e)

lists_of_nothing : (voters learners : List ℕ) → Some [] ≡ Some voters → Some [] ≡ Some learners → AreLists voters learners []
lists_of_nothing [] [] e f = tt
lists_of_nothing [] (id ∷ ids) e f = absurd (cc)
lists_of_nothing (id ∷ ids) learners e f = absurd (cc)

lists_at_slash : (words : List (List ℕ)) (voters learners : List ℕ) → Some [] ≡ Some voters → numbers_of words ≡ Some learners → no_words words ≡ false → (word : List ℕ) → word ≡ codes "/" → AreLists voters learners (word ∷ words)
lists_at_slash words [] learners e f h word slash = learners_read words learners h f word slash
lists_at_slash words (id ∷ ids) learners e f h word slash = absurd (cc)

-- the first word is a `/`, or else a number of the first list
lists_by : (b : Bool) (word : List ℕ) (words : List (List ℕ)) (voters learners : List ℕ) → (b ≡ true → word ≡ codes "/") → numbers_of (cond b [] (word ∷ before_slash words)) ≡ Some voters → numbers_of (or_none (cond b (Some words) (behind_slash words))) ≡ Some learners → are_missing (cond b (Some words) (behind_slash words)) ≡ false → ((more : List ℕ) → numbers_of (before_slash words) ≡ Some more → numbers_of (or_none (behind_slash words)) ≡ Some learners → are_missing (behind_slash words) ≡ false → AreLists more learners words) → AreLists voters learners (word ∷ words)
lists_by true word words voters learners slash e f h others = lists_at_slash words voters learners e f h word (slash refl)
lists_by false word words [] learners slash e f h others = absurd (both_none (number_of word) (numbers_of (before_slash words)) e)
lists_by false word words (id ∷ ids) learners slash e f h others =
    let g = both_read (number_of word) (numbers_of (before_slash words)) id ids e in (g.0, others ids g.1 f h)

pub lists_read : (words : List (List ℕ)) (voters learners : List ℕ) → numbers_of (before_slash words) ≡ Some voters → numbers_of (or_none (behind_slash words)) ≡ Some learners → are_missing (behind_slash words) ≡ false → AreLists voters learners words
lists_read [] voters learners e f h = lists_of_nothing voters learners e f
lists_read (word ∷ words) voters learners e f h =
    lists_by (is_slash word) word words voters learners (slash_spelled word) e f h (λ more. lists_read words more learners)

-- what two lists are read as
pub record ListsAre (voters learners : List ℕ) (words : List (List ℕ)) : Type 0 where
  pub first : numbers_of (before_slash words) ≡ Some voters
  pub second : numbers_of (or_none (behind_slash words)) ≡ Some learners
  pub there : are_missing (behind_slash words) ≡ false

second_said : (learners : List ℕ) (words : List (List ℕ)) → AreLists [] learners words → ListsAre [] learners words
second_said [] [] h = record { first = refl; second = refl; there = refl }
second_said [] (word ∷ words) h = absurd h
second_said (id ∷ ids) [] h = absurd h
second_said (id ∷ ids) (word ∷ []) h = absurd h.1
second_said (id ∷ ids) (word ∷ w ∷ words) h =
    let along : (b : List ℕ → Type 0) → b (codes "/") → b word = λ b x. subst b (sym h.0) x in
    record {
      first = along (λ v. numbers_of (before_slash (v ∷ w ∷ words)) ≡ Some []) refl;
      second = along (λ v. numbers_of (or_none (behind_slash (v ∷ w ∷ words))) ≡ Some (id ∷ ids)) (list_said (id ∷ ids) (w ∷ words) h.1);
      there = along (λ v. are_missing (behind_slash (v ∷ w ∷ words)) ≡ false) refl;
    }

pub lists_said : (voters learners : List ℕ) (words : List (List ℕ)) → AreLists voters learners words → ListsAre voters learners words
lists_said [] learners words h = second_said learners words h
lists_said (id ∷ ids) learners [] h = absurd h
lists_said (id ∷ ids) learners (word ∷ words) h =
    let no = number_no_slash word id h.0 in
    let others = lists_said ids learners words h.1 in
    record {
      first =
          ap (λ b. numbers_of (cond b [] (word ∷ before_slash words))) no
          ∙ (ap (λ first. both first (numbers_of (before_slash words))) h.0 ∙ ap (both (Some id)) others.first);
      second = ap (λ b. numbers_of (or_none (cond b (Some words) (behind_slash words)))) no ∙ others.second;
      there = ap (λ b. are_missing (cond b (Some words) (behind_slash words))) no ∙ others.there;
    }
