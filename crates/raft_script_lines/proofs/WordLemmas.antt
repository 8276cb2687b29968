-- The words of a line, one after another, and the number that a word names.
use Rattle.std.proofs.Common.{◌≡◌, ◌≢◌, ℕ, ◌<◌, ◌^◌, List, [], ◌∷◌, ◌++◌, length, get_or, true, false, Option, Some, None, Result, Ok, Err, refl, cond, eqb, Bool, ap, sym, ◌∙◌, ◌||◌, append_assoc}
use Rattle.std.specs.List.{onto_first, All}
use Rattle.std.specs.Str.{all_ascii_digits}
use Rattle.std.specs.Str.Parse.{digits_value, ParsesUnsigned}
use Rattle.std.specs.Bool.{Decides}
use Rattle.std.specs.Result.{result_ok, OkIff}
use Rattle.std.proofs.lemmas.List.{get_or_default}
use Rattle.std.proofs.lemmas.Bool.Decides.{Decides-eqb, Decides-and, Decides-ltb, Decides-like}
use Rattle.std.proofs.lemmas.List.Splits.{slice_split_none, slice_split_at}
use Rattle.std.proofs.lemmas.Str.Parse.{IsNumeralModel, numerals_by_value, tells_all_ascii_digits, parse_plain}
use Rattle.raft_script_lines.specs.Reading.{before_slash, behind_slash, are_missing, lacks_list}
use Rattle.raft_script_lines.specs.Words.{words_of, no_words, number_of, is_numeral, both}

differs : (a b : ℕ) (t : Bool) → Decides t (a ≡ b) → a ≢ b → t ≡ false
differs a b true d h = absurd (h (d.0 refl))
differs a b false d h = refl

no_space : (bytes : List ℕ) → ((i : ℕ) → i < length bytes → get_or bytes i 0 ≢ 32) → All (λ byte. eqb byte 32 ≡ false) bytes
no_space bytes h k d inside =
    let same : get_or bytes k d ≡ get_or bytes k 0 = get_or_default bytes k d 0 inside in
    rw same (differs (get_or bytes k 0) 32 _ (Decides-eqb (get_or bytes k 0) 32) (h k inside))

pub words_one : (line : List ℕ) → ((i : ℕ) → i < length line → get_or line i 0 ≢ 32) → words_of line ≡ line ∷ []
words_one line h = slice_split_none (λ byte. eqb byte 32) line (no_space line h)

pub words_more : (word line : List ℕ) → ((i : ℕ) → i < length word → get_or word i 0 ≢ 32) → words_of (word ++ 32 ∷ line) ≡ word ∷ words_of line
words_more word line h = slice_split_at (λ byte. eqb byte 32) word 32 line (no_space word h) refl

pub own : IsNumeralModel (λ digits. all_ascii_digits digits ≡ true) (digits_value 10)
own = numerals_by_value _ tells_all_ascii_digits

some_if : {E : Type 0} (r : Result ℕ E) (b : Bool) (P : Type 0) (v : ℕ) → Decides b P → OkIff r P v → result_ok r ≡ cond b (Some v) None
some_if (Ok x) true P v d h = ap Some h.1
some_if (Ok x) false P v d h = let e : false ≡ true = d.1 h.0 in cc
some_if (Err e) true P v d h = absurd (h (d.0 refl))
some_if (Err e) false P v d h = refl

numeral_tells : (word : List ℕ) → Decides (is_numeral word) ((all_ascii_digits word ≡ true) × (0 < length word) × (digits_value 10 word < 2 ^ 64))
numeral_tells word =
    Decides-like _ (λ h. (h.0, h.1.0, h.1.1)) (λ h. (h.0, (h.1, h.2)))
    (Decides-and _ _ (λ e. e, λ e. e) (Decides-and _ _ (Decides-ltb 0 (length word)) (Decides-ltb (digits_value 10 word) (2 ^ 64))))

pub number_parsed : {E : Type 0} (word : List ℕ) (r : Result ℕ E) → ParsesUnsigned 64 10 word r → get_or word 0 0 ≢ 43 → result_ok r ≡ number_of word
number_parsed word r h plain = some_if r (is_numeral word) _ (digits_value 10 word) (numeral_tells word) (parse_plain own 64 word r h plain)

parts_empty : (byte : ℕ) (parts : List (List ℕ)) → onto_first byte parts ≢ []
parts_empty byte [] e = cc
parts_empty byte (part ∷ parts) e = cc

chosen_empty : (b : Bool) (x y : List (List ℕ)) → x ≢ [] → y ≢ [] → cond b x y ≢ []
chosen_empty true x y p q e = p e
chosen_empty false x y p q e = q e

pub words_empty : (text : List ℕ) → words_of text ≢ []
words_empty [] e = cc
words_empty (byte ∷ bytes) e =
    chosen_empty (eqb byte 32) ([] ∷ words_of bytes) (onto_first byte (words_of bytes)) (λ p. cc) (parts_empty byte (words_of bytes)) e

-- these numbers, and behind them those that may come
abbrev pub behind : List ℕ → Option (List ℕ) → Option (List ℕ)
behind ids None = None
behind ids (Some more) = Some (ids ++ more)

pub behind_nothing : (numbers : Option (List ℕ)) → numbers ≡ behind [] numbers
behind_nothing None = refl
behind_nothing (Some more) = refl

-- the next word names one number more
pub behind_next : (ids : List ℕ) (number : ℕ) (more : Option (List ℕ)) → behind ids (both (Some number) more) ≡ behind (ids ++ number ∷ []) more
behind_next ids number None = refl
behind_next ids number (Some more) = ap Some (sym (append_assoc ids (number ∷ []) more))

abbrev behind_first : List (List ℕ) → List (List ℕ)
behind_first [] = []
behind_first (word ∷ words) = words

-- where a text follows a word, there are two words at least
pub two_at_least : (words : List (List ℕ)) (first text word : List ℕ) → words ≡ first ∷ words_of text → words ≢ word ∷ []
two_at_least words first text word e f = words_empty text (ap behind_first (sym e ∙ f))

some_length : (words : List (List ℕ)) → words ≢ [] → no_words words ≡ false
some_length [] h = absurd (h refl)
some_length (word ∷ words) h = refl

-- a text has one word at least
pub some_words : (text : List ℕ) → no_words (words_of text) ≡ false
some_words text = some_length (words_of text) (words_empty text)

-- no list is missing where there are words before a `/`, and a text behind it
pub lists_there : (words : List (List ℕ)) (second : List ℕ) → behind_slash words ≡ Some (words_of second) → no_words (before_slash words) ≡ false → lacks_list words ≡ false
lists_there words second e h =
    ap (λ b. b || are_missing (behind_slash words)) h ∙ (ap are_missing e ∙ some_words second)
