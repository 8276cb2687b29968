-- The words of a line, and the numbers that they name.
use Rattle.std.specs.Prelude.{ℕ, Bool, true, false, ◌^◌, ◌==◌, ◌||◌, ◌&&◌, nat_lt, if◌then◌else◌, List, [], ◌∷◌, length, Option, Some, None}
use Rattle.std.specs.List.{list_any, slice_split}
use Rattle.std.specs.Str.{all_ascii_digits}
use Rattle.std.specs.Str.Parse.{digits_value}

-- a line has at most so many bytes, its newline not among them
abbrev pub longest_line : ℕ
longest_line = 65536

-- the most bytes of a key and of a value
abbrev pub longest_key : ℕ
longest_key = 255

abbrev pub longest_value : ℕ
longest_value = 199

-- the words of a line: each space parts two words, which may be empty
abbrev pub words_of : List ℕ → List (List ℕ)
words_of line = slice_split (λ byte. byte == 32) line

-- the words after the one that a space ends
abbrev pub words_after : Option (List ℕ) → List (List ℕ)
words_after None = []
words_after (Some text) = words_of text

abbrev pub no_words : List (List ℕ) → Bool
no_words [] = true
no_words (word ∷ words) = false

abbrev pub is_empty_word : List ℕ → Bool
is_empty_word word = length word == 0

-- a word names a number if it is decimal digits, at least one, and the number is below 2^64
abbrev pub is_numeral : List ℕ → Bool
is_numeral word = all_ascii_digits word && (nat_lt 0 (length word) && nat_lt (digits_value 10 word) (2 ^ 64))

abbrev pub number_of : List ℕ → Option ℕ
number_of word = if is_numeral word then Some (digits_value 10 word) else None

abbrev pub both : Option ℕ → Option (List ℕ) → Option (List ℕ)
both (Some number) (Some numbers) = Some (number ∷ numbers)
both (Some number) None = None
both None others = None

-- the numbers that these words name, where each of them names one
abbrev pub numbers_of : List (List ℕ) → Option (List ℕ)
numbers_of [] = Some []
numbers_of (word ∷ words) = both (number_of word) (numbers_of words)

-- some id stands in the list twice
abbrev pub has_twice : List ℕ → Bool
has_twice [] = false
has_twice (id ∷ ids) = list_any (λ other. other == id) ids || has_twice ids
