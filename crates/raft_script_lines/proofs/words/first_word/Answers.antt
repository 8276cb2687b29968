use Rattle.std.proofs.Common.{◌≡◌, ◌≢◌, ℕ, suc, ◌<◌, ◌-◌, ◌+◌, List, ◌∷◌, ◌++◌, length, get_or, drop, sym, ap, subst, ◌∙◌, add-one, arith}
use Rattle.std.specs.List.{slice_range}
use Rattle.std.proofs.lemmas.List.{get_or-take, length-take-le}
use Rattle.std.proofs.lemmas.List.Folds.{drop_split}
use Rattle.std.proofs.Math.Seq.{drop-cons}
use Rattle.std.proofs.lemmas.Str.{IsCharBoundary-after_ascii}
use Rattle.raft_script_lines.specs.Words.{words_of}
use Rattle.raft_script_lines.proofs.WordLemmas.{words_one, words_more}
use Rattle.raft_script_lines.proofs.words.first_word.Goals as goal

-- a text up to its first space, and what is behind that
first_parted : (s : List ℕ) (n : ℕ) → n < length s → get_or s n 0 ≡ 32 → ((i : ℕ) → i < n → get_or s i 0 ≢ 32) → words_of s ≡ slice_range s 0 n ∷ words_of (drop (n + 1) s)
first_parted s n l e apart =
    let same : n - 0 ≡ n = omega arith in
    let long : length (slice_range s 0 n) ≡ n - 0 = length-take-le (n - 0) s (omega arith) in
    let behind : drop n s ≡ 32 ∷ drop (n + 1) s = rw add-one (subst (λ (b : ℕ). drop n s ≡ b ∷ drop (suc n) s) e (drop-cons s n 0 l)) in
    let parted : s ≡ slice_range s 0 n ++ drop n s = drop_split s 0 n (omega arith) in
    let spaceless : (i : ℕ) → i < length (slice_range s 0 n) → get_or (slice_range s 0 n) i 0 ≢ 32 = λ i inside f. apart i (omega arith) (sym (get_or-take (n - 0) s i 0 (omega arith)) ∙ f) in
    ap words_of (parted ∙ ap (λ (x : List ℕ). slice_range s 0 n ++ x) behind) ∙ words_more (slice_range s 0 n) (drop (n + 1) s) spaceless

pub returns-in-Some : goal.returns-in-Some
returns-in-Some c =
    let found = rw c.as_bytes.ensures.value at c.in-Some.ensures in
    rw (c.range.ensures.value, c.range_from.ensures.value) (first_parted c.args.text.now c.in-Some.place found.0 found.1 found.2)

pub range_from-requires : goal.range_from-requires
range_from-requires c = λ _.
    let found = rw c.as_bytes.ensures.value at c.in-Some.ensures in
    IsCharBoundary-after_ascii c.args.text.now c.in-Some.place c.utf8.text found.0 (omega (arith, found.1))

pub returns-in-None : goal.returns-in-None
returns-in-None c = words_one c.args.text.now (rw c.as_bytes.ensures.value at c.in-None.ensures)
