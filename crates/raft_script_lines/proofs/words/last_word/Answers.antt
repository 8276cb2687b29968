use Rattle.std.proofs.Common.{◌≡◌, ◌∷◌, refl}
use Rattle.std.specs.Option.{option_map}
use Rattle.raft_script_lines.specs.Words.{words_of, words_after}
use Rattle.raft_script_lines.proofs.WordLemmas.{two_at_least}
use Rattle.raft_script_lines.proofs.words.last_word.Goals as goal

pub returns-in_default-Some : goal.returns-in_default-Some
returns-in_default-Some c =
    let text = c.in_default-Some.field-0-1.now in
    let words : words_after (option_map (λ text. text.now) c.args.words) ≡ c.in_ok-word.field-0.0.now ∷ words_of text = rw c.in_default-Some.is-1 at c.in_ok-word.ensures in
    (λ word e. two_at_least _ c.in_ok-word.field-0.0.now text word words e, refl)
