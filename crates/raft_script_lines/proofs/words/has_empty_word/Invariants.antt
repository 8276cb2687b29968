use Rattle.std.proofs.Common.{◌≡◌, length}
use Rattle.std.specs.List.{list_any}
use Rattle.std.specs.Option.{option_map}
use Rattle.raft_script_lines.specs.Words.{words_of, words_after, is_empty_word}
use Rattle.raft_script_lines.proofs.words.has_empty_word.Given as goal

abbrev pub invariant-loop-words : goal.invariant-loop-words
invariant-loop-words l =
    list_any is_empty_word (words_of l.fn.text) ≡ list_any is_empty_word (words_after (option_map (λ text. text.now) l.words))

abbrev pub decreases-loop-words : goal.decreases-loop-words
decreases-loop-words l = length (words_after (option_map (λ text. text.now) l.words))
