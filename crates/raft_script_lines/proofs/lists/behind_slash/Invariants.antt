use Rattle.std.proofs.Common.{◌≡◌, length}
use Rattle.std.specs.Option.{option_map}
use Rattle.raft_script_lines.specs.Words.{words_of, words_after}
use Rattle.raft_script_lines.specs.Reading.{behind_slash}
use Rattle.raft_script_lines.proofs.lists.behind_slash.Given as goal

abbrev pub invariant-loop-words : goal.invariant-loop-words
invariant-loop-words l = behind_slash (words_of l.fn.text) ≡ behind_slash (words_after (option_map (λ text. text.now) l.words))

abbrev pub decreases-loop-words : goal.decreases-loop-words
decreases-loop-words l = length (words_after (option_map (λ text. text.now) l.words))
