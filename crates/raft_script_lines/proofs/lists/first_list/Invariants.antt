use Rattle.std.proofs.Common.{◌≡◌, length}
use Rattle.std.specs.Option.{option_map}
use Rattle.raft_script_lines.specs.Words.{words_of, words_after, numbers_of}
use Rattle.raft_script_lines.specs.Reading.{before_slash}
use Rattle.raft_script_lines.proofs.WordLemmas.{behind}
use Rattle.raft_script_lines.proofs.lists.first_list.Given as goal

abbrev pub invariant-loop-left : goal.invariant-loop-left
invariant-loop-left l =
    numbers_of (before_slash (words_of l.fn.lists))
    ≡ behind l.ids (numbers_of (before_slash (words_after (option_map (λ text. text.now) l.left))))

abbrev pub decreases-loop-left : goal.decreases-loop-left
decreases-loop-left l = length (words_after (option_map (λ text. text.now) l.left))
