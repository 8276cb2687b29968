use Rattle.std.proofs.Common.{◌≡◌, length}
use Rattle.std.specs.Option.{option_map}
use Rattle.raft_script_lines.specs.Words.{words_after, numbers_of}
use Rattle.raft_script_lines.proofs.WordLemmas.{behind}
use Rattle.raft_script_lines.proofs.words.ids_in.Given as goal

abbrev pub invariant-loop-left : goal.invariant-loop-left
invariant-loop-left l =
    numbers_of (words_after (option_map (λ text. text.now) l.fn.words))
    ≡ behind l.ids (numbers_of (words_after (option_map (λ text. text.now) l.left)))

abbrev pub decreases-loop-left : goal.decreases-loop-left
decreases-loop-left l = length (words_after (option_map (λ text. text.now) l.left))
