use Rattle.std.proofs.Common.{lit<, ◌∙◌}
use Rattle.std.proofs.lemmas.Bool.Decides.{not_from_Decides}
use Rattle.std.proofs.lemmas.Str.Pattern.{starts_char}
use Rattle.raft_script_lines.proofs.WordLemmas.{number_parsed}
use Rattle.raft_script_lines.proofs.words.number_of.Goals as goal

pub returns : goal.returns
returns c =
    let word = c.args.word.now in
    let plus = starts_char 43 word _ c.starts_with.ensures.cases (lit< tt) (lit< tt) in
    c.ok.ensures.value ∙ number_parsed word _ c.parse.ensures.value.0 (not_from_Decides c.starts_with.result plus c.if-starts_with.false)
