use Rattle.std.proofs.Common.{◌<◌, ◌∷◌, List, ℕ, drop, map, string_bytes, refl, sym, ap, ◌∙◌, arith}
use Rattle.std.specs.declared.alloc.Global.{Global}
use Rattle.std.proofs.lemmas.List.{length-drop, length-map}
use Rattle.raft_log_tool.specs.Command.{needs}
use Rattle.raft_log_tool.specs.declared.command.Verb.{Verb}
use Rattle.raft_log_tool.specs.declared.command.Verb.TheVariants.{Check, Copy, Dump, Help, Repair, Sizes, Span}
use Rattle.raft_log_tool.proofs.LineLemmas.{head_of}
use Rattle.raft_log_tool.proofs.command.read_command.Goals as goal

few : (name : Verb) (n : ℕ) → 3 < n → needs name < n
few Help n more = omega (arith, more)
few Dump n more = omega (arith, more)
few Check n more = omega (arith, more)
few Span n more = omega (arith, more)
few Sizes n more = omega (arith, more)
few Copy n more = omega (arith, more)
few Repair n more = more

pub returns-in_default-verb_in-clause-err : goal.returns-in_default-verb_in-clause-err
returns-in_default-verb_in-clause-err c =
    let words = c.args.words.now in (
      string_bytes c.word-item.result,
      map (string_bytes {Z = Global}) (drop 1 words),
      head_of (string_bytes {Z = Global}) words c.word-item.result (omega (arith, c.in-len1-up.len_at_least)) c.word-item.is,
      λ name is. c.in_default-verb_in.ensures.none refl name (is ∙ sym c.as_str.ensures.value),
    )

pub returns-in_default-rest-clause-err : goal.returns-in_default-rest-clause-err
returns-in_default-rest-clause-err c =
    let words = c.args.words.now in (
      c.in-Some.verb,
      map (string_bytes {Z = Global}) (drop 1 words),
      few c.in-Some.verb _ (omega (arith, length-map (drop 1 words) (string_bytes {Z = Global}), length-drop 1 words, c.in_default-rest.len_at_least)),
      head_of (string_bytes {Z = Global}) words c.word-item.result (omega (arith, c.in-len1-up.len_at_least)) c.word-item.is
          ∙ ap (λ (w : List ℕ). w ∷ map (string_bytes {Z = Global}) (drop 1 words)) (sym (c.in-Some.ensures.some ∙ c.as_str.ensures.value)),
    )
