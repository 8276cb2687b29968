use Rattle.std.proofs.Common.{◌≡◌, true, false, sym, ap, ◌∙◌, cond, codes}
use Rattle.std.specs.Str.{is_utf8}
use Rattle.std.proofs.lemmas.Bool.{false_from_ne_true}
use Rattle.std.proofs.lemmas.Str.{IsUtf8-from_is_utf8, is_utf8-from_IsUtf8}
use Rattle.raft_script_machines.proofs.keys.text_of.Goals as goal

pub returns-in-Ok : goal.returns-in-Ok
returns-in-Ok c =
    let is : is_utf8 c.args.value.now ≡ true = is_utf8-from_IsUtf8 c.args.value.now c.in-Ok.ensures.cases.1 in
    c.in-Ok.ensures.cases.0 ∙ sym (ap (λ b. cond b c.args.value.now (codes "?")) is)

pub returns-in-Err : goal.returns-in-Err
returns-in-Err c =
    let no : is_utf8 c.args.value.now ≡ false = false_from_ne_true (is_utf8 c.args.value.now) (λ e. c.in-Err.ensures.cases.0 (IsUtf8-from_is_utf8 c.args.value.now e)) in
    sym (ap (λ b. cond b c.args.value.now (codes "?")) no)
