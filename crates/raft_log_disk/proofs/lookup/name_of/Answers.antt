use Rattle.std.proofs.Common.{◌≡◌, ◌<◌, ◌++◌, ◌∷◌, drop, Option, Some, None, sym, ap, subst, ◌∙◌, cond, lit<}
use Rattle.std.proofs.lemmas.Str.Pattern.{strip_prefix_char}
use Rattle.raft_log_disk.proofs.TextLemmas.{not_in, not_behind, in_directory}
use Rattle.raft_log_disk.proofs.lookup.name_of.Goals as goal

pub returns-in_default : goal.returns-in_default
returns-in_default c = sym (not_in c.args.directory.now c.args.path.now c.in_default.ensures.cases)

pub returns-in_default-strip_prefix : goal.returns-in_default-strip_prefix
returns-in_default-strip_prefix c =
    let found = c.in-Some.ensures.cases in
    sym (not_behind c.args.directory.now c.args.path.now c.in-Some.rest.now (found.1.1 ∙ ap (λ l. c.args.directory.now ++ l) (sym found.2)) (strip_prefix_char 47 c.in-Some.rest.now None c.in_default-strip_prefix.ensures.cases (lit< tt)))

pub returns-then-is_in_subdirectory : goal.returns-then-is_in_subdirectory
returns-then-is_in_subdirectory c =
    let found = c.in-Some.ensures.cases in
    let slash = strip_prefix_char 47 c.in-Some.rest.now (Some c.in-Some-strip_prefix.name) c.in-Some-strip_prefix.ensures.cases (lit< tt) in
    sym (in_directory c.args.directory.now c.args.path.now c.in-Some.rest.now c.in-Some-strip_prefix.name.now (found.1.1 ∙ ap (λ l. c.args.directory.now ++ l) (sym found.2)) slash
    ∙ ap (λ t. cond t None (Some c.in-Some-strip_prefix.name.now)) (sym c.if-is_in_subdirectory.ensures))

pub returns-else-is_in_subdirectory : goal.returns-else-is_in_subdirectory
returns-else-is_in_subdirectory c =
    let found = c.in-Some.ensures.cases in
    let slash = strip_prefix_char 47 c.in-Some.rest.now (Some c.in-Some-strip_prefix.name) c.in-Some-strip_prefix.ensures.cases (lit< tt) in
    sym (in_directory c.args.directory.now c.args.path.now c.in-Some.rest.now c.in-Some-strip_prefix.name.now (found.1.1 ∙ ap (λ l. c.args.directory.now ++ l) (sym found.2)) slash
    ∙ ap (λ t. cond t None (Some c.in-Some-strip_prefix.name.now)) (sym c.if-is_in_subdirectory.ensures))
