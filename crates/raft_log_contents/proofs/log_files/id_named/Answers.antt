use Rattle.std.proofs.Common.{◌≡◌, rules, sym, ◌∙◌, refl}
use denote.Enum.Bare.{same_false}
use Rattle.raft_log_records.specs.contracts.file_id.LogQueue.{the_type}
use Rattle.raft_log_items.proofs.FoundLemmas.{not_parsed, parsed, parsed_other}
use Rattle.raft_log_contents.proofs.log_files.id_named.Goals as goal

pub returns-then-eq : goal.returns-then-eq
returns-then-eq c =
    let id = c.in-Some.id in
    let same : id.queue ≡ c.args.queue = search rules in
    parsed c.args.queue id c.args.name.now same c.in-Some.ensures.found.0 c.in-Some.ensures.found.1

pub returns-else-eq : goal.returns-else-eq
returns-else-eq c =
    let id = c.in-Some.id in
    parsed_other c.args.queue id c.args.name.now (same_false the_type _ _ (sym c.eq.ensures ∙ c.if-eq.false)) c.in-Some.ensures.found.0 c.in-Some.ensures.found.1

pub returns-in-None : goal.returns-in-None
returns-in-None c = sym (not_parsed c.args.name.now (λ id below is. c.in-None.ensures.none refl id below is) c.args.queue)
