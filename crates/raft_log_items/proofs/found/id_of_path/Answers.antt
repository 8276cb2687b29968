use Rattle.raft_log_items.proofs.FoundLemmas.{not_parsed, path_parsed}
use Rattle.raft_log_items.proofs.found.id_of_path.Goals as goal

pub returns-clause-found : goal.returns-clause-found
returns-clause-found c = path_parsed c.parse_file_name.result c.args.path.now c.name_of.result.now c.name_of.ensures c.parse_file_name.ensures.found

pub returns-clause-none : goal.returns-clause-none
returns-clause-none c = λ none. (c.name_of.result.now, c.name_of.ensures, λ queue. not_parsed c.name_of.result.now (λ id below is. c.parse_file_name.ensures.none none id below is) queue)
