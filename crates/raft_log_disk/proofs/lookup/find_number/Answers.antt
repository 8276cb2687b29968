use Rattle.std.proofs.Common.{◌∙◌, rules}
use Rattle.std.proofs.lemmas.List.Sorted.{answers_always}
use Rattle.raft_log_disk.proofs.RisingLemmas.{newest, halved}
use Rattle.raft_log_disk.proofs.lookup.find_number.Goals as goal

pub returns-in-len1-up : goal.returns-in-len1-up
returns-in-len1-up c = newest c.args.files.now c.args.number c.newest-item.result c.requires c.in-len1-up.len_at_least c.newest-item.is c.if-newest-number.true

pub returns-in_default : goal.returns-in_default
returns-in_default c =
    let facts = c.binary_search_by_key.ensures in
    c.ok.ensures.value ∙ halved c.args.files.now c.args.number _ c.requires facts.bound (facts.position (λ file. file.number) (answers_always _ _ _ (λ f a r g called. search rules)))
