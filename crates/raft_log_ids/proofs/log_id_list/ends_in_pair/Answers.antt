use Rattle.std.proofs.Common.{sym, ◌∙◌, arith, ap}
use Rattle.std.specs.Ordering.{is_eq}
use Rattle.raft_log_ids.proofs.KeyOrderLemmas.{ends_in_pair-short, ends_in_pair-at}
use Rattle.raft_log_ids.proofs.log_id_list.ends_in_pair.Goals as goal

pub returns-in_default : goal.returns-in_default
returns-in_default g c = sym (ends_in_pair-short g.NID.Ord.cmp c.args.keys.now (omega arith))

pub returns-in-len2-up : goal.returns-in-len2-up
returns-in-len2-up g c =
    c.is_eq.ensures ∙ ap is_eq c.cmp.ensures
    ∙ ends_in_pair-at g.NID.Ord.cmp c.args.keys.now c.before-item.result c.last-item.result (omega arith) c.before-item.is c.last-item.is
