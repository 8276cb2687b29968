use Rattle.std.proofs.Common.{sym, ◌∙◌}
use Rattle.raft_log_ids.proofs.KeyTestLemmas.{rest_whole}
use Rattle.raft_log_ids.proofs.KeyLeaderLemmas.{last_run-pair, last_run-single, pair_long}
use Rattle.raft_log_ids.proofs.log_id_list.keys_of_last_leader.Goals as goal

pub overflow_sub-result : goal.overflow_sub-result
overflow_sub-result g c = pair_long g.NID.Ord.cmp g.met.NID.Ord.total c.args.keys.now (sym c.ends_in_pair.ensures ∙ c.if-ends_in_pair.true)

pub returns-then-ends_in_pair : goal.returns-then-ends_in_pair
returns-then-ends_in_pair g c =
    rest_whole c.args.keys.now _
    ∙ sym (last_run-pair g.NID.Ord.cmp g.met.NID.Ord.total c.args.keys.now c.requires (sym c.ends_in_pair.ensures ∙ c.if-ends_in_pair.true))

pub returns : goal.returns
returns g c =
    rest_whole c.args.keys.now _
    ∙ sym (last_run-single g.NID.Ord.cmp g.met.NID.Ord.total c.args.keys.now c.requires (sym c.ends_in_pair.ensures ∙ c.if-ends_in_pair.false))
