-- The key is the leader's own, or what stands before the next one is known.
use Rattle.std.proofs.Common.{◌+◌, ◌∙◌, ap, sym, get_or, drop, arith}
use Rattle.raft_values.specs.LogId.{log_id_of}
use Rattle.raft_log_ids.specs.LogIdList.{ids_of}
use Rattle.raft_list_facts.specs.Leads.{before_own}
use Rattle.raft_list_facts.proofs.KeyBaseLemmas.{if_another, if_own, key_up_to, keys_rise, last_past, last_within, next_key}
use Rattle.raft_list_facts.specs.declared.leading.Base.TheVariants.{UpTo}
use Rattle.raft_list_facts.proofs.leading.base_among.Goals as goal
use Rattle.raft_list_facts.proofs.leading.base_among.Goals.{else-at-keys, then-at-keys}

pub returns-then-eq : goal.returns-then-eq
returns-then-eq c =
    sym
    (c.loop-at.invariant
    ∙ next_key c.args.leader.now c.loop-at.before c.args.keys.now c.loop-at.at (log_id_of 0 0 0) c.requires c.loop-at-test.true
    ∙ if_own _ _ _ c.if-eq.ensures)

pub overflow_sub-last : goal.overflow_sub-last
overflow_sub-last c =
    let rise = keys_rise c.args.keys.now c.loop-at.at (log_id_of 0 0 0) (log_id_of 0 0 0) c.requires c.if-at-keys.true in
    omega arith

pub loop-at-preserved : goal.loop-at-preserved
loop-at-preserved c =
    let key = get_or c.args.keys.now c.loop-at.at (log_id_of 0 0 0) in
    c.loop-at.invariant
    ∙ next_key c.args.leader.now c.loop-at.before c.args.keys.now c.loop-at.at (log_id_of 0 0 0) c.requires c.loop-at-test.true
    ∙ if_another _ _ _ c.if-eq.ensures
    ∙ ap (λ b. before_own c.args.leader.now (UpTo b) (ids_of (drop (c.loop-at.at + 1) c.args.keys.now)))
    (elim c.if-at-keys.branch [
      | then-at-keys w ↦
          key_up_to key (last_within key c.args.keys.now (c.loop-at.at + 1) (log_id_of 0 0 0) w.if-at-keys.true ∙ sym w.last-is) ∙ sym c.new.ensures
      | else-at-keys w ↦ key_up_to key (last_past key c.args.keys.now (c.loop-at.at + 1) w.if-at-keys.false ∙ sym w.last-is) ∙ sym c.new.ensures
    ])
