use Rattle.std.proofs.Common.{◌-◌, subst, arith, length}
use Rattle.std.proofs.lemmas.List.{length-take}
use Rattle.raft_log_records.specs.Item.{change_of, items_of}
use Rattle.raft_log_memtables.specs.declared.taken.Search.{Search}
use Rattle.raft_log_memtables.specs.Content.{after_batch}
use Rattle.raft_log_memtables.specs.MemTables.{content_in}
use Rattle.raft_log_memtables.specs.Search.{Leaves}
use Rattle.raft_log_memtables.proofs.Taking.{search_found, search_missing, search_before, search_on}
use Rattle.raft_log_memtables.proofs.memtables.MemTables.has_within.Goals as goal

pub returns-in-Found-clause-yes : goal.returns-in-Found-clause-yes
returns-in-Found-clause-yes c =
    let goes : Search → Type 0 = λ s. Leaves (change_of c.item-item.result.content) c.loop-rest.bounds.0 c.loop-rest.bounds.1 s in
    search_found c.loop-rest.rest.now c.item-item.result (content_in c.args.self.now) c.args.raft_group_id c.in-len1-up.len_at_least c.item-item.is
    (after_batch (items_of c.args.items.now) (content_in c.args.self.now) c.args.raft_group_id).entry c.loop-rest.bounds.0 c.args.first c.loop-rest.bounds.1 c.args.last c.loop-rest.invariant.leads
    c.if-item-raft_group_id.true (subst goes c.in-Found.is c.search_at.ensures)

pub returns-in-Missing-clause-no : goal.returns-in-Missing-clause-no
returns-in-Missing-clause-no c =
    let goes : Search → Type 0 = λ s. Leaves (change_of c.item-item.result.content) c.loop-rest.bounds.0 c.loop-rest.bounds.1 s in
    search_missing c.loop-rest.rest.now c.item-item.result (content_in c.args.self.now) c.args.raft_group_id c.in-len1-up.len_at_least c.item-item.is
    (after_batch (items_of c.args.items.now) (content_in c.args.self.now) c.args.raft_group_id).entry c.loop-rest.bounds.0 c.args.first c.loop-rest.bounds.1 c.args.last c.loop-rest.invariant.leads
    c.if-item-raft_group_id.true (subst goes c.in-Missing.is c.search_at.ensures)

pub loop-rest-preserved-in-Before : goal.loop-rest-preserved-in-Before
loop-rest-preserved-in-Before c =
    let goes : Search → Type 0 = λ s. Leaves (change_of c.item-item.result.content) c.loop-rest.bounds.0 c.loop-rest.bounds.1 s in
    record {
      leads = search_before c.loop-rest.rest.now c.item-item.result (content_in c.args.self.now) c.args.raft_group_id c.in-len1-up.len_at_least c.item-item.is
          (after_batch (items_of c.args.items.now) (content_in c.args.self.now) c.args.raft_group_id).entry c.loop-rest.bounds.0 c.args.first c.loop-rest.bounds.1 c.args.last c.loop-rest.invariant.leads
          c.in-Before.first c.in-Before.last c.if-item-raft_group_id.true (subst goes c.in-Before.is c.search_at.ensures);
      shorter = omega (arith, length-take (length c.loop-rest.rest.now - 1) c.loop-rest.rest.now);
    }

pub loop-rest-preserved : goal.loop-rest-preserved
loop-rest-preserved c = record {
  leads = search_on c.loop-rest.rest.now c.item-item.result (content_in c.args.self.now) c.args.raft_group_id c.in-len1-up.len_at_least c.item-item.is
      (after_batch (items_of c.args.items.now) (content_in c.args.self.now) c.args.raft_group_id).entry c.loop-rest.bounds.0 c.args.first c.loop-rest.bounds.1 c.args.last c.loop-rest.invariant.leads
      c.if-item-raft_group_id.false;
  shorter = omega (arith, length-take (length c.loop-rest.rest.now - 1) c.loop-rest.rest.now);
}
