use Rattle.std.proofs.Common.{◌++◌, refl, sym, ◌∙◌}
use Rattle.raft_log_memtables.specs.MemTables.{content_in, reach_in}
use Rattle.raft_log_traces.specs.GroupTraces.{traces_in}
use Rattle.raft_log_traced.proofs.ReplayedLemmas.{cleaned_by_traces, last_tail}
use Rattle.raft_log_traced.proofs.MarkedLemmas.{all_unmarked}
use Rattle.raft_log_traced.proofs.PartedLemmas.{told_of_all}
use Rattle.raft_log_traced.proofs.traced.TracedReplay.finish.Goals as goal

pub returns-clause-cleanable : goal.returns-clause-cleanable
returns-clause-cleanable c = λ rewrites appends has of_rewrite of_append rise unmarked.
    let tables = c.finish-tables.result in
    let removed = c.in_ok-set_removals.ensures in
    (cleaned_by_traces c.args.first rewrites appends removed.0 (traces_in c.args.self.traces) (traces_in c.set_removals.new.traces) (traces_in c.set_entries.new.traces) (content_in tables) (reach_in tables)
    of_rewrite of_append rise unmarked (c.finish-tables.ensures.content (rewrites ++ appends) has.tables) (c.finish-tables.ensures.reach (rewrites ++ appends) has.tables) has.traces
    removed.1 removed.2 c.in_ok-set_entries.ensures.there c.in_ok-set_entries.ensures.gone).0

pub returns-clause-placed : goal.returns-clause-placed
returns-clause-placed c = λ rewrites appends has of_rewrite of_append rise unmarked.
    let tables = c.finish-tables.result in
    let removed = c.in_ok-set_removals.ensures in
    (cleaned_by_traces c.args.first rewrites appends removed.0 (traces_in c.args.self.traces) (traces_in c.set_removals.new.traces) (traces_in c.set_entries.new.traces) (content_in tables) (reach_in tables)
    of_rewrite of_append rise unmarked (c.finish-tables.ensures.content (rewrites ++ appends) has.tables) (c.finish-tables.ensures.reach (rewrites ++ appends) has.tables) has.traces
    removed.1 removed.2 c.in_ok-set_entries.ensures.there c.in_ok-set_entries.ensures.gone).1

pub returns-clause-tails : goal.returns-clause-tails
returns-clause-tails c = λ group there full. last_tail (content_in c.finish-tables.result group) (reach_in c.finish-tables.result group) (traces_in c.set_removals.new.traces group) (traces_in c.set_entries.new.traces group)
    (c.in_ok-set_entries.ensures.there group there) full

pub returns-clause-marked : goal.returns-clause-marked
returns-clause-marked c = λ placed has. has.marked

pub returns-clause-written : goal.returns-clause-written
returns-clause-written c = λ placed has. has.written

pub returns-clause-unmarked : goal.returns-clause-unmarked
returns-clause-unmarked c = λ rewrites appends has of_append none. all_unmarked rewrites appends of_append (sym has.marked ∙ none)

pub returns-clause-together : goal.returns-clause-together
returns-clause-together c = λ rewrites appends has of_rewrite of_append. told_of_all rewrites appends c.args.self.together c.stand-is_parted.result _ of_rewrite of_append has.together refl c.stand-is_parted.ensures
