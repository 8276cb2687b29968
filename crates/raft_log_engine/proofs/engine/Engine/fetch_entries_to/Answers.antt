use Rattle.std.proofs.Common.{subst}
use Rattle.std.specs.Prelude.{Contains}
use Rattle.raft_log_memtables.specs.MemTables.{content_in}
use Rattle.raft_log_blocks.specs.Placed.{bytes_on}
use Rattle.raft_log_engine.proofs.Fetched.{copied, copied_count, fetched_there, has_read}
use Rattle.raft_log_engine.proofs.Settled.{blocks_more, blocks_read}
use Rattle.raft_log_engine.proofs.Tables.{measured}
use Rattle.raft_log_engine.proofs.Clauses.{parts}
use Rattle.raft_log_blocks.proofs.Whole.{has_block}
use Rattle.raft_log_engine.proofs.Caused.{copies_fault, range_fault}
use Rattle.raft_log_engine.proofs.engine.Engine.fetch_entries_to.Goals as goal

pub copies_of-requires-clause-read : goal.copies_of-requires-clause-read
copies_of-requires-clause-read g c κs within =
    blocks_read (g.F.FileSystem.disk c.self.inside.files) c.self.inside.pipes c.self.inside.traced c.self.inside.wrote_unsynced c.self.inside.blocks (c.self.invariant c.if-self.false)

pub copies_of-requires-clause-blocks : goal.copies_of-requires-clause-blocks
copies_of-requires-clause-blocks g c κs within = λ e among.
    let held = (c.self.invariant c.if-self.false).batches in
    let at = fetched_there (content_in c.self.inside.traced.tables c.args.group) c.args.begin c.args.end c.args.max_size c.in-Ok.places.items c.in-Ok.ensures.some c.in-Ok.ensures.none c.in-Ok.ensures.unknown e
    (subst (λ l. Contains l e) c.deref.ensures.value among) in
    has_block (g.F.FileSystem.disk c.self.inside.files) c.self.inside.pipes c.self.inside.traced.tables held.rewrites held.synced held.unsynced held.held c.args.group at.0 e at.3

pub invariant_of-self : goal.invariant_of-self
invariant_of-self g c =
    λ goes_on. blocks_more (g.F.FileSystem.disk c.self.inside.files) c.self.inside.pipes c.self.inside.traced c.self.inside.wrote_unsynced c.self.inside.blocks (c.self.invariant c.if-self.false) c.copies_of.new.cache (Contains c.deref.result.now)
    (λ e among.
    let at = fetched_there (content_in c.self.inside.traced.tables c.args.group) c.args.begin c.args.end c.args.max_size c.in-Ok.places.items c.in-Ok.ensures.some c.in-Ok.ensures.none c.in-Ok.ensures.unknown e
    (subst (λ l. Contains l e) c.deref.ensures.value among) in
    (c.args.group, (at.0, at.3)))
    c.copies_of.ensures.kept

pub returns-clause-found : goal.returns-clause-found
returns-clause-found g c =
    let held = (c.self.invariant c.if-self.false).batches in
    let d = g.F.FileSystem.disk c.self.inside.files in
    let p = c.self.inside.pipes in
    rw (← c.self.view_is) (copied c.copies_of.result (bytes_on d p) (content_in c.self.inside.traced.tables c.args.group) c.args.begin c.args.end c.args.max_size c.in-Ok.places.items
    (rw (← c.deref.ensures.value) c.copies_of.ensures.copied)
    (has_read (bytes_on d p) (content_in c.self.inside.traced.tables c.args.group) c.args.begin c.args.end c.args.max_size c.in-Ok.places.items
    (λ i e is. measured d p c.self.inside.traced.tables held.rewrites held.synced held.unsynced held.held c.args.group i e is)
    c.in-Ok.ensures.some c.in-Ok.ensures.none c.in-Ok.ensures.unknown))

pub returns-clause-reads : goal.returns-clause-reads
returns-clause-reads g c =
    rw (← c.self.view_is) (copied_count c.copies_of.result (bytes_on (g.F.FileSystem.disk c.self.inside.files) c.self.inside.pipes) c.deref.result.now c.self.inside.blocks.reads c.copies_of.new.cache.reads c.copies_of.ensures.copied c.copies_of.ensures.reads)

pub returns-in-Err-clause-err : goal.returns-in-Err-clause-err
returns-in-Err-clause-err g c =
    rw (← c.self.view_is) (range_fault (g.F.FileSystem.disk) (g.F.FileSystem.meter) (parts c.self.inside.files c.self.inside.pipes c.self.inside.traced.tables c.self.inside.is_stopped c.self.inside.wrote_unsynced c.self.inside.blocks.reads c.self.inside.traced c.self.inside.manager.purge_threshold) (content_in c.self.inside.traced.tables c.args.group) c.args.begin c.args.end
    c.args.max_size c.in-Err.error c.fault_of.result c.fault_of.ensures c.in-Err.ensures.some c.in-Err.ensures.none c.in-Err.ensures.unknown)

pub returns-clause-err : goal.returns-clause-err
returns-clause-err g c =
    rw (← c.self.view_is) (copies_fault (g.F.FileSystem.disk) (g.F.FileSystem.meter) (parts c.self.inside.files c.self.inside.pipes c.self.inside.traced.tables c.self.inside.is_stopped c.self.inside.wrote_unsynced c.self.inside.blocks.reads c.self.inside.traced c.self.inside.manager.purge_threshold) (content_in c.self.inside.traced.tables c.args.group) c.args.begin c.args.end
    c.copies_of.result c.deref.result.now
    (λ e among. fetched_there (content_in c.self.inside.traced.tables c.args.group) c.args.begin c.args.end c.args.max_size c.in-Ok.places.items c.in-Ok.ensures.some c.in-Ok.ensures.none c.in-Ok.ensures.unknown e
    (subst (λ l. Contains l e) c.deref.ensures.value among))
    c.copies_of.ensures.err)
