-- The entry is copied out of its block, which is one of a batch.
use Rattle.std.proofs.Common.{◌≡◌, List, ℕ, Some, sym, ap, ◌∙◌}
use Rattle.std.specs.Option.{option_map}
use Rattle.raft_log_records.specs.declared.item.EntryIndex.{EntryIndex}
use Rattle.raft_log_blocks.specs.Placed.{bytes_on}
use Rattle.raft_log_engine.proofs.Settled.{blocks_more, blocks_read}
use Rattle.std.proofs.Common.{inr}
use Rattle.raft_log_memtables.specs.MemTables.{content_in}
use Rattle.raft_log_engine.specs.Caused.{IsGetFault}
use Rattle.raft_log_engine.specs.declared.fault.EngineFault.{EngineFault}
use Rattle.raft_log_engine.proofs.Clauses.{parts}
use Rattle.raft_log_blocks.proofs.Whole.{has_block}
use Rattle.raft_log_pipe.proofs.CausedLemmas.{told_cause}
use Rattle.raft_log_engine.proofs.engine.Engine.get_entry.Goals as goal

pub copy_of-requires-clause-read : goal.copy_of-requires-clause-read
copy_of-requires-clause-read g c κs within =
    blocks_read (g.F.FileSystem.disk c.self.inside.files) c.self.inside.pipes c.self.inside.traced c.self.inside.wrote_unsynced c.self.inside.blocks (c.self.invariant c.if-self.false)

pub copy_of-requires-clause-block : goal.copy_of-requires-clause-block
copy_of-requires-clause-block g c κs within =
    let held = (c.self.invariant c.if-self.false).batches in
    has_block (g.F.FileSystem.disk c.self.inside.files) c.self.inside.pipes c.self.inside.traced.tables held.rewrites held.synced held.unsynced held.held c.args.group c.args.index c.in-Some.place (sym c.in-Some.ensures)

pub invariant_of-self : goal.invariant_of-self
invariant_of-self g c =
    λ goes_on. blocks_more (g.F.FileSystem.disk c.self.inside.files) c.self.inside.pipes c.self.inside.traced c.self.inside.wrote_unsynced c.self.inside.blocks (c.self.invariant goes_on) c.copy_of.new.cache (λ e. e ≡ c.in-Some.place)
    (λ e is. (c.args.group, (c.args.index, sym c.in-Some.ensures ∙ ap (λ (x : EntryIndex). Some x) (sym is))))
    c.copy_of.ensures.kept

pub invariant_of-self-in-Some : goal.invariant_of-self-in-Some
invariant_of-self-in-Some g c =
    λ goes_on. blocks_more (g.F.FileSystem.disk c.self.inside.files) c.self.inside.pipes c.self.inside.traced c.self.inside.wrote_unsynced c.self.inside.blocks (c.self.invariant goes_on) c.copy_of.new.cache (λ e. e ≡ c.in-Some.place)
    (λ e is. (c.args.group, (c.args.index, sym c.in-Some.ensures ∙ ap (λ (x : EntryIndex). Some x) (sym is))))
    c.copy_of.ensures.kept

pub returns-in_ok-copy_of-in-Some-clause-found : goal.returns-in_ok-copy_of-in-Some-clause-found
returns-in_ok-copy_of-in-Some-clause-found g c =
    rw (← c.self.view_is)
    (ap (λ (l : List ℕ). Some l) c.in_ok-copy_of-in-Some.ensures.copied
    ∙ ap (option_map (bytes_on (g.F.FileSystem.disk c.self.inside.files) c.self.inside.pipes)) c.in-Some.ensures)

pub returns-in_err-copy_of-in-Some-clause-err : goal.returns-in_err-copy_of-in-Some-clause-err
returns-in_err-copy_of-in-Some-clause-err g c =
    rw (← c.self.view_is) (told_cause c.from_residual.result c.in_err-copy_of-in-Some.field-0.0
    (λ (x : EngineFault). IsGetFault (g.F.FileSystem.disk) (g.F.FileSystem.meter) (parts c.self.inside.files c.self.inside.pipes c.self.inside.traced.tables c.self.inside.is_stopped c.self.inside.wrote_unsynced c.self.inside.blocks.reads c.self.inside.traced c.self.inside.manager.purge_threshold) (content_in c.self.inside.traced.tables c.args.group) c.args.index x) c.from_residual.ensures.1
    (inr (c.in-Some.place, sym c.in-Some.ensures, c.in_err-copy_of-in-Some.ensures.err)))
