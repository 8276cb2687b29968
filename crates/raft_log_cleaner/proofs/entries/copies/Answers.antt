-- Entries that were fetched, and their copies.
use Rattle.std.proofs.Common.{◌≡◌, ◌<◌, List, map, length, sym, ap, subst, ◌∙◌, arith, rules}
use Rattle.std.specs.Prelude.{Contains, IfOk}
use Rattle.std.proofs.lemmas.Grind.{common_steps}
use Rattle.raft_log_records.specs.declared.item.EntryIndex.{EntryIndex}
use Rattle.raft_log_records.specs.Batch.{payloads}
use Rattle.raft_log_memtables.specs.MemTables.{content_in}
use Rattle.raft_log_blocks.specs.Placed.{bytes_on}
use Rattle.raft_log_cleaner.proofs.Chunks.{copied, fetched_there}
use Rattle.raft_log_cleaner.proofs.entries.copies.Goals as goal

pub copies_of-requires-clause-blocks : goal.copies_of-requires-clause-blocks
copies_of-requires-clause-blocks g c κs within = λ e among.
    let at = fetched_there (content_in c.args.tables.now c.args.group).entry c.args.begin c.args.end _ c.in-Ok.places.items (c.in-Ok.ensures.some c.requires.there c.requires.some).1 e (subst (λ (l : List EntryIndex). Contains l e) c.deref.ensures.value among) in
    c.requires.blocks at.0 e at.1

pub returns-clause-copied : goal.returns-clause-copied
returns-clause-copied g c =
    let d = g.F.FileSystem.disk c.args.files.now in
    copied c.copies_of.result (bytes_on d c.args.pipes.now) (content_in c.args.tables.now c.args.group).entry c.args.begin c.args.end _ c.in-Ok.places.items c.requires.some (c.in-Ok.ensures.some c.requires.there c.requires.some).1
    (first_of (omega arith, grind (arith, common_steps)))
    (subst (λ (l : List EntryIndex). IfOk c.copies_of.result (λ v. payloads v.items ≡ map (bytes_on d c.args.pipes.now) l)) c.deref.ensures.value c.copies_of.ensures.copied)
