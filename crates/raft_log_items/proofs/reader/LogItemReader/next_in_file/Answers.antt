use Rattle.std.proofs.Common.{◌≢◌, ◌<◌, Option, Ok, refl, sym, subst, ◌∙◌, arith}
use Rattle.std.proofs.lemmas.Bool.{eqb-true, eqb-false}
use Rattle.raft_log_file.specs.declared.batches.ReadBatch.{ReadBatch}
use Rattle.raft_log_file.specs.Reader.{Next, held_bytes, left}
use Rattle.raft_log_items.specs.Items.{current}
use Rattle.raft_log_items.proofs.ItemLemmas.{emptied, failed, none_of, popped_at, taken}
use Rattle.raft_log_items.proofs.reader.LogItemReader.next_in_file.Goals as goal

pub batches-init : goal.batches-init
batches-init g c = record { reader = c.requires; files = refl; same = refl }

pub batches-preserved : goal.batches-preserved
batches-preserved g c =
    let d = g.F.FileSystem.disk c.args.files.now in
    let none = none_of c.batches.self.items.items (omega (arith, c.batches.self.items.ok.0, eqb-true c.batches.self.items.len 0 (sym c.is_empty.ensures ∙ c.batches-test.true))) in
    record {
      reader = c.next.ensures.reader;
      files = c.batches.invariant.files;
      same = taken (current c.args.self.now d) (left c.batches.self.batches d) (left c.next.new.self d) c.batches.self.items.items c.in-Ok-Some.read (held_bytes c.batches.self.batches d) _ c.from_vec.ensures.items c.batches.invariant.same none
          (subst (λ (o : Option ReadBatch). Next (Ok o) (held_bytes c.batches.self.batches d) (left c.batches.self.batches d) (left c.next.new.self d)) c.in-Ok-Some.field-0-is c.in-Ok-Some.ensures.next);
    }

pub returns-in-Ok-None-clause-next : goal.returns-in-Ok-None-clause-next
returns-in-Ok-None-clause-next g c =
    let d = g.F.FileSystem.disk c.args.files.now in
    let none = none_of c.batches.self.items.items (omega (arith, c.batches.self.items.ok.0, eqb-true c.batches.self.items.len 0 (sym c.is_empty.ensures ∙ c.batches-test.true))) in
    emptied (current c.args.self.now d) (left c.batches.self.batches d) (left c.next.new.self d) c.batches.self.items.items (held_bytes c.batches.self.batches d) c.batches.invariant.same none
    (subst (λ (o : Option ReadBatch). Next (Ok o) (held_bytes c.batches.self.batches d) (left c.batches.self.batches d) (left c.next.new.self d)) c.in-Ok-None.field-0-is c.in-Ok-None.ensures.next)

pub returns-in-Err-clause-next : goal.returns-in-Err-clause-next
returns-in-Err-clause-next g c =
    let d = g.F.FileSystem.disk c.args.files.now in
    let none = none_of c.batches.self.items.items (omega (arith, c.batches.self.items.ok.0, eqb-true c.batches.self.items.len 0 (sym c.is_empty.ensures ∙ c.batches-test.true))) in
    failed (current c.args.self.now d) c.batches.self.batches d (g.F.FileSystem.meter c.args.files.now) (left c.next.new.self d) c.batches.self.items.items (held_bytes c.batches.self.batches d) c.in-Err.error
    c.batches.invariant.same none c.in-Err.ensures.err c.in-Err.ensures.next

pub returns-clause-next : goal.returns-clause-next
returns-clause-next g c =
    let d = g.F.FileSystem.disk c.args.files.now in
    let apart : c.batches.self.items.len ≢ 0 = eqb-false c.batches.self.items.len 0 (sym c.is_empty.ensures ∙ c.batches-test.false) in
    let some : 0 < c.batches.self.items.len = omega (arith, apart) in
    popped_at (current c.args.self.now d) d (g.F.FileSystem.meter c.args.files.now) (left c.batches.self.batches d) c.batches.self.items.items c.pop_front.new.self.items c.pop_front.result c.batches.invariant.same c.pop_front.ensures.items
    (c.pop_front.ensures.variant.1 some)
