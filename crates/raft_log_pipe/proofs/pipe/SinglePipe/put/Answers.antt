use Rattle.std.proofs.Common.{◌≡◌, ap, ◌∙◌, length, Ok, Err}
use Rattle.raft_log_records.specs.declared.file_id.FileBlockHandle.{FileBlockHandle}
use Rattle.raft_log_records.specs.Signature.{signature_of}
use Rattle.raft_log_disk.specs.Disk.{Disk}
use Rattle.raft_log_records.specs.Spelling.{spell_record}
use Rattle.raft_log_pipe.proofs.ChangeLemmas.{appended_changes, by_fault, pipe_on, put_holds, ready_holds, record_is, unput_leaves}
use Rattle.raft_log_pipe.proofs.BlockLemmas.{record_here}
use Rattle.raft_log_pipe.proofs.OthersLemmas.{last_others}
use Rattle.std.proofs.Common.{◌^◌, ◌+◌, ◌≤◌, arith}
use Rattle.raft_log_disk.specs.Disk.{IsNoFile}
use Rattle.raft_log_file.proofs.LawLemmas.{length-spelled}
use Rattle.raft_log_pipe.specs.Taken.{IsTooLarge}
use Rattle.raft_log_pipe.proofs.TakenLemmas.{last_there, still_taken}
use Rattle.raft_log_pipe.proofs.CausedLemmas.{counted_cause}
use Rattle.raft_log_pipe.proofs.TornLemmas.{unput_torn}
use Rattle.raft_log_pipe.proofs.pipe.SinglePipe.put.Goals as goal

pub returns-in-Err-clause-pipe : goal.returns-in-Err-clause-pipe
returns-in-Err-clause-pipe g c =
    pipe_on c.args.self.now c.write.new.self _ _ c.requires.pipe c.in-Err.ensures.writer c.in-Err.ensures.file
    (appended_changes c.args.self.now.writer _ _ _ _ (Err c.in-Err.fault) c.in-Err.ensures.writes)

pub returns-in-Err-clause-err : goal.returns-in-Err-clause-err
returns-in-Err-clause-err g c =
    let signature : signature_of c.new-context.result.version c.new-context.result.id.seq ≡ signature_of c.args.self.now.active.format.version c.args.self.now.active.seq
    = λ i. signature_of (c.new-context.ensures.version i) (((λ j. (c.new-context.ensures.id j).seq) ∙ c.new-id.ensures.seq) i) in
    (unput_leaves c.args.self.now _ _ _ _ _ c.in-Err.fault c.requires.pipe c.requires.items
    (record_is c.args.batch.now _ _ _ _ c.requires.populated c.prepare_write.ensures c.encoded_bytes-bytes.ensures signature)
    c.in-Err.ensures.writes)

pub returns-in-Err-clause-unwritten : goal.returns-in-Err-clause-unwritten
returns-in-Err-clause-unwritten g c =
    by_fault FileBlockHandle c.in-Err.fault _ _ (λ ready. ready_holds c.args.self.now _ _ _ _ _ c.requires.pipe ready c.in-Err.ensures.err) c.in-Err.ensures.unwritten

pub returns-clause-pipe : goal.returns-clause-pipe
returns-clause-pipe g c =
    pipe_on c.args.self.now c.write.new.self _ _ c.requires.pipe c.in_default.ensures.writer c.in_default.ensures.file
    (appended_changes c.args.self.now.writer _ _ _ _ (Ok tt) c.in_default.ensures.writes)

pub returns-clause-ok : goal.returns-clause-ok
returns-clause-ok g c =
    let signature : signature_of c.new-context.result.version c.new-context.result.id.seq ≡ signature_of c.args.self.now.active.format.version c.args.self.now.active.seq
    = λ i. signature_of (c.new-context.ensures.version i) (((λ j. (c.new-context.ensures.id j).seq) ∙ c.new-id.ensures.seq) i) in
    let text : c.encoded_bytes-bytes.result.now ≡ spell_record (signature_of c.args.self.now.active.format.version c.args.self.now.active.seq) c.args.batch.now.items
    = record_is c.args.batch.now _ _ _ _ c.requires.populated c.prepare_write.ensures c.encoded_bytes-bytes.ensures signature in (
      record {
        id = λ i. record { queue = c.new-id.ensures.queue i; seq = c.new-id.ensures.seq i };
        offset = c.offset-offset.ensures;
        len = ap length text;
      },
      put_holds c.args.self.now _ _ _ _ _ _ c.requires.pipe c.requires.items text c.in_default.ensures.writes c.in_default.ensures.ok,
    )

pub returns-clause-stands : goal.returns-clause-stands
returns-clause-stands g c = λ s u h. record_here c.args.self.now (g.F.FileSystem.disk c.args.files.now) c.args.batch.now.items _ s u c.requires.pipe (returns-clause-ok g c).0 h

pub returns-in-Err-clause-names : goal.returns-in-Err-clause-names
returns-in-Err-clause-names g c = ap (λ (y : Disk). y.names) (appended_changes c.args.self.now.writer _ _ _ _ (Err c.in-Err.fault) c.in-Err.ensures.writes)

pub returns-clause-names : goal.returns-clause-names
returns-clause-names g c = ap (λ (y : Disk). y.names) (appended_changes c.args.self.now.writer _ _ _ _ (Ok tt) c.in_default.ensures.writes)

pub returns-in-Err-clause-others : goal.returns-in-Err-clause-others
returns-in-Err-clause-others g c =
    let met = g.met.F.FileSystem g.world.𝓛 g.world.𝓜 g.world.𝓡 ((λ s x. x), (λ x. x), (λ x. x), λ x. x) in
    last_others c.args.self.now _ _ (met.is_named c.args.files.now) c.requires.pipe (appended_changes c.args.self.now.writer _ _ _ _ (Err c.in-Err.fault) c.in-Err.ensures.writes)

pub returns-clause-others : goal.returns-clause-others
returns-clause-others g c =
    let met = g.met.F.FileSystem g.world.𝓛 g.world.𝓜 g.world.𝓡 ((λ s x. x), (λ x. x), (λ x. x), λ x. x) in
    last_others c.args.self.now _ _ (met.is_named c.args.files.now) c.requires.pipe (appended_changes c.args.self.now.writer _ _ _ _ (Ok tt) c.in_default.ensures.writes)

pub returns-in-Err-clause-next : goal.returns-in-Err-clause-next
returns-in-Err-clause-next g c = ap (λ (y : Disk). y.next) (appended_changes c.args.self.now.writer _ _ _ _ (Err c.in-Err.fault) c.in-Err.ensures.writes)

pub returns-clause-next : goal.returns-clause-next
returns-clause-next g c = ap (λ (y : Disk). y.next) (appended_changes c.args.self.now.writer _ _ _ _ (Ok tt) c.in_default.ensures.writes)

pub returns-in-Err-clause-taken : goal.returns-in-Err-clause-taken
returns-in-Err-clause-taken g c =
    let signature : signature_of c.new-context.result.version c.new-context.result.id.seq ≡ signature_of c.args.self.now.active.format.version c.args.self.now.active.seq
    = λ i. signature_of (c.new-context.ensures.version i) (((λ j. (c.new-context.ensures.id j).seq) ∙ c.new-id.ensures.seq) i) in
    let text : c.encoded_bytes-bytes.result.now ≡ spell_record (signature_of c.args.self.now.active.format.version c.args.self.now.active.seq) c.args.batch.now.items
    = record_is c.args.batch.now _ _ _ _ c.requires.populated c.prepare_write.ensures c.encoded_bytes-bytes.ensures signature in
    λ free.
    still_taken (Unit {0}) FileBlockHandle (IsNoFile (g.F.FileSystem.disk c.args.files.now) c.args.self.now.writer.fd.0) (2 ^ 64 ≤ c.args.self.now.writer.offset + length c.encoded_bytes-bytes.result.now) ⊥ (IsTooLarge c.args.self.now c.args.batch.now.items) c.in-Err.fault
    (last_there c.args.self.now _ c.requires.pipe)
    (λ large. omega (arith, large, ap length text, length-spelled (signature_of c.args.self.now.active.format.version c.args.self.now.active.seq) c.args.batch.now.items))
    (c.in-Err.ensures.taken free)

pub returns-clause-fits : goal.returns-clause-fits
returns-clause-fits g c =
    let signature : signature_of c.new-context.result.version c.new-context.result.id.seq ≡ signature_of c.args.self.now.active.format.version c.args.self.now.active.seq
    = λ i. signature_of (c.new-context.ensures.version i) (((λ j. (c.new-context.ensures.id j).seq) ∙ c.new-id.ensures.seq) i) in
    let text : c.encoded_bytes-bytes.result.now ≡ spell_record (signature_of c.args.self.now.active.format.version c.args.self.now.active.seq) c.args.batch.now.items
    = record_is c.args.batch.now _ _ _ _ c.requires.populated c.prepare_write.ensures c.encoded_bytes-bytes.ensures signature in
    omega (arith, c.offset-offset.ensures, c.offset-end.ensures, c.in_default.ensures.ok, ap length text, length-spelled (signature_of c.args.self.now.active.format.version c.args.self.now.active.seq) c.args.batch.now.items)

pub returns-in-Err-clause-cause : goal.returns-in-Err-clause-cause
returns-in-Err-clause-cause g c =
    counted_cause (Unit {0}) FileBlockHandle ⊥ (g.F.FileSystem.meter c.args.files.now) (g.F.FileSystem.meter c.write.new.files) c.in-Err.fault c.in-Err.ensures.counted
    (λ e. last_there c.args.self.now _ c.requires.pipe (c.in-Err.ensures.not_found e))

pub returns-in-Err-clause-torn : goal.returns-in-Err-clause-torn
returns-in-Err-clause-torn g c =
    let signature : signature_of c.new-context.result.version c.new-context.result.id.seq ≡ signature_of c.args.self.now.active.format.version c.args.self.now.active.seq
    = λ i. signature_of (c.new-context.ensures.version i) (((λ j. (c.new-context.ensures.id j).seq) ∙ c.new-id.ensures.seq) i) in
    unput_torn c.args.self.now c.write.new.self _ _ _ _ _ c.in-Err.fault c.requires.pipe c.requires.items
    (record_is c.args.batch.now _ _ _ _ c.requires.populated c.prepare_write.ensures c.encoded_bytes-bytes.ensures signature)
    c.in-Err.ensures.writes
