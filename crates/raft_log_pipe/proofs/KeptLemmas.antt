-- Log files of a queue that keep their names and what they have: a pipe holds what it held.
use Rattle.std.proofs.Common.{◌≡◌, ◌⊎◌, ℕ, List, [], ◌∷◌, length, sym, subst, arith}
use Rattle.std.specs.List.{AllByRecursion}
use Rattle.raft_log_records.specs.declared.file_id.LogQueue.{LogQueue}
use Rattle.raft_log_disk.specs.Disk.{Disk, FileState}
use Rattle.raft_log_file.specs.declared.writer.LogFileWriter.{LogFileWriter}
use Rattle.raft_log_file.specs.Writer.{IsWriter}
use Rattle.raft_log_pipe.specs.declared.file.File.{File}
use Rattle.raft_log_pipe.specs.Pipe.{Numbered, id_of, AreOlder, HoldsIn, IsBlank, IsNamedSo}
use Rattle.raft_log_pipe.specs.Stored.{IsEnded, IsStored}

-- the writer of a file that is as long as it was
pub writer_same : (w : LogFileWriter) (d e : Disk) → length (e.file w.fd.0).bytes ≡ length (d.file w.fd.0).bytes → IsWriter w d → IsWriter w e
writer_same w d e same writer = record {
  offset = writer.offset;
  reached = writer.reached;
  long = omega (arith, writer.long, same);
  within = λ below. omega (arith, writer.within below, same);
}

module _ (queue : LogQueue) (d e : Disk) (kept : (n fd : ℕ) → IsNamedSo d (id_of queue n) fd → IsNamedSo e (id_of queue n) fd × (e.file fd ≡ d.file fd)) where
  pub names_still : (fs : List File) → AllByRecursion (λ f. IsNamedSo d (id_of queue f.seq) f.handle.0) fs → AllByRecursion (λ f. IsNamedSo e (id_of queue f.seq) f.handle.0) fs
  names_still [] all = tt
  names_still (f ∷ fs) all = ((kept f.seq f.handle.0 all.0).0, names_still fs all.1)

  pub olders_kept : (fs : List File) (bs : Numbered) → AreOlder queue d fs bs → AreOlder queue e fs bs
  olders_kept [] bs os = os
  olders_kept (f ∷ fs) bs (ks, rest, is, o, os) =
      let now = kept f.seq f.handle.0 o.named in (
        ks,
        rest,
        is,
        record {
          offset = o.offset;
          named = now.0;
          stored = subst (λ (x : FileState). IsStored (id_of queue f.seq) f.format ks [] o.offset x ⊎ IsBlank f.format ks x) (sym now.1) o.stored;
          ended = subst (IsEnded o.offset) (sym now.1) o.ended;
        },
        olders_kept fs rest os,
      )

  pub holds_kept : (fs : List File) (active : File) (offset : ℕ) (s u : Numbered) → HoldsIn queue fs active offset d s u → HoldsIn queue fs active offset e s u
  holds_kept fs active offset s u h =
      let last = kept active.seq active.handle.0 h.named in
      record {
        before = h.before;
        ks = h.ks;
        us = h.us;
        synced_are = h.synced_are;
        unsynced_are = h.unsynced_are;
        olders = olders_kept fs h.before h.olders;
        named = last.0;
        stored = subst (IsStored (id_of queue active.seq) active.format h.ks h.us offset) (sym last.1) h.stored;
      }
