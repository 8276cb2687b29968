use Rattle.std.proofs.Common.{◌≡◌, ◌==◌, ℕ, List, [], drop, take, length, sym, ap, ◌∙◌, arith}
use Rattle.std.specs.List.{list_all}
use Rattle.std.proofs.lemmas.List.{length-drop, take_all}
use Rattle.raft_log_recovery.specs.Repair.{batches_in, end_in, fault_in}
use Rattle.raft_log_items.specs.Items.{items_in}
use Rattle.raft_log_disk.specs.Disk.{Disk, fd_of}
use Rattle.raft_log_records.specs.declared.item.LogItem.{LogItem}
use Rattle.raft_log_records.specs.Item.{items_of}
use Rattle.raft_log_contents.specs.Content.{ending_in}
use Rattle.raft_log_contents.proofs.ReadLemmas.{placed_items}
use Rattle.raft_log_contents.proofs.content.read_content.Goals as goal

pub returns-clause-ok : goal.returns-clause-ok
returns-clause-ok g c =
    let d : Disk = g.F.FileSystem.disk c.args.files.now in
    let now : Disk = g.F.FileSystem.disk c.open.new.self in
    let fd = c.in_ok-fd.fd.0 in
    let bytes : List ℕ = (d.file fd).bytes in
    let seen : List ℕ = (now.file fd).bytes in
    let read : seen ≡ bytes = ap (λ (x : Disk). (x.file fd).bytes) c.in_ok-fd.ensures.kept in
    let id = c.args.file.now.id in
    let to = c.in_ok-read.read.end.to in
    let size = c.in_ok-size.size in
    let given = c.in_ok-read.ensures.replayed [] (ap (λ (l : List LogItem). items_of l) c.new.ensures.items) in
    let rest : take size (drop to seen) ≡ drop to bytes = take_all size (drop to seen) (omega (arith, length-drop to seen, c.in_ok-size.ensures.bytes)) ∙ ap (drop to) read in
    let room : c.in_ok-is_room.is_room ≡ list_all (λ b. b == 0) (drop to bytes) = c.in_ok-is_room.ensures ∙ ap (list_all (λ b. b == 0)) rest in
    let fault : c.in_ok-read.read.end.fault ≡ fault_in id bytes = c.in_ok-read.ensures.fault ∙ ap (fault_in id) read in
    record {
      fd = fd;
      there = ap (λ (t : List ℕ). fd_of d.names t) (sym c.as_str.ensures.value) ∙ c.in_ok-fd.ensures.ok;
      items = given.1 ∙ placed_items id seen (batches_in id seen) given.0 given.2 ∙ ap (λ (l : List ℕ). items_in (batches_in id l)) read;
      to = c.in_ok-read.ensures.to ∙ ap (end_in id) read;
      size = c.in_ok-size.ensures.bytes ∙ ap length read;
      ending = c.ending_of.ensures ∙ (λ i. ending_in (fault i) (room i));
    }
