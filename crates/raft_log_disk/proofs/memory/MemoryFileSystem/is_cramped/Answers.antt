use Rattle.std.proofs.Common.{◌≡◌, ◌<◌, ◌≤◌, false, ap, sym, subst, ◌∙◌}
use Rattle.std.specs.Prelude.{nat_lt, ◌&&◌}
use Rattle.std.specs.List.{list_any}
use Rattle.std.proofs.lemmas.Bool.{le-ltb}
use Rattle.std.proofs.lemmas.List.{drop_all}
use Rattle.raft_log_disk.specs.Memory.{room_of}
use Rattle.raft_log_disk.specs.MemorySystem.{room_in}
use Rattle.raft_log_disk.proofs.RoomLemmas.{inside_by, cramped, is_short, short_by, passed_over, roomy}
use Rattle.raft_log_disk.proofs.memory.MemoryFileSystem.is_cramped.Goals as goal
use Rattle.raft_log_disk.proofs.memory.MemoryFileSystem.is_cramped.Goals.{else-is_some-via-then-is_some+else-room-bytes, else-is_some-via-else-is_some}

pub returns-then-room-bytes-clause-yes : goal.returns-then-room-bytes-clause-yes
returns-then-room-bytes-clause-yes c = λ _ number p.
    let left : c.room.result ≡ room_in c.args.self.now c.as_str-directory.result.now =
    c.room.ensures ∙ ap (λ ss. room_of ss c.deref-then-is_some.result.now c.as_str-directory.result.now) c.deref.ensures.value ∙ ap (λ fs. room_of c.args.self.now.spaces.items fs c.as_str-directory.result.now) c.deref-then-is_some.ensures.value in
    cramped c.args.self.now c.args.i c.args.bytes number c.index.result.now c.as_str-directory.result.now p c.index.ensures
    (inside_by _ _ _ _ _ _ c.name_of.ensures c.as_str-path.ensures.value c.is_some.ensures c.if-is_some.true)
    (subst (λ n. n < c.args.bytes) left c.if-room-bytes.true)

pub loop-space-preserved : goal.loop-space-preserved
loop-space-preserved c =
    let test = short_by _ _ c.args.self.now.spaces.items c.args.self.now.files.items c.as_str-path.result.now c.as_str-directory.result.now c.args.bytes c.space-item.result c.is_some.result c.name_of.ensures c.as_str-directory.ensures.value c.is_some.ensures in
    let fails : is_short c.args.self.now.spaces.items c.args.self.now.files.items c.as_str-path.result.now c.args.bytes c.space-item.result ≡ false = elim c.else-is_some.branch [
      | else-is_some-via-then-is_some+else-room-bytes w ↦
          let left : w.room.result ≡ room_in c.args.self.now c.as_str-directory.result.now =
          w.room.ensures ∙ ap (λ ss. room_of ss w.deref-then-is_some.result.now c.as_str-directory.result.now) w.deref.ensures.value ∙ ap (λ fs. room_of c.args.self.now.spaces.items fs c.as_str-directory.result.now) w.deref-then-is_some.ensures.value in
          test ∙ ap (λ b. b && nat_lt (room_in c.args.self.now c.as_str-directory.result.now) c.args.bytes) w.if-is_some.true
          ∙ le-ltb (room_in c.args.self.now c.as_str-directory.result.now) c.args.bytes (subst (λ n. c.args.bytes ≤ n) left w.if-room-bytes.false)
      | else-is_some-via-else-is_some w ↦ test ∙ ap (λ b. b && nat_lt (room_in c.args.self.now c.as_str-directory.result.now) c.args.bytes) w.if-is_some.false
    ] in
    passed_over _ _ _ _ c.loop-space-test.true c.space-item.is fails ∙ c.loop-space.invariant

pub returns-clause-no : goal.returns-clause-no
returns-clause-no c = λ number p short.
    let over = is_short c.args.self.now.spaces.items c.args.self.now.files.items c.as_str-path.result.now c.args.bytes in
    let none : list_any over c.args.self.now.spaces.items ≡ false =
    ap (list_any over) (sym c.deref-space-items.ensures.value) ∙ sym c.loop-space.invariant ∙ ap (list_any over) (drop_all c.loop-space.space-index c.deref-space-items.result.now c.loop-space-test.false) in
    absurd (roomy c.args.self.now c.args.i c.args.bytes number c.index.result.now c.as_str-path.result.now c.ranges.bytes.fits c.index.ensures c.as_str-path.ensures.value none p short)
