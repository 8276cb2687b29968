-- The first entry that passes from the end is the last one that does.
use Rattle.std.proofs.Common.{◌≡◌, ◌+◌, ◌-◌, ◌≤◌, length, ap, sym, ◌∙◌, arith}
use Rattle.std.specs.Option.{option_copied}
use Rattle.raft_laws.specs.Settled.{count_to_last, is_accepted_by_quorum}
use Rattle.raft_world.specs.Settled.{world_of}
use Rattle.raft_world.proofs.SettledLemmas.{IsLookedAt, found_last, known_remain, not_found}
use Rattle.raft_world.proofs.settled.settled_or_known.Goals as goal

pub returns-then-is_accepted_by_quorum-clause-count : goal.returns-then-is_accepted_by_quorum-clause-count
returns-then-is_accepted_by_quorum-clause-count c =
    let passes = is_accepted_by_quorum (world_of c.args.messages.now (option_copied c.args.setup) c.args.led.now) c.args.note.now.vote in
    let shown = c.as_slice-entries.result.now in
    let looked : IsLookedAt passes c.args.note.now.list.items shown c.loop-back.back c.index-entries-at.result = record {
      same = c.as_slice-entries.ensures.value;
      within = omega arith;
      read = c.index-entries-at.is;
      rest = c.loop-back.invariant;
    } in
    let last : length shown - 1 - c.loop-back.back + 1 ≡ count_to_last passes 0 0 c.args.note.now.list.items
    = found_last passes _ _ _ _ looked (sym c.is_accepted_by_quorum.ensures ∙ c.if-is_accepted_by_quorum.true) in
    omega arith

pub loop-back-preserved : goal.loop-back-preserved
loop-back-preserved c =
    let passes = is_accepted_by_quorum (world_of c.args.messages.now (option_copied c.args.setup) c.args.led.now) c.args.note.now.vote in
    let looked : IsLookedAt passes c.args.note.now.list.items c.as_slice-entries.result.now c.loop-back.back c.index-entries-at.result = record {
      same = c.as_slice-entries.ensures.value;
      within = omega arith;
      read = c.index-entries-at.is;
      rest = c.loop-back.invariant;
    } in
    not_found passes _ _ _ _ looked (sym c.is_accepted_by_quorum.ensures ∙ c.if-is_accepted_by_quorum.false)

pub returns-clause-count : goal.returns-clause-count
returns-clause-count c =
    let passes = is_accepted_by_quorum (world_of c.args.messages.now (option_copied c.args.setup) c.args.led.now) c.args.note.now.vote in
    let xs = c.args.note.now.list.items in
    let few : length xs - c.args.known ≤ c.loop-back.back = omega (arith, ap length c.as_slice-entries.ensures.value) in
    known_remain passes xs c.loop-back.back c.args.known few c.loop-back.invariant
