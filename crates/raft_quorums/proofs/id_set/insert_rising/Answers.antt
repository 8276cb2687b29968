use Rattle.std.proofs.Common.{◌∙◌, sym, subst}
use Rattle.raft_quorums.specs.Rising.{IsRising}
use Rattle.raft_quorums.proofs.PlaceLemmas.{insert_key-found, insert_key-gap}
use Rattle.raft_quorums.specs.RisingLaws.{rising_insert_key}
use Rattle.raft_quorums.proofs.id_set.insert_rising.Goals as goal

pub returns-in-Ok-clause-ok : goal.returns-in-Ok-clause-ok
returns-in-Ok-clause-ok g c =
    sym (insert_key-found g.NID.Ord.cmp c.args.ids.now.items c.as_slice.result.now c.args.id c.in-Ok.field-0 c.as_slice.ensures.value c.in-Ok.ensures.place)

pub returns-in_ok-insert-in-Err-clause-ok : goal.returns-in_ok-insert-in-Err-clause-ok
returns-in_ok-insert-in-Err-clause-ok g c =
    c.in_ok-insert-in-Err.ensures.items
    ∙ sym (insert_key-gap g.NID.Ord.cmp c.args.ids.now.items c.as_slice.result.now c.args.id c.in-Err.gap c.as_slice.ensures.value c.in-Err.ensures.place)

pub returns-in_ok-insert-in-Err-clause-rising : goal.returns-in_ok-insert-in-Err-clause-rising
returns-in_ok-insert-in-Err-clause-rising g c =
    subst (IsRising g.NID.Ord.cmp) (sym (returns-in_ok-insert-in-Err-clause-ok g c)) (rising_insert_key g.met.NID.Ord.total c.args.id c.args.ids.now.items c.requires)
