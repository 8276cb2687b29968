use Rattle.std.proofs.Common.{subst, List}
use Rattle.std.specs.List.{All}
use Rattle.raft_group_step.specs.Values.{Entry}
use Rattle.raft_wire.specs.Entries.{FitsEntry}
use Rattle.raft_wire.specs.Bodies.{FitsAppend}
use Rattle.std.proofs.lemmas.Result.{on_ok_weaker}
use Rattle.raft_wire.proofs.InOrder.{append_fits}
use Rattle.raft_wire.proofs.writing.put_append.Goals as goal

pub returns-clause-fits : goal.returns-clause-fits
returns-clause-fits c =
    let m = c.args.request.now in
    let Fit : List Entry → Type 0 = λ es. All FitsEntry es in
    on_ok_weaker {P = Fit c.as_slice.result.now} {Q = FitsAppend m} c.put_entries.result
    (λ fit. append_fits m c.requires c.in_ok-put_vote.ensures.fits c.in_ok-put_id.ensures.fits c.in_ok-put_last.ensures.fits c.in_ok-put_last-2.ensures.fits (subst Fit c.as_slice.ensures fit)) c.put_entries.ensures.fits
