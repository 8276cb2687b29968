-- What is known of what is stored is what the engine opens with.
use Rattle.std.proofs.Common.{refl}
use Rattle.raft_laws.specs.Opened.{opened}
use Rattle.raft_member.proofs.OpeningLemmas.{opens_as}
use Rattle.raft_member.proofs.opening.opened_engine.Goals as goal

pub returns : goal.returns
returns c = λ x st loaded openable.
    let now = (opened st).state.stored in
    c.in_ok-open.ensures.opened x (opened st).state (opens_as st c.args.id openable now c.in_ok-known.field-0 c.in-Some.known refl (c.in_ok-known.ensures now loaded) c.in-Some.is)
