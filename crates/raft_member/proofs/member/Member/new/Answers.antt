-- A new member has the engine of a new group.
use Rattle.std.proofs.Common.{[], ◌∷◌, true, refl}
use Rattle.raft_group_step.specs.StoredGroup.{MakeGroup, after_storing}
use Rattle.raft_group_step.specs.GroupState.{no_group, state_of}
use Rattle.raft_group_step.specs.GroupEvent.{Open}
use Rattle.raft_log_ids.proofs.GrowthLemmas.{on_err}
use Rattle.raft_member.proofs.RunLemmas.{shown_first}
use Rattle.raft_member.proofs.member.Member.new.Goals as goal

pub returns-in_err-engine-clause-err : goal.returns-in_err-engine-clause-err
returns-in_err-engine-clause-err g c = λ kept well shown.
    let here = c.args.storage.now in
    let both : g.S.GroupStorage.shows here c.args.group (kept ∷ after_storing MakeGroup kept ∷ []) × g.S.GroupStorage.fails here MakeGroup kept =
    (shown_first (g.S.GroupStorage.is_well here) (g.S.GroupStorage.shows here c.args.group) (g.met.S.GroupStorage.shows_more here c.args.group) kept kept _ refl shown, g.met.S.GroupStorage.well_fails here well _ kept) in
    on_err _ both

pub returns-in-Ok-clause-ok : goal.returns-in-Ok-clause-ok
returns-in-Ok-clause-ok g c = λ well shown. (
  refl,
  record {
    engine = c.come_to_rest.new.engine;
    has_engine = refl;
    idle = c.come_to_rest.ensures.idle c.args.id (state_of (record no_group { present = true })) (c.in_ok-engine.ensures Open refl).stands;
    well = c.in-Ok.ensures.well well;
    stored = c.in-Ok.ensures.ok well no_group shown;
    present = refl;
    moment = refl;
  },
)
