-- A store that is used well is so behind a cleaning.
use Rattle.std.proofs.Common.{[], ◌∷◌}
use Rattle.raft_store.proofs.Storing.{still_shown}
use Rattle.raft_store.proofs.cleaning.StoreCleanStorage.clean_files.Goals as goal

pub returns-in-Ok-clause-met : goal.returns-in-Ok-clause-met
returns-in-Ok-clause-met g c =
    let L = g.L.ContentLog in
    let old = c.args.self.now in
    let new = c.clean.new.self in
    let cleaned = c.in-Ok.ensures in
    record {
      log = cleaned.met;
      noted = tt;
      used_well = λ used. (
        cleaned.sound used.0,
        λ group.
            let one = used.1 group in (
              one.0,
              one.1,
              still_shown one.0 (L.is_sound old.log) (L.is_sound new) (L.answers old.log) (L.answers new) (L.leaves old.log) (L.leaves new) old.recent cleaned.kept cleaned.left group (one.1 ∷ []) one.2,
            ),
      );
    }
