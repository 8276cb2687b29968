use Rattle.std.specs.Prelude.{◌≡◌, ℕ, ◌<◌, true, false, Option, Some, None, refl}
use Rattle.std.proofs.Common.{arith, sym, ap, ◌∙◌}
use Rattle.raft_laws.specs.declared.world_event.WorldEvent.{WorldEvent}
use Rattle.raft_laws.specs.GroupWorld.{Recorded, Skipped}
use Rattle.raft_laws.specs.Origins.{is_taken}
use Rattle.raft_laws.proofs.BallotAgreement.{same_some}
use Rattle.raft_laws.proofs.origins.origin_of_a_stopped_proposal.Goals as goal

above_none : (j k : ℕ) → 0 < j → Some j ≡ Some k → 0 < k
above_none j k l e = let f = same_some e in omega (arith, f)

no_stop : (k : ℕ) → None ≡ Some k → 0 < k
no_stop k e = absurd (let f : None ≡ Some k = e in cc)

pub returns-clause-stored : goal.returns-clause-stored
returns-clause-stored c =
    record {
      node = 1;
      now = 0;
      stop = Some 1;
      state = _;
      event = refl;
      is_up = refl;
      set_up = refl;
      taken = refl;
      stored = λ k e. above_none 1 k (omega arith) e;
      writes = refl;
    }

pub returns-clause-next : goal.returns-clause-next
returns-clause-next c =
    record {
      node = 1;
      now = 0;
      stop = None;
      state = _;
      event = refl;
      is_up = refl;
      set_up = refl;
      taken = refl;
      stored = no_stop;
      writes = refl;
    }

pub returns-clause-instead : goal.returns-clause-instead
returns-clause-instead c =
    record {
      node = 1;
      now = 0;
      stop = None;
      state = _;
      event = refl;
      is_up = refl;
      set_up = refl;
      taken = refl;
      stored = no_stop;
      writes = refl;
    }

pub returns-clause-not_stored : goal.returns-clause-not_stored
returns-clause-not_stored c = λ e a.
    let stop = ap (λ (x : WorldEvent × Option ℕ). x.1) (same_some a.event) in
    let none = a.stored 0 (sym stop) in
    omega (arith, none)

pub returns-clause-skipped : goal.returns-clause-skipped
returns-clause-skipped c = λ h.
    let outcome : Skipped ≡ h.outcome = ap (λ (r : Recorded). r.outcome) (same_some h.recorded) in
    let f : false ≡ true = ap is_taken outcome ∙ h.taken in cc
