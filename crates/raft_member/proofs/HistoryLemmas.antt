-- What every history of a group has, as members ask it of their states.
use Rattle.std.specs.Prelude.{◌≡◌, ℕ, suc, ◌+◌, List, [], ◌∷◌, slice_get, Option, Some, None, refl}
use Rattle.std.proofs.Common.{sym, ap, ◌∙◌, arith}
use Rattle.raft_values.specs.declared.log_id.LogId.{LogId}
use Rattle.raft_group_step.specs.Values.{Entry}
use Rattle.raft_group_step.specs.StoredGroup.{StoredGroup, Snapshot, first_place, snapshot_last}
use Rattle.raft_group_step.specs.GroupState.{GroupState, state_of}
use Rattle.raft_group_step.specs.StepResult.{StepResult, unchanged}
use Rattle.raft_group_step.specs.Opening.{drop_stale_log, is_joined_to}
use Rattle.raft_group_step.proofs.Words.{either}
use Rattle.raft_known_state.specs.KnownState.{ArePlaced}
use Rattle.raft_laws.specs.GroupWorld.{GroupWorld, Up, Down, Recorded}
use Rattle.raft_laws.specs.OneList.{IsGroupHistory}
use Rattle.raft_laws.specs.Opened.{opened}
use Rattle.raft_laws.specs.VotesRise.{stored_of}
use Rattle.raft_laws.proofs.LowPlaces.{places_low}
use Rattle.raft_laws.proofs.OpenedStates.{opened_in_order, opened_low}
use Rattle.raft_laws.proofs.ReadyStates.{wish_covered}
use Rattle.raft_member.specs.Member.{IsLawful}
use Rattle.raft_member.specs.Opening.{IsOpenable}

-- ---- nodes that are up

pub lawful_at : (ids : List ℕ) (rs : List Recorded) (g : GroupWorld) → IsGroupHistory ids rs g → (n : ℕ) (s : GroupState) → g.nodes n ≡ Up s → IsLawful n s
lawful_at ids rs g h n s is = record {
  ready = record {
    places = places_low ids rs g h n s.stored (ap stored_of is);
    wish = wish_covered ids rs g h n s is;
  };
}

-- ---- nodes that are down

placed_on : (es : List Entry) (start : ℕ) → ((i : ℕ) (e : Entry) → slice_get es i ≡ Some e → e.log_id.index ≡ start + i) → ArePlaced start es
placed_on [] start h = tt
placed_on (x ∷ xs) start h = (
  let first : x.log_id.index ≡ start + 0 = h 0 x refl in omega arith,
  placed_on xs (suc start) (λ i e is. let next : e.log_id.index ≡ start + suc i = h (suc i) e is in omega arith),
)

opening_keeps_snapshot : (st : StoredGroup) (o : Option (LogId ℕ)) → (drop_stale_log o (unchanged (state_of st))).state.stored.snapshot ≡ st.snapshot
opening_keeps_snapshot st None = refl
opening_keeps_snapshot st (Some last) = either (λ (r : StepResult). r.state.stored.snapshot ≡ st.snapshot) (is_joined_to st last) _ _ refl refl

opening_has_no_wish : (st : StoredGroup) (o : Option (LogId ℕ)) → (drop_stale_log o (unchanged (state_of st))).state.wish ≡ None
opening_has_no_wish st None = refl
opening_has_no_wish st (Some last) = either (λ (r : StepResult). r.state.wish ≡ None) (is_joined_to st last) _ _ refl refl

same_last : (a b : StoredGroup) → a.snapshot ≡ b.snapshot → snapshot_last a ≡ snapshot_last b
same_last a b same = ap (λ (o : Option Snapshot). snapshot_last (record a { snapshot = o })) same

no_wish : {P : Type 0} (o : Option ℕ) (place : ℕ) → o ≡ None → o ≡ Some place → P
no_wish o place none is = absurd (let no : None ≡ Some place = sym none ∙ is in cc)

pub openable_at : (ids : List ℕ) (rs : List Recorded) (g : GroupWorld) → IsGroupHistory ids rs g → (n : ℕ) (st : StoredGroup) → g.nodes n ≡ Down st → IsOpenable n st
openable_at ids rs g h n st is =
    let now = (opened st).state.stored in
    let order = opened_in_order ids rs g h n st is in
    let last_is : snapshot_last now ≡ snapshot_last st = same_last now st (opening_keeps_snapshot st (snapshot_last st)) in
    record {
      placed = placed_on now.log (first_place now) order.placed;
      purged = order.covered;
      snapshot = λ last e. order.joined last (last_is ∙ e);
      reaches = order.reaches;
      ready = record {
        places = opened_low ids rs g h n st is;
        wish = λ place e. no_wish _ place (opening_has_no_wish st (snapshot_last st)) e;
      };
    }
