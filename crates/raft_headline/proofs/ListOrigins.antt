-- Each entry of the list that isn't blank comes from an event of the cluster's history.
use Rattle.std.specs.Prelude.{◌≡◌, ℕ, List, slice_get, Some}
use Rattle.std.proofs.Common.{sym, ap, ◌∙◌, subst}
use Rattle.raft_state.specs.declared.entry.EntryPayload.TheVariants.{Blank}
use Rattle.raft_group_step.specs.Values.{Entry}
use Rattle.raft_group_step.specs.GroupEvent.{GroupCall}
use Rattle.raft_laws.specs.GroupWorld.{GroupWorld, new_world}
use Rattle.raft_laws.specs.GroupRun.{group_run}
use Rattle.raft_laws.specs.OneList.{AreNodeIds}
use Rattle.raft_laws.specs.Origins.{Events, IsAskedAt}
use Rattle.raft_laws.specs.Settled.{group_list}
use Rattle.raft_laws.proofs.Counts.{at_contains}
use Rattle.raft_laws.proofs.WorldOrigins.{entries_were_asked_for, one_place_for_an_event}
use Rattle.raft_machines.specs.Machine.{MachineRules}
use Rattle.raft_headline.specs.ClusterEvent.{Recorded}
use Rattle.raft_headline.specs.Machines.{Replicas, new_replicas}
use Rattle.raft_headline.specs.OwnEvents.{own_events, own_number}
use Rattle.raft_headline.specs.Replaying.{ReplaysWith}
use Rattle.raft_headline.specs.Told.{EntriesHaveOrigins, IsOriginOf}
use Rattle.raft_headline.proofs.Origins.{origin_at, seen_asked}
use Rattle.raft_headline.proofs.OwnRuns.{SeenAt, runs}

module _ (rules : MachineRules) (ids : List ℕ) (fit : AreNodeIds ids) (h : ℕ) (history : List Recorded) (end : Replicas) (numbers : List ℕ) (run : ReplaysWith rules h (new_replicas rules ids) history numbers end) where
  abbrev es : Events
  es = own_events h history numbers

  same_end : group_run es (new_world ids) ≡ end.world
  same_end = runs rules h history numbers (new_replicas rules ids) end run

  module _ (place : ℕ) (e : Entry) (is : slice_get (group_list end.world) place ≡ Some e) (some : e.payload ≡ Blank → ⊥) where
    there : slice_get (group_list (group_run es (new_world ids))) place ≡ Some e
    there = ap (λ (w : GroupWorld). slice_get (group_list w) place) same_end ∙ is

    asked : (number : ℕ) × (call : GroupCall) × IsAskedAt es (new_world ids) number call e
    asked = entries_were_asked_for ids es e (at_contains (group_list (group_run es (new_world ids))) e place there) some

    seen : (number : ℕ) × SeenAt rules h history es (new_world ids) number asked.0
    seen = seen_asked rules ids h history end numbers run asked.0 asked.1 e asked.2

    abbrev number_of : ℕ
    number_of = seen.0

    origin_of : IsOriginOf ids h history numbers number_of e
    origin_of = origin_at rules ids h history end numbers run fit asked.0 asked.1 e asked.2 seen.0 seen.1

  one_origin : (i j : ℕ) (x y : Entry) (at_i : slice_get (group_list end.world) i ≡ Some x) (at_j : slice_get (group_list end.world) j ≡ Some y) (some_x : x.payload ≡ Blank → ⊥) (some_y : y.payload ≡ Blank → ⊥) → number_of i x at_i some_x ≡ number_of j y at_j some_y → i ≡ j
  one_origin i j x y at_i at_j some_x some_y same =
      let a = asked i x at_i some_x in
      let b = asked j y at_j some_y in
      let number : b.0 ≡ a.0 =
      sym (seen j y at_j some_y).1.is_number ∙ ap (own_number h history) (sym same) ∙ (seen i x at_i some_x).1.is_number
      in
      one_place_for_an_event ids fit es i j x y (there i x at_i some_x) (there j y at_j some_y) a.0 a.1 b.1 a.2
      (subst (λ k. IsAskedAt es (new_world ids) k b.1 y) number b.2)

pub have_origins : (rules : MachineRules) (ids : List ℕ) → AreNodeIds ids → (h : ℕ) (history : List Recorded) (end : Replicas) → EntriesHaveOrigins rules ids h history end
have_origins rules ids fit h history end numbers run = record {
  number = number_of rules ids fit h history end numbers run;
  origin = origin_of rules ids fit h history end numbers run;
  once = one_origin rules ids fit h history end numbers run;
}
