-- What is kept of a world goes on as what is kept of the next one, by what is known of the event between them.
use Rattle.std.specs.Prelude.{◌≡◌, ℕ, Bool, List, [], ◌∷◌, ◌++◌, Some, None, Contains}
use Rattle.std.proofs.Common.{inl, inr, sym, subst, ⊎_elim}
use Rattle.raft_group_step.specs.Values.{Membership}
use Rattle.raft_laws.specs.declared.world_event.WorldEvent.{WorldEvent}
use Rattle.raft_laws.specs.GroupWorld.{GroupWorld, Recorded as GroupRecorded, new_world}
use Rattle.raft_laws.specs.GroupRun.{happens, outcome_of, scene_of, setup_after}
use Rattle.raft_laws.specs.OneList.{AreNodeIds, IsGroupHistory}
use Rattle.raft_laws.proofs.Histories.{histories-join}
use Rattle.raft_laws.proofs.Runs.{scene-tells-stop}
use Rattle.raft_machines.specs.Machine.{MachineRules}
use Rattle.raft_headline.specs.ClusterEvent.{Recorded}
use Rattle.raft_headline.specs.Machines.{Replicas, new_replicas}
use Rattle.raft_headline.specs.Replaying.{ReplaysFor}
use Rattle.raft_headline.proofs.Headlines.{leads_there}
use Rattle.raft_list_laws.specs.Changes.{with_setup}
use Rattle.raft_list_laws.proofs.SetUps.{nobody_led_before}
use Rattle.raft_list_steps.specs.Lists.{IsListOf}
use Rattle.raft_list_steps.specs.Reports.{Hears, HearsAhead, IsBehind}
use Rattle.raft_list_steps.specs.declared.report.GroupReport.{GroupReport}
use Rattle.raft_list_reports.specs.Told.{HappensAt, IsTold, StopsGoOn}
use Rattle.raft_list_reports.proofs.Stops.{stops_are_kept}
use Rattle.raft_list_reports.proofs.TrueReports.{reports_ahead_are_true, reports_are_true}
use Rattle.raft_cluster_lists.specs.Keeping.{AreNotesOf, GroupNotes, IsNotedOf}
use Rattle.raft_cluster_lists.specs.Lists.{AreSame}
use Rattle.raft_cluster_lists.proofs.QuietEvents.{IsQuiet, quiet_has}
use Rattle.raft_cluster_lists.proofs.SameNotes.{any_list, same_has}

module _ (rules : MachineRules) (ids : List ℕ) (fit : AreNodeIds ids) (h : ℕ) (plain : List Recorded) (old new : Replicas) (run : ReplaysFor rules h (new_replicas rules ids) plain old) (e : WorldEvent) (stops : Bool) (number : ℕ) (is : new.world ≡ happens old.world e (outcome_of old.world e stops) number) where
  abbrev pub record_of : GroupRecorded
  record_of = record { event = e; outcome = outcome_of old.world e stops }

  pub is_behind : IsBehind ids old.world record_of new.world
  is_behind =
      let led = leads_there rules ids fit h plain old run in
      record {
        history = led.more;
        before = led.kept.leads;
        event = (scene-tells-stop old.world stops (scene_of old.world e), (number, is));
      }

  pub unled_before : old.world.setup ≡ None → old.world.led ≡ []
  unled_before none = nobody_led_before ids is_behind.history old.world is_behind.before none

  later : IsGroupHistory ids (is_behind.history ++ record_of ∷ []) new.world
  later = record {
    node_ids = is_behind.before.node_ids;
    replays = histories-join is_behind.history (record_of ∷ []) (new_world ids) old.world new.world is_behind.before.replays is_behind.event;
  }

  pub unled_behind : new.world.setup ≡ None → new.world.led ≡ []
  unled_behind none = nobody_led_before ids (is_behind.history ++ record_of ∷ []) new.world later none

  module _ (n : ℕ) (k next : GroupNotes) (at : HappensAt old.world record_of n) (goes : StopsGoOn k.notes old.world record_of n k.stopped next.stopped) (more : (x : Membership) → Contains k.asked x → Contains next.asked x) (was : AreNotesOf k old.world) where
    abbrev w : GroupWorld
    w = old.world

    stops_on : (list : IsNotedOf next.notes next.asked new.world) → AreNotesOf next new.world
    stops_on list = record {
      list = list;
      stops = stops_are_kept ids w record_of new.world n is_behind at k.notes (any_list k.notes k.asked w was.list) k.stopped next.stopped goes was.stops;
    }

    -- what a report says that is true
    pub told_on : (report : GroupReport) → Hears k.notes report next.notes → HearsAhead k.notes report next.notes
        → ((m : Membership) → setup_after None e (outcome_of w e stops) ≡ Some m → (x : Membership) → Contains k.asked x → m ≡ x)
        → IsTold k.notes k.stopped w record_of new.world report → AreNotesOf next new.world
    told_on report hears ahead free told =
        stops_on
        (⊎_elim
        (λ l. inl (hears ids w record_of new.world is_behind (reports_are_true ids w record_of new.world is_behind k.notes l k.stopped was.stops report told) l).truth)
        (λ a.
        let said = reports_ahead_are_true ids w record_of new.world is_behind k.notes a.0 k.stopped was.stops (λ m set_up. free m set_up a.0.membership a.1) report told in
        ⊎_elim
        (λ l. inl l)
        (λ x. inr (x.0, more x.0.membership (subst (λ m. Contains k.asked m) (sym x.1) a.1)))
        (ahead ids w record_of new.world is_behind a.0 said))
        was.list)

    -- nothing is said
    pub quiet_on : AreSame k.notes next.notes → IsQuiet w new.world → AreNotesOf next new.world
    quiet_on same quiet =
        stops_on (quiet_has next.notes next.asked w new.world quiet (same_has k.notes next.notes k.asked next.asked w same more was.list))

    -- a set-up is heard that isn't taken
    pub ahead_on : (m : Membership) → new.world.setup ≡ None → IsListOf next.notes (with_setup new.world m) → Contains next.asked m → AreNotesOf next new.world
    ahead_on m none list asked =
        stops_on (inr (record { none = none; unled = unled_behind none; membership = m; list = list }, asked))
