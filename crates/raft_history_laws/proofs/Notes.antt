-- The note that an event leaves.
use Rattle.std.specs.Prelude.{◌≡◌, ◌⊎◌, ℕ, [], ◌∷◌, ◌++◌, Option, refl}
use Rattle.std.proofs.Common.{inl, inr, ◌∙◌, append-nil}
use Rattle.raft_group_step.specs.StoredGroup.{held}
use Rattle.raft_group_step.specs.GroupState.{GroupState, Lead, Role, Follower, Candidate, Leader}
use Rattle.raft_laws.specs.declared.world_event.WorldEvent.{WorldEvent}
use Rattle.raft_laws.specs.GroupWorld.{GroupWorld, NodeState, Absent, Up, Down, Led, Outcome, Done, Refused, Stopped, Skipped, is_stop}
use Rattle.raft_laws.specs.NodeEvent.{state_after}
use Rattle.raft_laws.specs.GroupRun.{Scene, Nowhere, At, after_scene, happens, led_after, led_as, led_by, scene_of, stop_at}
use Rattle.raft_laws.proofs.Numbers.{state_here}

abbrev pub note_of : ℕ → GroupState → Led
note_of n s = record { node = n; vote = s.stored.vote; list = held s.stored }

-- the note is of a node that leads
pub record NewNote (w w' : GroupWorld) : Type 0 where
  pub node : ℕ
  pub state : GroupState
  pub lead : Lead
  pub is_up : w'.nodes node ≡ Up state
  pub leads : state.role ≡ Leader lead
  pub led : w'.led ≡ w.led ++ note_of node state ∷ []

abbrev pub Notes : GroupWorld → GroupWorld → Type 0
Notes w w' = (w'.led ≡ w.led) ⊎ NewNote w w'

module _ (w w' : GroupWorld) (n : ℕ) where
  of_role : (s : GroupState) → w'.nodes n ≡ Up s → (role : Role) → s.role ≡ role → w'.led ≡ w.led ++ led_as n s role → Notes w w'
  of_role s up Follower is e = inl (e ∙ append-nil w.led)
  of_role s up (Candidate granters) is e = inl (e ∙ append-nil w.led)
  of_role s up (Leader lead) is e = inr (record { node = n; state = s; lead = lead; is_up = up; leads = is; led = e })

  of_state : (x : NodeState) → w'.nodes n ≡ x → w'.led ≡ w.led ++ led_by n x → Notes w w'
  of_state Absent is e = inl (e ∙ append-nil w.led)
  of_state (Up s) is e = of_role s is s.role refl e
  of_state (Down stored) is e = inl (e ∙ append-nil w.led)

  of_outcome : (o : Outcome) (x : NodeState) → w'.nodes n ≡ x → w'.led ≡ w.led ++ led_after o n x → Notes w w'
  of_outcome (Done sent told unknown) x is e = of_state x is e
  of_outcome (Refused why) x is e = of_state x is e
  of_outcome (Stopped unknown) x is e = inl (e ∙ append-nil w.led)
  of_outcome Skipped x is e = inl (e ∙ append-nil w.led)

scene_notes : (w : GroupWorld) (e : WorldEvent) (o : Outcome) (stop : Option ℕ) (scene : Scene) → Notes w (after_scene w e o stop scene)
scene_notes w e o stop Nowhere = inl refl
scene_notes w e o stop (At n at_node) =
    let state = state_after n at_node stop (w.nodes n) in
    of_outcome w (after_scene w e o stop (At n at_node)) n o state (state_here n state w.nodes) refl

-- an event leaves one note or none
pub event_notes : (w : GroupWorld) (e : WorldEvent) (o : Outcome) (k : ℕ) → Notes w (happens w e o k)
event_notes w e o k = scene_notes w e o (stop_at (is_stop o) k) (scene_of w e)
