-- What is shown for any machine is shown for one whose state says nothing: any bytes restore that, and these are its snapshot.
use Rattle.std.proofs.Common.{◌≡◌, ◌+◌, inl, inr, ℕ, List, [], ◌∷◌, Option, Some, None, refl, ap, ◌∙◌}
use Rattle.raft_state.specs.declared.entry.EntryPayload.TheVariants.{Blank, Normal, Membership as Members}
use Rattle.raft_group_step.specs.Values.{Entry, EntryPayload}
use Rattle.raft_group_step.specs.StoredGroup.{Snapshot, StoredGroup}
use Rattle.raft_messages.specs.declared.memberships.SnapshotBytes.{SnapshotBytes}
use Rattle.raft_log_memtables.specs.Content.{Content, GroupContent}
use Rattle.raft_content_log.specs.Leaving.{Leaves}
use Rattle.raft_machines.specs.Machine.{MachineRules}
use Rattle.raft_machines.specs.Fold.{after_payload, fold_of, state_from}
use Rattle.raft_store.specs.Batches.{ShowsIn}
use Rattle.raft_store.specs.Reading.{Holds, HoldsOne, HoldsSnapshot, StandsFor}
use Rattle.raft_store.specs.declared.recent.Recent.{Recent}

abbrev pub blank_rules : List ℕ → MachineRules
blank_rules bytes = record {
  first = [];
  step = λ state place command. [];
  answer = λ state place command. [];
  snapshot = λ state. bytes;
  restored = λ bytes. [];
}

still_blank : (bytes : List ℕ) (place : ℕ) (payload : EntryPayload) → after_payload (blank_rules bytes) [] place payload ≡ []
still_blank bytes place Blank = refl
still_blank bytes place (Normal command) = refl
still_blank bytes place (Members m) = refl

blank_from : (bytes : List ℕ) (place : ℕ) (es : List Entry) → state_from (blank_rules bytes) [] place es ≡ []
blank_from bytes place [] = refl
blank_from bytes place (e ∷ es) = ap (λ (state : List ℕ). state_from (blank_rules bytes) state (place + 1) es) (still_blank bytes place e.payload) ∙ blank_from bytes (place + 1) es

-- a snapshot that any bytes stand for
abbrev pub covered : SnapshotBytes → Snapshot
covered x = record { last = x.meta.last_log_id; membership = x.meta.last_membership; «prefix» = [] }

pub stands_blank : (x : SnapshotBytes) → StandsFor (blank_rules x.bytes) x (covered x)
stands_blank x = record { last = refl; membership = refl; state = refl; made = inl refl }

-- ---- what is held

snapshot_blank : (given : List ℕ) (rules : MachineRules) (value : Option (List ℕ)) (x : Option Snapshot) → HoldsSnapshot rules value x → HoldsSnapshot (blank_rules given) value x
snapshot_blank given rules None None h = tt
snapshot_blank given rules None (Some y) h = absurd h
snapshot_blank given rules (Some bytes) None h = absurd h
snapshot_blank given rules (Some bytes) (Some y) h = (h.0, h.1, h.2, record { last = h.3.last; membership = h.3.membership; state = same; made = inr h.2.bytes })
  where
    same : [] ≡ fold_of (blank_rules given) y.«prefix»
    same = let e = blank_from given 0 y.«prefix» in cc

holds_blank : (given : List ℕ) (rules : MachineRules) (g : GroupContent (List ℕ)) (s : StoredGroup) → Holds rules g s → Holds (blank_rules given) g s
holds_blank given rules g s h = record {
  present = h.present;
  vote = h.vote;
  end = h.end;
  purged = h.purged;
  purged_fits = h.purged_fits;
  snapshot = snapshot_blank given rules _ s.snapshot h.snapshot;
  log = h.log;
  reach = h.reach;
}

one_blank : (given : List ℕ) (rules : MachineRules) (g : GroupContent (List ℕ)) (s : StoredGroup) → HoldsOne rules g (s ∷ []) → HoldsOne (blank_rules given) g (s ∷ [])
one_blank given rules g s (inl h) = inl (holds_blank given rules g s h)
one_blank given rules g s (inr none) = absurd none

pub shows_blank : (given : List ℕ) (rules : MachineRules) (sound : Type 0) (answers : Content (List ℕ)) (leaves : Leaves) (recent : Option Recent) (group : ℕ) (s : StoredGroup)
    → ShowsIn rules sound answers leaves recent group (s ∷ []) → ShowsIn (blank_rules given) sound answers leaves recent group (s ∷ [])
shows_blank given rules sound answers leaves recent group s shown = record {
  answered = λ is. one_blank given rules (answers group) s (shown.answered is);
  left = λ content may. one_blank given rules (content group) s (shown.left content may);
  recalled = shown.recalled;
}
