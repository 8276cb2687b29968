-- What a group sees of an event of its cluster, and what became of it there.
use Rattle.std.specs.Prelude.{◌≡◌, ℕ, if◌then◌else◌, Bool, true, false, List, Option, Some, None, refl}
use Rattle.std.proofs.Common.{sym, ap, ◌∙◌, subst, ⊎_elim, eq-eqb}
use Rattle.raft_group_step.specs.Message.{Message}
use Rattle.raft_group_step.specs.GroupState.{Untold}
use Rattle.raft_group_step.specs.StepResult.{RefusalReason}
use Rattle.raft_laws.specs.declared.world_event.WorldEvent.{WorldEvent}
use Rattle.raft_laws.specs.declared.world_event.WorldEvent.TheVariants as world
use Rattle.raft_laws.specs.GroupRun.{At, Scene, setup_in}
use Rattle.raft_laws.specs.GroupWorld.{Outcome}
use Rattle.raft_laws.specs.GroupWorld.{Done as Ended, Refused as Declined, Stopped as Broken, Skipped}
use Rattle.raft_laws.specs.NodeEvent.{NodeEvent}
use Rattle.raft_headline.specs.ClusterEvent.{ClusterEvent as PlainEvent, ClusterOutcome as PlainOutcome, Recorded as PlainRecord}
use Rattle.raft_headline.specs.ClusterEvent.{Done, Halt, Opened, PassedOver, Refused, Said, Stopped, TurnedAway, Unknown, is_stopped, is_turned_away}
use Rattle.raft_headline.specs.Replaying.{IsThere, Says, is_opening}
use Rattle.raft_headline.specs.Seen.{Halted, Own, Passed, own_or_aside, seen_by, seen_of, seen_unless}
use Rattle.raft_cluster_events.specs.declared.event.ClusterEvent.{ClusterEvent}
use Rattle.raft_cluster_events.specs.declared.event.ClusterEvent.TheVariants as event
use Rattle.raft_cluster_events.specs.declared.outcome.GroupOutcome.{GroupOutcome}
use Rattle.raft_node_laws.specs.Reporting.{CleanedAs, DoneAs, plain_event}
use Rattle.raft_node_laws.specs.Saying.{IsToldAs}
use Rattle.raft_cluster_lists.specs.GoingOn.{asked_in}
use Rattle.raft_cluster_lists.specs.Hearing.{IsOpening, group_of}

-- ---- events

same_group : (a b : ℕ) → Some a ≡ Some b → a ≡ b
same_group a b is = cc

no_group : (h : ℕ) → None ≡ Some h → ⊥
no_group h is = cc

-- what an event of a group is there
abbrev pub world_event : ClusterEvent → WorldEvent
world_event (event.AddGroup n g) = world.Add n
world_event (event.Ask n g call now) = world.Ask n call now
world_event (event.Deliver g number cuts now) = world.Deliver number now
world_event (event.ResetPeer n peer) = world.Halt n
world_event (event.Clean n) = world.Halt n
world_event (event.Fuse n first_refused) = world.Halt n
world_event (event.Crash n choice) = world.Crash n
world_event (event.Reopen n workers) = world.Restart n

own_seen : (h at : ℕ) (e : ClusterEvent) (o : PlainOutcome) → group_of e ≡ Some h → seen_of h (plain_event e) at o ≡ Own (world_event e)
own_seen h at (event.AddGroup n g) o is = ap (λ b. own_or_aside b (world.Add n) n o) (eq-eqb g h (same_group g h is))
own_seen h at (event.Ask n g call now) o is = ap (λ b. own_or_aside b (world.Ask n call now) n o) (eq-eqb g h (same_group g h is))
own_seen h at (event.Deliver g number cuts now) o is = ap (λ b. own_or_aside b (world.Deliver number now) at o) (eq-eqb g h (same_group g h is))
own_seen h at (event.ResetPeer n peer) o is = absurd (no_group h is)
own_seen h at (event.Clean n) o is = absurd (no_group h is)
own_seen h at (event.Fuse n first_refused) o is = absurd (no_group h is)
own_seen h at (event.Crash n choice) o is = absurd (no_group h is)
own_seen h at (event.Reopen n workers) o is = absurd (no_group h is)

-- a group's call that is told as itself
pub own_call : (h : ℕ) (r : PlainRecord) (e : ClusterEvent) → group_of e ≡ Some h → r.event ≡ plain_event e → is_turned_away r.outcome ≡ false → seen_by h r ≡ Own (world_event e)
own_call h r e is told here =
    ap (λ b. seen_unless b (seen_of h r.event r.node r.outcome)) here ∙ ap (λ p. seen_of h p r.node r.outcome) told ∙ own_seen h r.node e r.outcome is

pub no_opening : (h : ℕ) (e : ClusterEvent) → group_of e ≡ Some h → is_opening (world_event e) ≡ false
no_opening h (event.AddGroup n g) is = refl
no_opening h (event.Ask n g call now) is = refl
no_opening h (event.Deliver g number cuts now) is = refl
no_opening h (event.ResetPeer n peer) is = absurd (no_group h is)
no_opening h (event.Clean n) is = absurd (no_group h is)
no_opening h (event.Fuse n first_refused) is = absurd (no_group h is)
no_opening h (event.Crash n choice) is = absurd (no_group h is)
no_opening h (event.Reopen n workers) is = absurd (no_group h is)

pub no_restart : (h n : ℕ) (e : ClusterEvent) → group_of e ≡ Some h → world_event e ≡ world.Restart n → ⊥
no_restart h n e is same =
    let yes : true ≡ false = ap is_opening (sym same) ∙ no_opening h e is in cc

pub same_asked : (h : ℕ) (e : ClusterEvent) → group_of e ≡ Some h → setup_in (world_event e) ≡ asked_in e
same_asked h (event.AddGroup n g) is = refl
same_asked h (event.Ask n g call now) is = refl
same_asked h (event.Deliver g number cuts now) is = refl
same_asked h (event.ResetPeer n peer) is = refl
same_asked h (event.Clean n) is = refl
same_asked h (event.Fuse n first_refused) is = refl
same_asked h (event.Crash n choice) is = refl
same_asked h (event.Reopen n workers) is = refl

-- what was turned away is passed
pub away_passed : (h : ℕ) (r : PlainRecord) → r.outcome ≡ TurnedAway → seen_by h r ≡ Passed
away_passed h r is = ap (λ (o : PlainOutcome). seen_unless (is_turned_away o) (seen_of h r.event r.node r.outcome)) is

-- a halt that stopped
pub halt_seen : (h n : ℕ) (r : PlainRecord) → r.event ≡ Halt n → is_stopped r.outcome ≡ true → is_turned_away r.outcome ≡ false → seen_by h r ≡ Halted n
halt_seen h n r is stops here =
    ap (λ b. seen_unless b (seen_of h r.event r.node r.outcome)) here ∙ ap (λ p. seen_of h p r.node r.outcome) is
    ∙ ap (λ (b : Bool). if b then Halted n else Passed) stops

-- ---- outcomes

-- what ends without a stop is told as itself
pub itself : (happened : PlainEvent) (n : ℕ) (o : PlainOutcome) (told : PlainEvent) → IsToldAs happened n o told → is_stopped o ≡ false → told ≡ happened
itself happened n o told said ends =
    ⊎_elim (λ is. is) (λ halts. absurd (let no : true ≡ false = sym halts.1 ∙ ends in cc)) said

pub call_done : (plain : List PlainRecord) (h : ℕ) (e : ClusterEvent) (parts : List GroupOutcome) (o : PlainOutcome) → group_of e ≡ Some h → DoneAs plain e parts o → (said : Said) × (o ≡ Done said)
call_done plain h (event.AddGroup n g) parts o is done = (done.said, done.done)
call_done plain h (event.Ask n g call now) parts o is done = (done.said, done.done)
call_done plain h (event.Deliver g number cuts now) parts o is done = (done.said, done.done)
call_done plain h (event.ResetPeer n peer) parts o is done = absurd (no_group h is)
call_done plain h (event.Clean n) parts o is done = absurd (no_group h is)
call_done plain h (event.Fuse n first_refused) parts o is done = absurd (no_group h is)
call_done plain h (event.Crash n choice) parts o is done = absurd (no_group h is)
call_done plain h (event.Reopen n workers) parts o is done = absurd (no_group h is)

-- a node is cleaned by no call of a group
pub call_not_cleaned : (h : ℕ) (e : ClusterEvent) (groups : List ℕ) (o : PlainOutcome) → group_of e ≡ Some h → CleanedAs e groups o → ⊥
call_not_cleaned h (event.AddGroup n g) groups o is never = never
call_not_cleaned h (event.Ask n g call now) groups o is never = never
call_not_cleaned h (event.Deliver g number cuts now) groups o is never = never
call_not_cleaned h (event.ResetPeer n peer) groups o is never = never
call_not_cleaned h (event.Clean n) groups o is cleaned = no_group h is
call_not_cleaned h (event.Fuse n first_refused) groups o is never = never
call_not_cleaned h (event.Crash n choice) groups o is never = never
call_not_cleaned h (event.Reopen n workers) groups o is never = never

-- nor by an opening
pub opening_not_cleaned : (e : ClusterEvent) (groups : List ℕ) (o : PlainOutcome) → IsOpening e → CleanedAs e groups o → ⊥
opening_not_cleaned (event.AddGroup n g) groups o opens cleaned = opens
opening_not_cleaned (event.Ask n g call now) groups o opens cleaned = opens
opening_not_cleaned (event.Deliver g number cuts now) groups o opens cleaned = opens
opening_not_cleaned (event.ResetPeer n peer) groups o opens cleaned = opens
opening_not_cleaned (event.Clean n) groups o opens cleaned = opens
opening_not_cleaned (event.Fuse n first_refused) groups o opens cleaned = opens
opening_not_cleaned (event.Crash n choice) groups o opens cleaned = opens
opening_not_cleaned (event.Reopen n workers) groups o opens cleaned = cleaned

pub record IsEnded (said : Said) (o : Outcome) : Type 0 where
  pub sent : List Message
  pub told : List Untold
  pub unknown : List ℕ
  pub is : o ≡ Ended sent told unknown
  pub same : said.sent ≡ sent

pub says_ended : (h : ℕ) (answers : ℕ → Option (List ℕ)) (said : Said) (o : Outcome) → Says h false answers (Done said) o → IsEnded said o
says_ended h answers said (Ended sent told unknown) says = record { sent = sent; told = told; unknown = unknown; is = refl; same = says.sent }
says_ended h answers said (Declined why) says = absurd (let no : Done said ≡ Refused why = says in cc)
says_ended h answers said (Broken unknown) says = absurd says
says_ended h answers said Skipped says = absurd (let no : Done said ≡ PassedOver = says in cc)

pub says_opened : (h : ℕ) (answers : ℕ → Option (List ℕ)) (parts : List (ℕ × Said)) (o : Outcome) → Says h true answers (Opened parts) o → (sent : List Message) × (told : List Untold) × (unknown : List ℕ) × (o ≡ Ended sent told unknown)
says_opened h answers parts (Ended sent told unknown) says = (sent, told, unknown, refl)
says_opened h answers parts (Declined why) says = absurd (let no : Opened parts ≡ Refused why = says in cc)
says_opened h answers parts (Broken unknown) says = absurd says
says_opened h answers parts Skipped says = absurd (let no : Opened parts ≡ PassedOver = says in cc)

pub says_broken : (h : ℕ) (opening : Bool) (answers : ℕ → Option (List ℕ)) (lost : List Unknown) (o : Outcome) → Says h opening answers (Stopped lost) o → (unknown : List ℕ) × (o ≡ Broken unknown)
says_broken h true answers lost (Ended sent told unknown) says = absurd says
says_broken h false answers lost (Ended sent told unknown) says = absurd says
says_broken h opening answers lost (Declined why) says = absurd (let no : Stopped lost ≡ Refused why = says in cc)
says_broken h opening answers lost (Broken unknown) says = (unknown, refl)
says_broken h opening answers lost Skipped says = absurd (let no : Stopped lost ≡ PassedOver = says in cc)

pub says_declined : (h : ℕ) (answers : ℕ → Option (List ℕ)) (why : RefusalReason) (o : Outcome) → Says h false answers (Refused why) o → o ≡ Declined why
says_declined h answers why (Ended sent told unknown) says = absurd says
says_declined h answers why (Declined other) says = let same : Refused why ≡ Refused other = says in cc
says_declined h answers why (Broken unknown) says = absurd says
says_declined h answers why Skipped says = absurd (let no : Refused why ≡ PassedOver = says in cc)

pub says_skipped : (h : ℕ) (answers : ℕ → Option (List ℕ)) (o : Outcome) → Says h false answers PassedOver o → o ≡ Skipped
says_skipped h answers (Ended sent told unknown) says = absurd says
says_skipped h answers (Declined why) says = absurd (let no : PassedOver ≡ Refused why = says in cc)
says_skipped h answers (Broken unknown) says = absurd says
says_skipped h answers Skipped says = refl

-- where it happens
pub at_node : (scene : Scene) (node : ℕ) → IsThere scene node → (m : ℕ) (e : NodeEvent) → scene ≡ At m e → m ≡ node
at_node scene node there m e is = subst (λ s. IsThere s node) is there
