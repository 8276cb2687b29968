-- Real records and the plain ones beside them: what they tell of a group, and which event asked.
use Rattle.std.proofs.Common.{◌≡◌, ℕ, zero, suc, eqb, Bool, true, false, cond, inl, inr, List, [], ◌∷◌, ◌++◌, Some, None, slice_get, refl, sym, ap, ◌∙◌, subst}
use Rattle.std.specs.List.{AllZip, find}
use Rattle.raft_group_step.specs.GroupEvent.{GroupCall}
use Rattle.raft_laws.proofs.BallotAgreement.{same_some}
use Rattle.raft_headline.specs.ClusterEvent.{ClusterEvent as PlainEvent, ClusterOutcome as PlainOutcome, Recorded as PlainRecord}
use Rattle.raft_headline.specs.ClusterEvent.{AddGroup, Ask, Clean, Crash, Deliver, Fuse, Halt, Reopen, ResetPeer}
use Rattle.raft_headline.specs.ClusterEvent.{Done, Said, Stopped, TurnedAway, is_stopped, said_of, said_or, silent}
use Rattle.raft_headline.specs.Told.{said_by, said_if}
use Rattle.raft_headline.specs.Told.{is_taken as is_taken_plain}
use Rattle.raft_cluster_events.specs.declared.event.ClusterEvent.{ClusterEvent}
use Rattle.raft_cluster_events.specs.declared.event.ClusterEvent.TheVariants as event
use Rattle.raft_cluster_events.specs.declared.outcome.EventOutcome.{EventOutcome}
use Rattle.raft_cluster_events.specs.declared.outcome.EventOutcome.TheVariants as outcome
use Rattle.raft_cluster_events.specs.declared.outcome.GroupOutcome.{GroupOutcome}
use Rattle.raft_cluster_events.specs.declared.outcome.Recorded.{Recorded}
use Rattle.raft_node_laws.specs.Reporting.{AreRecordedAs, IsDoneAs, IsPartAs, IsRecordedAs, IsReport, OutcomeAs, crashes_of, plain_event}
use Rattle.raft_node_laws.specs.Saying.{IsToldAs, names_of}
use Rattle.raft_cluster.specs.Facts.{is_taken}
use Rattle.raft_cluster.specs.Told.{told_by, told_in, told_of}
use Rattle.raft_cluster.proofs.PlainLemmas.{passive, quiet_by}

-- ---- what a record tells

-- an event that didn't stop its node is told as itself
unstopped : (n : ℕ) (e pe : PlainEvent) (o : PlainOutcome) → IsToldAs e n o pe → is_stopped o ≡ false → pe ≡ e
unstopped n e pe o (inl same) on = same
unstopped n e pe o (inr halt) on = absurd (let no : true ≡ false = sym halt.1 ∙ on in cc)

part_told : (h : ℕ) (part : GroupOutcome) (said : Said) (b : Bool) → said.told ≡ part.told → (said_if b (Done said)).told ≡ told_in (cond b (Some part) None)
part_told h part said true same = same
part_told h part said false same = refl

-- an event of one group
done_told : (h group : ℕ) (past : List PlainRecord) (parts : List GroupOutcome) (o : PlainOutcome) → IsDoneAs past group parts o → (said_if (eqb group h) o).told ≡ told_by h parts
done_told h group past parts o done =
    ap (λ x. (said_if (eqb group h) x).told) done.done
    ∙ part_told h done.part done.said (eqb group h) done.same.told
    ∙ ap (λ g. told_in (cond (eqb g h) (Some done.part) None)) (sym done.of_group)
    ∙ sym (ap (told_by h) done.one)

-- an opening
opening_told : (h : ℕ) (past : List PlainRecord) (parts : List GroupOutcome) (all : List (ℕ × Said))
    → AllZip (λ (part : GroupOutcome) (said : ℕ × Said). (said.0 ≡ part.group) × IsPartAs past part said.1) parts all → (said_of h all).told ≡ told_by h parts
opening_told h past [] [] same = refl
opening_told h past [] (x ∷ xs) same = absurd same
opening_told h past (part ∷ parts) [] same = absurd same
opening_told h past (part ∷ parts) (x ∷ xs) same =
    go (eqb x.0 h) (opening_told h past parts xs same.1)
    ∙ ap (λ g. told_in (cond (eqb g h) (Some part) (find (λ (p : GroupOutcome). eqb p.group h) parts))) same.0.0
  where
    go : (b : Bool) → (said_of h xs).told ≡ told_by h parts
        → (said_or (cond b (Some x) (find (λ (y : ℕ × Said). eqb y.0 h) xs))).told ≡ told_in (cond b (Some part) (find (λ (p : GroupOutcome). eqb p.group h) parts))
    go true rest = same.0.1.told
    go false rest = rest

-- what a plain record says to have told of a group is what the real one told for it
pub same_told : (h n : ℕ) (past : List PlainRecord) (e : ClusterEvent) (o : EventOutcome) (pe : PlainEvent) (po : PlainOutcome)
    → IsToldAs (plain_event e) n po pe → OutcomeAs past e o po → (said_by h pe po).told ≡ told_of h o
same_told h n past e (outcome.Refused why) pe po as_itself so = ap (λ (s : Said). s.told) (quiet_by pe h po (passive why po so).quiet)
same_told h n past e (outcome.Stopped stop) pe po as_itself so =
    ap (λ x. (said_by h pe x).told) so ∙ ap (λ (s : Said). s.told) (quiet_by pe h (Stopped (names_of stop)) tt)
same_told h n past e (outcome.TurnedAway why) pe po as_itself so =
    ap (λ x. (said_by h pe x).told) so ∙ ap (λ (s : Said). s.told) (quiet_by pe h TurnedAway tt)
same_told h n past (event.Clean node) (outcome.Cleaned groups) pe po as_itself so =
    ap (λ x. (said_by h x po).told) (unstopped n (Clean node) pe po as_itself (ap is_stopped so.done))
same_told h n past (event.AddGroup node group) (outcome.Cleaned groups) pe po as_itself so = absurd so
same_told h n past (event.Ask node group call now) (outcome.Cleaned groups) pe po as_itself so = absurd so
same_told h n past (event.Deliver group number cuts now) (outcome.Cleaned groups) pe po as_itself so = absurd so
same_told h n past (event.ResetPeer node peer) (outcome.Cleaned groups) pe po as_itself so = absurd so
same_told h n past (event.Fuse node first_refused) (outcome.Cleaned groups) pe po as_itself so = absurd so
same_told h n past (event.Crash node choice) (outcome.Cleaned groups) pe po as_itself so = absurd so
same_told h n past (event.Reopen node workers) (outcome.Cleaned groups) pe po as_itself so = absurd so
same_told h n past (event.AddGroup node group) (outcome.Done parts) pe po as_itself so =
    ap (λ x. (said_by h x po).told) (unstopped n (AddGroup node group) pe po as_itself (ap is_stopped so.done)) ∙ done_told h group past parts po so
same_told h n past (event.Ask node group call now) (outcome.Done parts) pe po as_itself so =
    ap (λ x. (said_by h x po).told) (unstopped n (Ask node group call now) pe po as_itself (ap is_stopped so.done)) ∙ done_told h group past parts po so
same_told h n past (event.Deliver group number cuts now) (outcome.Done parts) pe po as_itself so =
    ap (λ x. (said_by h x po).told) (unstopped n (Deliver group number now) pe po as_itself (ap is_stopped so.done)) ∙ done_told h group past parts po so
same_told h n past (event.ResetPeer node peer) (outcome.Done parts) pe po as_itself so =
    ap (λ x. (said_by h x po).told) (unstopped n (ResetPeer node peer) pe po as_itself (ap is_stopped so.done)) ∙ sym (ap (told_by h) so.none)
same_told h n past (event.Clean node) (outcome.Done parts) pe po as_itself so = absurd so
same_told h n past (event.Fuse node first_refused) (outcome.Done parts) pe po as_itself so =
    ap (λ x. (said_by h x po).told) (unstopped n (Fuse node) pe po as_itself (ap is_stopped so.done)) ∙ sym (ap (told_by h) so.none)
same_told h n past (event.Crash node choice) (outcome.Done parts) pe po as_itself so =
    ap (λ x. (said_by h x po).told) (unstopped n (Crash node) pe po as_itself (ap is_stopped so.done)) ∙ sym (ap (told_by h) so.none)
same_told h n past (event.Reopen node workers) (outcome.Done parts) pe po as_itself so =
    ap (λ x. (said_by h x po).told) (unstopped n (Reopen node) pe po as_itself (ap is_stopped so.opened))
    ∙ ap (λ x. (said_by h (Reopen node) x).told) so.opened
    ∙ opening_told h past parts so.all so.same

-- ---- who asked

-- an event that is told as a call is that call
asked_itself : (e : ClusterEvent) (n h : ℕ) (call : GroupCall) (now : ℕ) → plain_event e ≡ Ask n h call now → e ≡ event.Ask n h call now
asked_itself (event.AddGroup node group) n h call now is = absurd (let no : AddGroup node group ≡ Ask n h call now = is in cc)
asked_itself (event.Ask node group own at) n h call now is = let same : Ask node group own at ≡ Ask n h call now = is in cc
asked_itself (event.Deliver group number cuts at) n h call now is = absurd (let no : Deliver group number at ≡ Ask n h call now = is in cc)
asked_itself (event.ResetPeer node peer) n h call now is = absurd (let no : ResetPeer node peer ≡ Ask n h call now = is in cc)
asked_itself (event.Clean node) n h call now is = absurd (let no : Clean node ≡ Ask n h call now = is in cc)
asked_itself (event.Fuse node first_refused) n h call now is = absurd (let no : Fuse node ≡ Ask n h call now = is in cc)
asked_itself (event.Crash node choice) n h call now is = absurd (let no : Crash node ≡ Ask n h call now = is in cc)
asked_itself (event.Reopen node workers) n h call now is = absurd (let no : Reopen node ≡ Ask n h call now = is in cc)

pub asked_so : (e : ClusterEvent) (m : ℕ) (o : PlainOutcome) (pe : PlainEvent) (n h : ℕ) (call : GroupCall) (now : ℕ)
    → IsToldAs (plain_event e) m o pe → pe ≡ Ask n h call now → e ≡ event.Ask n h call now
asked_so e m o pe n h call now (inl same) is = asked_itself e n h call now (sym same ∙ is)
asked_so e m o pe n h call now (inr halt) is = absurd (let no : Halt m ≡ Ask n h call now = sym halt.0 ∙ is in cc)

pub taken_too : (past : List PlainRecord) (e : ClusterEvent) (o : EventOutcome) (po : PlainOutcome) → OutcomeAs past e o po → is_taken_plain po ≡ true → is_taken o ≡ true
taken_too past e (outcome.Done parts) po so taken = refl
taken_too past e (outcome.Cleaned groups) po so taken = refl
taken_too past e (outcome.Refused why) po so taken = absurd (let no : false ≡ true = sym (passive why po so).untaken ∙ taken in cc)
taken_too past e (outcome.Stopped stop) po so taken = refl
taken_too past e (outcome.TurnedAway why) po so taken = absurd (let no : false ≡ true = sym (ap is_taken_plain so) ∙ taken in cc)

-- ---- places in histories

-- the plain record beside a real one
pub record HasPlain (plain : List PlainRecord) (r : Recorded) : Type 0 where
  pub past : List PlainRecord
  pub number : ℕ
  pub other : PlainRecord
  pub stands : slice_get plain number ≡ Some other
  pub same : IsRecordedAs past r other

plain_beside : (past : List PlainRecord) (rs : List Recorded) (ps : List PlainRecord) → AreRecordedAs past rs ps → (number : ℕ) (r : Recorded) → slice_get rs number ≡ Some r → HasPlain ps r
plain_beside past [] ps same number r is = absurd (let no : None ≡ Some r = is in cc)
plain_beside past (x ∷ xs) [] same number r is = absurd same
plain_beside past (x ∷ xs) (p ∷ ps) same zero r is =
    let one : x ≡ r = cc in
    record { past = past; number = 0; other = p; stands = refl; same = subst (λ (y : Recorded). IsRecordedAs past y p) one same.0 }
plain_beside past (x ∷ xs) (p ∷ ps) same (suc k) r is =
    let b = plain_beside (past ++ p ∷ []) xs ps same.1 k r is in
    record { past = b.past; number = suc b.number; other = b.other; stands = b.stands; same = b.same }

-- behind the crashes with which a plain history begins
behind_crashes : (downs : List ℕ) (ps : List PlainRecord) (r : Recorded) → HasPlain ps r → HasPlain (crashes_of downs ++ ps) r
behind_crashes [] ps r b = b
behind_crashes (n ∷ ns) ps r b =
    let more = behind_crashes ns ps r b in
    record { past = more.past; number = suc more.number; other = more.other; stands = more.stands; same = more.same }

pub plain_of : (downs : List ℕ) (history : List Recorded) (plain : List PlainRecord) → IsReport downs history plain → (number : ℕ) (r : Recorded) → slice_get history number ≡ Some r → HasPlain plain r
plain_of downs history plain report number r is =
    subst (λ ps. HasPlain ps r) (sym report.begins) (behind_crashes downs report.rest r (plain_beside (crashes_of downs) history report.rest report.same number r is))

-- the real record beside a plain one
pub record HasReal (history : List Recorded) (p : PlainRecord) : Type 0 where
  pub past : List PlainRecord
  pub number : ℕ
  pub other : Recorded
  pub stands : slice_get history number ≡ Some other
  pub same : IsRecordedAs past other p

real_beside : (past : List PlainRecord) (rs : List Recorded) (ps : List PlainRecord) → AreRecordedAs past rs ps → (number : ℕ) (p : PlainRecord) → slice_get ps number ≡ Some p → HasReal rs p
real_beside past [] [] same number p is = absurd (let no : None ≡ Some p = is in cc)
real_beside past [] (y ∷ ys) same number p is = absurd same
real_beside past (x ∷ xs) [] same number p is = absurd same
real_beside past (x ∷ xs) (y ∷ ys) same zero p is =
    let one : y ≡ p = cc in
    record { past = past; number = 0; other = x; stands = refl; same = subst (λ (q : PlainRecord). IsRecordedAs past x q) one same.0 }
real_beside past (x ∷ xs) (y ∷ ys) same (suc k) p is =
    let b = real_beside (past ++ y ∷ []) xs ys same.1 k p is in
    record { past = b.past; number = suc b.number; other = b.other; stands = b.stands; same = b.same }

-- a crash with which a plain history begins asks for nothing
past_crashes : (downs : List ℕ) (ps : List PlainRecord) (k : ℕ) (p : PlainRecord) (n h : ℕ) (call : GroupCall) (now : ℕ)
    → slice_get (crashes_of downs ++ ps) k ≡ Some p → p.event ≡ Ask n h call now → (j : ℕ) × (slice_get ps j ≡ Some p)
past_crashes [] ps k p n h call now is asks = (k, is)
past_crashes (m ∷ ms) ps zero p n h call now is asks =
    let first : PlainRecord = record { event = Crash m; node = m; outcome = Done silent } in
    let one : first ≡ p = same_some is in
    absurd (let no : Crash m ≡ Ask n h call now = ap (λ (q : PlainRecord). q.event) one ∙ asks in cc)
past_crashes (m ∷ ms) ps (suc k) p n h call now is asks = past_crashes ms ps k p n h call now is asks

pub real_of : (downs : List ℕ) (history : List Recorded) (plain : List PlainRecord) → IsReport downs history plain → (k : ℕ) (p : PlainRecord) (n h : ℕ) (call : GroupCall) (now : ℕ)
    → slice_get plain k ≡ Some p → p.event ≡ Ask n h call now → HasReal history p
real_of downs history plain report k p n h call now is asks =
    let at = past_crashes downs report.rest k p n h call now (subst (λ ps. slice_get ps k ≡ Some p) report.begins is) asks in
    real_beside (crashes_of downs) history report.rest report.same at.0 p at.1
