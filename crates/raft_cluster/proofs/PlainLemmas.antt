-- What plain records say of a group, and what set it up.
use Rattle.std.proofs.Common.{◌≡◌, ◌⊎◌, inl, inr, ℕ, eqb, Bool, true, false, not, List, [], ◌∷◌, ◌++◌, Option, Some, None, IfSome, refl, sym, ap, ◌∙◌, subst, append_assoc, append-nil}
use Rattle.std.specs.Option.{option_or}
use Rattle.raft_cluster_laws.proofs.Saying.{or_none}
use Rattle.raft_group_step.specs.Values.{Membership, membership_eq}
use Rattle.raft_group_step.specs.GroupEvent.{GroupCall}
use Rattle.raft_group_step.specs.declared.group_call.GroupCall.TheVariants.{Initialize, Elect, Propose, ChangeMembership, Heartbeat, Lost, TriggerSnapshot, TriggerPurge}
use Rattle.raft_laws.specs.GroupRun.{is_same_setup, setup_in_call}
use Rattle.raft_laws.proofs.SameMemberships.{same_membership as equal_memberships}
use Rattle.raft_headline.specs.ClusterEvent.{ClusterEvent as PlainEvent, ClusterOutcome as PlainOutcome, Recorded as PlainRecord}
use Rattle.raft_headline.specs.ClusterEvent.{AddGroup, Ask, Deliver, ResetPeer, Clean, Fuse, Crash, Reopen, Halt}
use Rattle.raft_headline.specs.ClusterEvent.{Done, Opened, Refused, Stopped, Fused, PassedOver, TurnedAway, is_stopped, silent}
use Rattle.raft_headline.specs.Told.{said_at_opening, said_by, said_if}
use Rattle.raft_headline.specs.Told.{is_taken as is_taken_plain}
use Rattle.raft_cluster_laws.specs.Along.{sent_by, setup_asked, setup_by, setup_if}
use Rattle.raft_cluster_events.specs.declared.event.ClusterEvent.{ClusterEvent}
use Rattle.raft_cluster_events.specs.declared.event.ClusterEvent.TheVariants as event
use Rattle.raft_cluster_events.specs.declared.outcome.EventOutcome.{EventOutcome}
use Rattle.raft_cluster_events.specs.declared.outcome.EventOutcome.TheVariants as outcome
use Rattle.raft_cluster_events.specs.declared.outcome.NodeRefusal.{NodeRefusal}
use Rattle.raft_cluster_events.specs.declared.outcome.NodeRefusal.TheVariants as refusal
use Rattle.raft_cluster_events.specs.declared.outcome.Recorded.{Recorded}
use Rattle.raft_node_laws.specs.Reporting.{AreRecordedAs, IsRecordedAs, IsReport, OutcomeAs, crashes_of, plain_event}
use Rattle.raft_node_laws.specs.Saying.{outcome_of_refusal}
use Rattle.raft_cluster.specs.Facts.{differs, differs_from, is_taken, membership_in, set_up_by, set_up_by_event, set_up_if}

-- ---- outcomes that say nothing

abbrev pub IsQuiet : PlainOutcome → Type 0
IsQuiet (Done said) = ⊥
IsQuiet (Opened parts) = ⊥
IsQuiet (Refused why) = Unit {0}
IsQuiet (Stopped unknown) = Unit {0}
IsQuiet Fused = Unit {0}
IsQuiet PassedOver = Unit {0}
IsQuiet TurnedAway = Unit {0}

quiet_if : (b : Bool) (o : PlainOutcome) → IsQuiet o → said_if b o ≡ silent
quiet_if true (Done said) q = absurd q
quiet_if true (Opened parts) q = absurd q
quiet_if true (Refused why) q = refl
quiet_if true (Stopped unknown) q = refl
quiet_if true Fused q = refl
quiet_if true PassedOver q = refl
quiet_if true TurnedAway q = refl
quiet_if false o q = refl

quiet_opening : (h : ℕ) (o : PlainOutcome) → IsQuiet o → said_at_opening h o ≡ silent
quiet_opening h (Done said) q = absurd q
quiet_opening h (Opened parts) q = absurd q
quiet_opening h (Refused why) q = refl
quiet_opening h (Stopped unknown) q = refl
quiet_opening h Fused q = refl
quiet_opening h PassedOver q = refl
quiet_opening h TurnedAway q = refl

pub quiet_by : (e : PlainEvent) (h : ℕ) (o : PlainOutcome) → IsQuiet o → said_by h e o ≡ silent
quiet_by (AddGroup n g) h o q = quiet_if (eqb g h) o q
quiet_by (Ask n g call now) h o q = quiet_if (eqb g h) o q
quiet_by (Deliver g number now) h o q = quiet_if (eqb g h) o q
quiet_by (ResetPeer n peer) h o q = refl
quiet_by (Clean n) h o q = refl
quiet_by (Fuse n) h o q = refl
quiet_by (Crash n) h o q = refl
quiet_by (Reopen n) h o q = quiet_opening h o q
quiet_by (Halt n) h o q = refl

-- what refuses an event neither takes it nor says anything
pub record IsPassive (o : PlainOutcome) : Type 0 where
  pub untaken : is_taken_plain o ≡ false
  pub quiet : IsQuiet o

passive_if : (why : NodeRefusal) → IfSome (outcome_of_refusal why) IsPassive
passive_if (refusal.NotLeader leader) = record { untaken = refl; quiet = tt }
passive_if refusal.UnknownGroup = record { untaken = refl; quiet = tt }
passive_if refusal.GroupExists = record { untaken = refl; quiet = tt }
passive_if refusal.NotAllowed = record { untaken = refl; quiet = tt }
passive_if refusal.NotVoter = record { untaken = refl; quiet = tt }
passive_if (refusal.Membership why) = record { untaken = refl; quiet = tt }
passive_if refusal.VoterChange = record { untaken = refl; quiet = tt }
passive_if refusal.InProgress = record { untaken = refl; quiet = tt }
passive_if refusal.CommandTooLong = record { untaken = refl; quiet = tt }
passive_if refusal.NumberAtEnd = record { untaken = refl; quiet = tt }
passive_if refusal.Failed = record { untaken = refl; quiet = tt }
passive_if refusal.WrongParty = record { untaken = refl; quiet = tt }
passive_if refusal.TooMuchForBatch = tt
passive_if refusal.BreaksCondition = record { untaken = refl; quiet = tt }
passive_if refusal.Frame = tt

pub passive : (why : NodeRefusal) (o : PlainOutcome) → outcome_of_refusal why ≡ Some o → IsPassive o
passive why o is = subst (λ p. IfSome p IsPassive) is (passive_if why)

-- ---- one record more

pub sent_more : (h : ℕ) (rs : List PlainRecord) (r : PlainRecord) → sent_by h (rs ++ r ∷ []) ≡ sent_by h rs ++ (said_by h r.event r.outcome).sent
sent_more h [] r = append-nil (said_by h r.event r.outcome).sent
sent_more h (x ∷ xs) r =
    let first = (said_by h x.event x.outcome).sent in
    ap (λ l. first ++ l) (sent_more h xs r) ∙ sym (append_assoc first (sent_by h xs) (said_by h r.event r.outcome).sent)

recorded_more : (before : List PlainRecord) (rs : List Recorded) (ps : List PlainRecord) (r : Recorded) (p : PlainRecord) → AreRecordedAs before rs ps → IsRecordedAs (before ++ ps) r p → AreRecordedAs before (rs ++ r ∷ []) (ps ++ p ∷ [])
recorded_more before [] [] r p same one = (subst (λ b. IsRecordedAs b r p) (append-nil before) one, tt)
recorded_more before [] (q ∷ qs) r p same one = absurd same
recorded_more before (x ∷ xs) [] r p same one = absurd same
recorded_more before (x ∷ xs) (q ∷ qs) r p same one =
    (same.0, recorded_more (before ++ q ∷ []) xs qs r p same.1 (subst (λ b. IsRecordedAs b r p) (sym (append_assoc before (q ∷ []) qs)) one))

pub report_more : (downs : List ℕ) (history : List Recorded) (plain : List PlainRecord) (r : Recorded) (p : PlainRecord) → IsReport downs history plain → IsRecordedAs plain r p → IsReport downs (history ++ r ∷ []) (plain ++ p ∷ [])
report_more downs history plain r p h one = record {
  rest = h.rest ++ p ∷ [];
  begins = ap (λ l. l ++ p ∷ []) h.begins ∙ append_assoc (crashes_of downs) h.rest (p ∷ []);
  same = recorded_more (crashes_of downs) history h.rest r p h.same (subst (λ b. IsRecordedAs b r p) h.begins one);
}

-- ---- crashes at the beginning

pub crashes_send_nothing : (h : ℕ) (downs : List ℕ) → sent_by h (crashes_of downs) ≡ []
crashes_send_nothing h [] = refl
crashes_send_nothing h (n ∷ ns) = crashes_send_nothing h ns

-- ---- set-ups

pub same_membership : (call : GroupCall) → membership_in call ≡ setup_in_call call
same_membership (Initialize m) = refl
same_membership Elect = refl
same_membership (Propose command token) = refl
same_membership (ChangeMembership change token) = refl
same_membership Heartbeat = refl
same_membership (Lost peer) = refl
same_membership TriggerSnapshot = refl
same_membership (TriggerPurge place) = refl

same_if : (b taken : Bool) (call : GroupCall) → set_up_if b taken (membership_in call) ≡ setup_if b taken call
same_if true true call = same_membership call
same_if true false call = refl
same_if false taken call = refl

same_taken : (before : List PlainRecord) (n g : ℕ) (call : GroupCall) (now : ℕ) (o : EventOutcome) (p : PlainOutcome) → OutcomeAs before (event.Ask n g call now) o p → is_taken o ≡ is_taken_plain p
same_taken before n g call now (outcome.Done parts) p h = sym (ap is_taken_plain h.done)
same_taken before n g call now (outcome.Cleaned groups) p h = absurd h
same_taken before n g call now (outcome.Refused why) p h = sym (passive why p h).untaken
same_taken before n g call now (outcome.Stopped stop) p h = sym (ap is_taken_plain h)
same_taken before n g call now (outcome.TurnedAway why) p h = sym (ap is_taken_plain h)

same_set_up : (h : ℕ) (before : List PlainRecord) (e : ClusterEvent) (o : EventOutcome) (p : PlainOutcome) → OutcomeAs before e o p → set_up_by_event h e (is_taken o) ≡ setup_asked h (plain_event e) p
same_set_up h before (event.AddGroup n g) o p told = refl
same_set_up h before (event.Ask n g call now) o p told =
    ap (λ taken. set_up_if (eqb g h) taken (membership_in call)) (same_taken before n g call now o p told)
    ∙ same_if (eqb g h) (is_taken_plain p) call
same_set_up h before (event.Deliver g number cuts now) o p told = refl
same_set_up h before (event.ResetPeer n peer) o p told = refl
same_set_up h before (event.Clean n) o p told = refl
same_set_up h before (event.Fuse n first_refused) o p told = refl
same_set_up h before (event.Crash n choice) o p told = refl
same_set_up h before (event.Reopen n workers) o p told = refl

-- ---- the first set-up

-- the first that was taken
abbrev pub first_set_up : ℕ → List Recorded → Option Membership
first_set_up h [] = None
first_set_up h (r ∷ rs) = option_or (set_up_by h r) (first_set_up h rs)

differs_first : (h : ℕ) (m : Membership) (rs : List Recorded) → differs rs h m ≡ differs_from m (first_set_up h rs) false
differs_first h m [] = refl
differs_first h m (r ∷ rs) = go (set_up_by h r) (differs_first h m rs)
  where
    go : (s : Option Membership) → differs rs h m ≡ differs_from m (first_set_up h rs) false → differs_from m s (differs rs h m) ≡ differs_from m (option_or s (first_set_up h rs)) false
    go None more = more
    go (Some first) more = refl

or_more : (a b c : Option Membership) → option_or a (option_or b c) ≡ option_or (option_or a b) c
or_more None b c = refl
or_more (Some x) b c = refl

pub first_more : (h : ℕ) (rs : List Recorded) (r : Recorded) → first_set_up h (rs ++ r ∷ []) ≡ option_or (first_set_up h rs) (set_up_by h r)
first_more h [] r = or_none (set_up_by h r)
first_more h (x ∷ xs) r = ap (option_or (set_up_by h x)) (first_more h xs r) ∙ or_more (set_up_by h x) (first_set_up h xs) (set_up_by h r)

setup_more : (h : ℕ) (ps : List PlainRecord) (p : PlainRecord) → setup_by h (ps ++ p ∷ []) ≡ option_or (setup_by h ps) (setup_asked h p.event p.outcome)
setup_more h [] p = or_none (setup_asked h p.event p.outcome)
setup_more h (x ∷ xs) p =
    ap (option_or (setup_asked h x.event x.outcome)) (setup_more h xs p)
    ∙ or_more (setup_asked h x.event x.outcome) (setup_by h xs) (setup_asked h p.event p.outcome)

-- the plain history's first set-up is that of the records, unless it has none yet: one that stopped before it was judged is none
abbrev pub SetUpsAgree : List Recorded → List PlainRecord → Type 0
SetUpsAgree history plain = (h : ℕ) → (setup_by h plain ≡ None) ⊎ (setup_by h plain ≡ first_set_up h history)

-- a set-up that wasn't turned away names the membership of the first one
abbrev pub IsFreeSetUp : List Recorded → Recorded → Type 0
IsFreeSetUp history r = (h : ℕ) (m : Membership) → set_up_by h r ≡ Some m → differs history h m ≡ false

pub same_as_first : (first m : Membership) → not (membership_eq first m) ≡ false → first ≡ m
same_as_first first m e = equal_memberships first m (go (membership_eq first m) e)
  where
    go : (b : Bool) → not b ≡ false → b ≡ true
    go true is = refl
    go false is = absurd (cc)

agree_more : (p f s q : Option Membership) → (p ≡ None) ⊎ (p ≡ f) → (q ≡ None) ⊎ (q ≡ s) → ((m : Membership) → s ≡ Some m → differs_from m f false ≡ false) → (option_or p q ≡ None) ⊎ (option_or p q ≡ option_or f s)
agree_more None f s None so how free = inl refl
agree_more None f s (Some y) so (inl e) free = absurd (cc)
agree_more None None s (Some y) so (inr e) free = inr e
agree_more None (Some f) None (Some y) so (inr e) free = absurd (cc)
agree_more None (Some f) (Some m) (Some y) so (inr e) free = inr (e ∙ ap Some (sym (same_as_first f m (free m refl))))
agree_more (Some x) f s q (inl e) how free = absurd (cc)
agree_more (Some x) None s q (inr e) how free = absurd (cc)
agree_more (Some x) (Some f) s q (inr e) how free = inr e

told_set_up : (h : ℕ) (before : List PlainRecord) (r : Recorded) (p : PlainRecord) → IsRecordedAs before r p → (setup_asked h p.event p.outcome ≡ None) ⊎ (setup_asked h p.event p.outcome ≡ set_up_by h r)
told_set_up h before r p one = go one.event
  where
    go : (p.event ≡ plain_event r.event) ⊎ ((p.event ≡ Halt p.node) × (is_stopped p.outcome ≡ true)) → (setup_asked h p.event p.outcome ≡ None) ⊎ (setup_asked h p.event p.outcome ≡ set_up_by h r)
    go (inl is) = inr (ap (λ e. setup_asked h e p.outcome) is ∙ sym (same_set_up h before r.event r.outcome p.outcome one.outcome))
    go (inr halts) = inl (ap (λ e. setup_asked h e p.outcome) halts.0)

pub agree_on : (history : List Recorded) (plain : List PlainRecord) (r : Recorded) (p : PlainRecord) → SetUpsAgree history plain → IsRecordedAs plain r p → IsFreeSetUp history r → SetUpsAgree (history ++ r ∷ []) (plain ++ p ∷ [])
agree_on history plain r p so one free h =
    let q = setup_asked h p.event p.outcome in
    let both = agree_more (setup_by h plain) (first_set_up h history) (set_up_by h r) q (so h) (told_set_up h plain r p one) (λ m is. sym (differs_first h m history) ∙ free h m is) in
    let P : Option Membership → Option Membership → Type 0 = λ a b. (a ≡ None) ⊎ (a ≡ b) in
    subst (λ a. P a (first_set_up h (history ++ r ∷ []))) (sym (setup_more h plain p)) (subst (P (option_or (setup_by h plain) q)) (sym (first_more h history r)) both)

pub agree_at_first : (downs : List ℕ) → SetUpsAgree [] (crashes_of downs)
agree_at_first downs h = inl (go downs)
  where
    go : (ns : List ℕ) → setup_by h (crashes_of ns) ≡ None
    go [] = refl
    go (n ∷ ns) = go ns

-- the plain history has no other set-up than one that is free
pub free_in_plain : (history : List Recorded) (plain : List PlainRecord) → SetUpsAgree history plain → (h : ℕ) (m : Membership) → differs history h m ≡ false → is_same_setup (setup_by h plain) (Some m) ≡ true
free_in_plain history plain so h m free = go (setup_by h plain) (first_set_up h history) (so h) (sym (differs_first h m history) ∙ free)
  where
    truth : (b : Bool) → not b ≡ false → b ≡ true
    truth true is = refl
    truth false is = absurd (cc)

    go : (p f : Option Membership) → (p ≡ None) ⊎ (p ≡ f) → differs_from m f false ≡ false → is_same_setup p (Some m) ≡ true
    go None f how e = refl
    go (Some x) f (inl is) e = absurd (cc)
    go (Some x) None (inr is) e = absurd (cc)
    go (Some x) (Some f) (inr is) e = ap (λ o. is_same_setup o (Some m)) is ∙ truth (membership_eq f m) e
