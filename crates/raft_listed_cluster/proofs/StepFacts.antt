-- A step of a cluster keeps the list of each group, which only grows.
use Rattle.std.proofs.Common.{◌≡◌, ◌⊎◌, inl, inr, ℕ, List, [], ◌∷◌, ◌++◌, Option, Some, None, drop, length, sym, ap, subst, ⊎_elim}
use Rattle.std.proofs.lemmas.Bool.Decides.{eqb_tells}
use Rattle.raft_group_step.specs.Values.{Membership}
use Rattle.raft_laws.specs.BallotLists.{AgreeBelow}
use Rattle.raft_machines.specs.Machine.{MachineRules}
use Rattle.raft_cluster_conditions.specs.declared.reasons.ClusterRefusal.{ClusterRefusal}
use Rattle.raft_sent_frames.specs.Frames.{first_accepted}
use Rattle.raft_list_facts.specs.declared.acceptance.Acceptance.{Acceptance}
use Rattle.raft_list_facts.specs.declared.leading.Leading.{Leading}
use Rattle.raft_cluster_events.specs.declared.event.ClusterEvent.{ClusterEvent}
use Rattle.raft_cluster_events.specs.declared.outcome.EventOutcome.{EventOutcome}
use Rattle.raft_cluster_events.specs.declared.outcome.EventOutcome.TheVariants as outcome
use Rattle.raft_cluster_events.specs.declared.outcome.NodeRefusal.{NodeRefusal}
use Rattle.raft_cluster_events.specs.declared.outcome.Recorded.{Recorded}
use Rattle.raft_cluster_events.specs.Node.{NodeActs}
use Rattle.raft_cluster_events.specs.States.{NodeStates}
use Rattle.raft_node_laws.specs.Law.{KeepsLaw}
use Rattle.raft_cluster_lists.specs.declared.brought.Brought.{Brought}
use Rattle.raft_cluster_lists.specs.declared.kept.KeptGroup.{KeptGroup}
use Rattle.raft_cluster_lists.specs.Brought.{Brings}
use Rattle.raft_cluster_lists.specs.Groups.{BringsTo, GoesOnByCall, GoesOnByOpening, IsHeard, IsReadyFor, IsSameGroup, KeepsOn, kept_in}
use Rattle.raft_cluster_lists.specs.Hearing.{HearsOf, IsKeptUntilDone, IsOpening, group_of, opening_report, report_of, stopped_behind}
use Rattle.raft_cluster_lists.specs.Keeping.{list_in}
use Rattle.raft_cluster_lists.specs.Lists.{stopped_at}
use Rattle.raft_cluster_lists.proofs.EventsOn.{opens}
use Rattle.raft_cluster_lists.proofs.PlaceLemmas.{keeps_itself}
use Rattle.raft_cluster.specs.Facts.{Sent}
use Rattle.raft_cluster.proofs.JoinLemmas.{IsOneMore, IsToldSoFar}
use Rattle.raft_cluster.proofs.PlainLemmas.{first_set_up}
use Rattle.raft_listed_cluster.specs.Keeping.{noted_with, notes_of}
use Rattle.raft_listed_cluster.proofs.EventFacts.{IsKeptOn, KeptBefore, away_on, call_on, none_on, opening_on, other_on}
use Rattle.raft_listed_cluster.proofs.HappeningFacts.{IsAway, IsNodeOf}
use Rattle.raft_listed_cluster.proofs.ListFacts.{same_kept}
use Rattle.raft_listed_cluster.proofs.SetUpFacts.{asked_still}

-- ---- cases

is_of : (g : Option ℕ) (h : ℕ) → (g ≡ Some h) ⊎ (g ≡ Some h → ⊥)
is_of None h = inr (λ is. absurd (let no : None ≡ Some h = is in cc))
is_of (Some g) h =
    ⊎_elim
    (λ same. inl (ap Some same.1))
    (λ other. inr (λ is. other.1 (let same : g ≡ h = cc in same)))
    (eqb_tells g h)

-- ---- what was turned away is heard as nothing

call_away : (id : ℕ) (leads : ℕ → Option Leading → Type 0) (h : ℕ) (o : EventOutcome) (why : ClusterRefusal) → o ≡ outcome.TurnedAway why → (accepted : Option Acceptance) (brought : Brought) (old new : KeptGroup)
    → GoesOnByCall id leads h o accepted brought old new → IsSameGroup old new
call_away id leads h o why is accepted brought old new goes =
    let P : EventOutcome → Type 0 = λ q. HearsOf (report_of id goes.leading accepted goes.heard.set_up brought.written q) old.list.notes new.list.notes in
    let Q : EventOutcome → Type 0 = λ q. (n : ℕ) → stopped_at new.stopped.items n ≡ stopped_behind id brought.written q (stopped_at old.stopped.items) n in
    record { notes = subst P is goes.heard.list; stopped = subst Q is goes.heard.stopped }

opening_away : (id : ℕ) (leads : ℕ → Option Leading → Type 0) (h : ℕ) (o : EventOutcome) (why : ClusterRefusal) → o ≡ outcome.TurnedAway why → (old new : KeptGroup)
    → GoesOnByOpening id leads h o old new → IsSameGroup old new
opening_away id leads h o why is old new goes =
    let P : EventOutcome → Type 0 = λ q. HearsOf (opening_report id goes.leading (stopped_at old.stopped.items id) q) old.list.notes new.list.notes in
    let Q : EventOutcome → Type 0 = λ q. IsKeptUntilDone q (stopped_at old.stopped.items id) (stopped_at new.stopped.items id) in
    record {
      notes = subst P is goes.heard.list;
      stopped = λ n.
          ⊎_elim
          (λ same. subst (λ i. stopped_at new.stopped.items i ≡ stopped_at old.stopped.items i) (sym same.1) (subst Q is goes.heard.own))
          (λ other. goes.heard.others n other.1)
          (eqb_tells n id);
    }

-- what is kept goes on otherwise
otherwise : (one other : KeptGroup → KeptGroup → Type 0) → ((k next : KeptGroup) → one k next → other k next) → (old new : Option KeptGroup) → KeepsOn one old new → KeepsOn other old new
otherwise one other more None new goes = goes
otherwise one other more (Some k) new goes = (goes.0, goes.1, more k goes.0 goes.2)

pub unheard : (olds news : List KeptGroup) → news ≡ olds → (h : ℕ) → KeepsOn IsSameGroup (kept_in olds h) (kept_in news h)
unheard olds news same h = subst (λ l. KeepsOn IsSameGroup (kept_in olds h) (kept_in l h)) (sym same) (keeps_itself (kept_in olds h))

pub heard_away : (id : ℕ) (leads : ℕ → Option Leading → Type 0) (e : ClusterEvent) (o : EventOutcome) (why : ClusterRefusal) → o ≡ outcome.TurnedAway why → (accepted : Option Acceptance) (brought : Brought) (olds news : List KeptGroup)
    → IsHeard id leads e o accepted brought olds news → (h : ℕ) → KeepsOn IsSameGroup (kept_in olds h) (kept_in news h)
heard_away id leads e o why is accepted brought olds news heard h = go (is_of (group_of e) h) (opens e)
  where
    go : (group_of e ≡ Some h) ⊎ (group_of e ≡ Some h → ⊥) → IsOpening e ⊎ (IsOpening e → ⊥) → KeepsOn IsSameGroup (kept_in olds h) (kept_in news h)
    go (inl own) either =
        otherwise (GoesOnByCall id leads h o accepted brought) IsSameGroup (call_away id leads h o why is accepted brought) (kept_in olds h) (kept_in news h) (heard.own h own)
    go (inr other) (inl opening) =
        otherwise (GoesOnByOpening id leads h o) IsSameGroup (opening_away id leads h o why is) (kept_in olds h) (kept_in news h) (heard.each opening h)
    go (inr other) (inr shut) = subst (KeepsOn IsSameGroup (kept_in olds h)) (sym (heard.others h other shut)) (keeps_itself (kept_in olds h))

-- ---- one event more

module _ {N : Type 0} (rules : MachineRules) (acts : NodeActs N) (states : NodeStates N) (law : KeepsLaw rules acts states) (ids downs : List ℕ)
    (nodes : List N) (sent : Sent) (history : List Recorded) (t : IsToldSoFar rules acts states ids downs nodes sent history)
    (e : ClusterEvent) (o : EventOutcome) (nodes' : List N) (later : Sent)
    (more : IsOneMore rules acts states ids downs nodes sent history t (record { event = e; outcome = o }) nodes' later) where
  abbrev real : Recorded
  real = record { event = e; outcome = o }

  abbrev before : ℕ → Option Membership
  before h = first_set_up h history

  abbrev behind : ℕ → Option Membership
  behind h = first_set_up h (history ++ real ∷ [])

  abbrev Keeps : ℕ → Option KeptGroup → Type 0
  Keeps h kept = KeptBefore rules acts states law ids downs nodes sent history t e o nodes' later more h (notes_of kept (before h))

  abbrev pub IsOn : ℕ → Option KeptGroup → Option KeptGroup → Type 0
  IsOn h kept next = IsKeptOn rules acts states law ids downs nodes sent history t e o nodes' later more h (notes_of kept (before h)) (notes_of next (behind h))

  pub away_each : IsAway acts nodes sent e o nodes' later → (h : ℕ) (old new : Option KeptGroup) → KeepsOn IsSameGroup old new → Keeps h old → IsOn h old new
  away_each away h None new same keeps =
      subst (IsOn h None) (sym same) (away_on rules acts states law ids downs nodes sent history t e o nodes' later more h away None keeps)
  away_each away h (Some k) new same keeps =
      let next : KeptGroup = same.0 in
      let on = away_on rules acts states law ids downs nodes sent history t e o nodes' later more h away (notes_of (Some k) (before h)) keeps in
      let lists : list_in (notes_of (Some next) (behind h)) ≡ list_in (notes_of (Some k) (before h)) = ap (λ a. a.list) same.2.notes.accounts in
      subst (IsOn h (Some k)) (sym same.1)
      (record {
        keeps = same_kept rules ids h (more.next.told.stand.candidates h) more.next.told.plain (noted_with k (before h)) (noted_with next (behind h)) same.2.notes same.2.stopped (asked_still h history real) on.keeps;
        grows = subst (AgreeBelow (length (list_in (notes_of (Some k) (before h)))) (list_in (notes_of (Some k) (before h)))) (sym lists) on.grows;
        latest = λ vote other. ap (λ a. a.latest vote) same.2.notes.accounts;
      })

  module _ (there : IsNodeOf acts nodes sent e o nodes' later more.one.node) (taken : (why : NodeRefusal) → o ≡ outcome.Refused why → IsOpening e → ⊥) where
    call_each : (leading : Option Leading) (brought : Brought) (accepted : Option Acceptance) (h : ℕ) (of_group : group_of e ≡ Some h) → acts.leads there.before h leading
        → accepted ≡ first_accepted (drop (length (sent h)) (later h)) → (k : KeptGroup) → Brings k.list.notes leading e brought
        → (new : Option KeptGroup) → KeepsOn (GoesOnByCall more.one.node (acts.leads there.behind) h o accepted brought) (Some k) new → Keeps h (Some k) → IsOn h (Some k) new
    call_each leading brought accepted h of_group tells accepts k brings new goes keeps =
        subst (IsOn h (Some k)) (sym goes.1)
        (call_on rules acts states law ids downs nodes sent history t e o nodes' later more h of_group k goes.0 there leading tells brought brings accepted accepts goes.2 keeps)

    opening_each : (opening : IsOpening e) (h : ℕ) → (group_of e ≡ Some h → ⊥) → (old new : Option KeptGroup)
        → KeepsOn (GoesOnByOpening more.one.node (acts.leads there.behind) h o) old new → Keeps h old → IsOn h old new
    opening_each opening h other None new goes keeps =
        subst (IsOn h None) (sym goes) (none_on rules acts states law ids downs nodes sent history t e o nodes' later more h other taken keeps)
    opening_each opening h other (Some k) new goes keeps =
        subst (IsOn h (Some k)) (sym goes.1)
        (opening_on rules acts states law ids downs nodes sent history t e o nodes' later more h opening (λ why is. taken why is opening) k goes.0 there goes.2 keeps)

    other_each : (IsOpening e → ⊥) → (h : ℕ) → (group_of e ≡ Some h → ⊥) → (old new : Option KeptGroup) → new ≡ old → Keeps h old → IsOn h old new
    other_each shut h other None new same keeps =
        subst (IsOn h None) (sym same) (none_on rules acts states law ids downs nodes sent history t e o nodes' later more h other taken keeps)
    other_each shut h other (Some k) new same keeps =
        subst (IsOn h (Some k)) (sym same) (other_on rules acts states law ids downs nodes sent history t e o nodes' later more h other shut k keeps)

    pub heard_each : (olds news : List KeptGroup) (leading : Option Leading) → ((h : ℕ) → group_of e ≡ Some h → acts.leads there.before h leading)
        → (brought : Brought) → IsReadyFor e 1 olds → BringsTo olds leading e brought
        → (accepted : Option Acceptance) → ((h : ℕ) → group_of e ≡ Some h → accepted ≡ first_accepted (drop (length (sent h)) (later h)))
        → IsHeard more.one.node (acts.leads there.behind) e o accepted brought olds news
        → (h : ℕ) → Keeps h (kept_in olds h) → IsOn h (kept_in olds h) (kept_in news h)
    heard_each olds news leading tells brought ready brings accepted accepts heard h keeps = go (is_of (group_of e) h) (opens e)
      where
        go : (group_of e ≡ Some h) ⊎ (group_of e ≡ Some h → ⊥) → IsOpening e ⊎ (IsOpening e → ⊥) → IsOn h (kept_in olds h) (kept_in news h)
        go (inl own) either =
            let (k, is, room) = ready.own h own in
            let G : Option KeptGroup → Type 0 = λ w. KeepsOn (GoesOnByCall more.one.node (acts.leads there.behind) h o accepted brought) w (kept_in news h) in
            subst (λ w. IsOn h w (kept_in news h)) (sym is)
            (call_each leading brought accepted h own (tells h own) (accepts h own) k (brings h k own is) (kept_in news h) (subst G is (heard.own h own)) (subst (Keeps h) is keeps))
        go (inr other) (inl opening) = opening_each opening h other (kept_in olds h) (kept_in news h) (heard.each opening h) keeps
        go (inr other) (inr shut) = other_each shut h other (kept_in olds h) (kept_in news h) (heard.others h other shut) keeps
