-- A whole round, heard record by record, keeps the lists.
use Rattle.std.proofs.Common.{◌≡◌, ℕ, suc, eqb, Bool, true, false, List, [], ◌∷◌, ◌++◌, Option, Some, None, length, refl, sym, ap, ◌∙◌, subst, append_assoc, append-nil}
use Rattle.std.specs.List.{AllByRecursion}
use Rattle.std.proofs.lemmas.Bool.{eqb-false, ne_eqb}
use Rattle.raft_laws.proofs.BallotAgreement.{same_some}
use Rattle.raft_machines.specs.Machine.{MachineRules}
use Rattle.raft_cluster_events.specs.declared.event.ClusterEvent.{ClusterEvent}
use Rattle.raft_cluster_events.specs.declared.event.ClusterEvent.TheVariants as event
use Rattle.raft_cluster_events.specs.declared.outcome.EventOutcome.{EventOutcome}
use Rattle.raft_cluster_events.specs.declared.outcome.Recorded.{Recorded}
use Rattle.raft_cluster_events.specs.Node.{NodeActs}
use Rattle.raft_cluster_events.specs.States.{NodeStates}
use Rattle.raft_node_laws.specs.Law.{KeepsLaw}
use Rattle.raft_cluster_lists.specs.declared.brought.Brought.{Brought}
use Rattle.raft_cluster_lists.specs.declared.kept.KeptGroup.{KeptGroup}
use Rattle.raft_cluster_lists.proofs.ReadyLemmas.{keep_less}
use Rattle.raft_cluster.specs.Cluster.{RunsTo, events_of}
use Rattle.raft_cluster.specs.Facts.{Sent, node_in, node_of}
use Rattle.raft_cluster.specs.Round.{is_crash, is_round}
use Rattle.raft_cluster.proofs.RoundLemmas.{IsFirst, first_of_round}
use Rattle.raft_cluster.proofs.TurnLemmas.{Grows, grows, same_frame}
use Rattle.raft_listed_cluster.specs.Hearing.{IsHeardBy, IsHeardThen, Tells}
use Rattle.raft_listed_cluster.specs.Keeping.{KeepsLists}
use Rattle.raft_listed_cluster.specs.Listed.{OnlyGrow, lists_of}
use Rattle.raft_listed_cluster.specs.Round.{HearsNext, HearsRound}
use Rattle.raft_listed_cluster.proofs.ListFacts.{grow_on, same_grow}
use Rattle.raft_listed_cluster.proofs.RoundFacts.{IsElsewhere, all_elsewhere, all_grow, grows_on, others_leave}
use Rattle.raft_listed_cluster.proofs.RoundKeeping.{IsPending, still_pending, then_grow, then_keeps}

module _ {N : Type 0} (rules : MachineRules) (acts : NodeActs N) (states : NodeStates N) (law : KeepsLaw rules acts states) where
  -- ---- what is still to be heard

  abbrev pub IsPendingFor : Sent → List N → List KeptGroup → ClusterEvent → Brought → ℕ → Type 0
  IsPendingFor first nodes groups e brought n =
      (id : ℕ) × (node_of first e ≡ Some id) × IsPending rules acts states law nodes groups id e brought n

  abbrev pub NextPending : Sent → List N → List KeptGroup → ℕ → Bool → Recorded → List Brought → (List Brought → Type 0) → Type 0
  NextPending first nodes groups n true r bs rest = rest bs
  NextPending first nodes groups n false r [] rest = ⊥
  NextPending first nodes groups n false r (b ∷ bs) rest = IsPendingFor first nodes groups r.event b n × rest bs

  abbrev pub ArePending : Sent → List N → List KeptGroup → ℕ → List Recorded → List Brought → Type 0
  ArePending first nodes groups n [] bs = Unit {0}
  ArePending first nodes groups n (r ∷ rs) bs = NextPending first nodes groups n (is_crash r.event) r bs (λ left. ArePending first nodes groups n rs left)

  -- a crash is heard as nothing
  nothing_brought : Brought
  nothing_brought = record { set_up = None; written = None }

  crash_pending : (nodes : List N) (groups : List KeptGroup) (id n : ℕ) (e : ClusterEvent) → is_crash e ≡ true → IsPending rules acts states law nodes groups id e nothing_brought n
  crash_pending nodes groups id n (event.AddGroup m g) is = absurd (cc)
  crash_pending nodes groups id n (event.Ask m g call now) is = absurd (cc)
  crash_pending nodes groups id n (event.Deliver g number cuts now) is = absurd (cc)
  crash_pending nodes groups id n (event.ResetPeer m peer) is = absurd (cc)
  crash_pending nodes groups id n (event.Clean m) is = absurd (cc)
  crash_pending nodes groups id n (event.Fuse m first_refused) is = absurd (cc)
  crash_pending nodes groups id n (event.Reopen m workers) is = absurd (cc)
  crash_pending nodes groups id n (event.Crash m choice) is =
      record {
        leading = None;
        tells = tells (node_in acts nodes id);
        own = λ h of_group lead at. absurd (cc);
        ready = record { own = λ h of_group. absurd (let no : None ≡ Some h = of_group in cc); each = λ opens. absurd opens };
        brings = λ h kept of_group. absurd (let no : None ≡ Some h = of_group in cc);
      }
    where
      tells : (w : Option N) → Tells acts w None None
      tells None = refl
      tells (Some node) = λ h is. absurd (let no : None ≡ Some h = is in cc)

  crash_heard : (nodes : List N) (sent : Sent) (id : ℕ) (groups : List KeptGroup) (e : ClusterEvent) (o : EventOutcome) → is_crash e ≡ true → IsHeardThen acts nodes sent (Some id) e o nothing_brought groups groups
  crash_heard nodes sent id groups (event.AddGroup m g) o is = absurd (cc)
  crash_heard nodes sent id groups (event.Ask m g call now) o is = absurd (cc)
  crash_heard nodes sent id groups (event.Deliver g number cuts now) o is = absurd (cc)
  crash_heard nodes sent id groups (event.ResetPeer m peer) o is = absurd (cc)
  crash_heard nodes sent id groups (event.Clean m) o is = absurd (cc)
  crash_heard nodes sent id groups (event.Fuse m first_refused) o is = absurd (cc)
  crash_heard nodes sent id groups (event.Reopen m workers) o is = absurd (cc)
  crash_heard nodes sent id groups (event.Crash m choice) o is =
      record {
        accepted = None;
        accepts = λ h of_group. absurd (let no : None ≡ Some h = of_group in cc);
        heard = heard (node_in acts nodes id);
        room = λ n. keep_less n groups;
      }
    where
      heard : (w : Option N) → IsHeardBy acts w (event.Crash m choice) o None nothing_brought groups groups
      heard None = refl
      heard (Some node) = record { own = λ h of_group. absurd (let no : None ≡ Some h = of_group in cc); each = λ opens. absurd opens; others = λ h other shut. refl }

  -- what is to be heard behind an event stays so where that is heard
  pend_on : (first : Sent) (nodes mid : List N) (olds news : List KeptGroup) (m n : ℕ)
      → ((other : ClusterEvent) (id : ℕ) (its : Brought) → eqb m id ≡ false → IsPending rules acts states law nodes olds id other its (suc n) → IsPending rules acts states law mid news id other its n)
      → (rs : List Recorded) (bs : List Brought) → AllByRecursion (IsElsewhere first m) (events_of rs) → ArePending first nodes olds (suc n) rs bs → ArePending first mid news n rs bs
  pend_on first nodes mid olds news m n on [] bs apart left = tt
  pend_on first nodes mid olds news m n on (r ∷ rs) bs apart left = go (λ others pending. pend_on first nodes mid olds news m n on rs others apart.1 pending) (is_crash r.event) bs left
    where
      go : ((others : List Brought) → ArePending first nodes olds (suc n) rs others → ArePending first mid news n rs others) → (b : Bool) (bs : List Brought) → NextPending first nodes olds (suc n) b r bs (λ others. ArePending first nodes olds (suc n) rs others) → NextPending first mid news n b r bs (λ others. ArePending first mid news n rs others)
      go rest true bs pending = rest bs pending
      go rest false [] pending = pending
      go rest false (b ∷ bs) (one, others) =
          let here : apart.0.node ≡ one.0 = same_some (sym apart.0.named ∙ one.1) in
          let other : eqb one.0 m ≡ false = subst (λ i. eqb i m ≡ false) here apart.0.other in (
            (one.0, one.1, on r.event one.0 b (ne_eqb m one.0 (λ same. eqb-false one.0 m other (sym same))) one.2),
            rest bs others,
          )

  -- ---- the round

  pub record IsRoundKept (end : List N) (last : Sent) (history : List Recorded) (olds news : List KeptGroup) : Type 0 where
    pub keeps : KeepsLists rules acts states end last history news
    pub grows : OnlyGrow (lists_of olds) (lists_of news)

  module _ (first : Sent) (end : List N) (last : Sent) where
    -- the rest of the round keeps what is kept between
    abbrev After : List N → Sent → List Recorded → List Recorded → List KeptGroup → List Brought → List KeptGroup → Type 0
    After mid gone before rs news left between = ArePending first mid between (length rs) rs left → HearsRound acts end last rs left between news
        → KeepsLists rules acts states mid gone before between → IsRoundKept end last (before ++ rs) between news

    pub round_keeps : (rs : List Recorded) (bs : List Brought) (nodes : List N) (sent : Sent) (history : List Recorded) (olds news : List KeptGroup) → Grows first sent → is_round first (events_of rs) ≡ true
        → RunsTo acts nodes sent history rs end last → ArePending first nodes olds (length rs) rs bs → HearsRound acts end last rs bs olds news
        → KeepsLists rules acts states nodes sent history olds → IsRoundKept end last (history ++ rs) olds news
    round_keeps [] bs nodes sent history olds news more round (same, kept) pending hears keeps =
        let A : List N → Type 0 = λ ns. KeepsLists rules acts states ns last (history ++ []) news in
        let B : Sent → Type 0 = λ s. KeepsLists rules acts states nodes s (history ++ []) news in
        let C : List Recorded → Type 0 = λ h. KeepsLists rules acts states nodes sent h news in
        let D : List KeptGroup → Type 0 = λ gs. KeepsLists rules acts states nodes sent history gs in
        record {
          keeps = subst A (sym same) (subst B (sym kept) (subst C (sym (append-nil history)) (subst D (sym hears) keeps)));
          grows = same_grow (lists_of olds) (lists_of news) (λ h. ap (λ gs. lists_of gs h) hears);
        }
    round_keeps (r ∷ rs) bs nodes sent history olds news more round (mid, gone, happens, rest) pending hears keeps =
        go (λ left between others then kept. round_keeps rs left mid gone (history ++ r ∷ []) between news more_then f.round rest others then kept) (is_crash r.event) refl bs pending hears
      where
        f : IsFirst first r.event (events_of rs)
        f = first_of_round first r.event (events_of rs) round

        named : node_of sent r.event ≡ Some f.id
        named = (same_frame first sent r.event f.id more f.node).node ∙ f.node

        named_last : node_of last r.event ≡ Some f.id
        named_last =
            (same_frame first last r.event f.id (grows_on acts first sent last more (grows_on acts sent gone last (grows acts nodes mid sent gone history r.event r.outcome happens) (all_grow acts mid end gone last (history ++ r ∷ []) rs rest))) f.node).node ∙ f.node

        more_then : Grows first gone
        more_then = grows_on acts first sent gone more (grows acts nodes mid sent gone history r.event r.outcome happens)

        apart : AllByRecursion (IsElsewhere first f.id) (events_of rs)
        apart = all_elsewhere first f.id (events_of rs) f.round f.alone

        same : node_in acts end f.id ≡ node_in acts mid f.id
        same = others_leave acts f.id first mid end gone last (history ++ r ∷ []) rs more_then apart rest

        kept_all : Grows gone last
        kept_all = all_grow acts mid end gone last (history ++ r ∷ []) rs rest

        next : ((left : List Brought) (between : List KeptGroup) → After mid gone (history ++ r ∷ []) rs news left between) → (brought : Brought) (left : List Brought) (between : List KeptGroup) → IsPending rules acts states law nodes olds f.id r.event brought (suc (length rs)) → ArePending first nodes olds (suc (length rs)) rs left
            → IsHeardThen acts end last (Some f.id) r.event r.outcome brought olds between → HearsRound acts end last rs left between news → IsRoundKept end last (history ++ r ∷ rs) olds news
        next on_rest brought left between this others heard then =
            let n = length rs in
            let on = λ (other : ClusterEvent) (id : ℕ) (its : Brought) (differs : eqb f.id id ≡ false) (was : IsPending rules acts states law nodes olds id other its (suc n)).
            still_pending rules acts states law nodes sent history r.event r.outcome mid gone happens f.id named end last same kept_all olds between brought n this heard keeps other id its (record { node = f.id; named = named; other = differs }) was in
            let kept = then_keeps rules acts states law nodes sent history r.event r.outcome mid gone happens f.id named end last same kept_all olds between brought n this heard keeps in
            let grew = then_grow rules acts states law nodes sent history r.event r.outcome mid gone happens f.id named end last same kept_all olds between brought n this heard keeps in
            let all = on_rest left between (pend_on first nodes mid olds between f.id n on rs left apart others) then kept in
            record {
              keeps = subst (λ h. KeepsLists rules acts states end last h news) (append_assoc history (r ∷ []) rs) all.keeps;
              grows = grow_on (lists_of olds) (lists_of between) (lists_of news) grew all.grows;
            }

        go : ((left : List Brought) (between : List KeptGroup) → After mid gone (history ++ r ∷ []) rs news left between) → (b : Bool) → is_crash r.event ≡ b → (bs : List Brought) → NextPending first nodes olds (length (r ∷ rs)) b r bs (λ left. ArePending first nodes olds (length (r ∷ rs)) rs left)
            → HearsNext acts end last b r bs (λ left mids ends. HearsRound acts end last rs left mids ends) olds news → IsRoundKept end last (history ++ r ∷ rs) olds news
        go rest_on true is bs left then = next rest_on nothing_brought bs olds (crash_pending nodes olds f.id (suc (length rs)) r.event is) left (crash_heard end last f.id olds r.event r.outcome is) then
        go rest_on false is [] left then = absurd left
        go rest_on false is (b ∷ bs) (one, others) (between, heard, then) =
            let here : one.0 ≡ f.id = same_some (sym one.1 ∙ f.node) in
            let H : Option ℕ → Type 0 = λ w. IsHeardThen acts end last w r.event r.outcome b olds between in
            next rest_on b bs between (subst (λ i. IsPending rules acts states law nodes olds i r.event b (suc (length rs))) here one.2) others (subst H named_last heard) then
