-- Set-ups of a group, and what of them is kept.
use Rattle.std.proofs.Common.{◌≡◌, inl, ℕ, eqb, true, false, List, [], ◌∷◌, ◌++◌, Option, Some, None, refl, sym, ap, ◌∙◌, ⊎_elim}
use Rattle.std.proofs.lemmas.Bool.{eq-eqb}
use Rattle.std.specs.Prelude.{Contains}
use Rattle.std.specs.Option.{option_or}
use Rattle.raft_group_step.specs.Values.{Membership}
use Rattle.raft_group_step.specs.GroupEvent.{GroupCall}
use Rattle.raft_laws.proofs.Counts.{among_contains, contains_among}
use Rattle.raft_cluster_events.specs.declared.event.ClusterEvent.{ClusterEvent}
use Rattle.raft_cluster_events.specs.declared.event.ClusterEvent.TheVariants as event
use Rattle.raft_cluster_events.specs.declared.outcome.EventOutcome.{EventOutcome}
use Rattle.raft_cluster_events.specs.declared.outcome.EventOutcome.TheVariants as outcome
use Rattle.raft_cluster_events.specs.declared.outcome.Recorded.{Recorded}
use Rattle.raft_cluster_lists.specs.GoingOn.{IsTaken, asked_in}
use Rattle.raft_cluster_lists.specs.Hearing.{group_of}
use Rattle.raft_cluster.specs.Facts.{differs, differs_from, is_taken, membership_in, set_up_by, set_up_if}
use Rattle.raft_cluster.proofs.PlainLemmas.{IsFreeSetUp, first_more, first_set_up, same_as_first, same_membership}
use Rattle.raft_listed_cluster.specs.Keeping.{one_of}

-- ---- the first one

-- one that doesn't differ is the first
first_is : (history : List Recorded) (h : ℕ) (m x : Membership) → differs history h m ≡ false → first_set_up h history ≡ Some x → m ≡ x
first_is [] h m x free is = absurd (cc)
first_is (r ∷ rs) h m x free is = go (set_up_by h r) (first_is rs h m x) free is
  where
    go : (s : Option Membership) → (differs rs h m ≡ false → first_set_up h rs ≡ Some x → m ≡ x)
        → differs_from m s (differs rs h m) ≡ false → option_or s (first_set_up h rs) ≡ Some x → m ≡ x
    go None more free_there there = more free_there there
    go (Some first) more free_there there =
        let same : first ≡ x = cc in sym (same_as_first first m free_there) ∙ same

has_one : (o : Option Membership) (x : Membership) → Contains (one_of o) x → o ≡ Some x
has_one None x has = absurd (contains_among [] x has)
has_one (Some m) x has = ⊎_elim (λ is. ap Some (sym is)) (λ none. absurd none) (contains_among (m ∷ []) x has)

one_has : (o : Option Membership) (x : Membership) → o ≡ Some x → Contains (one_of o) x
one_has None x is = absurd (cc)
one_has (Some m) x is = let same : m ≡ x = cc in among_contains (m ∷ []) x (inl (sym same))

-- ---- behind one event more

module _ (h : ℕ) (history : List Recorded) (r : Recorded) where
  -- what was asked for still is
  pub asked_still : (x : Membership) → Contains (one_of (first_set_up h history)) x → Contains (one_of (first_set_up h (history ++ r ∷ []))) x
  asked_still x has =
      let was = has_one (first_set_up h history) x has in
      one_has (first_set_up h (history ++ r ∷ [])) x (first_more h history r ∙ ap (λ o. option_or o (set_up_by h r)) was)

  -- the set-up that an event of the group asks for, and that is taken
  set_up_here : group_of r.event ≡ Some h → IsTaken r.outcome → (m : Membership) → asked_in r.event ≡ Some m → set_up_by h r ≡ Some m
  set_up_here of_group taken m asks = go r.event of_group asks
    where
      is_so : (o : EventOutcome) → IsTaken o → is_taken o ≡ true
      is_so (outcome.Done parts) there = refl
      is_so (outcome.Cleaned groups) there = refl
      is_so (outcome.Refused why) there = absurd there
      is_so (outcome.Stopped stop) there = refl
      is_so (outcome.TurnedAway why) there = absurd there

      of_call : (g : ℕ) (call : GroupCall) → g ≡ h → membership_in call ≡ Some m → set_up_if (eqb g h) (is_taken r.outcome) (membership_in call) ≡ Some m
      of_call g call is says =
          ap (λ b. set_up_if b (is_taken r.outcome) (membership_in call)) (eq-eqb g h is)
          ∙ ap (λ b. set_up_if true b (membership_in call)) (is_so r.outcome taken) ∙ says

      go : (e : ClusterEvent) → group_of e ≡ Some h → asked_in e ≡ Some m → set_up_by h (record { event = e; outcome = r.outcome }) ≡ Some m
      go (event.AddGroup n g) is says = absurd (cc)
      go (event.Ask n g call now) is says = let same : g ≡ h = cc in of_call g call same (same_membership call ∙ says)
      go (event.Deliver g number cuts now) is says = absurd (cc)
      go (event.ResetPeer n peer) is says = absurd (cc)
      go (event.Clean n) is says = absurd (cc)
      go (event.Fuse n first_refused) is says = absurd (cc)
      go (event.Crash n choice) is says = absurd (cc)
      go (event.Reopen n workers) is says = absurd (cc)

  module _ (free : IsFreeSetUp history r) (of_group : group_of r.event ≡ Some h) (taken : IsTaken r.outcome) (m : Membership) (asks : asked_in r.event ≡ Some m) where
    -- it names the membership that was asked for before, if one was
    pub same_asked : (x : Membership) → Contains (one_of (first_set_up h history)) x → m ≡ x
    same_asked x has = first_is history h m x (free h m (set_up_here of_group taken m asks)) (has_one (first_set_up h history) x has)

    -- and that is asked for from then on
    pub asked_then : Contains (one_of (first_set_up h (history ++ r ∷ []))) m
    asked_then = one_has (first_set_up h (history ++ r ∷ [])) m (first_more h history r ∙ go (first_set_up h history) refl)
      where
        go : (o : Option Membership) → first_set_up h history ≡ o → option_or o (set_up_by h r) ≡ Some m
        go None is = set_up_here of_group taken m asks
        go (Some x) is = ap Some (sym (first_is history h m x (free h m (set_up_here of_group taken m asks)) is))
