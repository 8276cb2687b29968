-- What is prepared for the events of a round, one after another.
use Rattle.std.proofs.Common.{◌≡◌, ◌⊎◌, ◌+◌, ◌<◌, inl, inr, ℕ, not, Bool, false, cond, List, [], ◌∷◌, ◌++◌, Option, Some, None, get_or, length, take, refl, sym, ap, ◌∙◌, subst}
use Rattle.std.specs.Prelude.{Contains}
use Rattle.std.specs.List.{AllZip}
use Rattle.std.proofs.lemmas.List.Elements.{filter_more}
use Rattle.raft_group_step.specs.Values.{Entry}
use Rattle.raft_laws.proofs.BallotAgreement.{same_some}
use Rattle.raft_list_facts.specs.declared.leading.Leading.{Leading}
use Rattle.raft_list_reports.specs.Calls.{IsInvalid, payload_of}
use Rattle.raft_group_lists.specs.Notes.{Notes, accounts_of, membership_in}
use Rattle.raft_cluster_events.specs.declared.event.ClusterEvent.{ClusterEvent}
use Rattle.raft_cluster_events.specs.declared.event.ClusterEvent.TheVariants as event
use Rattle.raft_cluster_events.specs.Node.{NodeActs}
use Rattle.raft_cluster_lists.specs.declared.brought.Brought.{Brought}
use Rattle.raft_cluster_lists.specs.declared.kept.KeptGroup.{KeptGroup}
use Rattle.raft_cluster_lists.specs.Brought.{Brings}
use Rattle.raft_cluster_lists.specs.Groups.{IsBegunFor, IsNewGroup, IsPreparedFor, IsSameGroup, KeepReady, KeepsOn, kept_in}
use Rattle.raft_cluster_lists.specs.Lists.{AreSame}
use Rattle.raft_cluster_lists.proofs.PlaceLemmas.{keeps_same}
use Rattle.raft_cluster.specs.Facts.{Sent}
use Rattle.raft_listed_cluster.specs.Preparing.{ArePrepared, ArePreparedFor, IsPreparedSo}
use Rattle.raft_cluster.specs.Round.{is_crash}
use Rattle.raft_listed_cluster.specs.Round.{heard_of}

-- ---- groups, before the round

abbrev pub IsOneBegun : List ClusterEvent → ℕ → Option KeptGroup → Option KeptGroup → Type 0
IsOneBegun events h old new = (event : ClusterEvent) × Contains events event × IsBegunFor event h old new

pub nothing_prepared : (events : List ClusterEvent) (groups : List KeptGroup) → ArePreparedFor events groups groups
nothing_prepared events groups h = inl (keeps_same groups h)

same_then : (one two three : KeptGroup) → IsSameGroup one two → IsSameGroup two three → IsSameGroup one three
same_then one two three first then = record {
  notes = record { accounts = then.notes.accounts ∙ first.notes.accounts; noted = then.notes.noted ∙ first.notes.noted };
  stopped = λ node. then.stopped node ∙ first.stopped node;
}

new_then : (one two : KeptGroup) → IsNewGroup one → IsSameGroup one two → IsNewGroup two
new_then one two first then = record {
  notes = record { accounts = then.notes.accounts ∙ first.notes.accounts; noted = then.notes.noted ∙ first.notes.noted };
  stopped = λ node. then.stopped node ∙ first.stopped node;
}

same_on_then : (old mid new : Option KeptGroup) → KeepsOn IsSameGroup old mid → KeepsOn IsSameGroup mid new → KeepsOn IsSameGroup old new
same_on_then None mid new first then = subst (λ w. KeepsOn IsSameGroup w new) first then
same_on_then (Some one) mid new (two, is, same) then =
    let next = subst (λ w. KeepsOn IsSameGroup w new) is then in
    (next.0, next.1, same_then one two next.0 same next.2)

begun_on_then : (event : ClusterEvent) (h : ℕ) (old mid new : Option KeptGroup) → IsBegunFor event h old mid → KeepsOn IsSameGroup mid new → IsBegunFor event h old new
begun_on_then event h old mid new begun then =
    let next = subst (λ w. KeepsOn IsSameGroup w new) begun.there then in
    record { of_group = begun.of_group; none = begun.none; kept = next.0; there = next.1; is_new = new_then begun.kept next.0 begun.is_new next.2 }

begun_then : (event : ClusterEvent) (h : ℕ) (old mid new : Option KeptGroup) → KeepsOn IsSameGroup old mid → IsBegunFor event h mid new → IsBegunFor event h old new
begun_then event h None mid new first begun =
    record { of_group = begun.of_group; none = refl; kept = begun.kept; there = begun.there; is_new = begun.is_new }
begun_then event h (Some one) mid new (two, is, same) begun = absurd (let no : Some two ≡ None = sym is ∙ begun.none in cc)

module _ (events : List ClusterEvent) (event : ClusterEvent) (among : Contains events event) (h : ℕ) (old mid new : Option KeptGroup) where
  one_prepared : KeepsOn IsSameGroup old mid ⊎ IsOneBegun events h old mid → KeepsOn IsSameGroup mid new ⊎ IsBegunFor event h mid new
      → KeepsOn IsSameGroup old new ⊎ IsOneBegun events h old new
  one_prepared (inl same) (inl then) = inl (same_on_then old mid new same then)
  one_prepared (inl same) (inr begun) = inr (event, among, begun_then event h old mid new same begun)
  one_prepared (inr (first, there, begun)) (inl then) = inr (first, there, begun_on_then first h old mid new begun then)
  one_prepared (inr (first, there, begun)) (inr again) = absurd (let no : Some begun.kept ≡ None = sym begun.there ∙ again.none in cc)

pub more_prepared : (events : List ClusterEvent) (event : ClusterEvent) (olds mids news : List KeptGroup) → Contains events event → ArePreparedFor events olds mids → IsPreparedFor event mids news → ArePreparedFor events olds news
more_prepared events event olds mids news among first then h =
    one_prepared events event among h (kept_in olds h) (kept_in mids h) (kept_in news h) (first h) (then h)

-- ---- events of which the lists hear

module _ {A B : Type 0} (R : A → B → Type 0) where
  zip_push : (xs : List A) (ys : List B) (x : A) (y : B) → AllZip R xs ys → R x y → AllZip R (xs ++ x ∷ []) (ys ++ y ∷ [])
  zip_push [] [] x y all here = (here, tt)
  zip_push [] (b ∷ ys) x y all here = absurd all
  zip_push (a ∷ xs) [] x y all here = absurd all
  zip_push (a ∷ xs) (b ∷ ys) x y all here = (all.0, zip_push xs ys x y all.1 here)

module _ {A B : Type 0} (P R : A → B → Type 0) (on : (x : A) (y : B) → P x y → R x y) where
  zip_weaker : (xs : List A) (ys : List B) → AllZip P xs ys → AllZip R xs ys
  zip_weaker [] [] all = tt
  zip_weaker [] (b ∷ ys) all = absurd all
  zip_weaker (a ∷ xs) [] all = absurd all
  zip_weaker (a ∷ xs) (b ∷ ys) all = (on a b all.0, zip_weaker xs ys all.1)

-- what an event brings goes by the list of the leader at its node alone
pub brings_still : (s later : Notes) (leading : Option Leading) (e : ClusterEvent) (brought : Brought) → ((lead : Leading) → leading ≡ Some lead → (accounts_of later).latest lead.vote ≡ (accounts_of s).latest lead.vote)
    → Brings s leading e brought → Brings later leading e brought
brings_still s later leading (event.AddGroup n g) brought same brings = brings
brings_still s later None (event.Ask n g call now) brought same brings = record { set_up = brings.set_up; written = brings.written }
brings_still s later (Some lead) (event.Ask n g call now) brought same brings =
    let W : List Entry → Type 0 = λ list. (brought.written ≡ payload_of (membership_in list) call) ⊎ ((brought.written ≡ None) × IsInvalid (membership_in list) call) in
    record { set_up = brings.set_up; written = subst W (sym (same lead refl)) brings.written }
brings_still s later leading (event.Deliver g number cuts now) brought same brings = brings
brings_still s later leading (event.ResetPeer n peer) brought same brings = brings
brings_still s later leading (event.Clean n) brought same brings = brings
brings_still s later leading (event.Fuse n first_refused) brought same brings = brings
brings_still s later leading (event.Crash n choice) brought same brings = brings
brings_still s later leading (event.Reopen n workers) brought same brings = brings

-- ---- one event more is prepared

-- of a group that was kept the same is noted
same_noted : (other : ClusterEvent) (h : ℕ) (old new : Option KeptGroup) (k kept : KeptGroup) → KeepsOn IsSameGroup old new ⊎ IsBegunFor other h old new → old ≡ Some k → new ≡ Some kept → AreSame k.list.notes kept.list.notes
same_noted other h old new k kept (inl same) was is =
    let next = subst (λ w. KeepsOn IsSameGroup w new) was same in
    subst (λ (g : KeptGroup). AreSame k.list.notes g.list.notes) (same_some (sym next.1 ∙ is)) next.2.notes
same_noted other h old new k kept (inr begun) was is = absurd (let no : Some k ≡ None = sym was ∙ begun.none in cc)

module _ {N : Type 0} (acts : NodeActs N) (nodes : List N) (sent : Sent) (n : ℕ) where
  -- what was prepared stays so while another one is
  still_prepared : (olds news : List KeptGroup) (other : ClusterEvent) → IsPreparedFor other olds news → KeepReady n n olds news
      → (event : ClusterEvent) (brought : Brought) → IsPreparedSo acts nodes sent n olds event brought → IsPreparedSo acts nodes sent n news event brought
  still_prepared olds news other on keep event brought so = record {
    leading = so.leading;
    tells = so.tells;
    ready = keep event so.ready;
    brings = λ h kept of_group is.
        let k = so.ready.own h of_group in
        let same = same_noted other h (kept_in olds h) (kept_in news h) k.0 kept (on h) k.1 is in
        brings_still k.0.list.notes kept.list.notes so.leading event brought (λ lead at. ap (λ a. a.latest lead.vote) same.accounts) (so.brings h k.0 of_group k.1);
  }

  abbrev not_crash : ClusterEvent → Bool
  not_crash event = not (is_crash event)

  pub prepared_more : (events : List ClusterEvent) (i : ℕ) (x : ClusterEvent) (olds news : List KeptGroup) (broughts : List Brought) (brought : Brought) → i < length events → x ≡ get_or events i x
      → is_crash x ≡ false → IsPreparedFor x olds news → KeepReady n n olds news → IsPreparedSo acts nodes sent n news x brought
      → ArePrepared acts nodes sent n olds (take i events) broughts → ArePrepared acts nodes sent n news (take (i + 1) events) (broughts ++ brought ∷ [])
  prepared_more events i x olds news broughts brought lt is here on keep so all =
      let front = heard_of (take i events) in
      let heard : heard_of (take (i + 1) events) ≡ front ++ x ∷ [] =
      filter_more not_crash events i x lt ∙ ap (λ y. front ++ cond (not (is_crash y)) (y ∷ []) []) (sym is) ∙ ap (λ b. front ++ cond (not b) (x ∷ []) []) here in
      subst (λ es. AllZip (IsPreparedSo acts nodes sent n news) es (broughts ++ brought ∷ [])) (sym heard)
      (zip_push (IsPreparedSo acts nodes sent n news) front broughts x brought
      (zip_weaker (IsPreparedSo acts nodes sent n olds) (IsPreparedSo acts nodes sent n news) (still_prepared olds news x on keep) front broughts all) so)
