-- The crashes of a round are asked for ahead: what that leaves, and what of it holds for the events in front.
use Rattle.std.proofs.Common.{◌≡◌, ◌⊎◌, ◌∙◌, ◌&&◌, ◌||◌, ◌+◌, ℕ, zero, suc, Bool, true, false, not, List, Option, Some, None, [], ◌∷◌, length, map, take, slice_get, inl, inr, add-one, refl, sym, ap, subst}
use Rattle.std.specs.Prelude.{slice_set}
use Rattle.std.specs.List.{list_any}
use Rattle.raft_cluster_events.specs.declared.event.ClusterEvent.{ClusterEvent}
use Rattle.raft_cluster_events.specs.declared.event.ClusterEvent.TheVariants.{AddGroup, Ask, Deliver, ResetPeer, Clean, Fuse, Crash, Reopen}
use Rattle.raft_cluster_events.specs.declared.outcome.CrashRefusal.TheVariants.{Memory}
use Rattle.raft_cluster_events.specs.declared.outcome.Recorded.{Recorded}
use Rattle.raft_cluster_events.specs.Node.{NodeActs}
use Rattle.raft_cluster.specs.declared.answer.Answer.{Answer}
use Rattle.raft_cluster.specs.Cluster.{IsRefusedFor}
use Rattle.raft_cluster.specs.Facts.{Sent, node_of, place_in}
use Rattle.raft_cluster.specs.Happening.{RefusesFor}
use Rattle.raft_cluster.specs.Round.{AreAhead, AreAsked, HasPart, IsAsked, IsFree, IsIn, are_idle, has_to_wait, is_apart_from, is_crash, is_for, is_round, is_set_up, place_by, sets_up_elsewhere}
use Rattle.raft_cluster.specs.Turn.{refusal_for}
use Rattle.raft_cluster.proofs.RoundLemmas.{first_of_round, unanswered}
use Rattle.raft_cluster.proofs.SlotLemmas.{mapped_at, one_there}
use Rattle.raft_cluster.proofs.TurnLemmas.{by_ids, found_at, set_at}

-- ---- fewer events

-- an event more in front
front_more : {A : Type 0} (n : ℕ) (xs : List A) (at : ℕ) (x : A) → slice_get (take n xs) at ≡ Some x → slice_get (take (suc n) xs) at ≡ Some x
front_more zero xs at x there = absurd (cc)
front_more (suc n) [] at x there = absurd (cc)
front_more (suc n) (y ∷ ys) zero x there = there
front_more (suc n) (y ∷ ys) (suc at) x there = front_more n ys at x there

next_stands : {A : Type 0} (n : ℕ) (xs : List A) (x : A) → slice_get xs n ≡ Some x → slice_get (take (suc n) xs) n ≡ Some x
next_stands zero [] x there = absurd (cc)
next_stands zero (y ∷ ys) x there = there
next_stands (suc n) [] x there = absurd (cc)
next_stands (suc n) (y ∷ ys) x there = next_stands n ys x there

old_or_last : {A : Type 0} (n : ℕ) (xs : List A) (at : ℕ) (x : A) → slice_get (take (suc n) xs) at ≡ Some x → (slice_get (take n xs) at ≡ Some x) ⊎ (slice_get xs n ≡ Some x)
old_or_last zero [] at x there = absurd (cc)
old_or_last zero (y ∷ ys) zero x there = inr there
old_or_last zero (y ∷ ys) (suc at) x there = let none : None ≡ Some x = there in absurd (cc)
old_or_last (suc n) [] at x there = absurd (cc)
old_or_last (suc n) (y ∷ ys) zero x there = inl there
old_or_last (suc n) (y ∷ ys) (suc at) x there = old_or_last n ys at x there

any_less : {A : Type 0} (p : A → Bool) (n : ℕ) (xs : List A) → list_any p xs ≡ false → list_any p (take n xs) ≡ false
any_less p zero xs none = refl
any_less p (suc n) [] none = refl
any_less p (suc n) (x ∷ xs) none = go (p x) (any_less p n xs) none
  where
    go : (b : Bool) → (list_any p xs ≡ false → list_any p (take n xs) ≡ false) → (b || list_any p xs) ≡ false → (b || list_any p (take n xs)) ≡ false
    go true rest h = h
    go false rest h = rest h

-- the front of a round is one
pub front_round : (sent : Sent) (n : ℕ) (events : List ClusterEvent) → is_round sent events ≡ true → is_round sent (take n events) ≡ true
front_round sent zero events round = refl
front_round sent (suc n) [] round = refl
front_round sent (suc n) (e ∷ es) round =
    let f = first_of_round sent e es round in
    ap (λ w. is_apart_from sent w (take n es) && is_round sent (take n es)) f.node
    ∙ ap (λ b. not b && is_round sent (take n es)) (any_less (is_for sent f.id) n es f.alone)
    ∙ front_round sent n es f.round

-- an event that needn't wait for others needn't wait for fewer
waits_less : (sent : Sent) (n : ℕ) (events : List ClusterEvent) (event : ClusterEvent) → has_to_wait sent events event ≡ false → has_to_wait sent (take n events) event ≡ false
waits_less sent n events (Ask node group call now) waits = go (is_set_up call) waits
  where
    go : (b : Bool) → (b && list_any (sets_up_elsewhere sent group node) events) ≡ false → (b && list_any (sets_up_elsewhere sent group node) (take n events)) ≡ false
    go true h = any_less (sets_up_elsewhere sent group node) n events h
    go false h = refl
waits_less sent n events (AddGroup node group) waits = refl
waits_less sent n events (Deliver group number cuts now) waits = refl
waits_less sent n events (ResetPeer node peer) waits = refl
waits_less sent n events (Clean node) waits = refl
waits_less sent n events (Fuse node first_refused) waits = refl
waits_less sent n events (Crash node choice) waits = refl
waits_less sent n events (Reopen node workers) waits = refl

crash_waits : (sent : Sent) (events : List ClusterEvent) (event : ClusterEvent) → is_crash event ≡ true → has_to_wait sent events event ≡ false
crash_waits sent events (AddGroup node group) crash = absurd (cc)
crash_waits sent events (Ask node group call now) crash = absurd (cc)
crash_waits sent events (Deliver group number cuts now) crash = absurd (cc)
crash_waits sent events (ResetPeer node peer) crash = absurd (cc)
crash_waits sent events (Clean node) crash = absurd (cc)
crash_waits sent events (Fuse node first_refused) crash = absurd (cc)
crash_waits sent events (Crash node choice) crash = refl
crash_waits sent events (Reopen node workers) crash = absurd (cc)

module _ {N : Type 0} (acts : NodeActs N) (ids : List ℕ) (sent : Sent) (history : List Recorded) (events : List ClusterEvent) where
  -- nobody was asked yet
  pub none_ahead : (nodes : List N) (answers : List (Option Answer)) → map acts.id nodes ≡ ids → length answers ≡ length nodes → are_idle answers → AreAhead acts ids sent history events [] nodes nodes answers
  none_ahead nodes answers same each idle =
      record { ids_before = same; ids_now = same; each = each; parts = λ place old new a was now has. part place old new a was now (none_there answers idle place a has) }
    where
      none_there : (ws : List (Option Answer)) → are_idle ws → (place : ℕ) (a : Option Answer) → slice_get ws place ≡ Some a → None ≡ a
      none_there [] idle place a has = absurd (cc)
      none_there (w ∷ ws) idle zero a has = let is : w ≡ a = cc in sym idle.0 ∙ is
      none_there (w ∷ ws) idle (suc place) a has = none_there ws idle.1 place a has

      part : (place : ℕ) (old new : N) (a : Option Answer) → slice_get nodes place ≡ Some old → slice_get nodes place ≡ Some new → None ≡ a → HasPart acts ids sent history events [] place old new a
      part place old new a was now is =
          let P : Option Answer → Type 0 = λ w. HasPart acts ids sent history events [] place old new w in
          let same : new ≡ old = cc in subst P is same

  -- with more events to come
  more_ahead : (left more : List ClusterEvent) (before now : List N) (answers : List (Option Answer)) → ((at : ℕ) (event : ClusterEvent) → slice_get left at ≡ Some event → slice_get more at ≡ Some event)
      → AreAhead acts ids sent history events left before now answers → AreAhead acts ids sent history events more before now answers
  more_ahead left more before now answers stands ahead =
      record { ids_before = ahead.ids_before; ids_now = ahead.ids_now; each = ahead.each; parts = λ place old new a was is has. go place old new a (ahead.parts place old new a was is has) }
    where
      go : (place : ℕ) (old new : N) (a : Option Answer) → HasPart acts ids sent history events left place old new a → HasPart acts ids sent history events more place old new a
      go place old new None part = part
      go place old new (Some a) part =
          record { event = part.event; among = (part.among.0, stands part.among.0 part.event part.among.1); here = part.here; free = part.free; answered = part.answered }

  pub next_ahead : (n : ℕ) (before now : List N) (answers : List (Option Answer)) → AreAhead acts ids sent history events (take n events) before now answers → AreAhead acts ids sent history events (take (n + 1) events) before now answers
  next_ahead n before now answers =
      more_ahead (take n events) (take (n + 1) events) before now answers
      (λ at event there. ap (λ k. slice_get (take k events) at) (add-one n) ∙ front_more n events at event there)

  -- the next event is among them
  pub next_in : (n : ℕ) (event : ClusterEvent) → slice_get events n ≡ Some event → IsIn (take (n + 1) events) event
  next_in n event there = (n, ap (λ k. slice_get (take k events) n) (add-one n) ∙ next_stands n events event there)

  -- of a round that ends before others of its events
  pub front_ahead : (n : ℕ) (left : List ClusterEvent) (before now : List N) (answers : List (Option Answer)) → AreAhead acts ids sent history events left before now answers → AreAhead acts ids sent history (take n events) left before now answers
  front_ahead n left before now answers ahead =
      record { ids_before = ahead.ids_before; ids_now = ahead.ids_now; each = ahead.each; parts = λ place old new a was is has. go place old new a (ahead.parts place old new a was is has) }
    where
      go : (place : ℕ) (old new : N) (a : Option Answer) → HasPart acts ids sent history events left place old new a → HasPart acts ids sent history (take n events) left place old new a
      go place old new None part = part
      go place old new (Some a) part = record {
        event = part.event;
        among = part.among;
        here = part.here;
        free = record { admitted = part.free.admitted; waits = waits_less sent n events part.event part.free.waits };
        answered = part.answered;
      }

  -- where the node stands that an event is for
  pub stands_by : (left : List ClusterEvent) (before now : List N) (answers : List (Option Answer)) (event : ClusterEvent) → AreAhead acts ids sent history events left before now answers → place_by ids (node_of sent event) ≡ place_in acts now (node_of sent event)
  stands_by left before now answers event ahead = ap (λ is. place_by is (node_of sent event)) (sym ahead.ids_now) ∙ sym (by_ids acts now (node_of sent event))

  -- there is no node for the event
  pub asked_nowhere : (left : List ClusterEvent) (before now : List N) (answers : List (Option Answer)) (event : ClusterEvent) → AreAhead acts ids sent history events left before now answers → place_in acts now (node_of sent event) ≡ None → IsAsked acts ids sent history event before answers
  asked_nowhere left before now answers event ahead nowhere place node crash here there none free =
      let is : place_by ids (node_of sent event) ≡ None = stands_by left before now answers event ahead ∙ nowhere in absurd (cc)

  -- its node lacks memory for it
  pub refused_there : (left : List ClusterEvent) (before now : List N) (answers : List (Option Answer)) (event : ClusterEvent) (place : ℕ) (node : N) → AreAhead acts ids sent history events left before now answers → place_in acts now (node_of sent event) ≡ Some place
      → slice_get now place ≡ Some node → slice_get answers place ≡ Some None → RefusesFor acts event node Memory → IsRefusedFor acts before sent event Memory
  refused_there left before now answers event place node ahead first there none refuses =
      let was = unanswered acts ids sent history events left before now answers place node ahead there none in
      let here : place_in acts before (node_of sent event) ≡ Some place =
      by_ids acts before (node_of sent event) ∙ ap (λ is. place_by is (node_of sent event)) ahead.ids_before ∙ stands_by left before now answers event ahead ∙ first in
      record { node = node; named = found_at acts before (node_of sent event) place node here was; refuses = refuses }

  -- its node was asked for it, unless it had answered before, or is turned away
  pub asked_there : {S : Type 0} (node : S → N) (answer : S → Option Answer) (left : List ClusterEvent) (before : List N) (slots : List S) (event : ClusterEvent) (place : ℕ) (old new : S) → slice_get slots place ≡ Some old
      → place_in acts (map node slots) (node_of sent event) ≡ Some place → (answer new ≡ None → answer old ≡ None) → (answer new ≡ None → IsFree acts sent history events (node old) event → ⊥)
      → AreAhead acts ids sent history events left before (map node slots) (map answer slots) → IsAsked acts ids sent history event before (map answer (slice_set slots place new))
  asked_there node answer left before slots event place old new there first keeps waits ahead at b crash here was none free =
      let found : Some place ≡ Some at = sym first ∙ sym (stands_by left before (map node slots) (map answer slots) event ahead) ∙ here in
      let one : place ≡ at = cc in
      let now : slice_get (map answer (slice_set slots place new)) place ≡ Some (answer new) = mapped_at answer (slice_set slots place new) place new (set_at slots place new old there) in
      let idle : answer new ≡ None = one_there (map answer (slice_set slots place new)) place (answer new) None now (ap (slice_get (map answer (slice_set slots place new))) one ∙ none) in
      let unsaid : slice_get (map answer slots) place ≡ Some None = mapped_at answer slots place old there ∙ ap Some (keeps idle) in
      let stood : slice_get before place ≡ Some (node old) = unanswered acts ids sent history events left before (map node slots) (map answer slots) place (node old) ahead (mapped_at node slots place old there) unsaid in
      let same : b ≡ node old = one_there before place b (node old) (ap (slice_get before) one ∙ was) stood in
      waits idle (record { admitted = subst (λ x. refusal_for acts x sent history event ≡ None) same free; waits = crash_waits sent events event crash })

module _ {N : Type 0} (acts : NodeActs N) (ids : List ℕ) (sent : Sent) (history : List Recorded) (before : List N) where
  pub none_asked : (events : List ClusterEvent) (answers : List (Option Answer)) → AreAsked acts ids sent history (take 0 events) before answers
  none_asked events answers at event there = absurd (cc)

  -- an event more was asked for
  pub one_asked : (n : ℕ) (events : List ClusterEvent) (event : ClusterEvent) (answers answers' : List (Option Answer)) → slice_get events n ≡ Some event
      → ((place : ℕ) → slice_get answers' place ≡ Some None → slice_get answers place ≡ Some None) → AreAsked acts ids sent history (take n events) before answers → IsAsked acts ids sent history event before answers'
      → AreAsked acts ids sent history (take (n + 1) events) before answers'
  one_asked n events event answers answers' is keeps asked this at e there place node crash here was none free =
      go (old_or_last n events at e (ap (λ k. slice_get (take k events) at) (sym (add-one n)) ∙ there))
    where
      go : (slice_get (take n events) at ≡ Some e) ⊎ (slice_get events n ≡ Some e) → ⊥
      go (inl stood) = asked at e stood place node crash here was (keeps place none) free
      go (inr stands) = let same : event ≡ e = one_there events n event e is stands in subst (λ x. IsAsked acts ids sent history x before answers') same this place node crash here was none free

  -- whoever has no answer had none before
  pub still_asked : (asked : List ClusterEvent) (answers answers' : List (Option Answer)) → ((place : ℕ) → slice_get answers' place ≡ Some None → slice_get answers place ≡ Some None)
      → AreAsked acts ids sent history asked before answers → AreAsked acts ids sent history asked before answers'
  still_asked asked answers answers' keeps all at e there place node crash here was none free = all at e there place node crash here was (keeps place none) free
