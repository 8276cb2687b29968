-- What an event's frames accept is read off their numbers, also where more was sent since.
use Rattle.std.proofs.Common.{◌≡◌, ◌+◌, inl, inr, ℕ, zero, suc, eqb, Bool, true, false, cond, List, [], ◌∷◌, ◌++◌, Option, Some, None, Result, Ok, Err, drop, length, slice_get, refl, sym, ap, ◌∙◌, subst, append_assoc, append-nil, arith, length-append}
use Rattle.std.specs.Option.{option_or}
use Rattle.std.proofs.Math.Seq.{drop-append_seam, drop-length}
use Rattle.std.proofs.lemmas.Bool.{eqb-true}
use Rattle.raft_list_facts.specs.declared.acceptance.Acceptance.{Acceptance}
use Rattle.raft_sent_frames.specs.Frames.{first_accepted, numbers_from, sent_by}
use Rattle.raft_sent_frames.specs.declared.frame.NodeFrame.{NodeFrame}
use Rattle.raft_sent_frames.specs.declared.frame.SentFrame.{SentFrame}
use Rattle.raft_cluster_conditions.specs.declared.reasons.ClusterRefusal.{ClusterRefusal}
use Rattle.raft_cluster_events.specs.declared.event.ClusterEvent.{ClusterEvent}
use Rattle.raft_cluster_events.specs.declared.node.NodeOutcome.{NodeOutcome}
use Rattle.raft_cluster_events.specs.declared.outcome.EventOutcome.{EventOutcome}
use Rattle.raft_cluster_events.specs.declared.outcome.NodeError.{NodeError}
use Rattle.raft_cluster_events.specs.declared.outcome.NodeError.TheVariants as errors
use Rattle.raft_cluster_events.specs.declared.outcome.Recorded.{Recorded}
use Rattle.raft_cluster_events.specs.Node.{NodeActs}
use Rattle.raft_cluster.specs.Cluster.{Happens, HappensBy, refusal_in}
use Rattle.raft_cluster.specs.Facts.{Sent}
use Rattle.raft_cluster.specs.Happening.{NodeAnswer, Did, HasCleaned, Settles, cleaned, over}
use Rattle.raft_cluster.specs.Sending.{part_of, parts_of, sent_after, sent_after_one}
use Rattle.raft_listed_cluster.specs.Numbers.{accepts_at, accepts_by, accepts_in, accepts_of}

or_assoc : (a b c : Option Acceptance) → option_or (option_or a b) c ≡ option_or a (option_or b c)
or_assoc None b c = refl
or_assoc (Some x) b c = refl

first_of_both : (xs ys : List SentFrame) → first_accepted (xs ++ ys) ≡ option_or (first_accepted xs) (first_accepted ys)
first_of_both [] ys = refl
first_of_both (x ∷ xs) ys = ap (option_or x.accepts) (first_of_both xs ys) ∙ sym (or_assoc x.accepts (first_accepted xs) (first_accepted ys))

-- ---- the frames of one outcome

-- these stand there from this number on
abbrev StandAt : List SentFrame → ℕ → List SentFrame → Type 0
StandAt frames n [] = Unit {0}
StandAt frames n (x ∷ xs) = (slice_get frames n ≡ Some x) × StandAt frames (n + 1) xs

accept_there : (frames : List SentFrame) (sender n : ℕ) (new : List NodeFrame) → StandAt frames n (sent_by sender new) → accepts_at frames (numbers_from n new) ≡ first_accepted (sent_by sender new)
accept_there frames sender n [] all = refl
accept_there frames sender n (x ∷ xs) all =
    ap (λ w. option_or (accepts_of w) (accepts_at frames (numbers_from (n + 1) xs))) all.0
    ∙ ap (option_or x.accepts) (accept_there frames sender (n + 1) xs all.1)

end_there : (xs ys : List SentFrame) (y : SentFrame) → slice_get (xs ++ y ∷ ys) (length xs) ≡ Some y
end_there [] ys y = refl
end_there (x ∷ xs) ys y = end_there xs ys y

-- what was sent behind others stands behind them
stand_behind : (xs ys : List SentFrame) (n : ℕ) → n ≡ length xs → StandAt (xs ++ ys) n ys
stand_behind xs [] n is = tt
stand_behind xs (y ∷ ys) n is =
    let next : n + 1 ≡ length (xs ++ y ∷ []) = omega (arith, is, length-append xs (y ∷ [])) in (
      ap (slice_get (xs ++ y ∷ ys)) is ∙ end_there xs ys y,
      subst (λ fs. StandAt fs (n + 1) ys) (append_assoc xs (y ∷ []) ys) (stand_behind (xs ++ y ∷ []) ys (n + 1) next),
    )

stand_still : (frames later : List SentFrame) → ((k : ℕ) (x : SentFrame) → slice_get frames k ≡ Some x → slice_get later k ≡ Some x) → (n : ℕ) (xs : List SentFrame) → StandAt frames n xs → StandAt later n xs
stand_still frames later more n [] all = tt
stand_still frames later more n (x ∷ xs) all = (more n x all.0, stand_still frames later more (n + 1) xs all.1)

-- ---- the frames of several

-- what is sent behind a group's frames
abbrev news_of : ℕ → NodeOutcome → ℕ → List SentFrame
news_of sender o h = cond (eqb o.group h) (sent_by sender o.frames) []

after_one_is : (sent : Sent) (sender : ℕ) (o : NodeOutcome) (h : ℕ) → sent_after_one sent sender o h ≡ sent h ++ news_of sender o h
after_one_is sent sender o h = go (eqb o.group h)
  where
    go : (b : Bool) → cond b (sent h ++ sent_by sender o.frames) (sent h) ≡ sent h ++ cond b (sent_by sender o.frames) []
    go true = refl
    go false = sym (append-nil (sent h))

abbrev all_news : ℕ → List NodeOutcome → ℕ → List SentFrame
all_news sender [] h = []
all_news sender (o ∷ os) h = news_of sender o h ++ all_news sender os h

after_is : (sent : Sent) (sender : ℕ) (os : List NodeOutcome) (h : ℕ) → sent_after sent sender os h ≡ sent h ++ all_news sender os h
after_is sent sender [] h = sym (append-nil (sent h))
after_is sent sender (o ∷ os) h =
    after_is (sent_after_one sent sender o) sender os h ∙ ap (λ l. l ++ all_news sender os h) (after_one_is sent sender o h) ∙ append_assoc (sent h) (news_of sender o h) (all_news sender os h)

module _ (sender h : ℕ) (frames : List SentFrame) where
  -- one part accepts what its frames do
  one_part : (sent : Sent) (o : NodeOutcome) (rest : List SentFrame) → ((k : ℕ) (x : SentFrame) → slice_get (sent h ++ (news_of sender o h ++ rest)) k ≡ Some x → slice_get frames k ≡ Some x)
      → cond (eqb o.group h) (accepts_at frames (part_of sent o).sent) None ≡ first_accepted (news_of sender o h)
  one_part sent o rest more = go (eqb o.group h) refl more
    where
      go : (b : Bool) → eqb o.group h ≡ b → ((k : ℕ) (x : SentFrame) → slice_get (sent h ++ (cond b (sent_by sender o.frames) [] ++ rest)) k ≡ Some x → slice_get frames k ≡ Some x)
          → cond b (accepts_at frames (part_of sent o).sent) None ≡ first_accepted (cond b (sent_by sender o.frames) [])
      go false is those = refl
      go true is those =
          let new = sent_by sender o.frames in
          let here : h ≡ o.group = sym (eqb-true o.group h is) in
          let count : length (sent o.group) ≡ length (sent h) = ap (λ g. length (sent g)) (sym here) in
          let stands : StandAt ((sent h ++ new) ++ rest) (length (sent o.group)) new =
          front_stands (sent h ++ new) rest (length (sent o.group)) new (stand_behind (sent h) new (length (sent o.group)) count) in
          let S : List SentFrame → Type 0 = λ fs. StandAt fs (length (sent o.group)) new in
          accept_there frames sender (length (sent o.group)) o.frames
          (stand_still (sent h ++ (new ++ rest)) frames those (length (sent o.group)) new (subst S (append_assoc (sent h) new rest) stands))
        where
          in_front_of : (xs ys : List SentFrame) (k : ℕ) (x : SentFrame) → slice_get xs k ≡ Some x → slice_get (xs ++ ys) k ≡ Some x
          in_front_of [] ys k x e = absurd (cc)
          in_front_of (y ∷ xs) ys zero x e = e
          in_front_of (y ∷ xs) ys (suc k) x e = in_front_of xs ys k x e

          front_stands : (xs ys : List SentFrame) (n : ℕ) (zs : List SentFrame) → StandAt xs n zs → StandAt (xs ++ ys) n zs
          front_stands xs ys n zs all = stand_still xs (xs ++ ys) (in_front_of xs ys) n zs all

  -- and so do all
  all_parts : (sent : Sent) (os : List NodeOutcome) → ((k : ℕ) (x : SentFrame) → slice_get (sent h ++ all_news sender os h) k ≡ Some x → slice_get frames k ≡ Some x)
      → accepts_in frames h (parts_of sent sender os) ≡ first_accepted (all_news sender os h)
  all_parts sent [] more = refl
  all_parts sent (o ∷ os) more =
      let mid = sent_after_one sent sender o in
      let is : mid h ++ all_news sender os h ≡ sent h ++ (news_of sender o h ++ all_news sender os h) =
      ap (λ l. l ++ all_news sender os h) (after_one_is sent sender o h) ∙ append_assoc (sent h) (news_of sender o h) (all_news sender os h) in
      ap (λ a. option_or a (accepts_in frames h (parts_of mid sender os))) (one_part sent o (all_news sender os h) more)
      ∙ ap (option_or (first_accepted (news_of sender o h))) (all_parts mid os (λ k x e. more k x (ap (λ l. slice_get l k) (sym is) ∙ e)))
      ∙ sym (first_of_both (news_of sender o h) (all_news sender os h))

-- ---- an event

module _ {N : Type 0} (acts : NodeActs N) (h : ℕ) (frames : List SentFrame) where
  abbrev Has : List SentFrame → Type 0
  Has there = (k : ℕ) (x : SentFrame) → slice_get there k ≡ Some x → slice_get frames k ≡ Some x

  nothing_new : (sent later : List SentFrame) → later ≡ sent → None ≡ first_accepted (drop (length sent) later)
  nothing_new sent later same = sym (ap (λ l. first_accepted (drop (length sent) l)) same ∙ ap first_accepted (drop-length sent))

  over_none : (error : NodeError) → accepts_by frames h (over error) ≡ None
  over_none (errors.Refused why) = refl
  over_none (errors.Stopped stop) = refl

  cleaned_none : (r : Result (List ℕ) NodeError) → accepts_by frames h (cleaned r) ≡ None
  cleaned_none (Ok groups) = refl
  cleaned_none (Err error) = over_none error

  settled : (sent later : Sent) (e : ClusterEvent) (old new : N) (answered : NodeAnswer) (o : EventOutcome) → Has (later h) → Settles acts sent e old answered o later new
      → accepts_by frames h o ≡ first_accepted (drop (length (sent h)) (later h))
  settled sent later e old new (Did (Ok outcomes)) o has (inl done) =
      let sender = acts.id old in
      let is : later h ≡ sent h ++ all_news sender outcomes h = done.sends.sends h ∙ after_is sent sender outcomes h in
      ap (accepts_by frames h) done.outcome ∙ ap (accepts_in frames h) done.sends.numbered
      ∙ all_parts sender h frames sent outcomes (λ k x there. has k x (ap (λ l. slice_get l k) is ∙ there))
      ∙ sym (ap (λ l. first_accepted (drop (length (sent h)) l)) is ∙ ap first_accepted (drop-append_seam (sent h) (all_news sender outcomes h)))
  settled sent later e old new (Did (Ok outcomes)) o has (inr lacks) = ap (accepts_by frames h) lacks.outcome ∙ nothing_new (sent h) (later h) (lacks.sends h)
  settled sent later e old new (Did (Err error)) o has is_over =
      ap (accepts_by frames h) is_over.outcome ∙ over_none error ∙ nothing_new (sent h) (later h) (is_over.sends h)
  settled sent later e old new (HasCleaned r) o has is_over =
      ap (accepts_by frames h) is_over.outcome ∙ cleaned_none r ∙ nothing_new (sent h) (later h) (is_over.sends h)

  -- where none of its frames was lost since
  pub accepts_still : (nodes new : List N) (sent later : Sent) (history : List Recorded) (e : ClusterEvent) (o : EventOutcome) → Has (later h) → Happens acts nodes sent history e o new later
      → accepts_by frames h o ≡ first_accepted (drop (length (sent h)) (later h))
  accepts_still nodes new sent later history e o has happens = go (refusal_in acts nodes sent history e) happens
    where
      go : (w : Option ClusterRefusal) → HappensBy acts w nodes sent e o new later → accepts_by frames h o ≡ first_accepted (drop (length (sent h)) (later h))
      go (Some why) away = ap (accepts_by frames h) away.outcome ∙ nothing_new (sent h) (later h) (ap (λ (s : Sent). s h) away.sends)
      go None (inl r) = settled sent later e r.comes.behind r.behind r.comes.answered o has r.comes.settles
      go None (inr spared) = ap (accepts_by frames h) spared.turned.outcome ∙ nothing_new (sent h) (later h) (ap (λ (s : Sent). s h) spared.turned.sends)
