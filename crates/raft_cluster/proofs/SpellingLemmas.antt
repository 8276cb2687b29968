-- The frames that an event sends say its messages, and have their numbers.
use Rattle.std.proofs.Common.{◌≡◌, ◌+◌, ℕ, eqb, Bool, true, false, cond, List, [], ◌∷◌, ◌++◌, Some, length, refl, sym, ap, ◌∙◌, subst, arith, append-nil, eqb-true}
use Rattle.std.proofs.lemmas.Bool.{eq-eqb}
use Rattle.std.proofs.lemmas.Slice.Zip.{AllZip-long}
use Rattle.std.specs.List.{AllByRecursion, AllZip, find}
use Rattle.raft_group_step.specs.Message.{Message}
use Rattle.raft_sent_frames.specs.declared.frame.NodeFrame.{NodeFrame}
use Rattle.raft_sent_frames.specs.declared.frame.SentFrame.{SentFrame}
use Rattle.raft_sent_frames.specs.declared.frame.SentNumber.{SentNumber}
use Rattle.raft_sent_frames.specs.Frames.{numbers_from}
use Rattle.raft_sent_frames.specs.Frames.{sent_by as frames_by}
use Rattle.raft_headline.specs.ClusterEvent.{Done, Recorded, Said, said_of, said_or}
use Rattle.raft_headline.specs.Told.{said_if}
use Rattle.raft_cluster_laws.specs.Along.{sent_by}
use Rattle.raft_cluster_events.specs.declared.node.NodeOutcome.{NodeOutcome}
use Rattle.raft_cluster_events.specs.declared.outcome.GroupOutcome.{GroupOutcome}
use Rattle.raft_node_laws.specs.Reporting.{IsPartAs, IsSentAs, numbered_from}
use Rattle.raft_node_laws.specs.Saying.{IsFrameOf, IsOnceEach, IsPart, SaysOf}
use Rattle.raft_cluster.specs.Facts.{Sent}
use Rattle.raft_cluster.specs.Sending.{part_of, parts_of, sent_after, sent_after_one}
use Rattle.raft_cluster.proofs.ListLemmas.{all_zip_append}

same_other : (a b h : ℕ) → a ≡ h → eqb a b ≡ false → eqb b h ≡ false
same_other a b h is other = grind arith

module _ (spells : ℕ → Message → List ℕ → Type 0) (own sender : ℕ) (mine : sender ≡ own) where
  frames_say : (g h : ℕ) → g ≡ h → (frames : List NodeFrame) (ms : List Message) → AllZip (IsFrameOf spells own g) frames ms → AllZip (IsSentAs spells h) (frames_by sender frames) ms
  frames_say g h is [] [] all = tt
  frames_say g h is [] (m ∷ ms) all = absurd all
  frames_say g h is (f ∷ fs) [] all = absurd all
  frames_say g h is (f ∷ fs) (m ∷ ms) all = (
    record {
      sender = mine ∙ sym all.0.sender;
      addressee = sym all.0.addressee;
      spelled = subst (λ k. spells k m f.bytes) is all.0.spelled;
      accepts = all.0.accepts;
    },
    frames_say g h is fs ms all.1,
  )

  same_numbers : (g n : ℕ) (frames : List NodeFrame) (ms : List Message) → AllZip (IsFrameOf spells own g) frames ms → numbers_from n frames ≡ numbered_from n ms
  same_numbers g n [] [] all = refl
  same_numbers g n [] (m ∷ ms) all = absurd all
  same_numbers g n (f ∷ fs) [] all = absurd all
  same_numbers g n (f ∷ fs) (m ∷ ms) all =
      let numbered : ℕ → SentNumber = λ p. record { peer = p; number = n } in
      ap (λ p. numbered p ∷ numbers_from (n + 1) fs) (sym all.0.addressee) ∙ ap (λ l. numbered m.addressee ∷ l) (same_numbers g (n + 1) fs ms all.1)

  -- ---- one group

  with_none : (h : ℕ) (frames : List SentFrame) (ms : List Message) → AllZip (IsSentAs spells h) frames ms → AllZip (IsSentAs spells h) frames (ms ++ [])
  with_none h frames ms all = subst (λ l. AllZip (IsSentAs spells h) frames l) (sym (append-nil ms)) all

  pub one_says : (h : ℕ) (sent : Sent) (ms : List Message) (outcome : NodeOutcome) (said : Said) → SaysOf spells own outcome said → AllZip (IsSentAs spells h) (sent h) ms
      → AllZip (IsSentAs spells h) (sent_after_one sent sender outcome h) (ms ++ (said_if (eqb outcome.group h) (Done said)).sent)
  one_says h sent ms outcome said says all = go (eqb outcome.group h) refl
    where
      go : (b : Bool) → eqb outcome.group h ≡ b → AllZip (IsSentAs spells h) (cond b (sent h ++ frames_by sender outcome.frames) (sent h)) (ms ++ (said_if b (Done said)).sent)
      go true is = all_zip_append (IsSentAs spells h) (sent h) (frames_by sender outcome.frames) ms said.sent all (frames_say outcome.group h (eqb-true outcome.group h is) outcome.frames said.sent says.sent)
      go false is = with_none h (sent h) ms all

  pub part_says : (plain : List Recorded) (sent : Sent) (outcome : NodeOutcome) (said : Said) → SaysOf spells own outcome said → length (sent outcome.group) ≡ length (sent_by outcome.group plain)
      → IsPartAs plain (part_of sent outcome) said
  part_says plain sent outcome said says long = record {
    sent = same_numbers outcome.group (length (sent outcome.group)) outcome.frames said.sent says.sent ∙ ap (λ n. numbered_from n said.sent) long;
    told = says.told;
    unknown = says.unknown;
  }

  -- ---- an opening

  unsent : (h g : ℕ) → g ≡ h → (sent : Sent) (outcomes : List NodeOutcome) → AllByRecursion (λ (y : NodeOutcome). eqb g y.group ≡ false) outcomes → sent_after sent sender outcomes h ≡ sent h
  unsent h g is sent [] none = refl
  unsent h g is sent (x ∷ xs) none =
      unsent h g is (sent_after_one sent sender x) xs none.1
      ∙ ap (λ b. cond b (sent h ++ frames_by sender x.frames) (sent h)) (same_other g x.group h is none.0)

  pub all_say : (h : ℕ) (sent : Sent) (ms : List Message) (outcomes : List NodeOutcome) (parts : List (ℕ × Said)) → AllZip (IsPart spells own) outcomes parts → IsOnceEach outcomes
      → AllZip (IsSentAs spells h) (sent h) ms → AllZip (IsSentAs spells h) (sent_after sent sender outcomes h) (ms ++ (said_of h parts).sent)
  all_say h sent ms [] [] each once all = with_none h (sent h) ms all
  all_say h sent ms [] (p ∷ ps) each once all = absurd each
  all_say h sent ms (x ∷ xs) [] each once all = absurd each
  all_say h sent ms (x ∷ xs) (p ∷ ps) each once all = go (eqb p.0 h) refl (λ there. all_say h (sent_after_one sent sender x) ms xs ps each.1 once.1 there)
    where
      go : (b : Bool) → eqb p.0 h ≡ b
          → (AllZip (IsSentAs spells h) (sent_after_one sent sender x h) ms → AllZip (IsSentAs spells h) (sent_after (sent_after_one sent sender x) sender xs h) (ms ++ (said_of h ps).sent))
          → AllZip (IsSentAs spells h) (sent_after (sent_after_one sent sender x) sender xs h) (ms ++ (said_or (cond b (Some p) (find (λ (part : ℕ × Said). eqb part.0 h) ps))).sent)
      go true is rest =
          let here : x.group ≡ h = sym each.0.group ∙ eqb-true p.0 h is in
          let shown : eqb x.group h ≡ true = eq-eqb x.group h here in
          let one = one_says h sent ms x p.1 each.0.says all in
          subst (λ fs. AllZip (IsSentAs spells h) fs (ms ++ p.1.sent)) (sym (unsent h x.group here (sent_after_one sent sender x) xs once.0))
          (subst (λ b. AllZip (IsSentAs spells h) (sent_after_one sent sender x h) (ms ++ (said_if b (Done p.1)).sent)) shown one)
      go false is rest =
          let hidden : eqb x.group h ≡ false = ap (λ g. eqb g h) (sym each.0.group) ∙ is in
          rest (subst (λ fs. AllZip (IsSentAs spells h) fs ms) (sym (ap (λ b. cond b (sent h ++ frames_by sender x.frames) (sent h)) hidden)) all)

  -- who has another group has as many frames as before
  others_stay : (plain : List Recorded) (sent : Sent) (x : NodeOutcome) (xs : List NodeOutcome)
      → AllByRecursion (λ (y : NodeOutcome). eqb x.group y.group ≡ false) xs
      → AllByRecursion (λ (o : NodeOutcome). length (sent o.group) ≡ length (sent_by o.group plain)) xs
      → AllByRecursion (λ (o : NodeOutcome). length (sent_after_one sent sender x o.group) ≡ length (sent_by o.group plain)) xs
  others_stay plain sent x [] other long = tt
  others_stay plain sent x (y ∷ ys) other long =
      (ap (λ b. length (cond b (sent y.group ++ frames_by sender x.frames) (sent y.group))) other.0 ∙ long.0, others_stay plain sent x ys other.1 long.1)

  pub parts_say : (plain : List Recorded) (sent : Sent) (outcomes : List NodeOutcome) (parts : List (ℕ × Said)) → AllZip (IsPart spells own) outcomes parts → IsOnceEach outcomes
      → AllByRecursion (λ (o : NodeOutcome). length (sent o.group) ≡ length (sent_by o.group plain)) outcomes
      → AllZip (λ (part : GroupOutcome) (said : ℕ × Said). (said.0 ≡ part.group) × IsPartAs plain part said.1) (parts_of sent sender outcomes) parts
  parts_say plain sent [] [] each once long = tt
  parts_say plain sent [] (p ∷ ps) each once long = absurd each
  parts_say plain sent (x ∷ xs) [] each once long = absurd each
  parts_say plain sent (x ∷ xs) (p ∷ ps) each once long = (
    (each.0.group, part_says plain sent x p.1 each.0.says long.0),
    parts_say plain (sent_after_one sent sender x) xs ps each.1 once.1 (others_stay plain sent x xs once.0 long.1),
  )

-- as many frames as messages
pub same_length : (spells : ℕ → Message → List ℕ → Type 0) (h : ℕ) (frames : List SentFrame) (ms : List Message) → AllZip (IsSentAs spells h) frames ms → length frames ≡ length ms
same_length spells h frames ms all = sym (AllZip-long (IsSentAs spells h) frames ms all)
