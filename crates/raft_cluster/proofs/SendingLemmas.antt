-- What was sent last, and how it is taken back.
use Rattle.std.proofs.Common.{◌≡◌, ◌≢◌, ℕ, Bool, true, false, cond, eqb, List, [], ◌∷◌, ◌++◌, length, take, Some, None, slice_get, refl, sym, ap, ◌∙◌, subst, arith}
use Rattle.raft_sent_frames.specs.declared.frame.NodeFrame.{NodeFrame}
use Rattle.raft_sent_frames.specs.declared.frame.SentFrame.{SentFrame}
use Rattle.raft_sent_frames.specs.declared.frame.SentNumber.{SentNumber}
use Rattle.raft_sent_frames.specs.Frames.{numbers_from, sent_by}
use Rattle.raft_cluster_events.specs.declared.node.NodeOutcome.{NodeOutcome}
use Rattle.raft_cluster_events.specs.declared.outcome.GroupOutcome.{GroupOutcome}
use Rattle.raft_cluster.specs.Facts.{Sent}
use Rattle.raft_cluster.specs.Sending.{AreSent, part_of, parts_of, sent_after, sent_after_one}

pub after_last : (sent : Sent) (sender : ℕ) (before : List NodeOutcome) (o : NodeOutcome) → sent_after sent sender (before ++ o ∷ []) ≡ sent_after_one (sent_after sent sender before) sender o
after_last sent sender [] o = refl
after_last sent sender (x ∷ xs) o = after_last (sent_after_one sent sender x) sender xs o

parts_last : (sent : Sent) (sender : ℕ) (before : List NodeOutcome) (o : NodeOutcome) → parts_of sent sender (before ++ o ∷ []) ≡ parts_of sent sender before ++ part_of (sent_after sent sender before) o ∷ []
parts_last sent sender [] o = refl
parts_last sent sender (x ∷ xs) o = ap (λ ps. part_of sent x ∷ ps) (parts_last (sent_after_one sent sender x) sender xs o)

-- one outcome more is sent
pub sends_more : (sent : Sent) (sender : ℕ) (before : List NodeOutcome) (o : NodeOutcome) (parts : List GroupOutcome) (now : Sent) (part : GroupOutcome) (more : List GroupOutcome) (later : Sent) → AreSent sent sender before parts now → part ≡ part_of now o → ((group : ℕ) → later group ≡ sent_after_one now sender o group) → more ≡ parts ++ part ∷ [] → AreSent sent sender (before ++ o ∷ []) more later
sends_more sent sender before o parts now part more later h numbered sends pushed =
    let placed : List SentFrame → GroupOutcome = λ s. record { group = o.group; sent = numbers_from (length s) o.frames; told = o.told; unknown = o.unknown } in
    record {
      numbered =
          pushed
          ∙ ap (λ p. parts ++ p ∷ []) (numbered ∙ ap placed (h.sends o.group))
          ∙ ap (λ ps. ps ++ part_of (sent_after sent sender before) o ∷ []) h.numbered
          ∙ sym (parts_last sent sender before o);
      sends = λ group.
          sends group
          ∙ ap (λ s. cond (eqb o.group group) (s ++ sent_by sender o.frames) s) (h.sends group)
          ∙ sym (ap (λ (s : Sent). s group) (after_last sent sender before o));
    }

-- ---- taken back

pub number_of_first : (n : ℕ) (frames : List NodeFrame) (first : SentNumber) → Some first ≡ slice_get (numbers_from n frames) 0 → first.number ≡ n
number_of_first n [] first e = absurd (cc)
number_of_first n (frame ∷ frames) first e = cc

pub nothing_first : (n : ℕ) (frames : List NodeFrame) → slice_get (numbers_from n frames) 0 ≡ None → frames ≡ []
nothing_first n [] e = refl
nothing_first n (frame ∷ frames) e = absurd (cc)

take_front : (xs ys : List SentFrame) → take (length xs) (xs ++ ys) ≡ xs
take_front [] ys = refl
take_front (x ∷ xs) ys = ap (λ l. x ∷ l) (take_front xs ys)

same_group : (a b : ℕ) → eqb a b ≡ true → b ≡ a
same_group a b e = grind arith

other_group : (a b : ℕ) → eqb a b ≡ false → b ≢ a
other_group a b e = grind arith

back_if : (f : Sent) (sender : ℕ) (o : NodeOutcome) (old new : Sent) (n group : ℕ) (b : Bool) → eqb o.group group ≡ b → n ≡ length (f o.group) → old group ≡ cond b (f group ++ sent_by sender o.frames) (f group) → new o.group ≡ take n (old o.group) → ((other : ℕ) → other ≢ o.group → new other ≡ old other) → new group ≡ f group
back_if f sender o old new n group true e long was taken others =
    let same : group ≡ o.group = same_group o.group group e in
    let P : ℕ → Type 0 = λ g. new g ≡ take n (old g) in
    let here : new group ≡ take n (old group) = subst P (sym same) taken in
    let count : n ≡ length (f group) = long ∙ ap (λ g. length (f g)) (sym same) in
    here ∙ ap (take n) was ∙ ap (λ k. take k (f group ++ sent_by sender o.frames)) count ∙ take_front (f group) (sent_by sender o.frames)
back_if f sender o old new n group false e long was taken others = others group (other_group o.group group e) ∙ was

pub back_at : (f : Sent) (sender : ℕ) (o : NodeOutcome) (old new : Sent) (n : ℕ) → n ≡ length (f o.group) → ((group : ℕ) → old group ≡ sent_after_one f sender o group) → new o.group ≡ take n (old o.group) → ((other : ℕ) → other ≢ o.group → new other ≡ old other) → (group : ℕ) → new group ≡ f group
back_at f sender o old new n long was taken others group = back_if f sender o old new n group (eqb o.group group) refl long (was group) taken others

append_nil_of : (xs : List SentFrame) → xs ++ [] ≡ xs
append_nil_of [] = refl
append_nil_of (x ∷ xs) = ap (λ l. x ∷ l) (append_nil_of xs)

none_sent_if : (f : Sent) (group : ℕ) (b : Bool) → cond b (f group ++ []) (f group) ≡ f group
none_sent_if f group true = append_nil_of (f group)
none_sent_if f group false = refl

-- where nothing was sent there is nothing to take back
pub none_sent : (f : Sent) (sender : ℕ) (o : NodeOutcome) → o.frames ≡ [] → (group : ℕ) → sent_after_one f sender o group ≡ f group
none_sent f sender o none group =
    ap (λ frames. cond (eqb o.group group) (f group ++ sent_by sender frames) (f group)) none ∙ none_sent_if f group (eqb o.group group)

pub record LastPart (sent : Sent) (sender : ℕ) (outcomes : List NodeOutcome) (before : List GroupOutcome) (last : GroupOutcome) : Type 0 where
  pub front : List NodeOutcome
  pub outcome : NodeOutcome
  pub split : outcomes ≡ front ++ outcome ∷ []
  pub parts : before ≡ parts_of sent sender front
  pub part : last ≡ part_of (sent_after sent sender front) outcome

pub no_parts : (sent : Sent) (sender : ℕ) (outcomes : List NodeOutcome) → [] ≡ parts_of sent sender outcomes → outcomes ≡ []
no_parts sent sender [] e = refl
no_parts sent sender (o ∷ os) e = absurd (cc)

pub last_part : (sent : Sent) (sender : ℕ) (outcomes : List NodeOutcome) (before : List GroupOutcome) (part : GroupOutcome) → before ++ part ∷ [] ≡ parts_of sent sender outcomes → LastPart sent sender outcomes before part
last_part sent sender [] [] part e = absurd (cc)
last_part sent sender [] (b ∷ bs) part e = absurd (cc)
last_part sent sender (o ∷ os) [] part e =
    let rest : [] ≡ parts_of (sent_after_one sent sender o) sender os = cc in
    let none : os ≡ [] = no_parts (sent_after_one sent sender o) sender os rest in
    record {
      front = [];
      outcome = o;
      split = ap (λ l. o ∷ l) none;
      parts = refl;
      part = cc;
    }
last_part sent sender (o ∷ os) (b ∷ bs) part e =
    let rest : bs ++ part ∷ [] ≡ parts_of (sent_after_one sent sender o) sender os = cc in
    let first : b ≡ part_of sent o = cc in
    let h = last_part (sent_after_one sent sender o) sender os bs part rest in
    record {
      front = o ∷ h.front;
      outcome = h.outcome;
      split = ap (λ l. o ∷ l) h.split;
      parts = ap (λ l. l ∷ bs) first ∙ ap (λ l. part_of sent o ∷ l) h.parts;
      part = h.part;
    }
