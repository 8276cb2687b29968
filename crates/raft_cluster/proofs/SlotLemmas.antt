-- A node in its slot, and the lists of nodes and answers.
use Rattle.std.proofs.Common.{◌≡◌, ◌<◌, ◌∙◌, ℕ, eqb, eqb-true, Bool, true, false, List, Option, Some, None, get_or, length, map, slice_get, zero, suc, [], ◌∷◌, inl, refl, sym, ap, subst, arith}
use Rattle.std.proofs.lemmas.Bool.{eq-eqb}
use Rattle.std.specs.Prelude.{slice_set}
use Rattle.std.specs.Option.{option_map}
use Rattle.std.proofs.lemmas.List.{length-map, map-set}
use Rattle.std.proofs.lemmas.Option.{slice_get-map, slice_get_read}
use Rattle.raft_cluster_events.specs.declared.event.ClusterEvent.{ClusterEvent}
use Rattle.raft_cluster_events.specs.declared.outcome.CrashRefusal.TheVariants.{Memory}
use Rattle.raft_cluster_events.specs.declared.outcome.EventOutcome.{EventOutcome}
use Rattle.raft_cluster_events.specs.declared.outcome.Recorded.{Recorded}
use Rattle.raft_cluster_events.specs.Node.{NodeActs}
use Rattle.raft_cluster.specs.declared.answer.Answer.{Answer}
use Rattle.raft_cluster.specs.Facts.{Sent, node_of, place_in}
use Rattle.raft_cluster.specs.Happening.{RefusesFor}
use Rattle.raft_cluster.specs.Round.{AreAhead, HasPart, IsTurned, WantsMemory}
use Rattle.raft_cluster.specs.Turn.{HappensAt, IsAtTurn, refusal_for}
use Rattle.raft_cluster.specs.Worked.{IsWorked}
use Rattle.raft_cluster.proofs.TurnLemmas.{set_at, set_other, set_same}

pub mapped_at : {A B : Type 0} (f : A → B) (xs : List A) (k : ℕ) (x : A) → slice_get xs k ≡ Some x → slice_get (map f xs) k ≡ Some (f x)
mapped_at f xs k x e = slice_get-map f xs k ∙ ap (option_map f) e

-- what a slot says stays where the new slot says it too
pub same_slots : {A B : Type 0} (f : A → B) (xs : List A) (k : ℕ) (old new : A) → slice_get xs k ≡ Some old → f new ≡ f old → map f (slice_set xs k new) ≡ map f xs
same_slots f xs k old new there same =
    map-set f xs k new ∙ ap (slice_set (map f xs) k) same ∙ set_same (map f xs) k (f old) (mapped_at f xs k old there)

-- the slot at the place that was found
pub stands : {S : Type 0} (slots listed : List S) (place : ℕ) (old : S) → listed ≡ slots → place < length listed → old ≡ get_or slots place old → slice_get slots place ≡ Some old
stands slots listed place old same within is = slice_get_read slots (length slots) place old refl (subst (λ ss. place < length ss) same within) is

-- which is the place of the node that the event is for
pub found : {N S : Type 0} (acts : NodeActs N) (node : S → N) (slots listed : List S) (place : ℕ) (asked id : Option ℕ) → listed ≡ slots → asked ≡ id → Some place ≡ place_in acts (map node listed) asked → place_in acts (map node slots) id ≡ Some place
found acts node slots listed place asked id same of first =
    sym (first ∙ ap (λ ss. place_in acts (map node ss) asked) same ∙ ap (place_in acts (map node slots)) of)

-- which isn't among them
pub missing : {N S : Type 0} (acts : NodeActs N) (node : S → N) (slots listed : List S) (asked id : Option ℕ) → listed ≡ slots → asked ≡ id → None ≡ place_in acts (map node listed) asked → place_in acts (map node slots) id ≡ None
missing acts node slots listed asked id same of first =
    sym (first ∙ ap (λ ss. place_in acts (map node ss) asked) same ∙ ap (place_in acts (map node slots)) of)

module _ {N S : Type 0} (acts : NodeActs N) (node : S → N) (answer : S → Option Answer) (sent : Sent) (history : List Recorded) (event : ClusterEvent) (slots : List S) (place : ℕ) (old : S) (here : place_in acts (map node slots) (node_of sent event) ≡ Some place) (there : slice_get slots place ≡ Some old) where
  pub at_turned : (new : S) (o : EventOutcome) (later : Sent) → answer new ≡ None → ((before : N) → IsAtTurn acts sent history event before (node old) (answer old) → HappensAt acts before sent history event o later (node new))
      → IsTurned acts sent history event (map node slots) (map answer slots) o (map node (slice_set slots place new)) (map answer (slice_set slots place new)) later
  at_turned new o later left happens =
      inl (record {
        place = place;
        node = node old;
        answer = answer old;
        behind = node new;
        here = here;
        there = mapped_at node slots place old there;
        answered = mapped_at answer slots place old there;
        nodes = map-set node slots place new;
        left = map-set answer slots place new ∙ ap (slice_set (map answer slots) place) left;
        happens = happens;
      })

  pub wants : answer old ≡ None → refusal_for acts (node old) sent history event ≡ None → RefusesFor acts event (node old) Memory → WantsMemory acts sent history event (map node slots) (map answer slots)
  wants none admitted refuses =
      record {
        place = place;
        node = node old;
        here = here;
        there = mapped_at node slots place old there;
        unanswered = mapped_at answer slots place old there ∙ ap Some none;
        admitted = admitted;
        refuses = refuses;
      }

-- ---- all slots of a round

pub differ : (a b : ℕ) → eqb a b ≡ false → a ≡ b → ⊥
differ a b unequal e = let equal = eq-eqb a b e in absurd (cc)

same_ids : {N S : Type 0} (acts : NodeActs N) (node : S → N) (olds news : List S) → length news ≡ length olds → ((place : ℕ) (old new : S) → slice_get olds place ≡ Some old → slice_get news place ≡ Some new → acts.id (node new) ≡ acts.id (node old))
    → map (λ s. acts.id (node s)) news ≡ map (λ s. acts.id (node s)) olds
same_ids acts node [] [] same each = refl
same_ids acts node [] (y ∷ ys) same each = absurd (omega arith)
same_ids acts node (x ∷ xs) [] same each = absurd (omega arith)
same_ids acts node (x ∷ xs) (y ∷ ys) same each =
    ap (λ i. i ∷ map (λ s. acts.id (node s)) ys) (each zero x y refl refl) ∙ ap (λ l. acts.id (node x) ∷ l) (same_ids acts node xs ys (omega arith) (λ place old new a b. each (suc place) old new a b))

-- what stands at a place of a list's images is the image of what stands there
pub record IsImage {S A : Type 0} (f : S → A) (slots : List S) (place : ℕ) (a : A) : Type 0 where
  pub slot : S
  pub there : slice_get slots place ≡ Some slot
  pub is : f slot ≡ a

pub image_of : {S A : Type 0} (f : S → A) (slots : List S) (place : ℕ) (a : A) → slice_get (map f slots) place ≡ Some a → IsImage f slots place a
image_of f [] place a e = absurd (cc)
image_of f (x ∷ xs) zero a e = record { slot = x; there = refl; is = cc }
image_of f (x ∷ xs) (suc place) a e = let i = image_of f xs place a e in record { slot = i.slot; there = i.there; is = i.is }

pub one_there : {A : Type 0} (xs : List A) (place : ℕ) (x y : A) → slice_get xs place ≡ Some x → slice_get xs place ≡ Some y → x ≡ y
one_there xs place x y a b = cc

part : {N : Type 0} (acts : NodeActs N) (ids : List ℕ) (sent : Sent) (history : List Recorded) (events left : List ClusterEvent) (place : ℕ) (old n new : N) (w a : Option Answer) → n ≡ new → w ≡ a → HasPart acts ids sent history events left place old n w → HasPart acts ids sent history events left place old new a
part {N} acts ids sent history events left place old n new w a is_new is_a h =
    let B : N → Type 0 = λ y. HasPart acts ids sent history events left place old y a in
    let C : Option Answer → Type 0 = λ v. HasPart acts ids sent history events left place old n v in
    subst B is_new (subst C is_a h)

-- a node whose slot was at this place before stands there still
record WasThere {S : Type 0} (slots : List S) (place : ℕ) : Type 0 where
  pub slot : S
  pub there : slice_get slots place ≡ Some slot

was_there : {S : Type 0} (olds news : List S) (place : ℕ) (new : S) → length news ≡ length olds → slice_get news place ≡ Some new → WasThere olds place
was_there [] [] place new same there = absurd (cc)
was_there [] (y ∷ ys) place new same there = absurd (omega arith)
was_there (x ∷ xs) [] place new same there = absurd (omega arith)
was_there (x ∷ xs) (y ∷ ys) zero new same there = record { slot = x; there = refl }
was_there (x ∷ xs) (y ∷ ys) (suc place) new same there =
    let w = was_there xs ys place new (omega arith) there in record { slot = w.slot; there = w.there }

pub map_twice : {A B C : Type 0} (f : B → C) (g : A → B) (xs : List A) → map f (map g xs) ≡ map (λ x. f (g x)) xs
map_twice f g [] = refl
map_twice f g (x ∷ xs) = ap (λ l. f (g x) ∷ l) (map_twice f g xs)

module _ {N S : Type 0} (acts : NodeActs N) (node : S → N) (answer : S → Option Answer) (ids : List ℕ) (sent : Sent) (history : List Recorded) (events : List ClusterEvent) where
  -- nodes on threads
  pub all_ahead : (before : List N) (olds news : List S) → length news ≡ length olds
      → ((place : ℕ) (old new : S) → slice_get olds place ≡ Some old → slice_get news place ≡ Some new → IsWorked acts ids sent history events place (node old) (answer old) (node new) (answer new))
      → AreAhead acts ids sent history events events before (map node olds) (map answer olds) → AreAhead acts ids sent history events events before (map node news) (map answer news)
  all_ahead before olds news same worked ahead =
      record {
        ids_before = ahead.ids_before;
        ids_now = map_twice acts.id node news ∙ same_ids acts node olds news same (λ place old new was is. (worked place old new was is).id) ∙ sym (map_twice acts.id node olds) ∙ ahead.ids_now;
        each = length-map news answer ∙ sym (length-map news node);
        parts = λ place old new a was now has.
            let n = image_of node news place new now in
            let w = image_of answer news place a has in
            let one : n.slot ≡ w.slot = one_there news place n.slot w.slot n.there w.there in
            let o = was_there olds news place n.slot same n.there in
            let h = (worked place o.slot n.slot o.there n.there).part old (ahead.parts place old (node o.slot) (answer o.slot) was (mapped_at node olds place o.slot o.there) (mapped_at answer olds place o.slot o.there)) in
            part acts ids sent history events events place old (node n.slot) new (answer n.slot) a n.is (ap answer one ∙ w.is) h;
      }

  -- one node is asked
  module _ (left : List ClusterEvent) (before : List N) (slots : List S) (place : ℕ) (old new : S) (there : slice_get slots place ≡ Some old) where
    pub one_ahead : acts.id (node new) ≡ acts.id (node old) → ((b : N) → HasPart acts ids sent history events left place b (node old) (answer old) → HasPart acts ids sent history events left place b (node new) (answer new))
        → AreAhead acts ids sent history events left before (map node slots) (map answer slots) → AreAhead acts ids sent history events left before (map node (slice_set slots place new)) (map answer (slice_set slots place new))
    one_ahead same asks ahead =
        record {
          ids_before = ahead.ids_before;
          ids_now = ap (map acts.id) (map-set node slots place new) ∙ same_slots acts.id (map node slots) place (node old) (node new) (mapped_at node slots place old there) same ∙ ahead.ids_now;
          each = length-map (slice_set slots place new) answer ∙ sym (length-map (slice_set slots place new) node);
          parts = λ at x y a was now has.
              let n = image_of node (slice_set slots place new) at y now in
              let w = image_of answer (slice_set slots place new) at a has in
              let one : n.slot ≡ w.slot = one_there (slice_set slots place new) at n.slot w.slot n.there w.there in
              part acts ids sent history events left at x (node n.slot) y (answer n.slot) a n.is (ap answer one ∙ w.is) (go at x n.slot (eqb at place) refl was n.there);
        }
      where
        go : (at : ℕ) (x : N) (slot : S) (b : Bool) → eqb at place ≡ b → slice_get before at ≡ Some x → slice_get (slice_set slots place new) at ≡ Some slot → HasPart acts ids sent history events left at x (node slot) (answer slot)
        go at x slot true is was stands =
            let here : at ≡ place = eqb-true at place is in
            let now : slice_get (slice_set slots place new) place ≡ Some new = set_at slots place new old there in
            let same : new ≡ slot = one_there (slice_set slots place new) place new slot now (ap (slice_get (slice_set slots place new)) (sym here) ∙ stands) in
            let P : S → Type 0 = λ s. HasPart acts ids sent history events left place x (node s) (answer s) in
            let Q : ℕ → Type 0 = λ k. HasPart acts ids sent history events left k x (node slot) (answer slot) in
            subst Q (sym here) (subst P same (asks x (ahead.parts place x (node old) (answer old) (ap (slice_get before) (sym here) ∙ was) (mapped_at node slots place old there) (mapped_at answer slots place old there))))
        go at x slot false is was stands =
            let stood : slice_get slots at ≡ Some slot = sym (set_other slots at place new (differ at place is)) ∙ stands in
            ahead.parts at x (node slot) (answer slot) was (mapped_at node slots at slot stood) (mapped_at answer slots at slot stood)

module _ {S : Type 0} (answer : S → Option Answer) (slots : List S) (place : ℕ) (old new : S) (there : slice_get slots place ≡ Some old) where
  pub one_kept : (answer new ≡ None → answer old ≡ None) → (at : ℕ) → slice_get (map answer (slice_set slots place new)) at ≡ Some None → slice_get (map answer slots) at ≡ Some None
  one_kept keeps at none = go (eqb at place) refl
    where
      go : (b : Bool) → eqb at place ≡ b → slice_get (map answer slots) at ≡ Some None
      go true is =
          let here : at ≡ place = eqb-true at place is in
          let now : slice_get (map answer (slice_set slots place new)) place ≡ Some (answer new) = mapped_at answer (slice_set slots place new) place new (set_at slots place new old there) in
          let idle : answer new ≡ None = one_there (map answer (slice_set slots place new)) place (answer new) None now (ap (slice_get (map answer (slice_set slots place new))) (sym here) ∙ none) in
          ap (slice_get (map answer slots)) here ∙ mapped_at answer slots place old there ∙ ap Some (keeps idle)
      go false is =
          sym (set_other (map answer slots) at place (answer new) (differ at place is)) ∙ ap (λ l. slice_get l at) (sym (map-set answer slots place new)) ∙ none

-- no place has no answer on a sudden
pub all_kept : {S : Type 0} (answer : S → Option Answer) (olds news : List S) → length news ≡ length olds
    → ((place : ℕ) (old new : S) → slice_get olds place ≡ Some old → slice_get news place ≡ Some new → answer new ≡ None → answer old ≡ None)
    → (place : ℕ) → slice_get (map answer news) place ≡ Some None → slice_get (map answer olds) place ≡ Some None
all_kept answer olds news same keeps place none =
    let n = image_of answer news place None none in
    let o = was_there olds news place n.slot same n.there in
    mapped_at answer olds place o.slot o.there ∙ ap Some (keeps place o.slot n.slot o.there n.there n.is)
