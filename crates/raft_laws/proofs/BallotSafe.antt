-- What holds of a world in every run.
use Rattle.std.proofs.Common.{◌≡◌, ℕ, zero, suc, ◌<◌, ◌≤◌, List, [], ◌∷◌, length, drop, Some, None, Bool, true, false, ◌||◌, sym, subst, inl, inr, ⊎_elim}
use Rattle.std.specs.Prelude.{slice_get, ◌⊎◌, nat_le}
use Rattle.raft_laws.specs.BallotLists.{AgreeBelow}
use Rattle.raft_laws.specs.BallotLogs.{BallotEntry, ballot_before, log_end}
use Rattle.raft_laws.specs.BallotQuorum.{is_quorum}
use Rattle.raft_laws.specs.BallotWorld.{BallotGroup, BallotNode, BallotRequest, BallotGrant, BallotAppend, BallotReply, BallotWorld, first_entry, ballot_accepted}

-- x is one of them
abbrev pub Among : {A : Type 0} → A → List A → Type 0
Among x [] = ⊥
Among x (y ∷ ys) = (x ≡ y) ⊎ Among x ys

pub among_at : {A : Type 0} (xs : List A) (k : ℕ) (x : A) → slice_get xs k ≡ Some x → Among x xs
among_at [] k x e = absurd (let f : None ≡ Some x = e in cc)
among_at (y ∷ ys) zero x e = let f : Some y ≡ Some x = e in inl cc
among_at (y ∷ ys) (suc k) x e = inr (among_at ys k x e)

pub among_new : {A : Type 0} (P : A → Type 0) (x y : A) (ys : List A) → P y → Among x (y ∷ ys) → Among x ys ⊎ P x
among_new P x y ys p h = ⊎_elim (λ e. inr (subst P (sym e) p)) (λ a. inl a) h

-- a log whose entries are as their leaders wrote them
pub record GoodLog (lead : ℕ → List BallotEntry) (led : ℕ → Bool) (xs : List BallotEntry) (top : ℕ) : Type 0 where
  pub matches : (j : ℕ) (x : BallotEntry) → slice_get xs j ≡ Some x → AgreeBelow (suc j) xs (lead x.ballot)
  pub known : (j : ℕ) (x : BallotEntry) → slice_get xs j ≡ Some x → 0 < x.ballot → led x.ballot ≡ true
  pub rising : (j k : ℕ) (x y : BallotEntry) → j ≤ k → slice_get xs j ≡ Some x → slice_get xs k ≡ Some y → x.ballot ≤ y.ballot
  pub capped : (j : ℕ) (x : BallotEntry) → slice_get xs j ≡ Some x → x.ballot ≤ top

-- n accepted the place, or may still accept it
abbrev pub may_accept : BallotWorld → ℕ → ℕ → ℕ → Bool
may_accept w v i n = ballot_accepted w.replies v i n || nat_le (w.node n).ballot v

-- the place may still be settled under the ballot
pub record IsOpen (g : BallotGroup) (w : BallotWorld) (v i : ℕ) : Type 0 where
  pub quorum : is_quorum g.voters (may_accept w v i) ≡ true
  pub own : (x : BallotEntry) → slice_get (w.lead v) i ≡ Some x → x.ballot ≡ v

-- a quorum accepted the place, whose entry is of this ballot
pub record IsFixed (g : BallotGroup) (w : BallotWorld) (v i : ℕ) : Type 0 where
  pub quorum : is_quorum g.voters (ballot_accepted w.replies v i) ≡ true
  pub own : (x : BallotEntry) → slice_get (w.lead v) i ≡ Some x → x.ballot ≡ v
  pub led : w.led v ≡ true
  pub within : i < length (w.lead v)

-- a later place is settled, under a ballot up to `top`
pub record Covered (g : BallotGroup) (w : BallotWorld) (top i : ℕ) : Type 0 where
  pub ballot : ℕ
  pub place : ℕ
  pub below : ballot ≤ top
  pub past : i < place
  pub fixed : IsFixed g w ballot place

-- the first `count` entries of xs are settled, under a ballot up to `top`
pub record SureBy (g : BallotGroup) (w : BallotWorld) (top count : ℕ) (xs : List BallotEntry) : Type 0 where
  pub ballot : ℕ
  pub place : ℕ
  pub below : ballot ≤ top
  pub upto : count ≤ suc place
  pub fixed : IsFixed g w ballot place
  pub agrees : AgreeBelow count xs (w.lead ballot)

abbrev pub Sure : BallotGroup → BallotWorld → ℕ → ℕ → List BallotEntry → Type 0
Sure g w top count xs = (count ≡ 0) ⊎ SureBy g w top count xs

pub record NodeOk (g : BallotGroup) (w : BallotWorld) (n : ℕ) (s : BallotNode) : Type 0 where
  pub log : GoodLog w.lead w.led s.log s.ballot
  pub leads : s.committed ≡ true → 0 < s.ballot → g.owner s.ballot ≡ n → (s.log ≡ w.lead s.ballot) × (w.led s.ballot ≡ true)
  pub stands : s.committed ≡ false → 0 < s.ballot → g.owner s.ballot ≡ n → s.log ≡ w.stood s.ballot
  pub own : (b : ℕ) → w.led b ≡ true → g.owner b ≡ n → (b ≤ s.ballot) × (b ≡ s.ballot → s.committed ≡ true)
  pub sure : Sure g w s.ballot s.commit s.log

pub record RequestOk (g : BallotGroup) (w : BallotWorld) (r : BallotRequest) : Type 0 where
  pub positive : 0 < r.ballot
  pub last : r.last ≡ log_end (w.stood r.ballot)
  pub known : r.ballot ≤ (w.node (g.owner r.ballot)).ballot

pub record GrantOk (g : BallotGroup) (w : BallotWorld) (q : BallotGrant) : Type 0 where
  pub positive : 0 < q.ballot
  pub voted : q.ballot ≤ (w.node q.node).ballot
  pub known : q.ballot ≤ (w.node (g.owner q.ballot)).ballot
  pub holds : (v i : ℕ) → v < q.ballot → ballot_accepted w.replies v i q.node ≡ true → IsOpen g w v i → AgreeBelow (suc i) (w.stood q.ballot) (w.lead v) ⊎ Covered g w q.ballot i

pub record AppendOk (g : BallotGroup) (w : BallotWorld) (a : BallotAppend) : Type 0 where
  pub led : w.led a.ballot ≡ true
  pub within : a.start ≤ length (w.lead a.ballot)
  pub previous : a.previous ≡ ballot_before (w.lead a.ballot) a.start
  pub entries : AgreeBelow (length a.entries) a.entries (drop a.start (w.lead a.ballot))
  pub sure : Sure g w a.ballot a.commit (w.lead a.ballot)

pub record ReplyOk (g : BallotGroup) (w : BallotWorld) (r : BallotReply) : Type 0 where
  pub led : w.led r.ballot ≡ true
  pub voted : r.ballot ≤ (w.node r.node).ballot
  pub within : r.upto ≤ length (w.lead r.ballot)
  pub kept : (i : ℕ) → i < r.upto → IsOpen g w r.ballot i → AgreeBelow (suc i) (w.node r.node).log (w.lead r.ballot) ⊎ Covered g w (w.node r.node).ballot i

pub record Safe (g : BallotGroup) (w : BallotWorld) : Type 0 where
  pub node : (n : ℕ) → NodeOk g w n (w.node n)
  pub first : AgreeBelow 1 (first_entry g ∷ []) (w.lead 0)
  pub leads : (b : ℕ) → GoodLog w.lead w.led (w.lead b) b
  pub unled : (b : ℕ) → 0 < b → w.led b ≡ false → w.lead b ≡ []
  pub stood : (b : ℕ) → GoodLog w.lead w.led (w.stood b) b
  pub requests : (r : BallotRequest) → Among r w.requests → RequestOk g w r
  pub grants : (q : BallotGrant) → Among q w.grants → GrantOk g w q
  pub appends : (a : BallotAppend) → Among a w.appends → AppendOk g w a
  pub replies : (r : BallotReply) → Among r w.replies → ReplyOk g w r
  -- a leader of a greater ballot holds what may still be settled
  pub above : (v u i : ℕ) → v < u → w.led u ≡ true → IsOpen g w v i → AgreeBelow (suc i) (w.lead u) (w.lead v)
