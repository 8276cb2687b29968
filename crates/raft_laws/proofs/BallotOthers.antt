-- What the events of one node leave alone.
use Rattle.std.proofs.Common.{◌≡◌, ℕ, List, [], ◌∷◌, Option, Some, None, Bool, true, cond, refl, ◌∙◌, subst, inr}
use Rattle.std.specs.Prelude.{slice_get}
use Rattle.std.proofs.lemmas.Bool.{cond_both}
use Rattle.raft_laws.specs.BallotLogs.{holds_before}
use Rattle.raft_laws.specs.BallotWorld.{BallotGroup, BallotNode, BallotRequest, BallotGrant, BallotAppend, BallotReply, BallotWorld, BallotEvent, FoundGroup, StandForElection, TakeRequest, RaiseVote, WinElection, WriteEntry, CommitPlace, SendEntries, TakeEntries, CutForEntries, CutForSnapshot, CutForConflict, ForgetCommitted, moved, can_raise, founded, elected, granted, raised, won, written, committed_to, sent, taken, cut, dropped, cut_before, request_comes, append_comes, cut_comes, drop_comes, conflict_comes, ballot_step, ballot_run}
use Rattle.raft_laws.specs.BallotOrigin.{actor}
use Rattle.raft_laws.proofs.BallotAgreement.{with_value_other}
use Rattle.raft_laws.proofs.BallotSafe.{Among}

-- the other nodes stay, and what was sent stays sent
pub record Extends (n : ℕ) (w w' : BallotWorld) : Type 0 where
  pub same : (m : ℕ) → (m ≡ n → ⊥) → w'.node m ≡ w.node m
  pub requests : (r : BallotRequest) → Among r w.requests → Among r w'.requests
  pub grants : (q : BallotGrant) → Among q w.grants → Among q w'.grants
  pub appends : (a : BallotAppend) → Among a w.appends → Among a w'.appends
  pub replies : (r : BallotReply) → Among r w.replies → Among r w'.replies

pub extends_refl : (n : ℕ) (w : BallotWorld) → Extends n w w
extends_refl n w = record { same = λ m ne. refl; requests = λ r a. a; grants = λ q a. a; appends = λ p a. a; replies = λ r a. a }

pub extends_trans : {n : ℕ} {u v w : BallotWorld} → Extends n u v → Extends n v w → Extends n u w
extends_trans p q =
    record {
      same = λ m ne. q.same m ne ∙ p.same m ne;
      requests = λ r a. q.requests r (p.requests r a);
      grants = λ r a. q.grants r (p.grants r a);
      appends = λ r a. q.appends r (p.appends r a);
      replies = λ r a. q.replies r (p.replies r a);
    }

extends_moved : (w : BallotWorld) (n : ℕ) (s : BallotNode) → Extends n w (moved w n s)
extends_moved w n s = record { same = λ m ne. with_value_other w.node n s m ne; requests = λ r a. a; grants = λ q a. a; appends = λ p a. a; replies = λ r a. a }

module _ (g : BallotGroup) (w : BallotWorld) (n : ℕ) where
  if_extends : (t : Bool) (w' : BallotWorld) → Extends n w w' → Extends n w (cond t w' w)
  if_extends t w' h = cond_both t w' w (Extends n w) (λ e. h) (λ e. extends_refl n w)

  taken_extends : (a : BallotAppend) → Extends n w (taken w n a)
  taken_extends a = record { same = λ m ne. with_value_other w.node n _ m ne; requests = λ r a. a; grants = λ q a. a; appends = λ p a. a; replies = λ r a. inr a }

  request_extends : (o : Option BallotRequest) → Extends n w (request_comes g w o n)
  request_extends None = extends_refl n w
  request_extends (Some r) =
      if_extends _ (granted w n r) (record { same = λ m ne. with_value_other w.node n _ m ne; requests = λ r a. a; grants = λ q a. inr a; appends = λ p a. a; replies = λ r a. a })

  append_extends : (o : Option BallotAppend) → Extends n w (append_comes g w o n)
  append_extends None = extends_refl n w
  append_extends (Some a) =
      if_extends (can_raise g n (w.node n) a.ballot) (cond (holds_before (w.node n).log a.start a.previous) (taken w n a) (raised w n a.ballot true))
      (cond_both (holds_before (w.node n).log a.start a.previous) (taken w n a) (raised w n a.ballot true) (Extends n w) (λ e. taken_extends a) (λ e. extends_moved w n _))

  cut_extends : (o : Option BallotAppend) → Extends n w (cut_comes g w o n)
  cut_extends None = extends_refl n w
  cut_extends (Some a) = if_extends _ (cut w n a) (extends_moved w n _)

  drop_extends : (o : Option BallotAppend) → Extends n w (drop_comes g w o n)
  drop_extends None = extends_refl n w
  drop_extends (Some a) = if_extends _ (dropped w n a) (extends_moved w n _)

  conflict_extends : (o : Option BallotAppend) → Extends n w (conflict_comes g w o n)
  conflict_extends None = extends_refl n w
  conflict_extends (Some a) = if_extends _ (cut_before w n a) (extends_moved w n _)

pub happens_extends : (g : BallotGroup) (w : BallotWorld) (e : BallotEvent) → Extends (actor e) w (ballot_step g w e)
happens_extends g w (FoundGroup n) = if_extends g w n _ (founded g w n) (extends_moved w n _)
happens_extends g w (StandForElection n b) =
    if_extends g w n _ (elected w n b) (record { same = λ m ne. with_value_other w.node n _ m ne; requests = λ r a. inr a; grants = λ q a. inr a; appends = λ p a. a; replies = λ r a. a })
happens_extends g w (TakeRequest k n) = request_extends g w n (slice_get w.requests k)
happens_extends g w (RaiseVote n b c) = if_extends g w n _ (raised w n b c) (extends_moved w n _)
happens_extends g w (WinElection n) =
    if_extends g w n _ (won w n) (record { same = λ m ne. with_value_other w.node n _ m ne; requests = λ r a. a; grants = λ q a. a; appends = λ p a. a; replies = λ r a. a })
happens_extends g w (WriteEntry n payload) =
    if_extends g w n _ (written w n payload) (record { same = λ m ne. with_value_other w.node n _ m ne; requests = λ r a. a; grants = λ q a. a; appends = λ p a. a; replies = λ r a. inr a })
happens_extends g w (CommitPlace n place) = if_extends g w n _ (committed_to w n place) (extends_moved w n _)
happens_extends g w (SendEntries n start count commit) =
    if_extends g w n _ (sent w n start count commit) (record { same = λ m ne. refl; requests = λ r a. a; grants = λ q a. a; appends = λ p a. inr a; replies = λ r a. a })
happens_extends g w (TakeEntries k n) = append_extends g w n (slice_get w.appends k)
happens_extends g w (CutForEntries k n) = cut_extends g w n (slice_get w.appends k)
happens_extends g w (CutForSnapshot k n) = drop_extends g w n (slice_get w.appends k)
happens_extends g w (CutForConflict k n) = conflict_extends g w n (slice_get w.appends k)
happens_extends g w (ForgetCommitted n commit) = extends_moved w n _

-- all events are of this node
abbrev pub AllBy : ℕ → List BallotEvent → Type 0
AllBy n [] = Unit {0}
AllBy n (e ∷ es) = (actor e ≡ n) × AllBy n es

pub run_extends : (g : BallotGroup) (n : ℕ) (es : List BallotEvent) (w : BallotWorld) → AllBy n es → Extends n w (ballot_run g es w)
run_extends g n [] w by = extends_refl n w
run_extends g n (e ∷ es) w by =
    extends_trans (subst (λ m. Extends m w (ballot_step g w e)) by.0 (happens_extends g w e)) (run_extends g n es (ballot_step g w e) by.1)
