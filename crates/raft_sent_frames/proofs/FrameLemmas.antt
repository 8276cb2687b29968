-- One frame more that is sent.
use Rattle.std.proofs.Common.{◌≡◌, ℕ, ◌+◌, List, [], ◌∷◌, ◌++◌, length, refl, ap, sym, ◌∙◌, append_assoc, length-append, arith}
use Rattle.std.proofs.lemmas.List.{length-map, map-append}
use Rattle.raft_sent_frames.specs.declared.frame.NodeFrame.{NodeFrame}
use Rattle.raft_sent_frames.specs.declared.frame.SentFrame.{SentFrame}
use Rattle.raft_sent_frames.specs.declared.frame.SentNumber.{SentNumber}
use Rattle.raft_sent_frames.specs.Frames.{numbers_from, sent_by, sent_frame}

pub list_more : (sender : ℕ) (base old new : List SentFrame) (before : List NodeFrame) (x : NodeFrame) → old ≡ base ++ sent_by sender before → new ≡ old ++ sent_frame sender x ∷ [] → new ≡ base ++ sent_by sender (before ++ x ∷ [])
list_more sender base old new before x was pushed =
    pushed ∙ rw was (append_assoc base (sent_by sender before) (sent_frame sender x ∷ []) ∙ ap (λ ys. base ++ ys) (sym (map-append (sent_frame sender) before (x ∷ []))))

abbrev numbered : ℕ → NodeFrame → SentNumber
numbered number frame = record { peer = frame.peer; number = number }

numbers_from-append : (number : ℕ) (before : List NodeFrame) (x : NodeFrame) → numbers_from number (before ++ x ∷ []) ≡ numbers_from number before ++ numbered (number + length before) x ∷ []
numbers_from-append number [] x = let e : number + 0 ≡ number = omega arith in rw e refl
numbers_from-append number (frame ∷ frames) x =
    let e : number + 1 + length frames ≡ number + length (frame ∷ frames) = omega arith in
    ap (λ ys. numbered number frame ∷ ys) (numbers_from-append (number + 1) frames x ∙ rw e refl)

pub numbers_more : (number : ℕ) (base old new : List SentNumber) (before : List NodeFrame) (x : NodeFrame) (next : ℕ) → old ≡ base ++ numbers_from number before → next ≡ number + length before → new ≡ old ++ record { peer = x.peer; number = next } ∷ [] → new ≡ base ++ numbers_from number (before ++ x ∷ [])
numbers_more number base old new before x next was at pushed =
    pushed ∙ rw was (rw at (append_assoc base (numbers_from number before) (numbered (number + length before) x ∷ []) ∙ ap (λ ys. base ++ ys) (sym (numbers_from-append number before x))))

pub length_sent : (sender : ℕ) (base list : List SentFrame) (before : List NodeFrame) → list ≡ base ++ sent_by sender before → length list ≡ length base + length before
length_sent sender base list before was =
    ap length was ∙ length-append base (sent_by sender before) ∙ ap (λ n. length base + n) (length-map before (sent_frame sender))
