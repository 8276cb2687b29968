use Rattle.std.proofs.Common.{◌≡◌, ◌∙◌, ap, length, Some, None, slice_get, sym}
use Rattle.raft_sent_frames.specs.Frames.{frames_of, numbers_from}
use Rattle.raft_cluster.proofs.SendingLemmas.{back_at, none_sent, nothing_first, number_of_first}
use Rattle.raft_cluster.proofs.sending.take_back.Goals as goal

pub returns-in-Some : goal.returns-in-Some
returns-in-Some c =
    λ f sender o same was.
    let numbers : c.as_slice.result.now ≡ numbers_from (length (f o.group)) o.frames = c.as_slice.ensures ∙ ap (λ p. p.sent) same in
    let first : Some c.in-Some.first.now ≡ slice_get (numbers_from (length (f o.group)) o.frames) 0 = c.in-Some.ensures.value ∙ ap (λ l. slice_get l 0) numbers in
    let number = number_of_first (length (f o.group)) o.frames c.in-Some.first.now first in
    let at : c.args.outcome.now.group ≡ o.group = ap (λ p. p.group) same in
    back_at f sender o (frames_of c.args.sent.now) (frames_of c.take_back.new.self) c.in-Some.first.now.number number was (rw (← at) c.take_back.ensures.group) (rw (← at) c.take_back.ensures.others)

pub returns-in_default : goal.returns-in_default
returns-in_default c =
    λ f sender o same was group.
    let numbers : c.as_slice.result.now ≡ numbers_from (length (f o.group)) o.frames = c.as_slice.ensures ∙ ap (λ p. p.sent) same in
    let none : slice_get (numbers_from (length (f o.group)) o.frames) 0 ≡ None = ap (λ l. slice_get l 0) (sym numbers) ∙ sym c.in_default.ensures.value in
    was group ∙ none_sent f sender o (nothing_first (length (f o.group)) o.frames none) group
