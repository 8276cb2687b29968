use Rattle.std.proofs.Common.{◌≡◌, [], ◌∷◌, ◌++◌, ◌∙◌, ap, sym, arith}
use Rattle.std.proofs.lemmas.List.{nil_from_length}
use Rattle.raft_cluster.specs.Facts.{Sent}
use Rattle.raft_cluster.specs.Sending.{sent_after}
use Rattle.raft_cluster.proofs.SendingLemmas.{after_last, last_part, no_parts}
use Rattle.raft_cluster.proofs.sending.take_all_back.Goals as goal

pub loop-part-init : goal.loop-part-init
loop-part-init c = λ f sender os h. (os, h)

pub loop-part-preserved : goal.loop-part-preserved
loop-part-preserved c =
    λ f sender os sent.
    let (ps, h) = c.loop-part.invariant f sender os sent in
    let popped : c.loop-part.done.items ≡ c.pop.new.self.items ++ c.in-Some.part ∷ [] = c.in-Some.ensures.items in
    let l = last_part f sender ps c.pop.new.self.items c.in-Some.part (sym popped ∙ h.numbered) in
    let front = l.front in (
      front,
      record {
        numbered = l.parts;
        sends = c.take_back.ensures (sent_after f sender front) sender l.outcome l.part
            (λ g. h.sends g ∙ ap (λ qs. sent_after f sender qs g) l.split ∙ ap (λ (s : Sent). s g) (after_last f sender front l.outcome));
      },
    )

pub returns : goal.returns
returns c =
    λ f sender os sent g.
    let (ps, h) = c.loop-part.invariant f sender os sent in
    let empty : [] ≡ c.loop-part.done.items = sym (nil_from_length _ (omega (arith, c.in_default.ensures.cases.0))) in
    h.sends g ∙ ap (λ qs. sent_after f sender qs g) (no_parts f sender ps (empty ∙ h.numbered))
