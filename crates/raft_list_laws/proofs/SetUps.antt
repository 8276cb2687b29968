-- Before its set-up a group has no leader's note.
use Rattle.std.specs.Prelude.{◌≡◌, List, [], ◌∷◌, Some, None, refl}
use Rattle.std.proofs.Common.{inl, sym, ◌∙◌, ⊎_elim}
use Rattle.raft_laws.specs.GroupWorld.{GroupWorld, Led}
use Rattle.raft_laws.proofs.BallotSafe.{Among}
use Rattle.raft_laws.proofs.WorldStart.{Founded, founded}
use Rattle.raft_list_laws.specs.Changes.{NobodyLedBefore}

none_among : (ls : List Led) → ((l : Led) → Among l ls → ⊥) → ls ≡ []
none_among [] none = refl
none_among (l ∷ ls) none = absurd (none l (inl refl))

nobody_led : (w : GroupWorld) → Founded w → w.setup ≡ None → w.led ≡ []
nobody_led w f before =
    ⊎_elim
    (λ is. absurd (let e : None ≡ Some f.membership = sym before ∙ is in cc))
    (λ none. none_among w.led none)
    f.is.setup

pub nobody_led_before : NobodyLedBefore
nobody_led_before ids rs end h before = nobody_led end (founded ids h.node_ids rs end h.replays) before
