use Rattle.std.proofs.Common.{Bor, ◌≡◌, ℕ, ◌-◌, List, ◌++◌, length, take, drop, sym, ap, ◌∙◌, append_assoc, take-append-drop}
use Rattle.std.proofs.lemmas.List.{take_rest}
use Rattle.std.proofs.KnownBytes.{Appends-trans, Appends-kept}
use Rattle.raft_script_session.proofs.output.write_bytes.Goals as goal
use Rattle.raft_script_session.proofs.output.write_bytes.Goals.{in-Ok, in-Err+else-ne}

moves_front : (text front rest : List ℕ) (n : ℕ) → text ≡ front ++ rest → text ≡ (front ++ take n rest) ++ take (length rest - n) (drop n rest)
moves_front text front rest n e =
    e ∙ ap (λ l. front ++ l) (sym (take-append-drop n rest)) ∙ sym (append_assoc front (take n rest) (drop n rest)) ∙ ap (λ l. (front ++ take n rest) ++ l) (sym (take_rest rest n))

moves_on : (text front rest after : List ℕ) (n : ℕ) → text ≡ front ++ rest → after ≡ take (length rest - n) (drop n rest) → text ≡ (front ++ take n rest) ++ after
moves_on text front rest after n e f = moves_front text front rest n e ∙ ap (λ l. (front ++ take n rest) ++ l) (sym f)

pub loop-preserved : goal.loop-preserved
loop-preserved g c =
    let (front, split, written) = c.loop.invariant in
    let rest = c.loop.rest.now in
    elim c.match-write.branch [
      | in-Ok w ↦ (front ++ take w.in-Ok.n rest, moves_on _ front rest c.match-write.rest.now w.in-Ok.n split (ap (λ (r : Bor (List ℕ)). r.now) w.rest-is), Appends-trans _ _ _ _ _ written w.in-Ok.ensures.bytes)
      | in-Err+else-ne w ↦ (front, split ∙ ap (λ (r : Bor (List ℕ)). front ++ r.now) (sym w.rest-is), Appends-kept _ _ _ _ written w.in-Err.ensures.bytes)
    ]
