-- Those in front went behind the rest, and then went away.
use Rattle.std.proofs.Common.{◌≡◌, ◌≤◌, ◌+◌, ◌-◌, ◌++◌, ◌∙◌, ℕ, List, ap, sym, subst, take, drop, length, vec_len, arith, length-append}
use Rattle.std.proofs.lemmas.List.{length-take-le}
use Rattle.std.proofs.Math.Seq.{take-append_seam}
use Rattle.raft_group_step.proofs.entries.Entries.drop_first.Goals as goal

front_gone : {A : Type 0} (xs : List A) (count n : ℕ) → count ≤ length xs → n ≡ length (drop count xs ++ take count xs) → take (n - count) (drop count xs ++ take count xs) ≡ drop count xs
front_gone xs count n l e =
    let all : n ≡ length (drop count xs) + length (take count xs) = e ∙ length-append (drop count xs) (take count xs) in
    let front : length (take count xs) ≡ count = length-take-le count xs l in
    let at : n - count ≡ length (drop count xs) = omega arith in
    ap (λ k. take k (drop count xs ++ take count xs)) at ∙ take-append_seam (drop count xs) (take count xs)

pub returns : goal.returns
returns g c =
    let whole : vec_len c.rotate_left.new.self ≡ length c.rotate_left.new.self.items = omega arith in
    let within : c.args.count ≤ length c.self.inside.items.items = subst (λ xs. c.args.count ≤ length xs) (sym c.self.view_is) c.requires in
    c.truncate.ensures.items
    ∙ ap (take (c.len.result - c.args.count)) c.rotate_left.ensures.items
    ∙ front_gone c.self.inside.items.items c.args.count c.len.result within (c.len.ensures ∙ whole ∙ ap length c.rotate_left.ensures.items)
    ∙ ap (drop c.args.count) c.self.view_is
