-- Names and their files.
use Rattle.std.proofs.Common.{◌≡◌, ◌≢◌, ◌⊎◌, inl, inr, ℕ, Bool, true, false, cond, eqb, List, [], ◌∷◌, ◌++◌, Option, Some, None, refl, sym, ap, subst, ◌∙◌}
use lib.Pointwise.{bytes_decides}
use Rattle.raft_log_disk.specs.Text.{Text, same_text}
use Rattle.raft_log_disk.specs.Disk.{Disk, Renames, after_rename, fd_of, without, moved}

pub same_text-self : (a : Text) → same_text a a ≡ true
same_text-self a = (bytes_decides a a).1 refl

moved_step : (e : Text × ℕ) (es : List (Text × ℕ)) (from to : Text) (fd : ℕ) (b c : Bool) → same_text e.0 from ≡ b → same_text e.0 to ≡ c
    → (fd_of es to ≡ None → fd_of es from ≡ Some fd → fd_of (moved es from to) to ≡ Some fd)
    → cond c (Some e.1) (fd_of es to) ≡ None → cond b (Some e.1) (fd_of es from) ≡ Some fd → fd_of (cond b ((to, e.1) ∷ es) (e ∷ moved es from to)) to ≡ Some fd
moved_step e es from to fd b true p q next none there = absurd cc
moved_step e es from to fd true false p q next none there = ap (λ s. cond s (Some e.1) (fd_of es to)) (same_text-self to) ∙ there
moved_step e es from to fd false false p q next none there = ap (λ s. cond s (Some e.1) (fd_of (moved es from to) to)) q ∙ next none there

-- a file that got another path is found under it
pub moved_there : (es : List (Text × ℕ)) (from to : Text) (fd : ℕ) → fd_of es to ≡ None → fd_of es from ≡ Some fd → fd_of (moved es from to) to ≡ Some fd
moved_there [] from to fd none there = absurd cc
moved_there (e ∷ es) from to fd none there = moved_step e es from to fd (same_text e.0 from) (same_text e.0 to) refl refl (moved_there es from to fd) none there

pub renamed_there : (old new : Disk) (from to : Text) → fd_of old.names to ≡ None → Renames old new from to → fd_of new.names to ≡ None → ⊥
renamed_there old new from to none renames gone =
    let there = ap (λ (d : Disk). fd_of d.names to) renames.2 ∙ moved_there old.names from to renames.0 none renames.1 in
    absurd cc
