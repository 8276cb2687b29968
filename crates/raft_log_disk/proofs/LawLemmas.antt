-- What follows of images for every disk.
use Rattle.std.proofs.Common.{◌≡◌, ◌≢◌, ◌⊎◌, inl, inr, ℕ, ◌<◌, ◌≤◌, Bool, true, false, cond, List, [], ◌∷◌, length, get_or, take, refl, sym, ap, subst, ◌∙◌, arith, ext_get_or}
use Rattle.std.specs.Prelude.{map, ◌==◌, if◌then◌else◌}
use Rattle.std.specs.List.{AllByRecursion}
use Rattle.std.proofs.lemmas.Bool.{eq-eqb, ne_eqb, eqb-true, eqb-false}
use Rattle.raft_log_disk.specs.declared.crash.CrashChoice.{CrashChoice}
use Rattle.raft_log_disk.specs.declared.crash.CrashChoice.TheVariants.{Least, Most}
use Rattle.raft_log_disk.specs.Text.{Text}
use Rattle.raft_log_disk.specs.Disk.{FileState, Disk, IsIn, IsNamed, IsNoFile, are_named, with_file, after_sync}
use Rattle.raft_log_disk.specs.Image.{Image, IsFileImage, IsImage, IsImageOf, HasImages, image_of, chosen_of, seen_image, synced_image}
use Rattle.raft_log_disk.proofs.NamedLemmas.{named_first, in_other}

abbrev Names : Type 0
Names = List (Text × ℕ)

-- of each name the image of a choice has what is chosen
chosen_at : (choice : CrashChoice) (file : ℕ → FileState) (es : Names) (next : ℕ) (e : Text × ℕ) → are_named es next ≡ true → IsIn e es → image_of choice es file e.1 ≡ chosen_of choice e.0 (file e.1)
chosen_at choice file [] next e h there = absurd there
chosen_at choice file (x ∷ es) next e h (inl is) =
    ap (λ b. cond b (chosen_of choice x.0 (file x.1)) (image_of choice es file e.1)) (eq-eqb e.1 x.1 (ap (λ (y : Text × ℕ). y.1) is))
    ∙ ap (λ (y : Text × ℕ). chosen_of choice y.0 (file y.1)) (sym is)
chosen_at choice file (x ∷ es) next e h (inr there) =
    let p = named_first x es next h in
    ap (λ b. cond b (chosen_of choice x.0 (file x.1)) (image_of choice es file e.1)) (ne_eqb e.1 x.1 (in_other e es x.1 p.number there)) ∙ chosen_at choice file es next e p.others there

pub all_among : (P Q : Text × ℕ → Type 0) (es : Names) → ((e : Text × ℕ) → IsIn e es → P e → Q e) → AllByRecursion P es → AllByRecursion Q es
all_among P Q [] h a = tt
all_among P Q (e ∷ es) h a = (h e (inl refl) a.0, all_among P Q es (λ x there. h x (inr there)) a.1)

pub most_is_an_image : (d : Disk) → IsNamed d → HasImages d → IsImageOf Most d
most_is_an_image d named images = (
  tt,
  all_among (λ e. IsFileImage (d.file e.1) (seen_image d e.1)) (λ e. IsFileImage (d.file e.1) (image_of Most d.names d.file e.1)) d.names
      (λ e there i. subst (IsFileImage (d.file e.1)) (sym (chosen_at Most d.file d.names d.next e named there)) i) images.seen,
)

pub least_is_an_image : (d : Disk) → IsNamed d → HasImages d → IsImageOf Least d
least_is_an_image d named images = (
  tt,
  all_among (λ e. IsFileImage (d.file e.1) (synced_image d e.1)) (λ e. IsFileImage (d.file e.1) (image_of Least d.names d.file e.1)) d.names
      (λ e there i. subst (IsFileImage (d.file e.1)) (sym (chosen_at Least d.file d.names d.next e named there)) i) images.synced,
)

-- ---- a file with nothing unsynced has one image

pub still_image : (f : FileState) (bytes : List ℕ) → f.changed ≡ [] → f.least ≡ length f.kept → f.greatest ≡ length f.kept → IsFileImage f bytes → bytes ≡ f.kept
still_image f bytes none least greatest image =
    let long : length bytes ≡ length f.kept = omega (arith, image.no_shorter, image.no_longer, least, greatest) in
    ext_get_or 0 bytes f.kept long (λ i lt. image.same i lt (subst (λ rs. AllByRecursion (λ (r : ℕ × ℕ). (i < r.0) ⊎ (r.1 ≤ i)) rs) (sym none) tt))

-- the image of a file with this number
pub image_there : (d : Disk) (image : Image) (es : Names) (fd : ℕ) → IsIn fd (map (λ (e : Text × ℕ). e.1) es) → AllByRecursion (λ e. IsFileImage (d.file e.1) (image e.1)) es → IsFileImage (d.file fd) (image fd)
image_there d image [] fd there a = absurd there
image_there d image (e ∷ es) fd (inl is) a = subst (λ n. IsFileImage (d.file n) (image n)) (sym is) a.0
image_there d image (e ∷ es) fd (inr there) a = image_there d image es fd there a.1

-- numbers are among others or not
there_step : (fd n : ℕ) (ns : List ℕ) (b : Bool) → (fd == n) ≡ b → (((IsIn fd ns → ⊥) → ⊥) → IsIn fd ns) → ((IsIn fd (n ∷ ns) → ⊥) → ⊥) → IsIn fd (n ∷ ns)
there_step fd n ns true is next h = inl (eqb-true fd n is)
there_step fd n ns false is next h = inr (next (λ none. h (elim [ inl e ↦ eqb-false fd n is e | inr there ↦ none there ])))

pub is_there : (fd : ℕ) (ns : List ℕ) → ((IsIn fd ns → ⊥) → ⊥) → IsIn fd ns
is_there fd [] h = h (λ e. e)
is_there fd (n ∷ ns) h = there_step fd n ns (fd == n) refl (is_there fd ns) h

pub synced_image_is_read : (d : Disk) (fd : ℕ) (image : Image) → (IsNoFile d fd → ⊥) → IsImage (with_file d fd (after_sync (d.file fd))) image → image fd ≡ (d.file fd).bytes
synced_image_is_read d fd image there is =
    let here : (if fd == fd then after_sync (d.file fd) else d.file fd) ≡ after_sync (d.file fd) = ap (λ b. cond b (after_sync (d.file fd)) (d.file fd)) (eq-eqb fd fd refl) in
    still_image (after_sync (d.file fd)) (image fd) refl refl refl
    (subst (λ s. IsFileImage s (image fd)) here (image_there (with_file d fd (after_sync (d.file fd))) image d.names fd (is_there fd (map (λ (e : Text × ℕ). e.1) d.names) there) is))
