-- A log whose files crash where they lie, and files that show nothing by chance.
use Rattle.std.proofs.Common.{◌≡◌, ◌⊎◌, inl, inr, ℕ, Bool, true, false, cond, eqb, List, [], ◌∷◌, refl, sym, ap, subst, ◌∙◌}
use Rattle.std.specs.Prelude.{◌-◌, Option, option_map, Result, Ok, Err, IfErr, OnOk, MatchOption}
use Rattle.std.specs.List.{AllByRecursion}
use Rattle.std.proofs.lemmas.Bool.{eqb-false, eqb-true, false≢true}
use Rattle.raft_log_disk.specs.declared.crash.CrashChoice.TheVariants.{Most}
use Rattle.raft_log_disk.specs.declared.crash.CrashChoice.{CrashChoice}
use Rattle.raft_log_disk.specs.declared.crash.CrashRefusal.{CrashRefusal}
use Rattle.raft_log_disk.specs.declared.crash.CrashRefusal.TheVariants.{ByChance, Memory, NotAnImage}
use Rattle.raft_log_disk.specs.declared.memory.MemoryFileSystem.{MemoryFileSystem}
use Rattle.raft_log_disk.specs.Cause.{Meter}
use Rattle.raft_log_disk.specs.Chance.{IsGenuine, IsGenuineImage}
use Rattle.raft_log_disk.specs.Disk.{Disk, FileState, IsIn, settled}
use Rattle.raft_log_disk.specs.Image.{Image, IsFileImage, IsImage, IsImageOf, after_crash, image_of, seen_image}
use Rattle.raft_log_disk.specs.MemoryImages.{memory_images}
use Rattle.raft_log_disk.specs.MemorySystem.{disk_in, memory_is_named}
use Rattle.raft_log_disk.specs.Name.{log_file_of}
use Rattle.raft_log_disk.specs.Text.{Text}
use Rattle.raft_log_disk.proofs.LawLemmas.{all_among, most_is_an_image, still_image}
use Rattle.raft_log_files.specs.declared.config.Config.{Config}
use Rattle.raft_log_memtables.specs.Content.{Content}
use Rattle.raft_log_pipe.specs.declared.pipe.SinglePipe.{SinglePipe}
use Rattle.raft_log_pipe.specs.Alone.{Names, StandsAt, directories_of_pipe}
use Rattle.raft_log_pipes.specs.declared.pipes.DualPipes.{DualPipes}
use Rattle.raft_log_pipes.specs.Pipes.{pipe_of}
use Rattle.raft_log_recovery.specs.Crashed.{HasLastingHole, IsCrashed}
use Rattle.raft_log_cleaner.specs.Pipes.{HasHoleBefore}
use Rattle.raft_log_engine.specs.Parts.{Parts}
use Rattle.raft_log_engine.specs.Log.{AreCrashed, AreFused, CantBeLeftSo, IsFoundBy, IsLog, LogOn, left_by, leaves_of_log, main_directory}
use Rattle.raft_log_engine.specs.Reopened.{OpensInTail, StandAlone, directories_of_engine, directories_of_pipes}

-- ---- why files can't be left so

pub refused_so : (choice : CrashChoice) (d : Disk) (r : Result (Unit {0}) CrashRefusal) → (r ≡ Err NotAnImage → IsImageOf choice d → ⊥) → (r ≡ Err ByChance → IsImageOf choice d)
    → (r ≡ Err ByChance → IsGenuineImage d (image_of choice d.names d.file) → ⊥) → IfErr r (λ why. CantBeLeftSo choice why d)
refused_so choice d (Ok x) none image chance = tt
refused_so choice d (Err NotAnImage) none image chance = none refl
refused_so choice d (Err ByChance) none image chance = (image refl, chance refl)
refused_so choice d (Err Memory) none image chance = tt

-- ---- a crash after a crash

each_with : (P Q R : Text × ℕ → Type 0) (es : Names) → ((e : Text × ℕ) → P e → Q e → R e) → AllByRecursion P es → AllByRecursion Q es → AllByRecursion R es
each_with P Q R [] h p q = tt
each_with P Q R (e ∷ es) h p q = (h e p.0 q.0, each_with P Q R es h p.1 q.1)

-- what an image has of a file shows nothing by chance
abbrev Shows : Disk → Image → Text × ℕ → Type 0
Shows d i x = MatchOption (log_file_of x.0) (Unit {0}) (λ id. IsGenuine id (d.file x.1) (i x.1))

-- an image of the second one is that of the first
left_same : (d e : Disk) (image later : Image) → IsCrashed d image e → e ≡ after_crash d image → IsImage e later → AllByRecursion (λ x. later x.1 ≡ image x.1) d.names
left_same d e image later first is second =
    all_among (λ x. IsFileImage (e.file x.1) (later x.1)) (λ x. later x.1 ≡ image x.1) d.names
    (λ x there i. still_image (settled (d.file x.1) (image x.1)) (later x.1) refl refl refl (subst (λ (y : Disk). IsFileImage (y.file x.1) (later x.1)) is i))
    (subst (AllByRecursion (λ x. IsFileImage (e.file x.1) (later x.1))) first.names second)

left_again : (d e : Disk) (image later : Image) → IsCrashed d image e → e ≡ after_crash d image → IsImage e later → IsImage d later
left_again d e image later first is second =
    each_with (λ x. later x.1 ≡ image x.1) (λ x. IsFileImage (d.file x.1) (image x.1)) (λ x. IsFileImage (d.file x.1) (later x.1)) d.names (λ x same i. subst (IsFileImage (d.file x.1)) (sym same) i) (left_same d e image later first is second) first.is

-- what a second one leaves the first one might have left
crashed_again : (d e left : Disk) (image later : Image) → IsCrashed d image e → e ≡ after_crash d image → IsCrashed e later left → IsCrashed d later left
crashed_again d e left image later first is second = record {
  is = left_again d e image later first is second.is;
  genuine = each_with (λ x. later x.1 ≡ image x.1) (Shows d image) (Shows d later) d.names
      (λ x same i. subst (λ (l : List ℕ). MatchOption (log_file_of x.0) (Unit {0}) (λ id. IsGenuine id (d.file x.1) l)) (sym same) i) (left_same d e image later first is second.is) first.genuine;
  names = second.names ∙ first.names;
  bytes = second.bytes;
}

-- what an opening that tolerates a torn tail refuses then it would have refused
module _ (d e : Disk) (image : Image) (crashed : IsCrashed d image e) (is : e ≡ after_crash d image) where
  hole_crashed : (q : SinglePipe) → HasLastingHole q d ⊎ HasHoleBefore q d → HasLastingHole q e ⊎ HasHoleBefore q e
  hole_crashed q (inl hole) = inl (hole.0, hole.1, crashed.bytes hole.0.handle.0 ∙ hole.3 image crashed.is, λ x are. hole.3 x (left_again d e image x crashed is are))
  hole_crashed q (inr hole) = inr (record {
    seq = hole.seq;
    place = hole.place;
    fd = hole.fd;
    stands = subst (λ (n : Names). StandsAt n (directories_of_pipe q) q.queue hole.seq hole.place hole.fd) (sym crashed.names) hole.stands;
    before = hole.before;
    between = λ n from below.
        let there = hole.between n from below in
        (there.0, there.1, subst (λ (l : Names). StandsAt l (directories_of_pipe q) q.queue n there.0 there.1) (sym crashed.names) there.2);
    none = crashed.bytes hole.fd ∙ hole.lasting image crashed.is;
    lasting = λ x are. hole.lasting x (left_again d e image x crashed is are);
  })

pub crashed_in_tail : (directories : List Text) (d e : Disk) (p : DualPipes) (image : Image) → IsCrashed d image e → e ≡ after_crash d image → OpensInTail directories d p → OpensInTail directories e p
crashed_in_tail directories d e p image crashed is opens later left queue second cant =
    hole_crashed d e image crashed is (pipe_of p queue) (opens later left queue (crashed_again d e left image later crashed is second) cant)

-- ---- what a crashed log leaves

module _ {F : Type 0} (disk : F → Disk) (settings : Config) (old new : Parts F) (has_failed : Bool) (image : Image) (crashed : IsCrashed (disk old.files) image (disk new.files)) where
  pub found_crashed : (content : Content (List ℕ)) → IsFoundBy settings (disk new.files) content → leaves_of_log disk (record { engine = old; settings = settings; has_failed = has_failed }) content
  found_crashed content found = inr (record { image = image; left = disk new.files; crashed = crashed; found = found })

  pub leaves_crashed : disk new.files ≡ after_crash (disk old.files) image → (content : Content (List ℕ)) → leaves_of_log disk (record { engine = new; settings = settings; has_failed = true }) content
      → leaves_of_log disk (record { engine = old; settings = settings; has_failed = has_failed }) content
  leaves_crashed is content (inl on) = absurd (false≢true (sym on.0))
  leaves_crashed is content (inr may) = inr (record {
    image = may.image;
    left = may.left;
    crashed = crashed_again (disk old.files) (disk new.files) may.left image may.image crashed is may.crashed;
    found = may.found;
  })

-- ---- files as they read

most_seen : (file : ℕ → FileState) (es : Names) (e : Text × ℕ) → IsIn e es → image_of Most es file e.1 ≡ (file e.1).bytes
most_seen file [] e there = absurd there
most_seen file (x ∷ es) e there = by_number (eqb e.1 x.1) refl (most_seen file es e) there
  where
    by_number : (b : Bool) → eqb e.1 x.1 ≡ b → (IsIn e es → image_of Most es file e.1 ≡ (file e.1).bytes) → IsIn e (x ∷ es) → cond b (file x.1).bytes (image_of Most es file e.1) ≡ (file e.1).bytes
    by_number true is next among = ap (λ n. (file n).bytes) (sym (eqb-true e.1 x.1 is))
    by_number false is next (inl same) = absurd (eqb-false e.1 x.1 is (ap (λ (y : Text × ℕ). y.1) same))
    by_number false is next (inr behind) = next behind

module _ (d : Disk) where
  abbrev most : Image
  most = image_of Most d.names d.file

  shows_on : (i j : Image) → ((x : Text × ℕ) → IsIn x d.names → i x.1 ≡ j x.1) → IsGenuineImage d i → IsGenuineImage d j
  shows_on i j same genuine = all_among (Shows d i) (Shows d j) d.names
      (λ x there shows. subst (λ (l : List ℕ). MatchOption (log_file_of x.0) (Unit {0}) (λ id. IsGenuine id (d.file x.1) l)) (same x there) shows) genuine

  pub seen_genuine : IsGenuineImage d most → IsGenuineImage d (seen_image d)
  seen_genuine = shows_on most (seen_image d) (λ x there. most_seen d.file d.names x there)

  pub most_genuine : IsGenuineImage d (seen_image d) → IsGenuineImage d most
  most_genuine = shows_on (seen_image d) most (λ x there. sym (most_seen d.file d.names x there))

pub most_of_memory : (m : MemoryFileSystem) → IsImageOf Most (disk_in m)
most_of_memory m = most_is_an_image (disk_in m) (memory_is_named m) (memory_images m)

-- ---- what was chosen, and a fuse

-- a crash leaves what was chosen, and the fuse as it was
pub are_crashed : {F X E : Type 0} (disk : F → Disk) (meter : F → Meter) (r : Result X E) (choice : CrashChoice) (old new : F) → OnOk r (IsImageOf choice (disk old)) → OnOk r (IsGenuineImage (disk old) (left_by choice (disk old)))
    → OnOk r (disk new ≡ after_crash (disk old) (left_by choice (disk old))) → meter new ≡ meter old → OnOk r (AreCrashed disk meter old choice new)
are_crashed disk meter (Ok x) choice old new is genuine left fuse = record { image = is; genuine = genuine; left = left; fuse = fuse }
are_crashed disk meter (Err e) choice old new is genuine left fuse = tt

-- a fuse changes what is left of it alone
pub are_fused : {F : Type 0} (disk : F → Disk) (meter : F → Meter) (old new : F) (first : Option ℕ) → disk new ≡ disk old → (meter new).calls_left ≡ option_map (λ n. n - 1) first → (meter new).refusals ≡ (meter old).refusals
    → (meter new).lacks ≡ (meter old).lacks → (meter new).unreadable ≡ (meter old).unreadable → (meter new).is_faulty ≡ (meter old).is_faulty → AreFused disk meter old first new
are_fused disk meter old new first same calls refusals lacks reads faulty = record {
  same = same;
  fuse = λ i. record { refusals = refusals i; lacks = lacks i; calls_left = calls i; unreadable = reads i; is_faulty = faulty i };
}

-- ---- a log whose engine changed in nothing that is said of it

module _ {F : Type 0} (disk : F → Disk) (settings : Config) (has_failed : Bool) (old new : Parts F) (log : IsLog disk old settings has_failed) (pipes : new.pipes ≡ old.pipes) where
  tail_on : (d : Disk) → OpensInTail (main_directory settings) d old.pipes → OpensInTail (main_directory settings) d new.pipes
  tail_on d opens = subst (OpensInTail (main_directory settings) d) (sym pipes) opens

  in_main_on : directories_of_engine new ≡ main_directory settings
  in_main_on = ap directories_of_pipes pipes ∙ log.directories

  pub log_on : new.is_stopped ≡ old.is_stopped → new.wrote_unsynced ≡ old.wrote_unsynced → disk new.files ≡ disk old.files → IsLog disk new settings has_failed
  log_on stopped wrote same = record {
    directories = in_main_on;
    sound = λ on. record { goes_on = stopped ∙ (log.sound on).goes_on; synced = wrote ∙ (log.sound on).synced };
    alone = λ on. subst (λ (p : DualPipes). StandAlone p (disk new.files)) (sym pipes) (subst (StandAlone old.pipes) (sym same) (log.alone on));
    in_tail = tail_on (disk new.files) (subst (λ (d : Disk). OpensInTail (main_directory settings) d old.pipes) (sym same) log.in_tail);
  }

  -- or whose files crashed
  pub log_crashed : (image : Image) → IsCrashed (disk old.files) image (disk new.files) → disk new.files ≡ after_crash (disk old.files) image → IsLog disk new settings true
  log_crashed image crashed is = record {
    directories = in_main_on;
    sound = λ on. absurd (false≢true (sym on));
    alone = λ on. absurd (false≢true (sym on));
    in_tail = tail_on (disk new.files) (crashed_in_tail (main_directory settings) (disk old.files) (disk new.files) old.pipes image crashed is log.in_tail);
  }
