use Rattle.std.proofs.Common.{string_bytes}
use Rattle.raft_log_recovery.proofs.DirectoryLemmas.{all_made, any_fault, any_file, both_make, first_of, makes_first, was_ok}
use Rattle.raft_log_recovery.proofs.directories.+make_directories.Goals as goal

pub returns-in_err-make_directory-in-len1-up-clause-only : goal.returns-in_err-make_directory-in-len1-up-clause-only
returns-in_err-make_directory-in-len1-up-clause-only g t c =
    makes_first _ _ _ _ _ (first_of string_bytes c.args.paths.now c.first-item.result c.as_str.result.now c.in-len1-up.len_at_least c.first-item.is c.as_str.ensures.value) c.make_directory.ensures.only

pub returns-in_ok-make_directory-in-len1-up-clause-made : goal.returns-in_ok-make_directory-in-len1-up-clause-made
returns-in_ok-make_directory-in-len1-up-clause-made g t c =
    all_made _ _ _ _ _ _ (first_of string_bytes c.args.paths.now c.first-item.result c.as_str.result.now c.in-len1-up.len_at_least c.first-item.is c.as_str.ensures.value)
    c.in_ok-make_directory-in-len1-up.ensures.made c.make_directories.ensures.only c.make_directories.ensures.made

pub returns-in_ok-make_directory-in-len1-up-clause-only : goal.returns-in_ok-make_directory-in-len1-up-clause-only
returns-in_ok-make_directory-in-len1-up-clause-only g t c =
    let is = first_of string_bytes c.args.paths.now c.first-item.result c.as_str.result.now c.in-len1-up.len_at_least c.first-item.is c.as_str.ensures.value in
    both_make _ _ _ _ _ _ is c.make_directory.ensures.only c.make_directories.ensures.only

pub returns-in_ok-make_directory-in-len1-up-clause-file : goal.returns-in_ok-make_directory-in-len1-up-clause-file
returns-in_ok-make_directory-in-len1-up-clause-file g t c =
    any_file _ _ _ _ _ _ (first_of string_bytes c.args.paths.now c.first-item.result c.as_str.result.now c.in-len1-up.len_at_least c.first-item.is c.as_str.ensures.value)
    c.make_directory.ensures.only (λ there. was_ok _ _ _ c.in_ok-make_directory-in-len1-up.was (c.make_directory.ensures.file there)) c.make_directories.ensures.file

pub returns-in_ok-make_directory-in-len1-up-clause-err : goal.returns-in_ok-make_directory-in-len1-up-clause-err
returns-in_ok-make_directory-in-len1-up-clause-err g t c =
    any_fault c.make_directories.result _ _ _ (g.F.FileSystem.disk c.args.files.now) (g.F.FileSystem.disk c.make_directory.new.files) (g.F.FileSystem.meter c.args.files.now) (g.F.FileSystem.meter c.make_directory.new.files)
    (g.F.FileSystem.meter c.make_directories.new.files) (first_of string_bytes c.args.paths.now c.first-item.result c.as_str.result.now c.in-len1-up.len_at_least c.first-item.is c.as_str.ensures.value)
    c.make_directory.ensures.only c.in_ok-make_directory-in-len1-up.ensures.counted c.make_directories.ensures.err
