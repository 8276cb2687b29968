use Rattle.std.proofs.Common.{◌≡◌, Option, Some, ap, option_map}
use Rattle.raft_log_records.specs.declared.size.ReadableSize.{ReadableSize}
use Rattle.raft_log_files.specs.Size.{size_said, size_text}
use Rattle.raft_log_files.specs.Toml.{said_if_any, size_in, size_data}
use Rattle.raft_log_files.proofs.writing.put_size.Goals as goal

said : (o : Option ReadableSize) (size : ReadableSize) → o ≡ Some size → size_said (size_text size) ≡ Some size → said_if_any size_in (option_map size_data o) ≡ Some o
said o size is says = rw is (ap (option_map Some) says)

pub returns-in_err-build_size-in-Some-clause-says : goal.returns-in_err-build_size-in-Some-clause-says
returns-in_err-build_size-in-Some-clause-says c = said c.args.size c.in-Some.size c.in-Some.is c.build_size.ensures.says

pub returns-in_ok-build_size-in-Some-clause-says : goal.returns-in_ok-build_size-in-Some-clause-says
returns-in_ok-build_size-in-Some-clause-says c = said c.args.size c.in-Some.size c.in-Some.is c.build_size.ensures.says
