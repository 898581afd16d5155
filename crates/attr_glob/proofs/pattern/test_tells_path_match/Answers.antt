use Rattle.attr_glob.specs.Views.{pattern_view}
use Rattle.bstr.specs.BStr.{bstr_bytes}
use Rattle.attr_glob.proofs.PathLemmas.{path_match_of_test, test_of_path_match}
use Rattle.attr_glob.proofs.pattern.test_tells_path_match.Goals as goal

pub returns : goal.returns
returns c = (
  path_match_of_test c.args.case (pattern_view c.args.pattern.now) (bstr_bytes c.args.path) c.args.is_dir,
  test_of_path_match c.args.case (pattern_view c.args.pattern.now) (bstr_bytes c.args.path) c.args.is_dir,
)
