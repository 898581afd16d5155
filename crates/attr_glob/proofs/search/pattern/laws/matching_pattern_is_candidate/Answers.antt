use Rattle.bstr.specs.BStr.{bstr_bytes}
use Rattle.attr_glob.specs.Views.{pattern_view}
use Rattle.attr_glob.proofs.MatchingLines.{matching_line_is_candidate}
use Rattle.attr_glob.proofs.search.pattern.laws.matching_pattern_is_candidate.Goals as goal

pub returns : goal.returns
returns c =
    matching_line_is_candidate c.args.case c.args.text.now (pattern_view c.args.pattern.now) (bstr_bytes c.args.path) c.args.is_dir
    c.requires.read c.requires.no_macro c.requires.matches
