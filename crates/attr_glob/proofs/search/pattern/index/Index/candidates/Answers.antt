-- The candidates that were found are those from an index on.
use Rattle.std.proofs.Common.{◌≡◌, arith}
use Rattle.std.proofs.lemmas.Bool.Decides.{nat_tests}
use Rattle.std.proofs.lemmas.List.{append-nil}
use Rattle.attr_glob.proofs.search.pattern.index.Index.candidates.Goals as goal

pub returns : goal.returns
returns g c =
    let none : c.loop-index.index ≡ 0 = omega (arith, c.loop-index-test.false) in
    grind (arith, nat_tests, append-nil, c.loop-index.invariant, c.base_name-base_name.ensures, c.as_bytes.ensures, c.requires.of)
