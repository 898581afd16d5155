use Rattle.std.proofs.lemmas.Bool.Decides.{nat_tests}
use Rattle.std.proofs.Common.{◌≡◌, arith, rules, tests}
use Rattle.std.proofs.lemmas.Iterator.Search.{all_from_yields_List}
use Rattle.std.proofs.lemmas.Iterator.Splits.{YieldsList-from_slice_split}
use Rattle.std.specs.List.{list_all, slice_split}
use Rattle.yektrod.specs.Directories.{is_part}
use Rattle.gix_attributes.specs.Slashes.{is_slash}
use Rattle.yektrod.proofs.lists.names_directory.Goals as goal

pub returns-else-is_empty : goal.returns-else-is_empty
returns-else-is_empty c =
    let parts : c.all.result ≡ list_all is_part (slice_split is_slash c.args.bytes.now) =
    all_from_yields_List is_part _ _ _ c.all.ensures.ran
    (YieldsList-from_slice_split _ is_slash c.args.bytes.now c.split.ensures.rest c.split.ensures.done c.split.ensures.closure
    (λ x b q k. search (rules, tests)))
    (λ x b q k. search (rules, tests)) in
    grind (arith, nat_tests, parts)
