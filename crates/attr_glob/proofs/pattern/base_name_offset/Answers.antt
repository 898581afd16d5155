use Rattle.std.proofs.lemmas.Bool.Decides.{nat_tests}
use Rattle.std.proofs.Common.{◌≡◌, ◌+◌, ◌-◌, arith, Bool, true, false}
use Rattle.attr_glob.proofs.PathLemmas.{base_name_offset-found, base_name_offset-none}
use Rattle.attr_glob.proofs.pattern.base_name_offset.Goals as goal

not_true : (b : Bool) → ¬ (b ≡ true) → b ≡ false
not_true b h = grind (arith, nat_tests)

pub returns-in-Some : goal.returns-in-Some
returns-in-Some c =
    let before : c.in-Some.slash + 1 - 1 ≡ c.in-Some.slash = omega arith in
    grind (arith, nat_tests, base_name_offset-found, not_true, c.in-Some.ensures)

pub returns-in-None : goal.returns-in-None
returns-in-None c = base_name_offset-none c.args.path.now (λ k l. not_true _ (c.in-None.ensures k (omega arith) l))
