-- What a token that stands alone takes, and how a directory star goes on from directory to directory.
use Rattle.std.proofs.Common.{◌≡◌, ◌≢◌, ℕ, true, not, List, [], ◌∷◌, length}
use Rattle.std.proofs.Common.{refl, arith}
use Rattle.std.specs.List.{list_any}
use Rattle.std.proofs.lemmas.Bool.Decides.{nat_tests}
use Rattle.attr_wildmatch.specs.declared.case.Case.{Case}
use Rattle.attr_wildmatch.specs.Slashes.{is_slash, ends_in_slash}
use Rattle.attr_wildmatch.specs.Tokens.{star, dirs, rest}
use Rattle.attr_wildmatch.specs.Deciding.{slash_then, matches}

-- a star alone takes what has no slash
pub star_alone : (case : Case) (v : List ℕ) → matches case (star ∷ []) v ≡ not (list_any is_slash v)
star_alone case [] = refl
star_alone case (b ∷ bs) = grind (arith, nat_tests, star_alone case bs)

-- the end of a pattern alone takes all
pub rest_alone : (case : Case) (v : List ℕ) → matches case (rest ∷ []) v ≡ true
rest_alone case [] = refl
rest_alone case (b ∷ bs) = rest_alone case bs

ends_behind : (b c : ℕ) (bs : List ℕ) → ends_in_slash (c ∷ bs) ≡ ends_in_slash (b ∷ c ∷ bs)
ends_behind b c bs = grind (arith, nat_tests)

last_slash : (case : Case) (b : ℕ) (bs : List ℕ) → slash_then (matches case []) (b ∷ bs) ≡ ends_in_slash (b ∷ bs)
last_slash case b [] = grind (arith, nat_tests)
last_slash case b (c ∷ bs) = grind (arith, nat_tests, ends_behind, last_slash case c bs)

-- or what ends in a slash
pub dirs_alone : (case : Case) (v : List ℕ) → length v ≢ 0 → matches case (dirs ∷ []) v ≡ ends_in_slash v
dirs_alone case v h = grind (arith, nat_tests, last_slash case)
