-- Copies of lists.
use Rattle.std.proofs.Common.{arith, ◌≡◌, Bool, true, List, [], ◌∷◌, ◌++◌, Option, Some, None, String, Vec, refl, ℕ, ◌+◌}
use Rattle.std.proofs.Common.{◌<◌, length, get_or, take, nat_eq, option_map, string_bytes}
use Rattle.std.proofs.lemmas.Bool.Decides.{nat_tests}
use Rattle.std.proofs.lemmas.List.{take_more}
use Rattle.std.proofs.lemmas.Slice.Zip.{all_zipped_more}
use Rattle.std.specs.Cmp.Lexicographic.{pointwise, bytes_decides}
use Rattle.std.specs.List.{AllZip}
use Rattle.std.specs.Option.{option_eq}
use Rattle.std.specs.String.{string_eq}
use Rattle.attr_glob.specs.Views.{base_bytes}

-- one more copy
pub copies_more : {X : Type 0} (IsClone : X → X → Type 0) (copies copies' xs : List X) (i : ℕ) (copy x : X) → i < length xs →
    x ≡ get_or xs i x → AllZip IsClone (take i xs) copies → IsClone x copy → copies' ≡ copies ++ copy ∷ [] →
    AllZip IsClone (take (i + 1) xs) copies'
copies_more IsClone copies copies' xs i copy x lt at so_far made pushed = grind (arith, nat_tests, take_more, all_zipped_more)

-- clones of equal elements are equal
pub clones_equal : {X : Type 0} (IsClone : X → X → Type 0) (eq : X → X → Bool) → ((x copy : X) → IsClone x copy → eq copy x ≡ true) →
    (xs copies : List X) → AllZip IsClone xs copies → pointwise eq copies xs ≡ true
clones_equal IsClone eq same (x ∷ xs) (y ∷ ys) h = grind (arith, nat_tests, clones_equal IsClone eq same xs ys)
clones_equal IsClone eq same xs copies h = grind (arith, nat_tests)

-- texts of the same bytes are equal
pub text_equal : {A : Type 0} (x y : Option (String A)) → option_map string_bytes x ≡ option_map string_bytes y → option_eq string_eq x y ≡ true
text_equal None None e = refl
text_equal (Some x) (Some y) e = (bytes_decides (string_bytes x) (string_bytes y)).1 cc
text_equal x y e = absurd cc

-- bases of the same bytes are equal
pub base_equal : {A : Type 0} (x y : Option (Vec ℕ A)) → base_bytes x ≡ base_bytes y →
    option_eq (λ v w. pointwise nat_eq v.items w.items) x y ≡ true
base_equal None None e = refl
base_equal (Some x) (Some y) e = (bytes_decides x.items y.items).1 cc
base_equal x y e = absurd cc
