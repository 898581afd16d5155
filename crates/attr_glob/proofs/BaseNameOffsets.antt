-- The offset of a base name, by recursion from the front of the path, and as it is seen after a front.
use Rattle.std.proofs.lemmas.Grind.{common_steps}
use Rattle.std.proofs.Common.{◌≡◌, ℕ, zero, suc, ◌+◌, ◌-◌, ◌<◌, Bool, true, false, not, cond, List, [], ◌∷◌, length, drop, take, Option}
use Rattle.std.proofs.Common.{Some, None, refl, sym, ap, ◌∙◌, arith}
use Rattle.std.specs.List.{list_any, suffix_len, before_last}
use Rattle.std.specs.Option.{unwrap_or}
use Rattle.std.proofs.lemmas.Bool.Decides.{nat_tests}
use Rattle.std.proofs.lemmas.List.{length-reverse, length-drop, reverse-append}
use Rattle.std.proofs.lemmas.List.Folds.{prefix_len-append}
use Rattle.std.proofs.lemmas.List.Sums.{suffix_len-le-length}
use Rattle.attr_glob.specs.inner.OffsetsAfter.{offset_after}
use Rattle.attr_glob.specs.BaseNames.{base_name_offset}
use Rattle.attr_wildmatch.specs.Slashes.{is_slash}

abbrev no_slash : ℕ → Bool
no_slash b = not (is_slash b)

-- how many bytes stand after the last slash
abbrev name_len : List ℕ → ℕ
name_len path = suffix_len no_slash path

name_len-slash : (b : ℕ) (bs : List ℕ) → name_len bs ≡ length bs → is_slash b ≡ true → name_len (b ∷ bs) ≡ length bs
name_len-slash b bs e slash = grind (arith, nat_tests, common_steps, reverse-append, length-reverse, prefix_len-append)

name_len-longer : (b : ℕ) (bs : List ℕ) → name_len bs ≡ length bs → is_slash b ≡ false → name_len (b ∷ bs) ≡ length bs + 1
name_len-longer b bs e other = grind (arith, nat_tests, common_steps, reverse-append, length-reverse, prefix_len-append)

name_len-below : (b : ℕ) (bs : List ℕ) → name_len bs < length bs → name_len (b ∷ bs) ≡ name_len bs
name_len-below b bs lt = grind (arith, nat_tests, common_steps, reverse-append, length-reverse, prefix_len-append)

-- the base name is the whole path, or a slash stands before it
pub data Name (path : List ℕ) : Type 0 where
  whole : list_any is_slash path ≡ false → name_len path ≡ length path → Name path
  below : list_any is_slash path ≡ true → name_len path < length path → Name path

pub name_of : (path : List ℕ) → Name path
name_of [] = whole refl refl
name_of (b ∷ bs) = grind (arith, nat_tests, name_len-slash, name_len-longer, name_len-below, name_of bs)

abbrev offset_onto : ℕ → Option ℕ → Option ℕ
offset_onto b (Some offset) = Some (offset + 1)
offset_onto b None = cond (is_slash b) (Some 1) None

-- the offset after the last slash
abbrev offset_of : List ℕ → Option ℕ
offset_of [] = None
offset_of (b ∷ bs) = offset_onto b (offset_of bs)

offset-none : (path : List ℕ) → list_any is_slash path ≡ false → base_name_offset path ≡ None
offset-none path none = grind arith

offset-some : (path : List ℕ) → list_any is_slash path ≡ true → base_name_offset path ≡ Some (length path - name_len path)
offset-some path any = grind (arith, nat_tests, length-drop, suffix_len-le-length)

-- what precedes the last slash, by the offset of the base name
pub before_name : (path : List ℕ) (end : ℕ) → end ≡ unwrap_or (base_name_offset path) 0 - 1 → take end path ≡ before_last is_slash path
before_name path end e = grind (arith, nat_tests, name_of path, offset-none path, offset-some path)

offset_within : (b : ℕ) (bs : List ℕ) → Name bs → base_name_offset (b ∷ bs) ≡ offset_onto b (base_name_offset bs)
offset_within b bs h = grind (arith, nat_tests, name_len-slash, offset-none, name_len-below, offset-some)

offset_of_is : (path : List ℕ) → base_name_offset path ≡ offset_of path
offset_of_is [] = refl
offset_of_is (b ∷ bs) = offset_within b bs (name_of bs) ∙ ap (offset_onto b) (offset_of_is bs)

offset_of-drop : (n : ℕ) (path : List ℕ) → offset_of (drop n path) ≡ offset_after n (offset_of path)
offset_of-drop zero (b ∷ bs) = grind (arith, nat_tests)
offset_of-drop (suc n) (b ∷ bs) = grind (arith, nat_tests, offset_of-drop n bs)
offset_of-drop zero [] = refl
offset_of-drop (suc n) [] = refl

-- the offset of the base name after a front
pub base_name_offset-drop : (n : ℕ) (path : List ℕ) → base_name_offset (drop n path) ≡ offset_after n (base_name_offset path)
base_name_offset-drop n path = offset_of_is (drop n path) ∙ offset_of-drop n path ∙ ap (offset_after n) (sym (offset_of_is path))
