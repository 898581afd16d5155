-- Keys that are sought by the hashes of texts.
use Rattle.std.proofs.Common.{◌≡◌, ℕ, Bool, true, false, List, [], ◌∷◌, length, reverse}
use Rattle.std.proofs.Common.{None, Some, Option, option_map, refl, sym, ap, subst, ◌∙◌, ◌⊎◌, inl, inr, arith, nat_eq}
use Rattle.std.proofs.Math.Bool.{Bool-set}
use Rattle.std.proofs.Math.Logic.{∥∥₁_elim}
use Rattle.std.specs.Prelude.{unwrap_or}
use Rattle.std.specs.List.{starts_with}
use Rattle.std.proofs.lemmas.Bool.{eqb-true}
use Rattle.std.proofs.lemmas.Bool.Decides.{nat_tests}
use Rattle.std.proofs.lemmas.List.{length-map, length-reverse}
use Rattle.attr_keys.specs.declared.hashed.HashedRows.{HashedRows}
use Rattle.attr_keys.specs.declared.key.Subject.{Subject}
use Rattle.attr_keys.specs.declared.key.Subject.TheVariants.{Name, End, Path, Anything, Nothing}
use Rattle.attr_keys.specs.declared.key.Texts.{Texts}
use Rattle.attr_keys.specs.shared.KeyContents.{KeyContent}
use Rattle.attr_keys.specs.shared.Codes.{codes_of}
use Rattle.attr_keys.specs.inner.Cases.{content_in_case, in_case, natural}
use Rattle.attr_keys.specs.inner.Extensions.{extension, is_hashed, is_reversed_extension}
use Rattle.attr_keys.specs.inner.Buckets.{IsEndHead, IsHashed, IsHashedAt, IsHeadOf, head_of, longest_of}
use Rattle.attr_keys.specs.inner.Hashes.{text_hash}
use Rattle.attr_keys.specs.inner.Links.{IsLed}
use Rattle.attr_keys.specs.inner.MetRows.{AppendsMet, IsMet}
use Rattle.attr_keys.specs.shared.Rows.{has_row}
use Rattle.attr_keys.specs.shared.Meeting.{content_met, content_met_at, has_content}
use Rattle.attr_keys.proofs.Cuts.{begin_below}
use Rattle.attr_keys.proofs.ExtensionTexts.{extension_in_case, extension_of_begun}
use Rattle.attr_keys.proofs.Meetings.{has_in_case}
use Rattle.attr_keys.proofs.SeenTexts.{directed_in_case, length-in_case}

-- a text that has a whole key is the key
whole_same : (text key : List ℕ) → starts_with nat_eq (codes_of false text true) (codes_of false key true) ≡ true → key ≡ text
whole_same [] [] h = refl
whole_same (b ∷ bs) [] h = grind (arith, nat_tests)
whole_same [] (k ∷ ks) h = grind (arith, nat_tests)
whole_same (b ∷ bs) (k ∷ ks) h = grind (arith, nat_tests, eqb-true, whole_same bs ks)

-- the same of texts as they are read
whole_in_case : (fold : Bool) (text : List ℕ) (key : KeyContent) → key.is_whole ≡ true → has_content fold text key ≡ true →
    in_case fold key.text ≡ in_case fold text
whole_in_case fold text key whole has =
    let cased : has_content false (in_case fold text) (content_in_case fold key) ≡ true = has_in_case fold text key ∙ has in
    whole_same (in_case fold text) (in_case fold key.text)
    (ap (λ w. starts_with nat_eq (codes_of false (in_case fold text) true) (codes_of false (in_case fold key.text) w)) (sym whole) ∙ cased)

-- a whole key of a base name or of a path that has it is that text
name_is : (fold : Bool) (name path : List ℕ) (key : KeyContent) → key.subject ≡ Name → is_hashed key ≡ true →
    content_met fold name path key ≡ true → in_case fold (natural key) ≡ in_case fold name
name_is fold name path key is kind met =
    let whole : key.is_whole ≡ true = grind (arith, nat_tests) in
    let has : has_content fold name key ≡ true = grind (arith, nat_tests) in
    grind (arith, nat_tests, whole_in_case fold name key whole has)

path_is : (fold : Bool) (name path : List ℕ) (key : KeyContent) → key.subject ≡ Path → is_hashed key ≡ true →
    content_met fold name path key ≡ true → in_case fold (natural key) ≡ in_case fold path
path_is fold name path key is kind met =
    let whole : key.is_whole ≡ true = grind (arith, nat_tests) in
    let has : has_content fold path key ≡ true = grind (arith, nat_tests) in
    grind (arith, nat_tests, whole_in_case fold path key whole has)

reversed_in_case : (fold : Bool) (text : List ℕ) → is_reversed_extension (in_case fold text) ≡ is_reversed_extension text
reversed_in_case true (b ∷ bs) = grind (arith, nat_tests, length-map, reversed_in_case true bs)
reversed_in_case fold text = grind (arith, nat_tests)

-- an extension that a base name has is its own
extension_is : (fold : Bool) (name path : List ℕ) (key : KeyContent) → key.subject ≡ End → is_hashed key ≡ true →
    content_met fold name path key ≡ true →
    option_map (in_case fold) (extension name) ≡ Some (in_case fold (natural key))
extension_is fold name path key is kind met =
    let whole : key.is_whole ≡ false = grind (arith, nat_tests) in
    let short : is_reversed_extension key.text ≡ true = grind (arith, nat_tests) in
    let has : has_content fold (reverse name) key ≡ true = grind (arith, nat_tests) in
    let cased : starts_with nat_eq (codes_of false (in_case fold (reverse name)) true) (codes_of false (in_case fold key.text) false) ≡ true =
    ap (λ w. starts_with nat_eq (codes_of false (in_case fold (reverse name)) true) (codes_of false (in_case fold key.text) w)) (sym whole)
    ∙ (has_in_case fold (reverse name) key ∙ has) in
    let begins = begin_below (in_case fold (reverse name)) (in_case fold key.text) true false cased in
    let turned : starts_with nat_eq (reverse (in_case fold name)) (in_case fold key.text) ≡ true =
    ap (λ t. starts_with nat_eq t (in_case fold key.text)) (directed_in_case true fold name) ∙ begins in
    let turns : in_case fold (natural key) ≡ reverse (in_case fold key.text) = grind (arith, nat_tests, directed_in_case true fold key.text) in
    sym (extension_in_case fold name)
    ∙ (extension_of_begun (in_case fold name) (in_case fold key.text) (reversed_in_case fold key.text ∙ short) turned ∙ ap Some (sym turns))

-- the head of the bucket of a text leads to the rows of the keys that are this text
leads : (fold : Bool) (text : List ℕ) (key : KeyContent) (hashed : HashedRows) (head row longest : ℕ) →
    longest ≡ longest_of key.subject hashed → IsHeadOf fold text longest hashed head → IsHashed fold key hashed row →
    in_case fold (natural key) ≡ in_case fold text → ∥ IsLed hashed.links.items head row ∥₁
leads fold text key hashed head row longest most at is same =
    let cased : length (in_case fold (natural key)) ≡ length (in_case fold text) = ap length same in
    let long : length text ≡ length key.text = grind (arith, nat_tests, length-in_case, length-reverse, cased) in
    let own : head ≡ head_of hashed (text_hash (in_case fold text)) = at.is (omega (arith, long, is.short, most)) in
    subst (λ h. ∥ IsLed hashed.links.items h row ∥₁) (ap (λ t. head_of hashed (text_hash t)) same ∙ sym own) is.led

-- a bucket, and then another one
pub then_more : {Met Sought More : ℕ → Type 0} {old new more : List ℕ} → AppendsMet Met Sought old new → AppendsMet Met More new more →
    (AppendsMet Met Sought old more) × (AppendsMet Met More old more)
then_more {Met = Met} {old = old} {new = new} {more = more} first next = (
  record { kept = kept; sound = sound; all = λ row sought met. next.kept row (first.all row sought met) },
  record { kept = kept; sound = sound; all = next.all },
)
  where
    kept : (row : ℕ) → has_row old row ≡ true → has_row more row ≡ true
    kept row has = next.kept row (first.kept row has)

    sound : (row : ℕ) → has_row more row ≡ true → (has_row old row ≡ true) ⊎ Met row
    sound row has = elim (next.sound row has) [ inl before ↦ first.sound row before | inr met ↦ inr met ]

-- the rows of the buckets of the three texts, among them all that are found by their hashes
pub all_hashed : (texts : Texts) (hashed : HashedRows) (keys : List KeyContent) (name end path : ℕ) (old new : List ℕ) →
    IsHeadOf texts.fold texts.name.now hashed.longest_name hashed name → IsEndHead texts.fold (extension texts.name.now) hashed end →
    IsHeadOf texts.fold texts.path.now hashed.longest_path hashed path →
    AppendsMet (IsMet texts keys) (IsLed hashed.links.items name) old new →
    AppendsMet (IsMet texts keys) (IsLed hashed.links.items end) old new →
    AppendsMet (IsMet texts keys) (IsLed hashed.links.items path) old new →
    AppendsMet (IsMet texts keys) (IsHashedAt texts.fold keys hashed) old new
all_hashed texts hashed keys name end path old new n e p names ends paths = record {
  kept = names.kept;
  sound = names.sound;
  all = λ row sought met.
      let own : content_met texts.fold texts.name.now texts.path.now sought.0 ≡ true =
      ap (content_met_at texts.fold texts.name.now texts.path.now) (sym sought.1) ∙ met in
      by_subject row met sought.0 sought.2 own sought.0.subject refl;
}
  where
    by_head : (row head : ℕ) → IsMet texts keys row → AppendsMet (IsMet texts keys) (IsLed hashed.links.items head) old new →
        ∥ IsLed hashed.links.items head row ∥₁ → has_row new row ≡ true
    by_head row head met rows led = ∥∥₁_elim led (Bool-set (has_row new row) true) (λ way. rows.all row way met)

    of_end : (row : ℕ) → IsMet texts keys row → (key : KeyContent) → IsHashed texts.fold key hashed row → key.subject ≡ End →
        (part : Option (List ℕ)) → extension texts.name.now ≡ part →
        option_map (in_case texts.fold) (extension texts.name.now) ≡ Some (in_case texts.fold (natural key)) → has_row new row ≡ true
    of_end row met key is about None at same = absurd (grind (arith, nat_tests))
    of_end row met key is about (Some text) at same =
        by_head row end met ends (leads texts.fold text key hashed end row hashed.longest_extension (grind arith) (e.of text at) is
        (ap (λ o. unwrap_or o []) (sym same ∙ ap (option_map (in_case texts.fold)) at)))

    by_subject : (row : ℕ) → IsMet texts keys row → (key : KeyContent) → IsHashed texts.fold key hashed row →
        content_met texts.fold texts.name.now texts.path.now key ≡ true → (subject : Subject) → key.subject ≡ subject → has_row new row ≡ true
    by_subject row met key is own Name about =
        by_head row name met names (leads texts.fold texts.name.now key hashed name row hashed.longest_name (grind arith) n is
        (name_is texts.fold texts.name.now texts.path.now key about is.kind own))
    by_subject row met key is own End about =
        of_end row met key is about (extension texts.name.now) refl
        (extension_is texts.fold texts.name.now texts.path.now key about is.kind own)
    by_subject row met key is own Path about =
        by_head row path met paths (leads texts.fold texts.path.now key hashed path row hashed.longest_path (grind arith) p is
        (path_is texts.fold texts.name.now texts.path.now key about is.kind own))
    by_subject row met key is own Anything about = absurd (grind (arith, nat_tests, is.kind))
    by_subject row met key is own Nothing about = absurd (grind (arith, nat_tests, is.kind))
