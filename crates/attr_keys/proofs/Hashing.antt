-- Rows that are found by the hashes of their keys.
use Rattle.std.proofs.Common.{◌≡◌, ℕ, zero, suc, ◌<◌, ◌≤◌, ◌⊎◌, inl, inr, Bool, true, false, List, [], ◌∷◌, ◌++◌, length}
use Rattle.std.proofs.Common.{get_or, refl, sym, subst, ◌∙◌, arith, slice_set}
use Rattle.std.proofs.Math.ListN.{get_or-append}
use Rattle.std.proofs.Math.Logic.{∥∥₁_map}
use Rattle.std.proofs.Math.Seq.{get_or-append_seam}
use Rattle.std.proofs.lemmas.Bool.{eqb-true}
use Rattle.std.proofs.lemmas.Bool.Decides.{nat_tests}
use Rattle.std.proofs.lemmas.List.{get_or-set_same, length-set}
use Rattle.std.proofs.lemmas.List.Folds.{list_any-append}
use Rattle.attr_keys.specs.declared.hashed.HashedRows.{HashedRows}
use Rattle.attr_keys.specs.declared.key.Key.{Key}
use Rattle.attr_keys.specs.declared.key.Subject.{Subject}
use Rattle.attr_keys.specs.shared.KeyContents.{KeyContent}
use Rattle.attr_keys.specs.inner.Cases.{in_case, natural}
use Rattle.attr_keys.specs.inner.Buckets.{IsBucketOf, IsHashed, head_of, longest_of}
use Rattle.attr_keys.specs.inner.Hashes.{bucket_of, text_hash}
use Rattle.attr_keys.specs.inner.Links.{AreBounded, IsLed, here, on}
use Rattle.attr_keys.specs.inner.MetRows.{AppendsMet}
use Rattle.attr_keys.specs.shared.Meeting.{is_end, key_content}
use Rattle.attr_keys.specs.shared.Rows.{has_row}
use Rattle.attr_keys.proofs.RowLemmas.{by_test}
use Rattle.attr_keys.proofs.SeenTexts.{directed_twice}

-- no link leads on from none
led_nowhere : {G : Type 0} {links : List ℕ} {end row : ℕ} → IsLed links end row → end ≡ 0 → G
led_nowhere here none = absurd (omega (arith, none))
led_nowhere (on led) none = absurd (omega (arith, none))

-- a row that a link leads to is before it, or the next link leads to it
led_on : {G : Type 0} {links : List ℕ} {end row : ℕ} → IsLed links end row → (next : ℕ) → end ≡ suc next → (next ≡ row → G) →
    (IsLed links (get_or links next 0) row → G) → G
led_on here next is f g = f (omega (arith, is))
led_on {links = links} {row = row} (on {next = m} led) next is f g =
    let same : m ≡ next = omega (arith, is) in
    g (subst (λ n. IsLed links (get_or links n 0) row) same led)

-- one more link leads nowhere else
led_more : {links : List ℕ} {link row : ℕ} → IsLed links link row → (more : ℕ) → ((k : ℕ) → get_or links k 0 ≤ k) → link ≤ length links →
    IsLed (links ++ more ∷ []) link row
led_more here more bounds within = here
led_more {links = links} {row = row} (on {next = next} led) more bounds within =
    on (subst (λ l. IsLed (links ++ more ∷ []) l row) (sym (get_or-append links (more ∷ []) 0 next (omega (arith, within))))
    (led_more led more bounds (omega (arith, bounds next, within))))

-- one more row, by which the others are found as before
pub hashed_more : (fold : Bool) (key : KeyContent) (hashed hashed' : HashedRows) (link row : ℕ) →
    AreBounded hashed.heads.items hashed.links.items → hashed'.links.items ≡ hashed.links.items ++ link ∷ [] →
    ((hash : ℕ) → (head_of hashed' hash ≡ head_of hashed hash)
    ⊎ ((head_of hashed' hash ≡ suc (length hashed.links.items)) × (link ≡ head_of hashed hash))) →
    ((subject : Subject) → longest_of subject hashed ≤ longest_of subject hashed') →
    IsHashed fold key hashed row → IsHashed fold key hashed' row
hashed_more fold key hashed hashed' link row bounds links heads longer is =
    let hash = text_hash (in_case fold (natural key)) in
    record {
      kind = is.kind;
      led = ∥∥₁_map is.led (λ led. subst (λ ls. IsLed ls (head_of hashed' hash) row) (sym links) (lead hash
          (led_more led link bounds.earlier (bounds.within (bucket_of (length hashed.heads.items) hash))) (heads hash)));
      short = omega (arith, is.short, longer key.subject);
    }
  where
    lead : (hash : ℕ) → IsLed (hashed.links.items ++ link ∷ []) (head_of hashed hash) row →
        (head_of hashed' hash ≡ head_of hashed hash) ⊎ ((head_of hashed' hash ≡ suc (length hashed.links.items)) × (link ≡ head_of hashed hash)) →
        IsLed (hashed.links.items ++ link ∷ []) (head_of hashed' hash) row
    lead hash led (inl same) = subst (λ h. IsLed (hashed.links.items ++ link ∷ []) h row) (sym same) led
    lead hash led (inr other) =
        subst (λ h. IsLed (hashed.links.items ++ link ∷ []) h row) (sym other.0)
        (on (subst (λ l. IsLed (hashed.links.items ++ link ∷ []) l row)
        (sym (get_or-append_seam hashed.links.items link [] 0 ∙ other.1)) led))

-- the heads after one is set
pub head_set : (heads : List ℕ) (bucket head i : ℕ) → bucket < length heads →
    (get_or (slice_set heads bucket head) i 0 ≡ get_or heads i 0)
    ⊎ ((get_or (slice_set heads bucket head) i 0 ≡ head) × (get_or heads bucket 0 ≡ get_or heads i 0))
head_set (h ∷ hs) zero head zero lt = inr (refl, refl)
head_set (h ∷ hs) zero head (suc i) lt = inl refl
head_set (h ∷ hs) (suc b) head zero lt = inl refl
head_set (h ∷ hs) (suc b) head (suc i) lt = head_set hs b head i (omega (arith, lt))
head_set [] bucket head i lt = absurd (omega (arith, lt))

-- what a hash leads to if there is one more row
pub heads_more : (hashed hashed' : HashedRows) (bucket link head : ℕ) → bucket < length hashed.heads.items →
    link ≡ get_or hashed.heads.items bucket 0 → head ≡ suc (length hashed.links.items) →
    hashed'.heads.items ≡ slice_set hashed.heads.items bucket head → (hash : ℕ) →
    (head_of hashed' hash ≡ head_of hashed hash)
    ⊎ ((head_of hashed' hash ≡ suc (length hashed.links.items)) × (link ≡ head_of hashed hash))
heads_more hashed hashed' bucket link head inside is new set hash =
    told (head_set hashed.heads.items bucket head (bucket_of (length hashed.heads.items) hash) inside)
  where
    at : head_of hashed' hash ≡ get_or (slice_set hashed.heads.items bucket head) (bucket_of (length hashed.heads.items) hash) 0
    at = grind (arith, nat_tests, length-set)

    told : (get_or (slice_set hashed.heads.items bucket head) (bucket_of (length hashed.heads.items) hash) 0 ≡ head_of hashed hash)
        ⊎ ((get_or (slice_set hashed.heads.items bucket head) (bucket_of (length hashed.heads.items) hash) 0 ≡ head)
        × (get_or hashed.heads.items bucket 0 ≡ head_of hashed hash)) →
        (head_of hashed' hash ≡ head_of hashed hash)
        ⊎ ((head_of hashed' hash ≡ suc (length hashed.links.items)) × (link ≡ head_of hashed hash))
    told (inl same) = inl (at ∙ same)
    told (inr own) = inr (at ∙ (own.0 ∙ new), is ∙ own.1)

-- a row that is put into its bucket is found there
pub hashed_put : (fold : Bool) (key : KeyContent) (hashed hashed' : HashedRows) (bucket head : ℕ) → IsBucketOf fold key hashed bucket →
    head ≡ suc (length hashed.links.items) → hashed'.heads.items ≡ slice_set hashed.heads.items bucket head →
    length key.text ≤ longest_of key.subject hashed' → IsHashed fold key hashed' (length hashed.links.items)
hashed_put fold key hashed hashed' bucket head of new set short = record {
  kind = of.kind;
  led = ∣ subst (λ h. IsLed hashed'.links.items h (length hashed.links.items)) (sym at) here ∣₁;
  short = short;
}
  where
    at : head_of hashed' (text_hash (in_case fold (natural key))) ≡ suc (length hashed.links.items)
    at = grind (arith, nat_tests, length-set, get_or-set_same, of.within, of.is)

-- rows that have a key are sought by links: what was appended, up to the row that a link leads to
pub record Follows (Met : ℕ → Type 0) (links : List ℕ) (head end : ℕ) (old new : List ℕ) : Type 0 where
  pub kept : (row : ℕ) → has_row old row ≡ true → has_row new row ≡ true
  pub sound : (row : ℕ) → has_row new row ≡ true → (has_row old row ≡ true) ⊎ Met row
  pub all : (row : ℕ) → IsLed links head row → Met row → (has_row new row ≡ true) ⊎ IsLed links end row
  pub within : end ≤ length links

pub follows_other : (Met : ℕ → Type 0) (links : List ℕ) (head end next : ℕ) (old new : List ℕ) → end ≡ suc next →
    get_or links next 0 ≤ next → (Met next → ⊥) → Follows Met links head end old new → Follows Met links head (get_or links next 0) old new
follows_other Met links head end next old new is earlier lacks before = record {
  kept = before.kept;
  sound = before.sound;
  all = λ row led met. step row met (before.all row led met);
  within = omega (arith, before.within, is, earlier);
}
  where
    step : (row : ℕ) → Met row → (has_row new row ≡ true) ⊎ IsLed links end row → (has_row new row ≡ true) ⊎ IsLed links (get_or links next 0) row
    step row met (inl has) = inl has
    step row met (inr led) = led_on led next is (λ e. absurd (lacks (subst Met (sym e) met))) (λ l. inr l)

pub follows_same : (Met : ℕ → Type 0) (links : List ℕ) (head end next : ℕ) (old new new' : List ℕ) → end ≡ suc next →
    get_or links next 0 ≤ next → Met next → new' ≡ new ++ next ∷ [] → Follows Met links head end old new →
    Follows Met links head (get_or links next 0) old new'
follows_same Met links head end next old new new' is earlier own more before = record {
  kept = λ row has. among row (before.kept row has);
  sound = λ row has. by_test (has_row new row) (λ t. before.sound row t) (λ f. inr (subst Met (last row has f) own));
  all = λ row led met. step row (before.all row led met);
  within = omega (arith, before.within, is, earlier);
}
  where
    among : (row : ℕ) → has_row new row ≡ true → has_row new' row ≡ true
    among row has = grind (arith, nat_tests, list_any-append)

    last : (row : ℕ) → has_row new' row ≡ true → has_row new row ≡ false → next ≡ row
    last row has f = grind (arith, nat_tests, list_any-append, eqb-true)

    own_row : (row : ℕ) → next ≡ row → has_row new' row ≡ true
    own_row row e = grind (arith, nat_tests, list_any-append)

    step : (row : ℕ) → (has_row new row ≡ true) ⊎ IsLed links end row → (has_row new' row ≡ true) ⊎ IsLed links (get_or links next 0) row
    step row (inl has) = inl (among row has)
    step row (inr led) = led_on led next is (λ e. inl (own_row row e)) (λ l. inr l)

pub followed : (Met : ℕ → Type 0) (links : List ℕ) (head end : ℕ) (old new : List ℕ) → end ≡ 0 → Follows Met links head end old new →
    AppendsMet Met (IsLed links head) old new
followed Met links head end old new none before = record {
  kept = before.kept;
  sound = before.sound;
  all = λ row led met. step row (before.all row led met);
}
  where
    step : (row : ℕ) → (has_row new row ≡ true) ⊎ IsLed links end row → has_row new row ≡ true
    step row (inl has) = has
    step row (inr led) = led_nowhere led none

-- a key as it stands in its line
pub natural_key : (key : Key) → natural (key_content key) ≡ key.text.now
natural_key key = directed_twice (is_end key.subject) key.text.now
