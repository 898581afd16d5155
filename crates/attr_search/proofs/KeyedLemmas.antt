-- Numbers by key: the greatest with a key, after one more and after one less.
use Rattle.std.proofs.lemmas.Bool.Decides.{eqb_tells, nat_tests}
use Rattle.std.proofs.lemmas.Bool.{cases_eq}
use Rattle.std.proofs.Common.{◌≡◌, ℕ, zero, suc, ◌+◌, ◌<◌, ◌≤◌, ◌⊎◌, inl, inr, cond, List, [], ◌∷◌, ◌++◌, length, get_or, Option}
use Rattle.std.proofs.Common.{Some, None, refl, arith, nat_eq}
use Rattle.std.specs.Prelude.{Contains, MatchOption, ⊤, slice_get}
use Rattle.std.proofs.Math.Seq.{get_or-append_seam}
use Rattle.std.proofs.lemmas.List.{get_or_append_left, length-append, length-map, map-append}
use Rattle.std.proofs.lemmas.List.Elements.{Contains-append_left, Contains-push}
use Rattle.std.proofs.lemmas.Option.{get_or_from_slice_get, slice_get-map, slice_get_read, slice_get_within, slice_get-get_or}
use Rattle.attr_search.specs.declared.numbers_by_key.Link.{Link}
use Rattle.attr_search.specs.inner.KeyLinks.{latest_below}
use Rattle.attr_search.specs.inner.NumbersView.{AreLatest, LeadOn, link_keys}

pub below_or : (number bound : ℕ) → number < bound + 1 → (number < bound) ⊎ (number ≡ bound)
below_or number bound lt = elim (eqb_tells number bound) [ inl same ↦ inr same.1 | inr other ↦ let ne = other.1 in inl (omega (arith, lt, ne)) ]

-- the greatest with a key, below a number that there was before one more, and after it
latest_front : (keys more : List ℕ) (key n : ℕ) → n ≤ length keys → latest_below (keys ++ more) key n ≡ latest_below keys key n
latest_front keys more key zero le = refl
latest_front keys more key (suc n) le = grind (arith, get_or_append_left, latest_front keys more key n)

latest_more : (keys : List ℕ) (own key : ℕ) →
    latest_below (keys ++ own ∷ []) key (length keys + 1) ≡ cond (nat_eq own key) (Some (length keys)) (latest_below keys key (length keys))
latest_more keys own key = grind (arith, get_or-append_seam, latest_front)

-- the keys of links, with one more link
keys_more : (links : List Link) (link : Link) → link_keys (links ++ link ∷ []) ≡ link_keys links ++ link.key ∷ []
keys_more links link = map-append (λ (l : Link). l.key) links (link ∷ [])

links_more : (links : List Link) (link : Link) (key : ℕ) →
    latest_below (link_keys (links ++ link ∷ [])) key (length (links ++ link ∷ []))
    ≡ cond (nat_eq link.key key) (Some (length links)) (latest_below (link_keys links) key (length links))
links_more links link key = grind (arith, keys_more, length-append, length-map, latest_more (link_keys links) link.key key)

links_front : (links : List Link) (link : Link) (key n : ℕ) → n ≤ length links →
    latest_below (link_keys (links ++ link ∷ [])) key n ≡ latest_below (link_keys links) key n
links_front links link key n le = grind (arith, keys_more, length-map, latest_front)

-- an element of the front part, and the one after it
get_front : {X : Type 0} (xs ys : List X) (m : ℕ) → m < length xs → slice_get (xs ++ ys) m ≡ slice_get xs m
get_front (x ∷ xs) ys (suc m) lt = get_front xs ys m (omega (arith, lt))
get_front xs ys m lt = grind arith

get_seam : {X : Type 0} (xs : List X) (y : X) (ys : List X) → slice_get (xs ++ y ∷ ys) (length xs) ≡ Some y
get_seam [] y ys = refl
get_seam (x ∷ xs) y ys = get_seam xs y ys

-- one more link
pub pushed_latest : (links : List Link) (link : Link) (before after : ℕ → Option ℕ) → AreLatest links before →
    ((key : ℕ) → after key ≡ cond (nat_eq link.key key) (Some (length links)) (before key)) → AreLatest (links ++ link ∷ []) after
pushed_latest links link before after l is = grind (arith, links_more)

pub pushed_lead : (links : List Link) (link : Link) (before : ℕ → Option ℕ) → AreLatest links before → link.earlier ≡ before link.key →
    LeadOn links → LeadOn (links ++ link ∷ [])
pushed_lead links link before l is lead = λ number other has.
    let lt = slice_get_within (links ++ link ∷ []) number other has in
    grind (arith, below_or, length-append links (link ∷ []), get_front, get_seam, links_front)

-- one less
pub popped_latest : (all links : List Link) (link : Link) (before after : ℕ → Option ℕ) → all ≡ links ++ link ∷ [] → AreLatest all before →
    LeadOn all → ((key : ℕ) → after key ≡ cond (nat_eq link.key key) link.earlier (before key)) → AreLatest links after
popped_latest all links link before after whole l lead is =
    let own = lead (length links) link in grind (arith, nat_tests, cases_eq, links_more, links_front, get_seam)

pub popped_lead : (all links : List Link) (link : Link) → all ≡ links ++ link ∷ [] → LeadOn all → LeadOn links
popped_lead all links link whole lead = λ number other has.
    let lt = slice_get_within links number other has in
    let own = lead number other in
    grind (arith, get_front, links_front)

-- where a walk down the links of a key is: at a number of the key, if at any; the greater ones are among those found
pub record CoversDown (keys : List ℕ) (key : ℕ) (before after : List ℕ) (next : Option ℕ) : Type 0 where
  pub kept : (number : ℕ) → Contains before number → Contains after number
  pub at : MatchOption next ⊤ (λ n. (n < length keys) × (slice_get keys n ≡ Some key))
  pub found : (number : ℕ) → slice_get keys number ≡ Some key → Contains after number ⊎ MatchOption next ⊥ (λ n. number ≤ n)

-- how many numbers may be left
abbrev pub count_down : Option ℕ → ℕ
count_down None = 0
count_down (Some n) = n + 1

-- the greatest number has the key, and none between it and the bound has
latest_is : (keys : List ℕ) (key n : ℕ) → n ≤ length keys → MatchOption (latest_below keys key n) ⊤ (λ m. (m < n) × (slice_get keys m ≡ Some key))
latest_is keys key zero le = tt
latest_is keys key (suc n) le = grind (arith, nat_tests, cases_eq, slice_get-get_or, latest_is keys key n)

none_greater : (keys : List ℕ) (key n number : ℕ) → number < n → slice_get keys number ≡ Some key →
    MatchOption (latest_below keys key n) ⊥ (λ m. number ≤ m)
none_greater keys key zero number lt has = absurd (omega arith)
none_greater keys key (suc n) number lt has = grind (arith, nat_tests, below_or, get_or_from_slice_get, none_greater keys key n number)

pub walk_start : (links : List Link) (latest : ℕ → Option ℕ) (key : ℕ) (numbers : List ℕ) (next : Option ℕ) → AreLatest links latest →
    next ≡ latest key → CoversDown (link_keys links) key numbers numbers next
walk_start links latest key numbers next l is =
    let same = l key in
    let keys = latest_is (link_keys links) key (length links) (omega (arith, length-map links (λ (l : Link). l.key))) in
    record {
      kept = λ number has. has;
      at = grind (arith, length-map);
      found = λ number has. inr (rw (is, same) (none_greater (link_keys links) key (length links) number
          (omega (arith, slice_get_within (link_keys links) number key has, length-map links (λ (l : Link). l.key))) has));
    }

earlier_is : (links : List Link) (link : Link) (number : ℕ) → LeadOn links → slice_get links number ≡ Some link →
    MatchOption link.earlier ⊤ (λ m. (m < number) × (slice_get (link_keys links) m ≡ Some link.key))
earlier_is links link number lead is = grind (arith, slice_get_within, length-map, latest_is (link_keys links) link.key number)

walked_one : (keys : List ℕ) (key bound number : ℕ) (found : List ℕ) (earlier : Option ℕ) → earlier ≡ latest_below keys key bound →
    slice_get keys number ≡ Some key → Contains found number ⊎ (number ≤ bound) →
    Contains (found ++ bound ∷ []) number ⊎ MatchOption earlier ⊥ (λ n. number ≤ n)
walked_one keys key bound number found earlier is has (inl there) = inl (Contains-append_left found (bound ∷ []) number there)
walked_one keys key bound number found earlier is has (inr le) =
    elim (below_or number bound (omega (arith, le))) [
      | inl lt ↦ inr (rw is (none_greater keys key bound number lt has))
      | inr same ↦ inl (rw same (Contains-push found bound))
    ]

pub walk_on : (links : List Link) (link : Link) (key number : ℕ) (before found : List ℕ) → LeadOn links → slice_get links number ≡ Some link →
    CoversDown (link_keys links) key before found (Some number) → CoversDown (link_keys links) key before (found ++ number ∷ []) link.earlier
walk_on links link key number before found lead is covers =
    let own : link.key ≡ key = grind (arith, slice_get-map) in
    let same = lead number link is in
    let earlier = earlier_is links link number lead is in
    record {
      kept = λ n has. Contains-append_left found (number ∷ []) n (covers.kept n has);
      at = grind arith;
      found = λ n has. walked_one (link_keys links) key number n found link.earlier (rw own at same) has (covers.found n has);
    }

pub link_at : (links : List Link) (link : Link) (key number : ℕ) (before found : List ℕ) (next : Option ℕ) → next ≡ Some number →
    link ≡ get_or links number link → CoversDown (link_keys links) key before found next → slice_get links number ≡ Some link
link_at links link key number before found next at is covers = grind (arith, found, at, slice_get_read, length-map)

pub walk_shorter : (links : List Link) (link : Link) (number : ℕ) → LeadOn links → slice_get links number ≡ Some link →
    count_down link.earlier < count_down (Some number)
walk_shorter links link number lead is = let earlier = earlier_is links link number lead is in grind arith
