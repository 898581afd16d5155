-- The view of numbers by key, and that their links lead through all numbers of a key (own).
use Rattle.std.specs.Prelude.{◌≡◌, ℕ, ◌-◌, List, Option, Some, length, map, min, nat_eq, slice_get, vec_capacity}
use Rattle.std.specs.HashMap.{get, spare}
use Rattle.attr_search.specs.declared.numbers_by_key.Link.{Link}
use Rattle.attr_search.specs.declared.numbers_by_key.NumbersByKey.TheInside.{Inside}
use Rattle.attr_search.specs.KeyedNumbers.{KeyedNumbers}
use Rattle.attr_search.specs.inner.KeyLinks.{latest_below}

abbrev pub link_keys : List Link → List ℕ
link_keys links = map (λ l. l.key) links

-- for each key the greatest number that has it
abbrev pub AreLatest : List Link → (ℕ → Option ℕ) → Type 0
AreLatest links latest = (key : ℕ) → latest key ≡ latest_below (link_keys links) key (length links)

-- each link leads to the greatest smaller number of its key
abbrev pub LeadOn : List Link → Type 0
LeadOn links = (number : ℕ) (link : Link) → slice_get links number ≡ Some link → link.earlier ≡ latest_below (link_keys links) link.key number

abbrev pub numbers_view : Inside → KeyedNumbers
numbers_view s =
    record { keys = link_keys s.links.items; room = min (spare s.latest) (vec_capacity s.links - length s.links.items) }

pub record AreLinked (s : Inside) : Type 0 where
  pub latest : AreLatest s.links.items (get nat_eq s.latest)
  pub links : LeadOn s.links.items
