-- A set of names: their texts by number, and their numbers by text (own).
use Rattle.std.specs.Prelude.{◌≡◌, ℕ, List, map, bytes_eq, Option}
use Rattle.std.specs.List.{IsDistinct}
use Rattle.std.specs.BTreeMap.{BTreeMap, get_by}
use Rattle.std.specs.Cmp.Lexicographic.{slice_cmp}
use Rattle.std.specs.Ordering.{nat_cmp}
use Rattle.std.specs.Rc.{rc_str_bytes}
use Rattle.std.specs.declared.rc.RcStr.{RcStr}
use Rattle.attr_lists.specs.declared.name_table.name_set.NameSet.TheInside.{Inside}
use Rattle.attr_lists.specs.Numbers.{number_of}
use Rattle.attr_lists.specs.inner.EntryViews.{AreValid}

-- the texts, by number
abbrev pub texts_of : Inside → List (List ℕ)
texts_of set = map rc_str_bytes set.texts.items

-- the number that stands under a text
abbrev pub number_under : {Z : Type 0} → BTreeMap (RcStr Z) ℕ → List ℕ → Option ℕ
number_under numbers text = get_by (λ key. slice_cmp nat_cmp text (rc_str_bytes key)) numbers

-- the texts are valid names and differ, and under each stands its number, under no other text any
pub record IsNameSet (set : Inside) : Type 0 where
  pub valid : AreValid (texts_of set)
  pub distinct : IsDistinct bytes_eq (texts_of set)
  pub numbers : (text : List ℕ) → number_under set.numbers text ≡ number_of (texts_of set) text
