-- What is true of an index of lines with these keys (own).
use Rattle.std.specs.Prelude.{◌≡◌, false, true, List, None, map}
use Rattle.std.specs.Option.{ForSome}
use Rattle.attr_keys.specs.declared.key_index.KeyIndex.{KeyIndex}
use Rattle.attr_keys.specs.shared.KeyContents.{KeyContent}
use Rattle.attr_keys.specs.inner.Cases.{content_in_case}
use Rattle.attr_keys.specs.inner.Orders.{AreSorted}

-- The rows of the keys as they are and in lower case. Without the latter no key has a capital letter. An index without rows is one of
-- any keys, each of which is tried.
pub record IsKeyIndex (keys : List KeyContent) (index : KeyIndex) : Type 0 where
  pub exact : ForSome index.exact (λ rows. AreSorted false keys rows.value)
  pub folded : ForSome index.folded (λ rows. AreSorted true keys rows.value)
  pub lower : index.folded ≡ None → ForSome index.exact (λ rows. map (content_in_case true) keys ≡ keys)
