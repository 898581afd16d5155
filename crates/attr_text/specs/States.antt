-- States of an attribute, as the gitattributes page has them.
use Rattle.std.specs.Prelude.{ℕ, Bool, true, false, List, Option, Some, None}
use Rattle.attr_text.specs.declared.state.State.{State}
use Rattle.attr_text.specs.declared.state.State.TheVariants.{Set, Unset, Value, Unspecified}

-- an attribute with a value counts as set
abbrev pub is_set : State → Bool
is_set Set = true
is_set Unset = false
is_set (Value bytes) = true
is_set Unspecified = false

-- the bytes of the value, if the state has one
abbrev pub value_of : State → Option (List ℕ)
value_of Set = None
value_of Unset = None
value_of (Value bytes) = Some bytes
value_of Unspecified = None
