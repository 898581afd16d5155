-- Views of names, values and assignments (own).
use Rattle.std.specs.Prelude.{ℕ, List}
use Rattle.attr_text.specs.declared.name.NameRef.{NameRef}
use Rattle.attr_text.specs.declared.state.ValueRef.{ValueRef}
use Rattle.attr_text.specs.declared.state.StateRef.{StateRef}
use Rattle.attr_text.specs.declared.state.StateRef.TheVariants as refs
use Rattle.attr_text.specs.declared.state.State.{State}
use Rattle.attr_text.specs.declared.state.State.TheVariants.{Set, Unset, Value, Unspecified}
use Rattle.attr_text.specs.declared.assignment.Assignment.{Assignment}
use Rattle.attr_text.specs.declared.assignment.AssignmentRef.{AssignmentRef}

-- the text of a name
abbrev pub name_text : NameRef → List ℕ
name_text n = n.text.now

-- the bytes of a value
abbrev pub value_bytes : ValueRef → List ℕ
value_bytes v = v.bytes.now

-- the state with a value of its own
abbrev pub state_view : StateRef → State
state_view refs.Set = Set
state_view refs.Unset = Unset
state_view (refs.Value v) = Value (value_bytes v)
state_view refs.Unspecified = Unspecified

-- the assignment with a name and a value of its own
abbrev pub assignment_view : AssignmentRef → Assignment
assignment_view a = record { name = name_text a.name; state = state_view a.state }
