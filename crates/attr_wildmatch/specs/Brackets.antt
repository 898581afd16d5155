-- What is between the brackets of a pattern, and which bytes it has (gitignore page, which leaves
-- the details to fnmatch; ranges without members and unknown classes are this crate's own rule).
use Rattle.std.specs.Prelude.{ℕ, zero, suc, ◌+◌, Bool, false, not, ◌&&◌, ◌||◌, ◌==◌, nat_le, List, [], ◌∷◌, length, drop, Option, Some, None, option_map, option_and_then, bytes_eq, codes, if◌then◌else◌}
use Rattle.std.specs.List.{list_any}
use Rattle.std.specs.Char.{to_ascii_lowercase, to_ascii_uppercase}
use Rattle.attr_wildmatch.specs.declared.case.Case.{Case}
use Rattle.attr_wildmatch.specs.declared.case.Case.TheVariants.{Sensitive, Fold}
use Rattle.attr_wildmatch.specs.declared.bracket.Class.{Class}
use Rattle.attr_wildmatch.specs.declared.bracket.Class.TheVariants.{Alnum, Alpha, Blank, Cntrl, Digit, Graph, Lower, Print, Punct, Space, Upper, Xdigit}
use Rattle.attr_wildmatch.specs.declared.bracket.Member.{Member}
use Rattle.attr_wildmatch.specs.declared.bracket.Member.TheVariants.{Single, Span, Named}
use Rattle.attr_wildmatch.specs.Bytes.{exclamation_mark, hyphen, colon, open_bracket, backslash, close_bracket, caret}

-- the class of a name, none for a name that is unknown
abbrev pub class_named : List ℕ → Option Class
class_named name =
    if bytes_eq name (codes "alnum") then Some Alnum
    else (if bytes_eq name (codes "alpha") then Some Alpha
    else (if bytes_eq name (codes "blank") then Some Blank
    else (if bytes_eq name (codes "cntrl") then Some Cntrl
    else (if bytes_eq name (codes "digit") then Some Digit
    else (if bytes_eq name (codes "graph") then Some Graph
    else (if bytes_eq name (codes "lower") then Some Lower
    else (if bytes_eq name (codes "print") then Some Print
    else (if bytes_eq name (codes "punct") then Some Punct
    else (if bytes_eq name (codes "space") then Some Space
    else (if bytes_eq name (codes "upper") then Some Upper
    else (if bytes_eq name (codes "xdigit") then Some Xdigit
    else None)))))))))))

-- the byte lies between these two, both included
abbrev pub within : ℕ → ℕ → ℕ → Bool
within low high b = nat_le low b && nat_le b high

-- the bytes of a class
abbrev pub class_holds : Class → ℕ → Bool
class_holds Alnum b = within 0x30 0x39 b || within 0x41 0x5A b || within 0x61 0x7A b
class_holds Alpha b = within 0x41 0x5A b || within 0x61 0x7A b
class_holds Blank b = b == 0x09 || b == 0x20
class_holds Cntrl b = within 0x00 0x1F b || b == 0x7F
class_holds Digit b = within 0x30 0x39 b
class_holds Graph b = within 0x21 0x7E b
class_holds Lower b = within 0x61 0x7A b
class_holds Print b = within 0x20 0x7E b
class_holds Punct b = within 0x21 0x2F b || within 0x3A 0x40 b || within 0x5B 0x60 b || within 0x7B 0x7E b
class_holds Space b = within 0x09 0x0D b || b == 0x20
class_holds Upper b = within 0x41 0x5A b
class_holds Xdigit b = within 0x30 0x39 b || within 0x41 0x46 b || within 0x61 0x66 b

-- the bytes of a member; those of a range whose end lies below its start are none
abbrev pub member_holds : Member → ℕ → Bool
member_holds (Single c) b = b == c
member_holds (Span low high) b = within low high b
member_holds (Named class) b = class_holds class b

-- some member has the byte
abbrev pub members_hold : List Member → ℕ → Bool
members_hold ms b = list_any (λ m. member_holds m b) ms

-- some member has the byte, or under `Fold` its lower or its upper form
abbrev pub set_holds : Case → List Member → ℕ → Bool
set_holds Sensitive ms b = members_hold ms b
set_holds Fold ms b = members_hold ms (to_ascii_lowercase b) || members_hold ms (to_ascii_uppercase b)

-- the byte negates a bracket if it follows the `[`
abbrev pub negates : ℕ → Bool
negates b = b == exclamation_mark || b == caret

-- the text begins with this byte
abbrev pub begins : ℕ → List ℕ → Bool
begins b [] = false
begins b (c ∷ cs) = c == b

-- the name between `[:` and `:]`, given the bytes after `[:`, if their first `]` directly follows a `:`
abbrev pub name_in : List ℕ → Option (List ℕ)
name_in [] = None
name_in (b ∷ bs) =
    if b == close_bracket then None
    else (if b == colon && begins close_bracket bs then Some []
    else option_map (λ name. b ∷ name) (name_in bs))

-- the end of a range, given the bytes after its `-`, and what follows it
abbrev pub span_end : List ℕ → Option (ℕ × List ℕ)
span_end [] = None
span_end (d ∷ []) = if d == close_bracket || d == backslash then None else Some (d, [])
span_end (d ∷ e ∷ bs) = if d == close_bracket then None else (if d == backslash then Some (e, bs) else Some (d, e ∷ bs))

-- the single byte c and what follows it, or the range from c on if an end was found
abbrev pub ranged : ℕ → List ℕ → Option (ℕ × List ℕ) → Member × List ℕ
ranged c bs None = (Single c, bs)
ranged c bs (Some p) = (Span c p.0, p.1)

-- the member that begins with the single byte c, which these bytes follow, and what follows it
abbrev pub from_single : ℕ → List ℕ → Member × List ℕ
from_single c [] = (Single c, [])
from_single c (b ∷ bs) = if b == hyphen then ranged c (b ∷ bs) (span_end bs) else (Single c, b ∷ bs)

-- the member that a backslash begins, which these bytes follow
abbrev pub from_escape : List ℕ → Option (Member × List ℕ)
from_escape [] = None
from_escape (c ∷ bs) = Some (from_single c bs)

-- the member that the `[` before these bytes begins: a class if a name was found, else that byte
abbrev pub class_member : List ℕ → Option (List ℕ) → Option (Member × List ℕ)
class_member bs None = Some (from_single open_bracket bs)
class_member bs (Some name) = option_map (λ class. (Named class, drop (length name + 3) bs)) (class_named name)

-- the member that `[:` begins, given the bytes after the `[`
abbrev pub from_class : List ℕ → Option (Member × List ℕ)
from_class bs = class_member bs (name_in (drop 1 bs))

-- the member that begins with the byte b, which these bytes follow, and what follows it
abbrev pub member_at : ℕ → List ℕ → Option (Member × List ℕ)
member_at b bs =
    if b == backslash then from_escape bs
    else (if b == open_bracket && begins colon bs then from_class bs
    else Some (from_single b bs))

-- The members up to the closing `]`, of at most n bytes, and what follows it. A `]` that comes first is a member.
abbrev pub members : ℕ → Bool → List ℕ → Option (List Member × List ℕ)
members n first [] = None
members zero first (b ∷ bs) = None
members (suc n) first (b ∷ bs) =
    if b == close_bracket && not first then Some ([], bs)
    else option_and_then (λ p. option_map (λ q. (p.0 ∷ q.0, q.1)) (members n false p.1)) (member_at b bs)
