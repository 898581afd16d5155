-- The bytes that carry meaning in patterns and in quoted texts (gitignore and gitattributes pages).
use Rattle.std.specs.Prelude.{ℕ}

-- `!`
abbrev pub exclamation_mark : ℕ
exclamation_mark = 33

-- `"`
abbrev pub quote : ℕ
quote = 34

-- `#`
abbrev pub number_sign : ℕ
number_sign = 35

-- `*`
abbrev pub asterisk : ℕ
asterisk = 42

-- `-`
abbrev pub hyphen : ℕ
hyphen = 45

-- `/`
abbrev pub slash : ℕ
slash = 47

-- `:`
abbrev pub colon : ℕ
colon = 58

-- `?`
abbrev pub question_mark : ℕ
question_mark = 63

-- `[`
abbrev pub open_bracket : ℕ
open_bracket = 91

-- `\`
abbrev pub backslash : ℕ
backslash = 92

-- `]`
abbrev pub close_bracket : ℕ
close_bracket = 93

-- `^`
abbrev pub caret : ℕ
caret = 94
