-- What a key says (own).
use Rattle.std.specs.Prelude.{ℕ, Bool, List}
use Rattle.attr_keys.specs.declared.key.Subject.{Subject}

-- what has to have the key, with what that begins, and whether nothing may follow
pub record KeyContent : Type 0 where
  pub subject : Subject
  pub text : List ℕ
  pub is_whole : Bool
