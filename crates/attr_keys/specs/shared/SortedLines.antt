-- What is known of lines with these keys once they are sorted by kind (own).
use Rattle.std.specs.Prelude.{◌≡◌, false, List}
use Rattle.std.specs.Option.{ForSome}
use Rattle.attr_keys.specs.declared.kinds.Kinds.{Kinds}
use Rattle.attr_keys.specs.inner.Kinds.{AreKindRows}
use Rattle.attr_keys.specs.shared.KeyContents.{KeyContent}

-- if they are many, each is among those of its kind, by its key as it stands
abbrev pub SortsLines : List KeyContent → Kinds → Type 0
SortsLines keys sorted = ForSome sorted.rows (λ rows. (rows.value.fold ≡ false) × AreKindRows keys rows.value)
