-- A hasher that has the front of a text (own). Nothing here has to be believed.
use Rattle.std.specs.Prelude.{◌≡◌, ℕ, List, take}
use Rattle.std.specs.Hash.DefaultHasher as sip
use Rattle.attr_search.specs.declared.directory_keys.FrontHasher.{FrontHasher}

-- it has as many of the text's bytes as it says
abbrev pub HasFront : List ℕ → FrontHasher → Type 0
HasFront text front = front.hasher ≡ sip.write sip.initial (take front.read text)
