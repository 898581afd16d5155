-- The paths of the attributes files outside a worktree (gitattributes page; own: the files of an installation and of a system,
-- and how directories and files are joined).
use Rattle.std.specs.Prelude.{◌≡◌, ℕ, ◌-◌, ◌==◌, Bool, List, [], ◌∷◌, ◌++◌, map, length, take, codes, String, string_bytes}
use Rattle.std.specs.Prelude.{bytes_eq, Option, Some, None, is_some, unwrap_or, option_map, option_and_then, if◌then◌else◌}
use Rattle.std.specs.Global.{Global}
use Rattle.std.specs.List.{FoldsTo, find, suffix_len}
use Rattle.std.specs.Fn.{Mut, CalledAt}
use Rattle.std.specs.Borrow.{Bor}
use Rattle.attr_wildmatch.specs.Bytes.{slash}
use Rattle.attr_wildmatch.specs.Slashes.{is_slash}
use Rattle.gix_attributes.specs.declared.source.Prefixes.{Prefixes}
use Rattle.gix_attributes.specs.declared.source.Source.{Source}
use Rattle.gix_attributes.specs.declared.source.Source.TheVariants.{GitInstallation, System, Git, Local}

-- an environment variable that was looked up, and its value
pub record Asked : Type 0 where
  pub name : List ℕ
  pub value : Option (List ℕ)

-- a call of f looks the variable up, and returns its value
abbrev pub Asks : {F : Type 0} → Mut F (Bor (List ℕ) × Unit {0}) (Option (String Global)) → F → Asked → F → Type 0
Asks calls f asked after =
    (value : Option (String Global)) × CalledAt calls f asked.name value after × (option_map string_bytes value ≡ asked.value)

-- calls of f look these variables up in this order, and nothing else
abbrev pub AsksInOrder : {F : Type 0} → Mut F (Bor (List ℕ) × Unit {0}) (Option (String Global)) → F → List Asked → Type 0
AsksInOrder {F} calls f asked = (after : F) × FoldsTo (Asks calls) f asked after

-- the value that was returned for a variable
abbrev pub variable_value : List ℕ → List Asked → Option (List ℕ)
variable_value name asked = option_and_then (λ a. a.value) (find (λ a. bytes_eq a.name name) asked)

-- the variable has no value, or the empty one
abbrev pub is_unset_or_empty : Option (List ℕ) → Bool
is_unset_or_empty value = length (unwrap_or value []) == 0

abbrev pub no_system : List ℕ
no_system = codes "GIT_ATTR_NOSYSTEM"

abbrev pub config_home : List ℕ
config_home = codes "XDG_CONFIG_HOME"

abbrev pub home : List ℕ
home = codes "HOME"

-- the variables that matter for a source: the user's home only if the directory of their configuration is not set
abbrev pub variables : Source → List Asked → List (List ℕ)
variables GitInstallation asked = []
variables System asked = no_system ∷ []
variables Git asked = config_home ∷ (if is_unset_or_empty (variable_value config_home asked) then home ∷ [] else [])
variables Local asked = []

-- exactly the variables that matter were looked up, in this order
abbrev pub IsAsked : Source → List Asked → Type 0
IsAsked source asked = map (λ a. a.name) asked ≡ variables source asked

-- a directory without the slashes at its end, a slash, and the rest
abbrev pub joined : List ℕ → List ℕ → List ℕ
joined directory rest = take (length directory - suffix_len is_slash directory) directory ++ slash ∷ rest

-- the rest below a directory that is known
abbrev pub below : Option (List ℕ) → List ℕ → Option (List ℕ)
below directory rest = option_map (λ f. joined f rest) directory

-- the path of a source's file, by the prefixes and the values of variables
abbrev pub location : Source → Prefixes → List Asked → Option (List ℕ)
location GitInstallation prefixes asked = below (option_map string_bytes prefixes.installation) (codes "gitattributes")
location System prefixes asked =
    if is_some (variable_value no_system asked)
    then None
    else below (option_map string_bytes prefixes.system) (codes "etc/gitattributes")
location Git prefixes asked =
    let config = variable_value config_home asked in
    if is_unset_or_empty config
    then below (variable_value home asked) (codes ".config/git/attributes")
    else below config (codes "git/attributes")
location Local prefixes asked = Some (codes "info/attributes")
