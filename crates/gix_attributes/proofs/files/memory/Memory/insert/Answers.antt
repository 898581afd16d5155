use Rattle.std.proofs.Common.{arith, ◌≡◌, List, ℕ, Bool, Option, Some, cond, Vec, Global, string_bytes, rules}
use Rattle.std.proofs.lemmas.Bool.Decides.{nat_tests}
use Rattle.std.specs.Option.{option_map}
use Rattle.std.proofs.lemmas.Map.Text.{hash_map_updates_text}
use Rattle.gix_attributes.proofs.files.memory.Memory.insert.Goals as goal

-- what the map has at a name after the insertion, seen as bytes
option_map-cond : (is_it : Bool) (v : Vec ℕ Global) (bytes : List ℕ) (old new : Option (Vec ℕ Global)) → new ≡ cond is_it (Some v) old → v.items ≡
    bytes
    → option_map (λ w. w.items) new ≡ cond is_it (Some bytes) (option_map (λ w. w.items) old)
option_map-cond is_it v bytes old new e same = grind (arith, nat_tests)

pub returns-clause-files : goal.returns-clause-files
returns-clause-files c = λ name.
    let key : string_bytes c.in_ok-name.name ≡ c.args.path.now = c.in_ok-name.ensures.ok in
    let sets = hash_map_updates_text (string_bytes c.in_ok-name.name) c.args.self.now.contents c.insert.new.self _ c.in_ok-insert.ensures.updates name
    in
    let items : c.in_ok-contents.contents.items ≡ c.args.bytes.now = search rules in
    option_map-cond _ c.in_ok-contents.contents _ _ _ (rw key at sets) items
