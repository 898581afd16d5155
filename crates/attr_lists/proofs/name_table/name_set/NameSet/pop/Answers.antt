use Rattle.std.proofs.Common.{◌∷◌, [], None, ap, subst, map, ◌∙◌}
use Rattle.std.specs.Rc.{rc_str_bytes}
use Rattle.std.proofs.lemmas.List.{map-append}
use Rattle.attr_lists.proofs.NameSetLemmas.{name_set_popped, Changes}
use Rattle.attr_lists.proofs.name_table.name_set.NameSet.pop.Goals as goal

pub invariant_of-self : goal.invariant_of-self
invariant_of-self c =
    let old = c.self.inside in
    name_set_popped old _ (rc_str_bytes c.in-Some.text) c.self.invariant
    (ap (map rc_str_bytes) c.in-Some.ensures.items ∙ map-append rc_str_bytes c.pop.new.self.items (c.in-Some.text ∷ []))
    (subst (λ t. Changes t old.numbers c.remove.new.self None) c.as_str.ensures.value c.remove.ensures.updates)
