use Rattle.std.proofs.Common.{◌≡◌, ◌∷◌, ◌++◌, [], Some, ap, subst, map, ◌∙◌, length, arith}
use Rattle.std.specs.Rc.{rc_str_bytes}
use Rattle.std.proofs.lemmas.List.{length-map, map-append}
use Rattle.attr_lists.specs.Numbers.{number_of}
use Rattle.attr_lists.specs.inner.NameSets.{texts_of}
use Rattle.attr_lists.proofs.NameSetLemmas.{name_set_pushed, Changes}
use Rattle.attr_lists.proofs.name_table.name_set.NameSet.push.Goals as goal

pub invariant_of-self-2 : goal.invariant_of-self-2
invariant_of-self-2 c =
    let old = c.self.inside in
    let text = rc_str_bytes c.args.text in
    let number : c.len-number.result ≡ length (texts_of old) =
    omega (arith, c.len-number.ensures, length-map old.texts.items rc_str_bytes, old.texts.ok.0) in
    name_set_pushed old _ text c.self.invariant
    (ap (map rc_str_bytes) (c.push_reserved.ensures.items ∙ ap (λ l. l ++ c.in_ok-own.own ∷ []) c.reserve.ensures.items)
    ∙ map-append rc_str_bytes old.texts.items (c.in_ok-own.own ∷ []) ∙ ap (λ t. texts_of old ++ t ∷ []) c.in_ok-own.ensures.cases)
    (ap (λ l. number_of l text) c.self.view_is ∙ c.requires.new) c.requires.valid
    (subst (λ n. Changes text old.numbers c.insert.new.self (Some n)) number c.in_ok-insert.ensures.updates)
