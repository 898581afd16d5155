use Rattle.std.proofs.Common.{arith, ◌≡◌, ◌∷◌, ◌++◌, [], ◌∙◌, ap, get_or, map}
use Rattle.std.proofs.lemmas.Grind.{common_steps}
use Rattle.attr_lists.specs.Collections.{NumberedBody}
use Rattle.attr_lists.specs.Definitions.{bodies_of_number, definition_of}
use Rattle.attr_lists.specs.declared.types.Metadata.{Metadata}
use Rattle.attr_lists.specs.inner.EntryViews.{definitions_at, definitions_view}
use Rattle.attr_lists.specs.inner.Registered.{numbered_body}
use Rattle.attr_lists.proofs.EntryLemmas.{defined_at, others_at, same_at}
use Rattle.attr_lists.proofs.name_table.entry.define.Goals as goal

pub returns-in_err-define : goal.returns-in_err-define
returns-in_err-define c = record { ok = grind arith; others = grind (arith, same_at); entries = grind (arith, common_steps) }

pub returns : goal.returns
returns c = record {
  ok = λ n lt.
      let own : NumberedBody = record { number = c.deref.result.now.id.0; body = c.args.known.now.value.macro_attributes.items } in
      let same : own ≡ numbered_body c.args.known.now =
      ap (λ (m : Metadata). record { number = m.id.0; body = c.args.known.now.value.macro_attributes.items }) c.deref.ensures in
      defined_at c.args.list_id n c.args.entries.now own c.index-entries-own.result c.define.new.self c.if-own-entries.false
      (c.in_ok-define.ensures.ok
      ∙ ap (λ (m : Metadata). definitions_view (get_or c.args.entries.now own.number c.index-entries-own.result)
      ++ definition_of c.args.list_id m.macro_attributes.items ∷ []) c.in_ok-metadata.ensures.cases)
      ∙ ap (λ b. definitions_at c.args.entries.now n ++ map (definition_of c.args.list_id) (bodies_of_number n (b ∷ []))) same;
  others = grind (arith, others_at);
  entries = grind (arith, common_steps);
}
