-- The record that is read is the one that is spelled.
use Rattle.std.proofs.Common.{◌∙◌, sym, ap}
use Rattle.std.proofs.lemmas.List.{take_rest}
use Rattle.check_attr.specs.inner.ScriptParts.{add_record, names_record, ask_record}
use Rattle.check_attr.proofs.SpellingLemmas.{reads_add, reads_names, reads_ask, if_ok}
use Rattle.check_attr.proofs.script.record_of.Goals as goal

pub returns-then-starts_with : goal.returns-then-starts_with
returns-then-starts_with c = reads_ask c.args.bytes.now _ (sym c.starts_with.ensures.value ∙ c.if-starts_with.true) (c.ask_record.ensures
    ∙ ap ask_record (take_rest c.args.bytes.now 4))

pub returns-then-starts_with-2 : goal.returns-then-starts_with-2
returns-then-starts_with-2 c = reads_add c.args.bytes.now _ (sym c.starts_with-2.ensures.value ∙ c.if-starts_with-2.true) (c.add_record.ensures
    ∙ ap add_record (take_rest c.args.bytes.now 4))

pub returns-then-starts_with-4 : goal.returns-then-starts_with-4
returns-then-starts_with-4 c =
    if_ok c.names_record.result _ _
    (λ read e. reads_names c.args.bytes.now _ (sym c.starts_with-2.ensures.value ∙ c.if-starts_with-2.false)
    (sym c.starts_with-3.ensures.value ∙ c.if-starts_with-3.false) (sym c.starts_with-4.ensures.value ∙ c.if-starts_with-4.true) (e
    ∙ ap names_record (take_rest c.args.bytes.now 6)))
    c.names_record.ensures
