-- Lemmas for the crates above, beside the contracts and the laws.

-- Definitions of macros. `of_other_lists-append`: the definitions of other lists in two parts. `of_other_lists-own`: a list's own
-- definitions are none of another list's. `registered_for`, `removed_for`: the definitions of a name after a list is registered, and after
-- one is removed. `definitions_by_name`: of a name's number they are the same. `body_within`, `body_named`: the items of a body have
-- numbers of names, and those of their names. `held_registered`: a list that is held is registered.
pub use Rattle.attr_lists.proofs.DefinitionLemmas.{of_other_lists-append, of_other_lists-own}
pub use Rattle.attr_lists.proofs.NameTableLaws.{of_other_lists-free, removed_for}
pub use Rattle.attr_lists.proofs.RegistersLemmas.{body_named, body_within, definitions_by_name, held_registered, registered_for}
-- Names. `with_names-extends`: new names are appended. `list_numbered`: the lines of a list that is added have the numbers of their
-- names. `number_at`: of names that differ, the one at a number has this number.
pub use Rattle.attr_lists.proofs.NameLemmas.{with_names-extends}
-- `lines_numbered_by`: lines that are numbered have the numbers of their names. `names_back`: the first names are those before.
-- `registers_numbered`: lines that were numbered first are registered as those without numbers. `stay_registered`: then the other lists stay.
pub use Rattle.attr_lists.proofs.FreshNames.{lines_numbered_by, names_back, registers_numbered, stay_registered}
pub use Rattle.attr_lists.proofs.NameTableLaws.{list_numbered}
pub use Rattle.attr_lists.proofs.NamedDefinitions.{number_at}
-- Lists. `copied_lines`: a copy has the lines.
pub use Rattle.attr_lists.proofs.CopiedLines.{copied_lines}
-- `get_or-map`: an element of a mapped list.
pub use Rattle.attr_lists.proofs.ListLemmas.{get_or-map}
