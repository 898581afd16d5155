use Rattle.std.proofs.Common.{◌≡◌, ◌∙◌, ap, arith, length}
use Rattle.std.proofs.lemmas.List.{length-append}
use Rattle.attr_lists.specs.Collections.{Collection}
use Rattle.attr_lists.specs.KeptLists.{kept_list_where}
use Rattle.attr_lists.specs.Numbers.{names_in}
use Rattle.attr_lists.specs.inner.NameTableView.{name_table_view, IsNameTable}
use Rattle.attr_lists.proofs.FreshNames.{appended, named_whole, no_error, on_value, read_back}
use Rattle.attr_lists.proofs.name_table.NameTable.read.Goals.{Joined-read}
use Rattle.attr_lists.proofs.name_table.NameTable.read.Goals as goal

pub extend-extended-requires : goal.extend-extended-requires
extend-extended-requires c =
    let texts = names_in (kept_list_where c.args.allow_macros c.args.bytes.now) in
    let names = on_value c.read_buffer-read.result (λ x r. r.numbered.names) c.read_buffer-read.ensures.ok in
    let more = appended c.read_buffer-read.result c.self.inside.names c.read_buffer-read.new.names texts names c.read_buffer-read.ensures.err in
    omega (arith, ap length more.1, length-append c.self.inside.names more.0, c.self.invariant.counted, c.len.ensures.count)

pub invariant_of-self : goal.invariant_of-self
invariant_of-self c =
    let p = c.self.inside in
    let texts = names_in (kept_list_where c.args.allow_macros c.args.bytes.now) in
    let names = on_value c.read_buffer-read.result (λ x r. r.numbered.names) c.read_buffer-read.ensures.ok in
    let extended = c.extend-extended.ensures in
    named_whole p.entries.items c.extend-extended.new.entries.items p.macros (name_table_view p) c.read_buffer-read.new.names c.self.invariant
    (appended c.read_buffer-read.result _ _ texts names c.read_buffer-read.ensures.err) (extended.entries c.self.invariant.entries)
    extended.definitions c.len.ensures.valid c.len.ensures.distinct
    (no_error c.extend-extended.result c.is_err-else-is_err.result c.is_err-else-is_err.ensures.value c.if-is_err-2.false extended.ok
    ∙ c.len.ensures.count)

pub returns-clause-names : goal.returns-clause-names
returns-clause-names c = record {
  lists = ap (λ (known : Collection). known.lists) c.self.view_is;
  sound = (invariant_of-self c).sound;
  err = grind arith;
}

-- the names that were added are taken back
back : (c : Joined-read) → (c.keep_first.new.names ≡ c.self.inside.names) × IsNameTable (record {
  names = c.keep_first.new.names;
  entries = c.keep_first.new.entries;
  lists = c.self.inside.lists;
  macros = c.self.inside.macros;
})
back c =
    let p = c.self.inside in
    let texts = names_in (kept_list_where c.args.allow_macros c.args.bytes.now) in
    let names = on_value c.read_buffer-read.result (λ x r. r.numbered.names) c.read_buffer-read.ensures.ok in
    let extended = c.extend-extended.ensures in
    rw (c.keep_first.ensures.names, c.keep_first.ensures.entries)
    (read_back p.entries.items c.extend-extended.new.entries.items p.macros (name_table_view p) c.read_buffer-read.new.names c.self.invariant
    (appended c.read_buffer-read.result _ _ texts names c.read_buffer-read.ensures.err) (extended.entries c.self.invariant.entries)
    extended.definitions c.len-count.result c.len-count.ensures.count extended.more)

pub invariant_of-self-then-is_err : goal.invariant_of-self-then-is_err
invariant_of-self-then-is_err c = (back c).1

pub returns-then-is_err-clause-names : goal.returns-then-is_err-clause-names
returns-then-is_err-clause-names c = record {
  lists = ap (λ (known : Collection). known.lists) c.self.view_is;
  sound = (back c).1.sound;
  err = rw (back c).0 c.self.view_is;
}
