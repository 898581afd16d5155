-- What clauses see of records that borrow from a script: their content (own).
use Rattle.std.specs.Prelude.{ℕ, List, Vec, map}
use Rattle.std.specs.Borrow.{Bor}
use Rattle.std.specs.Global.{Global}
use Rattle.gix_attributes.specs.EngineView.{addition_view}
use Rattle.check_attr.specs.Script.{Question as ReadQuestion, Record as ReadRecord, add, pop, names, ask}
use Rattle.check_attr.specs.declared.script.Question.{Question}
use Rattle.check_attr.specs.declared.script.Record.{Record}
use Rattle.check_attr.specs.declared.script.Record.TheVariants.{Add, Pop, Names, Ask}

abbrev pub question_view : Question → ReadQuestion
question_view q = record { form = q.form; case = q.asked.case; is_dir = q.asked.is_dir; path = q.asked.path.bytes.now }

abbrev pub record_view : Record → ReadRecord
record_view (Add a) = add (addition_view a)
record_view Pop = pop
record_view (Names lines) = names (map (λ line. line.now) lines.items)
record_view (Ask q) = ask (question_view q)

-- a part that was read, and the bytes after it
abbrev pub with_rest : {X Y : Type 0} → (X → Y) → X × Bor (List ℕ) → Y × List ℕ
with_rest view read = (view read.0, read.1.now)

-- the bytes of a part
abbrev pub part_view : Bor (List ℕ) → List ℕ
part_view part = part.now

-- the texts of lines
abbrev pub lines_view : Vec (Bor (List ℕ)) Global → List (List ℕ)
lines_view lines = map part_view lines.items
