-- What clauses see of the texts of an answer (own).
use Rattle.std.specs.Prelude.{ℕ, List, ◌++◌}
use Rattle.gix_attributes.specs.Bytes.{exclamation_mark, slash}
use Rattle.gix_attributes.specs.Patterns.{mark_where}
use Rattle.yektrod.specs.RowsTold.{AnswerTexts}
use Rattle.yektrod.specs.declared.row_texts.MarkedText.{MarkedText}
use Rattle.yektrod.specs.declared.row_texts.RowTexts.{RowTexts}

-- a text with its marks
abbrev pub marked_text : MarkedText → List ℕ
marked_text t =
    mark_where t.is_negative exclamation_mark ++ mark_where t.is_absolute slash ++ t.text.now ++ mark_where t.must_be_dir slash

abbrev pub texts_view : RowTexts → AnswerTexts
texts_view t =
    record {
      name = t.name.now;
      value = t.value.now;
      source = t.source.now;
      pattern = marked_text t.pattern;
      cause = t.cause.now;
    }
