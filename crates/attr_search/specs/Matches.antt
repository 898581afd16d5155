-- What clauses see of a match: its content, and not where it is in memory (own).
use Rattle.std.specs.Prelude.{ℕ, Bool, true, false, [], Option, None, option_map}
use Rattle.attr_glob.specs.Patterns.{Reading}
use Rattle.attr_glob.specs.Views.{pattern_view}
use Rattle.attr_text.specs.TextViews.{assignment_view}
use Rattle.attr_lists.specs.ListViews.{source_id_of}
use Rattle.attr_lists.specs.declared.types.Match.{Match}
use Rattle.attr_lists.specs.declared.types.MatchKind.{MatchKind}
use Rattle.attr_lists.specs.declared.types.MatchKind.TheVariants.{Attribute, Macro}
use Rattle.attr_search.specs.Slots.{Matched}

-- whether a matched attribute is a macro
abbrev pub is_macro_kind : MatchKind → Bool
is_macro_kind (Attribute id) = false
is_macro_kind (Macro id) = true

-- the number of the macro whose body names a matched attribute, none if the line itself names it
abbrev pub cause_of : MatchKind → Option ℕ
cause_of kind = option_map (λ id. id.0) (source_id_of kind)

-- what a match is
abbrev pub match_view : Match → Matched
match_view m =
    let pattern = pattern_view m.pattern.now in
    record {
      origin =
          record {
            text = pattern.text;
            mode = pattern.mode;
            wildcard = pattern.wildcard;
            source = option_map (λ s. s.now) m.location.source;
            line = m.location.sequence_number;
          };
      assignment = assignment_view m.assignment;
      is_macro = is_macro_kind m.kind;
      cause = cause_of m.kind;
    }

-- the empty pattern, of no mode and without a wildcard
abbrev pub no_pattern : Reading
no_pattern = record { text = []; mode = 0; wildcard = None }
