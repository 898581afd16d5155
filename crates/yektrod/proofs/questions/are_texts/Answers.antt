use Rattle.std.proofs.Common.{ℕ, Bool, Bor, List, ◌∙◌, sym, arith}
use Rattle.std.proofs.lemmas.Bool.Decides.{nat_tests}
use Rattle.std.proofs.lemmas.Iterator.{YieldsList-from_slice}
use Rattle.std.proofs.lemmas.Iterator.Search.{all_from_yields_List}
use Rattle.std.proofs.lemmas.List.Sums.{AllPass-from_list_all, list_all-from_AllPass}
use Rattle.std.proofs.lemmas.Str.{IsUtf8-from_is_utf8, is_utf8-from_IsUtf8}
use Rattle.std.specs.Str.{is_utf8}
use Rattle.yektrod.proofs.questions.are_texts.Goals as goal

abbrev is_text : Bor (List ℕ) → Bool
is_text name = is_utf8 name.now

pub returns : goal.returns
returns c =
    let names = c.args.names.now in
    let told = all_from_yields_List is_text _ _ c.all.result c.all.ensures.ran (YieldsList-from_slice names c.iter.ensures.rest)
    (λ x b q k. grind (arith, nat_tests, is_utf8-from_IsUtf8, IsUtf8-from_is_utf8, k)) in (
      λ yes k d inside. IsUtf8-from_is_utf8 _ (AllPass-from_list_all is_text names (sym told ∙ yes) k d inside),
      λ all. told ∙ list_all-from_AllPass is_text names (λ k d inside. is_utf8-from_IsUtf8 _ (all k d inside)),
    )
