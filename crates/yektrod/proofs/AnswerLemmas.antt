-- Answers by their numbers.
use Rattle.std.proofs.lemmas.Bool.Decides.{nat_tests}
use Rattle.std.proofs.Common.{◌≡◌, ◌≤◌, ◌⊎◌, inl, inr, ℕ, ◌+◌, ◌<◌, List, [], ◌++◌, length, map, take, get_or, Option}
use Rattle.std.proofs.Common.{Some, None, sym, ap, ◌∙◌, arith, unwrap_or, option_map, subst, Bool, true, MatchOption, is_some, if◌then◌else◌}
use Rattle.std.specs.Prelude.{flat_map, option_and_then, slice_get, slice_index_or}
use Rattle.std.proofs.lemmas.List.{flat_map_more, take_more}
use Rattle.std.proofs.lemmas.Option.{get_or_from_slice_get, slice_get-map, slice_get_cases}
use Rattle.gix_attributes.specs.Slots.{Matched}
use Rattle.gix_attributes.specs.declared.glob.pattern.Case.{Case}
use Rattle.gix_attributes.specs.EngineStates.{EngineContent, number_answered}
use Rattle.gix_attributes.specs.Told.{match_told}
use Rattle.gix_attributes.specs.Contents.{unspecified}
use Rattle.yektrod.specs.Held.{Becomes, answer_in}
use Rattle.yektrod.specs.RowsTold.{AnswerTexts, labelled_answer, answers_of, labelled_found, full_text, row_at, row_with, text_of, texts_told}
use Rattle.yektrod.specs.declared.row.Row.{Row}
use Rattle.yektrod.specs.Rows.{answer_row}
use Rattle.yektrod.specs.Sourced.{told_content, told_match}
use Rattle.yektrod.specs.SourcedContents.{SourcedContent}

-- an answer that is there
pub answer_is : {X : Type 0} (answers : Option (List X)) (i : ℕ) (m d : X) → Some m ≡ option_and_then (λ xs. slice_get xs i) answers
    → slice_index_or (unwrap_or answers []) i d ≡ m
answer_is answers i m d e = grind (arith, nat_tests, get_or_from_slice_get)

-- the texts of one more answer
pub texts_more : {X : Type 0} (f : X → List ℕ) (all : List X) (i : ℕ) (d : X) → i < length all
    → flat_map f (take i all) ++ f (get_or all i d) ≡ flat_map f (take (i + 1) all)
texts_more f all i d inside = flat_map_more f [] (take i all) (get_or all i d) ∙ sym (ap (flat_map f) (take_more all i d inside))

-- an answer is told with the source of its list
answer_by : {X Y : Type 0} (f : X → Y) (answers : Option (List X)) (i : ℕ)
    → option_and_then (λ xs. slice_get xs i) (option_map (map f) answers) ≡ option_map f (option_and_then (λ xs. slice_get xs i) answers)
answer_by f answers i = grind (arith, nat_tests, slice_get-map)

pub answer_told : (c : SourcedContent) (i : ℕ) → answer_in (told_content c) i ≡ option_map (told_match c) (answer_in c.labelled i)
answer_told c i = answer_by (told_match c) c.labelled.answers i

-- the row of an answer says nothing of its source but that it is there
same_some : {X Y : Type 0} (f : X → Y) (o : Option X) → is_some (option_map f o) ≡ is_some o
same_some f o = grind (arith, nat_tests)

row_same : (f : List ℕ → List ℕ) (m : Matched) → answer_row (match_told f m) ≡ answer_row m
row_same f m = grind (arith, nat_tests, is_some, same_some)

-- what is told of an answer that is there, and of one that is not
pub row_there : (c : SourcedContent) (i : ℕ) (m : Matched) → Some m ≡ answer_in c.labelled i
    → Some (answer_row m) ≡ option_map answer_row (answer_in (told_content c) i)
row_there c i m there = grind (arith, nat_tests, answer_told c i, row_same)

pub none_there : (c : SourcedContent) (i : ℕ) → None ≡ answer_in c.labelled i → None ≡ answer_in (told_content c) i
none_there c i there = ap (option_map (told_match c)) there ∙ sym (answer_told c i)

-- a question leaves what its engine says, of the content with sources and of the one with labels
pub asked : (view : SourcedContent → EngineContent) (R : List ℕ → Case → Option Bool → EngineContent → EngineContent → Type 0) (live : Bool)
    (held lent new : SourcedContent)
    (path path' : List ℕ) (case case' : Case) (is_dir is_dir' : Option Bool) → R path case is_dir (view lent) (view new)
    → live ≡ true → lent ≡ held → path ≡ path' → case ≡ case' → is_dir ≡ is_dir'
    → Becomes (R path' case' is_dir') (option_map view (if live then Some held else None))
    (option_map view (if live then Some new else None))
asked view R live held lent new path path' case case' is_dir is_dir' told is_live is_lent is_path is_case is_flag = grind (arith, nat_tests)

-- the row and the texts of an answer that is there
abbrev there_in : EngineContent → ℕ → Option Matched
there_in held i = option_and_then (λ answers. slice_get answers i) held.answers

answer_at_is : (c : SourcedContent) (l : EngineContent) (i : ℕ) (m : Matched) → l ≡ c.labelled → Some m ≡ there_in l i → labelled_answer c i ≡ m
answer_at_is c l i m is_l there =
    answer_is c.labelled.answers i m (unspecified []) (there ∙ ap (λ (held : EngineContent). there_in held i) is_l)

pub row_is : (c : SourcedContent) (l : EngineContent) (i at : ℕ) (m : Matched) (texts : AnswerTexts) (number : Option ℕ) (row : Row)
    → l ≡ c.labelled → Some m ≡ there_in l i → texts ≡ texts_told c m → number ≡ number_answered l i → row ≡ row_with texts number at m
    → row ≡ row_at c at i
row_is c l i at m texts number row is_l there texts_are number_is row_told_is = grind (arith, nat_tests, answer_at_is c l i m is_l there)

pub text_is : (c : SourcedContent) (l : EngineContent) (i : ℕ) (m : Matched) (texts : AnswerTexts) → l ≡ c.labelled → Some m ≡ there_in l i
    → texts ≡ texts_told c m → full_text texts ≡ text_of c (labelled_answer c i)
text_is c l i m texts is_l there texts_are = grind (arith, nat_tests, answer_at_is c l i m is_l there)

-- the answers below their number are there
no_such : {X : Type 0} (xs : List X) (i : ℕ) → None ≡ slice_get xs i → i < length xs
    → ((x : X) × (i < length xs) × (slice_get xs i ≡ Some x) × (get_or xs i x ≡ x)) ⊎ ((length xs ≤ i) × (slice_get xs i ≡ None)) → ⊥
no_such {X = X} xs i none inside (inl p) = subst (λ (o : Option X). MatchOption o (Unit {0}) (λ x. ⊥)) (none ∙ p.2) tt
no_such xs i none inside (inr q) = omega (arith, q.0, inside)

no_answer : {X : Type 0} (answers : Option (List X)) (i : ℕ) → None ≡ option_and_then (λ xs. slice_get xs i) answers
    → i < length (unwrap_or answers []) → ⊥
no_answer answers i none inside = grind (arith, nat_tests, no_such, slice_get_cases)

pub none_is_not : (c : SourcedContent) (l : EngineContent) (i : ℕ) → l ≡ c.labelled → None ≡ there_in l i → i < length (answers_of c) → ⊥
none_is_not c l i is_l none inside = no_answer c.labelled.answers i (none ∙ ap (λ (held : EngineContent). there_in held i) is_l) inside

-- what is found for a number, with its row and its texts
pub found_is : (c : SourcedContent) (l : EngineContent) (number : ℕ) (m : Matched) (P : Matched → Type 0) → l ≡ c.labelled
    → Some m ≡ slice_index_or l.found number None → P m → MatchOption (labelled_found c number) ⊥ P
found_is c l number m P is_l there holds = grind (arith, nat_tests)
