-- The first record of a script is read exactly if it is spelled.
use Rattle.std.proofs.lemmas.Bool.Decides.{Decides-eqb, nat_tests}
use Rattle.std.proofs.lemmas.List.Elements.{All-cons, All-head, All-tail}
use Rattle.std.proofs.lemmas.Slice.Eq.{starts_is}
use Rattle.std.proofs.Common.{◌≡◌, ℕ, zero, suc, ◌<◌, ◌⊎◌, inl, inr, Bool, true, false, List, [], ◌∷◌, ◌++◌}
use Rattle.std.proofs.Common.{length, drop, Option, Some, None, option_map, unwrap_or, IfSome, All, flat_map, codes, refl, sym, ap, ◌∙◌, subst, arith}
use Rattle.std.proofs.Common.{append_assoc, length-append, zero-lt-suc}
use Rattle.std.specs.Prelude.{nat_eq, decimal, if◌then◌else◌, Result, IfOk}
use Rattle.std.specs.Char.{is_ascii_digit}
use Rattle.std.specs.List.{list_all, starts_with}
use Rattle.std.specs.Str.{IsUtf8}
use Rattle.gix_attributes.specs.declared.glob.pattern.Case.{Case}
use Rattle.gix_attributes.specs.LinesJoined.{line_feed}
use Rattle.check_attr.specs.declared.script.Form.{Form}
use Rattle.gix_attributes.specs.EngineStates.{AddedFile}
use Rattle.check_attr.specs.Script.{Question, Record, add, pop, names, ask, space, header, macros_word, root_word, form_word, case_word}
use Rattle.check_attr.specs.Script.{directory_word}
use Rattle.check_attr.specs.Script.{ended_line, spelled, IsHeaderNumber, IsShortText, IsNameLine, CanBeWritten, BeginsWithRecord, IsMalformed}
use Rattle.check_attr.specs.inner.ScriptParts.{◌then◌, choice_of, macro_flags, forms, cases, directory_flags, strip_prefix, split_once, split_at}
use Rattle.check_attr.specs.inner.ScriptParts.{if_text, is_number, digits_value, number_before, root_length, root_of, text_lines, add_record}
use Rattle.check_attr.specs.inner.ScriptParts.{names_record, ask_record, record_of, IsFirstRecord, IsNumberBefore}
use Rattle.check_attr.proofs.PartLemmas.{then-some, map-some, same_some, starts_with-only, strip_prefix-only, number_before-back, number_before-only}
use Rattle.check_attr.proofs.PartLemmas.{split_at-back, split_at-only, split_text-only, split_once-back, split_once-only, if_text-back, if_text-only}
use Rattle.check_attr.proofs.PartLemmas.{decimal_digits, decimal_some}

-- ---- the text of a record, with the rest behind it

-- a header and what follows it
onto : List (List ℕ) → List ℕ → List ℕ
onto [] rest = line_feed ∷ rest
onto (word ∷ []) rest = word ++ line_feed ∷ rest
onto (word ∷ other ∷ words) rest = word ++ space ∷ onto (other ∷ words) rest

header-onto : (words : List (List ℕ)) (rest : List ℕ) → header words ++ rest ≡ onto words rest
unfolding onto
header-onto (word ∷ other ∷ words) rest = grind (arith, nat_tests, append_assoc, header-onto (other ∷ words) rest)
header-onto words rest = grind (arith, nat_tests, append_assoc)

ended_line-onto : (line rest : List ℕ) → ended_line line ++ rest ≡ line ++ line_feed ∷ rest
ended_line-onto line rest = append_assoc line (line_feed ∷ []) rest

-- the words of a header behind its first one
addition_words : AddedFile → List (List ℕ)
addition_words a = macros_word a.allow_macros ∷ decimal (length a.source) ∷ root_word a.root ∷ decimal (length a.buffer) ∷ []

question_words : Question → List (List ℕ)
question_words q = form_word q.form ∷ case_word q.case ∷ directory_word q.is_dir ∷ decimal (length q.path) ∷ []

addition_parts : AddedFile → List ℕ → List ℕ
addition_parts a rest = a.source ++ (unwrap_or a.root [] ++ (a.buffer ++ line_feed ∷ rest))

text_with : Record → List ℕ → List ℕ
text_with (add a) rest = onto (codes "add" ∷ addition_words a) (addition_parts a rest)
text_with pop rest = onto (codes "pop" ∷ []) rest
text_with (names lines) rest = onto (codes "names" ∷ decimal (length lines) ∷ []) (flat_map ended_line lines ++ rest)
text_with (ask q) rest = onto (codes "ask" ∷ question_words q) (q.path ++ line_feed ∷ rest)

spelled-text_with : (r : Record) (rest : List ℕ) → spelled r ++ rest ≡ text_with r rest
unfolding text_with addition_words question_words addition_parts
spelled-text_with (add a) rest =
    let words : List (List ℕ) = codes "add" ∷ addition_words a in
    let front : List ℕ = a.source ++ unwrap_or a.root [] in
    append_assoc (header words) (ended_line (front ++ a.buffer)) rest
    ∙ (header-onto words (ended_line (front ++ a.buffer) ++ rest)
    ∙ ap (onto words) (ended_line-onto (front ++ a.buffer) rest
    ∙ (append_assoc front a.buffer (line_feed ∷ rest) ∙ append_assoc a.source (unwrap_or a.root []) (a.buffer ++ line_feed ∷ rest))))
spelled-text_with pop rest = header-onto (codes "pop" ∷ []) rest
spelled-text_with (names lines) rest =
    let words : List (List ℕ) = codes "names" ∷ decimal (length lines) ∷ [] in
    append_assoc (header words) (flat_map ended_line lines) rest ∙ header-onto words (flat_map ended_line lines ++ rest)
spelled-text_with (ask q) rest =
    let words : List (List ℕ) = codes "ask" ∷ question_words q in
    append_assoc (header words) (ended_line q.path) rest
    ∙ (header-onto words (ended_line q.path ++ rest) ∙ ap (onto words) (ended_line-onto q.path rest))

-- ---- what is spelled is read

then-step : {X Y : Type 0} (o : Option X) (next : X → Option Y) (x : X) → o ≡ Some x → (o then next) ≡ next x
then-step o next x e = ap (λ p. p then next) e

forms-back : (f : Form) (rest : List ℕ) → choice_of forms (form_word f ++ space ∷ rest) ≡ Some (f, rest)
forms-back f rest = grind (arith, nat_tests)

cases-back : (c : Case) (rest : List ℕ) → choice_of cases (case_word c ++ space ∷ rest) ≡ Some (c, rest)
cases-back c rest = grind (arith, nat_tests)

directories-back : (d : Option Bool) (rest : List ℕ) → choice_of directory_flags (directory_word d ++ space ∷ rest) ≡ Some (d, rest)
directories-back d rest = grind (arith, nat_tests)

-- a number does not begin with `-`
no_minus : (digits rest others : List ℕ) → 0 < length digits → list_all is_ascii_digit digits ≡ true → digits ++ rest ≡ 45 ∷ others → ⊥
no_minus [] rest others some all e = omega (arith, some)
no_minus (d ∷ digits) rest others some all e = grind (arith, nat_tests)

root_length-back : (root : Option (List ℕ)) (rest : List ℕ) → IfSome root IsShortText
    → root_length (root_word root ++ space ∷ rest) ≡ Some (option_map length root, rest)
root_length-back root rest short = grind (arith, nat_tests, no_minus, decimal_some, decimal_digits, starts_with-only, number_before-back)

add_record-back : (a : AddedFile) (rest : List ℕ) → CanBeWritten (add a)
    → add_record (onto (addition_words a) (addition_parts a rest)) ≡ Some (add a, rest)
unfolding onto addition_words addition_parts
add_record-back a rest can = grind (arith, nat_tests, then-step, number_before-back, root_length-back, if_text-back, split_at-back)

lines-onto : (line : List ℕ) (lines : List (List ℕ)) (rest : List ℕ)
    → flat_map ended_line (line ∷ lines) ++ rest ≡ line ++ line_feed ∷ (flat_map ended_line lines ++ rest)
lines-onto line lines rest = grind (arith, nat_tests, append_assoc, flat_map, ended_line-onto)

text_lines-back : (lines : List (List ℕ)) (rest : List ℕ) → All IsNameLine lines
    → text_lines (length lines) (flat_map ended_line lines ++ rest) ≡ Some (lines, rest)
text_lines-back [] rest all = refl
text_lines-back (line ∷ lines) rest all =
    let first = All-head IsNameLine line lines all in
    let fact = text_lines-back lines rest (All-tail IsNameLine line lines all) in
    grind (arith, nat_tests, lines-onto, then-step, split_once-back, if_text-back, All-tail, fact)

record_of-text_with : (r : Record) (rest : List ℕ) → CanBeWritten r → record_of (text_with r rest) ≡ Some (r, rest)
unfolding text_with onto addition_words question_words
record_of-text_with (add a) rest can = grind (arith, nat_tests, add_record-back)
record_of-text_with pop rest can = refl
record_of-text_with (names lines) rest can = grind (arith, nat_tests, then-step, number_before-back, text_lines-back)
record_of-text_with (ask q) rest can =
    grind (arith, nat_tests, then-step, forms-back, cases-back, directories-back, number_before-back, split_at-back)

pub record_of-spelled : (script : List ℕ) (r : Record) (rest : List ℕ) → BeginsWithRecord script r rest → record_of script ≡ Some (r, rest)
record_of-spelled script r rest begins = grind (arith, nat_tests, spelled-text_with, record_of-text_with)

-- ---- what is read is spelled

length_word : Option ℕ → List ℕ
length_word None = codes "-"
length_word (Some n) = decimal n

root_word-length : (root : Option (List ℕ)) → length_word (option_map length root) ≡ root_word root
unfolding length_word
root_word-length root = grind (arith, nat_tests)

if-cases : {X : Type 0} (b : Bool) (x y z : X) → (if b then x else y) ≡ z → ((b ≡ true) × (x ≡ z)) ⊎ (y ≡ z)
if-cases b x y z e = grind (arith, nat_tests)

root_length-only : (bytes : List ℕ) (n : Option ℕ) (rest : List ℕ) → root_length bytes ≡ Some (n, rest)
    → IfSome n IsHeaderNumber × (bytes ≡ length_word n ++ space ∷ rest)
unfolding length_word
root_length-only bytes n rest e =
    elim (if-cases (starts_with nat_eq bytes (codes "- ")) _ _ _ e) [
      | inl here ↦ grind (arith, nat_tests, same_some, starts_with-only, codes)
      | inr other ↦
          let read = map-some _ (number_before space bytes) (n, rest) other in
          subst (λ (p : Option ℕ × List ℕ). IfSome p.0 IsHeaderNumber × (bytes ≡ length_word p.0 ++ space ∷ p.1)) read.2
          (number_before-only space bytes read.0.0 read.0.1 read.1)
    ]

macros-only : (bytes : List ℕ) (b : Bool) (rest : List ℕ) → choice_of macro_flags bytes ≡ Some (b, rest) → bytes ≡ macros_word b ++ space ∷ rest
macros-only bytes b rest e = grind (arith, nat_tests, append_assoc)

forms-only : (bytes : List ℕ) (f : Form) (rest : List ℕ) → choice_of forms bytes ≡ Some (f, rest) → bytes ≡ form_word f ++ space ∷ rest
forms-only bytes f rest e = grind (arith, nat_tests, append_assoc)

cases-only : (bytes : List ℕ) (c : Case) (rest : List ℕ) → choice_of cases bytes ≡ Some (c, rest) → bytes ≡ case_word c ++ space ∷ rest
cases-only bytes c rest e = grind (arith, nat_tests, append_assoc)

directories-only : (bytes : List ℕ) (d : Option Bool) (rest : List ℕ) → choice_of directory_flags bytes ≡ Some (d, rest)
    → bytes ≡ directory_word d ++ space ∷ rest
directories-only bytes d rest e = grind (arith, nat_tests, append_assoc)

root_of-only : (n : Option ℕ) (bytes : List ℕ) (root : Option (List ℕ)) (rest : List ℕ) → root_of n bytes ≡ Some (root, rest)
    → (option_map length root ≡ n) × IfSome root IsUtf8 × (bytes ≡ unwrap_or root [] ++ rest)
root_of-only None bytes root rest e = grind (arith, nat_tests, same_some)
root_of-only (Some n) bytes root rest e =
    let part = map-some _ (split_at n bytes then if_text) (root, rest) e in
    let read = split_text-only n bytes part.0.0 part.0.1 part.1 in
    grind (arith, nat_tests, unwrap_or)

short_root : (root : Option (List ℕ)) (n : Option ℕ) → option_map length root ≡ n → IfSome n IsHeaderNumber → IfSome root IsUtf8
    → IfSome root IsShortText
short_root root n e short text = grind (arith, nat_tests)

text_lines-only : (n : ℕ) (bytes : List ℕ) (lines : List (List ℕ)) (rest : List ℕ) → text_lines n bytes ≡ Some (lines, rest)
    → (length lines ≡ n) × All IsNameLine lines × (bytes ≡ flat_map ended_line lines ++ rest)
text_lines-only zero bytes lines rest e = grind (arith, nat_tests, same_some)
text_lines-only (suc n) bytes lines rest e =
    let line = then-some (split_once line_feed bytes then if_text) _ _ e in
    let others = map-some _ (text_lines n line.0.1) _ line.2 in
    let cut = then-some (split_once line_feed bytes) if_text line.0 line.1 in
    let text = if_text-only cut.0 line.0 cut.2 in
    let l = split_once-only line_feed bytes line.0.0 line.0.1 (cut.1 ∙ ap Some text.0) in
    let o = text_lines-only n line.0.1 others.0.0 others.0.1 others.1 in
    subst (λ (p : List (List ℕ) × List ℕ). (length p.0 ≡ suc n) × All IsNameLine p.0 × (bytes ≡ flat_map ended_line p.0 ++ p.1)) others.2 (
      omega (arith, o.0),
      All-cons IsNameLine line.0.0 others.0.0 (text.1, l.0) o.1,
      l.1 ∙ (ap (λ xs. line.0.0 ++ line_feed ∷ xs) o.2 ∙ sym (lines-onto line.0.0 others.0.0 others.0.1)),
    )

-- a record with this text was read
ReadAs : List ℕ → Option (Record × List ℕ) → Type 0
ReadAs bytes read = (r : Record) (rest : List ℕ) → read ≡ Some (r, rest) → CanBeWritten r × (bytes ≡ text_with r rest)

add_record-only : (bytes after : List ℕ) → bytes ≡ codes "add " ++ after → ReadAs bytes (add_record after)
unfolding ReadAs text_with onto addition_words addition_parts
add_record-only bytes after whole r rest e =
    let allow = then-some (choice_of macro_flags after) _ _ e in
    let source_len = then-some (number_before space allow.0.1) _ _ allow.2 in
    let root_len = then-some (root_length source_len.0.1) _ _ source_len.2 in
    let buffer_len = then-some (number_before line_feed root_len.0.1) _ _ root_len.2 in
    let source = then-some (split_at source_len.0.0 buffer_len.0.1 then if_text) _ _ buffer_len.2 in
    let root = then-some (root_of root_len.0.0 source.0.1) _ _ source.2 in
    let buffer = then-some (split_at buffer_len.0.0 root.0.1) _ _ root.2 in
    let end = map-some _ (strip_prefix (codes "\n") buffer.0.1) _ buffer.2 in
    let sl = number_before-only space allow.0.1 source_len.0.0 source_len.0.1 source_len.1 in
    let rl = root_length-only source_len.0.1 root_len.0.0 root_len.0.1 root_len.1 in
    let bl = number_before-only line_feed root_len.0.1 buffer_len.0.0 buffer_len.0.1 buffer_len.1 in
    let s = split_text-only source_len.0.0 buffer_len.0.1 source.0.0 source.0.1 source.1 in
    let t = root_of-only root_len.0.0 source.0.1 root.0.0 root.0.1 root.1 in
    let b = split_at-only buffer_len.0.0 root.0.1 buffer.0.0 buffer.0.1 buffer.1 in
    let n = strip_prefix-only (codes "\n") buffer.0.1 end.0 end.1 in
    grind (arith, nat_tests, codes, macros-only, root_word-length, short_root)

names_record-only : (bytes after : List ℕ) → bytes ≡ codes "names " ++ after → ReadAs bytes (names_record after)
unfolding ReadAs text_with onto
names_record-only bytes after whole r rest e =
    let count = then-some (number_before line_feed after) _ (r, rest) e in
    let lines = map-some _ (text_lines count.0.0 count.0.1) (r, rest) count.2 in
    let c = number_before-only line_feed after count.0.0 count.0.1 count.1 in
    let l = text_lines-only count.0.0 count.0.1 lines.0.0 lines.0.1 lines.1 in
    grind (arith, nat_tests, codes)

ask_record-only : (bytes after : List ℕ) → bytes ≡ codes "ask " ++ after → ReadAs bytes (ask_record after)
unfolding ReadAs text_with onto question_words
ask_record-only bytes after whole r rest e =
    let form = then-some (choice_of forms after) _ _ e in
    let case = then-some (choice_of cases form.0.1) _ _ form.2 in
    let is_dir = then-some (choice_of directory_flags case.0.1) _ _ case.2 in
    let count = then-some (number_before line_feed is_dir.0.1) _ _ is_dir.2 in
    let path = then-some (split_at count.0.0 count.0.1) _ _ count.2 in
    let end = map-some _ (strip_prefix (codes "\n") path.0.1) _ path.2 in
    let c = number_before-only line_feed is_dir.0.1 count.0.0 count.0.1 count.1 in
    let p = split_at-only count.0.0 count.0.1 path.0.0 path.0.1 path.1 in
    grind (arith, nat_tests, forms-only, cases-only, directories-only, strip_prefix-only, codes)

pop-only : (bytes after : List ℕ) → bytes ≡ codes "pop\n" ++ after → ReadAs bytes (Some (pop, after))
unfolding ReadAs text_with onto
pop-only bytes after whole r rest e = grind (arith, nat_tests, text_with, same_some)

none-only : (bytes : List ℕ) → ReadAs bytes None
unfolding ReadAs
none-only bytes r rest e = absurd cc

-- what follows the word of a kind of record
kind-only : (bytes word : List ℕ) (after : List ℕ → Option (Record × List ℕ)) (others : Option (Record × List ℕ))
    → ((left : List ℕ) → bytes ≡ word ++ left → ReadAs bytes (after left)) → ReadAs bytes others
    → ReadAs bytes (if starts_with nat_eq bytes word then after (drop (length word) bytes) else others)
unfolding ReadAs
kind-only bytes word after others front back r rest e =
    elim (if-cases (starts_with nat_eq bytes word) _ _ _ e) [
      | inl here ↦ front (drop (length word) bytes) (starts_with-only bytes word here.0) r rest here.1
      | inr other ↦ back r rest other
    ]

record_of-only : (bytes : List ℕ) → ReadAs bytes (record_of bytes)
record_of-only bytes = grind (arith, nat_tests, kind-only, add_record-only, pop-only, names_record-only, ask_record-only, none-only)

pub record_of-begins : (script : List ℕ) (r : Record) (rest : List ℕ) → record_of script ≡ Some (r, rest) → BeginsWithRecord script r rest
unfolding ReadAs
record_of-begins script r rest e = grind (arith, nat_tests, record_of-only script r rest e, spelled-text_with)

pub record_of-malformed : (script : List ℕ) → record_of script ≡ None → IsMalformed script
record_of-malformed script e r rest begins = grind (arith, nat_tests, e, record_of-spelled script r rest begins)

-- ---- what follows for scripts

pub one_record : (script : List ℕ) (r s : Record) (rest others : List ℕ) → BeginsWithRecord script r rest → BeginsWithRecord script s others
    → (s ≡ r) × (others ≡ rest)
one_record script r s rest others begins begins_also =
    grind (arith, nat_tests, record_of-spelled script r rest begins, record_of-spelled script s others begins_also)

pub shorter : (script : List ℕ) (r : Record) (rest : List ℕ) → BeginsWithRecord script r rest → length rest < length script
shorter script r rest begins = grind (arith, nat_tests, zero-lt-suc, length-append)

-- ---- what the reading functions promise

pub first_record : (script : List ℕ) (read : Option (Record × List ℕ)) → read ≡ record_of script → IsFirstRecord script read
first_record script None e = record_of-malformed script (sym e)
first_record script (Some read) e = record_of-begins script read.0 read.1 (sym e)

pub number_spelled : (stop : ℕ) (bytes : List ℕ) (read : Option (ℕ × List ℕ)) → read ≡ number_before stop bytes → is_ascii_digit stop ≡ false
    → IsNumberBefore stop bytes read
number_spelled stop bytes read e other = grind (arith, nat_tests, number_before-back, number_before-only)

number_in : List ℕ × List ℕ → Option (ℕ × List ℕ)
number_in word = if is_number word.0 then Some (digits_value word.0, word.1) else None

-- a word before a separator is read as a number, or as none
pub word_read : (stop : ℕ) (bytes word rest : List ℕ) (number : Option ℕ) → Some (word, rest) ≡ split_once stop bytes
    → number ≡ (if is_number word then Some (digits_value word) else None) → option_map (λ n. (n, rest)) number ≡ number_before stop bytes
unfolding number_in
word_read stop bytes word rest number cut is = grind (arith, nat_tests, number_in)

pub reads_add : (bytes : List ℕ) (read : Option (Record × List ℕ)) → starts_with nat_eq bytes (codes "add ") ≡ true
    → read ≡ add_record (drop 4 bytes)
    → IsFirstRecord bytes read
reads_add bytes read add_is e = grind (arith, nat_tests, first_record, codes)

pub reads_names : (bytes : List ℕ) (read : Option (Record × List ℕ)) → starts_with nat_eq bytes (codes "add ") ≡ false
    → starts_with nat_eq bytes (codes "pop\n") ≡ false → starts_with nat_eq bytes (codes "names ") ≡ true → read ≡ names_record (drop 6 bytes)
    → IsFirstRecord bytes read
reads_names bytes read add_is pop_is names_is e = grind (arith, nat_tests, first_record)

pub reads_ask : (bytes : List ℕ) (read : Option (Record × List ℕ)) → starts_with nat_eq bytes (codes "ask ") ≡ true
    → read ≡ ask_record (drop 4 bytes) → IsFirstRecord bytes read
reads_ask bytes read ask_is e = grind (arith, nat_tests, starts_is, Decides-eqb, first_record)

pub if_ok : {X E : Type 0} (r : Result X E) (P Q : X → Type 0) → ((x : X) → P x → Q x) → IfOk r P → IfOk r Q
if_ok r P Q next p = grind (arith, nat_tests)
