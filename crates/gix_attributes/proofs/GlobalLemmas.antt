-- How the reads of global files go on, one file at a time.
use Rattle.std.proofs.lemmas.Bool.Decides.{nat_tests}
use Rattle.std.proofs.Common.{◌≡◌, ◌∙◌, ◌<◌, ◌≤◌, ℕ, List, [], ◌∷◌, ◌++◌, map, refl, sym, ap, Some, None, true, arith, inr, Result, ◌+◌}
use Rattle.std.proofs.Common.{length, take, drop, get_or}
use Rattle.std.proofs.lemmas.Bool.{cases_lt}
use Rattle.std.specs.Prelude.{fold, IfErr}
use Rattle.std.specs.List.{FoldsTo}
use Rattle.std.specs.Result.{IsErrAnd}
use Rattle.std.proofs.lemmas.Fn.{FoldsTo-push}
use Rattle.std.proofs.lemmas.List.{map-append, append-nil, take_more, take-append-drop}
use Rattle.std.proofs.lemmas.List.Elements.{All-push}
use Rattle.std.proofs.lemmas.List.Sums.{fold-append}
use Rattle.attr_lists.specs.Collections.{Collection}
use Rattle.gix_attributes.specs.Additions.{AddsContents, RegisteredLists, RefusedBy, dropped_of}
use Rattle.gix_attributes.specs.Answers.{ReadAnswer}
use Rattle.gix_attributes.specs.Failures.{Fails}
use Rattle.gix_attributes.specs.FileReads.{FileRead, ReadInOrder, IsAnswered, AreAnswered, names_read, contents_of}
use Rattle.gix_attributes.specs.EngineView.{started, started_with, state_with_global}
use Rattle.gix_attributes.specs.Globals.{AddsBuiltIn, AddsGlobal, AddsGlobals, AreGlobalsOf, Globals, RefusesGlobals}
use Rattle.gix_attributes.specs.declared.search.files.AddError.{AddError}
use Rattle.gix_attributes.specs.declared.search.files.AddError.TheVariants.{OutOfMemory}
use Rattle.gix_attributes.proofs.FileLemmas.{buffer_added, state_of}

-- the files of these names were read and added
pub record AreAdded {F : Type 0} (reads : F → List ℕ → ReadAnswer → F → Type 0) (before after : F) (names : List (List ℕ)) (known : Collection)
    (buffer : List ℕ)
    (globals : Globals) : Type 0 where
  pub read : List FileRead
  pub in_order : ReadInOrder reads before read after
  pub named : names_read read ≡ names
  pub answered : AreAnswered read
  pub made : AreGlobalsOf known buffer read globals

-- one more
pub one_added : {F : Type 0} (reads : F → List ℕ → ReadAnswer → F → Type 0) (before mid after : F) (names : List (List ℕ)) (name : List ℕ)
    (known : Collection) (buffer : List ℕ)
    (old new : Globals) (answer : ReadAnswer)
    → AreAdded reads before mid names known buffer old → reads mid name answer after → IsAnswered answer
    → AddsContents name None true answer old.loaded new.loaded → new.dropped ≡ old.dropped ++ dropped_of answer ∷ [] → new.left ≡ contents_of answer
    → AreAdded reads before after (names ++ name ∷ []) known buffer new
one_added reads before mid after names name known buffer old new answer so_far read answered loaded dropped left =
    let file : FileRead = record { name = name; answer = answer } in
    record {
      read = so_far.read ++ file ∷ [];
      in_order = FoldsTo-push _ before so_far.read mid file after so_far.in_order read;
      named = map-append (λ (f : FileRead). f.name) so_far.read (file ∷ []) ∙ ap (λ ns. ns ++ name ∷ []) so_far.named;
      answered = All-push (λ (f : FileRead). IsAnswered f.answer) so_far.read file so_far.answered answered;
      made = grind (arith, nat_tests, FoldsTo-push, map-append, fold-append);
    }

-- there was no memory between two reads
pub refused_between : {F : Type 0} (reads : F → List ℕ → ReadAnswer → F → Type 0) (before after : F) (names unread wanted : List (List ℕ))
    (known : Collection) (buffer : List ℕ)
    (globals : Globals) (error : AddError)
    → AreAdded reads before after names known buffer globals → names ++ unread ≡ wanted → error ≡ OutOfMemory
    → (read : List FileRead) × ReadInOrder reads before read after × RefusesGlobals wanted read known globals.loaded.known error
refused_between reads before after names unread wanted known buffer globals error so_far all e = (
  so_far.read,
  so_far.in_order,
  inr (record {
    added = so_far.read;
    last = None;
    unread = unread;
    all = sym (append-nil so_far.read);
    names = ap (λ ns. ns ++ unread) so_far.named ∙ all;
    answered = so_far.answered;
    ended = e;
    loaded = globals.loaded;
    made = so_far.made.loaded;
    known = refl;
  }),
)

-- the addition of a file was refused
pub refused_by : {F : Type 0} (reads : F → List ℕ → ReadAnswer → F → Type 0) (before mid after : F) (names : List (List ℕ)) (name : List ℕ)
    (unread wanted : List (List ℕ))
    (known : Collection) (buffer : List ℕ) (globals : Globals) (answer : ReadAnswer) (error : AddError)
    → AreAdded reads before mid names known buffer globals → reads mid name answer after → (names ++ name ∷ []) ++ unread ≡ wanted → RefusedBy answer
    error
    → (read : List FileRead) × ReadInOrder reads before read after × RefusesGlobals wanted read known globals.loaded.known error
refused_by reads before mid after names name unread wanted known buffer globals answer error so_far read all refused =
    let file : FileRead = record { name = name; answer = answer } in (
      so_far.read ++ file ∷ [],
      FoldsTo-push _ before so_far.read mid file after so_far.in_order read,
      inr (record {
        added = so_far.read;
        last = Some file;
        unread = unread;
        all = refl;
        names = ap (λ ns. ns ++ unread) (map-append (λ (f : FileRead). f.name) so_far.read (file ∷ []) ∙ ap (λ ns. ns ++ name ∷ []) so_far.named) ∙
            all;
        answered = so_far.answered;
        ended = refused;
        loaded = globals.loaded;
        made = so_far.made.loaded;
        known = refl;
      }),
    )

-- a count that rises after some time has risen over each earlier count
pub fails_later : (first mid last : ℕ) → first ≤ mid → mid ≤ last → Fails mid last → Fails first last
fails_later first mid last a b fails low = grind (arith, nat_tests, cases_lt)

-- a fact of an error, from a fact of it that is known
pub of_error : {T E : Type 0} (r : Result T E) (P Q : E → Type 0) → IsErrAnd r P → ((e : E) → P e → Q e) → IfErr r Q
of_error r P Q h from = grind (arith, nat_tests)

-- the names that were read, and those that were not
pub names_parted : {X : Type 0} (f : X → List ℕ) (names : List X) (i : ℕ) → map f (take i names) ++ map f (drop i names) ≡ map f names
names_parted f names i = sym (map-append f (take i names) (drop i names)) ∙ ap (map f) (take-append-drop i names)

-- one more name that was read
pub one_more_name : {X : Type 0} (f : X → List ℕ) (names : List X) (i : ℕ) (name : X) (bytes : List ℕ) → i < length names → name ≡ get_or names i name
    → bytes ≡ f name
    → map f (take i names) ++ bytes ∷ [] ≡ map f (take (i + 1) names)
one_more_name f names i name bytes inside is same =
    grind (arith, nat_tests, map-append f (take i names) (get_or names i name ∷ []), take_more names i name inside)

states_more : (read : List FileRead) (before after : RegisteredLists) → FoldsTo AddsGlobal before read after
    → state_of after ≡ fold (λ s file. state_with_global file.name file.answer s) (state_of before) read
states_more [] before after h = ap state_of (sym h)
states_more (file ∷ read) before after h = grind (arith, nat_tests, state_of, buffer_added, states_more read h.0 after h.2)

-- the names and the lists of the built-in list, from a collection without names
pub built_in_state : (known : Collection) (after : RegisteredLists) → known.names ≡ [] → AddsBuiltIn known after → state_of after ≡ started
built_in_state known after none added = grind (arith, nat_tests, state_of, buffer_added)

-- the same after the files of some reads
pub globals_state : (known : Collection) (read : List FileRead) (loaded : RegisteredLists) → known.names ≡ [] → AddsGlobals known read loaded
    → state_of loaded ≡ started_with read
globals_state known read loaded none added = grind (arith, nat_tests, states_more, built_in_state)
