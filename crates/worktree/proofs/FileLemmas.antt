-- The file of a directory that is added and removed.
use Rattle.std.proofs.Common.{◌≡◌, ◌⊎◌, inr, ◌-◌, List, [], ◌∷◌, ◌++◌, length, take, Option, None, Some, option_map, refl, sym, ap, ◌∙◌, arith}
use Rattle.std.specs.Prelude.{ℕ, suc, Bool, true, false, slice_get, Result, Ok, Err, OnOk, OnErr, IfNone, MatchOption}
use Rattle.std.specs.List.{AllZip}
use Rattle.std.specs.Option.{option_to_list}
use Rattle.std.proofs.lemmas.List.{append-nil, length-append}
use Rattle.gix_attributes.specs.Collections.{Collection}
use Rattle.gix_attributes.specs.SearchViews.{LosesLast, RemovesLast}
use Rattle.gix_attributes.specs.ListView.{Listed}
use Rattle.worktree.specs.Worktrees.{Files, all_but_last, without_last_directory, without_registration}

count_before : {X : Type 0} (xs : List X) (x : X) → length (xs ++ x ∷ []) - 1 ≡ length xs
count_before xs x = omega (arith, length-append xs (x ∷ []))

take_all : {X : Type 0} (xs ys : List X) → take (length xs) (xs ++ ys) ≡ xs
take_all [] ys = refl
take_all (x ∷ xs) ys = ap (λ zs. x ∷ zs) (take_all xs ys)

-- without the last list, those before it are left
pub before_last : {X : Type 0} (xs : List X) (x : X) → all_but_last (xs ++ x ∷ []) ≡ xs
before_last xs x = ap (λ n. take n (xs ++ x ∷ [])) (count_before xs x) ∙ take_all xs (x ∷ [])

get_after : {X : Type 0} (xs : List X) (x : X) → slice_get (xs ++ x ∷ []) (length xs) ≡ Some x
get_after [] x = refl
get_after (y ∷ ys) x = get_after ys x

get_last : {X : Type 0} (xs : List X) (x : X) → slice_get (xs ++ x ∷ []) (length (xs ++ x ∷ []) - 1) ≡ Some x
get_last xs x = ap (slice_get (xs ++ x ∷ [])) (count_before xs x) ∙ get_after xs x

-- two lists of which each element has its counterpart are as long as one another
pub count_zip : {X Y : Type 0} (R : X → Y → Type 0) (xs : List X) (ys : List Y) → AllZip R xs ys → length xs ≡ length ys
count_zip R [] [] h = refl
count_zip R [] (y ∷ ys) h = absurd h
count_zip R (x ∷ xs) [] h = absurd h
count_zip R (x ∷ xs) (y ∷ ys) h = ap suc (count_zip R xs ys h.1)

none_of_none : {X : Type 0} (xs : List X) → length xs ≡ 0 → xs ≡ []
none_of_none [] e = refl
none_of_none (x ∷ xs) e = absurd (omega arith)

same_files : (globals : List Listed) (directories directories' : List Listed) (ids ids' : List ℕ) (known known' : Collection) →
    directories ≡ directories'
    → ids ≡ ids' → known ≡ known' →
    (let before : Files = record { globals = globals; directories = directories; directory_ids = ids; known = known } in
    let after : Files = record { globals = globals; directories = directories'; directory_ids = ids'; known = known' } in before ≡ after)
same_files globals directories directories' ids ids' known known' e f g =
    let files : List Listed → List ℕ → Collection → Files = λ l m k. record { globals = globals; directories = l; directory_ids = m; known = k } in
    ap (λ l. files l ids known) e ∙ (ap (λ m. files directories' m known) f ∙ ap (files directories' ids') g)

-- what a pop leaves is what is left without the last directory
pub directory_left : {X : Type 0} (read : X → Listed) (r : Option X) (globals before after : List Listed) (ids ids' : List ℕ)
    (known now : Collection) → length ids ≡ length before → before ≡ after ++ option_to_list (option_map read r)
    → IfNone r (before ≡ []) → MatchOption r (ids' ≡ ids) (λ _. LosesLast ids ids') → MatchOption r (now ≡ known) (λ _. RemovesLast ids known now) →
    (let old : Files = record { globals = globals; directories = before; directory_ids = ids; known = known } in
    let new : Files = record { globals = globals; directories = after; directory_ids = ids'; known = now } in new ≡ without_last_directory old)
directory_left read None globals before after ids ids' known now count lists none ids_are now_is =
    let no_ids : ids ≡ [] = none_of_none ids (count ∙ ap length none) in
    same_files globals after (all_but_last before) ids' (all_but_last ids) now
    (without_registration (slice_get ids (length ids - 1)) known)
    (sym (append-nil after) ∙ (sym lists ∙ (none ∙ sym (ap all_but_last none))))
    (ids_are ∙ (no_ids ∙ sym (ap all_but_last no_ids)))
    (now_is ∙ sym (ap (λ (l : List ℕ). without_registration (slice_get l (length l - 1)) known) no_ids))
directory_left read (Some x) globals before after ids ids' known now count lists none ids_are now_is =
    let (list_id, others, is_last, removed) = now_is in
    same_files globals after (all_but_last before) ids' (all_but_last ids) now
    (without_registration (slice_get ids (length ids - 1)) known)
    (sym (ap all_but_last lists ∙ before_last after (read x)))
    (sym (ap all_but_last ids_are.1 ∙ before_last ids' ids_are.0))
    (removed
    ∙ sym (ap (λ (l : List ℕ). without_registration (slice_get l (length l - 1)) known) is_last
    ∙ ap (λ m. without_registration m known) (get_last others list_id)))

pub if_ok_with : {T E P : Type 0} (Q : P → Type 0) (r : Result T E) (p : P) → OnOk r (Q p) → OnOk r ((x : P) × Q x)
if_ok_with Q (Ok x) p q = (p, q)
if_ok_with Q (Err e) p q = tt

pub if_err : {T E P : Type 0} (r : Result T E) → P → OnErr r P
if_err (Ok x) p = tt
if_err (Err e) p = p
