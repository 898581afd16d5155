-- Rows are laid to the front of a room, one after the other, as far as there is room.
use Rattle.std.proofs.lemmas.Bool.Decides.{nat_tests}
use Rattle.std.proofs.Common.{◌≡◌, ℕ, ◌+◌, ◌<◌, ◌≤◌, List, [], ◌∷◌, ◌++◌, length, take, drop, get_or, set, sym}
use Rattle.std.proofs.Common.{ap, ◌∙◌, subst, arith, tests, Bool, true, false, nat_lt, nat_le, min, if◌then◌else◌}
use Rattle.std.proofs.Common.{length-append, length-drop, length-take, length-take-le, drop_of_length-le, append_assoc, take-take}
use Rattle.std.proofs.Math.Seq.{set-append_seam}
use Rattle.std.proofs.lemmas.List.{take_all, take_more, drop_more}

-- what fits of some rows is laid to the front of a room
abbrev pub laid_in_room : {X : Type 0} → List X → List X → List X
laid_in_room room rows = take (length room) rows ++ drop (length rows) room

-- the first rows, if there is room for them
laid_short : {X : Type 0} (room rows : List X) (i : ℕ) → i ≤ length rows → i ≤ length room
    → laid_in_room room (take i rows) ≡ take i rows ++ drop i room
laid_short room rows i le room_for = grind (arith, nat_tests, length-take-le, take_all)

-- and if there are too many
laid_full : {X : Type 0} (room rows : List X) (i : ℕ) → i ≤ length rows → length room ≤ i
    → laid_in_room room (take i rows) ≡ take (length room) rows ++ []
laid_full room rows i le full = grind (arith, nat_tests, length-take-le, take-take, drop_of_length-le)

-- one more row, if there is room
laid_more : {X : Type 0} (room rows : List X) (i : ℕ) (x : X) → i < length rows → i < length room → get_or rows i x ≡ x
    → set (take i rows ++ drop i room) i x ≡ take (i + 1) rows ++ drop (i + 1) room
laid_more room rows i x in_rows in_room is =
    let front = take i rows in
    let long : length front ≡ i = length-take-le i rows (omega (arith, in_rows)) in
    ap (λ ys. set ys i x) (ap (λ ys. front ++ ys) (drop_more room i x in_room))
    ∙ subst (λ n. set (front ++ get_or room i x ∷ drop (i + 1) room) n x ≡ front ++ x ∷ drop (i + 1) room) long (set-append_seam front _ _ x)
    ∙ sym (append_assoc front (x ∷ []) (drop (i + 1) room))
    ∙ ap (λ ys. ys ++ drop (i + 1) room) (ap (λ y. front ++ y ∷ []) (sym is) ∙ sym (take_more rows i x in_rows))

pub laid_in_room_next : {X : Type 0} (room rows to : List X) (i : ℕ) (x : X) → i < length rows → i < length room → get_or rows i x ≡ x
    → to ≡ laid_in_room room (take i rows) → set to i x ≡ laid_in_room room (take (i + 1) rows)
laid_in_room_next room rows to i x in_rows in_room is laid = grind (arith, nat_tests, set, laid_short, laid_more)

-- and if there is none
pub laid_in_room_full : {X : Type 0} (room rows to : List X) (i : ℕ) → i < length rows → length room ≤ i
    → to ≡ laid_in_room room (take i rows) → to ≡ laid_in_room room (take (i + 1) rows)
laid_in_room_full room rows to i in_rows full laid = grind (arith, nat_tests, laid_full)

-- nothing is laid at first
pub laid_in_room_none : {X : Type 0} (room rows : List X) → room ≡ laid_in_room room (take 0 rows)
laid_in_room_none room rows = sym (laid_short room rows 0 (omega arith) (omega arith))

-- all are laid at the end
pub laid_in_room_all : {X : Type 0} (room rows to : List X) (i : ℕ) → length rows ≤ i → to ≡ laid_in_room room (take i rows)
    → to ≡ laid_in_room room rows
laid_in_room_all room rows to i past laid = laid ∙ ap (laid_in_room room) (take_all i rows past)

-- the length of what is laid
long_laid : {X : Type 0} (room rows to : List X) (i : ℕ) → i ≤ length rows → to ≡ laid_in_room room (take i rows) → length to ≡ length room
long_laid room rows to i le laid = grind (arith, nat_tests, length-take-le, length-append, length-take, length-drop)

step_by : {X : Type 0} (room rows to new : List X) (i : ℕ) (x : X) (test : Bool) → i < length rows → get_or rows i x ≡ x
    → (test ≡ true → i < length room) → (test ≡ false → length room ≤ i) → new ≡ (if test then set to i x else to)
    → to ≡ laid_in_room room (take i rows) → new ≡ laid_in_room room (take (i + 1) rows)
step_by room rows to new i x test in_rows is inside past new_is laid = grind (arith, nat_tests, laid_in_room_next, laid_in_room_full)

-- a row, whether there is room for it or not
pub laid_in_room_step : {X : Type 0} (room rows to new : List X) (i : ℕ) (x : X) → i < length rows → get_or rows i x ≡ x
    → new ≡ (if nat_lt i (length to) then set to i x else to)
    → to ≡ laid_in_room room (take i rows) → new ≡ laid_in_room room (take (i + 1) rows)
laid_in_room_step room rows to new i x in_rows is new_is laid = grind (arith, nat_tests, long_laid, step_by, nat_lt, tests)

end_by : {X : Type 0} (room rows to : List X) (i : ℕ) (test : Bool) → i ≤ length rows → (test ≡ true → length rows ≤ i)
    → (test ≡ false → (length room ≤ i) × (length room ≤ length rows)) → to ≡ laid_in_room room (take i rows) → to ≡ laid_in_room room rows
end_by room rows to i test le all full laid = grind (arith, nat_tests, laid_in_room_all, laid_full, drop_of_length-le)

-- as many as fit are laid at the end
pub laid_in_room_end : {X : Type 0} (room rows to : List X) (i : ℕ) → i ≤ length rows → min (length rows) (length room) ≤ i
    → to ≡ laid_in_room room (take i rows) → to ≡ laid_in_room room rows
laid_in_room_end room rows to i le past laid =
    grind (arith, nat_tests, end_by room rows to i (nat_le (length rows) (length room)) le, nat_le (length rows) (length room), tests)
