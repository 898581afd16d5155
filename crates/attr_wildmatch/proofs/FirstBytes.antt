-- Directories that begin with a byte, and where tokens that begin with it may match.
use Rattle.std.proofs.lemmas.Grind.{common_steps}
use Rattle.std.proofs.Common.{◌≡◌, ◌≤◌, ◌<◌, ◌+◌, ◌-◌, ℕ, zero, suc, Bool, slice_index, true, false, ◌==◌, ◌&&◌, ◌||◌, List, [], ◌∷◌, length}
use Rattle.std.proofs.Common.{drop, take, None, refl, sym, subst, ◌∙◌, arith}
use Rattle.std.proofs.lemmas.Bool.Decides.{nat_tests}
use Rattle.std.proofs.lemmas.Bool.{eqb-true}
use Rattle.std.proofs.lemmas.List.{take_all, length-drop, drop-drop}
use Rattle.memchr.specs.Find.{is_byte, Passes, Nowhere, NoneBefore}
use Rattle.attr_wildmatch.specs.declared.case.Case.{Case}
use Rattle.attr_wildmatch.specs.Brackets.{begins}
use Rattle.attr_wildmatch.specs.Bytes.{slash}
use Rattle.attr_wildmatch.specs.Tokens.{Token}
use Rattle.attr_wildmatch.specs.Deciding.{matches, slash_then}
use Rattle.attr_wildmatch.specs.inner.FirstBytes.{BeginWith, BeginWithPair, begins_with_pair, from_first}
use Rattle.attr_wildmatch.specs.inner.Stretches.{first_left, front_left}
use Rattle.attr_wildmatch.proofs.Basics.{by_test}

-- what a directory star goes on to, from the slash before the next directory
abbrev pub goes_on : (List ℕ → Bool) → List ℕ → Bool
goes_on f [] = false
goes_on f (s ∷ next) = f next || slash_then f next

-- that slash is found by a test that each slash passes where f takes what follows
over_others_below : (f test : List ℕ → Bool) → ((b : ℕ) (bs : List ℕ) → test (b ∷ bs) ≡ true → b ≡ slash) →
    ((b : ℕ) (bs : List ℕ) → test (b ∷ bs) ≡ false → (b == slash && f bs) ≡ false) →
    (v : List ℕ) → slash_then f v ≡ goes_on f (from_first test v)
over_others_below f test at needed [] = refl
over_others_below f test at needed (b ∷ bs) = grind (arith, nat_tests, at b bs, needed b bs, over_others_below f test at needed bs)

pub on_slash : (f : List ℕ → Bool) (v : List ℕ) → slash_then f v ≡ goes_on f (from_first (begins slash) v)
on_slash f v = over_others_below f (begins slash) (λ b bs h. eqb-true b slash h) (λ b bs h. grind (arith, nat_tests)) v

pub on_start : (case : Case) (c : ℕ) (ts : List Token) (v : List ℕ) → BeginWith case c ts →
    slash_then (matches case ts) v ≡ goes_on (matches case ts) (from_first (begins_with_pair slash c) v)
on_start case c ts v h =
    over_others_below (matches case ts) (begins_with_pair slash c) (λ b bs e. grind (arith, nat_tests))
    (λ b bs e. rw (h.sensitive, h.tokens) (grind (arith, nat_tests))) v

-- where the search finds nothing, it finds nothing further on
none_later : (test : List ℕ → Bool) (k : ℕ) (v : List ℕ) → from_first test v ≡ [] → from_first test (drop k v) ≡ []
none_later test (suc k) (b ∷ bs) h = grind (arith, nat_tests, none_later test k bs)
none_later test k v h = h

-- after eight more offsets what is left is still an end of the value
pub left_after : (value v : List ℕ) → 8 ≤ length v → length v ≤ length value → v ≡ drop (length value - length v) value →
    take (length v - 8) (drop 8 v) ≡ drop (length value - length (take (length v - 8) (drop 8 v))) value
left_after value v enough within is = grind (arith, nat_tests, take_all, length-drop, drop-drop 8 (length value - length v) value)

-- the search goes on from what is left after eight offsets at which the test fails
pub over_eight : (test : List ℕ → Bool) (value v : List ℕ) → from_first test (drop 8 v) ≡ from_first test v →
    from_first test v ≡ from_first test value → from_first test (take (length v - 8) (drop 8 v)) ≡ from_first test value
over_eight test value v passed same = grind (arith, nat_tests, take_all, length-drop)

-- the last bytes of a value, so many of them
abbrev pub last_bytes : ℕ → List ℕ → List ℕ
last_bytes size v = take (length v - (length v - size)) (drop (length v - size) v)

-- the search finds nothing if it found nothing before what is left, and nothing in the last bytes, of which what is left is an end
pub none_in_end : (test : List ℕ → Bool) (size : ℕ) (v rest : List ℕ) → ((w : List ℕ) → length w + 8 ≡ size → from_first test w ≡ []) →
    length rest ≤ size → 8 ≤ size → size ≤ length v → rest ≡ drop (length v - length rest) v → from_first test rest ≡ from_first test v →
    from_first test (drop 8 (last_bytes size v)) ≡ from_first test (last_bytes size v) → [] ≡ from_first test v
none_in_end test size v rest short fewer' many within is same passed =
    let fact2 = drop-drop (size - length rest) (length v - size) v in
    let fact = none_later test (size - length rest) (drop (length v - size) v) in
    grind (arith, nat_tests, take_all, length-drop 8 (drop (length v - size) v), length-drop (length v - size) v, fact2, fact, passed)

-- too few bytes
pub no_pair : (a c : ℕ) (w : List ℕ) → length w + 8 ≡ 9 → from_first (begins_with_pair a c) w ≡ []
no_pair a c [] l = refl
no_pair a c w l = grind (arith, nat_tests, by_test)

-- tokens take nothing before the first offset at which a test passes that they need
over_others : (case : Case) (ts : List Token) (test : List ℕ → Bool) → ((w : List ℕ) → test w ≡ false → front_left case ts w ≡ None) →
    (v : List ℕ) → first_left case ts v ≡ first_left case ts (from_first test v)
over_others case ts test needed [] = refl
over_others case ts test needed (b ∷ bs) = grind (arith, nat_tests, over_others case ts test needed bs)

pub from_first_byte : (case : Case) (c : ℕ) (ts : List Token) (v w : List ℕ) → BeginWith case c ts → w ≡ from_first (begins c) v →
    first_left case ts v ≡ first_left case ts w
from_first_byte case c ts v w h e = grind (arith, nat_tests, over_others)

pub from_first_pair : (case : Case) (a c : ℕ) (ts : List Token) (v w : List ℕ) → BeginWithPair case a c ts →
    w ≡ from_first (begins_with_pair a c) v → first_left case ts v ≡ first_left case ts w
from_first_pair case a c ts v w h e = grind (arith, nat_tests, over_others)

pub no_first_pair : (case : Case) (a c : ℕ) (ts : List Token) (v : List ℕ) → BeginWithPair case a c ts →
    [] ≡ from_first (begins_with_pair a c) v → first_left case ts v ≡ None
no_first_pair case a c ts v h e = from_first_pair case a c ts v [] h e ∙ rw (h.sensitive, h.tokens) refl

pub no_bytes : (v : List ℕ) → length v ≡ 0 → v ≡ []
no_bytes v l = grind (arith, common_steps, nat_tests)

first_at : (c : ℕ) (v : List ℕ) (k : ℕ) → k < length v → (slice_index v k == c) ≡ true →
    ((i : ℕ) → i < k → (slice_index v i == c) ≡ true → ⊥) → drop k v ≡ from_first (begins c) v
first_at c [] k inside here before = absurd (omega arith)
first_at c (b ∷ bs) zero inside here before = grind (arith, nat_tests)
first_at c (b ∷ bs) (suc k) inside here before =
    let later = first_at c bs k (omega arith) here (λ i l. before (suc i) (omega arith)) in
    grind (arith, nat_tests, later, before 0)

absent : (c : ℕ) (v : List ℕ) → ((i : ℕ) → i < length v → (slice_index v i == c) ≡ true → ⊥) → [] ≡ from_first (begins c) v
absent c [] nowhere = refl
absent c (b ∷ bs) nowhere =
    let later = absent c bs (λ i l. nowhere (suc i) (omega arith)) in
    grind (arith, nat_tests, later, nowhere 0)

-- a search for a byte finds the first offset at which the value begins with it
pub found_byte : (c : ℕ) (v : List ℕ) (test : ℕ → Bool) (k : ℕ) → test ≡ is_byte c → NoneBefore (Passes test v) 0 (length v) k →
    Passes test v k → take (length v - k) (drop k v) ≡ from_first (begins c) v
found_byte c v test k e first here =
    take_all (length v - k) (drop k v) (omega (arith, length-drop k v))
    ∙ first_at c v k first.high (subst (λ t. t (slice_index v k) ≡ true) e here)
    (λ i l passes. first.before i (omega arith) l (subst (λ t. t (slice_index v i) ≡ true) (sym e) passes))

pub absent_byte : (c : ℕ) (v : List ℕ) (test : ℕ → Bool) → test ≡ is_byte c → Nowhere (Passes test v) 0 (length v) →
    [] ≡ from_first (begins c) v
absent_byte c v test e nowhere =
    absent c v (λ i l passes. nowhere i (omega arith) l (subst (λ t. t (slice_index v i) ≡ true) (sym e) passes))

pub from_first_shorter : (test : List ℕ → Bool) (v : List ℕ) → length (from_first test v) ≤ length v
from_first_shorter test [] = omega arith
from_first_shorter test (b ∷ bs) = grind (arith, nat_tests, from_first_shorter test bs)
