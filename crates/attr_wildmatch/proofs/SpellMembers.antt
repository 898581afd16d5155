-- The members of a bracket, read and spelled.
use Rattle.std.proofs.Common.{◌≡◌, ◌≢◌, ◌≤◌, ◌<◌, ◌+◌, ℕ, zero, suc, Bool, true, false, cond, not, ◌&&◌, ◌==◌, inl, inr, List, [], ◌∷◌, ◌++◌}
use Rattle.std.proofs.Common.{length, drop, Some, refl, sym, ap, subst, ◌∙◌, arith, length-append}
use Rattle.std.proofs.lemmas.Bool.Decides.{nat_tests}
use Rattle.std.proofs.lemmas.Slice.Eq.{bytes_eq-Decides}
use Rattle.std.proofs.lemmas.Bool.{and_from, and_parts, eq-eqb, eqb-false, eqb-true, ne_eqb, or_left, or_right, not-true}
use Rattle.attr_wildmatch.specs.declared.bracket.Class.{Class}
use Rattle.attr_wildmatch.specs.declared.bracket.Member.{Member}
use Rattle.attr_wildmatch.specs.declared.bracket.Member.TheVariants.{Single, Named}
use Rattle.attr_wildmatch.specs.Bytes.{hyphen, colon, open_bracket, backslash, close_bracket}
use Rattle.attr_wildmatch.specs.Brackets.{class_named, begins, name_in, span_end, from_single, from_escape, class_member, from_class, member_at}
use Rattle.attr_wildmatch.specs.Brackets.{members}
use Rattle.attr_wildmatch.specs.Spelling.{class_name, BeginsClass, IsSingle, IsEnd, IsMember, AreMembers}
use Rattle.attr_wildmatch.proofs.Basics.{by_test, true_false, pair_parts, same_pair, by_option, Each, each_of_all, all_of_each}

-- Names of classes.

abbrev pub Unclosed : List ℕ → Type 0
Unclosed bs = Each (λ b. b ≢ close_bracket) bs

pub name_in-named : (name others : List ℕ) → Unclosed name → name_in (name ++ colon ∷ close_bracket ∷ others) ≡ Some name
name_in-named [] others h = refl
name_in-named (b ∷ name) others h = grind (arith, nat_tests, others, ne_eqb, name_in-named name others)

-- what a name that was found says of the bytes
pub record HasName (bs name : List ℕ) : Type 0 where
  pub others : List ℕ
  pub whole : bs ≡ name ++ colon ∷ close_bracket ∷ others
  pub unclosed : Unclosed name
  pub tail : drop (length name + 2) bs ≡ others

named_at_once : (b : ℕ) (bs : List ℕ) → (b == colon && begins close_bracket bs) ≡ true → HasName (b ∷ bs) []
named_at_once b bs h = grind (arith, nat_tests, and_parts, eqb-true)

named_later : (b : ℕ) (bs rest : List ℕ) → (b == close_bracket) ≡ false → HasName bs rest → HasName (b ∷ bs) (b ∷ rest)
named_later b bs rest f r = record {
  others = r.others;
  whole = ap (λ x. b ∷ x) r.whole;
  unclosed = (eqb-false b close_bracket f, r.unclosed);
  tail = let more : suc (length rest) + 2 ≡ suc (length rest + 2) = omega arith in ap (λ x. drop x (b ∷ bs)) more ∙ r.tail;
}

pub named : (bs name : List ℕ) → name_in bs ≡ Some name → HasName bs name
named [] name h = cc
named (b ∷ bs) name h = by_test (b == close_bracket)
    (λ t. let e = rw t at h in cc)
    (λ f. by_test (b == colon && begins close_bracket bs)
    (λ g.
    let e = rw (f, g) at h in
    let same : [] ≡ name = cc in
    subst (HasName (b ∷ bs)) same (named_at_once b bs g))
    (λ g. by_option (name_in bs)
    (λ n. let e = rw (f, g, n) at h in cc)
    (λ rest r.
    let e = rw (f, g, r) at h in
    let same : b ∷ rest ≡ name = cc in
    subst (HasName (b ∷ bs)) same (named_later b bs rest f (named bs rest r)))))

pub name_of_class : (name : List ℕ) (class : Class) → class_named name ≡ Some class → name ≡ class_name class
name_of_class name class h = grind (arith, nat_tests, bytes_eq-Decides)

-- Ends of ranges.

pub end_of : (bs : List ℕ) (d : ℕ) (more : List ℕ) → span_end bs ≡ Some (d, more) → IsEnd bs d more
end_of bs d more h = grind (arith, nat_tests, by_test, pair_parts, true_false, or_right, eq-eqb, or_left, eqb-true)

-- Single bytes and ranges.

-- what follows a single byte is no range
abbrev NoRange : List ℕ → Type 0
NoRange others = (ends : List ℕ) (d : ℕ) (more : List ℕ) → others ≡ hyphen ∷ ends → IsEnd ends d more → ⊥

pub alone : (c : ℕ) (bs : List ℕ) → NoRange bs → from_single c bs ≡ (Single c, bs)
alone c [] h = refl
alone c (b ∷ bs) h = by_test (b == hyphen)
    (λ t. rw t (by_option (span_end bs) (λ n. rw n) (λ p e. absurd (h bs p.0 p.1 (ap (λ x. x ∷ bs) (eqb-true b hyphen t)) (end_of bs p.0 p.1 e)))))
    (λ f. rw f)

pub tail_member : (first : Bool) (text : List ℕ) (c : ℕ) (bs : List ℕ) → IsSingle first text c bs →
    IsMember first text (from_single c bs).0 (from_single c bs).1
tail_member first text c bs s = grind (arith, nat_tests, by_option, eqb-true, true_false, eq-eqb)

-- Members.

-- the byte does not close the bracket
abbrev Closes : Bool → ℕ → Bool
Closes first b = b == close_bracket && not first

-- where the text begins with a class, its name is found
begun_class : (b : ℕ) (bs : List ℕ) → BeginsClass (b ∷ bs) → (b ≡ open_bracket) × (begins colon bs ≡ true) ×
    ((name : List ℕ) × (name_in (drop 1 bs) ≡ Some name))
begun_class b bs h = grind (arith, nat_tests, name_in-named, each_of_all)

open_first : (first : Bool) (b : ℕ) → Closes first b ≡ false → b ≡ close_bracket → first ≡ true
open_first first b f e = grind (arith, nat_tests, true_false, and_from, eq-eqb)

class_read : (b : ℕ) (bs name : List ℕ) (class : Class) → (b == open_bracket && begins colon bs) ≡ true →
    name_in (drop 1 bs) ≡ Some name → class_named name ≡ Some class →
    b ∷ bs ≡ open_bracket ∷ colon ∷ (class_name class ++ colon ∷ close_bracket ∷ drop (length name + 3) bs)
class_read b (c ∷ bs) name class t e k =
    let r = named bs name e in
    let same = name_of_class name class k in
    let more : length name + 3 ≡ suc (length name + 2) = omega arith in
    grind (arith, nat_tests, eqb-true, and_parts)
class_read b [] name class t e k = grind (arith, nat_tests)

pub member_of : (first : Bool) (b : ℕ) (bs : List ℕ) (m : Member) (mid : List ℕ) → Closes first b ≡ false → member_at b bs ≡ Some (m, mid) →
    IsMember first (b ∷ bs) m mid
member_of first b bs m mid c h = by_test (b == backslash) (λ t. escaped bs t (rw t at h)) (λ f. plain f (rw f at h))
  where
    escaped : (bs : List ℕ) → (b == backslash) ≡ true → from_escape bs ≡ Some (m, mid) → IsMember first (b ∷ bs) m mid
    escaped [] t e = cc
    escaped (d ∷ bs) t e = same_pair (IsMember first (b ∷ d ∷ bs)) (from_single d bs) m mid e
        (tail_member first (b ∷ d ∷ bs) d bs (inl (ap (λ x. x ∷ d ∷ bs) (eqb-true b backslash t))))

    alone_here : (b == backslash) ≡ false → Some (from_single b bs) ≡ Some (m, mid) → (BeginsClass (b ∷ bs) → ⊥) → IsMember first (b ∷ bs) m mid
    alone_here f e none = same_pair (IsMember first (b ∷ bs)) (from_single b bs) m mid e
        (tail_member first (b ∷ bs) b bs (inr (refl, eqb-false b backslash f, open_first first b c, none)))

    plain : (b == backslash) ≡ false → cond (b == open_bracket && begins colon bs) (from_class bs) (Some (from_single b bs)) ≡ Some (m, mid) →
        IsMember first (b ∷ bs) m mid
    plain f e = by_test (b == open_bracket && begins colon bs)
        (λ t. by_option (name_in (drop 1 bs))
        (λ n. let g = rw (t, n) at e in grind (arith, nat_tests, alone_here f, begun_class b bs, and_parts, eqb-true))
        (λ name k. by_option (class_named name)
        (λ n. let g = rw (t, k, n) at e in cc)
        (λ class j.
        same_pair (IsMember first (b ∷ bs)) (Named class, drop (length name + 3) bs) m mid (rw (t, k, j) at e) (class_read b bs name class t k j))))
        (λ g. alone_here f (rw g at e) (λ k.
        let r = begun_class b bs k in true_false _ (and_from (b == open_bracket) (begins colon bs) (eq-eqb b open_bracket r.0) r.1) g))

-- the text begins with a byte that does not close the bracket, at which the member is read
pub record Reads (first : Bool) (text : List ℕ) (m : Member) (mid : List ℕ) : Type 0 where
  pub byte : ℕ
  pub tail : List ℕ
  pub whole : text ≡ byte ∷ tail
  pub stays_open : Closes first byte ≡ false
  pub read : member_at byte tail ≡ Some (m, mid)

single_read : (first : Bool) (text : List ℕ) (c : ℕ) (others : List ℕ) (m : Member) (mid : List ℕ) → from_single c others ≡ (m, mid) →
    IsSingle first text c others → Reads first text m mid
single_read first text c others m mid e (inl h) = record { byte = backslash; tail = c ∷ others; whole = h; stays_open = refl; read = ap Some e }
single_read first text c others m mid e (inr h) = record {
  byte = c;
  tail = others;
  whole = h.0;
  stays_open = by_test (c == close_bracket) (λ t. rw (t, h.2 (eqb-true c close_bracket t))) (λ f. rw f);
  read = rw (ne_eqb c backslash h.1) (by_test (c == open_bracket && begins colon others) (λ t. rw t (as_class t)) (λ f. rw f (ap Some e)));
}
  where
    colon_first : (bs : List ℕ) → begins colon bs ≡ true → bs ≡ colon ∷ drop 1 bs
    colon_first bs g = grind (arith, nat_tests, eqb-true)

    as_class : (c == open_bracket && begins colon others) ≡ true → class_member others (name_in (drop 1 others)) ≡ Some (m, mid)
    as_class t =
        let w = and_parts (c == open_bracket) (begins colon others) t in
        by_option (name_in (drop 1 others))
        (λ n. rw n (ap (λ x. Some (from_single x others)) (sym (eqb-true c open_bracket w.0)) ∙ ap Some e))
        (λ name k. let r = named (drop 1 others) name k in grind (arith, nat_tests, eqb-true, colon_first, all_of_each))

pub member_read : (first : Bool) (text : List ℕ) (m : Member) (mid : List ℕ) → IsMember first text m mid → Reads first text m mid
member_read first text m mid h = grind (arith, nat_tests, single_read, alone)

pub member_shorter : (first : Bool) (text : List ℕ) (m : Member) (mid : List ℕ) → IsMember first text m mid → length mid < length text
member_shorter first text m mid h = grind (arith, nat_tests, length-append)

-- Lists of members.

pub members_of : (n : ℕ) (first : Bool) (text : List ℕ) (ms : List Member) (rest : List ℕ) →
    members n first text ≡ Some (ms, rest) → AreMembers first text ms rest
members_of (suc n) first (b ∷ bs) ms rest h = by_test (Closes first b)
    (λ t. same_pair (AreMembers first (b ∷ bs)) ([], bs) ms rest (rw t at h) (grind (arith, nat_tests, and_parts, not-true, eqb-true)))
    (λ c. by_option (member_at b bs)
    (λ k. let e = rw (c, k) at h in cc)
    (λ p k. by_option (members n false p.1)
    (λ j. let e = rw (c, k, j) at h in cc)
    (λ q j. same_pair (AreMembers first (b ∷ bs)) (p.0 ∷ q.0, q.1) ms rest (rw (c, k, j) at h)
    (p.1, member_of first b bs p.0 p.1 c k, members_of n false p.1 q.0 q.1 j))))
members_of n first text ms rest h = grind (arith, nat_tests)

pub members_read : (n : ℕ) (first : Bool) (text : List ℕ) (ms : List Member) (rest : List ℕ) → length text ≤ n → AreMembers first text ms rest →
    members n first text ≡ Some (ms, rest)
members_read n first text [] rest l h = grind (arith, nat_tests)
members_read zero first text (m ∷ ms) rest l h = let s = member_shorter first text m h.0 h.1 in absurd (omega arith)
members_read (suc n) first text (m ∷ ms) rest l h =
    let r = member_read first text m h.0 h.1 in
    let s = member_shorter first text m h.0 h.1 in
    let later = members_read n false h.0 ms rest (omega arith) h.2 in
    rw (r.whole, r.stays_open, r.read, later)
