-- The members of a bracket, one after the other.
use Rattle.std.proofs.lemmas.Bool.Decides.{nat_tests}
use Rattle.std.proofs.Common.{◌≡◌, ◌≤◌, ℕ, zero, suc, Bool, false, not, ◌&&◌, ◌==◌, List, [], ◌∷◌, ◌++◌, length, Option, None, Some, option_map}
use Rattle.std.proofs.Common.{append_assoc, arith}
use Rattle.attr_wildmatch.specs.declared.bracket.Member.{Member}
use Rattle.attr_wildmatch.specs.Bytes.{close_bracket}
use Rattle.attr_wildmatch.specs.Brackets.{members, member_at}

-- what was read before, and then what is read here
abbrev pub after : List Member → Option (List Member × List ℕ) → Option (List Member × List ℕ)
after list None = None
after list (Some p) = Some (list ++ p.0, p.1)

pub after-nil : (o : Option (List Member × List ℕ)) → o ≡ after [] o
after-nil o = grind (arith, nat_tests)

after-cons : (list : List Member) (m : Member) (o : Option (List Member × List ℕ)) →
    after list (option_map (λ q. (m ∷ q.0, q.1)) o) ≡ after (list ++ m ∷ []) o
after-cons list m o = grind (arith, nat_tests, append_assoc)

pub members_more : (list : List Member) (n : ℕ) (first : Bool) (b : ℕ) (bs : List ℕ) (m : Member) (rest : List ℕ) →
    (b == close_bracket && not first) ≡ false → member_at b bs ≡ Some (m, rest) → suc (length bs) ≤ n → length rest ≤ length bs →
    (k : ℕ) × (length rest ≤ k) × (after list (members n first (b ∷ bs)) ≡ after (list ++ m ∷ []) (members k false rest))
members_more list zero first b bs m rest e h l r = absurd (omega arith)
members_more list (suc n) first b bs m rest e h l r = grind (arith, nat_tests, after-cons list m (members n false rest))
