-- Texts are laid one after the other.
use Rattle.std.proofs.Common.{arith, ◌≡◌, ◌≤◌, ℕ, List, [], ◌++◌, length, drop, refl, append_assoc}
use Rattle.std.proofs.lemmas.Bool.Decides.{nat_tests}
use Rattle.yektrod.specs.inner.Laid.{IsLaid, IsLaidBehind}

-- two texts, one after the other
pub laid_both : (x y old mid new : List ℕ) (at then told : ℕ) → IsLaidBehind old at x mid then → IsLaidBehind mid then y new told
    → IsLaidBehind old at (x ++ y) new told
laid_both x y old mid new at then told first second = grind (arith, nat_tests, append_assoc)

-- nothing is laid in a buffer at first
pub laid_none : (buffer : List ℕ) → IsLaid buffer [] buffer 0
laid_none buffer = record { long = refl; counted = refl; laid = λ fits. refl }

-- a text that fits is laid to the front
pub laid_alone : (text old new : List ℕ) (told : ℕ) → IsLaidBehind old 0 text new told → length text ≤ length old
    → new ≡ text ++ drop (length text) old
laid_alone text old new told behind fits = (behind old [] (laid_none old)).laid fits
