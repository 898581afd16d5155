-- Which numbers are those of a subject's keys, and which keys the texts have.
use Rattle.std.proofs.Common.{◌≡◌, ℕ, Bool, true, false, List}
use Rattle.std.proofs.Common.{sym, ap, ◌∙◌, nat_eq}
use Rattle.std.specs.List.{starts_with}
use Rattle.attr_keys.specs.declared.key.Key.{Key}
use Rattle.attr_keys.specs.shared.KeyContents.{KeyContent}
use Rattle.attr_keys.specs.shared.Codes.{codes_of}
use Rattle.attr_keys.specs.inner.Cases.{in_case, content_in_case}
use Rattle.attr_keys.specs.shared.Meeting.{directed, is_end, has_content, key_content}
use Rattle.attr_keys.proofs.SeenTexts.{codes_in_case, directed_in_case}

-- a key's text without a capital letter
pub lower_content : (key : Key) → in_case true key.text.now ≡ key.text.now → content_in_case true (key_content key) ≡ key_content key
lower_content key same =
    let e = is_end key.subject in
    ap (λ t. with_text t) (sym (directed_in_case e true key.text.now) ∙ ap (directed e) same)
  where
    with_text : List ℕ → KeyContent
    with_text t = record { subject = key.subject; text = t; is_whole = key.is_whole }

pub has_in_case : (fold : Bool) (text : List ℕ) (key : KeyContent) → has_content false (in_case fold text) (content_in_case fold key)
    ≡ has_content fold text key
has_in_case fold text key =
    ap (λ l. starts_with nat_eq l (codes_of false (in_case fold key.text) key.is_whole)) (codes_in_case fold text true)
    ∙ ap (starts_with nat_eq (codes_of fold text true)) (codes_in_case fold key.text key.is_whole)
