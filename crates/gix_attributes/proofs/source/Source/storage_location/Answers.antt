use Rattle.std.proofs.lemmas.Bool.Decides.{nat_tests}
use Rattle.std.proofs.Common.{arith, ◌≡◌, ◌∙◌, ◌∷◌, [], true, false, refl, sym, ap, subst, codes, string_bytes, if◌then◌else◌}
use Rattle.std.specs.Prelude.{option_map, is_some}
use Rattle.gix_attributes.specs.Sources.{IsAsked, no_system, config_home, home, is_unset_or_empty}
use Rattle.gix_attributes.proofs.SourceLemmas.{asked_for, asks_one, asks_two, is_some-text, located}
use Rattle.gix_attributes.proofs.source.Source.storage_location.Goals as goal

pub returns-then-is_some : goal.returns-then-is_some
returns-then-is_some g c =
    let asked = asked_for no_system c.env_var.result ∷ [] in
    let known : is_some (option_map string_bytes c.env_var.result) ≡ true = is_some-text c.env_var.result ∙ sym c.is_some.ensures ∙ c.if-is_some.true
    in (
      asked,
      asks_one g.F.FnMut c.args.env_var no_system c.env_var.result _ (record { shown = _; shows = refl; called = c.env_var.ensures }),
      subst (λ s. IsAsked s asked) (sym c.in-System.is) refl,
      grind (arith, nat_tests, string_bytes, codes, c.in-System.is),
    )

pub returns-in-System : goal.returns-in-System
returns-in-System g c =
    let asked = asked_for no_system c.env_var.result ∷ [] in
    let known : is_some (option_map string_bytes c.env_var.result) ≡ false = is_some-text c.env_var.result ∙ sym c.is_some.ensures ∙
    c.if-is_some.false in (
      asked,
      asks_one g.F.FnMut c.args.env_var no_system c.env_var.result _ (record { shown = _; shows = refl; called = c.env_var.ensures }),
      subst (λ s. IsAsked s asked) (sym c.in-System.is) refl,
      grind (arith, nat_tests, located, string_bytes, codes, c.in-System.is, c.join_known-in-System.ensures),
    )

pub returns-then-not-is_unset_or_empty : goal.returns-then-not-is_unset_or_empty
returns-then-not-is_unset_or_empty g c =
    let config = option_map string_bytes c.env_var-config.result in
    let asked = asked_for config_home c.env_var-config.result ∷ [] in
    let known : is_unset_or_empty config ≡ false = sym c.is_unset_or_empty.ensures ∙ c.if-not-is_unset_or_empty.true in (
      asked,
      asks_one g.F.FnMut c.args.env_var config_home c.env_var-config.result _ (record { shown = _; shows = refl; called = c.env_var-config.ensures }),
      subst (λ s. IsAsked s asked) (sym c.in-Git.is) (ap (λ b. config_home ∷ (if b then home ∷ [] else [])) (sym known)),
      grind (arith, nat_tests, located, codes, c.in-Git.is, c.join_known-then-not-is_unset_or_empty.ensures),
    )

pub returns-in-Git : goal.returns-in-Git
returns-in-Git g c =
    let config = option_map string_bytes c.env_var-config.result in
    let directory = option_map string_bytes c.env_var-home.result in
    let asked = asked_for config_home c.env_var-config.result ∷ asked_for home c.env_var-home.result ∷ [] in
    let known : is_unset_or_empty config ≡ true = sym c.is_unset_or_empty.ensures ∙ c.if-not-is_unset_or_empty.false in (
      asked,
      asks_two g.F.FnMut c.args.env_var config_home c.env_var-config.result _ home c.env_var-home.result _
          (record { shown = _; shows = refl; called = c.env_var-config.ensures })
          (record { shown = _; shows = refl; called = c.env_var-home.ensures }),
      subst (λ s. IsAsked s asked) (sym c.in-Git.is) (ap (λ b. config_home ∷ (if b then home ∷ [] else [])) (sym known)),
      grind (arith, nat_tests, located, codes, c.in-Git.is, c.join_known-in-Git.ensures),
    )
