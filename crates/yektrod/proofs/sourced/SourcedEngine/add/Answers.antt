use Rattle.std.proofs.Common.{◌≡◌, ◌<◌, ◌+◌, ◌^◌, ap, ◌∙◌, arith, length, length-append, map, List, ℕ, ◌++◌, ◌∷◌, []}
use Rattle.std.specs.Prelude.{Vec}
use Rattle.std.specs.Fmt.{decimal}
use Rattle.std.specs.Global.{Global}
use Rattle.std.specs.Option.{option_copied}
use Rattle.std.proofs.lemmas.List.{length-map, map-append}
use Rattle.gix_attributes.specs.EngineStates.{AddedList, EngineContent, with_list_below}
use Rattle.gix_attributes.specs.Told.{content_told}
use Rattle.yektrod.specs.Sourced.{added_list_view, source_in, told_content}
use Rattle.yektrod.specs.SourcedContents.{SourcedContent}
use Rattle.yektrod.proofs.SourcedLemmas.{labels_added, told_added}
use Rattle.yektrod.proofs.sourced.SourcedEngine.add.Goals as goal

pub invariant_of-self-in-Ok : goal.invariant_of-self-in-Ok
invariant_of-self-in-Ok c =
    let e = c.self.inside in let n = length e.sources.items in
    let small : n < 2 ^ 64 = omega (arith, e.sources.ok, e.sources.small) in
    let n_is : c.len.result ≡ n = omega (arith, c.len.ensures, e.sources.ok) in
    let label : c.deref.result.now ≡ decimal n = c.deref.ensures ∙ c.in_ok-label.ensures.ok ∙ ap decimal n_is in
    let a : AddedList = record {
      allow_macros = c.args.list.allow_macros;
      source = c.deref.result.now;
      base = option_copied c.args.list.base;
      buffer = c.args.list.buffer.now;
    } in
    let longer : length c.push.new.self.items ≡ n + 1 =
    ap length c.in_ok-push.ensures.items ∙ length-append e.sources.items (c.in_ok-source.source ∷ []) in
    let more : length c.add_below.new.self.state.lists ≡ length e.engine.state.lists + 1 =
    ap (λ (held : EngineContent). length held.state.lists) c.in-Ok.ensures.added ∙ length-append e.engine.state.lists _ in
    record {
      labels = labels_added e.engine c.add_below.new.self a n c.self.invariant.labels c.self.invariant.sources small label c.in-Ok.ensures.added;
      sources = omega (arith, longer, more, c.self.invariant.sources);
    }

pub returns-in-Ok-clause-added : goal.returns-in-Ok-clause-added
returns-in-Ok-clause-added c =
    let e = c.self.inside in let n = length e.sources.items in
    let f : Vec ℕ Global → List ℕ = λ source. source.items in
    let sources : List (List ℕ) = map f e.sources.items in
    let as_many : length sources ≡ n = length-map e.sources.items f in
    let n_is : c.len.result ≡ length sources = omega (arith, c.len.ensures, e.sources.ok, as_many) in
    let small : length sources < 2 ^ 64 = omega (arith, e.sources.ok, e.sources.small, as_many) in
    let label : c.deref.result.now ≡ decimal (length sources) = c.deref.ensures ∙ c.in_ok-label.ensures.ok ∙ ap decimal n_is in
    let a : AddedList = record {
      allow_macros = c.args.list.allow_macros;
      source = c.deref.result.now;
      base = option_copied c.args.list.base;
      buffer = c.args.list.buffer.now;
    } in
    let longer : map f c.push.new.self.items ≡ sources ++ c.args.list.source.now ∷ [] =
    ap (map f) c.in_ok-push.ensures.items ∙ map-append f e.sources.items (c.in_ok-source.source ∷ [])
    ∙ ap (λ (s : List ℕ). sources ++ s ∷ []) c.in_ok-source.ensures.items in
    ap (λ s. content_told (source_in s) c.add_below.new.self) longer
    ∙ told_added e.engine c.add_below.new.self sources c.args.list.source.now a c.self.invariant.labels (as_many ∙ c.self.invariant.sources) small
    label c.in-Ok.ensures.added (λ told. c.sources_only_tell.ensures.added told a e.engine)
    ∙ ap (λ (held : SourcedContent). with_list_below (added_list_view c.args.list) (told_content held)) c.self.view_is
