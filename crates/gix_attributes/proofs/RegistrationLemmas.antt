-- A collection that registers the lists of one search alone.
use Rattle.std.proofs.lemmas.Bool.Decides.{nat_tests}
use Rattle.std.proofs.Common.{arith, ◌≡◌, ℕ, List, [], ◌++◌, length, Option, option_map, sym, ◌∙◌}
use Rattle.std.specs.Prelude.{nat_eq, IfSome, MatchOption}
use Rattle.std.proofs.Math.Path.{subst}
use Rattle.std.specs.List.{IsDistinct}
use Rattle.std.specs.Option.{option_to_list}
use Rattle.std.proofs.lemmas.List.{append-nil, length-map}
use Rattle.std.proofs.lemmas.List.Elements.{All-nil}
use Rattle.gix_attributes.specs.Additions.{RegisteredLists, registered_lists}
use Rattle.attr_lists.specs.Collections.{Collection}
use Rattle.gix_attributes.specs.Contents.{bodies_of}
use Rattle.attr_search.specs.IndexedLists.{listed_view}
use Rattle.gix_attributes.specs.Keeping.{Adds, Keeps, Removes}
use Rattle.gix_attributes.specs.Registers.{RegistersExactly, no_lists, with_list_ids}
use Rattle.gix_attributes.specs.SearchViews.{LosesLast, RemovesLast, lists_in, list_ids_in}
use Rattle.attr_search.specs.ListView.{Listed}
use Rattle.gix_attributes.specs.declared.search.attributes.Search.{Search}
use Rattle.gix_attributes.proofs.KeepingLemmas.{bodies_registered as registered_bodies, left_alone, lists_with_ids}
use Rattle.gix_attributes.specs.Registration.{RegistersAlone}
use Rattle.gix_attributes.specs.EngineStates.{bodies_by}

abbrev pub IsAlone : RegisteredLists → Type 0
IsAlone lists = RegistersAlone lists.known lists.list_ids lists.lists

-- lists are added
pub alone_added : (before after : RegisteredLists) → Keeps before after → Adds before after → IsAlone before → IsAlone after
alone_added before after kept more h = record {
  named = kept.named h.named;
  covered = kept.covered h.covered;
  exactly = subst (RegistersExactly after.known) (sym more.to_search)
      (more.to_collection (with_list_ids before.list_ids before.lists) h.exactly);
}

-- lists are added to a collection that registers none
pub alone_first : (known : Collection) (after : RegisteredLists) → Keeps (no_lists known) after → Adds (no_lists known) after
    → RegistersExactly known [] → IsAlone after
alone_first known after kept more h = grind (arith, nat_tests, alone_added (no_lists known) after kept more, All-nil)

-- as many list ids as lists
pub same_count : (search : Search) → length (list_ids_in search) ≡ length (lists_in search)
same_count search = length-map _ _ ∙ sym (length-map search.patterns.lists.items listed_view)

-- the last list is removed, if there is one
pub alone_popped : {X : Type 0} (read : X → Listed) (r : Option X) (old new : Search) (known now : Collection)
    → IsDistinct nat_eq (list_ids_in old) → IfSome r (λ _. Keeps (registered_lists old known) (registered_lists new now))
    → IfSome r (λ _. Removes (registered_lists old known) (registered_lists new now))
    → lists_in old ≡ lists_in new ++ option_to_list (option_map read r) → MatchOption r (now ≡ known) (λ _. RemovesLast (list_ids_in old) known now)
    → MatchOption r (list_ids_in new ≡ list_ids_in old) (λ _. LosesLast (list_ids_in old) (list_ids_in new)) → IsAlone (registered_lists old known)
    → IsAlone (registered_lists new now)
alone_popped read r old new known now distinct kept gone lists_are now_is ids_are h = grind (arith, nat_tests, append-nil, left_alone, same_count)

-- the body of a macro is its last definition in the lists
pub bodies_registered : (known : Collection) (list_ids : List ℕ) (lists : List Listed) (selected : List (List ℕ)) → length list_ids ≡ length lists
    → RegistersAlone known list_ids lists
    → bodies_of known ≡ bodies_by (record { names = known.names; lists = lists; selection = selected })
bodies_registered known list_ids lists selected same knows =
    grind (arith, nat_tests, registered_bodies known (with_list_ids list_ids lists), lists_with_ids list_ids lists same)
