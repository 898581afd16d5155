-- What a worktree keeps when lists are added and removed.
use Rattle.std.proofs.Common.{◌≡◌, ◌≢◌, ℕ, List, [], ◌++◌, length, All, Option, Some, None, option_map, refl, sym, ◌∙◌, subst}
use Rattle.std.specs.Prelude.{IfSome, MatchOption}
use Rattle.std.specs.Option.{option_to_list}
use Rattle.std.proofs.lemmas.List.{append-nil}
use Rattle.std.proofs.lemmas.List.Elements.{All-nil}
use Rattle.gix_attributes.specs.Additions.{registered_lists}
use Rattle.gix_attributes.specs.Collections.{Collection}
use Rattle.gix_attributes.specs.Covered.{AreCovered, ListsAreCovered}
use Rattle.gix_attributes.specs.Keeping.{Adds, AreApart, Keeps, Removes}
use Rattle.gix_attributes.specs.Numbers.{AppendsNames}
use Rattle.gix_attributes.specs.Registers.{RegistersExactly, without_registered}
use Rattle.gix_attributes.specs.SearchViews.{Holds, LosesLast, RemovesLast, list_ids_in, lists_in}
use Rattle.gix_attributes.specs.Settings.{LinesAreNamed, ListsAreNamed}
use Rattle.gix_attributes.specs.ListView.{Listed}
use Rattle.gix_attributes.specs.declared.search.attributes.Search.{Search}
use Rattle.worktree.specs.WorktreeView.{AreKept, HasItsNumbers}

-- what the law `names_stay` says of lists
pub record NamesStay : Type 0 where
  pub lists : (old new : List (List ℕ)) (lists : List Listed) → AppendsNames old new → ListsAreNamed old lists → ListsAreNamed new lists
  pub covered : (old new : List (List ℕ)) (lists : List Listed) → AppendsNames old new → ListsAreCovered (length old) lists
      → ListsAreCovered (length new) lists

apart_alike : (xs ys : List ℕ) → AreApart xs ys → AreApart ys xs
apart_alike xs ys h = λ k d lt j e lt2 same. h j e lt2 k d lt (sym same)

still_numbered : NamesStay → (known now : Collection) (search : Search) → AppendsNames known.names now.names → HasItsNumbers known search
    → HasItsNumbers now search
still_numbered law known now search more h = record {
  named = law.lists known.names now.names (lists_in search) more h.named;
  covered = law.covered known.names now.names (lists_in search) more h.covered;
}

-- a search without lists
none_numbered : (known : Collection) (search : Search) → lists_in search ≡ [] → HasItsNumbers known search
none_numbered known search none = record {
  named = subst (ListsAreNamed known.names) (sym none) (All-nil (λ (l : Listed). LinesAreNamed known.names l.lines));
  covered = subst (ListsAreCovered (length known.names)) (sym none) (All-nil (λ (l : Listed). AreCovered (length known.names) l.lines));
}

pub kept_first : (globals directories : Search) (known : Collection) → lists_in globals ≡ [] → lists_in directories ≡ [] →
    list_ids_in directories ≡ []
    → Holds known globals → Holds known directories → RegistersExactly known [] → AreKept globals directories known
kept_first globals directories known no_globals no_directories no_ids globals_held directories_held empty = record {
  globals_held = globals_held;
  directories_held = directories_held;
  apart = subst (λ ids. AreApart ids (list_ids_in globals)) (sym no_ids) (All-nil (λ m. All (λ o. o ≢ m) (list_ids_in globals)));
  globals_numbered = none_numbered known globals no_globals;
  directories_numbered = none_numbered known directories no_directories;
  register = [];
  registered = empty;
}

numbered_more : (known now : Collection) (before after : Search) → Keeps (registered_lists before known) (registered_lists after now)
    → HasItsNumbers known before → HasItsNumbers now after
numbered_more known now before after kept h = record { named = kept.named h.named; covered = kept.covered h.covered }

-- a global list is added
pub kept_globally : NamesStay → (before after directories : Search) (known now : Collection)
    → Keeps (registered_lists before known) (registered_lists after now) → Adds (registered_lists before known) (registered_lists after now)
    → (Holds known before → Holds now after) → AreKept before directories known → AreKept after directories now
kept_globally law before after directories known now kept more held h =
    let ids = list_ids_in directories in
    let others = kept.others directories (apart_alike ids (list_ids_in before) h.apart) h.directories_held in
    record {
      globals_held = held h.globals_held;
      directories_held = others.1;
      apart = apart_alike (list_ids_in after) ids others.0;
      globals_numbered = numbered_more known now before after kept h.globals_numbered;
      directories_numbered = still_numbered law known now directories kept.names h.directories_numbered;
      register = h.register ++ more.added;
      registered = more.to_collection h.register h.registered;
    }

-- the list of a directory is added
pub kept_entering : NamesStay → (globals before after : Search) (known now : Collection)
    → Keeps (registered_lists before known) (registered_lists after now) → Adds (registered_lists before known) (registered_lists after now)
    → (Holds known before → Holds now after) → AreKept globals before known → AreKept globals after now
kept_entering law globals before after known now kept more held h =
    let others = kept.others globals h.apart h.globals_held in
    record {
      globals_held = others.1;
      directories_held = held h.directories_held;
      apart = others.0;
      globals_numbered = still_numbered law known now globals kept.names h.globals_numbered;
      directories_numbered = numbered_more known now before after kept h.directories_numbered;
      register = h.register ++ more.added;
      registered = more.to_collection h.register h.registered;
    }

numbered_same : (known now : Collection) (before after : Search) → lists_in after ≡ lists_in before → now ≡ known → HasItsNumbers known before
    → HasItsNumbers now after
numbered_same known now before after lists_are now_is h = record {
  named = subst (λ (k : Collection). ListsAreNamed k.names (lists_in after)) (sym now_is)
      (subst (ListsAreNamed known.names) (sym lists_are) h.named);
  covered = subst (λ (k : Collection). ListsAreCovered (length k.names) (lists_in after)) (sym now_is)
      (subst (ListsAreCovered (length known.names)) (sym lists_are) h.covered);
}

-- a call changed neither search
pub kept_same : (globals globals' directories directories' : Search) (known now : Collection) → lists_in globals' ≡ lists_in globals
    → list_ids_in globals' ≡ list_ids_in globals → lists_in directories' ≡ lists_in directories
    → list_ids_in directories' ≡ list_ids_in directories → now ≡ known
    → Holds now globals' → Holds now directories' → AreKept globals directories known → AreKept globals' directories' now
kept_same globals globals' directories directories' known now globals_are globals_ids directories_are directories_ids now_is globals_held
    directories_held h = record {
      globals_held = globals_held;
      directories_held = directories_held;
      apart = subst (λ ids. AreApart ids (list_ids_in globals')) (sym directories_ids)
          (subst (AreApart (list_ids_in directories)) (sym globals_ids) h.apart);
      globals_numbered = numbered_same known now globals globals' globals_are now_is h.globals_numbered;
      directories_numbered = numbered_same known now directories directories' directories_are now_is h.directories_numbered;
      register = h.register;
      registered = subst (λ k. RegistersExactly k h.register) (sym now_is) h.registered;
    }

-- the list of the last directory is removed, if there is one
pub kept_leaving : {X : Type 0} (read : X → Listed) (r : Option X) → NamesStay → (globals before after : Search) (known now : Collection)
    → IfSome r (λ _. Keeps (registered_lists before known) (registered_lists after now))
    → IfSome r (λ _. Removes (registered_lists before known) (registered_lists after now))
    → lists_in before ≡ lists_in after ++ option_to_list (option_map read r)
    → MatchOption r (now ≡ known) (λ _. RemovesLast (list_ids_in before) known now)
    → MatchOption r (list_ids_in after ≡ list_ids_in before) (λ _. LosesLast (list_ids_in before) (list_ids_in after))
    → Holds now after → AreKept globals before known
    → AreKept globals after now
kept_leaving read None law globals before after known now kept gone lists_are now_is ids_are held h =
    kept_same globals globals before after known now refl refl (sym (lists_are ∙ append-nil (lists_in after))) ids_are now_is
    (subst (λ k. Holds k globals) (sym now_is) h.globals_held) held h
kept_leaving read (Some x) law globals before after known now kept gone lists_are now_is ids_are held h =
    let others = kept.others globals h.apart h.globals_held in
    record {
      globals_held = others.1;
      directories_held = held;
      apart = others.0;
      globals_numbered = still_numbered law known now globals kept.names h.globals_numbered;
      directories_numbered = numbered_more known now before after kept h.directories_numbered;
      register = without_registered gone.removed.list_id h.register;
      registered = gone.of_collection h.register h.registered;
    }
