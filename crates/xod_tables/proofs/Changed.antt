-- What is at a key of the index after keys went and others came.
use Rattle.std.proofs.Common.{◌≡◌, ℕ, Bool, true, false, cond, ◌||◌, List, [], ◌∷◌, ◌++◌, map, Option, Some, None, refl, sym, ap, ◌∙◌}
use Rattle.std.specs.List.{list_any}
use Rattle.std.specs.Option.{option_map}
use Rattle.std.specs.FinMap.{get, get-insert, get-remove, insert, remove}
use Rattle.std.specs.Cmp.Lexicographic.{texts_ties}
use Rattle.xod_base.specs.declared.value.EntityId.{EntityId}
use Rattle.xod_base.specs.Values.{same_bytes}
use Rattle.xod_base.specs.Views.{Tree, Trees}
use Rattle.xod_carry.proofs.CallerLemmas.{bytes_total}
use Rattle.xod_overlay.specs.declared.write.Write.{Write}
use Rattle.xod_tables.specs.Changes.{NewKeysStand}
use Rattle.xod_tables.specs.Keys.{index_key, property_key, stored}
use Rattle.xod_tables.specs.Writes.{after_write, after_writes, keys_of_option, put, removed}
use Rattle.xod_tables.specs.declared.trees.TheConstants.{INDEX, PROPERTIES}

-- a choice by either of two tests, one after the other
either_test : {A : Type 0} (first other : Bool) (then rest : A) → cond other then (cond first then rest) ≡ cond (first || other) then rest
either_test true true then rest = refl
either_test true false then rest = refl
either_test false true then rest = refl
either_test false false then rest = refl

module _ (id : EntityId) (prop : ℕ) (key : List ℕ) where
  abbrev is_own : List ℕ → Bool
  is_own own = same_bytes key (index_key id prop own)

  abbrev found : Option Tree → Option (Option (List ℕ))
  found tree = option_map (λ after. get after key) tree

  at_put : (index : Tree) (own : List ℕ) → get (insert index (index_key id prop own) []) key ≡ cond (is_own own) (Some []) (get index key)
  at_put index own = get-insert bytes_total index (index_key id prop own) [] key ∙ ap (λ b. cond b (Some []) (get index key)) (sym (texts_ties key (index_key id prop own)))

  at_removed : (index : Tree) (own : List ℕ) → get (remove index (index_key id prop own)) key ≡ cond (is_own own) None (get index key)
  at_removed index own = get-remove bytes_total index (index_key id prop own) key ∙ ap (λ b. cond b None (get index key)) (sym (texts_ties key (index_key id prop own)))

  -- keys that come
  keys_come : (keys : List (List ℕ)) (trees : Trees) (index : Tree) → trees INDEX ≡ Some index
      → found (after_writes trees (map (λ own. put INDEX (index_key id prop own) []) keys) INDEX) ≡ Some (cond (list_any is_own keys) (Some []) (get index key))
  keys_come [] trees index is = ap found is
  keys_come (own ∷ keys) trees index is =
      keys_come keys (after_write trees (put INDEX (index_key id prop own) [])) (insert index (index_key id prop own) [])
      (ap (option_map (λ tree. insert tree (index_key id prop own) [])) is)
      ∙ ap (λ rest. Some (cond (list_any is_own keys) (Some []) rest)) (at_put index own)
      ∙ ap Some (either_test (is_own own) (list_any is_own keys) (Some []) (get index key))

  -- keys that go, before other writes that put something at a key or leave it
  keys_go : (more : List Write) (comes : Bool)
      → ((trees : Trees) (index : Tree) → trees INDEX ≡ Some index → found (after_writes trees more INDEX) ≡ Some (cond comes (Some []) (get index key)))
      → (keys : List (List ℕ)) (trees : Trees) (index : Tree) → trees INDEX ≡ Some index
      → found (after_writes trees (map (λ own. removed INDEX (index_key id prop own)) keys ++ more) INDEX)
      ≡ Some (cond comes (Some []) (cond (list_any is_own keys) None (get index key)))
  keys_go more comes behind [] trees index is = behind trees index is
  keys_go more comes behind (own ∷ keys) trees index is =
      keys_go more comes behind keys (after_write trees (removed INDEX (index_key id prop own))) (remove index (index_key id prop own))
      (ap (option_map (λ tree. remove tree (index_key id prop own))) is)
      ∙ ap (λ rest. Some (cond comes (Some []) (cond (list_any is_own keys) None rest))) (at_removed index own)
      ∙ ap (λ rest. Some (cond comes (Some []) rest)) (either_test (is_own own) (list_any is_own keys) None (get index key))

pub new_keys_stand : NewKeysStand
new_keys_stand trees index id prop old new key is =
    keys_go id prop key (map (λ own. put INDEX (index_key id prop own) []) (keys_of_option new)) (list_any (is_own id prop key) (keys_of_option new))
    (keys_come id prop key (keys_of_option new)) (keys_of_option old)
    (after_write trees (record { tree = PROPERTIES; key = property_key id prop; value = option_map stored new })) index is
