-- How trees are added to a block, one by one.
use Rattle.std.proofs.Common.{◌≡◌, ◌≢◌, ◌<◌, ◌≤◌, ℕ, suc, ◌-◌, Bool, true, false, cond, eqb, List, [], ◌∷◌, ◌++◌, length, length-append, drop, Option, Some, None, refl, sym, ap, subst, ◌∙◌, arith, inl, inr}
use Rattle.std.specs.Prelude.{◌↔◌, IfSome, IsSome, IsTrue, is_some, map}
use Rattle.std.specs.FinMap.{empty, empty_of_len, entries, from_entries, get, get-empty, len, len-empty, len-entries, same_map}
use Rattle.std.specs.Option.{option_map, unwrap_or}
use Rattle.std.specs.Cmp.Lexicographic.{nat_list_cmp_total}
use Rattle.std.proofs.lemmas.Bool.{cases_eq, cases_lt, lt-ltb}
use Rattle.std.proofs.lemmas.List.{append-nil}
use Rattle.xod_base.specs.Values.{bytes_cmp}
use Rattle.xod_block.specs.declared.address.Address.{Address}
use Rattle.xod_block.specs.Addresses.{number_of}
use Rattle.xod_block.specs.Bodies.{HasGrown, with_block}
use Rattle.xod_block.specs.Maps.{Pairs, RecordsAt}
use Rattle.xod_block.specs.Reading.{record_in}
use Rattle.xod_block.proofs.CallerLemmas.{map_at-agree}
use Rattle.xod_overlay.specs.Laws.{TouchedKeysDecide}
use Rattle.xod_overlay.specs.Marks.{Mark, TouchMap, overlaid}
use Rattle.xod_root.specs.Roots.{Roots, with_root}
use Rattle.xod_root.proofs.CallerLemmas.{get-with_root, get-with_root-other}
use Rattle.xod_trie.specs.Tries.{TrieMap, trie_map}
use Rattle.xod_trie_mut.specs.declared.change.Change.{Change}
use Rattle.xod_trie_mut.specs.Changes.{with_changes}
use Rattle.xod_trie_mut.specs.Saves.{IsBelow, further}
use Rattle.xod_commit.specs.declared.trees.Building.{Building}
use Rattle.xod_commit.specs.Blocks.{AreNumbered, Fit, IsTreeNumber}
use Rattle.xod_commit.specs.Trees.{AreBelow, AreBuilt, HasTouches, IsAdded, IsNoneWhereEmpty, touch_by}
use Rattle.xod_commit.proofs.Numbers.{below-later}
use Rattle.xod_commit.proofs.Touches.{changes-overlaid, if-found, no-touches, same_keys}

if-some : {A : Type 0} (o : Option A) (P : A → Type 0) → ((x : A) → o ≡ Some x → P x) → IfSome o P
if-some None P f = tt
if-some (Some x) P f = f x refl

-- more bytes behind a block change no map that it has
abbrev pub BlocksKeep : Type 0
BlocksKeep = (start : ℕ) (block more : List ℕ) (records : RecordsAt) (root : Option Address) → IsSome (trie_map (with_block start block records) root) → trie_map (with_block start (block ++ more) records) root ≡ trie_map (with_block start block records) root

-- a block changes no map that stands below it
block-kept : (at : Address) (block : List ℕ) (records : RecordsAt) (root : Option Address) → IsBelow root at → trie_map (with_block (number_of at) block records) root ≡ trie_map records root
block-kept at block records None below = refl
block-kept at block records (Some root) below = ap (option_map (λ (pairs : Pairs). from_entries {R = bytes_cmp} pairs)) (map_at-agree (with_block (number_of at) block records) records (number_of root) (λ n up.
    ap (λ (b : Bool). cond b (records n) (record_in (drop (n - number_of at) block))) (lt-ltb n (number_of at) (omega (arith, below, up)))))

overlaid-none : TouchedKeysDecide → (m : TrieMap) (touches : TouchMap) → touches ≡ empty → overlaid m touches ≡ m
overlaid-none decide m touches none = same_map nat_list_cmp_total same_keys _ _ (λ q.
    decide m touches q
    ∙ ap (λ (t : TouchMap). unwrap_or (get t q) (get m q)) none
    ∙ ap (λ (o : Option Mark). unwrap_or o (get m q)) (get-empty bytes_cmp q))

-- ---- one tree

module _ (at : Address) (records : RecordsAt) (touches : TouchMap) where
  has-none : TouchedKeysDecide → (block : List ℕ) (root : Option Address) → touches ≡ empty → IsBelow root at → HasTouches at records touches block root root
  has-none decide block root none below = if-some (trie_map records root) _ (λ m e. block-kept at block records root below ∙ e ∙ ap (λ (x : TrieMap). Some x) (sym (overlaid-none decide m touches none)))

  has-more : BlocksKeep → (block longer : List ℕ) (old new : Option Address) → HasGrown block longer → HasTouches at records touches block old new → HasTouches at records touches longer old new
  has-more keep block longer old new grown has = if-some (trie_map records old) _ (λ m e.
      let here : trie_map (with_block (number_of at) block records) new ≡ Some (overlaid m touches) = if-found (trie_map records old) (λ m. trie_map (with_block (number_of at) block records) new ≡ Some (overlaid m touches)) m e has in
      ap (λ (l : List ℕ). trie_map (with_block (number_of at) l records) new) grown.is
      ∙ keep (number_of at) block grown.more records new (ap is_some here)
      ∙ here)

no-list : (touches : TouchMap) (list : List Change) → map touch_by list ≡ entries touches → length list ≡ 0 → touches ≡ empty
no-list touches [] is none = empty_of_len touches (len-entries touches ∙ ap length (sym is))
no-list touches (c ∷ cs) is none = absurd (omega (arith, none))

some-list : (touches : TouchMap) (list : List Change) → map touch_by list ≡ entries touches → touches ≡ empty → length list ≡ 0
some-list touches [] is none = refl
some-list touches (c ∷ cs) is none =
    let whole = ap length is in
    let zero = sym (len-entries touches) ∙ ap len none ∙ len-empty bytes_cmp Mark in
    absurd (omega (arith, whole, zero))

module _ (at : Address) (tells : Bool) (records : RecordsAt) (touches : TouchMap) (tree : ℕ) where
  -- a tree without touches stays as it is
  pub added-none : TouchedKeysDecide → (list : List Change) (building : Building) → map touch_by list ≡ entries touches → length list ≡ 0 → IsBelow (get building.roots tree) at → IsAdded at tells records touches tree building building
  added-none decide list building is none below =
      let nothing = no-list touches list is none in
      record {
        grown = record { more = []; is = sym (append-nil building.block) };
        others = λ other differ. refl;
        touched = λ told. has-none at records touches decide building.block (get building.roots tree) nothing below;
        unlisted = λ told some. absurd (some nothing);
        untouched = λ none. refl;
        below = λ low. below-later at (further at (length building.block)) (get building.roots tree) (omega arith) low;
      }

  -- and one with touches has the root that was saved
  pub added-saved : TouchedKeysDecide → (list : List Change) (old new : Building) (root now : Option Address)
      → map touch_by list ≡ entries touches → (length list ≡ 0 → ⊥) → root ≡ get old.roots tree → new.roots ≡ with_root old.roots tree now → HasGrown old.block new.block
      → (IsTrue tells → IfSome (trie_map records root) (λ m. trie_map (with_block (number_of at) new.block records) now ≡ Some (with_changes m list)))
      → (IsTrue tells → IfSome (trie_map records root) (λ m. (now ≡ None) ↔ (with_changes m list ≡ empty)))
      → IsBelow now (further at (length new.block))
      → IsAdded at tells records touches tree old new
  added-saved decide list old new root now is some root_is set grown has none low =
      let own : get new.roots tree ≡ now = ap (λ (r : Roots). get r tree) set ∙ get-with_root old.roots tree now in
      record {
        grown = grown;
        others = λ other differ. ap (λ (r : Roots). get r other) set ∙ get-with_root-other old.roots tree other now differ;
        touched = λ told. subst (λ (r : Option Address). HasTouches at records touches new.block r (get new.roots tree)) root_is
            (subst (λ (r : Option Address). HasTouches at records touches new.block root r) (sym own)
            (if-some (trie_map records root) _ (λ m e.
            if-found (trie_map records root) (λ m. trie_map (with_block (number_of at) new.block records) now ≡ Some (with_changes m list)) m e (has told)
            ∙ ap (λ (x : TrieMap). Some x) (changes-overlaid decide m touches list is))));
        unlisted = λ told differ. subst (λ (r : Option Address). IfSome (trie_map records r) (λ m. (get new.roots tree ≡ None) ↔ (overlaid m touches ≡ empty))) root_is
            (subst (λ (r : Option Address). IfSome (trie_map records root) (λ m. (r ≡ None) ↔ (overlaid m touches ≡ empty))) (sym own)
            (if-some (trie_map records root) _ (λ m e.
            subst (λ (x : TrieMap). (now ≡ None) ↔ (x ≡ empty)) (changes-overlaid decide m touches list is)
            (if-found (trie_map records root) (λ m. (now ≡ None) ↔ (with_changes m list ≡ empty)) m e (none told)))));
        untouched = λ without. absurd (some (some-list touches list is without));
        below = λ before. subst (λ (r : Option Address). IsBelow r (further at (length new.block))) (sym own) low;
      }

-- ---- all trees

module _ (at : Address) (tells : Bool) (records : RecordsAt) (touches : ℕ → TouchMap) (roots : Roots) where
  pub built-first : TouchedKeysDecide → (building : Building) → building.roots ≡ roots → Fit touches → AreNumbered roots → AreBelow at roots → AreBuilt at tells records touches roots 1 building
  built-first decide building is fit numbered below =
      let none : (tree : ℕ) → tree < 1 → touches tree ≡ empty = λ tree lt. no-touches touches tree fit (λ number. let low = number.0 in omega (arith, lt, low)) in
      record {
        touched = λ told tree lt. subst (λ (r : Roots). HasTouches at records (touches tree) building.block (get roots tree) (get r tree)) (sym is) (has-none at records (touches tree) decide building.block (get roots tree) (none tree lt) (below tree));
        unlisted = λ told tree lt some. absurd (some (none tree lt));
        later = λ tree le. ap (λ (r : Roots). get r tree) is;
        untouched = λ tree without. ap (λ (r : Roots). get r tree) is;
        numbered = subst AreNumbered (sym is) numbered;
        below = λ tree. subst (λ (r : Roots). IsBelow (get r tree) (further at (length building.block))) (sym is) (below-later at (further at (length building.block)) (get roots tree) (omega arith) (below tree));
      }

  module _ (keep : BlocksKeep) (next : ℕ) (old new : Building) (number : IsTreeNumber next) (low : AreBelow at roots) (b : AreBuilt at tells records touches roots next old) (step : IsAdded at tells records (touches next) next old new) where
    own-has : IsTrue tells → HasTouches at records (touches next) new.block (get roots next) (get new.roots next)
    own-has told = subst (λ (r : Option Address). HasTouches at records (touches next) new.block r (get new.roots next)) (b.later next (omega arith)) (step.touched told)

    own-none : IsTrue tells → IsNoneWhereEmpty records (touches next) (get roots next) (get new.roots next)
    own-none told = subst (λ (r : Option Address). IsNoneWhereEmpty records (touches next) r (get new.roots next)) (b.later next (omega arith)) (step.unlisted told)

    apart : (tree : ℕ) → tree < next → tree ≢ next
    apart tree lt e = omega (arith, lt, e)

    behind : (tree : ℕ) → suc next ≤ tree → tree ≢ next
    behind tree lt e = omega (arith, lt, e)

    pub built-next : AreBuilt at tells records touches roots (suc next) new
    built-next = record {
      touched = λ told tree lt. elim (cases_lt tree next) [
        | inl less ↦ subst (λ (r : Option Address). HasTouches at records (touches tree) new.block (get roots tree) r) (sym (step.others tree (apart tree less)))
            (has-more at records (touches tree) keep old.block new.block (get roots tree) (get old.roots tree) step.grown (b.touched told tree less))
        | inr ge ↦ let same : next ≡ tree = omega (arith, lt, ge) in subst (λ (t : ℕ). HasTouches at records (touches t) new.block (get roots t) (get new.roots t)) same (own-has told)
      ];
      unlisted = λ told tree lt. elim (cases_lt tree next) [
        | inl less ↦ subst (λ (r : Option Address). IsNoneWhereEmpty records (touches tree) (get roots tree) r) (sym (step.others tree (apart tree less))) (b.unlisted told tree less)
        | inr ge ↦ let same : next ≡ tree = omega (arith, lt, ge) in subst (λ (t : ℕ). IsNoneWhereEmpty records (touches t) (get roots t) (get new.roots t)) same (own-none told)
      ];
      later = λ tree le. step.others tree (behind tree le) ∙ b.later tree (omega (arith, le));
      untouched = λ tree none. elim (cases_eq tree next) [
        | inl same ↦ subst (λ (t : ℕ). touches t ≡ empty → get new.roots t ≡ get roots t) (sym same) (λ without. step.untouched without ∙ b.untouched next without) none
        | inr differ ↦ step.others tree differ ∙ b.untouched tree none
      ];
      numbered = λ tree some. elim (cases_eq tree next) [
        | inl same ↦ subst IsTreeNumber (sym same) number
        | inr differ ↦ b.numbered tree (subst (λ (r : Option Address). IsSome r) (step.others tree differ) some)
      ];
      below = λ tree. elim (cases_eq tree next) [
        | inl same ↦ subst (λ (t : ℕ). IsBelow (get new.roots t) (further at (length new.block))) (sym same)
            (step.below (subst (λ (r : Option Address). IsBelow r at) (sym (b.later next (omega arith))) (low next)))
        | inr differ ↦ subst (λ (r : Option Address). IsBelow r (further at (length new.block))) (sym (step.others tree differ))
            (let longer = ap length step.grown.is ∙ length-append old.block step.grown.more in
            below-later (further at (length old.block)) (further at (length new.block)) (get old.roots tree) (omega (arith, longer)) (b.below tree))
      ];
    }

  module _ (decide : TouchedKeysDecide) (keep : BlocksKeep) (building : Building) (fit : Fit touches) (low : AreBelow at roots) (b : AreBuilt at tells records touches roots 9 building) where
    beyond : (tree : ℕ) → 9 ≤ tree → touches tree ≡ empty
    beyond tree le = no-touches touches tree fit (λ number. let high = number.1 in omega (arith, le, high))

    -- each tree, with more behind
    pub built-trees : (longer : List ℕ) → HasGrown building.block longer → IsTrue tells → (tree : ℕ) → HasTouches at records (touches tree) longer (get roots tree) (get building.roots tree)
    built-trees longer grown told tree = elim (cases_lt tree 9) [
      | inl lt ↦ has-more at records (touches tree) keep building.block longer (get roots tree) (get building.roots tree) grown (b.touched told tree lt)
      | inr ge ↦ subst (λ (r : Option Address). HasTouches at records (touches tree) longer (get roots tree) r) (sym (b.later tree ge)) (has-none at records (touches tree) decide longer (get roots tree) (beyond tree ge) (low tree))
    ]

    pub built-unlisted : IsTrue tells → (tree : ℕ) → IsNoneWhereEmpty records (touches tree) (get roots tree) (get building.roots tree)
    built-unlisted told tree = elim (cases_lt tree 9) [
      | inl lt ↦ b.unlisted told tree lt
      | inr ge ↦ λ some. absurd (some (beyond tree ge))
    ]

-- ---- whether there are touches

pub not-none : (n : ℕ) → false ≡ eqb n 0 → n ≡ 0 → ⊥
not-none n differ none = let same : false ≡ true = differ ∙ ap (λ (k : ℕ). eqb k 0) none in absurd (cc same)
