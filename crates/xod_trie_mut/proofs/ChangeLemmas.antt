-- Changes one after another, and the root at their end.
use Rattle.std.proofs.Common.{◌≡◌, ◌<◌, ◌≤◌, ℕ, zero, suc, List, [], ◌∷◌, ◌++◌, length, take, get_or, Bool, true, false, cond, Option, Some, None, Result, Ok, Err, IfOk, ◌⊎◌, refl, sym, ◌∙◌, ap, subst, arith, inl, inr}
use Rattle.std.specs.Prelude.{IsSome, is_some, IsTrue, IfSome}
use Rattle.std.specs.FinMap.{get, get-empty, empty, from_entries, get-from_entries, same_map, nat_cmp-IsAntisymmetric, slice_cmp-IsAntisymmetric}
use Rattle.std.specs.List.{AllByRecursion}
use Rattle.std.specs.Option.{option_map, option_copied}
use Rattle.std.specs.Cmp.{tied_itself}
use Rattle.std.specs.Ordering.{is_eq}
use Rattle.std.specs.Cmp.Lexicographic.{nat_list_cmp_total}
use Rattle.xod_base.specs.Values.{bytes_cmp}
use Rattle.xod_block.specs.declared.address.Address.{Address}
use Rattle.xod_block.specs.Addresses.{number_of}
use Rattle.xod_block.specs.Maps.{RecordsAt, map_at}
use Rattle.xod_block.specs.Records.{FitsPart, FitsOwn}
use Rattle.xod_trie.specs.declared.branch.Branch.{Branch}
use Rattle.xod_trie.specs.Tries.{TrieMap, trie_map, value_at, value_in}
use Rattle.xod_trie.proofs.CallerLemmas.{tied, if_map, value_at-by, trie_map-more}
use Rattle.xod_trie_mut.specs.declared.change.Change.{Change}
use Rattle.xod_trie_mut.specs.declared.finger.Level.{Level}
use Rattle.xod_trie_mut.specs.declared.finger.Opened.{Opened}
use Rattle.xod_trie_mut.specs.Changes.{FitChanges, FitsPut, FitToSet, KeysFit, SetNothing, set_in, with_change, with_changes}
use Rattle.xod_trie_mut.specs.Fingers.{has_map, value_under, HasMap, IsFinger, IsClosed, AreLower, Extends}
use Rattle.xod_trie_mut.specs.Links.{IsBare}
use Rattle.xod_trie_mut.specs.Own.{AreOwn, IsRoot, with_own}
use Rattle.xod_trie_mut.specs.Settling.{IsLoaded, IsSettled}
use Rattle.xod_trie_mut.proofs.FingerLemmas.{at-root, some-map}
use Rattle.xod_trie_mut.proofs.OwnLemmas.{branch-maps, grow-extends}
use Rattle.xod_trie_mut.proofs.PutLemmas.{bare-value, get-set, same_key}

-- ---- lists of changes

pub with_changes-more : (m : TrieMap) (cs : List Change) (c : Change) → with_changes m (cs ++ c ∷ []) ≡ with_change (with_changes m cs) c
with_changes-more m [] c = refl
with_changes-more m (d ∷ cs) c = with_changes-more (with_change m d) cs c

pub mapped-more : (map : Option TrieMap) (cs : List Change) (c : Change) → option_map (λ m. with_change m c) (option_map (λ m. with_changes m cs) map) ≡ option_map (λ m. with_changes m (cs ++ c ∷ [])) map
mapped-more None cs c = refl
mapped-more (Some m) cs c = ap (λ (n : TrieMap). Some n) (sym (with_changes-more m cs c))

pub mapped-none : (map : Option TrieMap) → map ≡ option_map (λ m. with_changes m []) map
mapped-none None = refl
mapped-none (Some m) = refl

pub all-take : {A : Type 0} (P : A → Type 0) (i : ℕ) (xs : List A) → AllByRecursion P xs → AllByRecursion P (take i xs)
all-take P zero xs h = tt
all-take P (suc i) [] h = tt
all-take P (suc i) (x ∷ xs) h = (h.0, all-take P i xs h.1)

pub all-at : {A : Type 0} (P : A → Type 0) (i : ℕ) (xs : List A) (d : A) → AllByRecursion P xs → i < length xs → P (get_or xs i d)
all-at P i [] d h lt = absurd (omega arith)
all-at P zero (x ∷ xs) d h lt = h.0
all-at P (suc i) (x ∷ xs) d h lt = all-at P i xs d h.1 (omega (arith, lt))

-- ---- keys that fit

set-fits : (m : TrieMap) (key : List ℕ) (w : Option (List ℕ)) → FitsPut key w → KeysFit m → KeysFit (set_in m key w)
set-fits m key None fits all k some = elim (tied k key) as (λ q. IsSome (cond q None (get m k)) → FitsPart k) [
  | true ↦ λ s. absurd cc
  | false ↦ λ s. all k s
] (ap is_some (sym (get-set m key None k)) ∙ some)
set-fits m key (Some v) fits all k some = elim (tied k key) as (λ q. tied k key ≡ q → IsSome (cond q (Some v) (get m k)) → FitsPart k) [
  | true ↦ λ t s. subst FitsPart (sym (same_key k key t)) fits.0
  | false ↦ λ t s. all k s
] refl (ap is_some (sym (get-set m key (Some v) k)) ∙ some)

pub changes-fit : (m : TrieMap) (cs : List Change) → FitToSet cs → KeysFit m → KeysFit (with_changes m cs)
changes-fit m [] fits all = all
changes-fit m (c ∷ cs) fits all = changes-fit (with_change m c) cs fits.1 (set-fits m c.key.now (option_copied c.value) fits.0 all)

pub some-fit : (map : Option TrieMap) (cs : List Change) → FitToSet cs → IfSome map KeysFit → IfSome (option_map (λ m. with_changes m cs) map) KeysFit
some-fit None cs fits all = tt
some-fit (Some m) cs fits all = changes-fit m cs fits all

put-fits : (key : List ℕ) (w : Option (List ℕ)) → FitsPart key → FitsOwn w → FitsPut key w
put-fits key None k v = tt
put-fits key (Some value) k v = (k, v)

pub fit-to-set : (cs : List Change) → FitChanges cs → FitToSet cs
fit-to-set [] h = tt
fit-to-set (c ∷ cs) h = (put-fits c.key.now (option_copied c.value) h.0.0 h.0.1, fit-to-set cs h.1)

pub some-still : (map : Option TrieMap) (cs : List Change) → IsSome map → IsSome (option_map (λ m. with_changes m cs) map)
some-still None cs some = absurd cc
some-still (Some m) cs some = refl

-- ---- changes that set nothing

same_get : (m n : TrieMap) → ((key : List ℕ) → get m key ≡ get n key) → m ≡ n
same_get m n is = same_map nat_list_cmp_total (slice_cmp-IsAntisymmetric nat_cmp-IsAntisymmetric) m n is

set-nothing : (m : TrieMap) (key : List ℕ) (w : Option (List ℕ)) → get m key ≡ w → set_in m key w ≡ m
set-nothing m key w is = same_get (set_in m key w) m (λ k. get-set m key w k ∙ elim (tied k key) as (λ q. tied k key ≡ q → cond q w (get m k) ≡ get m k) [
  | true ↦ λ t. sym is ∙ ap (get m) (sym (same_key k key t))
  | false ↦ λ t. refl
] refl)

pub changes-nothing : (m : TrieMap) (cs : List Change) → SetNothing m cs → with_changes m cs ≡ m
changes-nothing m [] h = refl
changes-nothing m (c ∷ cs) h = ap (λ (n : TrieMap). with_changes n cs) (set-nothing m c.key.now (option_copied c.value) h.0) ∙ changes-nothing m cs h.1

-- ---- the map under a root

pub under-map : (S : RecordsAt) (at : Option Address) (m : TrieMap) → IsTrue (has_map S at) → ((key : List ℕ) → get m key ≡ value_under S at key) → trie_map S at ≡ Some m
under-map S None m has is = ap (λ (x : TrieMap). Some x) (same_get empty m (λ key. get-empty bytes_cmp key ∙ sym (is key)))
under-map S (Some a) m has is = elim (map_at S (number_of a)) as (λ o. is_some o ≡ true → ((key : List ℕ) → get m key ≡ value_in o key) → option_map (λ pairs. from_entries pairs) o ≡ Some m) [
  | None ↦ λ has is. absurd cc
  | Some pairs ↦ λ has is. ap (λ (x : TrieMap). Some x) (same_get (from_entries pairs) m (λ key. get-from_entries nat_list_cmp_total pairs key ∙ sym (is key)))
] has is

-- where all is left, and nothing was changed
pub closed-same : (tells : Bool) (R : RecordsAt) (base root : Option Address) (own : List Branch) (ls : List Level) (o : Opened) (map : Option TrieMap) → IsFinger tells R base root own ls o map → o.taken ≤ 0 → o.changed ≡ false → IsRoot base (length own) root → IsClosed tells R base own root map
closed-same tells R base root own ls o map f low un root_is = record {
  own_are = f.own_are;
  root_is = root_is;
  stands = λ told. some-map (HasMap (with_own own R) root ls o) (λ m. trie_map (with_own own R) root ≡ Some m) map (λ m h.
      let top = subst (λ (levels : List Level). HasMap (with_own own R) root levels o m) (at-root base (length own) ls o f.held low) h in
      under-map (with_own own R) root m top.root_has (λ k. sym (top.ready.same un k ∙ top.value k))) (f.stands told);
}

-- and where it was
pub closed-settled : (tells : Bool) (R : RecordsAt) (base root : Option Address) (own new : List Branch) (ls : List Level) (o : Opened) (at : Option Address) (map : Option TrieMap) → IsFinger tells R base root own ls o map → o.taken ≤ 0 → IsSettled tells R base own new o.branch at → IsClosed tells R base new at map
closed-settled tells R base root own new ls o at map f low s = record {
  own_are = s.own;
  root_is = s.root;
  stands = λ told. some-map (HasMap (with_own own R) root ls o) (λ m. trie_map (with_own new R) at ≡ Some m) map (λ m h.
      let top = subst (λ (levels : List Level). HasMap (with_own own R) root levels o m) (at-root base (length own) ls o f.held low) h in
      let st = s.stands told top.ready.maps in
      under-map (with_own new R) at m st.map (λ k. sym (st.value k ∙ top.value k))) (f.stands told);
}

-- ---- the branch under a root

pub opened-none : (tells : Bool) (R : RecordsAt) (base root : Option Address) (own : List Branch) (ls : List Level) (o : Opened) → AreOwn base own → root ≡ None → ls ≡ [] → o.branch ≡ record { key = []; value = None; children = [] } → o.taken ≡ 0 → IsFinger tells R base root own ls o (trie_map (with_own own R) root)
opened-none tells R base root own ls o each none no_levels is taken =
    let W = with_own own R in
    let bare : IsBare o.branch = record { value = ap (λ (b : Branch). b.value) is; children = ap (λ (b : Branch). b.children) is } in
    let all : IsFinger tells R base None own [] o (trie_map W None) = record {
      own_are = each;
      held = record { lower = subst (AreLower base (length own)) (sym bare.children) tt; taken_is = taken };
      stands = λ told. record {
        root_has = refl;
        ready = record { maps = subst (λ cs. AllByRecursion (λ child. IsSome (map_at W (number_of child.1))) cs) (sym bare.children) tt; same = λ un k. sym (bare-value (value_at W) o.branch k bare) };
        value = λ k. bare-value (value_at W) o.branch k bare ∙ sym (get-empty bytes_cmp k);
      };
    } in
    subst (λ (r : Option Address). IsFinger tells R base r own ls o (trie_map W r)) (sym none) (subst (λ (levels : List Level). IsFinger tells R base None own levels o (trie_map W None)) (sym no_levels) all)

pub opened-some : (tells : Bool) (R : RecordsAt) (base root : Option Address) (own : List Branch) (ls : List Level) (o : Opened) (at : Address) → AreOwn base own → root ≡ Some at → ls ≡ [] → IsLoaded tells R base own at o.branch → o.taken ≡ 0 → IsFinger tells R base root own ls o (trie_map (with_own own R) root)
opened-some tells R base root own ls o at each is no_levels loaded taken =
    let W = with_own own R in
    let all : IsFinger tells R base (Some at) own [] o (trie_map W (Some at)) = record {
      own_are = each;
      held = record { lower = loaded.lower; taken_is = taken };
      stands = λ told. if_map W at (HasMap W (Some at) [] o) (λ some m values.
          let here = loaded.here told in
          record {
            root_has = some;
            ready = record { maps = branch-maps W (number_of at) o.branch some here; same = λ un k. value_at-by W (number_of at) o.branch k some here };
            value = λ k. sym (value_at-by W (number_of at) o.branch k some here) ∙ sym (values k);
          });
    } in
    subst (λ (r : Option Address). IsFinger tells R base r own ls o (trie_map W r)) (sym is) (subst (λ (levels : List Level). IsFinger tells R base (Some at) own levels o (trie_map W (Some at))) (sym no_levels) all)

pub if_some : (o : Option TrieMap) (P : TrieMap → Type 0) → ((m : TrieMap) → o ≡ Some m → P m) → IfSome o P
if_some None P f = tt
if_some (Some m) P f = f m refl

-- ---- what is answered

is-some : (m n : TrieMap) → Some m ≡ Some n → m ≡ n
is-some m n e = cc e

-- where the root stays and no record goes, the map stays
pub kept-map : (own new : List Branch) (R : RecordsAt) (root at : Option Address) (m : TrieMap) (f : TrieMap → TrieMap) → Extends own new → at ≡ root → trie_map (with_own own R) root ≡ Some m → IfSome (option_map f (trie_map (with_own own R) root)) (λ n. trie_map (with_own new R) at ≡ Some n) → f m ≡ m
kept-map own new R root at m f x same is h =
    let made : trie_map (with_own new R) at ≡ Some (f m) = subst (λ (o : Option TrieMap). IfSome (option_map f o) (λ n. trie_map (with_own new R) at ≡ Some n)) is h in
    is-some (f m) m (sym made ∙ ap (λ (a : Option Address). trie_map (with_own new R) a) same ∙ stays root is)
  where
    stays : (r : Option Address) → trie_map (with_own own R) r ≡ Some m → trie_map (with_own new R) r ≡ Some m
    stays None e = e
    stays (Some a) e =
        let g = grow-extends own new R x in
        trie_map-more (with_own own R) (with_own new R) a (λ below item le i. g.stays below item i) (ap is_some e) ∙ e

pub both-some : (P Q S : TrieMap → Type 0) (o : Option TrieMap) → ((m : TrieMap) → P m → Q m → S m) → IfSome o P → IfSome o Q → IfSome o S
both-some P Q S None f p q = tt
both-some P Q S (Some m) f p q = f m p q

none_or : (o : Option (List ℕ)) → (o ≡ None) ⊎ (is_some o ≡ true)
none_or None = inl refl
none_or (Some v) = inr refl

gone : (m : TrieMap) (key : List ℕ) → set_in m key None ≡ m → is_some (get m key) ≡ false
gone m key e = ap is_some (ap (λ (n : TrieMap). get n key) (sym e) ∙ get-set m key None key ∙ ap (λ (q : Bool). cond q None (get m key)) (ap is_eq (tied_itself nat_list_cmp_total key)))

told_so : (m : TrieMap) (key : List ℕ) (t : Bool) → (t ≡ false → set_in m key None ≡ m) → is_some (get m key) ≡ true → t ≡ true
told_so m key true f some = refl
told_so m key false f some = let e : true ≡ false = sym some ∙ gone m key (f refl) in absurd cc

-- a removal changed something exactly where the key was there
pub was-there : {E : Type 0} (m : TrieMap) (key : List ℕ) (r : Result Bool E) (P : Bool → Type 0) → IfOk r (λ told. told ≡ false → set_in m key None ≡ m) → (get m key ≡ None → IfOk r (λ told. P told × (told ≡ false))) → IfOk r (λ told. told ≡ is_some (get m key))
was-there m key (Err e) P h k = tt
was-there m key (Ok told) P h k = elim (none_or (get m key)) [
  | inl none ↦ (k none).1 ∙ sym (ap is_some none)
  | inr some ↦ told_so m key told h some ∙ sym some
]
