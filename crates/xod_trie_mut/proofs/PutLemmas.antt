-- The value of one key set or removed where the way to it ends.
use Rattle.std.proofs.Common.{◌≡◌, ◌<◌, ℕ, ◌+◌, List, [], ◌∷◌, ◌++◌, length, take, drop, get_or, Bool, true, false, cond, eqb, Option, Some, None, refl, sym, ◌∙◌, ap, subst, arith}
use mathlib.Core.Logic.{◌≢◌}
use Rattle.std.specs.Prelude.{IsSome, is_some, IsTrue, IfSome}
use Rattle.std.specs.FinMap.{get, get-insert, get-remove, nat_cmp-IsAntisymmetric, slice_cmp-IsAntisymmetric}
use Rattle.std.specs.Option.{option_map}
use Rattle.std.specs.Cmp.{Equal-is}
use Rattle.std.specs.Cmp.Lexicographic.{nat_list_cmp_total}
use Rattle.std.proofs.Math.ListN.{get_or-append}
use Rattle.std.proofs.Math.Seq.{get_or-append_seam}
use Rattle.std.proofs.lemmas.Bool.Decides.{nat_tests}
use Rattle.std.proofs.lemmas.List.{append-nil, length-append, take-append-drop}
use Rattle.xod_base.specs.Values.{bytes_cmp}
use Rattle.xod_block.specs.declared.address.Address.{Address}
use Rattle.xod_block.specs.Addresses.{number_of}
use Rattle.xod_block.specs.Maps.{RecordsAt, map_at}
use Rattle.xod_block.specs.Records.{Link}
use Rattle.xod_trie.specs.declared.branch.Branch.{Branch}
use Rattle.xod_trie.specs.Branches.{behind, child_of, value_in_child, value_behind, value_by}
use Rattle.xod_trie.specs.Tries.{TrieMap, value_at}
use Rattle.xod_trie.proofs.CallerLemmas.{tied, tied_behind, tied-behind}
use Rattle.xod_trie_mut.specs.declared.finger.Level.{Level}
use Rattle.xod_trie_mut.specs.declared.finger.Opened.{Opened}
use Rattle.xod_trie_mut.specs.declared.own_branch.Halves.{Halves}
use Rattle.xod_trie_mut.specs.Changes.{set_in}
use Rattle.xod_trie_mut.specs.Fingers.{Values, Below, ValuesFit, has_map, value_under, HaveMaps, value_beside, value_past, path_of, AreLower, IsReady, HasMap, IsFinger, StaysAt, Extends}
use Rattle.xod_trie_mut.specs.Links.{IsBare, IsCut, leaf_of, new_link, relinked}
use Rattle.xod_trie_mut.specs.Own.{AreOwn, IsLower, with_own}
use Rattle.xod_trie_mut.specs.Settling.{IsAlike, IsOpened, IsSettled}
use Rattle.xod_trie_mut.proofs.FingerLemmas.{past-link, past-child, past-sets, along-append, along-grow, along-sets, along-at, held-push, held-more, held-replace, ready-push, ready-move, ready-levels, ready-last, root-grows, has_new, root_new}
use Rattle.xod_trie_mut.proofs.JoinLemmas.{further, behind-front, behind-whole, behind-join}
use Rattle.xod_trie_mut.proofs.LinkLemmas.{set_link-all}
use Rattle.xod_trie_mut.proofs.OwnLemmas.{grow-extends, extends-length, extends-none}

-- ---- finite maps

pub same_key : (x y : List ℕ) → tied x y ≡ true → x ≡ y
same_key x y e = slice_cmp-IsAntisymmetric nat_cmp-IsAntisymmetric x y ((Equal-is (bytes_cmp x y)).0 e)

pub get-set : (m : TrieMap) (key : List ℕ) (w : Option (List ℕ)) (k : List ℕ) → get (set_in m key w) k ≡ cond (tied k key) w (get m k)
get-set m key None k = get-remove nat_list_cmp_total m key k
get-set m key (Some v) k = get-insert nat_list_cmp_total m key v k

pub some-mapped : (P Q : TrieMap → Type 0) (f : TrieMap → TrieMap) (map : Option TrieMap) → ((m : TrieMap) → P m → Q (f m)) → IfSome map P → IfSome (option_map f map) Q
some-mapped P Q f None g h = tt
some-mapped P Q f (Some m) g h = g m h

-- ---- what is in hand last is another

module _ (tells : Bool) (R : RecordsAt) (base root : Option Address) (own new : List Branch) (ls : List Level) (o p : Opened) (map : Option TrieMap) (f : IsFinger tells R base root own ls o map) (x : Extends own new) (each : AreOwn base new) (lower : AreLower base (length new) p.branch.children) (taken : p.taken ≡ o.taken) where
  -- with the same values
  pub refocus-alike : (IsTrue tells → (place : Option Address) → IsTrue (has_map (with_own own R) place) → IsReady (with_own own R) place o → IsReady (with_own new R) place p) → (IsTrue tells → HaveMaps (with_own own R) o.branch.children → IsAlike (with_own own R) (with_own new R) o.branch p.branch) → IsFinger tells R base root new ls p map
  refocus-alike ready alike = record {
    own_are = each;
    held = held-replace base (length new) 0 ls o p (held-more base (length own) (length new) 0 ls o (extends-length own new x) f.held) lower taken;
    stands = λ told. some-same map (λ m h.
        let U = with_own own R in
        let V = with_own new R in
        let g = grow-extends own new R x in
        let maps = ready-last U root ls o h.ready in
        record {
          root_has = root-grows U V g root h.root_has;
          ready = ready-move U V g root ls o p h.root_has h.ready (ready told);
          value = λ k. along-grow U V g ls (value_by (value_at V) p.branch) (value_by (value_at U) o.branch) (ready-levels U root ls o h.ready) (alike told maps).value k ∙ h.value k;
        }) (f.stands told);
  }
    where
      some-same : (map : Option TrieMap) → ((m : TrieMap) → HasMap (with_own own R) root ls o m → HasMap (with_own new R) root ls p m) → IfSome map (HasMap (with_own own R) root ls o) → IfSome map (HasMap (with_own new R) root ls p)
      some-same None g h = tt
      some-same (Some m) g h = g m h

  -- with another value at one key
  pub refocus-sets : (rest : List ℕ) (w : Option (List ℕ)) → p.changed ≡ true → (IsTrue tells → HaveMaps (with_own own R) o.branch.children → HaveMaps (with_own new R) p.branch.children) → (IsTrue tells → HaveMaps (with_own own R) o.branch.children → (k : List ℕ) → value_by (value_at (with_own new R)) p.branch k ≡ cond (tied k rest) w (value_by (value_at (with_own own R)) o.branch k)) → IsFinger tells R base root new ls p (option_map (λ m. set_in m (path_of ls ++ rest) w) map)
  refocus-sets rest w changed have sets = record {
    own_are = each;
    held = held-replace base (length new) 0 ls o p (held-more base (length own) (length new) 0 ls o (extends-length own new x) f.held) lower taken;
    stands = λ told. some-mapped (HasMap (with_own own R) root ls o) (HasMap (with_own new R) root ls p) (λ m. set_in m (path_of ls ++ rest) w) map (λ m h.
        let U = with_own own R in
        let V = with_own new R in
        let g = grow-extends own new R x in
        let maps = ready-last U root ls o h.ready in
        record {
          root_has = root-grows U V g root h.root_has;
          ready = ready-move U V g root ls o p h.root_has h.ready (λ place has r. record { maps = have told r.maps; same = λ un k. (let never : true ≡ false = sym changed ∙ un in absurd cc) });
          value = λ k.
              along-grow U V g ls (value_by (value_at V) p.branch) (value_by (value_at V) p.branch) (ready-levels U root ls o h.ready) (λ r. refl) k
              ∙ along-sets (value_at U) ls (value_by (value_at U) o.branch) (value_by (value_at V) p.branch) rest w (sets told maps) k
              ∙ ap (cond (tied k (path_of ls ++ rest)) w) (h.value k)
              ∙ sym (get-set m (path_of ls ++ rest) w k);
        }) (f.stands told);
  }

-- it has the value already
pub kept : (tells : Bool) (R : RecordsAt) (base root : Option Address) (own : List Branch) (ls : List Level) (o : Opened) (map : Option TrieMap) (rest : List ℕ) (w : Option (List ℕ)) → IsFinger tells R base root own ls o map → value_by (value_at (with_own own R)) o.branch rest ≡ w → IsFinger tells R base root own ls o (option_map (λ m. set_in m (path_of ls ++ rest) w) map)
kept tells R base root own ls o map rest w f is = record {
  own_are = f.own_are;
  held = f.held;
  stands = λ told. some-mapped (HasMap (with_own own R) root ls o) (HasMap (with_own own R) root ls o) (λ m. set_in m (path_of ls ++ rest) w) map (λ m h. record {
    root_has = h.root_has;
    ready = h.ready;
    value = λ k. h.value k ∙ there m h k ∙ sym (get-set m (path_of ls ++ rest) w k);
  }) (f.stands told);
}
  where
    there : (m : TrieMap) → HasMap (with_own own R) root ls o m → (k : List ℕ) → get m k ≡ cond (tied k (path_of ls ++ rest)) w (get m k)
    there m h k = elim (tied k (path_of ls ++ rest)) as (λ q. tied k (path_of ls ++ rest) ≡ q → get m k ≡ cond q w (get m k)) [
      | true ↦ λ t. ap (get m) (same_key k (path_of ls ++ rest) t) ∙ sym (h.value (path_of ls ++ rest)) ∙ along-at (value_at (with_own own R)) ls (value_by (value_at (with_own own R)) o.branch) rest ∙ is
      | false ↦ λ t. refl
    ] refl

-- ---- values of one branch

tied-on : (front key whole rest : List ℕ) → behind front whole ≡ Some rest → tied key whole ≡ tied_behind (behind front key) rest
tied-on front key whole rest e = ap (tied key) (behind-whole front whole rest e) ∙ tied-behind front rest key

valued_behind : (f : Below) (v w : Option (List ℕ)) (cs : List Link) (o : Option (List ℕ)) → value_behind f w cs o ≡ cond (tied_behind o []) w (value_behind f v cs o)
valued_behind f v w cs None = refl
valued_behind f v w cs (Some []) = refl
valued_behind f v w cs (Some (c ∷ r)) = refl

pub valued-sets : (f : Below) (b : Branch) (rest : List ℕ) (w : Option (List ℕ)) → behind b.key rest ≡ Some [] → (k : List ℕ) → value_by f (record b { value = w }) k ≡ cond (tied k rest) w (value_by f b k)
valued-sets f b rest w on k = valued_behind f b.value w b.children (behind b.key k) ∙ ap (λ (q : Bool). cond q w (value_by f b k)) (sym (tied-on b.key k rest [] on))

leaf_behind : (f : Below) (v : List ℕ) (o : Option (List ℕ)) → value_behind f (Some v) [] o ≡ cond (tied_behind o []) (Some v) None
leaf_behind f v None = refl
leaf_behind f v (Some []) = refl
leaf_behind f v (Some (c ∷ r)) = refl

leaf-value : (f : Below) (key v k : List ℕ) → value_by f (leaf_of key v) k ≡ cond (tied k key) (Some v) None
leaf-value f key v k = leaf_behind f v (behind key k) ∙ ap (λ (q : Bool). cond q (Some v) None) (sym (tied-behind key [] k) ∙ ap (tied k) (append-nil key))

bare_behind : (f : Below) (o : Option (List ℕ)) → value_behind f None [] o ≡ None
bare_behind f None = refl
bare_behind f (Some []) = refl
bare_behind f (Some (x ∷ r)) = refl

pub bare-value : (f : Below) (b : Branch) (k : List ℕ) → IsBare b → value_by f b k ≡ None
bare-value f b k bare = ap (λ (v : Option (List ℕ)). value_behind f v b.children (behind b.key k)) bare.value ∙ ap (λ (cs : List Link). value_behind f None cs (behind b.key k)) bare.children ∙ bare_behind f (behind b.key k)

pub own-at : (f : Below) (b : Branch) (rest : List ℕ) → behind b.key rest ≡ Some [] → value_by f b rest ≡ b.value
own-at f b rest on = ap (value_behind f b.value b.children) on

absent_behind : (f : Below) (v : Option (List ℕ)) (cs : List Link) (o : Option (List ℕ)) → (o ≡ Some [] → v ≡ None) → ((x : ℕ) (r : List ℕ) → o ≡ Some (x ∷ r) → child_of x cs ≡ None) → value_behind f v cs o ≡ None
absent_behind f v cs None a b = refl
absent_behind f v cs (Some []) a b = a refl
absent_behind f v cs (Some (x ∷ r)) a b = ap (λ (o : Option Address). value_in_child f o r) (b x r refl)

pub absent : (f : Below) (b : Branch) (rest : List ℕ) → StaysAt b rest → (behind b.key rest ≡ Some [] → b.value ≡ None) → value_by f b rest ≡ None
absent f b rest stays no_value = absent_behind f b.value b.children (behind b.key rest) no_value stays

pub not_behind : (f : Below) (b : Branch) (rest v : List ℕ) → value_by f b rest ≡ Some v → IsSome (behind b.key rest)
not_behind f b rest v e = elim (behind b.key rest) as (λ o. value_behind f b.value b.children o ≡ Some v → IsSome o) [
  | None ↦ λ e. absurd cc
  | Some r ↦ λ e. refl
] e

-- ---- the leaf of a key in place of nothing

pub planted-finger : (tells : Bool) (R : RecordsAt) (base root : Option Address) (own : List Branch) (ls : List Level) (o p : Opened) (map : Option TrieMap) (rest v : List ℕ) → IsFinger tells R base root own ls o map → IsBare o.branch → p.branch ≡ leaf_of rest v → p.changed ≡ true → p.taken ≡ o.taken → IsFinger tells R base root own ls p (option_map (λ m. set_in m (path_of ls ++ rest) (Some v)) map)
planted-finger tells R base root own ls o p map rest v f bare is changed taken =
    let none : p.branch.children ≡ [] = ap (λ (b : Branch). b.children) is in
    let W = with_own own R in
    refocus-sets tells R base root own own ls o p map f (extends-none own) f.own_are (subst (AreLower base (length own)) (sym none) tt) taken rest (Some v) changed
    (λ told maps. subst (HaveMaps W) (sym none) tt)
    (λ told maps k. ap (λ (b : Branch). value_by (value_at W) b k) is ∙ leaf-value (value_at W) rest v k ∙ ap (cond (tied k rest) (Some v)) (sym (bare-value (value_at W) o.branch k bare)))

-- another value at the branch itself
pub valued-finger : (tells : Bool) (R : RecordsAt) (base root : Option Address) (own : List Branch) (ls : List Level) (o p : Opened) (map : Option TrieMap) (rest : List ℕ) (w : Option (List ℕ)) → IsFinger tells R base root own ls o map → AreLower base (length own) o.branch.children → behind o.branch.key rest ≡ Some [] → p.branch ≡ record o.branch { value = w } → p.changed ≡ true → p.taken ≡ o.taken → IsFinger tells R base root own ls p (option_map (λ m. set_in m (path_of ls ++ rest) w) map)
valued-finger tells R base root own ls o p map rest w f lower on is changed taken =
    let same : p.branch.children ≡ o.branch.children = ap (λ (b : Branch). b.children) is in
    let W = with_own own R in
    refocus-sets tells R base root own own ls o p map f (extends-none own) f.own_are (subst (AreLower base (length own)) (sym same) lower) taken rest w changed
    (λ told maps. subst (HaveMaps W) (sym same) maps)
    (λ told maps k. ap (λ (b : Branch). value_by (value_at W) b k) is ∙ valued-sets (value_at W) o.branch rest w on k)

-- ---- a new leaf under a byte without a child

module _ (tells : Bool) (R : RecordsAt) (base root : Option Address) (own : List Branch) (ls downs : List Level) (o new : Opened) (map : Option TrieMap) (rest left v : List ℕ) (x : ℕ) (f : IsFinger tells R base root own ls o map) (on : behind o.branch.key rest ≡ Some (x ∷ left)) (stays : StaysAt o.branch rest) (is : new.branch ≡ leaf_of left v) (changed : new.changed ≡ true) (taken : new.taken ≡ o.taken + length o.branch.key + 1) where
  leaf_past : (W : RecordsAt) (k : List ℕ) → value_past (value_at W) o.branch x (value_by (value_at W) new.branch) k ≡ cond (tied k rest) (Some v) (value_by (value_at W) o.branch k)
  leaf_past W k =
      let none : child_of x o.branch.children ≡ None = stays x left on in
      past-sets (value_at W) o.branch x (λ r. None) (value_by (value_at W) new.branch) left (Some v) (λ r. ap (λ (b : Branch). value_by (value_at W) b r) is ∙ leaf-value (value_at W) left v r) k
      ∙ ap (λ (key : List ℕ). cond (tied k key) (Some v) (value_past (value_at W) o.branch x (λ r. None) k)) (sym (behind-whole o.branch.key rest (x ∷ left) on))
      ∙ ap (cond (tied k rest) (Some v)) (past-child W o.branch x (λ r. None) (λ r. sym (ap (λ (a : Option Address). value_under W a r) none)) k)

  pub grown-finger : downs ≡ ls ++ record { opened = o; byte = x } ∷ [] → IsFinger tells R base root own downs new (option_map (λ m. set_in m (path_of ls ++ rest) (Some v)) map)
  grown-finger put =
      let none : new.branch.children ≡ [] = ap (λ (b : Branch). b.children) is in
      let l : Level = record { opened = o; byte = x } in
      let U = with_own own R in
      subst (λ (levels : List Level). IsFinger tells R base root own levels new (option_map (λ m. set_in m (path_of ls ++ rest) (Some v)) map)) (sym put) (record {
        own_are = f.own_are;
        held = held-push base (length own) 0 ls l new f.held (record { lower = subst (AreLower base (length own)) (sym none) tt; taken_is = taken });
        stands = λ told. some-mapped (HasMap U root ls o) (HasMap U root (ls ++ l ∷ []) new) (λ m. set_in m (path_of ls ++ rest) (Some v)) map (λ m h. record {
          root_has = h.root_has;
          ready = ready-push U root ls l new h.ready (record { maps = subst (HaveMaps U) (sym none) tt; same = λ un k. (let never : true ≡ false = sym changed ∙ un in absurd cc) });
          value = λ k.
              ap (λ (w : Values). w k) (along-append (value_at U) ls (l ∷ []) (value_by (value_at U) new.branch))
              ∙ along-sets (value_at U) ls (value_by (value_at U) o.branch) (value_past (value_at U) o.branch x (value_by (value_at U) new.branch)) rest (Some v) (leaf_past U) k
              ∙ ap (cond (tied k (path_of ls ++ rest)) (Some v)) (h.value k)
              ∙ sym (get-set m (path_of ls ++ rest) (Some v) k);
        }) (f.stands told);
      })

-- ---- a branch cut in two

upper_beside : (f : Below) (x : ℕ) (b back : List ℕ) (v : Option (List ℕ)) (cs : List Link) (o : Option (List ℕ)) → value_beside f x (λ r. value_behind f v cs (behind back r)) None [] o ≡ value_behind f v cs (further x back o)
upper_beside f x b back v cs None = refl
upper_beside f x b back v cs (Some []) = refl
upper_beside f x b back v cs (Some (y ∷ r)) = elim (eqb x y) as (λ q. cond q (value_behind f v cs (behind back r)) None ≡ value_behind f v cs (cond q (behind back r) None)) [
  | true ↦ refl
  | false ↦ refl
]

-- what is left of it under the byte has its values
pub cut-at : (f : Below) (b : Branch) (count : ℕ) (h : Halves) → IsCut b count h → (k : List ℕ) → value_by f b (h.upper.key ++ h.byte ∷ k) ≡ value_by f h.lower k
cut-at f b count h c k =
    let yes : eqb h.byte h.byte ≡ true = grind (arith, nat_tests) in
    ap (λ (key : List ℕ). value_behind f b.value b.children (behind key (h.upper.key ++ h.byte ∷ k))) c.whole
    ∙ ap (value_behind f b.value b.children) (behind-join h.upper.key h.byte h.lower.key (h.upper.key ++ h.byte ∷ k) ∙ ap (further h.byte h.lower.key) (behind-front h.upper.key (h.byte ∷ k)))
    ∙ ap (λ (q : Bool). value_behind f b.value b.children (cond q (behind h.lower.key k) None)) yes
    ∙ sym (ap (λ (l : Branch). value_by f l k) c.lower)

pub cut-fits : (f : Below) (b : Branch) (count : ℕ) (h : Halves) → IsCut b count h → ValuesFit (value_by f b) → ValuesFit (value_by f h.lower)
cut-fits f b count h c fits k some =
    let whole = fits (h.upper.key ++ h.byte ∷ k) (ap is_some (cut-at f b count h c k) ∙ some) in
    let n = length-append h.upper.key (h.byte ∷ k) in
    omega (arith, whole, n)

pub cut-lower : (base : Option Address) (n : ℕ) (b : Branch) (count : ℕ) (h : Halves) → IsCut b count h → AreLower base n b.children → AreLower base n h.lower.children
cut-lower base n b count h c lower = subst (AreLower base n) (sym (ap (λ (l : Branch). l.children) c.lower)) lower

pub cut-maps : (W : RecordsAt) (b : Branch) (count : ℕ) (h : Halves) → IsCut b count h → HaveMaps W b.children → HaveMaps W h.lower.children
cut-maps W b count h c maps = subst (HaveMaps W) (sym (ap (λ (l : Branch). l.children) c.lower)) maps

pub cut-opened : (tells : Bool) (R : RecordsAt) (base : Option Address) (own new : List Branch) (o made : Opened) (count : ℕ) (h : Halves) (at : Option Address) → IsCut o.branch count h → IsSettled tells R base own new h.lower at → Extends own new → made.branch ≡ relinked h.upper h.byte at → made.changed ≡ true → made.taken ≡ o.taken → IsOpened tells R base own new o made
cut-opened tells R base own new o made count h at c s x is changed taken =
    let U = with_own own R in
    let V = with_own new R in
    let front : Branch = record { key = h.upper.key; value = None; children = [] } in
    let top : made.branch ≡ relinked front h.byte at = is ∙ ap (λ (b : Branch). relinked b h.byte at) c.upper in
    let alike : IsTrue tells → HaveMaps U o.branch.children → IsAlike U V o.branch made.branch = λ told maps.
    let st = s.stands told (cut-maps U o.branch count h c maps) in
    subst (IsAlike U V o.branch) (sym top) (record {
      maps = set_link-all (λ child. IsSome (map_at V (number_of child.1))) h.byte at (has_new V h.byte at st.map) [] tt;
      value = λ k.
          past-link U V (grow-extends own new R x) front h.byte at (λ r. value_behind (value_at U) o.branch.value o.branch.children (behind h.lower.key r)) tt refl (λ r. st.value r ∙ ap (λ (l : Branch). value_by (value_at U) l r) c.lower) k
          ∙ upper_beside (value_at U) h.byte h.upper.key h.lower.key o.branch.value o.branch.children (behind h.upper.key k)
          ∙ ap (value_behind (value_at U) o.branch.value o.branch.children) (sym (behind-join h.upper.key h.byte h.lower.key k))
          ∙ ap (λ (key : List ℕ). value_behind (value_at U) o.branch.value o.branch.children (behind key k)) (sym c.whole);
    }) in
    record {
      own_are = s.own;
      lower = subst (AreLower base (length new)) (sym (ap (λ (b : Branch). b.children) top)) (set_link-all (λ child. IsLower base (length new) child.1) h.byte at (root_new base (length new) at s.root) [] tt);
      taken_same = taken;
      ready = λ told place has r. record { maps = (alike told r.maps).maps; same = λ un k. (let never : true ≡ false = sym changed ∙ un in absurd cc) };
      alike = alike;
    }

-- ---- common fronts

pub front-behind : (front key rest : List ℕ) (count : ℕ) → count ≡ length front → take count key ≡ front → take count key ≡ take count rest → behind front rest ≡ Some (drop count rest)
front-behind front key rest count n is same =
    ap (λ (l : List ℕ). behind l rest) (sym is ∙ same)
    ∙ ap (behind (take count rest)) (sym (take-append-drop count rest))
    ∙ behind-front (take count rest) (drop count rest)

longer : (xs : List ℕ) (y : ℕ) (ys : List ℕ) → length xs < length (xs ++ y ∷ ys)
longer xs y ys = let e = length-append xs (y ∷ ys) in omega (arith, e)

one-child : (byte x : ℕ) (at : Option Address) → (byte ≡ x → ⊥) → child_of x (new_link byte at) ≡ None
one-child byte x None ne = refl
one-child byte x (Some a) ne = let no : eqb byte x ≡ false = grind (arith, nat_tests, ne) in ap (λ (q : Bool). cond q (Some a) None) no

pub cut-stays : (b : Branch) (count : ℕ) (h : Halves) (rest : List ℕ) (at : Option Address) (made : Branch) → IsCut b count h → made ≡ relinked h.upper h.byte at → (count < length b.key → count < length rest → (d : ℕ) → get_or b.key count d ≢ get_or rest count d)
    → (x : ℕ) (left : List ℕ) → behind made.key rest ≡ Some (x ∷ left) → child_of x made.children ≡ None
cut-stays b count h rest at made c is apart x left on =
    let front = h.upper.key in
    let top : made ≡ relinked (record { key = front; value = None; children = [] }) h.byte at = is ∙ ap (λ (u : Branch). relinked u h.byte at) c.upper in
    let there : rest ≡ front ++ x ∷ left = behind-whole front rest (x ∷ left) (ap (λ (m : Branch). behind m.key rest) (sym top) ∙ on) in
    let n = c.front in
    let k : get_or b.key count 0 ≡ h.byte = ap (λ (l : List ℕ). get_or l count 0) c.whole ∙ ap (λ (i : ℕ). get_or (front ++ h.byte ∷ h.lower.key) i 0) (sym n) ∙ get_or-append_seam front h.byte h.lower.key 0 in
    let r : get_or rest count 0 ≡ x = ap (λ (l : List ℕ). get_or l count 0) there ∙ ap (λ (i : ℕ). get_or (front ++ x ∷ left) i 0) (sym n) ∙ get_or-append_seam front x left 0 in
    let kl : length front < length b.key = subst (λ (l : List ℕ). length front < length l) (sym c.whole) (longer front h.byte h.lower.key) in
    let rl : length front < length rest = subst (λ (l : List ℕ). length front < length l) (sym there) (longer front x left) in
    let ne : h.byte ≡ x → ⊥ = λ e. apart (omega (arith, kl, n)) (omega (arith, rl, n)) 0 (k ∙ e ∙ sym r) in
    ap (λ (m : Branch). child_of x m.children) top ∙ one-child h.byte x at ne

-- a key that leaves the key part does not begin with it
pub apart-behind : (key rest : List ℕ) (count : ℕ) → count < length key → (count < length key → count < length rest → (d : ℕ) → get_or key count d ≢ get_or rest count d) → IsSome (behind key rest) → ⊥
apart-behind key rest count lt apart some = with-rest (behind key rest) refl some
  where
    with-rest : (o : Option (List ℕ)) → behind key rest ≡ o → IsSome o → ⊥
    with-rest None e s = absurd cc
    with-rest (Some r) e s =
        let whole : rest ≡ key ++ r = behind-whole key rest r e in
        let n = ap length whole in
        let m = length-append key r in
        apart lt (omega (arith, lt, n, m)) 0 (sym (ap (λ (l : List ℕ). get_or l count 0) whole ∙ get_or-append key r 0 count lt))

-- what is left behind a key part is no longer than the key
pub behind-length : (key rest left : List ℕ) → behind key rest ≡ Some left → length rest ≡ length key + length left
behind-length key rest left e = ap length (behind-whole key rest left e) ∙ length-append key left

pub nil_of : (l : List ℕ) → length l ≡ 0 → l ≡ []
nil_of [] e = refl
nil_of (x ∷ l) e = absurd (omega arith)

-- ---- the key in other words

pub set-at : (tells : Bool) (R : RecordsAt) (base root : Option Address) (own : List Branch) (ls : List Level) (o : Opened) (map : Option TrieMap) (a b : List ℕ) (v w : Option (List ℕ)) → a ≡ b → v ≡ w → IsFinger tells R base root own ls o (option_map (λ m. set_in m a v) map) → IsFinger tells R base root own ls o (option_map (λ m. set_in m b w) map)
set-at tells R base root own ls o map a b v w e f h = subst (λ (k : List ℕ). IsFinger tells R base root own ls o (option_map (λ m. set_in m k w) map)) e (subst (λ (x : Option (List ℕ)). IsFinger tells R base root own ls o (option_map (λ m. set_in m a x) map)) f h)

-- what is in hand last has the map's value behind the way to it
pub value-here : (tells : Bool) (R : RecordsAt) (base root : Option Address) (own : List Branch) (ls : List Level) (o : Opened) (m : TrieMap) (rest key : List ℕ) → IsFinger tells R base root own ls o (Some m) → IsTrue tells → path_of ls ++ rest ≡ key → value_by (value_at (with_own own R)) o.branch rest ≡ get m key
value-here tells R base root own ls o m rest key f told e =
    sym (along-at (value_at (with_own own R)) ls (value_by (value_at (with_own own R)) o.branch) rest)
    ∙ (f.stands told).value (path_of ls ++ rest) ∙ ap (get m) e
