-- Branches in hand: what they stand for, and how that goes with what is put away and taken in hand.
use base.Fml.{GName}
use Rattle.std.proofs.Common.{◌≡◌, ◌<◌, ◌≤◌, ℕ, zero, suc, ◌+◌, ◌-◌, List, [], ◌∷◌, ◌++◌, length, take, drop, Bool, true, false, cond, eqb, Option, Some, None, refl, sym, ◌∙◌, ap, subst, arith, inl, inr}
use Rattle.std.specs.Prelude.{IsSome, is_some, IsTrue, IfSome}
use Rattle.std.specs.FinMap.{get}
use Rattle.std.specs.List.{AllByRecursion}
use Rattle.std.proofs.lemmas.Bool.{cases_eq}
use Rattle.std.proofs.lemmas.Bool.Decides.{nat_tests}
use Rattle.std.proofs.lemmas.List.{append_assoc, length-append, length-drop, take-append-drop, take_at}
use Rattle.std.proofs.Math.Seq.{take-add, take-append-add}
use Rattle.xod_block.specs.declared.address.Address.{Address}
use Rattle.xod_block.specs.Addresses.{number_of}
use Rattle.xod_block.specs.Fetches.{Stays}
use Rattle.xod_block.specs.Maps.{RecordsAt, map_at}
use Rattle.xod_block.specs.Records.{Link, rise}
use Rattle.xod_trie.specs.declared.branch.Branch.{Branch}
use Rattle.xod_trie.specs.Branches.{behind, child_of, value_in_child, value_behind, value_by}
use Rattle.xod_trie.specs.Tries.{TrieMap, value_at}
use Rattle.xod_trie.proofs.CallerLemmas.{tied, tied-byte, tied_behind, tied-behind, value_at-by}
use Rattle.xod_trie_mut.specs.declared.finger.Level.{Level}
use Rattle.xod_trie_mut.specs.declared.finger.Opened.{Opened}
use Rattle.xod_trie_mut.specs.Changes.{KeysFit}
use Rattle.xod_trie_mut.specs.Fingers.{Values, Below, ValuesFit, has_map, value_under, HaveMaps, value_beside, value_past, value_along, path_of, AreLower, IsHeld, AreHeld, IsReady, AreReady, HasMap, IsFinger, IsLeft, AreUntouched, AreOnWay, GoesAt, Extends}
use Rattle.xod_trie_mut.specs.Links.{set_link, relinked}
use Rattle.xod_trie_mut.specs.Own.{AreOwn, IsLower, IsRoot, with_own}
use Rattle.xod_trie_mut.specs.Settling.{IsLoaded, IsSettled}
use Rattle.xod_trie_mut.proofs.JoinLemmas.{behind-front, behind-whole}
use Rattle.xod_trie_mut.proofs.LinkLemmas.{set_link-child, set_link-all}
use Rattle.xod_trie_mut.proofs.OwnLemmas.{Grows, grow-extends, grow-have, grow-has, grow-value, grow-under, extends-length, child-map, branch-maps, in_child-same, by-grow, all_lower-more, child-lower}

-- ---- values past a byte

in_child-under : (R : RecordsAt) (o : Option Address) (r : List ℕ) → value_in_child (value_at R) o r ≡ value_under R o r
in_child-under R None r = refl
in_child-under R (Some a) r = refl

beside-same : (f g : Below) (x : ℕ) (inner other : Values) (v : Option (List ℕ)) (cs : List Link) (o : Option (List ℕ)) → ((y : ℕ) (a : Address) (r : List ℕ) → child_of y cs ≡ Some a → f (number_of a) r ≡ g (number_of a) r) → ((r : List ℕ) → inner r ≡ other r) → value_beside f x inner v cs o ≡ value_beside g x other v cs o
beside-same f g x inner other v cs None same is = refl
beside-same f g x inner other v cs (Some []) same is = refl
beside-same f g x inner other v cs (Some (y ∷ r)) same is = elim (eqb x y) as (λ q. cond q (inner r) (value_in_child f (child_of y cs) r) ≡ cond q (other r) (value_in_child g (child_of y cs) r)) [
  | true ↦ is r
  | false ↦ in_child-same f g (child_of y cs) r (λ a e. same y a r e)
]

pub past-grow : (R S : RecordsAt) → Grows R S → (b : Branch) (x : ℕ) (inner other : Values) → HaveMaps R b.children → ((r : List ℕ) → inner r ≡ other r) → (k : List ℕ) → value_past (value_at S) b x inner k ≡ value_past (value_at R) b x other k
past-grow R S g b x inner other have is k = beside-same (value_at S) (value_at R) x inner other b.value b.children (behind b.key k) (λ y a r e. grow-value R S g (number_of a) r (child-map R y b.children a have e)) is

-- what is in hand has the values of the child
beside-child : (R : RecordsAt) (x : ℕ) (inner : Values) (v : Option (List ℕ)) (cs : List Link) (o : Option (List ℕ)) → ((r : List ℕ) → inner r ≡ value_under R (child_of x cs) r) → value_beside (value_at R) x inner v cs o ≡ value_behind (value_at R) v cs o
beside-child R x inner v cs None is = refl
beside-child R x inner v cs (Some []) is = refl
beside-child R x inner v cs (Some (y ∷ r)) is = elim (cases_eq x y) [
  | inl same ↦
      let yes : eqb x y ≡ true = grind (arith, nat_tests) in
      ap (λ (q : Bool). cond q (inner r) (value_in_child (value_at R) (child_of y cs) r)) yes
      ∙ is r ∙ ap (λ (z : ℕ). value_under R (child_of z cs) r) same ∙ sym (in_child-under R (child_of y cs) r)
  | inr apart ↦
      let no : eqb x y ≡ false = grind (arith, nat_tests, apart) in
      ap (λ (q : Bool). cond q (inner r) (value_in_child (value_at R) (child_of y cs) r)) no
]

pub past-child : (R : RecordsAt) (b : Branch) (x : ℕ) (inner : Values) → ((r : List ℕ) → inner r ≡ value_under R (child_of x b.children) r) → (k : List ℕ) → value_past (value_at R) b x inner k ≡ value_by (value_at R) b k
past-child R b x inner is k = beside-child R x inner b.value b.children (behind b.key k) is

-- a child that was put away has the values of what was in hand
beside-link : (R S : RecordsAt) → Grows R S → (x : ℕ) (at : Option Address) (inner : Values) (v : Option (List ℕ)) (cs : List Link) (o : Option (List ℕ)) → HaveMaps R cs → rise cs ≡ true → ((r : List ℕ) → value_under S at r ≡ inner r) → value_behind (value_at S) v (set_link x at cs) o ≡ value_beside (value_at R) x inner v cs o
beside-link R S g x at inner v cs None have rises is = refl
beside-link R S g x at inner v cs (Some []) have rises is = refl
beside-link R S g x at inner v cs (Some (y ∷ r)) have rises is =
    ap (λ (o : Option Address). value_in_child (value_at S) o r) (set_link-child x y at cs rises)
    ∙ elim (eqb x y) as (λ q. value_in_child (value_at S) (cond q at (child_of y cs)) r ≡ cond q (inner r) (value_in_child (value_at R) (child_of y cs) r)) [
      | true ↦ in_child-under S at r ∙ is r
      | false ↦ in_child-same (value_at S) (value_at R) (child_of y cs) r (λ a e. grow-value R S g (number_of a) r (child-map R y cs a have e))
    ]

pub past-link : (R S : RecordsAt) → Grows R S → (b : Branch) (x : ℕ) (at : Option Address) (inner : Values) → HaveMaps R b.children → rise b.children ≡ true → ((r : List ℕ) → value_under S at r ≡ inner r) → (k : List ℕ) → value_by (value_at S) (relinked b x at) k ≡ value_past (value_at R) b x inner k
past-link R S g b x at inner have rises is k = beside-link R S g x at inner b.value b.children (behind b.key k) have rises is

-- one key of what is in hand has another value
beside-sets : (f : Below) (x : ℕ) (inner other : Values) (rest : List ℕ) (w : Option (List ℕ)) (v : Option (List ℕ)) (cs : List Link) (o : Option (List ℕ)) → ((r : List ℕ) → other r ≡ cond (tied r rest) w (inner r)) → value_beside f x other v cs o ≡ cond (tied_behind o (x ∷ rest)) w (value_beside f x inner v cs o)
beside-sets f x inner other rest w v cs None is = refl
beside-sets f x inner other rest w v cs (Some []) is = refl
beside-sets f x inner other rest w v cs (Some (y ∷ r)) is =
    elim (eqb x y) as (λ q. cond q (other r) (value_in_child f (child_of y cs) r) ≡ cond (cond q (tied r rest) false) w (cond q (inner r) (value_in_child f (child_of y cs) r))) [
      | true ↦ is r
      | false ↦ refl
    ]
    ∙ ap (λ (q : Bool). cond q w (value_beside f x inner v cs (Some (y ∷ r)))) (sym (tied-byte y x _))

pub past-sets : (f : Below) (b : Branch) (x : ℕ) (inner other : Values) (rest : List ℕ) (w : Option (List ℕ)) → ((r : List ℕ) → other r ≡ cond (tied r rest) w (inner r)) → (k : List ℕ) → value_past f b x other k ≡ cond (tied k (b.key ++ x ∷ rest)) w (value_past f b x inner k)
past-sets f b x inner other rest w is k =
    beside-sets f x inner other rest w b.value b.children (behind b.key k) is
    ∙ ap (λ (q : Bool). cond q w (value_past f b x inner k)) (sym (tied-behind b.key (x ∷ rest) k))

past-at : (f : Below) (b : Branch) (x : ℕ) (inner : Values) (rest : List ℕ) → value_past f b x inner (b.key ++ x ∷ rest) ≡ inner rest
past-at f b x inner rest =
    let yes : eqb x x ≡ true = grind (arith, nat_tests) in
    ap (value_beside f x inner b.value b.children) (behind-front b.key (x ∷ rest))
    ∙ ap (λ (q : Bool). cond q (inner rest) (value_in_child f (child_of x b.children) rest)) yes

-- ---- values along levels

pub along-append : (f : Below) (ls ms : List Level) (inner : Values) → value_along f (ls ++ ms) inner ≡ value_along f ls (value_along f ms inner)
along-append f [] ms inner = refl
along-append f (l ∷ ls) ms inner = ap (value_past f l.opened.branch l.byte) (along-append f ls ms inner)

abbrev pub Ready : RecordsAt → List Level → Type 0
Ready R ls = AllByRecursion (λ level. HaveMaps R level.opened.branch.children) ls

pub along-grow : (R S : RecordsAt) → Grows R S → (ls : List Level) (inner other : Values) → Ready R ls → ((r : List ℕ) → inner r ≡ other r) → (k : List ℕ) → value_along (value_at S) ls inner k ≡ value_along (value_at R) ls other k
along-grow R S g [] inner other have is k = is k
along-grow R S g (l ∷ ls) inner other have is k = past-grow R S g l.opened.branch l.byte (value_along (value_at S) ls inner) (value_along (value_at R) ls other) have.0 (along-grow R S g ls inner other have.1 is) k

pub along-sets : (f : Below) (ls : List Level) (inner other : Values) (rest : List ℕ) (w : Option (List ℕ)) → ((r : List ℕ) → other r ≡ cond (tied r rest) w (inner r)) → (k : List ℕ) → value_along f ls other k ≡ cond (tied k (path_of ls ++ rest)) w (value_along f ls inner k)
along-sets f [] inner other rest w is k = is k
along-sets f (l ∷ ls) inner other rest w is k =
    past-sets f l.opened.branch l.byte (value_along f ls inner) (value_along f ls other) (path_of ls ++ rest) w (along-sets f ls inner other rest w is) k
    ∙ ap (λ (key : List ℕ). cond (tied k key) w (value_along f (l ∷ ls) inner k)) (sym (append_assoc l.opened.branch.key (l.byte ∷ path_of ls) rest))

pub along-at : (f : Below) (ls : List Level) (inner : Values) (rest : List ℕ) → value_along f ls inner (path_of ls ++ rest) ≡ inner rest
along-at f [] inner rest = refl
along-at f (l ∷ ls) inner rest =
    ap (value_along f (l ∷ ls) inner) (append_assoc l.opened.branch.key (l.byte ∷ path_of ls) rest)
    ∙ past-at f l.opened.branch l.byte (value_along f ls inner) (path_of ls ++ rest)
    ∙ along-at f ls inner rest

pub path-append : (ls ms : List Level) → path_of (ls ++ ms) ≡ path_of ls ++ path_of ms
path-append [] ms = refl
path-append (l ∷ ls) ms = ap (λ (p : List ℕ). l.opened.branch.key ++ l.byte ∷ p) (path-append ls ms) ∙ sym (append_assoc l.opened.branch.key (l.byte ∷ path_of ls) (path_of ms))

-- ---- what is held

abbrev next_taken : Level → ℕ → ℕ
next_taken level taken = taken + length level.opened.branch.key + 1

pub held-pop : (base : Option Address) (n t : ℕ) (ls : List Level) (l : Level) (o : Opened) → AreHeld base n t (ls ++ l ∷ []) o → AreHeld base n t ls l.opened × IsHeld base n (next_taken l l.opened.taken) o
held-pop base n t [] l o h = (h.0, subst (λ (m : ℕ). IsHeld base n (next_taken l m) o) (sym h.0.taken_is) h.1)
held-pop base n t (m ∷ ls) l o h = let r = held-pop base n (next_taken m t) ls l o h.1 in ((h.0, r.0), r.1)

pub held-push : (base : Option Address) (n t : ℕ) (ls : List Level) (l : Level) (o : Opened) → AreHeld base n t ls l.opened → IsHeld base n (next_taken l l.opened.taken) o → AreHeld base n t (ls ++ l ∷ []) o
held-push base n t [] l o h k = (h, subst (λ (m : ℕ). IsHeld base n (next_taken l m) o) h.taken_is k)
held-push base n t (m ∷ ls) l o h k = (h.0, held-push base n (next_taken m t) ls l o h.1 k)

one-more : (base : Option Address) (n m t : ℕ) (o : Opened) → n ≤ m → IsHeld base n t o → IsHeld base m t o
one-more base n m t o le h = record { lower = all_lower-more base n m o.branch.children le h.lower; taken_is = h.taken_is }

pub held-more : (base : Option Address) (n m t : ℕ) (ls : List Level) (o : Opened) → n ≤ m → AreHeld base n t ls o → AreHeld base m t ls o
held-more base n m t [] o le h = one-more base n m t o le h
held-more base n m t (l ∷ ls) o le h = (one-more base n m t l.opened le h.0, held-more base n m (next_taken l t) ls o le h.1)

pub held-last : (base : Option Address) (n t : ℕ) (ls : List Level) (o : Opened) → AreHeld base n t ls o → AreLower base n o.branch.children
held-last base n t [] o h = h.lower
held-last base n t (l ∷ ls) o h = held-last base n (next_taken l t) ls o h.1

pub held-replace : (base : Option Address) (n t : ℕ) (ls : List Level) (o p : Opened) → AreHeld base n t ls o → AreLower base n p.branch.children → p.taken ≡ o.taken → AreHeld base n t ls p
held-replace base n t [] o p h lower same = record { lower = lower; taken_is = same ∙ h.taken_is }
held-replace base n t (l ∷ ls) o p h lower same = (h.0, held-replace base n (next_taken l t) ls o p h.1 lower same)

pub held-taken : (base : Option Address) (n t : ℕ) (ls : List Level) (o : Opened) → AreHeld base n t ls o → o.taken ≡ t + length (path_of ls)
held-taken base n t [] o h = let e = h.taken_is in omega (arith, e)
held-taken base n t (l ∷ ls) o h =
    let e = held-taken base n (next_taken l t) ls o h.1 in
    let k = length-append l.opened.branch.key (l.byte ∷ path_of ls) in
    omega (arith, e, k)

-- ---- what is ready

ready-more : (R S : RecordsAt) → Grows R S → (place : Option Address) (o : Opened) → IsTrue (has_map R place) → IsReady R place o → IsReady S place o
ready-more R S g place o has r = record {
  maps = grow-have R S g o.branch.children r.maps;
  same = λ un k. grow-under R S g place k has ∙ r.same un k ∙ sym (by-grow R S g o.branch k r.maps);
}

pub child-has : (R : RecordsAt) (x : ℕ) (cs : List Link) → HaveMaps R cs → IsTrue (has_map R (child_of x cs))
child-has R x [] h = refl
child-has R x (c ∷ cs) h = elim (eqb c.0 x) as (λ q. IsTrue (has_map R (cond q (Some c.1) (child_of x cs)))) [
  | true ↦ h.0
  | false ↦ child-has R x cs h.1
]

pub ready-pop : (R : RecordsAt) (p : Option Address) (ls : List Level) (l : Level) (o : Opened) → AreReady R p (ls ++ l ∷ []) o → AreReady R p ls l.opened × IsReady R (child_of l.byte l.opened.branch.children) o
ready-pop R p [] l o h = h
ready-pop R p (m ∷ ls) l o h = let r = ready-pop R (child_of m.byte m.opened.branch.children) ls l o h.1 in ((h.0, r.0), r.1)

pub ready-push : (R : RecordsAt) (p : Option Address) (ls : List Level) (l : Level) (o : Opened) → AreReady R p ls l.opened → IsReady R (child_of l.byte l.opened.branch.children) o → AreReady R p (ls ++ l ∷ []) o
ready-push R p [] l o h k = (h, k)
ready-push R p (m ∷ ls) l o h k = (h.0, ready-push R (child_of m.byte m.opened.branch.children) ls l o h.1 k)

-- what is in hand last is another, over more records
pub ready-move : (R S : RecordsAt) → Grows R S → (p : Option Address) (ls : List Level) (o q : Opened) → IsTrue (has_map R p) → AreReady R p ls o → ((place : Option Address) → IsTrue (has_map R place) → IsReady R place o → IsReady S place q) → AreReady S p ls q
ready-move R S g p [] o q has h f = f p has h
ready-move R S g p (l ∷ ls) o q has h f = (ready-more R S g p l.opened has h.0, ready-move R S g (child_of l.byte l.opened.branch.children) ls o q (child-has R l.byte l.opened.branch.children h.0.maps) h.1 f)

pub ready-levels : (R : RecordsAt) (p : Option Address) (ls : List Level) (o : Opened) → AreReady R p ls o → Ready R ls
ready-levels R p [] o h = tt
ready-levels R p (l ∷ ls) o h = (h.0.maps, ready-levels R (child_of l.byte l.opened.branch.children) ls o h.1)

pub ready-last : (R : RecordsAt) (p : Option Address) (ls : List Level) (o : Opened) → AreReady R p ls o → HaveMaps R o.branch.children
ready-last R p [] o h = h.maps
ready-last R p (l ∷ ls) o h = ready-last R (child_of l.byte l.opened.branch.children) ls o h.1

pub root-grows : (R S : RecordsAt) → Grows R S → (at : Option Address) → IsTrue (has_map R at) → IsTrue (has_map S at)
root-grows R S g None h = refl
root-grows R S g (Some a) h = grow-has R S g (number_of a) h

-- ---- fingers

pub some-map : (P : TrieMap → Type 0) (Q : TrieMap → Type 0) (map : Option TrieMap) → ((m : TrieMap) → P m → Q m) → IfSome map P → IfSome map Q
some-map P Q None f h = tt
some-map P Q (Some m) f h = f m h

-- what is in hand last has a map below it, and keys that fit
pub finger-maps : (R : RecordsAt) (root : Option Address) (ls : List Level) (o : Opened) (map : Option TrieMap) → IfSome map (HasMap R root ls o) → IsSome map → HaveMaps R o.branch.children
finger-maps R root ls o None h some = absurd cc
finger-maps R root ls o (Some m) h some = ready-last R root ls o h.ready

pub finger-fits : (R : RecordsAt) (root : Option Address) (ls : List Level) (o : Opened) (map : Option TrieMap) → IfSome map (HasMap R root ls o) → IsSome map → IfSome map KeysFit → ValuesFit (value_by (value_at R) o.branch)
finger-fits R root ls o None h some fits k there = absurd cc
finger-fits R root ls o (Some m) h some fits k there =
    let e : get m (path_of ls ++ k) ≡ value_by (value_at R) o.branch k = sym (h.value (path_of ls ++ k)) ∙ along-at (value_at R) ls (value_by (value_at R) o.branch) k in
    let whole = fits (path_of ls ++ k) (ap is_some e ∙ there) in
    let n = length-append (path_of ls) k in
    omega (arith, whole, n)

-- up
module _ (tells : Bool) (R : RecordsAt) (base root : Option Address) (own new : List Branch) (ls : List Level) (l : Level) (o made : Opened) (map : Option TrieMap) (f : IsFinger tells R base root own (ls ++ l ∷ []) o map) (x : Extends own new) where
  pub left-held : AreHeld base (length own) 0 ls l.opened
  left-held = (held-pop base (length own) 0 ls l o f.held).0

  left-map : IsTrue tells → IsLeft tells R base own new l.opened.taken l o made → (m : TrieMap) → HasMap (with_own own R) root (ls ++ l ∷ []) o m → HasMap (with_own new R) root ls made m
  left-map told left m h =
      let U = with_own own R in
      let V = with_own new R in
      let g = grow-extends own new R x in
      let r = ready-pop U root ls l o h.ready in
      record {
        root_has = root-grows U V g root h.root_has;
        ready = ready-move U V g root ls l.opened made h.root_has r.0 (λ place has ready. left.ready told place ready r.1);
        value = λ k.
            along-grow U V g ls (value_by (value_at V) made.branch) (value_past (value_at U) l.opened.branch l.byte (value_by (value_at U) o.branch)) (ready-levels U root ls l.opened r.0) (left.value told (ready-last U root ls l.opened r.0) r.1) k
            ∙ ap (λ (v : Values). v k) (sym (along-append (value_at U) ls (l ∷ []) (value_by (value_at U) o.branch)))
            ∙ h.value k;
      }

  pub left-finger : IsLeft tells R base own new l.opened.taken l o made → IsFinger tells R base root new ls made map
  left-finger left = record {
    own_are = left.own_are;
    held = held-replace base (length new) 0 ls l.opened made (held-more base (length own) (length new) 0 ls l.opened (extends-length own new x) left-held) left.held.lower left.held.taken_is;
    stands = λ told. some-map (HasMap (with_own own R) root (ls ++ l ∷ []) o) (HasMap (with_own new R) root ls made) map (left-map told left) (f.stands told);
  }

-- a level that was left unchanged
pub left-same : (tells : Bool) (R : RecordsAt) (base : Option Address) (own : List Branch) (taken : ℕ) (l : Level) (o : Opened) → AreOwn base own → IsHeld base (length own) taken l.opened → o.changed ≡ false → IsLeft tells R base own own taken l o l.opened
left-same tells R base own taken l o each held un = record {
  own_are = each;
  held = held;
  ready = λ told place above below. above;
  value = λ told maps below k. sym (past-child (with_own own R) l.opened.branch l.byte (value_by (value_at (with_own own R)) o.branch) (λ r. sym (below.same un r)) k);
}

pub has_new : (R : RecordsAt) (x : ℕ) (at : Option Address) → IsTrue (has_map R at) → IfSome at (λ a. IsSome (map_at R (number_of a)))
has_new R x None h = tt
has_new R x (Some a) h = h

pub root_new : (base : Option Address) (n : ℕ) (at : Option Address) → IsRoot base n at → IfSome at (λ a. IsLower base n a)
root_new base n None h = tt
root_new base n (Some a) h = h

-- and one that has what was put away
pub left-changed : (tells : Bool) (R : RecordsAt) (base : Option Address) (own new : List Branch) (taken : ℕ) (l : Level) (o : Opened) (at : Option Address) (b : Branch) (made : Opened) → IsHeld base (length own) taken l.opened → IsSettled tells R base own new o.branch at → Extends own new → rise l.opened.branch.children ≡ true → b ≡ relinked l.opened.branch l.byte at → made ≡ record { branch = b; changed = true; taken = l.opened.taken } → IsLeft tells R base own new taken l o made
left-changed tells R base own new taken l o at b made held s x rises is made_is =
    let U = with_own own R in
    let V = with_own new R in
    let g = grow-extends own new R x in
    let cs = l.opened.branch.children in
    let all : IsLeft tells R base own new taken l o (record { branch = relinked l.opened.branch l.byte at; changed = true; taken = l.opened.taken }) = record {
      own_are = s.own;
      held = record {
        lower = set_link-all (λ child. IsLower base (length new) child.1) l.byte at (root_new base (length new) at s.root) cs (all_lower-more base (length own) (length new) cs (extends-length own new x) held.lower);
        taken_is = held.taken_is;
      };
      ready = λ told place above below. record {
        maps = set_link-all (λ child. IsSome (map_at V (number_of child.1))) l.byte at (has_new V l.byte at (s.stands told below.maps).map) cs (grow-have U V g cs above.maps);
        same = λ never k. absurd cc;
      };
      value = λ told maps below k. past-link U V g l.opened.branch l.byte at (value_by (value_at U) o.branch) maps rises (s.stands told below.maps).value k;
    } in
    subst (IsLeft tells R base own new taken l o) (sym made_is) (subst (λ (c : Branch). IsLeft tells R base own new taken l o (record { branch = c; changed = true; taken = l.opened.taken })) (sym is) all)

-- down
pub goes-lower : (base : Option Address) (n : ℕ) (b : Branch) (rest : List ℕ) (x : ℕ) (a : Address) → AreLower base n b.children → GoesAt b rest x a → IsLower base n a
goes-lower base n b rest x a lower goes = child-lower base n x b.children a lower goes.child_is

pub goes-length : (b : Branch) (rest : List ℕ) (x : ℕ) (a : Address) → GoesAt b rest x a → length b.key + 1 ≤ length rest
goes-length b rest x a goes =
    let e = ap length (behind-whole b.key rest (x ∷ goes.rest) goes.behind_is) in
    let n = length-append b.key (x ∷ goes.rest) in
    omega (arith, e, n)

module _ (tells : Bool) (R : RecordsAt) (base root : Option Address) (own : List Branch) (ls : List Level) (o new : Opened) (map : Option TrieMap) (f : IsFinger tells R base root own ls o map) (rest : List ℕ) (x : ℕ) (a : Address) (goes : GoesAt o.branch rest x a) (loaded : IsLoaded tells R base own a new.branch) (taken : new.taken ≡ o.taken + length o.branch.key + 1) where
  down-map : IsTrue tells → (m : TrieMap) → HasMap (with_own own R) root ls o m → HasMap (with_own own R) root (ls ++ record { opened = o; byte = x } ∷ []) new m
  down-map told m h =
      let U = with_own own R in
      let l : Level = record { opened = o; byte = x } in
      let maps = ready-last U root ls o h.ready in
      let some = child-map U x o.branch.children a maps goes.child_is in
      let here = loaded.here told in
      let same : (k : List ℕ) → value_under U (child_of x o.branch.children) k ≡ value_by (value_at U) new.branch k = λ k. ap (λ (p : Option Address). value_under U p k) goes.child_is ∙ value_at-by U (number_of a) new.branch k some here in
      record {
        root_has = h.root_has;
        ready = ready-push U root ls l new h.ready (record { maps = branch-maps U (number_of a) new.branch some here; same = λ un. same });
        value = λ k.
            ap (λ (v : Values). v k) (along-append (value_at U) ls (l ∷ []) (value_by (value_at U) new.branch))
            ∙ along-grow U U (record { stays = λ n item e. e }) ls (value_past (value_at U) o.branch x (value_by (value_at U) new.branch)) (value_by (value_at U) o.branch) (ready-levels U root ls o h.ready) (past-child U o.branch x (value_by (value_at U) new.branch) (λ r. sym (same r))) k
            ∙ h.value k;
      }

  pub down-finger : IsFinger tells R base root own (ls ++ record { opened = o; byte = x } ∷ []) new map
  down-finger = record {
    own_are = f.own_are;
    held = held-push base (length own) 0 ls (record { opened = o; byte = x }) new f.held (record { lower = loaded.lower; taken_is = taken });
    stands = λ told. some-map (HasMap (with_own own R) root ls o) (HasMap (with_own own R) root (ls ++ record { opened = o; byte = x } ∷ []) new) map (down-map told) (f.stands told);
  }

-- ---- small steps of the loops

pub moved : (P : Bool → RecordsAt → Type 0) (t u : Bool) (R S : RecordsAt) → u ≡ t → S ≡ R → P u S → P t R
moved P t u R S e f h = subst (λ (b : Bool). P b R) e (subst (λ (r : RecordsAt). P u r) f h)

-- over calls that keep what is told
module _ {F : Type 0} {tells : F → Bool} {records : F → RecordsAt} {refs : F → List GName} {faults : F → ℕ} where
  pub forth : {a b : F} (P : Bool → RecordsAt → Type 0) → Stays tells records refs faults a b → P (tells a) (records a) → P (tells b) (records b)
  forth P s h = moved P _ _ _ _ (sym s.tells_same) (sym s.records_same) h

  pub back : {a b : F} (P : Bool → RecordsAt → Type 0) → Stays tells records refs faults a b → P (tells b) (records b) → P (tells a) (records a)
  back P s h = moved P _ _ _ _ s.tells_same s.records_same h

pub no-levels : (base : Option Address) (n : ℕ) (ls : List Level) (o : Opened) → length ls ≡ 0 → AreHeld base n 0 ls o → o.taken ≡ 0
no-levels base n [] o e h = h.taken_is
no-levels base n (l ∷ ls) o e h = absurd (omega arith)

pub front-pop : (ups pops init : List Level) (l : Level) → ups ≡ pops ++ l ∷ [] → Extends ups init → Extends pops init
front-pop ups pops init l e x = record { more = l ∷ x.more; is = x.is ∙ ap (λ (ls : List Level). ls ++ x.more) e ∙ append_assoc pops (l ∷ []) x.more }

all-pop : (ls : List Level) (l : Level) → AllByRecursion (λ level. level.opened.changed ≡ false) (ls ++ l ∷ []) → AllByRecursion (λ level. level.opened.changed ≡ false) ls × (l.opened.changed ≡ false)
all-pop [] l h = (tt, h.0)
all-pop (m ∷ ls) l h = let r = all-pop ls l h.1 in ((h.0, r.0), r.1)

pub untouched-pop : (ups pops : List Level) (l : Level) (o made : Opened) → ups ≡ pops ++ l ∷ [] → made ≡ l.opened → AreUntouched ups o → AreUntouched pops made
untouched-pop ups pops l o made e same u =
    let h = all-pop pops l (subst (AllByRecursion (λ (level : Level). level.opened.changed ≡ false)) e u.levels_same) in
    record { levels_same = h.0; focus_same = ap (λ (p : Opened). p.changed) same ∙ h.1 }

all-push : (ls : List Level) (l : Level) → AllByRecursion (λ level. level.opened.changed ≡ false) ls → l.opened.changed ≡ false → AllByRecursion (λ level. level.opened.changed ≡ false) (ls ++ l ∷ [])
all-push [] l h e = (e, tt)
all-push (m ∷ ls) l h e = (h.0, all-push ls l h.1 e)

pub untouched-push : (ls downs : List Level) (o new : Opened) (x : ℕ) → downs ≡ ls ++ record { opened = o; byte = x } ∷ [] → new.changed ≡ false → AreUntouched ls o → AreUntouched downs new
untouched-push ls downs o new x e un u = record { levels_same = subst (AllByRecursion (λ (level : Level). level.opened.changed ≡ false)) (sym e) (all-push ls (record { opened = o; byte = x }) u.levels_same u.focus_same); focus_same = un }

pub goes-within : (b : Branch) (key rest : List ℕ) (t x : ℕ) (a : Address) → rest ≡ drop t key → GoesAt b rest x a → t + length b.key + 1 ≤ length key
goes-within b key rest t x a is goes =
    let n = goes-length b rest x a goes in
    let e = ap length is in
    let d = length-drop t key in
    omega (arith, n, e, d)

pub smaller : (n t k : ℕ) → t + k + 1 ≤ n → n - (t + k + 1) < n - t
smaller n t k le = omega (arith, le)

pub on_way-behind : (b : Branch) (key left : List ℕ) (ls downs : List Level) (o new : Opened) (x : ℕ) → o.branch ≡ b → behind b.key (drop o.taken key) ≡ Some (x ∷ left) → downs ≡ ls ++ record { opened = o; byte = x } ∷ [] → new.taken ≡ o.taken + length b.key + 1 → AreOnWay key ls o → AreOnWay key downs new
on_way-behind b key left ls downs o new x same on put taken way =
    let whole : drop o.taken key ≡ b.key ++ x ∷ left = behind-whole b.key (drop o.taken key) (x ∷ left) on in
    let sum : new.taken ≡ o.taken + (length b.key + 1) = omega (arith, taken) in
    ap (λ (n : ℕ). take n key) sum
    ∙ take-add o.taken (length b.key + 1) key
    ∙ ap (λ (l : List ℕ). l ++ take (length b.key + 1) (drop o.taken key)) way
    ∙ ap (λ (l : List ℕ). path_of ls ++ take (length b.key + 1) l) whole
    ∙ ap (λ (l : List ℕ). path_of ls ++ l) (take-append-add b.key (x ∷ left) 1)
    ∙ ap (λ (k : List ℕ). path_of ls ++ (k ++ (x ∷ []))) (sym (ap (λ (c : Branch). c.key) same))
    ∙ sym (ap path_of put ∙ path-append ls (record { opened = o; byte = x } ∷ []))

pub on_way-down : (b : Branch) (key rest : List ℕ) (ls downs : List Level) (o new : Opened) (x : ℕ) (a : Address) → o.branch ≡ b → rest ≡ drop o.taken key → GoesAt b rest x a → downs ≡ ls ++ record { opened = o; byte = x } ∷ [] → new.taken ≡ o.taken + length b.key + 1 → AreOnWay key ls o → AreOnWay key downs new
on_way-down b key rest ls downs o new x a same is goes put taken on = on_way-behind b key goes.rest ls downs o new x same (ap (behind b.key) (sym is) ∙ goes.behind_is) put taken on

-- ---- from key to key

take-take-le : (i j : ℕ) (l : List ℕ) → i ≤ j → take i (take j l) ≡ take i l
take-take-le zero j l le = refl
take-take-le (suc i) zero l le = absurd (omega (arith, le))
take-take-le (suc i) (suc j) [] le = refl
take-take-le (suc i) (suc j) (x ∷ l) le = ap (λ (r : List ℕ). x ∷ r) (take-take-le i j l (omega (arith, le)))

-- the levels that are left after a way up are on the way to each key that begins with the same bytes
pub on_way-turn : (base : Option Address) (n m : ℕ) (last key : List ℕ) (ls ups : List Level) (o p : Opened) (count : ℕ) → AreHeld base n 0 ls o → AreHeld base m 0 ups p → Extends ups ls → p.taken ≤ count → take count last ≡ take count key → AreOnWay last ls o → AreOnWay key ups p
on_way-turn base n m last key ls ups o p count held held2 x low same on =
    let t = held-taken base n 0 ls o held in
    let u = held-taken base m 0 ups p held2 in
    let whole : path_of ls ≡ path_of ups ++ path_of x.more = ap path_of x.is ∙ path-append ups x.more in
    let sum = ap length whole ∙ length-append (path_of ups) (path_of x.more) in
    let le : p.taken ≤ o.taken = omega (arith, t, u, sum) in
    let short : (l : List ℕ) (i j : ℕ) → i ≤ j → take i (take j l) ≡ take i l = λ l i j h. take-take-le i j l h in
    sym (short key p.taken count low)
    ∙ ap (take p.taken) (sym same)
    ∙ short last p.taken count low
    ∙ sym (short last p.taken o.taken le)
    ∙ ap (take p.taken) (on ∙ whole)
    ∙ take_at (path_of ups) (path_of x.more) p.taken (omega (arith, u))

-- the key is the way to it and what is left
pub on_way-whole : (key : List ℕ) (ls : List Level) (o : Opened) → AreOnWay key ls o → path_of ls ++ drop o.taken key ≡ key
on_way-whole key ls o on = ap (λ (l : List ℕ). l ++ drop o.taken key) (sym on) ∙ take-append-drop o.taken key

-- where no byte stands before what is in hand, it is at the root
pub at-root : (base : Option Address) (n : ℕ) (ls : List Level) (o : Opened) → AreHeld base n 0 ls o → o.taken ≤ 0 → ls ≡ []
at-root base n [] o held low = refl
at-root base n (l ∷ ls) o held low =
    let t = held-taken base n 0 (l ∷ ls) o held in
    let k = length-append l.opened.branch.key (l.byte ∷ path_of ls) in
    absurd (omega (arith, t, k, low))
