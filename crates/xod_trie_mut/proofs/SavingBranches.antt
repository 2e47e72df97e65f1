-- What a save puts out: each branch is whole and names what stands before it, and the maps are as they were.
use Rattle.std.proofs.Common.{◌≡◌, ◌<◌, ◌≤◌, ℕ, zero, suc, Bool, true, false, cond, List, [], ◌∷◌, ◌++◌, length, take, Option, Some, None, slice_get, refl, sym, ◌∙◌, ap, subst, arith, append_assoc, length-append, inl, inr}
use Rattle.std.specs.Prelude.{IsSome, IsTrue, is_some}
use Rattle.std.specs.List.{AllByRecursion}
use Rattle.std.specs.Option.{option_map}
use Rattle.std.proofs.lemmas.Bool.{cases_lt, lt-ltb}
use Rattle.std.proofs.lemmas.List.{append-nil, take-append-le}
use Rattle.std.proofs.lemmas.Option.{slice_get_within}
use Rattle.std.proofs.Math.Seq.{take-append_seam}
use Rattle.xod_block.specs.declared.address.Address.{Address}
use Rattle.xod_block.specs.Addresses.{number_of}
use Rattle.xod_block.specs.Maps.{RecordsAt, Pairs, OnlyMore, joined, map_at, own_pair, pairs_of_children, under}
use Rattle.xod_block.specs.Records.{Link}
use Rattle.xod_block.proofs.CallerLemmas.{map_at-more}
use Rattle.xod_trie.specs.declared.branch.Branch.{Branch}
use Rattle.xod_trie.specs.Branches.{HaveChildren, branch_of}
use Rattle.xod_trie.proofs.CallerLemmas.{map_at-branch, map-down}
use Rattle.xod_trie_mut.specs.Keeps.{bytes_of, with_children}
use Rattle.xod_trie_mut.specs.Own.{AreOwn, HasParts, IsBelowBase, IsLower, IsLowerBy, are_enough, is_saved, own_file}
use Rattle.xod_trie_mut.specs.Saves.{Places, Put, PutAll, put_behind, put_branch, put_children, put_within}
use Rattle.xod_trie_mut.proofs.SavingBytes.{bytes-same, length-same, rise-same}
use Rattle.xod_trie_mut.proofs.SavingStacks.{get-there}
use Rattle.xod_trie_mut.proofs.SavingSteps.{put-own, put-saved}

-- ---- longer lists

pub record Extends (old new : List Branch) : Type 0 where
  pub more : List Branch
  pub is : new ≡ old ++ more

extends-same : (bs : List Branch) → Extends bs bs
extends-same bs = record { more = []; is = sym (append-nil bs) }

extends-then : (ls bs cs : List Branch) → Extends ls bs → Extends bs cs → Extends ls cs
extends-then ls bs cs x y = record { more = x.more ++ y.more; is = y.is ∙ ap (λ (l : List Branch). l ++ y.more) x.is ∙ append_assoc ls x.more y.more }

extends-last : (ls bs : List Branch) (b : Branch) → Extends ls bs → Extends ls (bs ++ b ∷ [])
extends-last ls bs b x = extends-then ls bs (bs ++ b ∷ []) x (record { more = b ∷ []; is = refl })

all-front : (P : Branch → Type 0) (xs ys : List Branch) → AllByRecursion P (xs ++ ys) → AllByRecursion P xs
all-front P [] ys a = tt
all-front P (x ∷ xs) ys a = (a.0, all-front P xs ys a.1)

pub all-extends : (P : Branch → Type 0) (xs ys : List Branch) → Extends xs ys → AllByRecursion P ys → AllByRecursion P xs
all-extends P xs ys x a = all-front P xs x.more (subst (AllByRecursion P) x.is a)

pub fine-last : (P : Branch → Type 0) (xs : List Branch) (x : Branch) → AllByRecursion P (xs ++ x ∷ []) → P x
fine-last P [] x a = a.0
fine-last P (y ∷ xs) x a = fine-last P xs x a.1

get-left : (xs ys : List Branch) (index : ℕ) → index < length xs → slice_get (xs ++ ys) index ≡ slice_get xs index
get-left [] ys index lt = absurd (omega (arith, lt))
get-left (x ∷ xs) ys zero lt = refl
get-left (x ∷ xs) ys (suc index) lt = get-left xs ys index (omega (arith, lt))

get-last : (xs : List Branch) (b : Branch) → slice_get (xs ++ b ∷ []) (length xs) ≡ Some b
get-last [] b = refl
get-last (x ∷ xs) b = get-last xs b

-- ---- what is reached

-- a record up to the base, or a branch of the list at a depth below this one
pub record IsReach (base : Option Address) (own : List Branch) (depth : ℕ) (at : Address) : Type 0 where
  pub below : is_saved at ≡ true → IsBelowBase base at
  pub within : is_saved at ≡ false → at.at < depth
  pub inside : is_saved at ≡ false → at.at < length own
  pub file : is_saved at ≡ false → at.file ≡ own_file

pub lower-reach : (base : Option Address) (own : List Branch) (depth index : ℕ) (at : Address) → index ≤ depth → index ≤ length own → IsLower base index at → IsReach base own depth at
lower-reach base own depth index at le inside low = record {
  below = λ e. subst (λ (q : Bool). IsLowerBy q base index at) e low;
  within = λ e. let before = subst (λ (q : Bool). IsLowerBy q base index at) e low in let lt = before.before in omega (arith, lt, le);
  inside = λ e. let before = subst (λ (q : Bool). IsLowerBy q base index at) e low in let lt = before.before in omega (arith, lt, inside);
  file = λ e. let before = subst (λ (q : Bool). IsLowerBy q base index at) e low in before.own;
}

lower-all-reach : (base : Option Address) (own : List Branch) (depth index : ℕ) (cs : List Link) → index ≤ depth → index ≤ length own → AllByRecursion (λ child. IsLower base index child.1) cs → AllByRecursion (λ child. IsReach base own depth child.1) cs
lower-all-reach base own depth index [] le inside low = tt
lower-all-reach base own depth index (c ∷ cs) le inside low = (lower-reach base own depth index c.1 le inside low.0, lower-all-reach base own depth index cs le inside low.1)

-- what is told of one address by cases: a record, or a branch of the list
pub data Stands (base : Option Address) (own : List Branch) (at : Address) : Type 0 where
  AtRecord : is_saved at ≡ true → IsBelowBase base at → Stands base own at
  AtBranch : is_saved at ≡ false → at.file ≡ own_file → (branch : Branch) → slice_get own at.at ≡ Some branch → Stands base own at

pub stands : (base : Option Address) (own : List Branch) (depth : ℕ) (at : Address) → IsReach base own depth at → Stands base own at
stands base own depth at r = elim (is_saved at) as (λ q. is_saved at ≡ q → Stands base own at) [
  | true ↦ λ e. AtRecord e (r.below e)
  | false ↦ λ e. let there = get-there own at.at (r.inside e) in AtBranch e (r.file e) there.0 there.1
] refl

module _ (places : Places) (base : Option Address) (own : List Branch) (sound : AreOwn base own) (Low : List Branch → Address → Type 0) (low_saved : (bs : List Branch) (at : Address) → is_saved at ≡ true → IsBelowBase base at → Low bs at) (low_place : (bs : List Branch) (b : Branch) → Low (bs ++ b ∷ []) (places bs)) (low_more : (bs : List Branch) (b : Branch) (at : Address) → Low bs at → Low (bs ++ b ∷ []) at) where
  -- a branch that may stand behind these
  pub record IsSeated (bs : List Branch) (b : Branch) : Type 0 where
    pub parts : HasParts b
    pub enough : IsTrue (are_enough b.value (length b.children))
    pub low : AllByRecursion (λ child. Low bs child.1) b.children

  abbrev pub AreSeated : List Branch → Type 0
  AreSeated bs = (index : ℕ) (b : Branch) → slice_get bs index ≡ Some b → IsSeated (take index bs) b

  seated-last : (bs : List Branch) (b : Branch) → AreSeated bs → IsSeated bs b → AreSeated (bs ++ b ∷ [])
  seated-last bs b all one index x e = elim (cases_lt index (length bs)) [
    | inl lt ↦
        subst (λ (l : List Branch). IsSeated l x) (sym (take-append-le index bs (b ∷ []) (omega (arith, lt)))) (all index x (sym (get-left bs (b ∷ []) index lt) ∙ e))
    | inr ge ↦
        let within = slice_get_within (bs ++ b ∷ []) index x e in
        let longer = length-append bs (b ∷ []) in
        let last : index ≡ length bs = omega (arith, within, longer, ge) in
        let same : Some b ≡ Some x = sym (get-last bs b) ∙ ap (slice_get (bs ++ b ∷ [])) (sym last) ∙ e in
        let is : b ≡ x = cc same in
        subst (λ (y : Branch). IsSeated (take index (bs ++ b ∷ [])) y) is (subst (λ (l : List Branch). IsSeated l b) (sym (ap (λ (n : ℕ). take n (bs ++ b ∷ [])) last ∙ take-append_seam bs (b ∷ []))) one)
  ]

  low-append : (bs more : List Branch) (at : Address) → Low bs at → Low (bs ++ more) at
  low-append bs [] at low = subst (λ (l : List Branch). Low l at) (sym (append-nil bs)) low
  low-append bs (m ∷ more) at low = subst (λ (l : List Branch). Low l at) (append_assoc bs (m ∷ []) more) (low-append (bs ++ m ∷ []) more at (low_more bs m at low))

  low-extends : (bs cs : List Branch) (at : Address) → Extends bs cs → Low bs at → Low cs at
  low-extends bs cs at x low = subst (λ (l : List Branch). Low l at) (sym x.is) (low-append bs x.more at low)

  pub record IsFine (before : List Branch) (put : Put) : Type 0 where
    pub grown : Extends before put.branches
    pub seated : AreSeated before → AreSeated put.branches
    pub low : Low put.branches put.at

  pub record AreFine (before : List Branch) (children : List Link) (put : PutAll) : Type 0 where
    pub grown : Extends before put.branches
    pub seated : AreSeated before → AreSeated put.branches
    pub low : AllByRecursion (λ child. Low put.branches child.1) put.children
    pub bytes : bytes_of put.children ≡ bytes_of children

  children-fine : (depth : ℕ) → ((before : List Branch) (at : Address) → IsReach base own depth at → IsFine before (put_within depth places own before at)) → (before : List Branch) (cs : List Link) → AllByRecursion (λ child. IsReach base own depth child.1) cs → AreFine before cs (put_children (put_within depth places own) before cs)
  children-fine depth one before [] reach = record { grown = extends-same before; seated = λ s. s; low = tt; bytes = refl }
  children-fine depth one before (c ∷ cs) reach =
      let first = put_within depth places own before c.1 in
      let f = one before c.1 reach.0 in
      let rest = put_children (put_within depth places own) first.branches cs in
      let r = children-fine depth one first.branches cs reach.1 in
      record {
        grown = extends-then before first.branches rest.branches f.grown r.grown;
        seated = λ s. r.seated (f.seated s);
        low = (low-extends first.branches rest.branches first.at r.grown f.low, r.low);
        bytes = ap (λ (l : List ℕ). c.0 ∷ l) r.bytes;
      }

  seat-with_children : (bs : List Branch) (b : Branch) (cs : List Link) → HasParts b → IsTrue (are_enough b.value (length b.children)) → bytes_of cs ≡ bytes_of b.children → AllByRecursion (λ child. Low bs child.1) cs → IsSeated bs (with_children b cs)
  seat-with_children bs b cs parts enough same low = record {
    parts = record {
      key_fits = parts.key_fits;
      value_fits = parts.value_fits;
      bytes = bytes-same cs b.children same parts.bytes;
      rising = rise-same cs b.children same ∙ parts.rising;
    };
    enough = subst (λ (n : ℕ). IsTrue (are_enough b.value n)) (sym (length-same cs b.children same)) enough;
    low = low;
  }

  pub put-fine : (depth : ℕ) (before : List Branch) (at : Address) → IsReach base own depth at → IsFine before (put_within depth places own before at)
  put-fine zero before at r = elim (stands base own zero at r) [
    | AtRecord e below ↦ record { grown = extends-same before; seated = λ s. s; low = low_saved before at e below }
    | AtBranch e file b is ↦ absurd (let lt = r.within e in omega (arith, lt))
  ]
  put-fine (suc depth) before at r = elim (stands base own (suc depth) at r) [
    | AtRecord e below ↦ subst (IsFine before) (sym (put-saved (suc depth) places own before at e)) (record { grown = extends-same before; seated = λ s. s; low = low_saved before at e below })
    | AtBranch e file b is ↦
        let inside = slice_get_within own at.at b is in
        let lt = r.within e in
        let here = sound at.at b is in
        let puts = put_within depth places own in
        let all = put_children puts before b.children in
        let f = children-fine depth (put-fine depth) before b.children (lower-all-reach base own depth at.at b.children (omega (arith, lt)) (omega (arith, inside)) here.lower) in
        let last = with_children b all.children in
        let put : put_within (suc depth) places own before at ≡ put_behind places b all = put-own depth places own before at e ∙ ap (put_branch places puts before at) is in
        subst (IsFine before) (sym put) (record {
          grown = extends-last before all.branches last f.grown;
          seated = λ s. seated-last all.branches last (f.seated s) (seat-with_children all.branches b all.children here.parts here.enough f.bytes f.low);
          low = low_place all.branches last;
        })
  ]

  -- ---- maps

  module _ (old : RecordsAt) (new : List Branch → RecordsAt) (Fine : Branch → Type 0)
      (more : (bs : List Branch) (b : Branch) (n : ℕ) → OnlyMore (new bs) (new (bs ++ b ∷ [])) n)
      (stored : (bs : List Branch) (b : Branch) → Fine b → branch_of (new (bs ++ b ∷ []) (number_of (places bs))) ≡ Some b)
      (kept : (bs : List Branch) (at : Address) → is_saved at ≡ true → IsBelowBase base at → map_at (new bs) (number_of at) ≡ map_at old (number_of at))
      (before_is : (at : Address) (b : Branch) → at.file ≡ own_file → slice_get own at.at ≡ Some b → branch_of (old (number_of at)) ≡ Some b)
      (low_number : (bs : List Branch) (at : Address) → Low bs at → number_of at < number_of (places bs)) where
    more-append : (bs ms : List Branch) (n : ℕ) → OnlyMore (new bs) (new (bs ++ ms)) n
    more-append bs [] n below item le e = subst (λ (l : List Branch). new l below ≡ Some item) (sym (append-nil bs)) e
    more-append bs (m ∷ ms) n below item le e = subst (λ (l : List Branch). new l below ≡ Some item) (append_assoc bs (m ∷ []) ms) (more-append (bs ++ m ∷ []) ms n below item le (more bs m n below item le e))

    -- a map that is there stays
    map-extends : (bs cs : List Branch) (n : ℕ) → Extends bs cs → IsSome (map_at (new bs) n) → map_at (new cs) n ≡ map_at (new bs) n
    map-extends bs cs n x some = ap (λ (l : List Branch). map_at (new l) n) x.is ∙ map_at-more (new bs) (new (bs ++ x.more)) n (more-append bs x.more n) some

    -- children whose maps are the old ones
    abbrev HaveSame : List Branch → List Link → List Link → Type 0
    HaveSame bs [] [] = Unit {0}
    HaveSame bs [] (l ∷ ls) = ⊥
    HaveSame bs (c ∷ cs) [] = ⊥
    HaveSame bs (c ∷ cs) (l ∷ ls) = (l.0 ≡ c.0) × (map_at (new bs) (number_of l.1) ≡ map_at old (number_of c.1)) × HaveSame bs cs ls

    pairs-same : (bs : List Branch) (n m : ℕ) (cs ls : List Link) → HaveSame bs cs ls → HaveChildren old n cs → AllByRecursion (λ (l : Link). number_of l.1 < m) ls → pairs_of_children (map_at (new bs)) m ls ≡ pairs_of_children (map_at old) n cs
    pairs-same bs n m [] [] same have low = refl
    pairs-same bs n m [] (l ∷ ls) same have low = absurd same
    pairs-same bs n m (c ∷ cs) [] same have low = absurd same
    pairs-same bs n m (c ∷ cs) (l ∷ ls) same have low =
        let choose : Bool → ℕ → Option Pairs → Option Pairs → Option Pairs = λ q byte first others. cond q (joined (option_map (under (byte ∷ [])) first) others) None in
        ap (λ (q : Bool). choose q l.0 (map_at (new bs) (number_of l.1)) (pairs_of_children (map_at (new bs)) m ls)) (lt-ltb (number_of l.1) m low.0)
        ∙ ap (λ (b : ℕ). choose true b (map_at (new bs) (number_of l.1)) (pairs_of_children (map_at (new bs)) m ls)) same.0
        ∙ ap (λ (o : Option Pairs). choose true c.0 o (pairs_of_children (map_at (new bs)) m ls)) same.1
        ∙ ap (choose true c.0 (map_at old (number_of c.1))) (pairs-same bs n m cs ls same.2 have.1 low.1)
        ∙ sym (ap (λ (q : Bool). choose q c.0 (map_at old (number_of c.1)) (pairs_of_children (map_at old) n cs)) (lt-ltb (number_of c.1) n have.0.lower))

    same-extends : (bs ds : List Branch) (n : ℕ) (cs ls : List Link) → Extends bs ds → HaveChildren old n cs → HaveSame bs cs ls → HaveSame ds cs ls
    same-extends bs ds n [] [] x have same = tt
    same-extends bs ds n [] (l ∷ ls) x have same = absurd same
    same-extends bs ds n (c ∷ cs) [] x have same = absurd same
    same-extends bs ds n (c ∷ cs) (l ∷ ls) x have same = (same.0, map-extends bs ds (number_of l.1) x (ap is_some same.1 ∙ have.0.map) ∙ same.1, same-extends bs ds n cs ls x have.1 same.2)

    children-same-maps : (depth : ℕ) → ((before : List Branch) (at : Address) → IsReach base own depth at → IsSome (map_at old (number_of at)) → AllByRecursion Fine (put_within depth places own before at).branches → map_at (new (put_within depth places own before at).branches) (number_of (put_within depth places own before at).at) ≡ map_at old (number_of at))
        → (before : List Branch) (n : ℕ) (cs : List Link) → AllByRecursion (λ child. IsReach base own depth child.1) cs → HaveChildren old n cs → AllByRecursion Fine (put_children (put_within depth places own) before cs).branches → HaveSame (put_children (put_within depth places own) before cs).branches cs (put_children (put_within depth places own) before cs).children
    children-same-maps depth one before n [] reach have fine = tt
    children-same-maps depth one before n (c ∷ cs) reach have fine =
        let first = put_within depth places own before c.1 in
        let rest = put_children (put_within depth places own) first.branches cs in
        let x = (children-fine depth (put-fine depth) first.branches cs reach.1).grown in
        let f = one before c.1 reach.0 have.0.map (all-extends Fine first.branches rest.branches x fine) in
        (refl, map-extends first.branches rest.branches (number_of first.at) x (ap is_some f ∙ have.0.map) ∙ f, children-same-maps depth one first.branches n cs reach.1 have.1 fine)

    all-low : (bs : List Branch) (ls : List Link) → AllByRecursion (λ child. Low bs child.1) ls → AllByRecursion (λ (l : Link). number_of l.1 < number_of (places bs)) ls
    all-low bs [] low = tt
    all-low bs (l ∷ ls) low = (low_number bs l.1 low.0, all-low bs ls low.1)

    -- the map at the new address is the old one
    pub put-map : (depth : ℕ) (before : List Branch) (at : Address) → IsReach base own depth at → IsSome (map_at old (number_of at)) → AllByRecursion Fine (put_within depth places own before at).branches → map_at (new (put_within depth places own before at).branches) (number_of (put_within depth places own before at).at) ≡ map_at old (number_of at)
    put-map zero before at r some fine = elim (stands base own zero at r) [
      | AtRecord e below ↦ kept before at e below
      | AtBranch e file b is ↦ absurd (let lt = r.within e in omega (arith, lt))
    ]
    put-map (suc depth) before at r some fine = elim (stands base own (suc depth) at r) [
      | AtRecord e below ↦ subst (λ (p : Put). map_at (new p.branches) (number_of p.at) ≡ map_at old (number_of at)) (sym (put-saved (suc depth) places own before at e)) (kept before at e below)
      | AtBranch e file b is ↦
          let inside = slice_get_within own at.at b is in
          let lt = r.within e in
          let here = sound at.at b is in
          let puts = put_within depth places own in
          let all = put_children puts before b.children in
          let reach = lower-all-reach base own depth at.at b.children (omega (arith, lt)) (omega (arith, inside)) here.lower in
          let f = children-fine depth (put-fine depth) before b.children reach in
          let last = with_children b all.children in
          let now = all.branches ++ last ∷ [] in
          let put : put_within (suc depth) places own before at ≡ put_behind places b all = put-own depth places own before at e ∙ ap (put_branch places puts before at) is in
          let fine_now : AllByRecursion Fine now = subst (λ (p : Put). AllByRecursion Fine p.branches) put fine in
          let was : branch_of (old (number_of at)) ≡ Some b = before_is at b file is in
          let have : HaveChildren old (number_of at) b.children = map-down old (number_of at) b some was in
          let x : Extends all.branches now = record { more = last ∷ []; is = refl } in
          let same = children-same-maps depth (put-map depth) before (number_of at) b.children reach have (all-extends Fine all.branches now x fine_now) in
          let same_now = same-extends all.branches now (number_of at) b.children all.children x have same in
          let is_now : branch_of (new now (number_of (places all.branches))) ≡ Some last = stored all.branches last (fine-last Fine all.branches last fine_now) in
          subst (λ (p : Put). map_at (new p.branches) (number_of p.at) ≡ map_at old (number_of at)) (sym put)
          (map_at-branch (new now) (number_of (places all.branches)) last is_now
          ∙ ap (option_map (λ pairs. under b.key (own_pair b.value ++ pairs))) (pairs-same now (number_of at) (number_of (places all.branches)) b.children all.children same_now have (all-low all.branches all.children f.low))
          ∙ sym (map_at-branch old (number_of at) b was))
    ]
