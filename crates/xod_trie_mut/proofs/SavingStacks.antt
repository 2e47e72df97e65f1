-- Frames that wait for one another, and what they will have put out in the end.
use Rattle.std.proofs.Common.{◌≡◌, ◌<◌, ◌≤◌, ℕ, suc, zero, ◌+◌, Bool, true, List, [], ◌∷◌, ◌++◌, length, take, drop, reverse, Option, Some, None, slice_get, refl, sym, ◌∙◌, ap, subst, arith, append_assoc, length-append, inl, inr}
use Rattle.std.specs.Prelude.{IsTrue}
use Rattle.std.specs.List.{AllByRecursion}
use Rattle.std.specs.Option.{option_and_then, option_map}
use Rattle.std.proofs.lemmas.List.{append-nil, drop_all, map-append, reverse-append, take_all}
use Rattle.std.proofs.lemmas.Option.{slice_get_cases, slice_get_within}
use Rattle.xod_block.specs.declared.address.Address.{Address}
use Rattle.xod_block.specs.Records.{Link}
use Rattle.xod_trie.specs.declared.branch.Branch.{Branch}
use Rattle.xod_trie.proofs.CallerLemmas.{take_one_more, drop_at_place}
use Rattle.xod_trie_mut.specs.declared.frames.Frame.{Frame}
use Rattle.xod_trie_mut.specs.Frames.{IsDone, IsFrame, byte_in, with_child, next_of}
use Rattle.xod_trie_mut.specs.Keeps.{HasPut, IsPutLast, IsPutUnder, bytes_of, with_children, places_of, put_from, with_all}
use Rattle.xod_trie_mut.specs.Own.{AreOwn, IsLower, is_saved, own_address}
use Rattle.xod_trie_mut.specs.Saves.{Places, Put, PutAll, put_behind, put_children, put_within}
use Rattle.xod_trie_mut.proofs.SavingSteps.{Puts, lower-within, put-here, put-saved}

-- ---- lists

pub all-append : {X : Type 0} (P : X → Type 0) (xs ys : List X) → AllByRecursion P xs → AllByRecursion P ys → AllByRecursion P (xs ++ ys)
all-append P [] ys a b = b
all-append P (x ∷ xs) ys a b = (a.0, all-append P xs ys a.1 b)

pub get-there : {X : Type 0} (xs : List X) (index : ℕ) → index < length xs → (x : X) × (slice_get xs index ≡ Some x)
get-there xs index lt = elim ((slice_get_cases xs index).1) [
  | inl h ↦ (h.0, h.2)
  | inr h ↦ absurd (let le = h.0 in omega (arith, lt, le))
]

pub past-end : {X : Type 0} (xs : List X) (index : ℕ) → slice_get xs index ≡ None → length xs ≤ index
past-end xs index e = elim ((slice_get_cases xs index).1) [
  | inl h ↦ absurd (let is : Some h.0 ≡ None = sym h.2 ∙ e in cc)
  | inr h ↦ h.0
]

pub all-get : {X : Type 0} (P : X → Type 0) (xs : List X) (index : ℕ) (x : X) → slice_get xs index ≡ Some x → AllByRecursion P xs → P x
all-get P [] index x e a = absurd cc
all-get P (y ∷ xs) zero x e a = let is : y ≡ x = cc e in subst P is a.0
all-get P (y ∷ xs) (suc index) x e a = all-get P xs index x e a.1

pub with_all-append : {K : Type 0} (f : K → Branch → K) (k : K) (bs : List Branch) (b : Branch) → with_all f k (bs ++ b ∷ []) ≡ f (with_all f k bs) b
with_all-append f k [] b = refl
with_all-append f k (c ∷ bs) b = with_all-append f (f k c) bs b

-- ---- what a frame makes, once its other children are put

abbrev pub after : List Link → PutAll → PutAll
after list below = record { branches = below.branches; children = list ++ below.children }

abbrev pub put_rest : Places → Puts → List Branch → Frame → Option Branch → Put
put_rest places puts before frame None = record { branches = before; at = own_address frame.index }
put_rest places puts before frame (Some branch) = put_behind places branch (after frame.list (put_children puts before (drop (length frame.list) branch.children)))

abbrev pub all_puts : Places → List Branch → Puts
all_puts places own = put_within (suc (length own)) places own

abbrev pub put_frame : Places → List Branch → List Branch → Frame → Put
put_frame places own before frame = put_rest places (all_puts places own) before frame (slice_get own frame.index)

-- and what a row of frames makes of the child that the first of them waits for
abbrev pub finish : Places → List Branch → List Frame → Put → Put
finish places own [] put = put
finish places own (frame ∷ frames) put = finish places own frames (put_frame places own put.branches (with_child frame (byte_in (next_of own frame)) put.at))

next-child : (own : List Branch) (frame : Frame) (branch : Branch) (o : Option Link) → slice_get own frame.index ≡ Some branch → next_of own frame ≡ o → slice_get branch.children (length frame.list) ≡ o
next-child own frame branch o is e = sym (ap (option_and_then (λ (b : Branch). slice_get b.children (length frame.list))) is) ∙ e

rest-step : (places : Places) (puts : Puts) (before : List Branch) (frame : Frame) (branch : Branch) (child : Link) → slice_get branch.children (length frame.list) ≡ Some child → put_rest places puts before frame (Some branch) ≡ put_rest places puts (puts before child.1).branches (with_child frame child.0 (puts before child.1).at) (Some branch)
rest-step places puts before frame branch child e =
    let one = puts before child.1 in
    let link : Link = (child.0, one.at) in
    let below = put_children puts one.branches (drop (length frame.list + 1) branch.children) in
    ap (λ (cs : List Link). put_behind places branch (after frame.list (put_children puts before cs))) (drop_at_place branch.children (length frame.list) child e)
    ∙ ap (λ (ls : List Link). put_behind places branch (record { branches = below.branches; children = ls })) (sym (append_assoc frame.list (link ∷ []) below.children))
    ∙ ap (λ (n : ℕ). put_behind places branch (after (frame.list ++ link ∷ []) (put_children puts one.branches (drop n branch.children)))) (sym (length-append frame.list (link ∷ [])))

frame-step : (places : Places) (own before : List Branch) (frame : Frame) (branch : Branch) (child : Link) → slice_get own frame.index ≡ Some branch → next_of own frame ≡ Some child → put_frame places own before frame ≡ put_frame places own (all_puts places own before child.1).branches (with_child frame child.0 (all_puts places own before child.1).at)
frame-step places own before frame branch child is e =
    let puts = all_puts places own in
    let one = puts before child.1 in
    ap (put_rest places puts before frame) is
    ∙ rest-step places puts before frame branch child (next-child own frame branch (Some child) is e)
    ∙ sym (ap (put_rest places puts one.branches (with_child frame child.0 one.at)) is)

frame-done : (places : Places) (own before : List Branch) (frame : Frame) (branch : Branch) → slice_get own frame.index ≡ Some branch → next_of own frame ≡ None → put_frame places own before frame ≡ record { branches = before ++ with_children branch frame.list ∷ []; at = places before }
frame-done places own before frame branch is e =
    let puts = all_puts places own in
    let end = past-end branch.children (length frame.list) (next-child own frame branch None is e) in
    ap (put_rest places puts before frame) is
    ∙ ap (λ (cs : List Link). put_behind places branch (after frame.list (put_children puts before cs))) (drop_all (length frame.list) branch.children end)
    ∙ ap (λ (ls : List Link). put_behind places branch (record { branches = before; children = ls })) (append-nil frame.list)

-- ---- the state of the loop

-- a frame whose next child is a branch of the list
pub record IsWaiting (names : Address → Bool) (own : List Branch) (index : ℕ) (frame : Frame) : Type 0 where
  pub here : IsFrame names own frame
  pub child : Link
  pub child_is : next_of own frame ≡ Some child
  pub at_is : child.1 ≡ own_address index

abbrev pub Wait : (Address → Bool) → List Branch → ℕ → List Frame → Type 0
Wait names own index [] = Unit {0}
Wait names own index (frame ∷ frames) = IsWaiting names own index frame × Wait names own frame.index frames

pub record State {K : Type 0} (place : K → Address) (with_last : K → Branch → K) (names : Address → Bool) (Takes : Branch → Type 0) (own : List Branch) (index : ℕ) (old now : K) (top : Frame) (stack : List Frame) : Type 0 where
  pub branches : List Branch
  pub is : now ≡ with_all with_last old branches
  pub taken : AllByRecursion Takes branches
  pub here : IsFrame names own top
  pub wait : Wait names own top.index (reverse stack)
  pub same : finish (places_of place with_last old) own (reverse stack) (put_frame (places_of place with_last old) own branches top) ≡ put_from (places_of place with_last old) own index

frame-more : (names : Address → Bool) (own : List Branch) (frame : Frame) (child : Link) (at : Address) → IsFrame names own frame → next_of own frame ≡ Some child → IsTrue (names at) → IsFrame names own (with_child frame child.0 at)
frame-more names own frame child at f e named =
    let n = length frame.list in
    let cs = f.branch.children in
    let get = next-child own frame f.branch (Some child) f.is e in
    record {
      branch = f.branch;
      is = f.is;
      bytes = map-append (λ (c : Link). c.0) frame.list ((child.0, at) ∷ [])
          ∙ ap (λ (l : List ℕ). l ++ child.0 ∷ []) f.bytes
          ∙ sym (map-append (λ (c : Link). c.0) (take n cs) (child ∷ []))
          ∙ sym (ap bytes_of (take_one_more cs n child get))
          ∙ ap (λ (k : ℕ). bytes_of (take k cs)) (sym (length-append frame.list ((child.0, at) ∷ [])));
      named = all-append (λ (c : Link). IsTrue (names c.1)) frame.list ((child.0, at) ∷ []) f.named (named, tt);
    }

frame-first : (names : Address → Bool) (own : List Branch) (index : ℕ) (top : Frame) → index < length own → top ≡ record { index = index; list = [] } → IsFrame names own top
frame-first names own index top inside is =
    let there = get-there own index inside in
    subst (IsFrame names own) (sym is) (record { branch = there.0; is = there.1; bytes = refl; named = tt })

module _ {K : Type 0} (place : K → Address) (with_last : K → Branch → K) (names : Address → Bool) (Takes : Branch → Type 0) (base : Option Address) (own : List Branch) (sound : AreOwn base own) (index : ℕ) (old : K) where
  abbrev places : Places
  places = places_of place with_last old

  abbrev StateAt : K → Frame → List Frame → Type 0
  StateAt now top stack = State place with_last names Takes own index old now top stack

  first-put : (before : List Branch) (i : ℕ) → i < length own → put_frame places own before (record { index = i; list = [] }) ≡ all_puts places own before (own_address i)
  first-put before i inside =
      let there = get-there own i inside in
      ap (put_rest places (all_puts places own) before (record { index = i; list = [] })) there.1
      ∙ sym (put-here places base own sound before i there.0 there.1)

  pub state-first : (top : Frame) (stack : List Frame) → index < length own → top ≡ record { index = index; list = [] } → stack ≡ [] → StateAt old top stack
  state-first top stack inside is none = record {
    branches = [];
    is = refl;
    taken = tt;
    here = frame-first names own index top inside is;
    wait = subst (λ (l : List Frame). Wait names own top.index (reverse l)) (sym none) tt;
    same = ap (λ (l : List Frame). finish places own (reverse l) (put_frame places own [] top)) none
        ∙ ap (put_frame places own []) is
        ∙ first-put [] index inside;
  }

  -- a child that is a record stays where it is
  pub state-with_child : (now : K) (top next : Frame) (stack : List Frame) (child : Link) → StateAt now top stack → next_of own top ≡ Some child → is_saved child.1 ≡ true → IsTrue (names child.1) → next ≡ with_child top child.0 child.1 → StateAt now next stack
  state-with_child now top next stack child s e saved named is =
      let one : all_puts places own s.branches child.1 ≡ record { branches = s.branches; at = child.1 } = put-saved (suc (length own)) places own s.branches child.1 saved in
      subst (λ (f : Frame). StateAt now f stack) (sym is) (record {
        branches = s.branches;
        is = s.is;
        taken = s.taken;
        here = frame-more names own top child child.1 s.here e named;
        wait = s.wait;
        same = sym (ap (λ (p : Put). finish places own (reverse stack) p) (frame-step places own s.branches top s.here.branch child s.here.is e ∙ ap (λ (p : Put). put_frame places own p.branches (with_child top child.0 p.at)) one)) ∙ s.same;
      })

  -- one in memory is put first
  pub state-down : (now : K) (top below : Frame) (stack stack2 : List Frame) (child : Link) (i : ℕ) → StateAt now top stack → next_of own top ≡ Some child → child.1 ≡ own_address i → i < length own → below ≡ record { index = i; list = [] } → stack2 ≡ stack ++ top ∷ [] → StateAt now below stack2
  state-down now top below stack stack2 child i s e at_is inside is pushed =
      let first : Frame = record { index = i; list = [] } in
      let puts = all_puts places own in
      let back : reverse stack2 ≡ top ∷ reverse stack = ap reverse pushed ∙ reverse-append stack (top ∷ []) in
      let put : puts s.branches child.1 ≡ put_frame places own s.branches first = ap (puts s.branches) at_is ∙ sym (first-put s.branches i inside) in
      subst (λ (f : Frame). StateAt now f stack2) (sym is) (record {
        branches = s.branches;
        is = s.is;
        taken = s.taken;
        here = frame-first names own i first inside refl;
        wait = subst (Wait names own i) (sym back) (record { here = s.here; child = child; child_is = e; at_is = at_is }, s.wait);
        same = ap (λ (l : List Frame). finish places own l (put_frame places own s.branches first)) back
            ∙ ap (λ (p : Put). finish places own (top ∷ reverse stack) p) (sym put)
            ∙ ap (λ (o : Option Link). finish places own (reverse stack) (put_frame places own (puts s.branches child.1).branches (with_child top (byte_in o) (puts s.branches child.1).at))) e
            ∙ sym (ap (λ (p : Put). finish places own (reverse stack) p) (frame-step places own s.branches top s.here.branch child s.here.is e))
            ∙ s.same;
      })

  -- how deep it goes
  pub child-inside : (now : K) (top : Frame) (stack : List Frame) (child : Link) (i : ℕ) → StateAt now top stack → next_of own top ≡ Some child → child.1 ≡ own_address i → (i < top.index) × (i < length own)
  child-inside now top stack child i s e at_is =
      let get = next-child own top s.here.branch (Some child) s.here.is e in
      let inside = slice_get_within own top.index s.here.branch s.here.is in
      let low = all-get (λ (c : Link). IsLower base top.index c.1) s.here.branch.children (length top.list) child get (sound top.index s.here.branch s.here.is).lower in
      let lt = lower-within base top.index (own_address i) (subst (IsLower base top.index) at_is low) refl in
      (lt, omega (arith, lt, inside))

  -- all children are put
  pub state-done : (now : K) (top : Frame) (stack : List Frame) → StateAt now top stack → next_of own top ≡ None → IsDone names own top
  state-done now top stack s e =
      let own_is = sound top.index s.here.branch s.here.is in
      let end = past-end s.here.branch.children (length top.list) (next-child own top s.here.branch None s.here.is e) in
      record {
        branch = s.here.branch;
        is = s.here.is;
        can = record {
          parts = own_is.parts;
          enough = own_is.enough;
          bytes = s.here.bytes ∙ ap bytes_of (take_all (length top.list) s.here.branch.children end);
          named = s.here.named;
        };
      }

  kept-put : (now : K) (top : Frame) (stack : List Frame) (s : StateAt now top stack) (at : Address) → next_of own top ≡ None → at ≡ place now → put_frame places own s.branches top ≡ record { branches = s.branches ++ with_children s.here.branch top.list ∷ []; at = at }
  kept-put now top stack s at e at_is =
      frame-done places own s.branches top s.here.branch s.here.is e
      ∙ ap (λ (a : Address). record { branches = s.branches ++ with_children s.here.branch top.list ∷ []; at = a }) (sym (at_is ∙ ap place s.is))

  -- nobody waits for it
  pub state-end : (now new : K) (top : Frame) (stack : List Frame) (s : StateAt now top stack) (at : Address) → next_of own top ≡ None → IsPutLast place with_last names Takes now new (with_children s.here.branch top.list) at → stack ≡ [] → IsPutUnder place with_last names Takes own index old new at
  state-end now new top stack s at e p none =
      let all : record { branches = s.branches ++ with_children s.here.branch top.list ∷ []; at = at } ≡ put_from places own index =
      sym (kept-put now top stack s at e p.at_is) ∙ sym (ap (λ (l : List Frame). finish places own (reverse l) (put_frame places own s.branches top)) none) ∙ s.same in
      record {
        put = p.put ∙ ap (λ (k : K). with_last k (with_children s.here.branch top.list)) s.is ∙ sym (with_all-append with_last old s.branches (with_children s.here.branch top.list)) ∙ ap (λ (x : Put). with_all with_last old x.branches) all;
        at_is = ap (λ (x : Put). x.at) all;
        named = p.named;
        taken = subst (λ (x : Put). AllByRecursion Takes x.branches) all (all-append Takes s.branches (with_children s.here.branch top.list ∷ []) s.taken (p.taken, tt));
      }

  waiting-last : (stack stack2 : List Frame) (parent : Frame) (i : ℕ) → stack ≡ stack2 ++ parent ∷ [] → Wait names own i (reverse stack) → IsWaiting names own i parent × Wait names own parent.index (reverse stack2)
  waiting-last stack stack2 parent i popped w = subst (Wait names own i) (ap reverse popped ∙ reverse-append stack2 (parent ∷ [])) w

  -- the frame that waits has a child to wait for
  pub parent-waits : (now : K) (top : Frame) (stack stack2 : List Frame) (parent : Frame) → StateAt now top stack → stack ≡ stack2 ++ parent ∷ [] → IsWaiting names own top.index parent
  parent-waits now top stack stack2 parent s popped = (waiting-last stack stack2 parent top.index popped s.wait).0

  -- and goes on
  pub state-up : (now new : K) (top parent next : Frame) (stack stack2 : List Frame) (s : StateAt now top stack) (at : Address) (child : Link) → next_of own top ≡ None → IsPutLast place with_last names Takes now new (with_children s.here.branch top.list) at → stack ≡ stack2 ++ parent ∷ [] → next_of own parent ≡ Some child → next ≡ with_child parent child.0 at → StateAt new next stack2
  state-up now new top parent next stack stack2 s at child e p popped more is =
      let last = with_children s.here.branch top.list in
      let all = s.branches ++ last ∷ [] in
      let w = waiting-last stack stack2 parent top.index popped s.wait in
      let back : reverse stack ≡ parent ∷ reverse stack2 = ap reverse popped ∙ reverse-append stack2 (parent ∷ []) in
      subst (λ (f : Frame). StateAt new f stack2) (sym is) (record {
        branches = all;
        is = p.put ∙ ap (λ (k : K). with_last k last) s.is ∙ sym (with_all-append with_last old s.branches last);
        taken = all-append Takes s.branches (last ∷ []) s.taken (p.taken, tt);
        here = frame-more names own parent child at w.0.here more p.named;
        wait = w.1;
        same = sym (ap (λ (o : Option Link). finish places own (reverse stack2) (put_frame places own all (with_child parent (byte_in o) at))) more)
            ∙ sym (ap (λ (x : Put). finish places own (parent ∷ reverse stack2) x) (kept-put now top stack s at e p.at_is))
            ∙ sym (ap (λ (l : List Frame). finish places own l (put_frame places own s.branches top)) back)
            ∙ s.same;
      })

  -- what was put is more
  pub state-kept : (now new : K) (top : Frame) (stack : List Frame) (s : StateAt now top stack) (at : Address) → IsPutLast place with_last names Takes now new (with_children s.here.branch top.list) at → HasPut with_last old new
  state-kept now new top stack s at p =
      let last = with_children s.here.branch top.list in
      record { branches = s.branches ++ last ∷ []; is = p.put ∙ ap (λ (k : K). with_last k last) s.is ∙ sym (with_all-append with_last old s.branches last) }

-- ---- what the steps of the code answer

pub next-there : (own : List Branch) (frame : Frame) (at : Address) → option_map (λ (c : Link). c.1) (next_of own frame) ≡ Some at → (child : Link) × (next_of own frame ≡ Some child) × (child.1 ≡ at)
next-there own frame at e = there (next_of own frame) refl e where
  there : (o : Option Link) → next_of own frame ≡ o → option_map (λ (c : Link). c.1) o ≡ Some at → (child : Link) × (next_of own frame ≡ Some child) × (child.1 ≡ at)
  there None is e = absurd cc
  there (Some child) is e = (child, is, cc e)

pub next-none : (own : List Branch) (frame : Frame) → option_map (λ (c : Link). c.1) (next_of own frame) ≡ None → next_of own frame ≡ None
next-none own frame e = none (next_of own frame) e where
  none : (o : Option Link) → option_map (λ (c : Link). c.1) o ≡ None → o ≡ None
  none None e = refl
  none (Some child) e = absurd cc

pub next-with_child : (own : List Branch) (frame next : Frame) (child : Link) (at : Address) → next_of own frame ≡ Some child → next ≡ with_child frame (byte_in (next_of own frame)) at → next ≡ with_child frame child.0 at
next-with_child own frame next child at e is = is ∙ ap (λ (o : Option Link). with_child frame (byte_in o) at) e
