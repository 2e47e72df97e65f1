-- Which entries of a branch pass, by where the key goes at its key part.
use Rattle.std.proofs.Common.{◌≡◌, ◌≤◌, ℕ, ◌+◌, List, [], ◌∷◌, ◌++◌, drop, length, Bool, true, false, cond, eqb, Option, Some, None, slice_get, refl, sym, ◌∙◌, ap, arith, inl, inr}
use Rattle.std.specs.Option.{option_map}
use Rattle.std.specs.Ordering.{is_lt}
use Rattle.std.proofs.lemmas.Bool.{cases_eq}
use Rattle.std.proofs.lemmas.Bool.Decides.{nat_tests}
use Rattle.std.proofs.lemmas.List.{append-nil, drop_all}
use Rattle.xod_base.specs.Values.{bytes_cmp}
use Rattle.xod_base.specs.Views.{Test}
use Rattle.xod_block.specs.Maps.{RecordsAt, Pairs, under, own_pair, map_at}
use Rattle.xod_block.specs.Records.{Link, RecordValue, rise}
use Rattle.xod_block.proofs.CallerLemmas.{children-join}
use Rattle.xod_trie.specs.declared.branch.Branch.{Branch}
use Rattle.xod_trie.specs.Branches.{FitsBranch, IsBranch, branch_of, behind}
use Rattle.xod_trie.specs.Damage.{Names}
use Rattle.xod_trie.specs.Least.{passes}
use Rattle.xod_trie.proofs.CallerLemmas.{AllAbove, all_above, drop_at_place, map_at-branch}
use Rattle.xod_cursor.specs.declared.wanted.Onward.{Onward}
use Rattle.xod_cursor.specs.Entries.{kept}
use Rattle.xod_cursor.specs.Wants.{count_below, entries_under, onward_children, IsOnward, IsInto}
use Rattle.xod_cursor.proofs.Children.{no_entries, Joining, children-all, children-above, children-into, children-below, rise-drop, place-not_below}
use Rattle.xod_cursor.proofs.Kept.{kept-append, kept-under_same, kept-under_all, kept-under_none}
use Rattle.xod_cursor.proofs.Passing.{passes-front, passes-behind, passes-any, passes-longer, passes-shorter, passes-apart}

pub behind-whole : (front key left : List ℕ) → behind front key ≡ Some left → key ≡ front ++ left
behind-whole [] key left e = cc e
behind-whole (x ∷ front) [] left e = absurd cc
behind-whole (x ∷ front) (y ∷ key) left e = elim (cases_eq x y) [
  | inl same ↦
      let yes : eqb x y ≡ true = grind (arith, nat_tests) in
      let later = behind-whole front key left (sym (ap (λ (b : Bool). cond b (behind front key) None) yes) ∙ e) in
      ap (λ (b : ℕ). b ∷ key) (sym same) ∙ ap (λ (l : List ℕ). x ∷ l) later
  | inr apart ↦
      let no : eqb x y ≡ false = grind (arith, nat_tests) in
      let none : None ≡ Some left = sym (ap (λ (b : Bool). cond b (behind front key) None) no) ∙ e in
      absurd (cc none)
]

-- what was made of a list that may be there
pub mapped : (f : Pairs → Pairs) (o : Option Pairs) (made : Pairs) → option_map f o ≡ Some made → (es : Pairs) × (o ≡ Some es) × (made ≡ f es)
mapped f None made e = absurd cc
mapped f (Some es) made e = (es, refl, cc)

-- the entries of a branch: its own, and those under its children
pub record Opened (records : RecordsAt) (at : ℕ) (branch : Branch) (pairs : Pairs) : Type 0 where
  pub others : Pairs
  pub others_is : entries_under records at branch.children ≡ Some others
  pub is : pairs ≡ under branch.key (own_pair branch.value ++ others)

pub opened : (records : RecordsAt) (at : ℕ) (branch : Branch) (pairs : Pairs) → branch_of (records at) ≡ Some branch → map_at records at ≡ Some pairs → Opened records at branch pairs
opened records at branch pairs here map =
    let h = mapped (λ es. under branch.key (own_pair branch.value ++ es)) (entries_under records at branch.children) pairs (sym (map_at-branch records at branch here) ∙ map) in
    record { others = h.0; others_is = h.1; is = h.2 }

own-none : (p : Test) (value : Option (List ℕ)) → p [] ≡ false → kept p (own_pair value) ≡ []
own-none p None fails = refl
own-none p (Some value) fails = ap (λ (b : Bool). cond b (([], value) ∷ []) []) fails

module _ (records : RecordsAt) (at : ℕ) (branch : Branch) (here : IsBranch (records at) branch) (pairs : Pairs) (map : map_at records at ≡ Some pairs) where
  whole-branch : Opened records at branch pairs
  whole-branch = opened records at branch pairs here.is map

  -- the key leaves the key part below it, or above it
  pub apart-all : (strict : Bool) (rest : List ℕ) → behind branch.key rest ≡ None → is_lt (bytes_cmp rest branch.key) ≡ true → kept (passes strict rest) pairs ≡ pairs
  apart-all strict rest apart under_it =
      let o = whole-branch in
      ap (kept (passes strict rest)) o.is
      ∙ kept-under_all (passes strict rest) branch.key (λ k. passes-apart strict branch.key rest k apart ∙ under_it) (own_pair branch.value ++ o.others)
      ∙ sym o.is

  pub apart-none : (strict : Bool) (rest : List ℕ) → behind branch.key rest ≡ None → is_lt (bytes_cmp rest branch.key) ≡ false → kept (passes strict rest) pairs ≡ []
  apart-none strict rest apart over_it =
      let o = whole-branch in
      ap (kept (passes strict rest)) o.is
      ∙ kept-under_none (passes strict rest) branch.key (λ k. passes-apart strict branch.key rest k apart ∙ over_it) (own_pair branch.value ++ o.others)

  -- the key is that of the branch
  pub here-all : (rest left : List ℕ) → behind branch.key rest ≡ Some left → left ≡ [] → kept (passes false rest) pairs ≡ pairs
  here-all rest left is nothing =
      let o = whole-branch in
      let same : rest ≡ branch.key = behind-whole branch.key rest left is ∙ ap (λ (l : List ℕ). branch.key ++ l) nothing ∙ append-nil branch.key in
      ap (λ (k : List ℕ). kept (passes false k) pairs) same
      ∙ ap (kept (passes false branch.key)) o.is
      ∙ kept-under_all (passes false branch.key) branch.key (λ k. passes-behind false branch.key k ∙ passes-any k) (own_pair branch.value ++ o.others)
      ∙ sym o.is

  -- the entries that pass of its children, where its own does not
  under-part : (strict : Bool) (rest left : List ℕ) (others : Pairs) → rest ≡ branch.key ++ left → passes strict left [] ≡ false → pairs ≡ under branch.key (own_pair branch.value ++ others) → kept (passes strict rest) pairs ≡ under branch.key (kept (passes strict left) others)
  under-part strict rest left others whole fails is =
      ap (λ (k : List ℕ). kept (passes strict k) pairs) whole
      ∙ ap (kept (passes strict (branch.key ++ left))) is
      ∙ kept-under_same (passes strict (branch.key ++ left)) (passes strict left) branch.key (λ k. passes-front strict branch.key left k) (own_pair branch.value ++ others)
      ∙ ap (under branch.key) (kept-append (passes strict left) (own_pair branch.value) others ∙ ap (λ (l : Pairs). l ++ kept (passes strict left) others) (own-none (passes strict left) branch.value fails))

  pub here-strict : (rest left : List ℕ) (onward : Onward) → behind branch.key rest ≡ Some left → left ≡ [] → onward.part.now ≡ branch.key → onward.behind.now ≡ left → onward_children onward ≡ branch.children → IsOnward records at rest onward (kept (passes true rest) pairs)
  here-strict rest left onward is nothing part behind_is children =
      let o = whole-branch in
      let whole : rest ≡ branch.key ++ left = behind-whole branch.key rest left is in
      record {
        whole = whole ∙ (λ i. sym part i ++ sym behind_is i);
        others = o.others;
        others_is = ap (entries_under records at) children ∙ o.others_is;
        is = under-part true rest left o.others whole (ap (λ (k : List ℕ). passes true k []) nothing) o.is
            ∙ ap (λ (k : List ℕ). under branch.key (kept (passes true k) o.others)) nothing
            ∙ ap (under branch.key) (children-all records at (passes true []) (λ c k. passes-longer true c k) branch.children o.others o.others_is)
            ∙ ap (λ (k : List ℕ). under k o.others) (sym part);
      }

  -- ---- the key goes on behind it
  module _ (strict : Bool) (rest left : List ℕ) (byte : ℕ) (further : List ℕ) (onward : Onward) (whole : rest ≡ branch.key ++ left) (goes_on : left ≡ byte ∷ further) (part : onward.part.now ≡ branch.key) (behind_is : onward.behind.now ≡ left) where
    onward-whole : rest ≡ onward.part.now ++ onward.behind.now
    onward-whole = whole ∙ (λ i. sym part i ++ sym behind_is i)

    -- all that pass are among those under the children from a place on
    from-place : (o : Opened records at branch pairs) (others : Pairs) → kept (passes strict (byte ∷ further)) o.others ≡ kept (passes strict (byte ∷ further)) others → kept (passes strict rest) pairs ≡ under onward.part.now (kept (passes strict (byte ∷ further)) others)
    from-place o others is =
        under-part strict rest left o.others whole (ap (λ (k : List ℕ). passes strict k []) goes_on ∙ passes-shorter strict byte further) o.is
        ∙ ap (λ (k : List ℕ). under branch.key (kept (passes strict k) o.others)) goes_on
        ∙ ap (under branch.key) is
        ∙ ap (λ (k : List ℕ). under k (kept (passes strict (byte ∷ further)) others)) (sym part)

    module _ (place : ℕ) (place_is : place ≡ count_below byte branch.children) where
      -- all that pass are under the children from the place on
      at-place : (o : Opened records at branch pairs) → (others : Pairs) × (entries_under records at (drop place branch.children) ≡ Some others) × (kept (passes strict rest) pairs ≡ under onward.part.now (kept (passes strict (byte ∷ further)) others))
      at-place o =
          let l = children-below records at strict byte further branch.children o.others o.others_is in
          (l.others, ap (λ (n : ℕ). entries_under records at (drop n branch.children)) place_is ∙ l.others_is, from-place o l.others l.is)

      -- there is no child at the place
      pub on-past : length branch.children ≤ place → onward_children onward ≡ drop place branch.children → IsOnward records at rest onward (kept (passes strict rest) pairs)
      on-past past children =
          let l = at-place whole-branch in
          let none : l.0 ≡ [] = no_entries l.0 (sym (ap (entries_under records at) (drop_all place branch.children past)) ∙ l.1) in
          record {
            whole = onward-whole;
            others = l.0;
            others_is = ap (entries_under records at) children ∙ l.1;
            is = l.2 ∙ ap (under onward.part.now) (ap (kept (passes strict (byte ∷ further))) none ∙ sym none);
          }

      -- a child stands there
      module _ (child : Link) (there : slice_get branch.children place ≡ Some child) where
        split : drop place branch.children ≡ child ∷ drop (place + 1) branch.children
        split = drop_at_place branch.children place child there

        up : rise (child ∷ drop (place + 1) branch.children) ≡ true
        up = sym (ap rise split) ∙ rise-drop place branch.children here.rises

        at_least : byte ≤ child.0
        at_least = place-not_below byte branch.children child (ap (slice_get branch.children) (sym place_is) ∙ there)

        -- not under the byte, so under a greater one
        pub on-above : (child.0 ≡ byte → ⊥) → onward_children onward ≡ drop place branch.children → IsOnward records at rest onward (kept (passes strict rest) pairs)
        on-above apart children =
            let l = at-place whole-branch in
            let ge = at_least in
            let above : AllAbove byte (child ∷ drop (place + 1) branch.children) = (omega (arith, ge, apart), all_above child (drop (place + 1) branch.children) byte ge up) in
            record {
              whole = onward-whole;
              others = l.0;
              others_is = ap (entries_under records at) children ∙ l.1;
              is = l.2 ∙ ap (under onward.part.now) (children-above records at strict byte further (child ∷ drop (place + 1) branch.children) l.0 above (sym (ap (entries_under records at) split) ∙ l.1));
            }

        -- under the byte
        into-from : child.0 ≡ byte → (others : List Link) → onward_children onward ≡ others → AllAbove byte others → (es : Pairs) → kept (passes strict rest) pairs ≡ under onward.part.now (kept (passes strict (byte ∷ further)) es) → Joining records at child others es → IsInto records strict at rest child further onward (kept (passes strict rest) pairs)
        into-from same others children above es is j = record {
          whole = onward-whole;
          behind_is = behind_is ∙ goes_on ∙ ap (λ (b : ℕ). b ∷ further) (sym same);
          first = j.first;
          first_is = j.first_is;
          others = j.others;
          others_is = ap (entries_under records at) children ∙ j.others_is;
          is = is ∙ ap (under onward.part.now) (children-into records at strict byte further child others es j same above);
        }

        pub on-into : child.0 ≡ byte → onward_children onward ≡ drop (place + 1) branch.children → IsInto records strict at rest child further onward (kept (passes strict rest) pairs)
        on-into same children =
            let l = at-place whole-branch in
            into-from same (drop (place + 1) branch.children) children (all_above child (drop (place + 1) branch.children) byte (omega (arith, same)) up) l.0 l.2
            (children-join (map_at records) at child (drop (place + 1) branch.children) l.0 (sym (ap (entries_under records at) split) ∙ l.1))

-- a child at a place is named
pub child-named : (item : Option RecordValue) (branch : Branch) (child : Link) (place : ℕ) → branch_of item ≡ Some branch → slice_get branch.children place ≡ Some child → Names item child.1
child-named item branch child place is there = record { branch = branch; is = is; index = place; byte = child.0; link = there }

-- the branch that was read stands at the address
pub read-branch : (records : RecordsAt) (at : ℕ) (item : Option RecordValue) (branch : Branch) → item ≡ records at → Some branch ≡ branch_of item → FitsBranch branch → IsBranch (records at) branch
read-branch records at item branch read is fits = record { is = ap branch_of (sym read) ∙ sym is; rises = fits.rising }
