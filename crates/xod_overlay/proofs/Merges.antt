-- The walk over two sides in step finds the least pair of the tree that is seen.
use Rattle.std.proofs.Common.{◌≡◌, ℕ, Bool, true, false, cond, List, [], ◌∷◌, Option, Some, None, is_some, option_map, refl, sym, ap, ◌∙◌, true≢false}
use Rattle.std.specs.Prelude.{T}
use Rattle.std.specs.declared.cmp.Ordering.{Ordering}
use Rattle.std.specs.declared.cmp.Ordering.TheVariants.{Less, Equal, Greater}
use Rattle.std.specs.Cmp.{tied_itself}
use Rattle.std.specs.FinMap.{entries, entries_sorted, find, get, get-entries, is_sorted}
use Rattle.std.specs.FinMap.Entries.{below_all}
use Rattle.std.specs.Option.{unwrap_or}
use Rattle.std.specs.Ordering.{is_lt, is_eq, match_ordering, ordering_reverse}
use Rattle.xod_base.specs.declared.pair.Pair.{Pair}
use Rattle.xod_base.specs.Values.{bytes_cmp}
use Rattle.xod_base.specs.Views.{Entry, Tree, Test, above, least, least_pair, pair_of, IsLeast}
use Rattle.xod_base.proofs.CallerLemmas.{least-IsLeast, least-from_IsLeast}
use Rattle.xod_overlay.specs.Marks.{Mark, Touch, TouchMap, overlaid}
use Rattle.xod_overlay.specs.Merging.{merged, put_or}
use Rattle.xod_overlay.specs.Places.{from, passes}
use Rattle.xod_overlay.proofs.Marked.{order, same_keys, touched_decide}
use Rattle.xod_overlay.proofs.Placed.{lesser, is_less, first, second, GoesUp, passes_up, none_below, Starts, sorted_from, starts_from, find_from}

-- ---- the least entry, by what a tree has at the keys that pass

abbrev seen : Test → Tree → List ℕ → Option (List ℕ)
seen test tree key = cond (test key) (get tree key) None

-- an entry is what is seen at its key, and nothing is seen before
record IsFirstEntry (f : List ℕ → Option (List ℕ)) (e : Entry) : Type 0 where
  pub here : f e.0 ≡ Some e.1
  pub before : (q : List ℕ) → bytes_cmp q e.0 ≡ Less → f q ≡ None

abbrev IsFirst : (List ℕ → Option (List ℕ)) → Option Entry → Type 0
IsFirst f None = (q : List ℕ) → f q ≡ None
IsFirst f (Some e) = IsFirstEntry f e

fails : (b : Bool) → (b ≡ true → ⊥) → b ≡ false
fails true never = absurd (never refl)
fails false never = refl

-- nothing is seen at a key that fails, or that is not there
unseen : (b : Bool) (o : Option (List ℕ)) → (is_some o ≡ true → b ≡ false) → cond b o None ≡ None
unseen true None h = refl
unseen true (Some v) h = absurd (true≢false (h refl))
unseen false o h = refl

-- where something is seen the key passes, and stands
both_seen : (b : Bool) (o : Option (List ℕ)) (v : List ℕ) → cond b o None ≡ Some v → (b ≡ true) × (o ≡ Some v)
both_seen true o v h = (refl, h)
both_seen false o v h = absurd (true≢false (sym (ap is_some h)))

-- a key that is there, passes and is not seen
not_there : (test : Test) (tree : Tree) (q : List ℕ) → is_some (get tree q) ≡ true → test q ≡ true → seen test tree q ≡ None → ⊥
not_there test tree q some ok none = true≢false (sym some ∙ ap is_some (sym (ap (λ (b : Bool). cond b (get tree q) None) ok) ∙ none))

first_seen : (test : Test) (tree : Tree) → IsFirst (seen test tree) (least test tree)
first_seen test tree = by (least test tree) (least-IsLeast test tree)
  where
    by : (o : Option Entry) → IsLeast test tree o → IsFirst (seen test tree) o
    by None none = λ q. unseen (test q) (get tree q) (none q)
    by (Some e) is = record {
      here = ap (λ (b : Bool). cond b (get tree e.0) None) is.wanted ∙ is.stands;
      before = λ q less. unseen (test q) (get tree q) (λ some. fails (test q) (λ ok. is.lowest q some ok less));
    }

least_from_seen : (test : Test) (tree : Tree) (o : Option Entry) → IsFirst (seen test tree) o → least test tree ≡ o
least_from_seen test tree o is = least-from_IsLeast test tree o (by o is)
  where
    by : (o : Option Entry) → IsFirst (seen test tree) o → IsLeast test tree o
    by None none = λ q some. fails (test q) (λ ok. not_there test tree q some ok (none q))
    by (Some e) is =
        let both = both_seen (test e.0) (get tree e.0) e.1 is.here in
        record { stands = both.1; wanted = both.0; lowest = λ q some ok less. not_there test tree q some ok (is.before q less) }

same_seen : (p q : Test) (t u : Tree) → ((x : List ℕ) → seen p t x ≡ seen q u x) → least p t ≡ least q u
same_seen p q t u same = least_from_seen p t (least q u) (by (least q u) (first_seen q u))
  where
    by : (o : Option Entry) → IsFirst (seen q u) o → IsFirst (seen p t) o
    by None none = λ x. same x ∙ none x
    by (Some e) is = record { here = same e.0 ∙ is.here; before = λ x less. same x ∙ is.before x less }

-- ---- one step of the walk

greater : (x y : List ℕ) → bytes_cmp x y ≡ Less → bytes_cmp y x ≡ Greater
greater x y less = order.antisymm y x ∙ ap ordering_reverse less

lower : (x y : List ℕ) → bytes_cmp x y ≡ Greater → bytes_cmp y x ≡ Less
lower x y more = order.antisymm y x ∙ ap ordering_reverse more

module _ (base : Tree) (touches : TouchMap) where
  abbrev over : Tree
  over = overlaid base touches

  -- the touches of the keys that pass are these
  abbrev Later : Test → List Touch → Type 0
  Later p ts = (x : List ℕ) → p x ≡ true → get touches x ≡ find bytes_cmp x ts

  seen_over : (p : Test) (ts : List Touch) → Later p ts → (x : List ℕ) → seen p over x ≡ cond (p x) (unwrap_or (find bytes_cmp x ts) (get base x)) None
  seen_over p ts later x = elim (p x) as (λ b. p x ≡ b → cond b (get over x) None ≡ cond b (unwrap_or (find bytes_cmp x ts) (get base x)) None) [
    | true ↦ λ ok. touched_decide base touches x ∙ ap (λ (o : Option Mark). unwrap_or o (get base x)) (later x ok)
    | false ↦ λ _. refl
  ] refl

  module _ (p : Test) (up : GoesUp p) (t : Touch) (ts : List Touch) (ok : p t.0 ≡ true) (sorted : T (is_sorted bytes_cmp (t ∷ ts))) (later : Later p (t ∷ ts)) where
    -- before the touch nothing but what is below
    seen_low : (x : List ℕ) → bytes_cmp x t.0 ≡ Less → seen p over x ≡ seen p base x
    seen_low x less = seen_over p (t ∷ ts) later x
        ∙ ap (λ (o : Option Mark). cond (p x) (unwrap_or o (get base x)) None)
        (ap (λ (r : Ordering). cond (is_eq r) (Some t.1) (find bytes_cmp x ts)) less ∙ none_below x t.0 ts less (first _ _ sorted))

    -- at the touch its mark
    seen_at : seen p over t.0 ≡ t.1
    seen_at = seen_over p (t ∷ ts) later t.0
        ∙ ap (λ (b : Bool). cond b (unwrap_or (find bytes_cmp t.0 (t ∷ ts)) (get base t.0)) None) ok
        ∙ ap (λ (r : Ordering). unwrap_or (cond (is_eq r) (Some t.1) (find bytes_cmp t.0 ts)) (get base t.0)) (tied_itself order t.0)

    later_above : Later (above t.0) ts
    later_above x is =
        let less = is_less (bytes_cmp t.0 x) is in
        later x (up t.0 x ok less) ∙ ap (λ (r : Ordering). cond (is_eq r) (Some t.1) (find bytes_cmp x ts)) (greater t.0 x less)

    -- what stands below before the touch is the least
    below_first : (e : Entry) → bytes_cmp e.0 t.0 ≡ Less → IsFirstEntry (seen p base) e → least p over ≡ Some e
    below_first e less is = least_from_seen p over (Some e) (record {
      here = seen_low e.0 less ∙ is.here;
      before = λ q lt. seen_low q (order.trans q e.0 t.0 lt less) ∙ is.before q lt;
    })

    module _ (nothing : (x : List ℕ) → bytes_cmp x t.0 ≡ Less → seen p base x ≡ None) where
      -- where nothing does, a value is
      value_first : (value : List ℕ) → t.1 ≡ Some value → least p over ≡ Some (t.0, value)
      value_first value is = least_from_seen p over (Some (t.0, value)) (record {
        here = seen_at ∙ is;
        before = λ q less. seen_low q less ∙ nothing q less;
      })

      -- and a removal mark is passed
      removal_passed : t.1 ≡ None → least (above t.0) over ≡ least p over
      removal_passed is = same_seen (above t.0) p over over (λ x. elim (bytes_cmp t.0 x) as (λ r. bytes_cmp t.0 x ≡ r → cond (is_lt r) (get over x) None ≡ seen p over x) [
        | Less ↦ λ less. sym (ap (λ (b : Bool). cond b (get over x) None) (up t.0 x ok less))
        | Equal ↦ λ tied. sym (ap (seen p over) (sym (same_keys t.0 x tied)) ∙ seen_at ∙ is)
        | Greater ↦ λ more. sym (seen_low x (lower t.0 x more) ∙ nothing x (lower t.0 x more))
      ] refl)

      -- nor is anything below passed with it where nothing stands at its key
      below_stays : seen p base t.0 ≡ None → least (above t.0) base ≡ least p base
      below_stays none = same_seen (above t.0) p base base (λ x. elim (bytes_cmp t.0 x) as (λ r. bytes_cmp t.0 x ≡ r → cond (is_lt r) (get base x) None ≡ seen p base x) [
        | Less ↦ λ less. sym (ap (λ (b : Bool). cond b (get base x) None) (up t.0 x ok less))
        | Equal ↦ λ tied. sym (ap (seen p base) (sym (same_keys t.0 x tied)) ∙ none)
        | Greater ↦ λ more. sym (nothing x (lower t.0 x more))
      ] refl)

      -- the touch, or what comes behind it
      turn : (mark : Mark) → t.1 ≡ mark → (next : Option Pair) → next ≡ least_pair (above t.0) over → put_or t.0 mark next ≡ least_pair p over
      turn None is next here = here ∙ ap (option_map pair_of) (removal_passed is)
      turn (Some value) is next here = sym (ap (option_map pair_of) (value_first value is))

    -- a step, where the steps behind it are right
    step : merged base (least_pair (above t.0) base) ts ≡ least_pair (above t.0) over → merged base (least_pair p base) (t ∷ ts) ≡ least_pair p over
    step behind = by (least p base) refl (first_seen p base)
      where
        by : (o : Option Entry) → least p base ≡ o → IsFirst (seen p base) o → merged base (option_map pair_of o) (t ∷ ts) ≡ least_pair p over
        by None is none =
            let stays = below_stays (λ x less. none x) (none t.0) ∙ is in
            turn (λ x less. none x) t.1 refl (merged base None ts) (ap (λ (o : Option Entry). merged base (option_map pair_of o) ts) (sym stays) ∙ behind)
        by (Some e) is here = elim (bytes_cmp e.0 t.0) as (λ r. bytes_cmp e.0 t.0 ≡ r
            → match_ordering r (Some (pair_of e)) (put_or t.0 t.1 (merged base (least_pair (above t.0) base) ts)) (put_or t.0 t.1 (merged base (Some (pair_of e)) ts)) ≡ least_pair p over) [
              | Less ↦ λ less. sym (ap (option_map pair_of) (below_first e less here))
              | Equal ↦ λ tied.
                  let keys = same_keys e.0 t.0 tied in
                  turn (λ x less. here.before x (ap (bytes_cmp x) keys ∙ less)) t.1 refl (merged base (least_pair (above t.0) base) ts) behind
              | Greater ↦ λ more.
                  let low = lower e.0 t.0 more in
                  let nothing : (x : List ℕ) → bytes_cmp x t.0 ≡ Less → seen p base x ≡ None = λ x less. here.before x (order.trans x t.0 e.0 less low) in
                  let stays = below_stays nothing (here.before t.0 low) ∙ is in
                  turn nothing t.1 refl (merged base (Some (pair_of e)) ts) (ap (λ (o : Option Entry). merged base (option_map pair_of o) ts) (sym stays) ∙ behind)
            ] refl

  -- the first touch of those behind one is above it
  starts_above : (t : Touch) (ts : List Touch) → T (below_all bytes_cmp t.0 ts) → Starts (above t.0) ts
  starts_above t [] h = tt
  starts_above t (u ∷ ts) h = ap is_lt (lesser _ (first _ _ h))

  walk_is : (p : Test) → GoesUp p → (ts : List Touch) → T (is_sorted bytes_cmp ts) → Starts p ts → Later p ts → merged base (least_pair p base) ts ≡ least_pair p over
  walk_is p up [] sorted ok later = ap (option_map pair_of) (same_seen p p base over (λ x. sym (seen_over p [] later x)))
  walk_is p up (t ∷ ts) sorted ok later =
      step p up t ts ok sorted later
      (walk_is (above t.0) (passes_up true t.0) ts (second _ _ sorted) (starts_above t ts (first _ _ sorted)) (later_above p up t ts ok sorted later))

  -- from a key on, or above it
  pub merged_is : (strict : Bool) (key : List ℕ) → merged base (least_pair (passes strict key) base) (from (passes strict key) (entries touches)) ≡ least_pair (passes strict key) (overlaid base touches)
  merged_is strict key =
      let p = passes strict key in
      let es = entries touches in
      walk_is p (passes_up strict key) (from p es) (sorted_from p es (entries_sorted touches)) (starts_from p es)
      (λ x ok. get-entries touches x ∙ find_from p es x ok)
