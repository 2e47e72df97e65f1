-- The trees of names and of numbers: their lists of entries are apart, and what stands there decides.
use Rattle.std.proofs.Common.{◌≡◌, ◌≢◌, ℕ, zero, suc, ◌+◌, ◌<◌, ◌≤◌, ◌^◌, Bool, true, false, cond, not, ◌&&◌, List, [], ◌∷◌, ◌++◌, map, drop, length, Option, Some, None, refl, sym, ap, subst, ◌∙◌, true≢false, arith, length-append}
use Rattle.std.specs.Prelude.{is_some}
use Rattle.std.specs.Cmp.Lexicographic.{bytes_decides}
use Rattle.std.specs.List.{AllByRecursion, slice_get}
use Rattle.std.specs.FinMap.{get, len}
use Rattle.xod_base.specs.declared.answer.NameKind.{NameKind}
use Rattle.xod_base.specs.declared.answer.NameKind.TheVariants.{Kinds, Props, Links}
use Rattle.xod_base.specs.Rows.{RowsValue, are_distinct, is_listed, number_of, one_further}
use Rattle.xod_base.specs.Values.{same_bytes}
use Rattle.xod_base.specs.Views.{Entry, Tree}
use Rattle.xod_carry.specs.Carry.{numbered}
use Rattle.xod_carry.specs.Laws.{AreApart}
use Rattle.xod_carry.proofs.CallerLemmas.{bytes_total, bytes_same, each, each_too, each_both, each_append, carried_apart, same_by_lookups}
use Rattle.xod_tables.specs.Keys.{u32, kind_byte, name_key, number_key}
use Rattle.xod_tables.specs.Reading.{of_u32, number_in}
use Rattle.xod_tables.specs.Tables.{by_number, by_name, names_tree, numbers_tree}
use Rattle.xod_tables.proofs.CallerLemmas.{same_some, not_none, u32_back, name_read, Lacks, kinds_props, kinds_links, props_links, others_by_number, others_by_name}
use Rattle.xod_audit.specs.Tests.{then_names, names_from}
use Rattle.xod_audit.proofs.General.{len_apart, apart_append, each_image, images_length, numbered_small, numbered_apart}

-- ---- names that are listed

pub listed_stand : (t : Tree) (list : NameKind) (room i : ℕ) → AllByRecursion (λ e. get t (name_key list e.0) ≡ Some e.1) (numbered i (names_from t list room i))
unfolding names_from
listed_stand t list zero i = tt
listed_stand t list (suc room) i = at (get t (name_key list i)) refl (listed_stand t list room (suc i))
  where
    at : (o : Option (List ℕ)) → get t (name_key list i) ≡ o → AllByRecursion (λ e. get t (name_key list e.0) ≡ Some e.1) (numbered (suc i) (names_from t list room (suc i)))
        → AllByRecursion (λ e. get t (name_key list e.0) ≡ Some e.1) (numbered i (then_names o (names_from t list room (suc i))))
    at None is rest = tt
    at (Some x) is rest = (is, rest)

pub listed_few : (t : Tree) (list : NameKind) (room i : ℕ) → length (names_from t list room i) ≤ room
unfolding names_from
listed_few t list zero i = omega arith
listed_few t list (suc room) i = at (get t (name_key list i)) (listed_few t list room (suc i))
  where
    at : (o : Option (List ℕ)) → length (names_from t list room (suc i)) ≤ room → length (then_names o (names_from t list room (suc i))) ≤ suc room
    at None rest = omega arith
    at (Some x) rest = omega (arith, rest)

-- names that stand by their numbers are those that are listed
pub listed_is : (t : Tree) (list : NameKind) (room i : ℕ) (xs : List (List ℕ)) → length xs ≤ room → i + room ≤ 2 ^ 32
    → ((j : ℕ) → i + j < 2 ^ 32 → get t (name_key list (i + j)) ≡ slice_get xs j) → names_from t list room i ≡ xs
unfolding names_from
listed_is t list zero i [] few small at = refl
listed_is t list zero i (x ∷ xs) few small at = absurd (omega (arith, few))
listed_is t list (suc room) i [] few small at =
    let here : i + 0 ≡ i = omega arith in
    ap (λ o. then_names o (names_from t list room (suc i))) (ap (λ n. get t (name_key list n)) (sym here) ∙ at 0 (omega (arith, small)))
listed_is t list (suc room) i (x ∷ xs) few small at =
    let here : i + 0 ≡ i = omega arith in
    ap (λ o. then_names o (names_from t list room (suc i))) (ap (λ n. get t (name_key list n)) (sym here) ∙ at 0 (omega (arith, small)))
    ∙ ap (λ l. x ∷ l) (listed_is t list room (suc i) xs (omega (arith, few)) (omega (arith, small))
    (λ j h. let next : suc i + j ≡ i + suc j = omega arith in ap (λ n. get t (name_key list n)) next ∙ at (suc j) (omega (arith, h))))

-- ---- items by their numbers
pub numbered_each : {X : Type 0} (P : ℕ × X → Type 0) (i : ℕ) (xs : List X) → ((j : ℕ) (x : X) → slice_get xs j ≡ Some x → P (i + j, x)) → AllByRecursion P (numbered i xs)
numbered_each P i [] h = tt
numbered_each P i (x ∷ xs) h = (
  let here : i + 0 ≡ i = omega arith in subst (λ n. P (n, x)) here (h 0 x refl),
  numbered_each P (suc i) xs (λ j y is. let next : i + suc j ≡ suc i + j = omega arith in subst (λ n. P (n, y)) next (h (suc j) y is)),
)

pub numbered_length : {X : Type 0} (i : ℕ) (xs : List X) → length (numbered i xs) ≡ length xs
numbered_length i [] = refl
numbered_length i (x ∷ xs) = ap suc (numbered_length (suc i) xs)

-- ---- names that have their numbers differ

abbrev pub HaveNumbers : Tree → NameKind → ℕ → List (List ℕ) → Type 0
HaveNumbers t list i names = AllByRecursion (λ e. get t (number_key list e.1) ≡ Some (u32 e.0)) (numbered i names)

differ : (t : Tree) (list : NameKind) (k : ℕ) (x : List ℕ) → get t (number_key list x) ≡ Some (u32 k) → k < 2 ^ 32
    → (i : ℕ) (xs : List (List ℕ)) → k < i → i + length xs ≤ 2 ^ 32 → HaveNumbers t list i xs → AllByRecursion (λ y. y ≢ x) xs
differ t list k x is small i [] above few h = tt
differ t list k x is small i (y ∷ ys) above few h = (
  (λ e. let same : i ≡ k = sym (u32_back i (omega (arith, few))) ∙ ap of_u32 (same_some (u32 i) (u32 k) (sym h.0 ∙ ap (λ n. get t (number_key list n)) e ∙ is)) ∙ u32_back k small in
      absurd (omega (arith, same, above))),
  differ t list k x is small (suc i) ys (omega (arith, above)) (omega (arith, few)) h.1,
)

unlisted : (x : List ℕ) (xs : List (List ℕ)) → AllByRecursion (λ y. y ≢ x) xs → number_of xs x ≡ None
unlisted x [] h = refl
unlisted x (y ∷ ys) h = at (same_bytes y x) refl (unlisted x ys h.1)
  where
    at : (b : Bool) → same_bytes y x ≡ b → number_of ys x ≡ None → cond b (Some 0) (one_further (number_of ys x)) ≡ None
    at true is rest = absurd (h.0 ((bytes_decides y x).0 is))
    at false is rest = ap one_further rest

pub distinct : (t : Tree) (list : NameKind) (i : ℕ) (xs : List (List ℕ)) → i + length xs ≤ 2 ^ 32 → HaveNumbers t list i xs → are_distinct xs ≡ true
distinct t list i [] few h = refl
distinct t list i (x ∷ xs) few h =
    let others = differ t list i x h.0 (omega (arith, few)) (suc i) xs (omega arith) (omega (arith, few)) h.1 in
    λ k. not (is_some (unlisted x xs others k)) && distinct t list (suc i) xs (omega (arith, few)) h.1 k

-- in a list of different names each has its own place
pub place : (xs : List (List ℕ)) → are_distinct xs ≡ true → (j : ℕ) (x : List ℕ) → slice_get xs j ≡ Some x → number_of xs x ≡ Some j
place [] h j x is = absurd (not_none x (sym is))
place (y ∷ ys) h zero x is = ap (λ b. cond b (Some 0) (one_further (number_of ys x))) ((bytes_decides y x).1 (same_some y x is))
place (y ∷ ys) h (suc j) x is = at (same_bytes y x) refl (place ys (second (not (is_listed ys y)) (are_distinct ys) h) j x is)
  where
    second : (a b : Bool) → (a && b) ≡ true → b ≡ true
    second true b e = e
    second false b e = absurd (true≢false (sym e))

    first : (a b : Bool) → (not a && b) ≡ true → a ≡ false
    first true b e = absurd (true≢false (sym e))
    first false b e = refl

    at : (b : Bool) → same_bytes y x ≡ b → number_of ys x ≡ Some j → cond b (Some 0) (one_further (number_of ys x)) ≡ Some (suc j)
    at true same rest = absurd (true≢false (sym (ap is_some (ap (number_of ys) ((bytes_decides y x).0 same) ∙ rest)) ∙ first (is_listed ys y) (are_distinct ys) h))
    at false same rest = ap one_further rest

-- ---- lists of entries that are apart

each_mapped : {A B : Type 0} (P : B → Type 0) (f : A → B) (xs : List A) → AllByRecursion (λ x. P (f x)) xs → AllByRecursion P (map f xs)
each_mapped P f [] h = tt
each_mapped P f (x ∷ xs) h = (h.0, each_mapped P f xs h.1)

mapped_length : {A B : Type 0} (f : A → B) (xs : List A) → length (map f xs) ≡ length xs
mapped_length f [] = refl
mapped_length f (x ∷ xs) = ap suc (mapped_length f xs)

-- no key of one list is one of another
abbrev Across : List Entry → List Entry → Type 0
Across xs ys = AllByRecursion (λ x. Lacks x.0 ys) xs

apart_three : (xs ys zs : List Entry) → AreApart xs → AreApart ys → AreApart zs → Across xs ys → Across xs zs → Across ys zs → AreApart (xs ++ (ys ++ zs))
apart_three xs ys zs a b c xy xz yz = apart_append xs (ys ++ zs) a (apart_append ys zs b c yz) (each_both (λ x g h. each_append (λ y. y.0 ≢ x.0) ys zs g h) xs xy xz)

length_three : (xs ys zs : List Entry) → length (xs ++ (ys ++ zs)) ≡ length xs + (length ys + length zs)
length_three xs ys zs = length-append xs (ys ++ zs) ∙ ap (λ n. length xs + n) (length-append ys zs)

module _ (list : NameKind) where
  number_back : (xs : List (List ℕ)) → length xs ≤ 4096 → AllByRecursion (λ e. (l : List ℕ) → Some (name_key list e.0) ≡ Some l → number_in list l ≡ Some e.0) (numbered 0 xs)
  number_back xs few = each_too (λ e small l is. subst (λ k. number_in list k ≡ Some e.0) (same_some (name_key list e.0) l is) (name_read list e.0 small)) (numbered 0 xs) (numbered_small 0 xs (omega (arith, few)))

  apart_by_number : (xs : List (List ℕ)) → length xs ≤ 4096 → AreApart (by_number list xs)
  apart_by_number xs few = carried_apart (λ n. Some (name_key list n)) (λ n. n) (number_in list) (numbered 0 xs) (numbered_apart 0 xs) (number_back xs few)

  length_by_number : (xs : List (List ℕ)) → length (by_number list xs) ≡ length xs
  length_by_number xs = images_length (λ n. Some (name_key list n)) (λ n. n) (numbered 0 xs) (each (λ e. refl) (numbered 0 xs)) ∙ numbered_length 0 xs

  length_by_name : (xs : List (List ℕ)) → length (by_name list xs) ≡ length xs
  length_by_name xs = mapped_length (λ e. (number_key list e.1, u32 e.0)) (numbered 0 xs) ∙ numbered_length 0 xs

  stand_by_number : (t : Tree) (xs : List (List ℕ)) → AllByRecursion (λ e. get t (name_key list e.0) ≡ Some e.1) (numbered 0 xs) → AllByRecursion (λ e. get t e.0 ≡ Some e.1) (by_number list xs)
  stand_by_number t xs h = each_image (λ n. Some (name_key list n)) (λ n. n) (λ e. get t e.0 ≡ Some e.1) (numbered 0 xs)
      (each_too (λ e is l k. subst (λ q. get t q ≡ Some e.1) (same_some (name_key list e.0) l k) is) (numbered 0 xs) h)

  stand_by_name : (t : Tree) (xs : List (List ℕ)) → HaveNumbers t list 0 xs → AllByRecursion (λ e. get t e.0 ≡ Some e.1) (by_name list xs)
  stand_by_name t xs h = each_mapped (λ e. get t e.0 ≡ Some e.1) (λ e. (number_key list e.1, u32 e.0)) (numbered 0 xs) h

  apart_names : (t : Tree) (i : ℕ) (xs : List (List ℕ)) → i + length xs ≤ 2 ^ 32 → HaveNumbers t list i xs → AreApart (map (λ e. (number_key list e.1, u32 e.0)) (numbered i xs))
  apart_names t i [] few h = tt
  apart_names t i (x ∷ xs) few h = (
    each_mapped (λ y. y.0 ≢ number_key list x) (λ e. (number_key list e.1, u32 e.0)) (numbered (suc i) xs)
        (items (suc i) xs (differ t list i x h.0 (omega (arith, few)) (suc i) xs (omega arith) (omega (arith, few)) h.1)),
    apart_names t (suc i) xs (omega (arith, few)) h.1,
  )
    where
      items : (j : ℕ) (ys : List (List ℕ)) → AllByRecursion (λ y. y ≢ x) ys → AllByRecursion (λ e. number_key list e.1 ≢ number_key list x) (numbered j ys)
      items j [] g = tt
      items j (y ∷ ys) g = ((λ e. g.0 (ap (drop 1) e)), items (suc j) ys g.1)

  module _ (other : NameKind) (apart : kind_byte other ≢ kind_byte list) where
    across_by_number : (xs ys : List (List ℕ)) → Across (by_number list xs) (by_number other ys)
    across_by_number xs ys = each_image (λ n. Some (name_key list n)) (λ n. n) (λ x. Lacks x.0 (by_number other ys)) (numbered 0 xs)
        (each (λ e l is. subst (λ k. Lacks k (by_number other ys)) (same_some (name_key list e.0) l is) (others_by_number other list apart 0 ys e.0)) (numbered 0 xs))

    across_by_name : (xs ys : List (List ℕ)) → Across (by_name list xs) (by_name other ys)
    across_by_name xs ys = each_mapped (λ x. Lacks x.0 (by_name other ys)) (λ e. (number_key list e.1, u32 e.0)) (numbered 0 xs) (each (λ e. others_by_name other list apart 0 ys e.1) (numbered 0 xs))

-- ---- the trees of three lists

-- no list is too long
pub record AreFew (rows : RowsValue) : Type 0 where
  pub types : length rows.types ≤ 4096
  pub props : length rows.props ≤ 4096
  pub links : length rows.links ≤ 4096

-- the names of three lists stand in a tree
pub record NamesStand (t : Tree) (rows : RowsValue) : Type 0 where
  pub types : AllByRecursion (λ e. get t (name_key Kinds e.0) ≡ Some e.1) (numbered 0 rows.types)
  pub props : AllByRecursion (λ e. get t (name_key Props e.0) ≡ Some e.1) (numbered 0 rows.props)
  pub links : AllByRecursion (λ e. get t (name_key Links e.0) ≡ Some e.1) (numbered 0 rows.links)

-- and their numbers
pub record NumbersStand (t : Tree) (rows : RowsValue) : Type 0 where
  pub types : HaveNumbers t Kinds 0 rows.types
  pub props : HaveNumbers t Props 0 rows.props
  pub links : HaveNumbers t Links 0 rows.links

abbrev pub name_total : RowsValue → ℕ
name_total rows = length rows.types + (length rows.props + length rows.links)

module _ (rows : RowsValue) (few : AreFew rows) where
  abbrev names_list : List Entry
  names_list = by_number Kinds rows.types ++ (by_number Props rows.props ++ by_number Links rows.links)

  abbrev numbers_list : List Entry
  numbers_list = by_name Kinds rows.types ++ (by_name Props rows.props ++ by_name Links rows.links)

  names_apart : AreApart names_list
  names_apart = apart_three (by_number Kinds rows.types) (by_number Props rows.props) (by_number Links rows.links)
      (apart_by_number Kinds rows.types few.types) (apart_by_number Props rows.props few.props) (apart_by_number Links rows.links few.links)
      (across_by_number Kinds Props (λ e. kinds_props (sym e)) rows.types rows.props) (across_by_number Kinds Links (λ e. kinds_links (sym e)) rows.types rows.links) (across_by_number Props Links (λ e. props_links (sym e)) rows.props rows.links)

  names_length : length names_list ≡ name_total rows
  names_length = length_three (by_number Kinds rows.types) (by_number Props rows.props) (by_number Links rows.links)
      ∙ (λ i. length_by_number Kinds rows.types i + (length_by_number Props rows.props i + length_by_number Links rows.links i))

  numbers_apart : (t : Tree) → NumbersStand t rows → AreApart numbers_list
  numbers_apart t h =
      let a = few.types in
      let b = few.props in
      let c = few.links in
      apart_three (by_name Kinds rows.types) (by_name Props rows.props) (by_name Links rows.links)
      (apart_names Kinds t 0 rows.types (omega (arith, a)) h.types) (apart_names Props t 0 rows.props (omega (arith, b)) h.props) (apart_names Links t 0 rows.links (omega (arith, c)) h.links)
      (across_by_name Kinds Props (λ e. kinds_props (sym e)) rows.types rows.props) (across_by_name Kinds Links (λ e. kinds_links (sym e)) rows.types rows.links) (across_by_name Props Links (λ e. props_links (sym e)) rows.props rows.links)

  numbers_length : length numbers_list ≡ name_total rows
  numbers_length = length_three (by_name Kinds rows.types) (by_name Props rows.props) (by_name Links rows.links)
      ∙ (λ i. length_by_name Kinds rows.types i + (length_by_name Props rows.props i + length_by_name Links rows.links i))

  -- names that stand in a tree of as many entries make it the tree of names
  pub names_are : (t : Tree) → NamesStand t rows → len t ≡ name_total rows → t ≡ names_tree rows
  names_are t h long = same_by_lookups bytes_total bytes_same names_list t names_apart
      (each_append (λ e. get t e.0 ≡ Some e.1) (by_number Kinds rows.types) (by_number Props rows.props ++ by_number Links rows.links) (stand_by_number Kinds t rows.types h.types)
      (each_append (λ e. get t e.0 ≡ Some e.1) (by_number Props rows.props) (by_number Links rows.links) (stand_by_number Props t rows.props h.props) (stand_by_number Links t rows.links h.links)))
      (long ∙ sym names_length)

  pub names_len : len (names_tree rows) ≡ name_total rows
  names_len = len_apart bytes_total bytes_same names_list names_apart ∙ names_length

  -- and numbers
  pub numbers_are : (t : Tree) → NumbersStand t rows → len t ≡ name_total rows → t ≡ numbers_tree rows
  numbers_are t h long = same_by_lookups bytes_total bytes_same numbers_list t (numbers_apart t h)
      (each_append (λ e. get t e.0 ≡ Some e.1) (by_name Kinds rows.types) (by_name Props rows.props ++ by_name Links rows.links) (stand_by_name Kinds t rows.types h.types)
      (each_append (λ e. get t e.0 ≡ Some e.1) (by_name Props rows.props) (by_name Links rows.links) (stand_by_name Props t rows.props h.props) (stand_by_name Links t rows.links h.links)))
      (long ∙ sym numbers_length)

  pub numbers_len : (t : Tree) → NumbersStand t rows → len (numbers_tree rows) ≡ name_total rows
  numbers_len t h = len_apart bytes_total bytes_same numbers_list (numbers_apart t h) ∙ numbers_length
