-- A new name in one of the three lists is a put into the tree of names and into the tree of numbers.
use Rattle.std.proofs.Common.{◌≡◌, ◌≢◌, ℕ, suc, ◌+◌, ◌<◌, ◌≤◌, ◌^◌, List, [], ◌∷◌, ◌++◌, map, drop, length, Some, None, sym, ap, ◌∙◌, arith}
use Rattle.std.specs.List.{AllByRecursion}
use Rattle.std.specs.FinMap.{insert, from_entries}
use Rattle.std.proofs.lemmas.List.{append_assoc, append-nil, map-append}
use Rattle.xod_base.specs.declared.answer.NameKind.{NameKind}
use Rattle.xod_base.specs.declared.answer.NameKind.TheVariants.{Kinds, Props, Links}
use Rattle.xod_base.specs.Rows.{number_of}
use Rattle.xod_base.specs.Values.{bytes_cmp}
use Rattle.xod_base.specs.Views.{Entry}
use Rattle.xod_carry.specs.Carry.{carried, numbered}
use Rattle.xod_carry.proofs.CallerLemmas.{bytes_total, bytes_same, each_append, carried-append, numbered-append, from_entries-amid}
use Rattle.xod_tables.specs.Keys.{u32, name_key, number_key}
use Rattle.xod_tables.specs.Tables.{by_number, by_name}
use Rattle.xod_tables.proofs.CallerLemmas.{Lacks, one_number, kinds_props, kinds_links, props_links, others_by_number, others_by_name}
use Rattle.xod_writes.proofs.Grown.{none_is}

-- ---- an entry at the end of one of three lists
module _ (xs ys zs : List Entry) (e : Entry) (a : Lacks e.0 xs) where
  abbrev whole : List Entry
  whole = xs ++ (ys ++ zs)

  pub first_grows : from_entries {R = bytes_cmp} ((xs ++ e ∷ []) ++ (ys ++ zs)) ≡ insert (from_entries whole) e.0 e.1
  first_grows = ap from_entries (append_assoc xs (e ∷ []) (ys ++ zs)) ∙ from_entries-amid bytes_total bytes_same xs e (ys ++ zs) a

  pub second_grows : Lacks e.0 ys → from_entries {R = bytes_cmp} (xs ++ ((ys ++ e ∷ []) ++ zs)) ≡ insert (from_entries whole) e.0 e.1
  second_grows b = ap (λ l. from_entries (xs ++ l)) (append_assoc ys (e ∷ []) zs)
      ∙ ap from_entries (sym (append_assoc xs ys (e ∷ zs)))
      ∙ from_entries-amid bytes_total bytes_same (xs ++ ys) e zs (each_append (λ x. x.0 ≢ e.0) xs ys a b)
      ∙ ap (λ l. insert (from_entries l) e.0 e.1) (append_assoc xs ys zs)

  pub third_grows : Lacks e.0 ys → Lacks e.0 zs → from_entries {R = bytes_cmp} (xs ++ (ys ++ (zs ++ e ∷ []))) ≡ insert (from_entries whole) e.0 e.1
  third_grows b c = ap (λ l. from_entries (xs ++ l)) (sym (append_assoc ys zs (e ∷ [])))
      ∙ ap from_entries (sym (append_assoc xs (ys ++ zs) (e ∷ [])))
      ∙ from_entries-amid bytes_total bytes_same whole e [] (each_append (λ x. x.0 ≢ e.0) xs (ys ++ zs) a (each_append (λ x. x.0 ≢ e.0) ys zs b c))
      ∙ ap (λ l. insert (from_entries l) e.0 e.1) (append-nil whole)

-- ---- which keys the lists lack
module _ (list : NameKind) where
  other_number : (i n : ℕ) → i < n → n < 2 ^ 32 → name_key list i ≢ name_key list n
  other_number i n lt h e =
      let is = one_number list i n (omega arith) h e in omega (arith, is)

  own_by_number : (i n : ℕ) (xs : List (List ℕ)) → i + length xs ≤ n → n < 2 ^ 32 → Lacks (name_key list n) (carried (λ number. Some (name_key list number)) (λ name. name) (numbered i xs))
  own_by_number i n [] le h = tt
  own_by_number i n (x ∷ xs) le h = (other_number i n (omega arith) h, own_by_number (suc i) n xs (omega arith) h)

  own_by_name : (i : ℕ) (xs : List (List ℕ)) (name : List ℕ) → AllByRecursion (λ x. x ≢ name) xs → Lacks (number_key list name) (map (λ entry. (number_key list entry.1, u32 entry.0)) (numbered i xs))
  own_by_name i [] name h = tt
  own_by_name i (x ∷ xs) name h = (λ e. h.0 (ap (drop 1) e), own_by_name (suc i) xs name h.1)

  by_number-push : (xs : List (List ℕ)) (name : List ℕ) → by_number list (xs ++ name ∷ []) ≡ by_number list xs ++ (name_key list (length xs), name) ∷ []
  by_number-push xs name = let is : 0 + length xs ≡ length xs = omega arith in
      ap (carried (λ number. Some (name_key list number)) (λ n. n)) (numbered-append 0 xs name)
      ∙ carried-append (λ number. Some (name_key list number)) (λ n. n) (numbered 0 xs) ((0 + length xs, name) ∷ [])
      ∙ ap (λ k. by_number list xs ++ (name_key list k, name) ∷ []) is

  by_name-push : (xs : List (List ℕ)) (name : List ℕ) → by_name list (xs ++ name ∷ []) ≡ by_name list xs ++ (number_key list name, u32 (length xs)) ∷ []
  by_name-push xs name = let is : 0 + length xs ≡ length xs = omega arith in
      ap (map (λ entry. (number_key list entry.1, u32 entry.0))) (numbered-append 0 xs name)
      ∙ map-append (λ entry. (number_key list entry.1, u32 entry.0)) (numbered 0 xs) ((0 + length xs, name) ∷ [])
      ∙ ap (λ k. by_name list xs ++ (number_key list name, u32 k) ∷ []) is

  -- ---- the lists with a new name
  pub number_lacked : (xs : List (List ℕ)) → length xs ≤ 4096 → Lacks (name_key list (length xs)) (by_number list xs)
  number_lacked xs few = own_by_number 0 (length xs) xs (omega arith) (omega (arith, few))

  pub name_lacked : (xs : List (List ℕ)) (name : List ℕ) → number_of xs name ≡ None → Lacks (number_key list name) (by_name list xs)
  name_lacked xs name none = own_by_name 0 xs name (none_is xs name none)

module _ (types props links : List (List ℕ)) (name : List ℕ) where
  pub types_by_number : length types ≤ 4096 → from_entries {R = bytes_cmp} (by_number Kinds (types ++ name ∷ []) ++ (by_number Props props ++ by_number Links links))
      ≡ insert (from_entries (by_number Kinds types ++ (by_number Props props ++ by_number Links links))) (name_key Kinds (length types)) name
  types_by_number few = ap (λ l. from_entries (l ++ (by_number Props props ++ by_number Links links))) (by_number-push Kinds types name)
      ∙ first_grows (by_number Kinds types) (by_number Props props) (by_number Links links) (name_key Kinds (length types), name) (number_lacked Kinds types few)

  pub types_by_name : number_of types name ≡ None → from_entries {R = bytes_cmp} (by_name Kinds (types ++ name ∷ []) ++ (by_name Props props ++ by_name Links links))
      ≡ insert (from_entries (by_name Kinds types ++ (by_name Props props ++ by_name Links links))) (number_key Kinds name) (u32 (length types))
  types_by_name none = ap (λ l. from_entries (l ++ (by_name Props props ++ by_name Links links))) (by_name-push Kinds types name)
      ∙ first_grows (by_name Kinds types) (by_name Props props) (by_name Links links) (number_key Kinds name, u32 (length types)) (name_lacked Kinds types name none)

  pub props_by_number : length props ≤ 4096 → from_entries {R = bytes_cmp} (by_number Kinds types ++ (by_number Props (props ++ name ∷ []) ++ by_number Links links))
      ≡ insert (from_entries (by_number Kinds types ++ (by_number Props props ++ by_number Links links))) (name_key Props (length props)) name
  props_by_number few = ap (λ l. from_entries (by_number Kinds types ++ (l ++ by_number Links links))) (by_number-push Props props name)
      ∙ second_grows (by_number Kinds types) (by_number Props props) (by_number Links links) (name_key Props (length props), name) (others_by_number Kinds Props kinds_props 0 types (length props)) (number_lacked Props props few)

  pub props_by_name : number_of props name ≡ None → from_entries {R = bytes_cmp} (by_name Kinds types ++ (by_name Props (props ++ name ∷ []) ++ by_name Links links))
      ≡ insert (from_entries (by_name Kinds types ++ (by_name Props props ++ by_name Links links))) (number_key Props name) (u32 (length props))
  props_by_name none = ap (λ l. from_entries (by_name Kinds types ++ (l ++ by_name Links links))) (by_name-push Props props name)
      ∙ second_grows (by_name Kinds types) (by_name Props props) (by_name Links links) (number_key Props name, u32 (length props)) (others_by_name Kinds Props kinds_props 0 types name) (name_lacked Props props name none)

  pub links_by_number : length links ≤ 4096 → from_entries {R = bytes_cmp} (by_number Kinds types ++ (by_number Props props ++ by_number Links (links ++ name ∷ [])))
      ≡ insert (from_entries (by_number Kinds types ++ (by_number Props props ++ by_number Links links))) (name_key Links (length links)) name
  links_by_number few = ap (λ l. from_entries (by_number Kinds types ++ (by_number Props props ++ l))) (by_number-push Links links name)
      ∙ third_grows (by_number Kinds types) (by_number Props props) (by_number Links links) (name_key Links (length links), name) (others_by_number Kinds Links kinds_links 0 types (length links)) (others_by_number Props Links props_links 0 props (length links)) (number_lacked Links links few)

  pub links_by_name : number_of links name ≡ None → from_entries {R = bytes_cmp} (by_name Kinds types ++ (by_name Props props ++ by_name Links (links ++ name ∷ [])))
      ≡ insert (from_entries (by_name Kinds types ++ (by_name Props props ++ by_name Links links))) (number_key Links name) (u32 (length links))
  links_by_name none = ap (λ l. from_entries (by_name Kinds types ++ (by_name Props props ++ l))) (by_name-push Links links name)
      ∙ third_grows (by_name Kinds types) (by_name Props props) (by_name Links links) (number_key Links name, u32 (length links)) (others_by_name Kinds Links kinds_links 0 types name) (others_by_name Props Links props_links 0 props name) (name_lacked Links links name none)
