-- Parts in rising order of their texts, each text once: one list for each list of parts.
use Rattle.std.proofs.Common.{◌≡◌, ℕ, Bool, true, false, not, cond, ◌&&◌, T, List, [], ◌∷◌, ◌++◌, map, Option, Some, None, refl, sym, ap, ◌∙◌, subst, IsTrue, Ordering, Less, Equal, Greater}
use Rattle.std.specs.List.{AllByRecursion, dedup, dedup_from, filter}
use Rattle.std.specs.List.Sorted.{IsSortedBy, IsStableBy, IsStrictlySortedBy, ties}
use Rattle.std.specs.Ordering.{is_eq, is_lt, eq_by_cmp, ordering_reverse, on}
use Rattle.std.specs.Cmp.{IsTotalOrder, Equal-is}
use Rattle.std.specs.Cmp.Lexicographic.{on_texts}
use Rattle.std.specs.FinMap.{find, put, is_sorted}
use Rattle.std.specs.FinMap.Entries.{below_all, by_order, is_sorted-put, find-put, same_entries}
use Rattle.std.proofs.lemmas.Cmp.{nat_list_cmp_total}
use Rattle.std.proofs.lemmas.List.Kept.{IsStrictlySortedBy-dedup}
use Rattle.std.proofs.lemmas.Map.Lookups.{exact_bytes}
use Rattle.xod_base.specs.declared.query.Query.{Query}
use Rattle.xod_base.specs.QueryTexts.{query_text}
use Rattle.xod_base.specs.Values.{bytes_cmp}
use Rattle.xod_handle.specs.Forms.{put_by, put_part, arranged}

-- ---- the order of texts

abbrev pub text_cmp : Query → Query → Ordering
text_cmp = on query_text bytes_cmp

pub text_total : IsTotalOrder text_cmp
text_total = on_texts query_text

pub same_texts : (p q : Query) → text_cmp p q ≡ Equal → query_text p ≡ query_text q
same_texts p q e = exact_bytes (query_text p) (query_text q) e

-- ---- parts as the entries of a map from texts

abbrev entry : Query → List ℕ × Query
entry part = (query_text part, part)

abbrev pub Strict : List Query → Type 0
Strict parts = T (is_sorted bytes_cmp (map entry parts))

put_is : (part : Query) (parts : List Query) → map entry (put_part part parts) ≡ put bytes_cmp (query_text part) part (map entry parts)
put_is part [] = refl
put_is part (f ∷ fs) = elim (text_cmp part f) as (λ o. text_cmp part f ≡ o → map entry (put_by o part f fs (put_part part fs))
    ≡ by_order o (entry part ∷ entry f ∷ map entry fs) ((query_text f, part) ∷ map entry fs) (entry f ∷ put bytes_cmp (query_text part) part (map entry fs))) [
      | Less ↦ λ e. refl
      | Equal ↦ λ e i. (same_texts part f e i, part) ∷ map entry fs
      | Greater ↦ λ e. ap (λ es. entry f ∷ es) (put_is part fs)
    ] refl

pub arranged_strict : (parts : List Query) → Strict (arranged parts)
arranged_strict [] = tt
arranged_strict (p ∷ ps) = subst (λ es. T (is_sorted bytes_cmp es)) (sym (put_is p (arranged ps)))
    (is_sorted-put bytes_cmp nat_list_cmp_total (query_text p) p (map entry (arranged ps)) (arranged_strict ps))

-- the first part with a text
abbrev at : List ℕ → List Query → Option Query
at text parts = find bytes_cmp text (map entry parts)

at_arranged : (text : List ℕ) (parts : List Query) → at text (arranged parts) ≡ at text parts
at_arranged text [] = refl
at_arranged text (p ∷ ps) = ap (find bytes_cmp text) (put_is p (arranged ps)) ∙ find-put bytes_cmp nat_list_cmp_total text (query_text p) p (map entry (arranged ps))
    ∙ ap (cond (eq_by_cmp bytes_cmp text (query_text p)) (Some p)) (at_arranged text ps)

parts_back : (parts : List Query) → map (λ e. e.1) (map entry parts) ≡ parts
parts_back [] = refl
parts_back (p ∷ ps) = ap (λ l. p ∷ l) (parts_back ps)

same_parts : (ps qs : List Query) → Strict ps → Strict qs → ((text : List ℕ) → at text ps ≡ at text qs) → ps ≡ qs
same_parts ps qs s t h = sym (parts_back ps) ∙ ap (map (λ e. e.1)) (same_entries bytes_cmp nat_list_cmp_total exact_bytes (map entry ps) (map entry qs) s t h) ∙ parts_back qs

pub arranged_again : (parts : List Query) → Strict parts → arranged parts ≡ parts
arranged_again parts s = same_parts (arranged parts) parts (arranged_strict parts) s (λ text. at_arranged text parts)

-- ---- a stable sort by the texts, and of those with one text the first

abbrev pub lower : Query → Query → Bool
lower p q = is_lt (text_cmp p q)

abbrev pub same_text : Query → Query → Bool
same_text p q = is_eq (text_cmp p q)

abbrev has_text : List ℕ → Query → Bool
has_text text p = eq_by_cmp bytes_cmp text (query_text p)

ties_are : (o r : Ordering) → o ≡ ordering_reverse r → (not (is_lt o) && not (is_lt r)) ≡ is_eq o
ties_are Less Less e = refl
ties_are Less Equal e = refl
ties_are Less Greater e = refl
ties_are Equal Less e = cc
ties_are Equal Equal e = refl
ties_are Equal Greater e = refl
ties_are Greater Less e = refl
ties_are Greater Equal e = cc
ties_are Greater Greater e = cc

same_option : (o p : Option Query) → ((q : Query) → o ≡ Some q → p ≡ Some q) → ((q : Query) → p ≡ Some q → o ≡ Some q) → o ≡ p
same_option None None h k = refl
same_option None (Some q) h k = k q refl
same_option (Some q) p h k = sym (h q refl)

abbrev first_of : List Query → Option Query
first_of [] = None
first_of (p ∷ ps) = Some p

at_is : (text : List ℕ) (parts : List Query) → at text parts ≡ first_of (filter (has_text text) parts)
at_is text [] = refl
at_is text (p ∷ ps) = elim (has_text text p) as (λ b. cond b (Some p) (at text ps) ≡ first_of (cond b (p ∷ filter (has_text text) ps) (filter (has_text text) ps))) [
  | true ↦ refl
  | false ↦ at_is text ps
]

found : (text : List ℕ) (parts : List Query) (q : Query) → at text parts ≡ Some q → text ≡ query_text q
found text [] q e = cc
found text (p ∷ ps) q e = elim (bytes_cmp text (query_text p)) as (λ o. bytes_cmp text (query_text p) ≡ o → cond (is_eq o) (Some p) (at text ps) ≡ Some q → text ≡ query_text q) [
  | Less ↦ λ f g. found text ps q g
  | Equal ↦ λ f g. let is : p ≡ q = cc in exact_bytes text (query_text p) f ∙ ap query_text is
  | Greater ↦ λ f g. found text ps q g
] refl e

tie_is : (text : List ℕ) (q p : Query) → text ≡ query_text q → ties lower q p ≡ has_text text p
tie_is text q p is = ties_are (text_cmp q p) (text_cmp p q) (text_total.antisymm q p) ∙ ap (λ t. is_eq (bytes_cmp t (query_text p))) (sym is)

filter_alike : (f g : Query → Bool) → ((p : Query) → f p ≡ g p) → (ps : List Query) → filter f ps ≡ filter g ps
filter_alike f g h ps = λ i. filter (λ p. h p i) ps

at_stable : (text : List ℕ) (ps qs : List Query) → IsStableBy lower ps qs → (q : Query) → at text ps ≡ Some q → at text qs ≡ Some q
at_stable text ps qs stable q e =
    let tests : (p : Query) → ties lower q p ≡ has_text text p = λ p. tie_is text q p (found text ps q e) in
    at_is text qs ∙ ap first_of (sym (filter_alike (ties lower q) (has_text text) tests qs) ∙ stable q ∙ filter_alike (ties lower q) (has_text text) tests ps)
    ∙ sym (at_is text ps) ∙ e

at_sorted : (text : List ℕ) (ps qs : List Query) → IsStableBy lower ps qs → at text qs ≡ at text ps
at_sorted text ps qs stable = same_option (at text qs) (at text ps) (at_stable text qs ps (λ p. sym (stable p))) (at_stable text ps qs stable)

-- a later part with the text of an earlier one is not the first with any text
shadowed : {A : Type 0} (b : Bool) (x y z : A) → cond b x z ≡ cond b x (cond b y z)
shadowed true x y z = refl
shadowed false x y z = refl

at_dedup : (text : List ℕ) (p : Query) (ps : List Query) → at text (dedup_from same_text p ps) ≡ at text (p ∷ ps)
at_dedup text p [] = refl
at_dedup text p (q ∷ qs) = elim (text_cmp q p) as (λ o. text_cmp q p ≡ o → at text (cond (is_eq o) (dedup_from same_text p qs) (p ∷ dedup_from same_text q qs)) ≡ at text (p ∷ q ∷ qs)) [
  | Less ↦ λ e. ap (cond (has_text text p) (Some p)) (at_dedup text q qs)
  | Equal ↦ λ e. at_dedup text p qs ∙ shadowed (has_text text p) (Some p) (Some q) (at text qs)
      ∙ ap (λ t. cond (has_text text p) (Some p) (cond (eq_by_cmp bytes_cmp text t) (Some q) (at text qs))) (sym (same_texts q p e))
  | Greater ↦ λ e. ap (cond (has_text text p) (Some p)) (at_dedup text q qs)
] refl

at_deduped : (text : List ℕ) (ps : List Query) → at text (dedup same_text ps) ≡ at text ps
at_deduped text [] = refl
at_deduped text (p ∷ ps) = at_dedup text p ps

holds : (b : Bool) → b ≡ true → T b
holds b e = subst T (sym e) tt

both : (a b : Bool) → T a → T b → T (a && b)
both true b s t = t
both false b s t = s

below : (p : Query) (ps : List Query) → AllByRecursion (λ q. text_cmp p q ≡ Less) ps → T (below_all bytes_cmp (query_text p) (map entry ps))
below p [] h = tt
below p (q ∷ qs) h = both _ _ (holds _ (ap is_lt h.0)) (below p qs h.1)

strict : (ps : List Query) → IsStrictlySortedBy text_cmp ps → Strict ps
unfolding IsStrictlySortedBy
strict [] h = tt
strict (p ∷ ps) h = both _ _ (below p ps h.0) (strict ps h.1)

pub sorted_once : (ps sorted once : List Query) → IsSortedBy lower sorted → IsStableBy lower ps sorted → once ≡ dedup same_text sorted → once ≡ arranged ps
sorted_once ps sorted once up stable is = is ∙ same_parts (dedup same_text sorted) (arranged ps)
    (strict (dedup same_text sorted) (IsStrictlySortedBy-dedup text_total (λ p q. refl) sorted up)) (arranged_strict ps)
    (λ text. at_deduped text sorted ∙ at_sorted text ps sorted stable ∙ sym (at_arranged text ps))
