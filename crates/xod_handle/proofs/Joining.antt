-- The query of parts, and the parts of a query.
use Rattle.std.proofs.Common.{◌≡◌, ℕ, ◌<◌, List, [], ◌∷◌, ◌++◌, length, refl, sym, ap, ◌∙◌, arith, append_assoc, true, Less, Equal, Greater}
use Rattle.std.specs.List.{AllByRecursion as Each}
use Rattle.std.specs.List.{flat_map}
use Rattle.xod_base.specs.declared.query.Query.{Query}
use Rattle.xod_base.specs.declared.query.Query.TheOpen.{Union, Intersect}
use Rattle.xod_base.specs.declared.query.Query.TheFolds.{fold-roll-Query}
use Rattle.xod_base.specs.QueryTexts.{query_text, text_at}
use Rattle.xod_handle.specs.declared.join.Join.{Join}
use Rattle.xod_handle.specs.declared.join.Join.TheVariants.{Either, Both}
use Rattle.xod_handle.specs.Forms.{Form, front_text, join_word, joined, joined_form, joined_whole, nested, onto, written, same_join, parts_or, form_at, form_of, parts_of, put_by, put_part, arranged}
use Rattle.xod_handle.proofs.Arranging.{text_cmp}

-- ---- joining

pub onto_last : (join : Join) (ps : List Query) (p last : Query) → onto join (ps ++ p ∷ []) last ≡ onto join ps (joined join p last)
onto_last join [] p last = refl
onto_last join (q ∷ qs) p last = ap (joined join q) (onto_last join qs p last)

nested_last : (join : Join) (first : Query) (ps : List Query) (last : Query) → nested join first (ps ++ last ∷ []) ≡ onto join (first ∷ ps) last
nested_last join first [] last = refl
nested_last join first (p ∷ ps) last = ap (joined join first) (nested_last join p ps last)

pub written_last : (join : Join) (otherwise : Query) (ps : List Query) (last : Query) → 0 < length ps → written join otherwise (ps ++ last ∷ []) ≡ onto join ps last
written_last join otherwise [] last h = absurd (omega arith)
written_last join otherwise (p ∷ []) last h = refl
written_last join otherwise (p ∷ q ∷ qs) last h = nested_last join p (q ∷ qs) last

-- ---- the text of parts that are joined

text_joined : (join : Join) (l r : Query) → query_text (joined join l r) ≡ join_word join ++ (query_text l ++ 32 ∷ query_text r)
text_joined Either l r = fold-roll-Query (List ℕ) text_at (Union l r)
text_joined Both l r = fold-roll-Query (List ℕ) text_at (Intersect l r)

front_joined : (join : Join) (l r : Query) → front_text join l ++ query_text r ≡ query_text (joined join l r)
front_joined join l r = append_assoc (join_word join) (query_text l ++ 32 ∷ []) (query_text r)
    ∙ ap (λ t. join_word join ++ t) (append_assoc (query_text l) (32 ∷ []) (query_text r)) ∙ sym (text_joined join l r)

text_onto : (join : Join) (ps : List Query) (last : Query) → flat_map (front_text join) ps ++ query_text last ≡ query_text (onto join ps last)
text_onto join [] last = refl
text_onto join (p ∷ ps) last = append_assoc (front_text join p) (flat_map (front_text join) ps) (query_text last)
    ∙ ap (λ t. front_text join p ++ t) (text_onto join ps last) ∙ front_joined join p (onto join ps last)

-- a part's text behind a front, where both stand behind others
pub texts_behind : (old front new : List ℕ) (whole : Query) (text last out : List ℕ) → front ++ text ≡ query_text whole
    → new ≡ old ++ front → last ≡ text → out ≡ new ++ last → out ≡ old ++ query_text whole
texts_behind old front new whole text last out is new_is last_is out_is =
    out_is ∙ (λ i. new_is i ++ last_is i) ∙ append_assoc old front text ∙ ap (λ t. old ++ t) is

pub twice_text : (join : Join) (p : Query) → front_text join p ++ query_text p ≡ query_text (joined join p p)
twice_text join p = front_joined join p p

pub onto_text : (join : Join) (ps qs : List Query) (last : Query) → qs ≡ ps → flat_map (front_text join) qs ++ query_text last ≡ query_text (onto join ps last)
onto_text join ps qs last is = ap (λ l. flat_map (front_text join) l ++ query_text last) is ∙ text_onto join ps last

-- ---- the parts of a joined query

pub form_joined : (join : Join) (l r : Query) → form_of (joined join l r) ≡ joined_form join (form_of l) (form_of r)
form_joined Either l r = fold-roll-Query Form form_at (Union l r)
form_joined Both l r = fold-roll-Query Form form_at (Intersect l r)

parts_same : (join : Join) (ps : List Query) (q : Query) → parts_or (same_join join join) ps q ≡ ps
parts_same Either ps q = refl
parts_same Both ps q = refl

pub parts_joined : (join : Join) (l r : Query) → parts_of join (joined join l r) ≡ parts_of join l ++ parts_of join r
parts_joined join l r = ap (λ f. f.parts join) (form_joined join l r) ∙ parts_same join (parts_of join l ++ parts_of join r) (joined_whole join (form_of l) (form_of r))

-- the parts of one behind others, then those of the other
pub push_both : (join other : Join) (q l r a b : Query) (new mid old : List Query) → join ≡ other → q ≡ joined other l r → a ≡ l → b ≡ r
    → mid ≡ old ++ parts_of join a → new ≡ mid ++ parts_of join b → new ≡ old ++ parts_of join q
push_both join other q l r a b new mid old is whole left right one both =
    both ∙ ap (λ ps. ps ++ parts_of join b) one ∙ append_assoc old (parts_of join a) (parts_of join b)
    ∙ ap (λ ps. old ++ ps) ((λ i. parts_of join (left i) ++ parts_of join (right i)) ∙ sym (parts_joined join l r)
    ∙ ap (λ j. parts_of join (joined j l r)) is ∙ ap (parts_of join) (sym whole))

-- there is a part left when parts were put in order
put_some : (p : Query) (ps : List Query) → 0 < length (put_part p ps)
put_some p [] = omega arith
put_some p (f ∷ fs) = elim (text_cmp p f) as (λ o. 0 < length (put_by o p f fs (put_part p fs))) [
  | Less ↦ omega arith
  | Equal ↦ omega arith
  | Greater ↦ omega arith
]

pub arranged_some : (ps : List Query) → 0 < length ps → 0 < length (arranged ps)
arranged_some [] h = h
arranged_some (p ∷ ps) h = put_some p (arranged ps)

-- ---- what holds of each part

pub each_append : (P : Query → Type 0) (ps qs : List Query) → Each P ps → Each P qs → Each P (ps ++ qs)
each_append P [] qs h k = k
each_append P (p ∷ ps) qs h k = (h.0, each_append P ps qs h.1 k)

each_put : (P : Query → Type 0) (p : Query) (ps : List Query) → P p → Each P ps → Each P (put_part p ps)
each_put P p [] h k = (h, tt)
each_put P p (f ∷ fs) h k = elim (text_cmp p f) as (λ o. Each P (put_by o p f fs (put_part p fs))) [
  | Less ↦ (h, k)
  | Equal ↦ (h, k.1)
  | Greater ↦ (k.0, each_put P p fs h k.1)
]

pub each_arranged : (P : Query → Type 0) (ps : List Query) → Each P ps → Each P (arranged ps)
each_arranged P [] h = tt
each_arranged P (p ∷ ps) h = each_put P p (arranged ps) h.0 (each_arranged P ps h.1)

pub some_append : (ps qs : List Query) → 0 < length ps → 0 < length (ps ++ qs)
some_append [] qs h = absurd (omega arith)
some_append (p ∷ ps) qs h = omega arith

pub joins_are : (a b : Join) → same_join a b ≡ true → a ≡ b
joins_are Either Either e = refl
joins_are Either Both e = cc
joins_are Both Either e = cc
joins_are Both Both e = refl
