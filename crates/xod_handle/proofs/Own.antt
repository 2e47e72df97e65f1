-- A normal form is its own normal form.
use Rattle.std.proofs.Common.{◌≡◌, ◌<◌, true, false, List, [], ◌∷◌, ◌++◌, length, refl, sym, ap, ◌∙◌, subst, arith}
use Rattle.std.specs.List.{AllByRecursion as Each}
use Rattle.std.specs.Cmp.{tied_itself}
use Rattle.xod_base.specs.declared.value.Value.{Value}
use Rattle.xod_base.specs.declared.value.Value.TheVariants.{Flag, Int, Text}
use Rattle.xod_base.specs.declared.query.Query.{Query, roll-Query}
use Rattle.xod_base.specs.declared.query.Query.TheOpen.{Query-F}
use Rattle.xod_base.specs.declared.query.Query.TheOpen.{All, Find, Range, Prefix, With, WithLink, Linked, LinksOf, Union, Intersect, Minus, Targets, Sort, Skip, Take}
use Rattle.xod_base.specs.declared.query.Query.TheFolds.{map-Query, fold-roll-Query}
use Rattle.xod_base.specs.Values.{folded}
use Rattle.xod_handle.specs.declared.join.Join.{Join}
use Rattle.xod_handle.specs.declared.join.Join.TheVariants.{Either, Both}
use Rattle.xod_handle.specs.Forms.{Form, single, joined, put_by, arranged, nested, written, joined_whole, joined_form, same_join, parts_or, form_at, form_of, normal_of, parts_of, folded_value}
use Rattle.xod_handle.specs.Laws.{NormalIsItsOwn}
use Rattle.xod_handle.proofs.Arranging.{Strict, arranged_again, arranged_strict, text_cmp, text_total}
use Rattle.xod_handle.proofs.FoldedTexts.{folded_twice}
use Rattle.xod_handle.proofs.Inductions.{Parts, by_parts}
use Rattle.xod_handle.proofs.Joining.{arranged_some, each_append, each_arranged, form_joined, joins_are, parts_joined, some_append}

-- ---- the form of a query that was written from parts

normal_joined : (join : Join) (l r : Query) → normal_of (joined join l r) ≡ written join (normal_of l) (arranged (parts_of join l ++ parts_of join r))
normal_joined join l r = ap (λ f. f.whole) (form_joined join l r)

-- a part that is its own normal form, and one part where it stands
abbrev Alone : Join → Query → Type 0
Alone join p = (parts_of join p ≡ p ∷ []) × (normal_of p ≡ p)

parts_nested : (join : Join) (p : Query) (ps : List Query) → Alone join p → Each (Alone join) ps → parts_of join (nested join p ps) ≡ p ∷ ps
parts_nested join p [] h k = h.0
parts_nested join p (q ∷ qs) h k = parts_joined join p (nested join q qs) ∙ (λ i. h.0 i ++ parts_nested join q qs k.0 k.1 i)

normal_written : (join : Join) (o : Query) (ps : List Query) → 0 < length ps → Strict ps → Each (Alone join) ps → normal_of (written join o ps) ≡ written join o ps
normal_written join o [] some s h = absurd (omega arith)
normal_written join o (p ∷ []) some s h =
    normal_joined join p p
    ∙ ap (λ qs. written join (normal_of p) (arranged qs)) (λ i. h.0.0 i ++ h.0.0 i)
    ∙ ap (λ r. written join (normal_of p) (put_by r p p [] (p ∷ []))) (tied_itself text_total p)
normal_written join o (p ∷ q ∷ qs) some s h =
    normal_joined join p (nested join q qs)
    ∙ ap (λ rs. written join (normal_of p) (arranged rs)) (λ i. h.0.0 i ++ parts_nested join q qs h.1.0 h.1.1 i)
    ∙ ap (written join (normal_of p)) (arranged_again (p ∷ q ∷ qs) s)

-- what was written as one join is one part of the other
other_joined : (other join : Join) (l r : Query) → same_join other join ≡ false → parts_of other (joined join l r) ≡ normal_of (joined join l r) ∷ []
other_joined other join l r e = ap (λ f. f.parts other) (form_joined join l r)
    ∙ ap (λ b. parts_or b (parts_of join l ++ parts_of join r) (joined_whole join (form_of l) (form_of r))) e
    ∙ ap (λ q. q ∷ []) (sym (normal_joined join l r))

other_written : (other join : Join) (o : Query) (ps : List Query) → 0 < length ps → same_join other join ≡ false → parts_of other (written join o ps) ≡ normal_of (written join o ps) ∷ []
other_written other join o [] some e = absurd (omega arith)
other_written other join o (p ∷ []) some e = other_joined other join p p e
other_written other join o (p ∷ q ∷ qs) some e = other_joined other join p (nested join q qs) e

-- ---- by induction

-- a form whose query and parts are their own normal forms
record Stays (f : Form) : Type 0 where
  own : normal_of f.whole ≡ f.whole
  some : (join : Join) → 0 < length (f.parts join)
  each : (join : Join) → Each (Alone join) (f.parts join)

alone_stays : (q : Query) → form_of q ≡ single q → Stays (single q)
alone_stays q e = record { own = ap (λ f. f.whole) e; some = λ join. omega arith; each = λ join. ((ap (λ f. f.parts join) e, ap (λ f. f.whole) e), tt) }

joined_stays : (join : Join) (f g : Form) → Stays f → Stays g → Stays (joined_form join f g)
joined_stays join f g h k =
    let ps : List Query = f.parts join ++ g.parts join in
    let some : 0 < length ps = some_append (f.parts join) (g.parts join) (h.some join) in
    let here : 0 < length (arranged ps) = arranged_some ps some in
    let each : Each (Alone join) ps = each_append (Alone join) (f.parts join) (g.parts join) (h.each join) (k.each join) in
    let whole : Query = joined_whole join f g in
    let own : normal_of whole ≡ whole = normal_written join f.whole (arranged ps) here (arranged_strict ps) (each_arranged (Alone join) ps each) in
    record {
      own = own;
      some = λ other. elim (same_join other join) as (λ b. 0 < length (parts_or b ps whole)) [ true ↦ some | false ↦ omega arith ];
      each = λ other. elim (same_join other join) as (λ b. same_join other join ≡ b → Each (Alone other) (parts_or b ps whole)) [
        | true ↦ λ e. subst (λ (j : Join). Each (Alone j) ps) (sym (joins_are other join e)) each
        | false ↦ λ e. ((other_written other join f.whole (arranged ps) here e ∙ ap (λ q. q ∷ []) own, own), tt)
      ] refl;
    }

value_twice : (value : Value) → folded_value (folded_value value) ≡ folded_value value
value_twice (Flag flag) = refl
value_twice (Int number) = refl
value_twice (Text text) = ap Text (folded_twice text)

-- a level that is one part wherever it stands, and its own normal form where its fields and parts are
one : (z own : Query-F Query) → form_at (map-Query Query Form form_of z) ≡ single (roll-Query own) → roll-Query own ≡ roll-Query z → Stays (single (roll-Query z))
one z own e is = alone_stays (roll-Query z) (fold-roll-Query Form form_at z ∙ e ∙ ap single is)

at_level : (z : Query-F Query) → Parts (λ q. Stays (form_of q)) z → Stays (form_at (map-Query Query Form form_of z))
at_level (All k) parts = one (All k) (All k) refl refl
at_level (Find k p v) parts = one (Find k p (folded_value v)) (Find k p (folded_value (folded_value v))) refl (λ i. roll-Query (Find k p (value_twice v i)))
at_level (Range k p u v) parts = one (Range k p (folded_value u) (folded_value v)) (Range k p (folded_value (folded_value u)) (folded_value (folded_value v))) refl
    (λ i. roll-Query (Range k p (value_twice u i) (value_twice v i)))
at_level (Prefix k p x) parts = one (Prefix k p (folded x)) (Prefix k p (folded (folded x))) refl (λ i. roll-Query (Prefix k p (folded_twice x i)))
at_level (With k p) parts = one (With k p) (With k p) refl refl
at_level (WithLink k l) parts = one (WithLink k l) (WithLink k l) refl refl
at_level (Linked k l a) parts = one (Linked k l a) (Linked k l a) refl refl
at_level (LinksOf a l) parts = one (LinksOf a l) (LinksOf a l) refl refl
at_level (Union q r) parts = joined_stays Either (form_of q) (form_of r) parts.0 parts.1
at_level (Intersect q r) parts = joined_stays Both (form_of q) (form_of r) parts.0 parts.1
at_level (Minus q r) parts = one (Minus (normal_of q) (normal_of r)) (Minus (normal_of (normal_of q)) (normal_of (normal_of r))) refl
    (λ i. roll-Query (Minus (parts.0.own i) (parts.1.own i)))
at_level (Targets l q) parts = one (Targets l (normal_of q)) (Targets l (normal_of (normal_of q))) refl (λ i. roll-Query (Targets l (parts.own i)))
at_level (Sort p d q) parts = one (Sort p d (normal_of q)) (Sort p d (normal_of (normal_of q))) refl (λ i. roll-Query (Sort p d (parts.own i)))
at_level (Skip c q) parts = one (Skip c (normal_of q)) (Skip c (normal_of (normal_of q))) refl (λ i. roll-Query (Skip c (parts.own i)))
at_level (Take c q) parts = one (Take c (normal_of q)) (Take c (normal_of (normal_of q))) refl (λ i. roll-Query (Take c (parts.own i)))

stays : (q : Query) → Stays (form_of q)
stays q = by_parts (λ q. Stays (form_of q)) (λ z parts. subst Stays (sym (fold-roll-Query Form form_at z)) (at_level z parts)) q

pub own_normal : NormalIsItsOwn
own_normal q = (stays q).own
