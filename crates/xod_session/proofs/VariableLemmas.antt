-- A tree of ids by the bytes of names: what a look-up and a change mean of the variables.
use Rattle.std.proofs.Common.{◌≡◌, ℕ, Bool, true, false, cond, List, [], ◌∷◌, map, Vec, Some, refl, sym, ap, ◌∙◌, ⊎_elim}
use Rattle.std.specs.declared.alloc.Global.{Global}
use Rattle.std.specs.Ordering.{nat_cmp, is_eq, eq_by_cmp}
use Rattle.std.specs.Cmp.{eq_by_cmp_equiv}
use Rattle.std.specs.Cmp.Lexicographic.{nat_list_cmp_total, nat_list_eq_equiv, slice_cmp}
use Rattle.std.specs.Str.{bytes_eq}
use Rattle.std.specs.BTreeMap.{is_at}
use Rattle.std.specs.Map.{KeepsOthers, lookup}
use Rattle.std.specs.FinMap.{find, get, get-from_entries, get-insert, insert, nat_cmp-IsAntisymmetric, same_map, slice_cmp-IsAntisymmetric}
use Rattle.std.proofs.lemmas.Bool.{cases_Bool, cond-true, cond-false}
use Rattle.std.proofs.lemmas.Map.Text.{is_eq-slice_cmp}
use Rattle.std.proofs.lemmas.Slice.Eq.{bytes_eq-Decides}
use Rattle.xod_base.specs.declared.value.EntityId.{EntityId}
use Rattle.xod_base.specs.Values.{bytes_cmp}
use Rattle.xod_session.specs.VariableMaps.{named_id, variables_of}

abbrev Entries : Type 0
Entries = List (Vec ℕ Global × EntityId)

-- whether a key has these bytes
abbrev has_bytes : List ℕ → Vec ℕ Global → Bool
has_bytes bytes = is_at (λ key. slice_cmp nat_cmp bytes key.items)

find_is : (bytes : List ℕ) (es : Entries) → find bytes_cmp bytes (map named_id es) ≡ lookup (has_bytes bytes) es
find_is bytes [] = refl
find_is bytes (e ∷ es) = ap (cond (has_bytes bytes e.0) (Some e.1)) (find_is bytes es)

-- a look-up in the tree's entries is one among the variables
pub get_entries : (es : Entries) (bytes : List ℕ) → get (variables_of es) bytes ≡ lookup (has_bytes bytes) es
get_entries es bytes = get-from_entries nat_list_cmp_total (map named_id es) bytes ∙ find_is bytes es

apart : (bytes others key : List ℕ) → bytes_eq bytes others ≡ false → is_eq (slice_cmp nat_cmp bytes key) ≡ true → is_eq (slice_cmp nat_cmp others key) ≡ false
apart bytes others key differ is =
    is_eq-slice_cmp others key ∙ nat_list_eq_equiv.symm others key ∙ sym (nat_list_eq_equiv.congr bytes key others (sym (is_eq-slice_cmp bytes key) ∙ is)) ∙ differ

keeps : (old new : Entries) (bytes others : List ℕ) → KeepsOthers (eq_by_cmp (λ (x : Vec ℕ Global) (y : Vec ℕ Global). slice_cmp nat_cmp x.items y.items)) (has_bytes bytes) old new → bytes_eq bytes others ≡ false
    → lookup (has_bytes others) new ≡ lookup (has_bytes others) old
unfolding KeepsOthers
keeps old new bytes others keep differ =
    keep (has_bytes others) (λ x y. (eq_by_cmp_equiv nat_list_cmp_total).congr others x.items y.items) (λ key. apart bytes others key.items differ)

-- a tree that has one id more or anew, and all others as before
pub set_entries : (old new : Entries) (bytes : List ℕ) (id : EntityId) → lookup (has_bytes bytes) new ≡ Some id
    → KeepsOthers (eq_by_cmp (λ (x : Vec ℕ Global) (y : Vec ℕ Global). slice_cmp nat_cmp x.items y.items)) (has_bytes bytes) old new → variables_of new ≡ insert (variables_of old) bytes id
set_entries old new bytes id here keep =
    same_map nat_list_cmp_total (slice_cmp-IsAntisymmetric nat_cmp-IsAntisymmetric) (variables_of new) (insert (variables_of old) bytes id) (λ others.
    get_entries new others
    ∙ ⊎_elim
    (λ same. let is : bytes ≡ others = (bytes_eq-Decides bytes others).0 same in
    ap (λ b. lookup (has_bytes b) new) (sym is) ∙ here ∙ sym (cond-true (eq_by_cmp bytes_cmp others bytes) (Some id) (get (variables_of old) others) ((eq_by_cmp_equiv nat_list_cmp_total).symm others bytes ∙ is_eq-slice_cmp bytes others ∙ same)))
    (λ differ. keeps old new bytes others keep differ ∙ sym (get_entries old others)
    ∙ sym (cond-false (eq_by_cmp bytes_cmp others bytes) (Some id) (get (variables_of old) others) ((eq_by_cmp_equiv nat_list_cmp_total).symm others bytes ∙ is_eq-slice_cmp bytes others ∙ differ)))
    (cases_Bool (bytes_eq bytes others))
    ∙ sym (get-insert nat_list_cmp_total (variables_of old) bytes id others))
