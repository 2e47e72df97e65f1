-- The orders of ids, of properties and of links.
use Rattle.std.proofs.Common.{◌≡◌, ◌∙◌, ℕ, zero, suc, true, List, [], ◌∷◌, ◌++◌, map, ap, refl, sym, eqb-true, eq-eqb}
use Rattle.std.specs.Prelude.{◌==◌}
use Rattle.xod_journal.proofs.ListLemmas.{both, two}
use Rattle.std.specs.Cmp.{IsTotalOrder}
use Rattle.std.specs.Cmp.Lexicographic.{on_texts}
use Rattle.std.specs.FinMap.{IsAntisymmetric, nat_cmp-IsAntisymmetric, slice_cmp-IsAntisymmetric}
use Rattle.xod_base.specs.declared.value.EntityId.{EntityId}
use Rattle.xod_base.specs.Rows.{Cell, LinkKey, id_cmp, cell_cmp, link_cmp, numbers_of_id, numbers_of_cell, numbers_of_link, same_id}
use Rattle.xod_base.specs.Values.{bytes_cmp}

id_back : List ℕ → EntityId
id_back [] = record { kind = 0; local = 0 }
id_back (a ∷ []) = record { kind = a; local = 0 }
id_back (a ∷ b ∷ more) = record { kind = a; local = b }

cell_back : List ℕ → Cell
cell_back [] = (record { kind = 0; local = 0 }, [])
cell_back (a ∷ []) = (record { kind = a; local = 0 }, [])
cell_back (a ∷ b ∷ more) = (record { kind = a; local = b }, more)

pub bytes_same : IsAntisymmetric bytes_cmp
bytes_same = slice_cmp-IsAntisymmetric nat_cmp-IsAntisymmetric

pub id_total : IsTotalOrder id_cmp
id_total = on_texts numbers_of_id

pub cell_total : IsTotalOrder cell_cmp
cell_total = on_texts numbers_of_cell

pub id_same : IsAntisymmetric id_cmp
unfolding id_back
id_same a b e = ap id_back (bytes_same (numbers_of_id a) (numbers_of_id b) e)

pub cell_same : IsAntisymmetric cell_cmp
unfolding cell_back
cell_same a b e = ap cell_back (bytes_same (numbers_of_cell a) (numbers_of_cell b) e)

-- a name and a target that were put behind one another
after_byte : ℕ → List ℕ × EntityId → List ℕ × EntityId
after_byte byte end = (byte ∷ end.0, end.1)

end_back : List ℕ → List ℕ × EntityId
end_back [] = ([], id_back [])
end_back (zero ∷ more) = ([], id_back more)
end_back (suc byte ∷ more) = after_byte byte (end_back more)

link_back : List ℕ → LinkKey
link_back [] = (id_back [], ([], id_back []))
link_back (a ∷ []) = (id_back (a ∷ []), ([], id_back []))
link_back (a ∷ b ∷ more) = (record { kind = a; local = b }, end_back more)

end_is : (name : List ℕ) (target : EntityId) → end_back (map (λ byte. suc byte) name ++ (0 ∷ target.kind ∷ target.local ∷ [])) ≡ (name, target)
unfolding id_back end_back after_byte
end_is [] target = refl
end_is (byte ∷ name) target = ap (after_byte byte) (end_is name target)

link_is : (link : LinkKey) → link_back (numbers_of_link link) ≡ link
unfolding link_back
link_is link = λ i. (link.0, end_is link.1.0 link.1.1 i)

pub link_total : IsTotalOrder link_cmp
link_total = on_texts numbers_of_link

pub link_same : IsAntisymmetric link_cmp
link_same a b e = sym (link_is a) ∙ ap link_back (bytes_same (numbers_of_link a) (numbers_of_link b) e) ∙ link_is b

-- ---- the test of two ids
pub same_id-is : (a b : EntityId) → same_id a b ≡ true → a ≡ b
same_id-is a b h =
    let t = two (a.kind == b.kind) (a.local == b.local) h in
    let kind = eqb-true a.kind b.kind t.0 in
    let local = eqb-true a.local b.local t.1 in
    λ i. record { kind = kind i; local = local i }

pub same_id-itself : (a : EntityId) → same_id a a ≡ true
same_id-itself a = both _ _ (eq-eqb a.kind a.kind refl) (eq-eqb a.local a.local refl)
