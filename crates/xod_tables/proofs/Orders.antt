-- The orders of ids, of properties and of links are total, and only equal keys tie.
use Rattle.std.proofs.Common.{◌≡◌, ℕ, zero, suc, List, [], ◌∷◌, ◌++◌, map, refl, sym, ap, ◌∙◌}
use Rattle.std.specs.Cmp.{IsTotalOrder}
use Rattle.std.specs.Cmp.Lexicographic.{on_texts}
use Rattle.std.specs.FinMap.{IsAntisymmetric}
use Rattle.xod_base.specs.declared.value.EntityId.{EntityId}
use Rattle.xod_base.specs.Rows.{Cell, LinkKey, id_cmp, cell_cmp, link_cmp, numbers_of_id, numbers_of_cell, numbers_of_link}
use Rattle.xod_carry.proofs.CallerLemmas.{bytes_same}

id_from : List ℕ → EntityId
id_from [] = record { kind = 0; local = 0 }
id_from (kind ∷ []) = record { kind = kind; local = 0 }
id_from (kind ∷ local ∷ more) = record { kind = kind; local = local }

cell_from : List ℕ → Cell
cell_from [] = (record { kind = 0; local = 0 }, [])
cell_from (kind ∷ []) = (record { kind = kind; local = 0 }, [])
cell_from (kind ∷ local ∷ name) = (record { kind = kind; local = local }, name)

pub id_total : IsTotalOrder id_cmp
id_total = on_texts numbers_of_id

pub cell_total : IsTotalOrder cell_cmp
cell_total = on_texts numbers_of_cell

pub link_total : IsTotalOrder link_cmp
link_total = on_texts numbers_of_link

pub id_same : IsAntisymmetric id_cmp
unfolding id_from
id_same a b e = ap id_from (bytes_same (numbers_of_id a) (numbers_of_id b) e)

pub cell_same : IsAntisymmetric cell_cmp
unfolding cell_from
cell_same a b e = ap cell_from (bytes_same (numbers_of_cell a) (numbers_of_cell b) e)

-- ---- a name and a target behind it, with a 0 between
before_end : ℕ → List ℕ × EntityId → List ℕ × EntityId
before_end byte end = (byte ∷ end.0, end.1)

end_from : List ℕ → List ℕ × EntityId
end_from [] = ([], id_from [])
end_from (zero ∷ more) = ([], id_from more)
end_from (suc byte ∷ more) = before_end byte (end_from more)

end_is : (name : List ℕ) (target : EntityId) → end_from (map (λ byte. suc byte) name ++ (0 ∷ target.kind ∷ target.local ∷ [])) ≡ (name, target)
unfolding id_from end_from before_end
end_is [] target = refl
end_is (byte ∷ name) target = ap (before_end byte) (end_is name target)

link_from : List ℕ → LinkKey
link_from [] = (id_from [], ([], id_from []))
link_from (kind ∷ []) = (id_from (kind ∷ []), ([], id_from []))
link_from (kind ∷ local ∷ more) = (record { kind = kind; local = local }, end_from more)

link_is : (link : LinkKey) → link_from (numbers_of_link link) ≡ link
unfolding link_from
link_is link = λ i. (link.0, end_is link.1.0 link.1.1 i)

pub link_same : IsAntisymmetric link_cmp
link_same a b e = sym (link_is a) ∙ ap link_from (bytes_same (numbers_of_link a) (numbers_of_link b) e) ∙ link_is b
