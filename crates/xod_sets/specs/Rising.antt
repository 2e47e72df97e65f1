-- Which lists of ids rise.
use Rattle.std.specs.Prelude.{Bool, true, ◌&&◌, List, [], ◌∷◌}
use Rattle.std.specs.List.{list_all}
use Rattle.std.specs.Ordering.{is_lt}
use Rattle.xod_base.specs.declared.value.EntityId.{EntityId}
use Rattle.xod_base.specs.Rows.{id_cmp}

-- whether an id comes before each of some others
abbrev pub is_before : EntityId → List EntityId → Bool
is_before id others = list_all (λ other. is_lt (id_cmp id other)) others

-- A list rises: each id comes before all that stand behind it. So it has each of its ids once.
abbrev pub rises : List EntityId → Bool
rises [] = true
rises (id ∷ ids) = is_before id ids && rises ids
