-- No tree is listed where there are no roots.
use Rattle.std.proofs.Common.{◌≡◌, List, [], ◌∷◌, length, sym, refl, ap, ◌∙◌, arith}
use Rattle.std.specs.FinMap.{empty, entries, len, len-empty, len-entries}
use Rattle.std.specs.Ordering.{nat_cmp}
use Rattle.xod_block.specs.declared.address.Address.{Address}
use Rattle.xod_block.specs.Records.{Link}
use Rattle.xod_root.specs.Roots.{Roots}

nothing : (links : List Link) → length links ≡ 0 → links ≡ []
nothing [] none = refl
nothing (link ∷ links) none = absurd (omega (arith, none))

pub none-listed : (roots : Roots) → roots ≡ empty → entries roots ≡ []
none-listed roots is = nothing (entries roots) (sym (len-entries roots) ∙ ap len is ∙ len-empty nat_cmp Address)
