-- Lists of bytes as keys, and numbers as keys: their orders are total, and only equal keys tie.
use Rattle.std.specs.Cmp.{IsTotalOrder, nat_cmp_total}
use Rattle.std.specs.Cmp.Lexicographic.{nat_list_cmp_total}
use Rattle.std.specs.FinMap.{IsAntisymmetric, nat_cmp-IsAntisymmetric, slice_cmp-IsAntisymmetric}
use Rattle.std.specs.Ordering.{nat_cmp}
use Rattle.xod_base.specs.Values.{bytes_cmp}

pub bytes_total : IsTotalOrder bytes_cmp
bytes_total = nat_list_cmp_total

pub bytes_same : IsAntisymmetric bytes_cmp
bytes_same = slice_cmp-IsAntisymmetric nat_cmp-IsAntisymmetric

pub numbers_total : IsTotalOrder nat_cmp
numbers_total = nat_cmp_total

pub numbers_same : IsAntisymmetric nat_cmp
numbers_same = nat_cmp-IsAntisymmetric
