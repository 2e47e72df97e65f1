-- Addresses, their order, and the numbers that stand for them in it.
use Rattle.std.specs.Prelude.{◌≡◌, ◌<◌, ◌⊎◌, ℕ, ◌+◌, ◌*◌, ◌^◌}
use Rattle.xod_block.specs.declared.address.Address.{Address}

-- by file, then by place
abbrev pub IsBefore : Address → Address → Type 0
IsBefore a b = (a.file < b.file) ⊎ ((a.file ≡ b.file) × (a.at < b.at))

-- the file in front, and the place in the low 64 bits
abbrev pub number_of : Address → ℕ
number_of address = address.file * 2 ^ 64 + address.at
