-- What a seat is.
use Rattle.std.specs.Prelude.{◌≡◌, ◌<◌, ◌^◌, ℕ, true, false}
use Rattle.xod_block.specs.declared.address.Address.{Address}
use Rattle.xod_trie_mut.specs.declared.seat.Stand.{Stand}
use Rattle.xod_trie_mut.specs.declared.seat.Stand.TheVariants as stand
use Rattle.xod_trie_mut.specs.Own.{is_saved, own_address}

-- a record of the log
pub record IsSavedSeat (seat at : Address) : Type 0 where
  pub is : seat ≡ at
  pub saved : is_saved seat ≡ true
  pub file : at.file < 2 ^ 32
  pub place : at.at < 2 ^ 64

-- a branch in memory
pub record IsOwnSeat (seat : Address) (index : ℕ) : Type 0 where
  pub is : seat ≡ own_address index
  pub own : is_saved seat ≡ false
  pub small : index < 2 ^ 64

abbrev pub IsStand : Address → Stand → Type 0
IsStand seat (stand.Saved at) = IsSavedSeat seat at
IsStand seat (stand.Own index) = IsOwnSeat seat index
