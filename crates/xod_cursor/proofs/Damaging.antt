-- Which bytes on a way down are damaged.
use Rattle.std.proofs.Common.{◌≡◌, ◌<◌, ◌≤◌, Option, None, ap, inl, inr}
use Rattle.std.proofs.lemmas.Bool.{cases_lt}
use Rattle.xod_base.specs.declared.causes.Place.{Place}
use Rattle.xod_block.specs.declared.address.Address.{Address}
use Rattle.xod_block.specs.Addresses.{number_of}
use Rattle.xod_block.specs.Fetches.{place_of}
use Rattle.xod_block.specs.Maps.{RecordsAt}
use Rattle.xod_trie.specs.Branches.{branch_of}
use Rattle.xod_trie.specs.Damage.{IsReached, Below, Names, NoBranch, NotBelow, IsDamaged}
use Rattle.xod_trie.proofs.CallerLemmas.{damaged-at}

module _ (records : RecordsAt) (root : Option Address) where
  -- no leaf or node stands at an address that is reached
  pub no_branch-damaged : (at : Address) (place : Place) → IsReached records root at → branch_of (records (number_of at)) ≡ None → place ≡ place_of at → IsDamaged records root place
  no_branch-damaged at place reached none is = damaged-at records root at place reached (NoBranch none) is

  -- and so where there is no record
  pub no_record-damaged : (at : Address) (place : Place) → IsReached records root at → records (number_of at) ≡ None → place ≡ place_of at → IsDamaged records root place
  no_record-damaged at place reached none is = no_branch-damaged at place reached (ap branch_of none) is

  module _ (parent child : Address) (reached : IsReached records root parent) (names : Names (records (number_of parent)) child) where
    pub child-reached : IsReached records root child
    child-reached = Below parent child reached names

    -- a child is not below its parent
    pub not_below-damaged : (place : Place) → (number_of child < number_of parent → ⊥) → place ≡ place_of parent → IsDamaged records root place
    not_below-damaged place apart is =
        let above : number_of parent ≤ number_of child = elim (cases_lt (number_of child) (number_of parent)) [ inl lt ↦ absurd (apart lt) | inr ge ↦ ge ] in
        damaged-at records root parent place reached (NotBelow child names above) is
