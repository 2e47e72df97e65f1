-- One step of a look-up.
use Rattle.std.proofs.Common.{◌≡◌, ◌≤◌, ℕ, List, Option, Some, refl, sym, ◌∙◌, ap}
use Rattle.std.specs.Prelude.{IsSome}
use Rattle.xod_base.specs.declared.causes.Place.{Place}
use Rattle.xod_block.specs.declared.address.Address.{Address}
use Rattle.xod_block.specs.Addresses.{number_of}
use Rattle.xod_block.specs.Fetches.{place_of}
use Rattle.xod_block.specs.Maps.{RecordsAt, map_at}
use Rattle.xod_block.specs.Records.{RecordValue}
use Rattle.xod_trie.specs.declared.branch.Branch.{Branch}
use Rattle.xod_trie.specs.Branches.{IsBranch, child_of, value_in_child, value_behind}
use Rattle.xod_trie.specs.Damage.{Names, IsReached, Below, IsBad, NotBelow, IsDamaged}
use Rattle.xod_trie.specs.Tries.{value_at}
use Rattle.xod_trie.specs.Ways.{EndsWith, GoesTo, LeadsTo}
use Rattle.xod_trie.proofs.Damaged.{named-has, child_of-get}
use Rattle.xod_trie.proofs.Values.{value_at-by}

-- the child under a byte is named
pub names-child : (item : Option RecordValue) (b : Branch) (byte : ℕ) (child : Address) → IsBranch item b → child_of byte b.children ≡ Some child → Names item child
names-child item b byte child here is =
    let h = child_of-get byte b.children child is in
    record { branch = b; is = here.is; index = h.0; byte = h.1; link = h.2 }

pub bad-child : (item : Option RecordValue) (at : ℕ) (b : Branch) (byte : ℕ) (child : Address) → IsBranch item b → child_of byte b.children ≡ Some child → at ≤ number_of child → IsBad item at
bad-child item at b byte child here is le = NotBelow child (names-child item b byte child here is) le

pub damaged-at : (records : RecordsAt) (root : Option Address) (at : Address) (place : Place) → IsReached records root at → IsBad (records (number_of at)) (number_of at) → place ≡ place_of at → IsDamaged records root place
damaged-at records root at place reached bad is = record { at = at; reached = reached; bad = bad; place_is = is }

pub reached-child : (records : RecordsAt) (root : Option Address) (at child : Address) (rest left : List ℕ) → IsReached records root at → GoesTo (records (number_of at)) (number_of at) rest child left → IsReached records root child
reached-child records root at child rest left reached goes = Below at child reached (names-child (records (number_of at)) goes.branch goes.byte child goes.here goes.child_is)

pub leads-first : (records : RecordsAt) (from : ℕ) (key : List ℕ) → IsSome (map_at records from) → LeadsTo records from key from key
leads-first records from key some = record { map = some; value = refl }

module _ (records : RecordsAt) (from : ℕ) (key : List ℕ) (at : ℕ) (rest : List ℕ) (leads : LeadsTo records from key at rest) where
  -- the value is known
  pub leads-end : (value : Option (List ℕ)) → EndsWith (records at) rest value → value ≡ value_at records from key
  leads-end value e = sym (e.ends (value_at records)) ∙ sym (value_at-by records at e.branch rest leads.map e.here) ∙ leads.value

  -- the key goes on in a child
  pub leads-on : (child : Address) (left : List ℕ) → GoesTo (records at) at rest child left → LeadsTo records from key (number_of child) left
  leads-on child left g = record {
    map = (named-has records at child leads.map (names-child (records at) g.branch g.byte child g.here g.child_is)).1;
    value = sym (value_at-by records at g.branch rest leads.map g.here
        ∙ ap (value_behind (value_at records) g.branch.value g.branch.children) g.behind_is
        ∙ ap (λ o. value_in_child (value_at records) o left) g.child_is)
        ∙ leads.value;
  }
