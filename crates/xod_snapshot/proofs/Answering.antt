-- What a look-up or a walk under a root answers, as the answer of a view.
use Rattle.std.proofs.Common.{◌≡◌, Bool, Option, Result, Err, IsTrue, IfOk, IfSome}
use Rattle.xod_base.specs.declared.causes.Place.{Place}
use Rattle.xod_base.specs.declared.causes.ReadError.{ReadError}
use Rattle.xod_base.specs.declared.causes.ReadError.TheVariants.{Damaged}
use Rattle.xod_base.specs.Views.{Tree, Answers}
use Rattle.xod_block.specs.declared.address.Address.{Address}
use Rattle.xod_block.specs.Maps.{RecordsAt}
use Rattle.xod_trie.specs.Damage.{IsDamaged}
use Rattle.xod_trie.specs.Tries.{trie_map}
use Rattle.xod_trie.proofs.CallerLemmas.{damaged-trie}

module _ {A : Type 0} (tells : Bool) (records : RecordsAt) (root : Option Address) (sought : Tree → A) (result : Result A ReadError) where
  pub trie-answers : (IsTrue tells → IfSome (trie_map records root) (λ map. IfOk result (λ found. found ≡ sought map)))
      → (IsTrue tells → (place : Place) → result ≡ Err (Damaged place) → IsDamaged records root place)
      → Answers tells (trie_map records root) sought result
  trie-answers value damaged = record {
    value = value;
    damaged = λ told place is. damaged-trie records root place (damaged told place is);
  }
