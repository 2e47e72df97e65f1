-- Where a walk goes on from a branch.
use Rattle.std.proofs.Common.{◌≡◌, ℕ, List, [], ◌∷◌, ◌++◌, Bool, Some, refl, sym, ◌∙◌, ap}
use Rattle.std.proofs.lemmas.List.{append_assoc, append-nil}
use Rattle.xod_base.specs.Views.{Entry}
use Rattle.xod_block.specs.Addresses.{number_of}
use Rattle.xod_block.specs.Maps.{RecordsAt, Pairs, under, map_at}
use Rattle.xod_block.specs.Records.{Link}
use Rattle.xod_trie.specs.Least.{passes}
use Rattle.xod_cursor.specs.declared.wanted.Onward.{Onward}
use Rattle.xod_cursor.specs.Entries.{kept}
use Rattle.xod_cursor.specs.Walks.{Walks}
use Rattle.xod_cursor.specs.Wants.{IsOnward, IsInto}
use Rattle.xod_cursor.proofs.Kept.{under-append, under-under, under-nil}

pub walks-first : (records : RecordsAt) (strict : Bool) (key : List ℕ) (at : ℕ) (pairs : Pairs) (AreLeft : List Entry → Type 0) → map_at records at ≡ Some pairs → AreLeft [] → Walks records strict key (kept (passes strict key) pairs) at key AreLeft
walks-first records strict key at pairs AreLeft map none = record {
  pairs = pairs;
  pairs_is = map;
  done = [];
  whole = refl;
  later = [];
  is = sym (append-nil (under [] (kept (passes strict key) pairs)) ∙ under-nil (kept (passes strict key) pairs));
  left = none;
}

-- behind a front, all behind a key part and then others
pub under-part : (done part : List ℕ) (es fs later : List Entry) → under done (under part (es ++ fs)) ++ later ≡ under (done ++ part) es ++ (under (done ++ part) fs ++ later)
under-part done part es fs later =
    ap (λ (l : List Entry). l ++ later) (under-under done part (es ++ fs) ∙ under-append (done ++ part) es fs)
    ∙ append_assoc (under (done ++ part) es) (under (done ++ part) fs) later

module _ (records : RecordsAt) (strict : Bool) (key : List ℕ) (entries : List Entry) (at : ℕ) (rest : List ℕ) (AreLeft : List Entry → Type 0) (w : Walks records strict key entries at rest AreLeft) (onward : Onward) where
  pub front-whole : rest ≡ onward.part.now ++ onward.behind.now → key ≡ (w.done ++ onward.part.now) ++ onward.behind.now
  front-whole whole = w.whole ∙ ap (λ (k : List ℕ). w.done ++ k) whole ∙ sym (append_assoc w.done onward.part.now onward.behind.now)

  -- all under the children from a place on
  pub walks-onward : (o : IsOnward records at rest onward (kept (passes strict rest) w.pairs)) → entries ≡ under (w.done ++ onward.part.now) o.others ++ w.later
  walks-onward o = w.is ∙ ap (λ (es : List Entry). under w.done es ++ w.later) o.is ∙ ap (λ (es : List Entry). es ++ w.later) (under-under w.done onward.part.now o.others)

  -- the child of the next byte, and all under those behind it
  pub walks-into : (child : Link) (left : List ℕ) (AreNowLeft : List Entry → Type 0) (i : IsInto records strict at rest child left onward (kept (passes strict rest) w.pairs)) → AreNowLeft (under (w.done ++ onward.part.now) i.others ++ w.later) → Walks records strict key entries (number_of child.1) left AreNowLeft
  walks-into child left AreNowLeft i are_left =
      let front = w.done ++ onward.part.now in
      let found = kept (passes strict left) i.first in
      record {
        pairs = i.first;
        pairs_is = i.first_is;
        done = front ++ child.0 ∷ [];
        whole = front-whole i.whole ∙ ap (λ (k : List ℕ). front ++ k) i.behind_is ∙ sym (append_assoc front (child.0 ∷ []) left);
        later = under front i.others ++ w.later;
        is = w.is
            ∙ ap (λ (es : List Entry). under w.done es ++ w.later) i.is
            ∙ under-part w.done onward.part.now (under (child.0 ∷ []) found) i.others w.later
            ∙ ap (λ (es : List Entry). es ++ (under front i.others ++ w.later)) (under-under front (child.0 ∷ []) found);
        left = are_left;
      }
