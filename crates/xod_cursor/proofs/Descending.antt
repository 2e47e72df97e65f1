-- One step down of a cursor.
use Rattle.std.proofs.Common.{◌≡◌, ℕ, zero, suc, List, [], ◌∷◌, Option, Some, slice_get, sym, ◌∙◌, ap, subst, length, ◌-◌}
use Rattle.xod_base.specs.declared.pair.Pair.{Pair}
use Rattle.xod_base.specs.Views.{Entry}
use Rattle.xod_block.specs.declared.address.Address.{Address}
use Rattle.xod_block.specs.Maps.{RecordsAt, joined}
use Rattle.xod_block.specs.Records.{Link}
use Rattle.xod_cursor.specs.declared.enter.Entered.{Entered}
use Rattle.xod_cursor.specs.declared.enter.Entered.TheVariants.{Own, Below}
use Rattle.xod_cursor.specs.declared.rung.Rung.{Rung}
use Rattle.xod_cursor.specs.Cursors.{IsNext, IsNextChild, MovesDown, StandsAt, StandsOn, behind_pair, entered_entries, last_of, left_entries, path_entries}
use Rattle.xod_cursor.proofs.Paths.{joined-entry}

-- the last branch that was looked at
pub last-there : (path slice : List Rung) (rung : Rung) → slice ≡ path → Some rung ≡ last_of slice → last_of path ≡ Some rung
last-there path slice rung same is = sym (is ∙ ap last_of same)

standing-get : (records : RecordsAt) (root : Option Address) (path : List Rung) (place : ℕ) (rung : Rung) → StandsOn records root path → slice_get path place ≡ Some rung → StandsAt records root rung
standing-get records root [] place rung on there = absurd cc
standing-get records root (top ∷ path) zero rung on there = let same : top ≡ rung = cc there in subst (StandsAt records root) same on.0
standing-get records root (top ∷ path) (suc place) rung on there = standing-get records root path place rung on.1 there

pub standing-last : (records : RecordsAt) (root : Option Address) (path : List Rung) (rung : Rung) → StandsOn records root path → last_of path ≡ Some rung → StandsAt records root rung
standing-last records root path rung on last = standing-get records root path (length path - 1) rung on last

-- the entries of a path, where what was entered below its last branch is put at its end
module _ (records : RecordsAt) (old new : List Rung) (rung : Rung) (whole : Entered) (next : IsNext records rung whole) (left : Option Rung) (moves : (child : Link) → IsNextChild rung child → MovesDown records rung child left old new) where
  -- its own pair is given
  pub down-own : (pair : Pair) → whole ≡ Own pair left → path_entries records old ≡ behind_pair pair (path_entries records new)
  down-own pair is =
      let m = moves next.child next.next in
      m.before
      ∙ ap (λ (found : Option (List Entry)). joined found m.later) (sym next.entries ∙ ap (entered_entries records) is)
      ∙ joined-entry (pair.key, pair.value) (left_entries records left) m.later
      ∙ ap (behind_pair pair) (sym m.now)

  -- it has none
  pub down-below : (below : Rung) → whole ≡ Below below → left ≡ Some below → path_entries records new ≡ path_entries records old
  down-below below is left_is =
      let m = moves next.child next.next in
      m.now
      ∙ ap (λ (o : Option Rung). joined (left_entries records o) m.later) left_is
      ∙ ap (λ (found : Option (List Entry)). joined found m.later) (sym (sym next.entries ∙ ap (entered_entries records) is))
      ∙ sym m.before
