-- An order played to its end over sessions, or up to the first item that can't be taken.
use Rattle.std.specs.Prelude.{ℕ, ◌+◌, Bool, true, false, ◌||◌, List, [], ◌∷◌, map, Option, Some, None, Result, Ok, Err, if◌then◌else◌}
use Rattle.std.specs.List.{list_all}
use Rattle.xod_lang.specs.declared.script.Item.{Item}
use Rattle.xod_lang.specs.declared.script.OrderItem.{OrderItem}
use Rattle.xod_lang.specs.declared.script.Statement.{Statement}
use Rattle.xod_session.specs.States.{SessionState}
use Rattle.xod_session.specs.World.{Played, World, taken}

abbrev pub items_of : List OrderItem → List Item
items_of order = map (λ item. item.item) order

-- no statement is left
abbrev pub is_at_end : List Statement → Bool
is_at_end [] = true
is_at_end (statement ∷ more) = false

-- a session is over where it has ended its script or stopped
abbrev pub is_over : SessionState → Bool
is_over session = session.place.stopped || is_at_end session.place.rest

-- A journal is finished where each session is over.
abbrev pub is_finished : World → Bool
is_finished world = list_all (λ player. is_over player.state) world.players

abbrev pub item_played : ℕ → Option Played → (Played → Result Played ℕ) → Result Played ℕ
item_played number None more = Err number
item_played number (Some now) more = more now

-- what was played at the end of an order, or the number of the item past the last one, where a session is not over
abbrev pub ended : ℕ → Played → Result Played ℕ
ended number now = if is_finished now.world then Ok now else Err number

-- items from the one with a number on
abbrev pub played_from : ℕ → Played → List Item → Result Played ℕ
played_from number now [] = ended number now
played_from number now (item ∷ more) = item_played number (taken now item) (λ next. played_from (number + 1) next more)

-- The world and the journal at the end of an order, or the number of its first item that can't be taken: the one past
-- the last where a session is not over.
abbrev pub order_played : World → List Item → Result Played ℕ
order_played world items = played_from 1 (record { world = world; journal = [] }) items
