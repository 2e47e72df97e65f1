-- A journal that follows an order: each entry is the next item, but for the stops that this run met. Behind such a stop
-- the items of its session are passed over.
use Rattle.std.specs.Prelude.{◌≡◌, ℕ, ◌+◌, ◌==◌, Bool, true, false, not, ◌&&◌, ◌⊎◌, List, [], ◌∷◌, ◌++◌, length, Option, Some, None, if◌then◌else◌}
use Rattle.std.specs.List.{filter, list_any}
use Rattle.xod_base.specs.Values.{same_bytes}
use Rattle.xod_lang.specs.declared.script.Item.{Item}
use Rattle.xod_lang.specs.declared.script.Item.TheVariants.{Turn}
use Rattle.xod_journal.specs.declared.journal.JournalEntry.{JournalEntry}
use Rattle.xod_session.specs.Transcripts.{item_of, names_of}
use Rattle.xod_session.specs.World.{World, taken}
use Rattle.xod_play.specs.Orders.{is_finished}
use Rattle.xod_play.specs.Stops.{is_met}

-- ---- the session of an item

-- the number of the first session with a name, where the first of all has this one
abbrev pub number_named : ℕ → List (List ℕ) → List ℕ → Option ℕ
number_named number [] name = None
number_named number (first ∷ names) name = if same_bytes first name then Some number else number_named (number + 1) names name

abbrev pub session_of_item : List (List ℕ) → Item → Option ℕ
session_of_item names (Turn name wanted) = number_named 1 names name

-- ---- items that are passed over

-- a stop that this run met
abbrev pub is_run_stop : JournalEntry → Bool
is_run_stop entry = is_met (λ cause. true) entry.step

-- whether a journal has a stop of an actor that this run met
abbrev pub has_given_up : List JournalEntry → ℕ → Bool
has_given_up journal actor = list_any (λ entry. (entry.actor == actor) && is_run_stop entry) journal

abbrev pub has_given_up_there : List JournalEntry → Option ℕ → Bool
has_given_up_there journal None = false
has_given_up_there journal (Some actor) = has_given_up journal actor

-- An item is passed over where this run met a stop of its session.
abbrev pub is_passed : List (List ℕ) → List JournalEntry → Item → Bool
is_passed names journal item = has_given_up_there journal (session_of_item names item)

abbrev pub is_actor : ℕ → Option ℕ → Bool
is_actor actor None = false
is_actor actor (Some other) = actor == other

-- the items of other sessions
abbrev pub without : List (List ℕ) → ℕ → List Item → List Item
without names actor items = filter (λ item. not (is_actor actor (session_of_item names item))) items

-- ---- a journal that follows an order

-- What is left of some items behind an entry: behind a stop that this run met the items of the other sessions, and else
-- all but the first, which is the entry's.
abbrev pub GoesOn : Bool → List (List ℕ) → JournalEntry → List Item → (List Item → Type 0) → Type 0
GoesOn true names entry items next = next (without names entry.actor items)
GoesOn false names entry [] next = ⊥
GoesOn false names entry (item ∷ items) next = (item ≡ item_of names entry) × next items

-- A journal follows some items, of which these are left.
abbrev pub Follows : List (List ℕ) → List Item → List JournalEntry → List Item → Type 0
Follows names items [] left = items ≡ left
Follows names items (entry ∷ more) left = GoesOn (is_run_stop entry) names entry items (λ rest. Follows names rest more left)

-- ---- an order that can't be taken to its end

-- An item has this number among others, is not passed over, and can't be taken.
pub record CantGoOn (world : World) (journal : List JournalEntry) (items : List Item) (number : ℕ) : Type 0 where
  pub before : List Item
  pub item : Item
  pub behind : List Item
  pub items_are : items ≡ before ++ item ∷ behind
  pub number_is : number ≡ length before + 1
  pub follows : Follows (names_of world) before journal []
  pub goes : is_passed (names_of world) journal item ≡ false
  pub cant : taken (record { world = world; journal = journal }) item ≡ None

-- All items were taken or passed over, and a session is not over.
pub record IsLeftOver (world : World) (journal : List JournalEntry) (items : List Item) (number : ℕ) : Type 0 where
  pub number_is : number ≡ length items + 1
  pub follows : Follows (names_of world) items journal []
  pub unfinished : is_finished world ≡ false

-- An order stops at the item with a number.
abbrev pub StopsAt : World → List JournalEntry → List Item → ℕ → Type 0
StopsAt world journal items number = CantGoOn world journal items number ⊎ IsLeftOver world journal items number
