-- What carried maps and indexes are good for: each change of a map is a change of its table, and a table can be read back.
use Rattle.std.specs.Prelude.{◌≡◌, ◌≢◌, true, List, [], ◌∷◌, length, Option, Some, None, is_some}
use Rattle.std.specs.List.{AllByRecursion}
use Rattle.std.specs.Option.{option_map}
use Rattle.std.specs.declared.cmp.Ordering.{Ordering}
use Rattle.std.specs.Cmp.{IsTotalOrder}
use Rattle.std.specs.FinMap.{FinMap, IsAntisymmetric, insert, remove, from_entries, entries, find, get, len}
use Rattle.xod_carry.specs.Carry.{added, taken, carried, carry}
use Rattle.xod_carry.specs.Index.{index, all_put, all_taken}

-- an order of keys: it is total, and only equal keys tie
pub record IsOrder {K : Type 0} (R : K → K → Ordering) : Type 0 where
  pub total : IsTotalOrder R
  pub same : IsAntisymmetric R

-- no other key of a list has the image of a key
abbrev pub IsOwn : {K X L : Type 0} → (K → Option L) → K → List (K × X) → Type 0
IsOwn {L = L} f key others = AllByRecursion (λ entry. (image : L) → f entry.0 ≡ Some image → f key ≡ Some image → entry.0 ≡ key) others

-- no two keys have one image
abbrev pub IsInjective : {K L : Type 0} → (K → Option L) → Type 0
IsInjective {K = K} {L = L} f = (key other : K) (image : L) → f key ≡ Some image → f other ≡ Some image → key ≡ other

-- an entry comes back: its key from the key's image, and its value from the value's
abbrev pub Returns : {K X L Y : Type 0} → (K → Option L) → (X → Y) → (L → Option K) → (Y → X) → K × X → Type 0
Returns {L = L} f g f_back g_back entry = (image : L) × (f entry.0 ≡ Some image) × (f_back image ≡ Some entry.0) × (g_back (g entry.1) ≡ entry.1)

-- no key stands twice in a list
abbrev pub AreApart : {K X : Type 0} → List (K × X) → Type 0
AreApart [] = Unit {0}
AreApart (entry ∷ others) = AllByRecursion (λ other. other.0 ≢ entry.0) others × AreApart others

-- an entry gives an index a key
abbrev pub Gives : {K X L Y : Type 0} → (K × X → List (L × Y)) → (L → L → Ordering) → K × X → L → Type 0
Gives gives S entry key = is_some (find S key (gives entry)) ≡ true

-- no entry of another key gives a key that an entry gives
abbrev pub IsAlone : {K X L Y : Type 0} → (K × X → List (L × Y)) → (L → L → Ordering) → K × X → List (K × X) → Type 0
IsAlone {L = L} gives S entry others = AllByRecursion (λ other. (key : L) → Gives gives S other key → Gives gives S entry key → other.0 ≡ entry.0) others

module _ (K X L Y : Type 0) where
  -- a put shows as a put of the images, where no other key has the key's image
  abbrev pub PutsAreCarried : Type 0
  PutsAreCarried = (R : K → K → Ordering) (S : L → L → Ordering) (f : K → Option L) (g : X → Y) (map : FinMap R X) (key : K) (value : X)
      → IsOrder R → IsOrder S → IsOwn f key (entries map)
      → carry f g S (insert map key value) ≡ added (f key) (g value) (carry f g S map)

  -- a removal shows as a removal of the key's image
  abbrev pub RemovalsAreCarried : Type 0
  RemovalsAreCarried = (R : K → K → Ordering) (S : L → L → Ordering) (f : K → Option L) (g : X → Y) (map : FinMap R X) (key : K) (value : X)
      → IsOrder R → IsOrder S → IsOwn f key (entries map) → get map key ≡ Some value
      → carry f g S (remove map key) ≡ taken (f key) (carry f g S map)

  -- the map of any list is carried entry by entry, where no two keys have one image
  abbrev pub ListsAreCarried : Type 0
  ListsAreCarried = (R : K → K → Ordering) (S : L → L → Ordering) (f : K → Option L) (g : X → Y) (list : List (K × X))
      → IsOrder R → IsOrder S → IsInjective f
      → carry f g S (from_entries {R = R} list) ≡ from_entries (carried f g list)

  -- a map whose entries come back comes back from its table
  abbrev pub TablesComeBack : Type 0
  TablesComeBack = (R : K → K → Ordering) (S : L → L → Ordering) (f : K → Option L) (g : X → Y) (f_back : L → Option K) (g_back : Y → X) (map : FinMap R X)
      → IsOrder R → IsOrder S → IsInjective f_back → AllByRecursion (Returns f g f_back g_back) (entries map)
      → carry f_back g_back R (carry f g S map) ≡ map

  -- a table has at a key's image the image of what the map has at the key
  abbrev pub ImagesAreFound : Type 0
  ImagesAreFound = (R : K → K → Ordering) (S : L → L → Ordering) (f : K → Option L) (g : X → Y) (map : FinMap R X) (key : K) (image : L)
      → IsOrder R → IsOrder S → IsOwn f key (entries map) → f key ≡ Some image
      → get (carry f g S map) image ≡ option_map g (get map key)

  -- a new entry shows in an index as what it gives
  abbrev pub NewEntriesAreIndexed : Type 0
  NewEntriesAreIndexed = (R : K → K → Ordering) (S : L → L → Ordering) (gives : K × X → List (L × Y)) (map : FinMap R X) (key : K) (value : X)
      → IsOrder R → IsOrder S → get map key ≡ None → IsAlone gives S (key, value) (entries map)
      → index gives S (insert map key value) ≡ all_put (gives (key, value)) (index gives S map)

  -- a removed entry takes what it gave
  abbrev pub RemovalsAreIndexed : Type 0
  RemovalsAreIndexed = (R : K → K → Ordering) (S : L → L → Ordering) (gives : K × X → List (L × Y)) (map : FinMap R X) (key : K) (value : X)
      → IsOrder R → IsOrder S → get map key ≡ Some value → IsAlone gives S (key, value) (entries (remove map key))
      → index gives S (remove map key) ≡ all_taken (gives (key, value)) (index gives S map)

  -- an entry with another value takes what it gave and gives anew
  abbrev pub ChangesAreIndexed : Type 0
  ChangesAreIndexed = (R : K → K → Ordering) (S : L → L → Ordering) (gives : K × X → List (L × Y)) (map : FinMap R X) (key : K) (old new : X)
      → IsOrder R → IsOrder S → get map key ≡ Some old
      → IsAlone gives S (key, old) (entries (remove map key)) → IsAlone gives S (key, new) (entries (remove map key))
      → index gives S (insert map key new) ≡ all_put (gives (key, new)) (all_taken (gives (key, old)) (index gives S map))

module _ (K X : Type 0) where
  -- a map that has each entry of a list whose keys are apart, and as many, is the map of the list
  abbrev pub LookUpsDecide : Type 0
  LookUpsDecide = (R : K → K → Ordering) (list : List (K × X)) (map : FinMap R X)
      → IsOrder R → AreApart list → AllByRecursion (λ entry. get map entry.0 ≡ Some entry.1) list → len map ≡ length list
      → map ≡ from_entries list
