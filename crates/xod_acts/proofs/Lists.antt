-- Lists whose items all have something, and lists that are mapped twice.
use Rattle.std.proofs.Common.{◌≡◌, List, [], ◌∷◌, map, refl, ap}
use Rattle.std.specs.List.{AllByRecursion}

pub each : {A : Type 0} {P : A → Type 0} → ((item : A) → P item) → (items : List A) → AllByRecursion P items
each p [] = tt
each p (item ∷ items) = (p item, each p items)

pub each_map : {A B : Type 0} (P : B → Type 0) (f : A → B) → ((item : A) → P (f item)) → (items : List A) → AllByRecursion P (map f items)
each_map P f p [] = tt
each_map P f p (item ∷ items) = (p item, each_map P f p items)

pub map_map : {A B C : Type 0} (f : A → B) (g : B → C) (items : List A) → map g (map f items) ≡ map (λ item. g (f item)) items
map_map f g [] = refl
map_map f g (item ∷ items) = ap (λ others. g (f item) ∷ others) (map_map f g items)
