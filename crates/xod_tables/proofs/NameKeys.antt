-- No two lists of names share a key, and in one list no two numbers and no two names do.
use Rattle.std.proofs.Common.{◌≡◌, ◌≢◌, ℕ, suc, ◌<◌, ◌^◌, List, [], ◌∷◌, map, Some, sym, ap, ◌∙◌, arith}
use Rattle.std.specs.List.{AllByRecursion}
use Rattle.xod_base.specs.declared.answer.NameKind.{NameKind}
use Rattle.xod_base.specs.declared.answer.NameKind.TheVariants.{Kinds, Props, Links}
use Rattle.xod_base.specs.Views.{Entry}
use Rattle.xod_carry.specs.Carry.{carried, numbered}
use Rattle.xod_tables.specs.Keys.{u32, kind_byte, name_key, number_key, next_key}
use Rattle.xod_tables.specs.Reading.{number_in, kind_in}
use Rattle.xod_tables.proofs.KeysRead.{name_read, next_read}
use Rattle.xod_tables.proofs.Written.{same_some}

-- no entry of a list has a key
abbrev pub Lacks : List ℕ → List Entry → Type 0
Lacks key es = AllByRecursion (λ x. x.0 ≢ key) es

-- ---- one number, one key
pub one_number : (list : NameKind) (i j : ℕ) → i < 2 ^ 32 → j < 2 ^ 32 → name_key list i ≡ name_key list j → i ≡ j
one_number list i j p q e = same_some i j (sym (name_read list i p) ∙ ap (number_in list) e ∙ name_read list j q)

pub one_kind : (i j : ℕ) → i < 2 ^ 32 → j < 2 ^ 32 → next_key i ≡ next_key j → i ≡ j
one_kind i j p q e = same_some i j (sym (next_read i p) ∙ ap kind_in e ∙ next_read j q)

-- ---- lists apart
first_byte : List ℕ → ℕ
first_byte [] = 0
first_byte (x ∷ xs) = x

other_byte : (x y : ℕ) (xs ys : List ℕ) → (x ≢ y) → x ∷ xs ≢ y ∷ ys
unfolding first_byte
other_byte x y xs ys apart e = apart (ap first_byte e)

pub kinds_props : kind_byte Kinds ≢ kind_byte Props
kinds_props e = absurd (omega (arith, e))

pub kinds_links : kind_byte Kinds ≢ kind_byte Links
kinds_links e = absurd (omega (arith, e))

pub props_links : kind_byte Props ≢ kind_byte Links
props_links e = absurd (omega (arith, e))

module _ (list other : NameKind) (apart : kind_byte list ≢ kind_byte other) where
  pub others_by_number : (i : ℕ) (xs : List (List ℕ)) (n : ℕ) → Lacks (name_key other n) (carried (λ number. Some (name_key list number)) (λ name. name) (numbered i xs))
  others_by_number i [] n = tt
  others_by_number i (x ∷ xs) n = (other_byte (kind_byte list) (kind_byte other) (u32 i) (u32 n) apart, others_by_number (suc i) xs n)

  pub others_by_name : (i : ℕ) (xs : List (List ℕ)) (name : List ℕ) → Lacks (number_key other name) (map (λ entry. (number_key list entry.1, u32 entry.0)) (numbered i xs))
  others_by_name i [] name = tt
  others_by_name i (x ∷ xs) name = (other_byte (kind_byte list) (kind_byte other) x name apart, others_by_name (suc i) xs name)
