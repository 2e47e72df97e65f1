-- Keys and values come back from their bytes.
use Rattle.std.proofs.Common.{◌≡◌, ℕ, suc, ◌-◌, ◌<◌, ◌^◌, true, false, ℤ, pos, negsuc, List, [], ◌++◌, Some, refl, ap, ◌∙◌, arith, w64}
use Rattle.std.specs.Option.{option_map}
use Rattle.std.specs.List.{slice_get}
use Rattle.std.specs.Int.{cast_signed, cast_unsigned}
use Rattle.std.proofs.lemmas.Bool.Decides.{nat_tests}
use Rattle.std.proofs.lemmas.Int.{to_z-of_z}
use Rattle.std.proofs.lemmas.Nat.{from_be_bytes-to_be_bytes_4, from_be_bytes-to_be_bytes_8}
use Rattle.xod_base.specs.declared.value.EntityId.{EntityId}
use Rattle.xod_base.specs.declared.value.Value.{Value}
use Rattle.xod_base.specs.declared.value.Value.TheVariants.{Flag, Int, Text}
use Rattle.xod_base.specs.declared.answer.NameKind.{NameKind}
use Rattle.xod_base.specs.Values.{is_int, is_value}
use Rattle.xod_tables.specs.Keys.{IsShort, u32, u64, id_bytes, name_key, next_key, entity_key, property_key, link_key, cell_key, join_key, stored}
use Rattle.xod_tables.specs.Reading.{of_u32, of_u64, id_at, number_in, kind_in, id_in, cell_in, join_in, value_in}
use Rattle.xod_tables.proofs.Facts.{Listed}
use Rattle.xod_tables.proofs.Written.{written}

pub u32_back : (n : ℕ) → n < 2 ^ 32 → of_u32 (u32 n) ≡ n
u32_back n h = from_be_bytes-to_be_bytes_4 n h

pub u64_back : (n : ℕ) → n < 2 ^ 64 → of_u64 (u64 n) ≡ n
u64_back n h = from_be_bytes-to_be_bytes_8 n h

pub id_at-bytes : (id : EntityId) (rest : List ℕ) → IsShort id → id_at (id_bytes id ++ rest) ≡ id
id_at-bytes id rest s = λ i. record { kind = u32_back id.kind s.kind i; local = u32_back id.local s.local i }

pub name_read : (list : NameKind) (i : ℕ) → i < 2 ^ 32 → number_in list (name_key list i) ≡ Some i
name_read list i h = written (λ n. Some (name_key list n)) (name_key list i) (Some (of_u32 (u32 i))) i (ap Some (u32_back i h)) refl

pub next_read : (i : ℕ) → i < 2 ^ 32 → kind_in (next_key i) ≡ Some i
next_read i h = written (λ n. Some (next_key n)) (next_key i) (Some (of_u32 (u32 i))) i (ap Some (u32_back i h)) refl

pub id_read : (id : EntityId) → IsShort id → id_in (entity_key id) ≡ Some id
id_read id s = written (λ x. Some (entity_key x)) (entity_key id) (Some (id_at (id_bytes id))) id (ap Some (id_at-bytes id [] s)) refl

pub cell_read : (props : List (List ℕ)) (id : EntityId) (name : List ℕ) (l : Listed props name) → IsShort id → cell_in props (property_key id l.number) ≡ Some (id, name)
cell_read props id name l s =
    written (cell_key props) (property_key id l.number) (option_map (λ n. (id_at (property_key id l.number), n)) (slice_get props (of_u32 (u32 l.number)))) (id, name)
    ((λ i. option_map (λ n. (id_at-bytes id (u32 l.number) s i, n)) (slice_get props (u32_back l.number l.small i))) ∙ ap (option_map (λ n. (id, n))) l.at)
    (ap (option_map (property_key id)) l.is)

pub join_read : (links : List (List ℕ)) (source target : EntityId) (name : List ℕ) (l : Listed links name) → IsShort source → IsShort target → join_in links (link_key source l.number target) ≡ Some (source, (name, target))
join_read links source target name l s t =
    written (join_key links) (link_key source l.number target) (option_map (λ n. (id_at (link_key source l.number target), (n, id_at (id_bytes target)))) (slice_get links (of_u32 (u32 l.number)))) (source, (name, target))
    ((λ i. option_map (λ n. (id_at-bytes source (u32 l.number ++ id_bytes target) s i, (n, id_at-bytes target [] t i))) (slice_get links (u32_back l.number l.small i))) ∙ ap (option_map (λ n. (source, (n, target)))) l.at)
    (ap (option_map (λ n. link_key source n target)) l.is)

-- ---- values
int_back : (number : ℤ) → is_int number ≡ true → cast_signed w64 (of_u64 (u64 (cast_unsigned w64 number))) ≡ number
int_back (pos n) h = let small : n < 2 ^ 63 = grind (arith, nat_tests) in ap (cast_signed w64) (u64_back n (omega (arith, small))) ∙ to_z-of_z w64 (pos n) (record { sfits = small })
int_back (negsuc n) h = let small : n < 2 ^ 63 = grind (arith, nat_tests) in ap (cast_signed w64) (u64_back (2 ^ 64 - suc n) (omega (arith, small))) ∙ to_z-of_z w64 (negsuc n) (record { sfits = small })

pub value_back : (value : Value) → is_value value ≡ true → value_in (stored value) ≡ value
value_back (Flag true) h = refl
value_back (Flag false) h = refl
value_back (Int number) h = ap Int (int_back number h)
value_back (Text text) h = refl
