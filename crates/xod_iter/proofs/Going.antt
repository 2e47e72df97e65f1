-- Ids of which each is read, one after the other.
use base.Fml.{GName}
use Rattle.std.proofs.Common.{◌≡◌, ◌<◌, ◌+◌, ℕ, suc, arith, drop, drop-cons, length, slice_index, Bool, true, false, cond, IsTrue, List, [], ◌∷◌, ◌++◌, map, Result, Ok, Err, refl, sym, ap, ◌∙◌, append-nil}
use Rattle.std.specs.List.{filter, flat_map}
use Rattle.std.proofs.lemmas.List.{append_assoc}
use Rattle.xod_base.specs.declared.causes.ReadError.{ReadError}
use Rattle.xod_base.specs.declared.value.EntityId.{EntityId}
use Rattle.xod_base.specs.Ids.{id_of_number}
use Rattle.xod_base.specs.Rows.{RowsValue}
use Rattle.xod_base.specs.Views.{KeepsView, Trees}
use Rattle.xod_tables.specs.Tables.{AreTables}
use Rattle.xod_reader.proofs.CallerLemmas.{keeps_itself, keeps_on, moved}
use Rattle.xod_iter.specs.Such.{ReadsSuch}
use Rattle.xod_iter.proofs.Such.{fails_such, ok_such, value_such}

-- The view is as it was, and what was made so far of the ids is, with what the others give, what all of them give.
pub record Going {View B : Type 0} (tells : View → Bool) (trees : View → Trees) (commit : View → ℕ) (refs : View → List GName) (faults : View → ℕ)
    (IsSuch : List ℕ → RowsValue → Type 0) (of_ids : List ℕ → RowsValue → List EntityId → List B) (old now : View) (all others : List EntityId) (list : List B) : Type 0 where
  pub keeps : KeepsView tells trees commit refs faults old now
  pub steady : faults now ≡ faults old
  pub each : (name : List ℕ) → IsTrue (tells old) → (rows : RowsValue) → AreTables (trees old) rows → IsSuch name rows
      → list ++ of_ids name rows others ≡ of_ids name rows all

module _ {View B : Type 0} {tells : View → Bool} {trees : View → Trees} {commit : View → ℕ} {refs : View → List GName} {faults : View → ℕ}
    {IsSuch : List ℕ → RowsValue → Type 0} {of_ids : List ℕ → RowsValue → List EntityId → List B} where
  pub going-begun : (view : View) (all others : List EntityId) (list : List B) → list ≡ [] → others ≡ all
      → Going tells trees commit refs faults IsSuch of_ids view view all others list
  going-begun view all others list none is = record {
    keeps = keeps_itself view;
    steady = refl;
    each = λ name told rows are such. λ i. none i ++ of_ids name rows (is i);
  }

  module _ {old now : View} {all others : List EntityId} {list : List B} (h : Going tells trees commit refs faults IsSuch of_ids old now all others list)
      {A : Type 0} (of_one : List ℕ → RowsValue → A) {result : Result A ReadError} (reads : (name : List ℕ) → ReadsSuch (IsSuch name) (tells now) (trees now) (of_one name) result) where
    there : (name : List ℕ) → ReadsSuch (IsSuch name) (tells old) (trees old) (of_one name) result
    there name = moved h.keeps (λ b ts. ReadsSuch (IsSuch name) b ts (of_one name) result) (reads name)

    -- one id more was read
    pub going-more : (new : View) (found : A) (rest : List EntityId) (longer : List B) → result ≡ Ok found
        → KeepsView tells trees commit refs faults now new → faults new ≡ faults now
        → ((name : List ℕ) (rows : RowsValue) → found ≡ of_one name rows → list ++ of_ids name rows others ≡ longer ++ of_ids name rows rest)
        → Going tells trees commit refs faults IsSuch of_ids old new all rest longer
    going-more new found rest longer is keeps steady step = record {
      keeps = keeps_on h.keeps keeps;
      steady = steady ∙ h.steady;
      each = λ name told rows are such. sym (step name rows (value_such found is (there name) told rows are such)) ∙ h.each name told rows are such;
    }

    -- one id could not be read
    pub going-fails : {C : Type 0} (wanted : RowsValue → C) (failed : Result C ReadError) (cause : ReadError) → failed ≡ Err cause → result ≡ Err cause
        → (name : List ℕ) → ReadsSuch (IsSuch name) (tells old) (trees old) wanted failed
    going-fails wanted failed cause fails is name = fails_such failed cause fails is (there name)

  -- all were read
  pub going-ends : {old now : View} {all others : List EntityId} {list : List B} → Going tells trees commit refs faults IsSuch of_ids old now all others list
      → others ≡ [] → ((name : List ℕ) (rows : RowsValue) → of_ids name rows [] ≡ [])
      → (name : List ℕ) → ReadsSuch (IsSuch name) (tells old) (trees old) (λ rows. of_ids name rows all) (Ok list)
  going-ends {list = list} h none nothing name = ok_such list (λ told rows are such.
      sym (append-nil list) ∙ (λ i. list ++ sym (ap (of_ids name rows) none ∙ nothing name rows) i) ∙ h.each name told rows are such)

-- ---- one id more

-- the next number of a list is that of an id before the others
pub next_id : (items : List ℕ) (k : ℕ) (id : EntityId) → k < length items → id ≡ id_of_number (slice_index items k)
    → map id_of_number (drop k items) ≡ id ∷ map id_of_number (drop (k + 1) items)
next_id items k id within is =
    let next : suc k ≡ k + 1 = omega arith in
    ap (map id_of_number) (drop-cons items k 0 within) ∙ (λ i. sym is i ∷ map id_of_number (drop (next i) items))

-- an id that passes a test, and one that does not
pub filter_more : (p : EntityId → Bool) (id : EntityId) (list longer others rest : List EntityId) → others ≡ id ∷ rest → true ≡ p id → longer ≡ list ++ id ∷ []
    → list ++ filter p others ≡ longer ++ filter p rest
filter_more p id list longer others rest is so more =
    (λ i. list ++ filter p (is i)) ∙ (λ i. list ++ cond (sym so i) (id ∷ filter p rest) (filter p rest)) ∙ sym (append_assoc list (id ∷ []) (filter p rest)) ∙ (λ i. sym more i ++ filter p rest)

pub filter_same : (p : EntityId → Bool) (id : EntityId) (list same others rest : List EntityId) → others ≡ id ∷ rest → false ≡ p id → same ≡ list
    → list ++ filter p others ≡ same ++ filter p rest
filter_same p id list same others rest is so none =
    (λ i. list ++ filter p (is i)) ∙ (λ i. list ++ cond (sym so i) (id ∷ filter p rest) (filter p rest)) ∙ (λ i. sym none i ++ filter p rest)

-- what an id gives, behind what was given so far
pub flat_map_more : {B : Type 0} (f : EntityId → List B) (id : EntityId) (found list longer : List B) (others rest : List EntityId) → others ≡ id ∷ rest → found ≡ f id
    → longer ≡ list ++ found → list ++ flat_map f others ≡ longer ++ flat_map f rest
flat_map_more f id found list longer others rest is so more =
    (λ i. list ++ flat_map f (is i)) ∙ (λ i. list ++ (sym so i ++ flat_map f rest)) ∙ sym (append_assoc list found (flat_map f rest)) ∙ (λ i. sym more i ++ flat_map f rest)

pub map_more : {B : Type 0} (f : EntityId → B) (id : EntityId) (item : B) (list longer : List B) (others rest : List EntityId) → others ≡ id ∷ rest → item ≡ f id
    → longer ≡ list ++ item ∷ [] → list ++ map f others ≡ longer ++ map f rest
map_more f id item list longer others rest is so more =
    (λ i. list ++ map f (is i)) ∙ (λ i. list ++ (sym so i ∷ map f rest)) ∙ sym (append_assoc list (item ∷ []) (map f rest)) ∙ (λ i. sym more i ++ map f rest)
