-- The writes of changes that are made one after another, where no list of names changes on the way.
use Rattle.std.proofs.Common.{◌≡◌, ℕ, suc, ◌+◌, ◌<◌, add-one, drop, drop-cons, get_or, Bool, true, false, cond, List, [], ◌∷◌, ◌++◌, map, length, Option, Some, None, Result, Ok, Err, IfOk, refl, sym, ap, subst, ◌∙◌, append_assoc}
use Rattle.std.proofs.lemmas.List.{append-nil}
use Rattle.std.specs.Prelude.{◌||◌, not, is_some, nat_lt, unwrap_or}
use Rattle.std.specs.List.{AllByRecursion}
use Rattle.xod_base.specs.declared.answer.NameKind.{NameKind}
use Rattle.xod_base.specs.declared.answer.NameKind.TheVariants.{Kinds, Links}
use Rattle.xod_base.specs.declared.answer.StmtError.{StmtError}
use Rattle.xod_base.specs.declared.answer.StmtError.TheVariants.{TooMany}
use Rattle.xod_base.specs.declared.limits.TheConstants.{MOST_NAMES}
use Rattle.xod_base.specs.Rows.{RowsValue, number_of}
use Rattle.xod_journal.specs.declared.change.RowChange.{RowChange}
use Rattle.xod_journal.specs.declared.change.RowChange.TheVariants.{AddEntity, RemoveEntity, Prop, LinkAdd, LinkDel}
use Rattle.xod_journal.specs.Changes.{all_applied, applied, has_room}
use Rattle.xod_overlay.specs.declared.write.Write.{Write}
use Rattle.xod_tables.specs.Writes.{id_writes, link_removals, link_writes, name_writes, value_writes}
use Rattle.xod_writes.specs.Changes.{all_writes, listing, listing_for, number_for, writes_of}
use Rattle.xod_reader.specs.declared.slot.Slot.TheVariants.{Listed, Free, Full}
use Rattle.xod_reader.specs.Slots.{slot_by, slot_of}
use Rattle.xod_acts.specs.declared.plan.Plan.{Plan}
use Rattle.xod_acts.specs.Making.{no_plan, numbered_writes, with_all, with_change, with_named}
use Rattle.xod_acts.specs.Plans.{changes_of}

-- rows with the same lists of names
pub record Same (rows later : RowsValue) : Type 0 where
  pub types : later.types ≡ rows.types
  pub props : later.props ≡ rows.props
  pub links : later.links ≡ rows.links

-- what a change writes goes by the lists of names alone
writes_same : (rows later : RowsValue) → Same rows later → (change : RowChange) → writes_of later change ≡ writes_of rows change
writes_same rows later s (AddEntity id kind) = λ i. listing Kinds (s.types i) kind ++ id_writes id
writes_same rows later s (RemoveEntity id) = refl
writes_same rows later s (Prop id name old new) = λ i. listing_for (s.props i) name new ++ value_writes id (number_for (s.props i) name) old new
writes_same rows later s (LinkAdd source link target) = λ i. listing Links (s.links i) link ++ link_writes source (number_for (s.links i) link) target
writes_same rows later s (LinkDel source link target) = λ i. link_removals source (number_for (s.links i) link) target

-- a change that takes something away
abbrev pub IsRemoval : RowChange → Type 0
IsRemoval (AddEntity id kind) = ⊥
IsRemoval (RemoveEntity id) = Unit {0}
IsRemoval (Prop id name old None) = Unit {0}
IsRemoval (Prop id name old (Some new)) = ⊥
IsRemoval (LinkAdd source link target) = ⊥
IsRemoval (LinkDel source link target) = Unit {0}

-- such a change leaves the lists of names
same_after : (rows later : RowsValue) → Same rows later → (change : RowChange) → IsRemoval change → Same rows (applied later change)
same_after rows later s (AddEntity id kind) r = absurd r
same_after rows later s (RemoveEntity id) r = record { types = s.types; props = s.props; links = s.links }
same_after rows later s (Prop id name old None) r = record { types = s.types; props = s.props; links = s.links }
same_after rows later s (Prop id name old (Some new)) r = absurd r
same_after rows later s (LinkAdd source link target) r = absurd r
same_after rows later s (LinkDel source link target) r = record { types = s.types; props = s.props; links = s.links }

applied_push : (rows : RowsValue) (changes : List RowChange) (change : RowChange)
    → all_applied rows (changes ++ change ∷ []) ≡ applied (all_applied rows changes) change
applied_push rows [] change = refl
applied_push rows (first ∷ more) change = applied_push (applied rows first) more change

writes_push : (rows : RowsValue) (changes : List RowChange) (change : RowChange)
    → all_writes rows (changes ++ change ∷ []) ≡ all_writes rows changes ++ writes_of (all_applied rows changes) change
writes_push rows [] change = append-nil (writes_of rows change)
writes_push rows (first ∷ more) change =
    ap (λ ws. writes_of rows first ++ ws) (writes_push (applied rows first) more change)
    ∙ sym (append_assoc (writes_of rows first) (all_writes (applied rows first) more) (writes_of (all_applied (applied rows first) more) change))

-- A plan whose writes are those of its changes, and whose changes leave the lists of names.
pub record Going (rows : RowsValue) (plan : Plan) : Type 0 where
  pub writes : plan.writes ≡ all_writes rows plan.changes
  pub same : Same rows (all_applied rows plan.changes)

pub going_none : (rows : RowsValue) → Going rows no_plan
going_none rows = record { writes = refl; same = record { types = refl; props = refl; links = refl } }

module _ (rows : RowsValue) (plan : Plan) (g : Going rows plan) where
  -- the writes of one change more
  last : (change : RowChange) (writes : List Write) → writes ≡ writes_of rows change → plan.writes ++ writes ≡ all_writes rows (plan.changes ++ change ∷ [])
  last change writes is =
      (λ i. g.writes i ++ (is ∙ sym (writes_same rows (all_applied rows plan.changes) g.same change)) i)
      ∙ sym (writes_push rows plan.changes change)

  pub going_on : (number : ℕ) (change : RowChange) → IsRemoval change → numbered_writes number change ≡ writes_of rows change
      → Going rows (with_change number change plan)
  going_on number change r is = record {
    writes = last change (numbered_writes number change) is;
    same = subst (Same rows) (sym (applied_push rows plan.changes change)) (same_after rows (all_applied rows plan.changes) g.same change r);
  }

module _ {A : Type 0} (rows : RowsValue) (number : A → ℕ) (change : A → RowChange) where
  -- the writes of an item are those of its change
  abbrev pub AreNumbered : List A → Type 0
  AreNumbered items = AllByRecursion (λ item. numbered_writes (number item) (change item) ≡ writes_of rows (change item)) items

  pub going_all : ((item : A) → IsRemoval (change item)) → (items : List A) → AreNumbered items → (plan : Plan) → Going rows plan
      → Going rows (with_all number change items plan)
  going_all r [] is plan g = g
  going_all r (item ∷ items) is plan g = going_all r items is.1 (with_change (number item) (change item) plan)
      (going_on rows plan g (number item) (change item) (r item) is.0)

pub changes_all : {A : Type 0} (number : A → ℕ) (change : A → RowChange) (items : List A) (plan : Plan)
    → (with_all number change items plan).changes ≡ plan.changes ++ map change items
changes_all number change [] plan = sym (append-nil plan.changes)
changes_all number change (item ∷ items) plan =
    changes_all number change items (with_change (number item) (change item) plan) ∙ append_assoc plan.changes (change item ∷ []) (map change items)

-- ---- a loop over items

-- the items from a place on
pub dropped : {A : Type 0} (items : List A) (at : ℕ) (default item : A) → at < length items → item ≡ get_or items at default
    → drop at items ≡ item ∷ drop (at + 1) items
dropped items at default item within is = rw add-one (drop-cons items at default within ∙ ap (λ x. x ∷ drop (suc at) items) (sym is))

-- what is to come behind an item, once its change is made
pub all_behind : {A : Type 0} (number : A → ℕ) (change : A → RowChange) (front rest : List A) (item : A) (plan next whole : Plan) → front ≡ item ∷ rest
    → next ≡ with_change (number item) (change item) plan → with_all number change front plan ≡ whole → with_all number change rest next ≡ whole
all_behind number change front rest item plan next whole is made joins =
    ap (with_all number change rest) made ∙ ap (λ items. with_all number change items plan) (sym is) ∙ joins

-- ---- what rows give

-- What is planned is what is wanted of rows, and its writes are those of its changes.
pub record Agrees (rows : RowsValue) (wanted : Result (List RowChange) StmtError) (made : Result Plan StmtError) : Type 0 where
  pub changes : changes_of made ≡ wanted
  pub writes : IfOk made (λ plan. plan.writes ≡ all_writes rows plan.changes)

module _ {rows : RowsValue} where
  pub agrees_refused : (error : StmtError) → Agrees rows (Err error) (Err error)
  agrees_refused error = record { changes = refl; writes = tt }

  pub agrees_if : (b : Bool) {w v : Result (List RowChange) StmtError} {m n : Result Plan StmtError} → Agrees rows w m → Agrees rows v n
      → Agrees rows (cond b w v) (cond b m n)
  agrees_if true p q = p
  agrees_if false p q = q

  pub agrees_made : (plan : Plan) → Going rows plan → Agrees rows (Ok plan.changes) (Ok plan)
  agrees_made plan g = record { changes = refl; writes = g.writes }

  module _ (list : NameKind) (name : List ℕ) (change : RowChange) (plan : Plan) (g : Going rows plan) (names : List (List ℕ))
      (law : (cond (is_some (number_of names name)) [] (name_writes list (length names) name)) ++ numbered_writes
      (unwrap_or (number_of names name) (length names)) change ≡ writes_of rows change) where
    law_at : (o : Option ℕ) → number_of names name ≡ o
        → (cond (is_some o) [] (name_writes list (length names) name)) ++ numbered_writes (unwrap_or o (length names)) change ≡ writes_of rows change
    law_at o is = subst (λ x. (cond (is_some x) [] (name_writes list (length names) name)) ++ numbered_writes
        (unwrap_or x (length names)) change ≡ writes_of rows change) is law

    pub agrees_listed : (number : ℕ) → number_of names name ≡ Some number
        → Agrees rows (Ok (plan.changes ++ change ∷ [])) (with_named list name (Listed number) change plan)
    agrees_listed number is = record { changes = refl; writes = last rows plan g change (numbered_writes number change) (law_at (Some number) is) }

    pub agrees_free : number_of names name ≡ None → Agrees rows (Ok (plan.changes ++ change ∷ [])) (with_named list name (Free (length names)) change plan)
    agrees_free is = record {
      changes = refl;
      writes = append_assoc plan.writes (name_writes list (length names) name) (numbered_writes (length names) change)
          ∙ last rows plan g change (name_writes list (length names) name ++ numbered_writes (length names) change) (law_at None is);
    }

    named_at : (o : Option ℕ) → number_of names name ≡ o
        → Agrees rows (cond (not (is_some o || nat_lt (length names) MOST_NAMES)) (Err (TooMany list MOST_NAMES)) (Ok (plan.changes ++ change ∷ [])))
        (with_named list name (slot_by o (length names)) change plan)
    named_at (Some number) is = agrees_listed number is
    named_at None is =
        elim (nat_lt (length names) MOST_NAMES) as
        (λ b. Agrees rows (cond (not b) (Err (TooMany list MOST_NAMES)) (Ok (plan.changes ++ change ∷ [])))
        (with_named list name (cond b (Free (length names)) Full) change plan)) [
          | true ↦ agrees_free is
          | false ↦ agrees_refused (TooMany list MOST_NAMES)
        ]

    -- a change whose name is listed, or comes to its list where that has room
    pub agrees_named : Agrees rows (cond (not (has_room names name)) (Err (TooMany list MOST_NAMES)) (Ok (plan.changes ++ change ∷ [])))
        (with_named list name (slot_of names name) change plan)
    agrees_named = named_at (number_of names name) refl
