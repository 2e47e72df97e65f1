-- Where the tests of changes, modes and versions hold, they are the same.
use Rattle.std.proofs.Common.{◌≡◌, ℕ, true, List, [], ◌∷◌, Option, Some, None, refl, ap, eqb-true, eq-eqb}
use Rattle.std.specs.Prelude.{◌==◌, ◌&&◌}
use Rattle.std.proofs.lemmas.Bool.{false≢true}
use Rattle.std.proofs.lemmas.Slice.Eq.{bytes_eq-Decides}
use Rattle.xod_base.specs.declared.value.EntityId.{EntityId}
use Rattle.xod_base.specs.declared.query.Mode.{Mode}
use Rattle.xod_base.specs.declared.query.Mode.TheVariants.{Ordinary, ReadOnly, Exclusive}
use Rattle.xod_base.specs.Values.{same_bytes}
use Rattle.xod_base.specs.Rows.{same_id}
use Rattle.xod_journal.specs.declared.change.RowChange.{RowChange}
use Rattle.xod_journal.specs.declared.change.RowChange.TheVariants.{AddEntity, RemoveEntity, Prop, LinkAdd, LinkDel}
use Rattle.xod_journal.specs.Books.{same_version}
use Rattle.xod_journal.specs.Changes.{same_option}
use Rattle.xod_journal.specs.Laws.{SameIsEqual}
use Rattle.xod_session.specs.Turns.{same_change, same_changes, same_mode}
use Rattle.xod_session.proofs.OptionLemmas.{and_true, both_true}

same_id-is : (a b : EntityId) → same_id a b ≡ true → a ≡ b
same_id-is a b e = let t = both_true (a.kind == b.kind) (a.local == b.local) e in λ i. record { kind = eqb-true a.kind b.kind t.0 i; local = eqb-true a.local b.local t.1 i }

same_id-refl : (a : EntityId) → same_id a a ≡ true
same_id-refl a = and_true (a.kind == a.kind) (a.local == a.local) (eq-eqb a.kind a.kind refl) (eq-eqb a.local a.local refl)

pub same_bytes-refl : (a : List ℕ) → same_bytes a a ≡ true
same_bytes-refl a = (bytes_eq-Decides a a).1 refl

module _ (same : SameIsEqual) where
  same_change-is : (a b : RowChange) → same_change a b ≡ true → a ≡ b
  same_change-is (AddEntity i k) (RemoveEntity i2) e = absurd (false≢true e)
  same_change-is (AddEntity i k) (Prop i2 m2 t2 u2) e = absurd (false≢true e)
  same_change-is (AddEntity i k) (LinkAdd s2 l2 t2) e = absurd (false≢true e)
  same_change-is (AddEntity i k) (LinkDel s2 l2 t2) e = absurd (false≢true e)
  same_change-is (RemoveEntity i) (AddEntity i2 k2) e = absurd (false≢true e)
  same_change-is (RemoveEntity i) (Prop i2 m2 t2 u2) e = absurd (false≢true e)
  same_change-is (RemoveEntity i) (LinkAdd s2 l2 t2) e = absurd (false≢true e)
  same_change-is (RemoveEntity i) (LinkDel s2 l2 t2) e = absurd (false≢true e)
  same_change-is (Prop i m t u) (AddEntity i2 k2) e = absurd (false≢true e)
  same_change-is (Prop i m t u) (RemoveEntity i2) e = absurd (false≢true e)
  same_change-is (Prop i m t u) (LinkAdd s2 l2 t2) e = absurd (false≢true e)
  same_change-is (Prop i m t u) (LinkDel s2 l2 t2) e = absurd (false≢true e)
  same_change-is (LinkAdd s l t) (AddEntity i2 k2) e = absurd (false≢true e)
  same_change-is (LinkAdd s l t) (RemoveEntity i2) e = absurd (false≢true e)
  same_change-is (LinkAdd s l t) (Prop i2 m2 t2 u2) e = absurd (false≢true e)
  same_change-is (LinkAdd s l t) (LinkDel s2 l2 t2) e = absurd (false≢true e)
  same_change-is (LinkDel s l t) (AddEntity i2 k2) e = absurd (false≢true e)
  same_change-is (LinkDel s l t) (RemoveEntity i2) e = absurd (false≢true e)
  same_change-is (LinkDel s l t) (Prop i2 m2 t2 u2) e = absurd (false≢true e)
  same_change-is (LinkDel s l t) (LinkAdd s2 l2 t2) e = absurd (false≢true e)
  same_change-is (AddEntity i k) (AddEntity i2 k2) e =
      let t = both_true (same_id i i2) (same_bytes k k2) e in
      λ x. AddEntity (same_id-is i i2 t.0 x) ((bytes_eq-Decides k k2).0 t.1 x)
  same_change-is (RemoveEntity i) (RemoveEntity i2) e = ap RemoveEntity (same_id-is i i2 e)
  same_change-is (Prop i m t u) (Prop i2 m2 t2 u2) e =
      let a = both_true (same_id i i2) (same_bytes m m2 && (same_option t t2 && same_option u u2)) e in
      let b = both_true (same_bytes m m2) (same_option t t2 && same_option u u2) a.1 in
      let c = both_true (same_option t t2) (same_option u u2) b.1 in
      λ x. Prop (same_id-is i i2 a.0 x) ((bytes_eq-Decides m m2).0 b.0 x) ((same.1 t t2).0 c.0 x) ((same.1 u u2).0 c.1 x)
  same_change-is (LinkAdd s l t) (LinkAdd s2 l2 t2) e =
      let a = both_true (same_id s s2) (same_bytes l l2 && same_id t t2) e in
      let b = both_true (same_bytes l l2) (same_id t t2) a.1 in
      λ x. LinkAdd (same_id-is s s2 a.0 x) ((bytes_eq-Decides l l2).0 b.0 x) (same_id-is t t2 b.1 x)
  same_change-is (LinkDel s l t) (LinkDel s2 l2 t2) e =
      let a = both_true (same_id s s2) (same_bytes l l2 && same_id t t2) e in
      let b = both_true (same_bytes l l2) (same_id t t2) a.1 in
      λ x. LinkDel (same_id-is s s2 a.0 x) ((bytes_eq-Decides l l2).0 b.0 x) (same_id-is t t2 b.1 x)

  pub same_changes-is : (a b : List RowChange) → same_changes a b ≡ true → a ≡ b
  same_changes-is [] [] e = refl
  same_changes-is [] (y ∷ b) e = absurd (false≢true e)
  same_changes-is (x ∷ a) [] e = absurd (false≢true e)
  same_changes-is (x ∷ a) (y ∷ b) e = let t = both_true (same_change x y) (same_changes a b) e in λ i. same_change-is x y t.0 i ∷ same_changes-is a b t.1 i

  same_change-refl : (a : RowChange) → same_change a a ≡ true
  same_change-refl (AddEntity i k) = and_true (same_id i i) (same_bytes k k) (same_id-refl i) (same_bytes-refl k)
  same_change-refl (RemoveEntity i) = same_id-refl i
  same_change-refl (Prop i m t u) =
      and_true (same_id i i) (same_bytes m m && (same_option t t && same_option u u)) (same_id-refl i)
      (and_true (same_bytes m m) (same_option t t && same_option u u) (same_bytes-refl m)
      (and_true (same_option t t) (same_option u u) ((same.1 t t).1 refl) ((same.1 u u).1 refl)))
  same_change-refl (LinkAdd s l t) = and_true (same_id s s) (same_bytes l l && same_id t t) (same_id-refl s) (and_true (same_bytes l l) (same_id t t) (same_bytes-refl l) (same_id-refl t))
  same_change-refl (LinkDel s l t) = and_true (same_id s s) (same_bytes l l && same_id t t) (same_id-refl s) (and_true (same_bytes l l) (same_id t t) (same_bytes-refl l) (same_id-refl t))

  pub same_changes-refl : (a : List RowChange) → same_changes a a ≡ true
  same_changes-refl [] = refl
  same_changes-refl (x ∷ a) = and_true (same_change x x) (same_changes a a) (same_change-refl x) (same_changes-refl a)

pub same_version-is : (m n : Option ℕ) → same_version m n ≡ true → m ≡ n
same_version-is None None e = refl
same_version-is None (Some n) e = absurd (false≢true e)
same_version-is (Some m) None e = absurd (false≢true e)
same_version-is (Some m) (Some n) e = ap Some (eqb-true m n e)

pub same_mode-is : (m n : Mode) → same_mode m n ≡ true → m ≡ n
same_mode-is Ordinary Ordinary e = refl
same_mode-is Ordinary ReadOnly e = absurd (false≢true e)
same_mode-is Ordinary Exclusive e = absurd (false≢true e)
same_mode-is ReadOnly Ordinary e = absurd (false≢true e)
same_mode-is ReadOnly ReadOnly e = refl
same_mode-is ReadOnly Exclusive e = absurd (false≢true e)
same_mode-is Exclusive Ordinary e = absurd (false≢true e)
same_mode-is Exclusive ReadOnly e = absurd (false≢true e)
same_mode-is Exclusive Exclusive e = refl

pub same_mode-refl : (m : Mode) → same_mode m m ≡ true
same_mode-refl Ordinary = refl
same_mode-refl ReadOnly = refl
same_mode-refl Exclusive = refl
