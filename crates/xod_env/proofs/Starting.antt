-- Where no log file is used, and the pair of the first one is made.
use Rattle.std.proofs.Common.{◌≡◌, ◌<◌, ℕ, zero, suc, ◌+◌, ◌*◌, Bool, true, false, cond, not, leb, eqb, List, [], length, Option, Some, None, Ok, refl, sym, ◌∙◌, ap, subst, arith, inl, inr}
use mathlib.Core.Logic.{◌≢◌}
use mathlib.Core.Bool.{true≢false}
use Rattle.std.specs.FinMap.{empty_of_len, entries, len-entries}
use Rattle.std.proofs.lemmas.Bool.{and_parts, cases_Bool, cases_eq, leb-true, ltb-true}
use Rattle.std.proofs.lemmas.Bool.Decides.{nat_tests}
use Rattle.xod_log.specs.Calls.{MakesPair}
use Rattle.xod_log.specs.Ends.{IsOpen, IsUsed, body_of, ends_of, gate_at}
use Rattle.xod_recover.specs.Check.{check, no_newest}
use Rattle.xod_recover.specs.Images.{UnusedFrom}
use Rattle.xod_recover.specs.Opened.{greatest_used, is_used, open_count, opened_from, opens}
use Rattle.xod_recover.specs.Stores.{stored_in}
use Rattle.xod_recover.proofs.CallerLemmas.{greatest_used_is, newest-check, same_used, used_has}
use Rattle.xod_root.specs.Roots.{Roots}
use Rattle.xod_volume.specs.Files.{Files, bytes_of}
use Rattle.xod_env.specs.Envs.{no_roots}
use Rattle.xod_env.proofs.RestStores.{unused-stores}

-- ---- a used log file

by_test : (b : Bool) (n : ℕ) → 0 < cond b n 0 → b ≡ true
by_test true n lt = refl
by_test false n lt = absurd (omega (arith, lt))

first_opens : (ends : List ℕ) (n : ℕ) → 0 < opened_from ends 0 n → opens ends 0 ≡ true
first_opens ends zero lt = absurd (omega (arith, lt))
first_opens ends (suc n) lt = by_test (opens ends 0) (suc (opened_from ends 1 n)) lt

counted_opens : (ends : List ℕ) → 0 < open_count ends → opens ends 0 ≡ true
unfolding open_count
counted_opens ends lt = first_opens ends (length ends) lt

not_zero : (gate : ℕ) → not (eqb gate 0) ≡ true → gate ≢ 0
not_zero gate is same = grind (arith, nat_tests)

opened_first : (ends : List ℕ) → opens ends 0 ≡ true → IsOpen ends 0
opened_first ends is =
    let parts = and_parts (leb (13 * (0 + 2)) (length ends)) (not (eqb (gate_at ends 0) 0)) is in
    record {
      gates = λ earlier le.
          let first : 0 ≡ earlier = omega (arith, le) in
          subst (λ (n : ℕ). gate_at ends n ≢ 0) first (not_zero (gate_at ends 0) parts.1);
      followed = leb-true (13 * (0 + 2)) (length ends) parts.0;
    }

used_is : (files : Files) (file : ℕ) → is_used files file ≡ true → IsUsed file files
used_is files file used =
    let pair = used_has files file used in
    record {
      has_body = pair.body;
      has_ends = pair.ends;
      opened = opened_first (bytes_of files (ends_of file)) (counted_opens (bytes_of files (ends_of file)) (ltb-true 0 (open_count (bytes_of files (ends_of file))) pair.some));
    }

-- ---- where none is used

none_greatest : (files : Files) (o : Option ℕ) → greatest_used files ≡ o → UnusedFrom 0 files → o ≡ None
none_greatest files None is unused = refl
none_greatest files (Some file) is unused =
    let there = greatest_used_is files file is in
    absurd (true≢false (sym there.0 ∙ unused file (omega arith) there.1))

pub unused_decided : (files : Files) → UnusedFrom 0 files → check files ≡ Ok no_newest
unused_decided files unused = newest-check files no_newest (inl (none_greatest files (greatest_used files) refl unused, refl))

module _ (was now : Files) (unused : UnusedFrom 0 was) (makes : MakesPair 0 was now) where
  first_unused : is_used now 0 ≡ false
  first_unused = elim makes.pair [
    | inl same ↦ same_used now was 0 same.body same.ends ∙ unused 0 (omega arith) (omega arith)
    | inr not ↦ elim (cases_Bool (is_used now 0)) [
      | inl used ↦ absurd (not (used_is now 0 used))
      | inr is ↦ is
    ]
  ]

  -- none is used then
  pub still_unused : UnusedFrom 0 now
  still_unused file le low = elim (cases_eq file 0) [
    | inl first ↦ subst (λ (n : ℕ). is_used now n ≡ false) (sym first) first_unused
    | inr apart ↦
        same_used now was file (makes.others (body_of file) (λ e. omega (arith, e, apart)) (λ e. omega (arith, e, apart)))
        (makes.others (ends_of file) (λ e. omega (arith, e, apart)) (λ e. omega (arith, e, apart)))
        ∙ unused file le low
  ]

  pub still_decided : check now ≡ check was
  still_decided = unused_decided now still_unused ∙ sym (unused_decided was unused)

  pub still_stored : stored_in now ≡ stored_in was
  still_stored = unused-stores now still_unused ∙ sym (unused-stores was unused)

-- a store of which no tree is listed has no roots
pub nothing_listed : (roots : Roots) → entries roots ≡ [] → roots ≡ no_roots
nothing_listed roots none = empty_of_len roots (len-entries roots ∙ ap length none)
