-- Where the roots of trees begin, before a block and behind it.
use Rattle.std.proofs.Common.{inl, inr, ◌⊎◌, ◌≡◌, ◌<◌, ◌≤◌, ℕ, ◌+◌, ◌-◌, ◌^◌, ◌&&◌, Bool, true, false, nat_le, nat_lt, if◌then◌else◌, List, [], ◌∷◌, refl, sym, ◌∙◌, ap, subst, arith}
use Rattle.std.specs.FinMap.{entries}
use Rattle.std.specs.List.{list_all}
use Rattle.std.proofs.lemmas.Bool.Decides.{nat_tests}
use Rattle.xod_block.specs.declared.address.Address.{Address}
use Rattle.xod_block.specs.Addresses.{number_of}
use Rattle.xod_block.specs.Records.{Link}
use Rattle.xod_commit.specs.Blocks.{all_begin_before, have_tree_numbers}
use Rattle.xod_log.specs.declared.log.Log.{Log}
use Rattle.xod_log.specs.Standing.{appended_log, is_due, is_last, next_place_of, receiving_log, rolled_log, sealed_log}
use Rattle.xod_recover.specs.Check.{are_trees}
use Rattle.xod_root.specs.Roots.{Roots}
use Rattle.xod_trie_mut.specs.Saves.{further}
use Rattle.xod_env.specs.Envs.{ArePlaced, most_target, root_place}

-- ---- numbers of trees

grouped : (a b c : Bool) → (a && b && c) ≡ ((a && b) && c)
grouped true b c = refl
grouped false b c = refl

-- the two tests of the numbers of trees are one
pub same_numbers : (links : List Link) → are_trees links ≡ have_tree_numbers links
same_numbers [] = refl
same_numbers (link ∷ links) = grouped (nat_le 1 link.0) (nat_le link.0 8) (are_trees links) ∙ ap (λ (b : Bool). (nat_le 1 link.0 && nat_le link.0 8) && b) (same_numbers links)

-- ---- places

later_test : (at one other : ℕ) → one ≤ other → nat_lt at one ≡ true → nat_lt at other ≡ true
later_test at one other le is = grind (arith, nat_tests)

both_true : (a b c d : Bool) → (a ≡ true → c ≡ true) → (b ≡ true → d ≡ true) → (a && b) ≡ true → (c && d) ≡ true
both_true true true c d f g is = ap (λ (x : Bool). x && d) (f refl) ∙ g refl
both_true true false c d f g is = absurd cc
both_true false b c d f g is = absurd cc

-- what begins before a place begins before a later one
pub before_later : (one other : Address) (links : List Link) → number_of one ≤ number_of other → all_begin_before one links ≡ true → all_begin_before other links ≡ true
before_later one other [] le is = refl
before_later one other (link ∷ links) le is =
    both_true (nat_lt (number_of link.1) (number_of one)) (all_begin_before one links) (nat_lt (number_of link.1) (number_of other)) (all_begin_before other links)
    (later_test (number_of link.1) (number_of one) (number_of other) le) (before_later one other links le) is

abbrev receiving : Bool → Log → Log
receiving due log = if due then rolled_log log else log

-- the next place by whether the file is the last one, and whether a roll is due
abbrev place : Bool → Bool → Log → Address
place last due log = if last then record { file = log.file; at = log.end } else record { file = (receiving due log).file; at = (receiving due log).end }

in_order : (last due : Bool) (log : Log) → log.end < 2 ^ 64 → number_of (root_place log) ≤ number_of (place last due log)
in_order true due log fits = omega arith
in_order false true log fits = omega (arith, fits)
in_order false false log fits = omega arith

-- the newest roots begin before the next block
pub roots_before_next : (log : Log) (roots : Roots) → ArePlaced log roots → all_begin_before (next_place_of log) (entries roots) ≡ true
roots_before_next log roots placed = before_later (root_place log) (next_place_of log) (entries roots) (in_order (is_last log) (is_due log) log placed.fits) placed.below

-- a block may come: no roll is due where there is no log file to roll to
abbrev pub HasRoom : Log → Type 0
HasRoom log = is_due log ≡ true → is_last log ≡ false

root_after : (last due : Bool) (log : Log) (count back : ℕ) → (due ≡ true → last ≡ false) → back ≤ count
    → number_of (root_place (appended_log (receiving due log) count back)) ≡ number_of (further (place last due log) (count - back))
root_after true true log count back room within = let never = room refl in absurd cc
root_after true false log count back room within = omega (arith, within)
root_after false true log count back room within = omega (arith, within)
root_after false false log count back room within = omega (arith, within)

target_stays : (due : Bool) (log : Log) (count back : ℕ) → (appended_log (receiving due log) count back).target ≡ log.target
target_stays true log count back = refl
target_stays false log count back = refl

-- and the new ones before its root record
pub placed_after : (log : Log) (roots : Roots) (count back : ℕ) → HasRoom log → back ≤ count → log.target ≤ most_target → 0 < log.target → (appended_log (receiving_log log) count back).end < 2 ^ 64
    → have_tree_numbers (entries roots) ≡ true
    → all_begin_before (further (next_place_of log) (count - back)) (entries roots) ≡ true
    → ArePlaced (appended_log (receiving_log log) count back) roots
placed_after log roots count back room within low some fits numbered below = record {
  numbered = same_numbers (entries roots) ∙ numbered;
  below = subst (λ (n : ℕ). list_all (λ (link : Link). nat_lt (number_of link.1) n) (entries roots) ≡ true) (sym (root_after (is_last log) (is_due log) log count back room within)) below;
  low = subst (λ (n : ℕ). n ≤ most_target) (sym (target_stays (is_due log) log count back)) low;
  some = subst (λ (n : ℕ). 0 < n) (sym (target_stays (is_due log) log count back)) some;
  fits = fits;
}

-- ---- a seal

placed_either : (sealed : Bool) (log other : Log) (roots : Roots) → ArePlaced log roots → ArePlaced other roots → ArePlaced (if sealed then log else other) roots
placed_either true log other roots one two = one
placed_either false log other roots one two = two

-- a seal moves nothing
pub placed_sealed : (log : Log) (roots : Roots) → ArePlaced log roots → ArePlaced (sealed_log log) roots
placed_sealed log roots placed = placed_either log.is_sealed log (record log { marks = log.marks + 1; is_sealed = true }) roots placed
    (record { numbered = placed.numbered; below = placed.below; low = placed.low; some = placed.some; fits = placed.fits })

pub placed_answered : (b : Bool) (log : Log) (roots : Roots) → ArePlaced log roots → ArePlaced (if b then sealed_log log else log) roots
placed_answered b log roots placed = placed_either b (sealed_log log) log roots (placed_sealed log roots placed) placed

-- ---- a refusal of a write

same_file : (sealed : Bool) (log other : Log) → other.file ≡ log.file → (if sealed then log else other).file ≡ log.file
same_file true log other is = refl
same_file false log other is = is

sealed_file : (log : Log) → (sealed_log log).file ≡ log.file
sealed_file log = same_file log.is_sealed log (record log { marks = log.marks + 1; is_sealed = true }) refl

module _ (log after : Log) (refused : (after ≡ log) ⊎ (after ≡ sealed_log log)) where
  -- the log is on the same file
  pub refused_file : after.file ≡ log.file
  refused_file = elim refused [
    | inl same ↦ ap (λ (l : Log). l.file) same
    | inr sealed ↦ ap (λ (l : Log). l.file) sealed ∙ sealed_file log
  ]

  -- and the roots are placed
  pub refused_placed : (roots : Roots) → ArePlaced log roots → ArePlaced after roots
  refused_placed roots placed = elim refused [
    | inl same ↦ subst (λ (l : Log). ArePlaced l roots) (sym same) placed
    | inr sealed ↦ subst (λ (l : Log). ArePlaced l roots) (sym sealed) (placed_sealed log roots placed)
  ]
