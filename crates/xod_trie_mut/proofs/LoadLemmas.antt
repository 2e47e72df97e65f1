-- Branches taken in hand.
use Rattle.std.proofs.Common.{◌≡◌, ◌<◌, ◌≤◌, ℕ, ◌^◌, List, [], ◌∷◌, length, Bool, true, false, Option, Some, None, slice_get, refl, sym, ◌∙◌, ap, subst, arith}
use Rattle.std.specs.Prelude.{IsSome, is_some, IsTrue}
use Rattle.std.specs.List.{AllByRecursion}
use Rattle.std.proofs.lemmas.Bool.{le-leb, lt-ltb}
use Rattle.std.proofs.lemmas.Option.{slice_get_within}
use Rattle.xod_base.specs.declared.causes.Place.{Place}
use Rattle.xod_base.specs.declared.causes.ReadError.{ReadError}
use Rattle.xod_base.specs.declared.causes.ReadError.TheVariants.{Device, Damaged, Memory}
use Rattle.xod_block.specs.declared.address.Address.{Address}
use Rattle.xod_block.specs.Addresses.{number_of}
use Rattle.xod_block.specs.Fetches.{place_of}
use Rattle.xod_block.specs.Maps.{RecordsAt, map_at}
use Rattle.xod_block.specs.Records.{Link, FitsLink}
use Rattle.xod_block.proofs.CallerLemmas.{map_at-agree}
use Rattle.xod_trie.specs.declared.branch.Branch.{Branch}
use Rattle.xod_trie.specs.Branches.{IsBranch, FitsBranch, branch_of}
use Rattle.xod_trie.specs.Damage.{Names, NoBranch, NotBelow}
use Rattle.xod_trie.proofs.CallerLemmas.{no_branch-map, named-has}
use Rattle.xod_trie_mut.specs.declared.stop.Stop.{Stop}
use Rattle.xod_trie_mut.specs.declared.stop.Stop.TheVariants as stop
use Rattle.xod_trie_mut.specs.Damaged.{IsBadPlace, HasNotBelow}
use Rattle.xod_trie_mut.specs.Fingers.{AreLower}
use Rattle.xod_trie_mut.specs.Own.{AreOwn, IsBelowBase, IsLower, IsLowerBy, are_enough, is_saved, own_address, own_file, own_start, with_own}
use Rattle.xod_trie_mut.specs.Seats.{IsSavedSeat, IsOwnSeat}
use Rattle.xod_trie_mut.specs.Settling.{IsSavedBelow, IsSavedBranch, IsUnder, IsUnderBy, IsLoaded}
use Rattle.xod_trie_mut.specs.Stops.{Breaks, StopsBy}
use Rattle.xod_trie_mut.proofs.OwnLemmas.{saved_read, saved-branch, own-branch, lower-saved, all_lower-saved, all_lower-more}

-- ---- errors

pub breaks-by : (tells : Bool) (R : RecordsAt) (Whole : Type 0) (error : ReadError) → ((place : Place) → error ≡ Damaged place → IsTrue tells → IsBadPlace R place × (Whole → ⊥)) → Breaks tells R Whole error
breaks-by tells R Whole Device f = tt
breaks-by tells R Whole (Damaged place) f = f place refl
breaks-by tells R Whole Memory f = tt

pub breaks-weaker : (tells : Bool) (R : RecordsAt) (Whole More : Type 0) (error : ReadError) → (IsTrue tells → More → Whole) → Breaks tells R Whole error → Breaks tells R More error
breaks-weaker tells R Whole More Device f b = tt
breaks-weaker tells R Whole More (Damaged place) f b = λ told. ((b told).0, λ more. (b told).1 (f told more))
breaks-weaker tells R Whole More Memory f b = tt

pub stops-weaker : (tells : Bool) (R : RecordsAt) (Whole Fits More Long : Type 0) (s : Stop) → (IsTrue tells → More → Whole) → (IsTrue tells → More → Long → Fits) → StopsBy tells R Whole Fits s → StopsBy tells R More Long s
stops-weaker tells R Whole Fits More Long (stop.Read error) f g b = breaks-weaker tells R Whole More error f b
stops-weaker tells R Whole Fits More Long stop.TooLong f g b = λ told more long. b told (f told more) (g told more long)

pub bad-read : (R : RecordsAt) (at : Address) (place : Place) → branch_of (R (number_of at)) ≡ None → place ≡ place_of at → IsBadPlace R place × (IsSome (map_at R (number_of at)) → ⊥)
bad-read R at place none is = (record { at = at; bad = NoBranch none; place_is = is }, no_branch-map R (number_of at) none)

pub bad-below : (R : RecordsAt) (at : Address) (place : Place) (b : Branch) → branch_of (R (number_of at)) ≡ Some b → HasNotBelow b.children at → place ≡ place_of at → IsBadPlace R place × (IsSome (map_at R (number_of at)) → ⊥)
bad-below R at place b here h is =
    let n : Names (R (number_of at)) h.child.1 = record { branch = b; is = here; index = h.index; byte = h.child.0; link = h.link } in
    (record { at = at; bad = NotBelow h.child.1 n h.above; place_is = is }, λ some. (let lt = (named-has R (number_of at) h.child.1 some n).0 in let le = h.above in omega (arith, lt, le)))

-- ---- what a record has

enough-by : (value : Option (List ℕ)) (n : ℕ) → (value ≡ None → 2 ≤ n) → IsTrue (are_enough value n)
enough-by None n f = le-leb 2 n (f refl)
enough-by (Some value) n f = le-leb 0 n (omega arith)

all-below : (at : Address) (cs : List Link) → AllByRecursion FitsLink cs → AllByRecursion (λ child. number_of child.1 < number_of at) cs → AllByRecursion (IsSavedBelow at) cs
all-below at [] fits below = tt
all-below at (c ∷ cs) fits below = (record { file = fits.0.file; lower = below.0 }, all-below at cs fits.1 below.1)

pub saved-shape : (at : Address) (b own : Branch) → own ≡ b → FitsBranch b → AllByRecursion (λ child. number_of child.1 < number_of at) b.children → IsSavedBranch at own
saved-shape at b own same fits below = subst (IsSavedBranch at) (sym same) (record { below = all-below at b.children fits.each below; enough = enough-by b.value (length b.children) fits.enough })

both-parts : (at : Address) (cs : List Link) → AllByRecursion (IsSavedBelow at) cs → AllByRecursion (λ child. (child.1.file < 2 ^ 32) × (number_of child.1 < number_of at)) cs
both-parts at [] h = tt
both-parts at (c ∷ cs) h = ((h.0.file, h.0.lower), both-parts at cs h.1)

-- ---- what was loaded

all_under-saved : (at : Address) (cs : List Link) → is_saved at ≡ true → AllByRecursion (IsSavedBelow at) cs → AllByRecursion (λ child. IsUnder at child.1) cs
all_under-saved at [] saved h = tt
all_under-saved at (c ∷ cs) saved h =
    (subst (λ (q : Bool). IsUnderBy q (is_saved c.1) at c.1) (sym saved) (lt-ltb c.1.file own_file h.0.file, h.0.lower), all_under-saved at cs saved h.1)

under-own-by : (q : Bool) (base : Option Address) (index : ℕ) (at child : Address) → at.at ≡ index → IsLowerBy q base index child → IsUnderBy false q at child
under-own-by true base index at child e h = tt
under-own-by false base index at child e h = let lt = h.before in omega (arith, lt, e)

all_under-own : (base : Option Address) (index : ℕ) (cs : List Link) → AreLower base index cs → AllByRecursion (λ child. IsUnder (own_address index) child.1) cs
all_under-own base index [] h = tt
all_under-own base index (c ∷ cs) h = (under-own-by (is_saved c.1) base index (own_address index) c.1 refl h.0, all_under-own base index cs h.1)

saved-low : (at : Address) → at.file < 2 ^ 32 → at.at < 2 ^ 64 → number_of at < own_start
saved-low at f p = omega (arith, f, p)

pub loaded-saved : (tells : Bool) (R : RecordsAt) (base : Option Address) (own : List Branch) (seat at : Address) (b : Branch) → IsSavedSeat seat at → IsLower base (length own) seat → IsSavedBranch at b → (IsTrue tells → IsBranch (R (number_of at)) b) → IsLoaded tells R base own seat b
loaded-saved tells R base own seat at b s lower shape here =
    let low = saved-low at s.file s.place in
    subst (λ (a : Address). IsLoaded tells R base own a b) (sym s.is) (record {
      lower = all_lower-saved base (length own) at b.children (subst (λ (a : Address). IsBelowBase base a) s.is (lower-saved base (length own) seat s.saved lower)) (both-parts at b.children shape.below);
      under = all_under-saved at b.children (lt-ltb at.file own_file s.file) shape.below;
      enough = shape.enough;
      here = λ told. saved-branch own R (number_of at) b low (here told);
    })

pub saved-map : (R : RecordsAt) (own : List Branch) (seat at : Address) → IsSavedSeat seat at → IsSome (map_at (with_own own R) (number_of seat)) → IsSome (map_at R (number_of at))
saved-map R own seat at s some =
    let low = saved-low at s.file s.place in
    let same : map_at (with_own own R) (number_of at) ≡ map_at R (number_of at) = map_at-agree (with_own own R) R (number_of at) (λ n le. saved_read own R n (omega (arith, le, low))) in
    ap is_some (sym same) ∙ subst (λ (a : Address). IsSome (map_at (with_own own R) (number_of a))) s.is some

pub loaded-own : (tells : Bool) (R : RecordsAt) (base : Option Address) (own : List Branch) (seat : Address) (index : ℕ) (b : Branch) → AreOwn base own → IsOwnSeat seat index → slice_get own index ≡ Some b → IsLoaded tells R base own seat b
loaded-own tells R base own seat index b each s there =
    let o = each index b there in
    subst (λ (a : Address). IsLoaded tells R base own a b) (sym s.is) (record {
      lower = all_lower-more base index (length own) b.children (let lt = slice_get_within own index b there in omega (arith, lt)) o.lower;
      under = all_under-own base index b.children o.lower;
      enough = o.enough;
      here = λ told. own-branch own R index b there o.parts.rising o.enough;
    })
