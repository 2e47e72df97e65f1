use Rattle.std.proofs.Common.{◌≡◌, ◌<◌, ◌≤◌, ℕ, ◌+◌, List, [], Option, Some, length, get_or, refl, sym, ◌∙◌, subst, arith, inl, inr}
use Rattle.std.specs.Prelude.{IfSome, IfNone, IsSome}
use Rattle.std.specs.FinMap.{get}
use Rattle.std.proofs.lemmas.Bool.{cases_eq}
use Rattle.xod_log.specs.Ends.{body_of, ends_of}
use Rattle.xod_log.specs.Standing.{last_file}
use Rattle.xod_recover.specs.Emptied.{IsEmptied, IsPairAt}
use Rattle.xod_recover.specs.Found.{newest_of}
use Rattle.xod_recover.proofs.CutKeeps.{but_any}
use Rattle.xod_recover.proofs.OnlyReading.{reads-none}
use Rattle.xod_recover.proofs.Writing.{writes-reads, wrote-reads}
use Rattle.xod_recover.proofs.emptying.clear_pair.Goals as goal

pub returns-in-None-clause-writes : goal.returns-in-None-clause-writes
returns-in-None-clause-writes g c = writes-reads c.requires.was_found reads-none

pub returns-in-None-clause-wrote : goal.returns-in-None-clause-wrote
returns-in-None-clause-wrote g c = wrote-reads {leases = g.V.Volume.leases} {refs = g.V.Volume.refs} c.requires.was_found reads-none refl

pub clear_above-requires-clause-above : goal.clear_above-requires-clause-above
clear_above-requires-clause-above g c =
    let higher : c.args.above < c.in-Some.other = subst (λ (o : Option ℕ). IfSome o (λ file. c.args.above < file)) c.in-Some.is c.pair_above.ensures.higher in
    omega (arith, c.requires.above, higher)

-- what stands at the place, and right behind it
at : (numbers : List ℕ) (index : ℕ) (o : Option ℕ) (other : ℕ) → o ≡ Some other → IfSome o (λ file. get_or numbers index 0 ≡ body_of file) → IfSome o (λ file. (index + 1 < length numbers) × (get_or numbers (index + 1) 0 ≡ ends_of file)) → IsPairAt numbers index other
at numbers index o other is body ends =
    let here : get_or numbers index 0 ≡ body_of other = subst (λ (o : Option ℕ). IfSome o (λ file. get_or numbers index 0 ≡ body_of file)) is body in
    let next : (index + 1 < length numbers) × (get_or numbers (index + 1) 0 ≡ ends_of other) = subst (λ (o : Option ℕ). IfSome o (λ file. (index + 1 < length numbers) × (get_or numbers (index + 1) 0 ≡ ends_of file))) is ends in
    record { within = next.0; body = here; ends = next.1 }

-- a place has one pair
same-pair : (numbers : List ℕ) (index a b : ℕ) → IsPairAt numbers index a → IsPairAt numbers index b → a ≡ b
same-pair numbers index a b first second = omega (arith, first.body, second.body)

pub clear_above-requires-clause-has_body : goal.clear_above-requires-clause-has_body
clear_above-requires-clause-has_body g c told =
    let pair = at c.args.numbers.now c.args.index c.pair_above.result c.in-Some.other c.in-Some.is c.pair_above.ensures.body c.pair_above.ensures.ends in
    subst (λ (k : ℕ). IsSome (get (g.V.Volume.files c.args.volume.now) k)) pair.body (c.requires.listed told c.args.index c.requires.within)

pub clear_above-requires-clause-has_ends : goal.clear_above-requires-clause-has_ends
clear_above-requires-clause-has_ends g c told =
    let pair = at c.args.numbers.now c.args.index c.pair_above.result c.in-Some.other c.in-Some.is c.pair_above.ensures.body c.pair_above.ensures.ends in
    subst (λ (k : ℕ). IsSome (get (g.V.Volume.files c.args.volume.now) k)) pair.ends (c.requires.listed told (c.args.index + 1) pair.within)

pub returns-in-None-clause-emptied : goal.returns-in-None-clause-emptied
returns-in-None-clause-emptied g c told other pair gt low =
    let none = subst (λ (o : Option ℕ). IfNone o ((file : ℕ) → IsPairAt c.args.numbers.now c.args.index file → file ≤ last_file → file ≤ c.args.above)) c.in-None.is c.pair_above.ensures.none in
    absurd (omega (arith, gt, none other pair low))

pub returns-in_ok-clear_above-in-Some-clause-emptied : goal.returns-in_ok-clear_above-in-Some-clause-emptied
returns-in_ok-clear_above-in-Some-clause-emptied g c told other pair gt low =
    let here = at c.args.numbers.now c.args.index c.pair_above.result c.in-Some.other c.in-Some.is c.pair_above.ensures.body c.pair_above.ensures.ends in
    subst (λ (k : ℕ). IsEmptied k (g.V.Volume.files c.clear_above.new.volume)) (same-pair c.args.numbers.now c.args.index c.in-Some.other other here pair)
    (record { body = c.in_ok-clear_above-in-Some.ensures.empty told; ends = c.in_ok-clear_above-in-Some.ensures.empty_ends told })

pub returns-in_ok-clear_above-in-Some-clause-stay_empty : goal.returns-in_ok-clear_above-in-Some-clause-stay_empty
returns-in_ok-clear_above-in-Some-clause-stay_empty g c told file was = elim (cases_eq file (body_of c.in-Some.other)) [
  | inl is ↦ subst (λ (k : ℕ). get (g.V.Volume.files c.clear_above.new.volume) k ≡ Some []) (sym is) (c.in_ok-clear_above-in-Some.ensures.empty told)
  | inr not_body ↦ elim (cases_eq file (ends_of c.in-Some.other)) [
    | inl is ↦ subst (λ (k : ℕ). get (g.V.Volume.files c.clear_above.new.volume) k ≡ Some []) (sym is) (c.in_ok-clear_above-in-Some.ensures.empty_ends told)
    | inr not_ends ↦ c.clear_above.ensures.others told file not_body not_ends ∙ was
  ]
]

pub returns-in_err-clear_above-in-Some-clause-writes : goal.returns-in_err-clear_above-in-Some-clause-writes
returns-in_err-clear_above-in-Some-clause-writes g c = record {
  stays = c.clear_above.ensures.stays;
  keeps = c.clear_above.ensures.keeps;
  kept = λ told image. c.clear_above.ensures.kept told;
  crash = λ told near. c.clear_above.ensures.crash told (λ left i. but_any (newest_of c.args.found.now) _ left (near left i) c.in-Some.other);
}

pub returns-in_ok-clear_above-in-Some-clause-writes : goal.returns-in_ok-clear_above-in-Some-clause-writes
returns-in_ok-clear_above-in-Some-clause-writes g c = record {
  stays = c.clear_above.ensures.stays;
  keeps = c.clear_above.ensures.keeps;
  kept = λ told image. c.clear_above.ensures.kept told;
  crash = λ told near. c.clear_above.ensures.crash told (λ left i. but_any (newest_of c.args.found.now) _ left (near left i) c.in-Some.other);
}

pub returns-in_ok-clear_above-in-Some-clause-wrote : goal.returns-in_ok-clear_above-in-Some-clause-wrote
returns-in_ok-clear_above-in-Some-clause-wrote g c = record {
  found = c.in_ok-clear_above-in-Some.ensures.still_found;
  settled = c.in_ok-clear_above-in-Some.ensures.settled;
  unfailed = c.in_ok-clear_above-in-Some.ensures.unfailed;
}

pub returns-in-None-clause-near : goal.returns-in-None-clause-near
returns-in-None-clause-near g c told near = near

pub returns-in_ok-clear_above-in-Some-clause-near : goal.returns-in_ok-clear_above-in-Some-clause-near
returns-in_ok-clear_above-in-Some-clause-near g c told near = c.in_ok-clear_above-in-Some.ensures.as_found told (λ left i. but_any (newest_of c.args.found.now) _ left (near left i) c.in-Some.other)
