-- Looking through a trie: how far there is to go, and what was found.
use Rattle.std.proofs.Common.{◌≡◌, ◌<◌, ◌≤◌, ℕ, zero, suc, ◌+◌, ◌*◌, ◌-◌, Bool, true, List, [], ◌∷◌, ◌++◌, length, map, Err, sym, ◌∙◌, ap, subst, arith}
use Rattle.std.specs.Prelude.{IsSome}
use Rattle.std.specs.List.{AllByRecursion}
use Rattle.xod_block.specs.declared.address.Address.{Address}
use Rattle.xod_block.specs.Addresses.{number_of}
use Rattle.xod_block.specs.Maps.{RecordsAt, map_at}
use Rattle.xod_block.specs.Records.{Link, rise}
use Rattle.xod_block.proofs.CallerLemmas.{rise-parts}
use Rattle.xod_trie.specs.declared.branch.Branch.{Branch}
use Rattle.xod_trie.specs.Branches.{IsBranch, HaveChildren}
use Rattle.xod_trie.proofs.CallerLemmas.{map-up}
use Rattle.xod_base.specs.Views.{CountsFaults}
use Rattle.xod_trie_mut.specs.declared.stop.Stop.{Stop}
use Rattle.xod_trie_mut.specs.declared.stop.Stop.TheVariants as stop
use Rattle.xod_trie_mut.specs.Stops.{Breaks, CountsStops, IsWanting, StopsBy}
use Rattle.xod_base.specs.declared.causes.ReadError.{ReadError}
use Rattle.xod_base.specs.declared.causes.ReadError.TheVariants.{Device, Damaged, Memory}

-- ---- how far there is to go: less than 257 times what a child has

weight : ℕ → ℕ
weight zero = 1
weight (suc n) = 257 * weight n

pub weights : List Address → ℕ
weights [] = 0
weights (a ∷ list) = weight (number_of a) + weights list

weight-rises : (n : ℕ) → weight n ≤ weight (suc n)
unfolding weight
weight-rises n = omega arith

weight-more : (m k : ℕ) → weight m ≤ weight (m + k)
weight-more m zero = let e : m + 0 ≡ m = omega arith in subst (λ (n : ℕ). weight m ≤ weight n) (sym e) (omega arith)
weight-more m (suc k) = let e : m + suc k ≡ suc (m + k) = omega arith in let h = weight-more m k in let r = weight-rises (m + k) in subst (λ (n : ℕ). weight m ≤ weight n) (sym e) (omega (arith, h, r))

weight-mono : (m n : ℕ) → m ≤ n → weight m ≤ weight n
weight-mono m n le = let e : m + (n - m) ≡ n = omega (arith, le) in subst (λ (k : ℕ). weight m ≤ weight k) e (weight-more m (n - m))

weight-some : (n : ℕ) → 0 < weight n
unfolding weight
weight-some zero = omega arith
weight-some (suc n) = let h = weight-some n in omega (arith, h)

times-more : (k w : ℕ) → k ≤ 256 → k * w ≤ 256 * w
times-more k w le =
    let e : k + (256 - k) ≡ 256 = omega (arith, le) in
    let f : (k + (256 - k)) * w ≡ 256 * w = ap (λ (n : ℕ). n * w) e in
    omega (arith, f)

sum-bound : (w : ℕ) (cs : List Link) → AllByRecursion (λ child. weight (number_of child.1) ≤ w) cs → weights (map (λ (child : Link). child.1) cs) ≤ length cs * w
unfolding weights
sum-bound w [] h = omega arith
sum-bound w (c ∷ cs) h = let r = sum-bound w cs h.1 in let e = h.0 in omega (arith, r, e)

all-weights : (m : ℕ) (cs : List Link) → AllByRecursion (λ child. number_of child.1 < suc m) cs → AllByRecursion (λ child. weight (number_of child.1) ≤ weight m) cs
all-weights m [] h = tt
all-weights m (c ∷ cs) h = (weight-mono (number_of c.1) m (let lt = h.0 in omega (arith, lt)), all-weights m cs h.1)

weights-children : (n : ℕ) (cs : List Link) → AllByRecursion (λ child. number_of child.1 < n) cs → length cs ≤ 256 → weights (map (λ (child : Link). child.1) cs) < weight n
unfolding weight weights
weights-children zero [] h few = omega arith
weights-children zero (c ∷ cs) h few = absurd (let lt = h.0 in omega (arith, lt))
weights-children (suc m) cs h few =
    let b = sum-bound (weight m) cs (all-weights m cs h) in
    let t = times-more (length cs) (weight m) few in
    let p = weight-some m in
    omega (arith, b, t, p)

weights-append : (xs ys : List Address) → weights (xs ++ ys) ≡ weights xs + weights ys
unfolding weights
weights-append [] ys = omega arith
weights-append (x ∷ xs) ys = let r = weights-append xs ys in omega (arith, r)

weights-one : (a : Address) → weights (a ∷ []) ≡ weight (number_of a)
unfolding weights
weights-one a = omega arith

pub weights-smaller : (ups pops more : List Address) (at : Address) (cs : List Link) → ups ≡ pops ++ at ∷ [] → more ≡ pops ++ map (λ (child : Link). child.1) cs → AllByRecursion (λ child. number_of child.1 < number_of at) cs → length cs ≤ 256 → weights more < weights ups
weights-smaller ups pops more at cs e f below few =
    let a = ap weights e ∙ weights-append pops (at ∷ []) in
    let o = weights-one at in
    let b = ap weights f ∙ weights-append pops (map (λ (child : Link). child.1) cs) in
    let w = weights-children (number_of at) cs below few in
    omega (arith, a, o, b, w)

few-from : (c : Link) (cs : List Link) → rise (c ∷ cs) ≡ true → AllByRecursion (λ child. child.0 < 256) (c ∷ cs) → length cs + c.0 ≤ 255
few-from c [] r h = let lt = h.0 in omega (arith, lt)
few-from c (d ∷ cs) r h =
    let p = rise-parts c d cs r in
    let f = few-from d cs p.1 h.1 in
    let lt = p.0 in
    omega (arith, f, lt)

-- bytes that rise are no more than there are
pub few : (cs : List Link) → rise cs ≡ true → AllByRecursion (λ child. child.0 < 256) cs → length cs ≤ 256
few [] r h = omega arith
few (c ∷ cs) r h = let f = few-from c cs r h in omega (arith, f)

-- ---- lists in two parts

pub all-both : {A : Type 0} (P : A → Type 0) (xs ys : List A) → AllByRecursion P xs → AllByRecursion P ys → AllByRecursion P (xs ++ ys)
all-both P [] ys h k = k
all-both P (x ∷ xs) ys h k = (h.0, all-both P xs ys h.1 k)

pub all-parts : {A : Type 0} (P : A → Type 0) (xs ys : List A) → AllByRecursion P (xs ++ ys) → AllByRecursion P xs × AllByRecursion P ys
all-parts P [] ys h = (tt, h)
all-parts P (x ∷ xs) ys h = let r = all-parts P xs ys h.1 in ((h.0, r.0), r.1)

pub all-mapped : (P : Address → Type 0) (cs : List Link) → AllByRecursion (λ child. P child.1) cs → AllByRecursion P (map (λ (child : Link). child.1) cs)
all-mapped P [] h = tt
all-mapped P (c ∷ cs) h = (h.0, all-mapped P cs h.1)

pub all-unmapped : (P : Address → Type 0) (cs : List Link) → AllByRecursion P (map (λ (child : Link). child.1) cs) → AllByRecursion (λ child. P child.1) cs
all-unmapped P [] h = tt
all-unmapped P (c ∷ cs) h = (h.0, all-unmapped P cs h.1)

have-both : (W : RecordsAt) (at : ℕ) (cs : List Link) → AllByRecursion (λ child. number_of child.1 < at) cs → AllByRecursion (λ child. IsSome (map_at W (number_of child.1))) cs → HaveChildren W at cs
have-both W at [] h k = tt
have-both W at (c ∷ cs) h k = (record { lower = h.0; map = k.0 }, have-both W at cs h.1 k.1)

-- ---- from one that waited to its children

pub waits-all : (P : Address → Type 0) (ups pops more : List Address) (at : Address) (cs : List Link) → ups ≡ pops ++ at ∷ [] → more ≡ pops ++ map (λ (child : Link). child.1) cs → AllByRecursion P ups → (P at → AllByRecursion (λ child. P child.1) cs) → AllByRecursion P more
waits-all P ups pops more at cs e f h g =
    let parts = all-parts P pops (at ∷ []) (subst (AllByRecursion P) e h) in
    subst (AllByRecursion P) (sym f) (all-both P pops (map (λ (child : Link). child.1) cs) parts.0 (all-mapped P cs (g parts.1.0)))

pub waited-all : (P : Address → Type 0) (ups pops more : List Address) (at : Address) (cs : List Link) → ups ≡ pops ++ at ∷ [] → more ≡ pops ++ map (λ (child : Link). child.1) cs → AllByRecursion P more → (AllByRecursion (λ child. P child.1) cs → P at) → AllByRecursion P ups
waited-all P ups pops more at cs e f h g =
    let parts = all-parts P pops (map (λ (child : Link). child.1) cs) (subst (AllByRecursion P) f h) in
    subst (AllByRecursion P) (sym e) (all-both P pops (at ∷ []) parts.0 (g (all-unmapped P cs parts.1), tt))

pub map-from : (W : RecordsAt) (at : Address) (b : Branch) → IsBranch (W (number_of at)) b → AllByRecursion (λ child. number_of child.1 < number_of at) b.children → AllByRecursion (λ child. IsSome (map_at W (number_of child.1))) b.children → IsSome (map_at W (number_of at))
map-from W at b here below maps = map-up W (number_of at) b here.is (have-both W (number_of at) b.children below maps)

pub last-waiting : (P : Address → Type 0) (ups pops : List Address) (at : Address) → ups ≡ pops ++ at ∷ [] → AllByRecursion P ups → P at
last-waiting P ups pops at e h = (all-parts P pops (at ∷ []) (subst (AllByRecursion P) e h)).1.0

pub none-waiting : (P : Address → Type 0) (ups : List Address) → length ups ≡ 0 → AllByRecursion P ups
none-waiting P [] e = tt
none-waiting P (a ∷ ups) e = absurd (omega arith)

pub wanting-breaks : (tells : Bool) (R : RecordsAt) (Whole : Type 0) (error : ReadError) → IsWanting error → Breaks tells R Whole error
wanting-breaks tells R Whole Device w = absurd w
wanting-breaks tells R Whole (Damaged place) w = absurd w
wanting-breaks tells R Whole Memory w = tt

pub counts-kept : {A : Type 0} (before now : ℕ) (error : ReadError) → (error ≡ Device → ⊥) → now ≡ before → CountsFaults {A = A} before now (Err error)
counts-kept before now error apart same = record { device = λ e. (let d : error ≡ Device = cc e in absurd (apart d)); memory = λ e. same; ok = tt }

pub counts-read : (A : Type 0) (before now : ℕ) (s : Stop) (error : ReadError) → s ≡ stop.Read error → CountsStops {A = A} before now (Err s) → CountsFaults {A = Unit {0}} before now (Err error)
counts-read A before now s error e h = subst (λ (x : Stop). CountsStops {A = A} before now (Err x)) e h

pub breaks-read : (tells : Bool) (R : RecordsAt) (Whole Fits : Type 0) (s : Stop) (error : ReadError) → s ≡ stop.Read error → StopsBy tells R Whole Fits s → Breaks tells R Whole error
breaks-read tells R Whole Fits s error e h = subst (StopsBy tells R Whole Fits) e h
