-- Branches as records, and links as bytes.
use Rattle.std.proofs.Common.{◌≡◌, ◌<◌, ◌≤◌, ℕ, ◌+◌, ◌^◌, List, [], ◌∷◌, ◌++◌, length, take, get_or, Bool, true, Option, Some, None, slice_get, refl, sym, ◌∙◌, ap, subst, arith}
use Rattle.std.specs.Prelude.{IsTrue}
use Rattle.std.specs.List.{AllByRecursion}
use Rattle.std.proofs.lemmas.Bool.Decides.{nat_tests}
use Rattle.std.proofs.lemmas.Grind.{flat_map-append}
use Rattle.std.proofs.lemmas.List.{append-nil}
use Rattle.std.proofs.lemmas.Option.{slice_get-get_or}
use Rattle.std.proofs.Math.Bridge.{le_prop}
use Rattle.xod_block.specs.declared.address.Address.{Address}
use Rattle.xod_block.specs.Reading.{links_in}
use Rattle.xod_block.specs.Records.{Link, Fits, FitsLink, link_bytes, links_bytes, rise}
use Rattle.xod_block.specs.Seen.{AreLinks}
use Rattle.xod_block.proofs.CallerLemmas.{links_in-links_bytes}
use Rattle.xod_trie.specs.declared.branch.Branch.{Branch}
use Rattle.xod_trie.specs.Branches.{FitsBranch}
use Rattle.xod_trie.proofs.CallerLemmas.{take_one_more}
use Rattle.xod_trie_mut.specs.declared.block.Block.{Block}
use Rattle.xod_trie_mut.specs.Keeps.{CanPut, with_children}
use Rattle.xod_trie_mut.specs.Own.{are_enough, record_by}
use Rattle.xod_trie_mut.proofs.SavingBytes.{bytes-same, few, length-same, rise-same}
use Rattle.xod_trie_mut.proofs.SavingStacks.{all-append}

-- ---- links

pub link-here : (cs : List Link) (index : ℕ) (a b : Link) (at : Address) → index < length cs → (get_or cs index b).1 ≡ at → slice_get cs index ≡ Some ((get_or cs index a).0, at)
link-here cs index a b at lt e =
    let x = get_or cs index a in
    let y = get_or cs index b in
    let one : slice_get cs index ≡ Some x = slice_get-get_or cs index a lt in
    let other : slice_get cs index ≡ Some y = slice_get-get_or cs index b lt in
    let same : x ≡ y = cc (one, other) in
    let here : x.1 ≡ at = ap (λ (l : Link). l.1) same ∙ e in
    one ∙ ap (λ (a : Address). Some (x.0, a)) here

pub links-more : (cs : List Link) (index : ℕ) (link : Link) (old new : List ℕ) → slice_get cs index ≡ Some link → old ≡ links_bytes (take index cs) → new ≡ old ++ link_bytes link → new ≡ links_bytes (take (index + 1) cs)
links-more cs index link old new get was put =
    put
    ∙ ap (λ (l : List ℕ). l ++ link_bytes link) was
    ∙ ap (λ (l : List ℕ). links_bytes (take index cs) ++ l) (sym (append-nil (link_bytes link)))
    ∙ sym (flat_map-append link_bytes (take index cs) (link ∷ []))
    ∙ ap links_bytes (sym (take_one_more cs index link get))

pub fits-more : (cs : List Link) (index : ℕ) (link : Link) → slice_get cs index ≡ Some link → AllByRecursion FitsLink (take index cs) → FitsLink link → AllByRecursion FitsLink (take (index + 1) cs)
fits-more cs index link get all one = subst (AllByRecursion FitsLink) (sym (take_one_more cs index link get)) (all-append FitsLink (take index cs) (link ∷ []) all (one, tt))

pub links-back : (cs : List Link) (raw : List ℕ) → raw ≡ links_bytes cs → AllByRecursion FitsLink cs → links_in raw ≡ cs
links-back cs raw e fits = ap links_in e ∙ links_in-links_bytes cs fits

pub links-whole : (cs : List Link) (raw : List ℕ) → raw ≡ links_bytes cs → AllByRecursion FitsLink cs → AreLinks raw
links-whole cs raw e fits = e ∙ ap links_bytes (sym (links-back cs raw e fits))

-- ---- branches

enough-two : (v : Option (List ℕ)) (n : ℕ) → IsTrue (are_enough v n) → v ≡ None → 2 ≤ n
enough-two None n e none = grind (arith, nat_tests)
enough-two (Some v) n e none = absurd cc

pub branch-fits : (names : Address → Bool) (b : Branch) (cs : List Link) → CanPut names b cs → AllByRecursion FitsLink cs → FitsBranch (with_children b cs)
branch-fits names b cs can each =
    let rising : rise cs ≡ true = rise-same cs b.children can.bytes ∙ can.parts.rising in
    let same = length-same cs b.children can.bytes in
    record {
      key_fits = can.parts.key_fits;
      value_fits = can.parts.value_fits;
      enough = λ none. let two = enough-two b.value (length b.children) can.enough none in omega (arith, two, same);
      few = few cs (bytes-same cs b.children can.bytes can.parts.bytes) rising;
      each = each;
      rising = rising;
    }

pub record-fits : (key : List ℕ) (v : Option (List ℕ)) (cs : List Link) → FitsBranch (record { key = key; value = v; children = cs }) → Fits (record_by key v cs)
record-fits key None cs f = record { key_fits = f.key_fits; value_fits = tt; enough = f.enough refl; few = f.few; each = f.each; rising = f.rising }
record-fits key (Some v) [] f = record { key_fits = f.key_fits; value_fits = f.value_fits }
record-fits key (Some v) (c ∷ cs) f = record { key_fits = f.key_fits; value_fits = f.value_fits; enough = omega arith; few = f.few; each = f.each; rising = f.rising }

-- ---- blocks

abbrev pub made : (start : Address) → List ℕ → start.at < 2 ^ 63 → Block
made start bytes small = record { start = start; bytes = bytes; small = small }

pub block-is : (start : Address) (a b : List ℕ) (s t : start.at < 2 ^ 63) → a ≡ b → made start a s ≡ made start b t
block-is start a b s t e =
    ap (λ (bytes : List ℕ). made start bytes s) e ∙ ap (made start b) (le_prop s t)
